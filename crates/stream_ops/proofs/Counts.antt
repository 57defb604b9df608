-- What a pipe that counts answers at the end.
use Rattle.std.proofs.Common.{◌≡◌, ℕ, ◌<◌, true, cond, List, [], ◌∷◌, ◌++◌, map, length, decimal, refl, ap, ◌∙◌, sym, arith}
use Rattle.chunk_core.specs.Elements.{Element, Line}
use Rattle.chunk_core.specs.Elements.LoadKind.{Lines}
use Rattle.chunk_core.specs.Feed.{Meaning, Finishes}
use Rattle.chunk_core.specs.declared.feed.Fed.TheVariants as fed
use Rattle.chunk_core.specs.declared.load.Load.TheVariants as load
use Rattle.pull_nodes.specs.Pipes.{IsMeaningOf}
use Rattle.pull_nodes.specs.Count.{count_line}
use Rattle.pull_nodes.specs.declared.pipe.Pipe.TheVariants as pipe
use Rattle.pull_nodes.proofs.Meanings.{meaning_is, finishes_from}
use Rattle.stream_ops.specs.CountState.{StandsFor, Comes}
use Rattle.stream_ops.specs.declared.count.CountPipe.{CountPipe}

gives_lines : (m : Meaning) → IsMeaningOf pipe.Count m → m.gives ≡ Lines
gives_lines m h = let e = (meaning_is pipe.Count m h).1 in (cc)

-- the line of the number, and then the end
pub count_finishes : (a b : CountPipe) (lines : List (List ℕ)) → lines ≡ decimal a.count ∷ [] → b.told ≡ true
    → (m : Meaning) (xs : List Element) → StandsFor a m xs → Finishes m xs (fed.Out (load.Lines lines)) (Comes b m.gives)
count_finishes a b lines is told m xs (h, untold, count) =
    let kind = gives_lines m h in
    let line : lines ≡ count_line xs ∷ [] = is ∙ ap (λ n. decimal n ∷ []) count in
    let none : [] ≡ cond b.told [] (Line (decimal b.count) ∷ []) = rw told refl in
    let whole : Line (count_line xs) ∷ [] ≡ map Line lines ++ [] = rw line refl in
    let some : 0 < length (map Line lines) = rw line (omega arith) in
    finishes_from pipe.Count m h xs (Line (count_line xs) ∷ []) (fed.Out (load.Lines lines)) (Comes b m.gives) refl
    (sym kind, some, [], whole, (kind, none, refl))
