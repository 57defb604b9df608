-- Lines behind their numbers.
use Rattle.std.proofs.Common.{◌≡◌, ℕ, ◌+◌, ◌<◌, ◌-◌, ◌^◌, min, List, [], ◌∷◌, ◌++◌, map, length, get_or, take, None, decimal, refl, ap, sym, ◌∙◌, arith, length-append}
use Rattle.std.specs.List.{enumerate_from}
use Rattle.std.proofs.lemmas.List.{map-append, take_more, length-take, length-map}
use Rattle.chunk_core.specs.Elements.{Element, Line}
use Rattle.chunk_core.specs.Feed.{Meaning, Extends}
use Rattle.chunk_core.specs.declared.load.Load.TheVariants as load
use Rattle.pull_nodes.specs.Pipes.{IsMeaningOf}
use Rattle.pull_nodes.specs.Number.{with_number}
use Rattle.pull_nodes.specs.Plain.{capped_number}
use Rattle.pull_nodes.specs.declared.pipe.Pipe.TheVariants as pipe
use Rattle.stream_ops.proofs.Answers.{lines_extend}

-- each line behind its number from k
abbrev pub numbered_from : ℕ → List Element → List Element
numbered_from k xs = map with_number (enumerate_from k xs)

numbered_from-append : (k : ℕ) (xs ys : List Element) → numbered_from k (xs ++ ys) ≡ numbered_from k xs ++ numbered_from (k + length xs) ys
numbered_from-append k [] ys = let same : k ≡ k + 0 = omega arith in ap (λ n. numbered_from n ys) same
numbered_from-append k (x ∷ xs) ys =
    let same : k + 1 + length xs ≡ k + length (x ∷ xs) = omega arith in
    ap (λ l. with_number (k, x) ∷ l) (numbered_from-append (k + 1) xs ys ∙ ap (λ n. numbered_from (k + 1) xs ++ numbered_from n ys) same)

-- one line more was given
pub number_more : (k i n : ℕ) (lines : List (List ℕ)) (line out : List ℕ) (old new : List (List ℕ)) → i < length lines → line ≡ get_or lines i line → out ≡ decimal n ++ 32 ∷ line → n ≡ capped_number (k + i)
    → new ≡ old ++ out ∷ [] → map Line old ≡ numbered_from k (map Line (take i lines)) → map Line new ≡ numbered_from k (map Line (take (i + 1) lines))
number_more k i n lines line out old new within is text number e before =
    let front = map Line (take i lines) in
    let len : length front ≡ i = simp (length-map, length-take) (omega arith) in
    let more : map Line (take (i + 1) lines) ≡ front ++ Line line ∷ [] = rw (take_more lines i line within, ← is, map-append) refl in
    let last : Line out ∷ [] ≡ numbered_from (k + length front) (Line line ∷ []) = rw (len, text, number) refl in
    ap (map Line) e ∙ (map-append Line old (out ∷ []) ∙ ((λ j. before j ++ last j) ∙ (sym (numbered_from-append k front (Line line ∷ [])) ∙ ap (numbered_from k) (sym more))))

pub number_feeds : (first : ℕ) (lines given : List (List ℕ)) (came : List Element) → came ≡ map Line lines
    → ((k : ℕ) → first ≡ capped_number k → map Line given ≡ numbered_from k (map Line lines))
    → (m : Meaning) (xs : List Element) → IsMeaningOf pipe.Number m → first ≡ capped_number (length xs) → Extends m xs came (load.Lines given) None
number_feeds first lines given came are gives m xs h at =
    let new : map Line given ≡ numbered_from (0 + length xs) came = gives (0 + length xs) (omega arith) ∙ ap (numbered_from (0 + length xs)) (sym are) in
    lines_extend pipe.Number m h refl xs came given (ap (λ l. numbered_from 0 xs ++ l) new ∙ sym (numbered_from-append 0 xs came)) refl

-- how many lines came, with those of a load
pub number_next : (first next n : ℕ) (lines : List (List ℕ)) (xs came : List Element) → came ≡ map Line lines → first ≡ capped_number (length xs)
    → n ≡ length lines → next ≡ min (first + n) (2 ^ 64 - 1) → next ≡ capped_number (length (xs ++ came))
number_next first next n lines xs came are at len more = omega (arith, length-append xs came, ap length are, length-map {A = List ℕ} {B = Element} lines (λ l. Line l))
