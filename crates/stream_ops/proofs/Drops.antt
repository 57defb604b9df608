-- What a pipe that passes over elements answers.
use Rattle.std.proofs.Common.{◌≡◌, ◌-◌, List, ◌++◌, length, drop, Some, None, refl, ap, ◌∙◌, arith, length-append}
use Rattle.chunk_core.specs.Elements.{Element, elements, kind_of}
use Rattle.chunk_core.specs.Feed.{Meaning, Feeds}
use Rattle.chunk_core.specs.declared.feed.Fed.TheVariants as fed
use Rattle.chunk_core.specs.declared.load.Load.{Load}
use Rattle.pull_nodes.specs.declared.pipe.Pipe.TheVariants as pipe
use Rattle.pull_nodes.proofs.Meanings.{extends_from}
use Rattle.stream_ops.specs.DropState.{StandsFor}
use Rattle.stream_ops.specs.declared.drop.DropPipe.{DropPipe}
use Rattle.stream_ops.proofs.Cuts.{drop-append}

-- the load is what is left of the one that came, and so many fewer are passed over from now on
pub drop_feeds : (a b : DropPipe) (came load : Load) → elements load ≡ drop a.left (elements came) → kind_of load ≡ kind_of came → b.left ≡ a.left - length (elements came)
    → (m : Meaning) (xs : List Element) → StandsFor a m xs → m.takes ≡ kind_of came → Feeds m xs (elements came) (fed.Out load) (StandsFor b m)
drop_feeds a b came load rest kind less m xs (n, h, left) takes =
    let ys = elements came in
    let list : drop n xs ++ elements load ≡ drop n (xs ++ ys) = ap (λ l. drop n xs ++ l) (rest ∙ ap (λ k. drop k ys) left) ∙ drop-append n xs ys in
    let fewer : b.left ≡ n - length (xs ++ ys) = omega (arith, length-append xs ys) in
    let same : Some m.takes ≡ Some (kind_of load) = (cc) in
    (extends_from (pipe.Drop n) m h xs ys load None same list refl, (n, h, fewer))
