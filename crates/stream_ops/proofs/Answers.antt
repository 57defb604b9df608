-- Answers of pipes that take lines alone and give lines.
use Rattle.std.proofs.Common.{◌≡◌, ℕ, List, ◌++◌, map, Some, None, ap, sym, ◌∙◌}
use Rattle.chunk_core.specs.Elements.{Element, Line}
use Rattle.chunk_core.specs.Elements.LoadKind.{Lines}
use Rattle.chunk_core.specs.Feed.{Meaning, Extends}
use Rattle.chunk_core.specs.declared.load.Load.TheVariants as load
use Rattle.pull_nodes.specs.PipeKinds.{gives_of}
use Rattle.pull_nodes.specs.PipeRule.{from_lines}
use Rattle.pull_nodes.specs.Pipes.{IsMeaningOf, part_of}
use Rattle.chunk_core.specs.Tables.{no_values}
use Rattle.pull_nodes.specs.declared.pipe.Pipe.{Pipe}
use Rattle.pull_nodes.proofs.Meanings.{meaning_is, from_lines-some, extends_from}

pub lines_extend : (p : Pipe) (m : Meaning) → IsMeaningOf p m → gives_of p m.takes ≡ from_lines Lines m.takes → (xs ys : List Element) (lines : List (List ℕ))
    → (part_of no_values p xs).list ++ map Line lines ≡ (part_of no_values p (xs ++ ys)).list → (part_of no_values p (xs ++ ys)).fault ≡ None → Extends m xs ys (load.Lines lines) None
lines_extend p m h of xs ys lines list fault =
    let gives = (meaning_is p m h).1 in
    let kind : gives_of p m.takes ≡ Some Lines = gives ∙ ap (λ k. Some k) (from_lines-some Lines m.takes m.gives (sym of ∙ gives)).1 in
    extends_from p m h xs ys (load.Lines lines) None kind list fault
