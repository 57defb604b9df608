-- What holds of the runs of every node, and of what every pipe gives.
use Rattle.std.specs.Prelude.{◌≡◌, ◌↔◌, ℕ, true, List, ◌++◌, length, Some, IfSome}
use Rattle.chunk_core.specs.Elements.{Element}
use Rattle.chunk_core.specs.Feed.{Meaning}
use Rattle.chunk_core.specs.Outcomes.{End, Cut}
use Rattle.chunk_core.specs.Tables.{Values}
use Rattle.chunk_core.specs.declared.code.Code.TheVariants as code
use Rattle.device_port.specs.Device.{DeviceTold}
use Rattle.pull_nodes.specs.Changes.{same_element}
use Rattle.pull_nodes.specs.Laws.{IsSteady}
use Rattle.pull_nodes.specs.Lines.{IsFree, lines_part}
use Rattle.pull_nodes.specs.Pipes.{IsMeaningOver}
use Rattle.pull_nodes.specs.Runs.{IsRun, IsIdealRun}
use Rattle.pull_nodes.specs.Shape.{EachRead, EachWrite, HasNoMerge}
use Rattle.pull_nodes.specs.Utf8.{IsMalformed, is_malformed, utf8_rest}
use Rattle.pull_nodes.specs.declared.node.Node.{Node}
use Rattle.pull_nodes.specs.declared.pipe.Pipe.{Pipe}

-- a front of what a run gives is what a run gives that was left
abbrev pub CanBeLeft : Type 0
CanBeLeft = (t : Values) (w : ℕ → DeviceTold) (n : Node) (ys more : List Element) (e : End) → IsRun t w n (ys ++ more) e → IsRun t w n ys Cut

-- both tell this content
abbrev pub TellSame : DeviceTold → DeviceTold → Type 0
TellSame d e = (content : List ℕ) × (d.content ≡ Some content) × (e.content ≡ Some content)

-- at each place that the node reads, both tell the same content
abbrev pub TellSameOf : (ℕ → DeviceTold) → (ℕ → DeviceTold) → Node → Type 0
TellSameOf v w n = EachRead (λ p. TellSame (v p) (w p)) n

-- at each place that the node writes, the same was written, where both tell it
abbrev pub WroteSameOf : (ℕ → DeviceTold) → (ℕ → DeviceTold) → Node → Type 0
WroteSameOf v w n = EachWrite (λ p. IfSome (v p).written (λ bytes. IfSome (w p).written (λ others. bytes ≡ others))) n

-- two ideal runs give the same, end alike and write the same
pub record IsSameRun (v w : ℕ → DeviceTold) (n : Node) (xs ys : List Element) (e g : End) : Type 0 where
  pub list : xs ≡ ys
  pub end : e ≡ g
  pub wrote : WroteSameOf v w n

-- two ideal runs of a node without a merge, over the same contents, are one
abbrev pub HasOneIdealRun : Type 0
HasOneIdealRun =
    (t : Values) (v w : ℕ → DeviceTold) (n : Node) (xs ys : List Element) (e g : End) → HasNoMerge n → TellSameOf v w n
    → IsIdealRun t v n xs e → IsIdealRun t w n ys g → IsSameRun v w n xs ys e g

-- at each place that the node writes, the same was written, or neither tells it
abbrev pub TellWrittenSame : (ℕ → DeviceTold) → (ℕ → DeviceTold) → Node → Type 0
TellWrittenSame v w n = EachWrite (λ p. (v p).written ≡ (w p).written) n

-- an ideal run is told by the contents and by what was written alone: whether a device was opened, and how far it was read, makes no difference,
-- so that a part that never ran, and whose devices were never opened, has the runs that it would have had
abbrev pub IsToldByContents : Type 0
IsToldByContents =
    (t : Values) (v w : ℕ → DeviceTold) (n : Node) (ys : List Element) (e : End) → TellSameOf v w n → TellWrittenSame v w n
    → IsIdealRun t v n ys e → IsIdealRun t w n ys e

-- each pipe is so at each kind that it takes, whatever the tables have
abbrev pub PipesAreSteady : Type 0
PipesAreSteady = (t : Values) (p : Pipe) (m : Meaning) → IsMeaningOver t p m → IsSteady m

-- what the standard library says of the bytes behind the longest well-formed front is that no continuation makes them well formed
abbrev pub TellsMalformed : Type 0
TellsMalformed = (xs : List ℕ) → (is_malformed (utf8_rest xs) ≡ true) ↔ IsMalformed (utf8_rest xs)

-- the test of two elements is that they are equal
abbrev pub ComparesElements : Type 0
ComparesElements = (x y : Element) → (same_element x y ≡ true) ↔ (x ≡ y)

-- so many bytes stand in succession without a line end
pub record HasRun (xs : List ℕ) : Type 0 where
  pub before : List ℕ
  pub run : List ℕ
  pub after : List ℕ
  pub whole : xs ≡ before ++ (run ++ after)
  pub long : length run ≡ 1048577
  pub free : IsFree run

-- a line is too long exactly where 1,048,577 bytes stand in succession without a line end
abbrev pub TellsLongLines : Type 0
TellsLongLines = (xs : List ℕ) → ((lines_part xs).fault ≡ Some code.LongLine) ↔ HasRun xs
