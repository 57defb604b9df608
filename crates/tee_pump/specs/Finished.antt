-- What a tee leaves that has come to its end.
use Rattle.std.specs.Prelude.{◌≡◌, ◌⊎◌, ℕ, ◌+◌, ◌<◌, true, cond, List, ◌++◌, map, length, Option, IfSome, is_some, option_to_list}
use Rattle.std.specs.List.{AllByRecursion}
use Rattle.chunk_core.specs.Elements.{Element, rendering_of}
use Rattle.chunk_core.specs.Feed.{Meaning}
use Rattle.chunk_core.specs.Outcomes.{Cut, Done, End}
use Rattle.chunk_core.specs.Texts.{Frame, IsRestOf, frames_text}
use Rattle.chunk_core.specs.Totals.{IsAt}
use Rattle.chunk_core.specs.declared.code.How.{How}
use Rattle.chunk_core.specs.declared.code.How.TheVariants as how
use Rattle.device_port.specs.Sink.{SinkTold, with_bytes}
use Rattle.pull_nodes.specs.Plain.{IsFront}
use Rattle.run_rules.specs.Facts.{IsOver}
use Rattle.run_rules.specs.Outputs.{elements_in_pieces, payloads_by}
use Rattle.tee_branches.specs.Messages.{IsSaidOf, gives}
use Rattle.tee_prints.specs.Printed.{IsStop}
use Rattle.tee_pump.specs.Stopping.{IsEarly}
use Rattle.tee_pump.specs.declared.ended.TeeEnd.{TeeEnd}

-- a branch took a front of what was given, and was left; or all of it, and the end of a reader that was done
pub record IsInputOf (given : List Element) (reader : How) (xs : List Element) (e : End) : Type 0 where
  pub front : IsFront xs given
  pub ended : (e ≡ Cut) ⊎ ((e ≡ Done) × (reader ≡ how.Done) × (xs ≡ given))

-- each frame of branch i renders a piece of what its pipe gives of its input: all of it, or a front where it was stopped
pub record IsPrintedOf (given : List Element) (reader : How) (F : List Frame) (i : ℕ) (m : Meaning) (h : How) : Type 0 where
  pub input : List Element
  pub end : End
  pub is_input : IsInputOf given reader input end
  pub pieces : List (List Element)
  pub frames : payloads_by i F ≡ map rendering_of pieces
  pub printed : IsSaidOf h end (gives m input end) (elements_in_pieces pieces)

-- a write failed, or one of the ends is a fault or want of memory
abbrev pub IsCause : TeeEnd → Type 0
IsCause t = (t.broken ≡ true) ⊎ ((i : ℕ) × (h : How) × IsAt t.ends.items i h × IsStop h)

-- Of what was given by a reader that ended so each branch printed what its pipe gives of a front, as far as it went, and the ends are told in order. What was
-- begun of a frame whose write failed counts as printed, and its branch is told neither as done nor as one that found a fault.
pub record IsFinished (ms : List Meaning) (given : List Element) (reader : How) (old new : SinkTold) (t : TeeEnd) : Type 0 where
  pub frames : List Frame
  pub cut : Option Frame
  pub rest : List ℕ
  pub broke : is_some cut ≡ t.broken
  pub front : IsRestOf cut rest
  pub wrote : new ≡ record (with_bytes old (frames_text frames ++ rest)) { faults = cond t.broken (old.faults + 1) old.faults }
  pub numbers : AllByRecursion (λ f. (f.stream < length ms) × (0 < length f.payload)) (frames ++ option_to_list cut)
  pub count : length t.ends.items ≡ length ms
  pub branches : (i : ℕ) (m : Meaning) (h : How) → IsAt ms i m → IsAt t.ends.items i h → IsPrintedOf given reader (frames ++ option_to_list cut) i m h
  pub cut_branch : IfSome cut (λ f. (h : How) → IsAt t.ends.items f.stream h → ¬ (IsOver h))
  pub halted : (i : ℕ) → IsAt t.ends.items i how.Halted → IsCause t ⊎ IsEarly reader
