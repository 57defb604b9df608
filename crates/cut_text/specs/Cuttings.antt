-- What is read, and what is passed on.
use Rattle.std.specs.Prelude.{◌≡◌, ℕ, ◌+◌, ◌*◌, ◌≤◌, ◌^◌, ◌&&◌, nat_eq, List, [], ◌++◌, length, take, get_or, true, false, Option, IfSome, Result, Ok, Err}
use Rattle.device_port.specs.Sink.{SinkTold, with_bytes, BreaksOff}
use Rattle.device_port.specs.Source.{SourceTold, without_front}
use Rattle.source_input.specs.Input.{IsRead}
use Rattle.cut_frames.specs.declared.cutter.Cutter.{Cutter}
use Rattle.cut_frames.specs.declared.cutter.Fed.{Fed}
use Rattle.cut_text.specs.declared.run.CutEnd.{CutEnd}
use Rattle.cut_text.specs.declared.run.CutEnd.TheVariants as end
use Rattle.cut_frames.specs.declared.step.Place.{Place}
use Rattle.cut_frames.specs.declared.step.Place.TheVariants.{Between, Within}
use Rattle.cut_frames.specs.Frames.{IsDigit, IsHeld, IsWrong, Stands}
use Rattle.cut_frames.specs.Taken.{IsFed}
use Rattle.cut_text.specs.Tails.{IsJudged}

-- as many pieces are read at most, and as many bytes
abbrev pub most_pieces : ℕ
most_pieces = 2 ^ 50

abbrev pub most_read : ℕ
most_read = 4096 * most_pieces

-- the source gave these bytes
pub record Gave (old new : SourceTold) (bytes : List ℕ) : Type 0 where
  pub told : new ≡ record (without_front (length bytes) old) { ended = nat_eq (length bytes) 0 && old.ended }
  pub given : IfSome old.left (λ left. bytes ≡ take (length bytes) left)

-- of the text a front was taken, and what it gives stands in the output; the rest stands behind the place
pub record Passes (wanted : Option ℕ) (o p : SinkTold) (text : List ℕ) (place : Place) (rest : List ℕ) : Type 0 where
  pub front : List ℕ
  pub given : List ℕ
  pub is : text ≡ front ++ rest
  pub stands : Stands wanted place front given
  pub out : p ≡ with_bytes o given

-- a write of what a front gives failed
pub record FailsToPass (wanted : Option ℕ) (o p : SinkTold) (text : List ℕ) : Type 0 where
  pub front : List ℕ
  pub given : List ℕ
  pub rest : List ℕ
  pub place : Place
  pub is : text ≡ front ++ rest
  pub stands : Stands wanted place front given
  pub out : BreaksOff o p given

-- behind so many bytes, whose payloads stand in the output, the text goes on as no frame does
abbrev pub GoesWrong : Option ℕ → SinkTold → SinkTold → List ℕ → ℕ → Type 0
GoesWrong wanted o p text at = (place : Place) × (rest : List ℕ) × Passes wanted o p text place rest × IsWrong place rest × (at + length rest ≡ length text)

-- the text ended within a frame: behind a head, or within its digits
abbrev pub IsCutFrame : Place → List ℕ → Type 0
IsCutFrame Between rest = IsDigit (get_or rest 0 0) × IsHeld Between rest
IsCutFrame (Within left gives) rest = rest ≡ []

-- What was read of the source, from s to t, what was written of the payloads, from o to p, and of the tail, from q to r.
abbrev pub IsCutting : Option ℕ → SourceTold → SourceTold → SinkTold → SinkTold → SinkTold → SinkTold → CutEnd → Type 0
IsCutting wanted s t o p q r (end.Tail e) =
    (text tail : List ℕ) × IsRead most_read s t text × Passes wanted o p text Between tail × ¬ (IsDigit (get_or tail 0 0)) × IsJudged tail e × (r ≡ with_bytes q tail)
IsCutting wanted s t o p q r end.CutFrame =
    (text rest : List ℕ) × (place : Place) × IsRead most_read s t text × Passes wanted o p text place rest × IsCutFrame place rest × (r ≡ q)
IsCutting wanted s t o p q r (end.BadByte at) = (text : List ℕ) × Gave s t text × GoesWrong wanted o p text at × (r ≡ q)
IsCutting wanted s t o p q r end.Unread = (text rest : List ℕ) × (place : Place) × (mid : SourceTold) × Gave s mid text × (t ≡ record mid { faults = mid.faults + 1 }) × Passes wanted o p text place rest × (r ≡ q)
IsCutting wanted s t o p q r end.NotWritten = (text : List ℕ) × Gave s t text × FailsToPass wanted o p text × (r ≡ q)
IsCutting wanted s t o p q r end.NotTold = (text tail : List ℕ) × IsRead most_read s t text × Passes wanted o p text Between tail × BreaksOff q r tail
IsCutting wanted s t o p q r end.TooLong = (text rest : List ℕ) × (place : Place) × Gave s t text × Passes wanted o p text place rest × (most_pieces ≤ length text) × (r ≡ q)
IsCutting wanted s t o p q r end.Memory = (text rest : List ℕ) × (place : Place) × Gave s t text × Passes wanted o p text place rest × (r ≡ q)

-- what one more piece gave was passed on, and so many bytes were taken; or why it wasn't
abbrev pub PassesPiece : Cutter → Cutter → List ℕ → ℕ → SinkTold → SinkTold → Result ℕ CutEnd → Type 0
PassesPiece old new piece passed o p (Ok n) = (fed : Fed) × IsFed old new piece fed × (fed.refused ≡ false) × (fed.taken ≡ n) × (p ≡ with_bytes o fed.given.items)
PassesPiece old new piece passed o p (Err (end.BadByte at)) = (fed : Fed) × IsFed old new piece fed × (fed.refused ≡ true) × (passed + fed.taken ≡ at) × (p ≡ with_bytes o fed.given.items)
PassesPiece old new piece passed o p (Err end.NotWritten) = (fed : Fed) × IsFed old new piece fed × BreaksOff o p fed.given.items
PassesPiece old new piece passed o p (Err end.Memory) = p ≡ o
PassesPiece old new piece passed o p (Err e) = ⊥

-- the payloads were passed on until the source ended, where more was to come before anything could be taken; or why not
abbrev pub PassesAll : Option ℕ → SourceTold → SourceTold → SinkTold → SinkTold → Cutter → Result Unit CutEnd → Type 0
PassesAll wanted s t o p c (Ok u) = (text : List ℕ) × IsRead most_read s t text × Passes wanted o p text c.place c.held.items × IsHeld c.place c.held.items
PassesAll wanted s t o p c (Err (end.Tail e)) = ⊥
PassesAll wanted s t o p c (Err end.CutFrame) = ⊥
PassesAll wanted s t o p c (Err end.NotTold) = ⊥
PassesAll wanted s t o p c (Err e) = (q : SinkTold) → IsCutting wanted s t o p q q e

-- what stands behind the frames was told; or why not
abbrev pub Tells : Place → List ℕ → SinkTold → SinkTold → CutEnd → Type 0
Tells place rest q r (end.Tail e) = (place ≡ Between) × ¬ (IsDigit (get_or rest 0 0)) × IsJudged rest e × (r ≡ with_bytes q rest)
Tells place rest q r end.CutFrame = IsCutFrame place rest × (r ≡ q)
Tells place rest q r end.NotTold = (place ≡ Between) × BreaksOff q r rest
Tells place rest q r e = ⊥
