-- What is taken of a text that comes piece by piece.
use Rattle.std.specs.Prelude.{◌≡◌, ℕ, ◌≤◌, Bool, true, false, List, ◌++◌, length, take, drop, Option}
use Rattle.cut_frames.specs.declared.cutter.Cutter.{Cutter}
use Rattle.cut_frames.specs.declared.cutter.Fed.{Fed}
use Rattle.cut_frames.specs.declared.step.Place.{Place}
use Rattle.cut_frames.specs.Frames.{IsHeld, IsWrong, Stands}

-- why no more is taken of the text: it goes on as no frame does, or more is to come before anything can be taken
abbrev pub StopsAt : Bool → Place → List ℕ → Type 0
StopsAt true place text = IsWrong place text
StopsAt false place text = IsHeld place text

-- so many bytes of the text behind a place were taken and these were given, wherever a reader stood there; and why no more
pub record IsTaken (wanted : Option ℕ) (place : Place) (text : List ℕ) (fed : Fed) (next : Place) : Type 0 where
  pub few : fed.taken ≤ length text
  pub onward : (front given : List ℕ) → Stands wanted place front given → Stands wanted next (front ++ take fed.taken text) (given ++ fed.given.items)
  pub why : StopsAt fed.refused next (drop fed.taken text)

-- the same of what was held and the piece, of which the rest is held
pub record IsFed (old new : Cutter) (piece : List ℕ) (fed : Fed) : Type 0 where
  pub wanted : new.wanted ≡ old.wanted
  pub taken : IsTaken old.wanted old.place (old.held.items ++ piece) fed new.place
  pub held : new.held.items ≡ drop fed.taken (old.held.items ++ piece)
