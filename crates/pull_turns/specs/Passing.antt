-- What a pipe does in a turn.
use Rattle.std.specs.Prelude.{◌≡◌, ℕ, zero, suc, List, length, Option}
use Rattle.chunk_core.specs.declared.code.Code.{Code}
use Rattle.chunk_core.specs.declared.feed.Fed.{Fed}
use Rattle.chunk_core.specs.declared.feed.Fed.TheVariants as fed
use Rattle.chunk_core.specs.declared.load.Load.{Load}
use Rattle.chunk_core.specs.Elements.{Element, LoadKind, elements, kind_of}
use Rattle.chunk_core.specs.Feed.{Meaning, Feeds, Finishes, Continues}
use Rattle.pull_turns.specs.Piping.{StateMeaning}
use Rattle.pull_turns.specs.Moves.{giving}
use Rattle.pull_turns.specs.declared.piping.After.{After}
use Rattle.pull_turns.specs.declared.piping.After.TheVariants as after
use Rattle.pull_turns.specs.declared.rest.Rest.{Rest}
use Rattle.pull_turns.specs.declared.rest.Rest.TheVariants.{Through', Finishing, Faulty}
use Rattle.pull_turns.specs.declared.turn.Turn.{Turn}
use Rattle.pull_turns.specs.declared.turn.Turn.TheVariants as turn

abbrev pub load_or_fault : ℕ → Load → Code → Turn
load_or_fault zero l c = turn.Fault c
load_or_fault (suc n) l c = turn.Chunk l

-- the turn of a pipe that answered so: an empty load isn't given, and a fault comes in a turn of its own where a load comes before it
abbrev pub turn_of_fed : Fed → Turn
turn_of_fed (fed.Out l) = giving l
turn_of_fed fed.End = turn.Done
turn_of_fed (fed.Fault l c) = load_or_fault (length (elements l)) l c

abbrev pub same_or_faulty : ℕ → Code → After
same_or_faulty zero c = after.Same
same_or_faulty (suc n) c = after.Faulty c

-- what becomes of a pipe that answered so, where it goes on as told
abbrev pub after_fed : Fed → After → After
after_fed (fed.Out l) a = a
after_fed fed.End a = after.Same
after_fed (fed.Fault l c) a = same_or_faulty (length (elements l)) c

module _ {F : Type 0} where
  -- what is left of a pipe whose input has ended
  abbrev pub finishing : Rest F → Rest F
  finishing (Through' _ a q) = Finishing q
  finishing r = r

  -- what is left of a pipe
  abbrev pub after_pipe : After → Rest F → Rest F
  after_pipe after.Same r = r
  after_pipe after.Finishing r = finishing r
  after_pipe (after.Faulty c) r = Faulty c

module _ {F : Type 0} (P : StateMeaning F) where
  -- the input has ended or had ended before, and the pipe gave the next of what is still to come
  pub record PipeGaveMore (old new : F) (t : Turn) (a : After) : Type 0 where
    pub answer : Fed
    pub turn : t ≡ turn_of_fed answer
    pub after : a ≡ after_fed answer after.Finishing
    pub first : (m : Meaning) (xs : List Element) → P.stands old m xs → Finishes m xs answer (P.comes new m.gives)
    pub next : (k : LoadKind) (ys : List Element) (c : Option Code) → P.comes old k ys c → Continues k ys c answer (P.comes new k)

  -- the pipe was fed this load
  pub record IsFed (old new : F) (l : Load) (t : Turn) (a : After) : Type 0 where
    pub answer : Fed
    pub turn : t ≡ turn_of_fed answer
    pub after : a ≡ after_fed answer after.Same
    pub feeds : (m : Meaning) (xs : List Element) → P.stands old m xs → m.takes ≡ kind_of l → Feeds m xs (elements l) answer (P.stands new m)

  -- what a pipe makes of the turn of what is below it: a load is fed to it, at the end it gives what it held back, and at a fault nothing
  abbrev pub Passes : F → F → Turn → Turn → After → Type 0
  Passes old new (turn.Chunk l) t a = IsFed old new l t a
  Passes old new turn.Quiet t a = (new ≡ old) × (t ≡ turn.Quiet) × (a ≡ after.Same)
  Passes old new turn.Done t a = PipeGaveMore old new t a
  Passes old new (turn.Fault c) t a = (new ≡ old) × (t ≡ turn.Fault c) × (a ≡ after.Same)
