-- What a runner's turns are to its stepper.
use Rattle.std.proofs.Common.{◌≡◌, ℕ, zero, suc, ◌<◌, Bool, true, false, ap, refl, sym, subst, ◌∙◌, Option, None, List, [], Result, Ok, Err, IfOk, OnErr, arith}
use Rattle.chunk_core.specs.declared.code.Exit.TheVariants.{Canceled}
use Rattle.chunk_core.specs.declared.code.How.{How}
use Rattle.chunk_core.specs.declared.load.Load.{Load}
use Rattle.chunk_core.specs.Outcomes.{exit_of}
use Rattle.chunk_core.specs.Tables.{Values}
use Rattle.device_port.specs.Device.{DeviceTold}
use Rattle.pull_turns.specs.Around.{Around, IsClosedWith}
use Rattle.pull_turns.specs.Led.{CanBeCut, ComesWithin, GoesOnFor, Turns, Uncons}
use Rattle.pull_turns.specs.Moves.{how_of}
use Rattle.pull_turns.specs.Piping.{StateMeaning}
use Rattle.pull_turns.specs.Rest.{CanStep}
use Rattle.pull_turns.specs.Sizes.{HasNoPipe, Sized, given, given_first}
use Rattle.pull_turns.specs.Turned.{GoesOn, Moved, Spends, SpendsWithin}
use Rattle.pull_turns.specs.declared.rest.Rest.{Rest}
use Rattle.pull_turns.specs.declared.runner.Unconsed.{Unconsed}
use Rattle.pull_turns.specs.declared.runner.Unconsed.TheVariants.{Chunk, End, Again}
use Rattle.pull_turns.specs.declared.turn.Turn.{Turn}
use Rattle.pull_turns.specs.declared.turn.Turn.TheVariants as turn
use Rattle.pull_turns.proofs.Led.{moved_tells, stays_open}
use Rattle.pull_stepper.specs.Sites.{Site, around, told_at}
use Rattle.pull_stepper.specs.Stepping.{Halts, IsOver, LeavesItRunning, Stepping, TakesTurn, Unconses, Wants, stopped_by}

-- a turn that goes on is no end
runs_on : (t : Turn) → GoesOn t → how_of t ≡ None
runs_on (turn.Chunk l) g = refl
runs_on turn.Quiet g = refl
runs_on turn.Done g = absurd g
runs_on (turn.Fault c) g = absurd g

module _ {F : Type 0} (P : StateMeaning F) {O Q : Type 0} (view : O → Q) (seen : Q → Around) (n : ℕ) where
  -- the states between the turns, as they are seen
  goes_on_seen : (k : ℕ) (a b : O) (old new : Rest F) (loads : List Load) → GoesOnFor P (λ o. seen (view o)) n k a old b new loads → GoesOnFor P seen n k (view a) old (view b) new loads
  goes_on_seen zero a b old new loads h = (ap view h.0, h.1, h.2)
  goes_on_seen (suc k) a b old new loads h = (view h.0, h.1, h.2, h.3, goes_on_seen k a h.0 old h.1 h.2 h.4, h.5, h.6, h.7)

  within_seen : (k : ℕ) (a b : O) (old new : Rest F) (t : Turn) → ComesWithin P (λ o. seen (view o)) n k a old b new t → ComesWithin P seen n k (view a) old (view b) new t
  within_seen k a b old new t h = (h.0, h.1, view h.2, h.3, goes_on_seen h.0 a h.2 old h.3 [] h.4, h.5)

  uncons_seen : (k : ℕ) (a b : O) (old new : Rest F) (how : Option How) (u : Unconsed) → Uncons P (λ o. seen (view o)) n k a b old new how u → Uncons P seen n k (view a) (view b) old new how u
  uncons_seen k a b old new how (Chunk l) h = (h.0, h.1, h.2, h.3, h.4, within_seen k a b old new (turn.Chunk l) h.5, h.6)
  uncons_seen k a b old new how (End e) h = (h.0, h.1, h.2, h.3, h.4, (h.5.0, h.5.1, within_seen k a b old new h.5.0 h.5.2))
  uncons_seen k a b old new how Again h = (goes_on_seen k a b old new [] h.0, h.1, h.2, h.3)

module _ {V F : Type 0} (P : Values → StateMeaning F) (told : V → DeviceTold) (a b : Stepping V F) (tables : b.tables ≡ a.tables) (chunk : b.chunk ≡ a.chunk) (some : 0 < a.chunk) where
  still : 0 < b.chunk
  still = omega (arith, chunk, some)

  still_can : CanStep (P a.tables) (around told b.site) 0 b.rest → CanStep (P b.tables) (around told b.site) 0 b.rest
  still_can h = subst (λ t. CanStep (P t) (around told b.site) 0 b.rest) (sym tables) h

  pub steps_by : {E : Type 0} (r : Result Turn E)
      → IfOk r (λ t. Turns (P a.tables) (around told a.site) (around told b.site) a.chunk a.rest b.rest t) → IfOk r (λ t. HasNoPipe a.rest → Sized a.chunk a.rest b.rest (given t))
      → IfOk r (λ t. b.how ≡ how_of t) → IfOk r (λ t. b.wanting ≡ false) → IfOk r (λ t. TakesTurn P told a b t)
  steps_by (Ok t) turns sized how sound = record {
    turns = turns;
    sized = sized;
    how = how;
    can = λ g. record { how = how ∙ runs_on t g; memory = sound; chunk = still; step = still_can (turns.can g) };
    tables = tables;
    chunk = chunk;
  }
  steps_by (Err e) turns sized how sound = tt

  leaves_by : (k : ℕ) (u : Unconsed) → Uncons (P a.tables) (around told) a.chunk k a.site b.site a.rest b.rest b.how u → b.wanting ≡ false → LeavesItRunning P told u b
  leaves_by k (Chunk l) h sound = record { how = h.1; memory = sound; chunk = still; step = still_can h.2 }
  leaves_by k (End e) h sound = (h.0, h.1, h.2)
  leaves_by k Again h sound = record { how = h.1; memory = sound; chunk = still; step = still_can h.2 }

  pub unconses_by : {O E : Type 0} (view : O → Site V) (x y : O) (k : ℕ) (r : Result Unconsed E) → a.site ≡ view x → b.site ≡ view y
      → IfOk r (λ u. Uncons (P a.tables) (λ o. around told (view o)) a.chunk k x y a.rest b.rest b.how u) → IfOk r (λ u. HasNoPipe a.rest → Sized a.chunk a.rest b.rest (given_first u))
      → IfOk r (λ u. Spends (around told a.site) (around told b.site) a.rest b.rest) → IfOk r (λ u. b.wanting ≡ false) → IfOk r (λ u. Unconses P told k a b u)
  unconses_by view x y k (Ok u) is to first sized spends sound =
      let seen : Uncons (P a.tables) (around told) a.chunk k a.site b.site a.rest b.rest b.how u =
      subst (λ s. Uncons (P a.tables) (around told) a.chunk k s b.site a.rest b.rest b.how u) (sym is)
      (subst (λ s. Uncons (P a.tables) (around told) a.chunk k (view x) s a.rest b.rest b.how u) (sym to) (uncons_seen (P a.tables) view (around told) a.chunk k x y a.rest b.rest b.how u first)) in
      record { first = seen; sized = sized; spends = spends; leaves = leaves_by k u seen sound; tables = tables; chunk = chunk }
  unconses_by view x y k (Err e) is to first sized spends sound = tt

module _ {V F : Type 0} (P : Values → StateMeaning F) (told : V → DeviceTold) (a b : Stepping V F) (tables : b.tables ≡ a.tables) (can : CanStep (P a.tables) (around told a.site) 0 a.rest) where
  pub wants_by : {E : Type 0} (r : Result Turn E) → OnErr r ((b.wanting ≡ true) × (b.how ≡ None)) → OnErr r (SpendsWithin (around told a.site) (around told b.site) a.rest)
      → OnErr r (Moved (around told a.site) (around told b.site) a.rest) → OnErr r (CanBeCut (P a.tables) (told_at told b.site) a.rest) → OnErr r (Wants P told a b)
  wants_by (Ok t) wanting spent moved cut = tt
  wants_by (Err e) wanting spent moved cut = record {
    memory = wanting.0;
    how = wanting.1;
    root = stays_open _ _ _ _ can.nested can.opened can.ready moved;
    tells = moved_tells _ _ _ moved;
    spends = spent;
    cut = cut;
    tables = tables;
  }

exit_stopped : (b : Bool) → Canceled ≡ exit_of (stopped_by b)
exit_stopped true = refl
exit_stopped false = refl

-- where it was stopped it is over
pub halts_over : {V F : Type 0} (told : V → DeviceTold) (a b : Stepping V F) → Halts told a b → IsOver told b
halts_over told a b h = record { how = stopped_by a.wanting; ended = h.how; shut = h.shut; exit = subst (λ e. IsClosedWith (around told b.site) 0 e) (exit_stopped a.wanting) h.exit }
