-- What a seat at the board learns from the looks of its stream, and as that ends.
use Rattle.std.proofs.Common.{◌≡◌, ◌⊎◌, ℕ, ◌+◌, false, List, [], ◌∷◌, Option, Some, None, inl, inr, refl, sym, ◌∙◌, ap, subst, ⊎_elim, ◌<◌, length, IfSome}
use Rattle.std.specs.Option.{option_or}
use Rattle.chunk_core.specs.Elements.{elements}
use Rattle.chunk_core.specs.Lists.{IsAmong}
use Rattle.chunk_core.specs.Tables.{Values}
use Rattle.chunk_core.specs.declared.code.How.{How}
use Rattle.chunk_core.specs.declared.code.How.TheVariants as how
use Rattle.chunk_core.specs.declared.load.Load.{Load}
use Rattle.chunk_core.proofs.Filters.{among_append}
use Rattle.chunk_core.proofs.Members.{among_cons, among_last, among_left, among_nil}
use Rattle.device_port.specs.Device.{DeviceTold}
use Rattle.interrupt_ctx.specs.Ends.{HasFound, HasSet, SeatSeen}
use Rattle.interrupt_ctx.specs.Views.{interruption, noted}
use Rattle.interrupt_ctx.specs.declared.view.Interruption.{Interruption}
use Rattle.interrupt_ctx.specs.declared.why.Stop.{Stop}
use Rattle.interrupt_ctx.specs.declared.why.Why.{Why}
use Rattle.interrupt_ctx.specs.declared.why.Why.TheVariants as why
use Rattle.pull_turns.specs.Moves.{how_of}
use Rattle.pull_turns.specs.Piping.{StateMeaning}
use Rattle.pull_turns.specs.declared.turn.Turn.{Turn}
use Rattle.pull_turns.specs.declared.turn.Turn.TheVariants as turn
use Rattle.pull_stepper.specs.Behind.{ClosesRootBehind}
use Rattle.pull_stepper.specs.Stepping.{Stepping, TakesTurn, stopped_by}
use Rattle.stream_jobs.specs.Learned.{HasLearned, HasStoppedRun}
use Rattle.stream_jobs.specs.Steps.{Interrupts, LooksOnce, ObeysFound, StopsRun, load_in}

-- what was seen stays so where more is noted
noted_keeps : (seen : List Interruption) (context : ℕ) (found : Option Stop) (x : Interruption) → IsAmong x seen → IsAmong x (noted seen context found)
noted_keeps seen context None x m = m
noted_keeps seen context (Some w) x m = among_left (interruption context w ∷ []) m

-- the stop that a look found was noted
found_noted : (seen : List Interruption) (context : ℕ) (own root : Option Stop) (stop : Stop) → option_or own root ≡ Some stop
    → IsAmong (interruption 0 stop) (noted (noted seen context own) 0 root) ⊎ IsAmong (interruption context stop) (noted (noted seen context own) 0 root)
found_noted seen context (Some w) root stop e =
    let q : w ≡ stop = cc in
    inr (subst (λ x. IsAmong (interruption context x) (noted (noted seen context (Some w)) 0 root)) q (noted_keeps (noted seen context (Some w)) 0 root (interruption context w) (among_last seen (interruption context w))))
found_noted seen context None (Some w) stop e =
    let q : w ≡ stop = cc in
    inl (subst (λ x. IsAmong (interruption 0 x) (noted seen 0 (Some w))) q (among_last seen (interruption 0 w)))
found_noted seen context None None stop e = absurd (let f : None ≡ Some stop = e in cc)

-- the seat has found the stop in the context of stream k or in that of the whole run
abbrev pub HasSeen : ℕ → SeatSeen → Stop → Type 0
HasSeen k s stop = IsAmong (interruption 0 stop) s.view.seen ⊎ IsAmong (interruption (1 + k) stop) s.view.seen

-- a stop that was found there
abbrev pub FoundCode : ℕ → SeatSeen → Type 0
FoundCode k s = (there : Stop) × HasSeen k s there

module _ (k : ℕ) (first old looked : SeatSeen) (look : LooksOnce (1 + k) old looked) where
  pub look_finds : (stop : Stop) → option_or looked.view.last.own looked.view.last.root ≡ Some stop → HasSeen k looked stop
  look_finds stop e = subst (λ (s : SeatSeen). HasSeen k s stop) (sym look) (found_noted old.view.seen (1 + k) looked.view.last.own looked.view.last.root stop e)

  -- a look sets nothing, and what was seen stays so
  pub look_learns : HasLearned k first old None → HasLearned k first looked None
  look_learns l =
      let own = looked.view.last.own in
      let root = looked.view.last.root in
      record {
        board = ap (λ s. s.board) look ∙ l.board;
        first = ap (λ s. s.view.first) look ∙ l.first;
        kept = λ x m. subst (λ (s : SeatSeen). IsAmong x s.view.seen) (sym look) (noted_keeps (noted old.view.seen (1 + k) own) 0 root x (noted_keeps old.view.seen (1 + k) own x (l.kept x m)));
        set = ap (λ s. s.view.set) look ∙ l.set;
      }

module _ (k : ℕ) (first old new : SeatSeen) (l : HasLearned k first old None) where
  -- a seat that has set nothing sets or finds the whole run interrupted
  stopped_run : (cause : Why) → StopsRun old new cause → HasStoppedRun new.view cause
  stopped_run cause t = ⊎_elim
      (λ (e : (stop : Stop) × (stop.why ≡ cause) × HasSet old new 0 stop).
      subst (λ (s : SeatSeen). HasStoppedRun s.view cause) (sym e.2) (record {
        only = λ x m. ⊎_elim
            (λ o. absurd (among_nil (subst (λ xs. IsAmong x xs) l.set o)))
            (λ o. ⊎_elim (λ q. subst (λ (y : Interruption). (y.context ≡ 0) × (y.stop.why ≡ cause)) (sym q) (refl, e.1)) (λ n. absurd (among_nil n)) (among_cons o))
            (among_append x old.view.set (interruption 0 e.0 ∷ []) m);
        known = (e.0, inl (among_last old.view.set (interruption 0 e.0)));
      }))
      (λ (f : (there : Stop) × HasFound old new 0 there).
      subst (λ (s : SeatSeen). HasStoppedRun s.view cause) (sym f.1) (record {
        only = λ x m. absurd (among_nil (subst (λ xs. IsAmong x xs) l.set m));
        known = (f.0, inr (among_last old.view.seen (interruption 0 f.0)));
      }))
      t

  -- it stays a seat of its board, and what it saw stays so
  stop_keeps : (cause : Why) → StopsRun old new cause → (new.board ≡ old.board) × (new.view.first ≡ old.view.first) × ((x : Interruption) → IsAmong x old.view.seen → IsAmong x new.view.seen)
  stop_keeps cause t = ⊎_elim
      (λ (e : (stop : Stop) × (stop.why ≡ cause) × HasSet old new 0 stop). (ap (λ s. s.board) e.2, ap (λ s. s.view.first) e.2, λ x m. subst (λ (s : SeatSeen). IsAmong x s.view.seen) (sym e.2) m))
      (λ (f : (there : Stop) × HasFound old new 0 there).
      (ap (λ s. s.board) f.1, ap (λ s. s.view.first) f.1, λ x m. subst (λ (s : SeatSeen). IsAmong x s.view.seen) (sym f.1) (noted_keeps old.view.seen 0 (Some f.0) x m)))
      t

  -- the stream has ended so: the seat has set and seen what goes with that
  pub end_learns : (h : How) → Interrupts h old new → (h ≡ how.Halted → FoundCode k old) → HasLearned k first new (Some h)
  end_learns how.Done e f = subst (λ s. HasLearned k first s (Some how.Done)) (sym e) (record { board = l.board; first = l.first; kept = l.kept; set = l.set })
  end_learns how.Halted e f = subst (λ s. HasLearned k first s (Some how.Halted)) (sym e) (record { board = l.board; first = l.first; kept = l.kept; set = record { none = l.set; found = f refl } })
  end_learns (how.Fault c) e f =
      let s = stop_keeps why.Fault e in
      record { board = s.0 ∙ l.board; first = s.1 ∙ l.first; kept = λ x m. s.2 x (l.kept x m); set = stopped_run why.Fault e }
  end_learns how.Memory e f =
      let s = stop_keeps why.Memory e in
      record { board = s.0 ∙ l.board; first = s.1 ∙ l.first; kept = λ x m. s.2 x (l.kept x m); set = stopped_run why.Memory e }

-- before its first look the seat has learned nothing
pub learns_nothing : (k : ℕ) (s : SeatSeen) → s.view.set ≡ [] → s.view.first ≡ false → HasLearned k s s None
learns_nothing k s none other = record { board = refl; first = other; kept = λ x m. m; set = none }

turn_halts_none : (t : Turn) → how_of t ≡ Some how.Halted → ⊥
turn_halts_none (turn.Chunk l) e = cc
turn_halts_none turn.Quiet e = cc
turn_halts_none turn.Done e = cc
turn_halts_none (turn.Fault c) e = cc

-- a stepper that is halted where no memory was wanting, was halted for a stop that was found, behind the front that this names
pub halted_for : {V F : Type 0} (P : Values → StateMeaning F) (told : V → DeviceTold) (a b : Stepping V F) (found : Option Stop) (load : Option Load) → ObeysFound P told found a b load → b.how ≡ Some how.Halted → (stop : Stop) × (found ≡ Some stop) × ClosesRootBehind b.site.tree.seat stop.at
halted_for P told a b (Some stop) load o e = (stop, refl, o.2)
halted_for P told a b None load o e = absurd (⊎_elim
    (λ k. turn_halts_none k.0 (sym k.1.how ∙ e))
    (λ k. let f : Some how.Memory ≡ Some how.Halted = sym (k.2.how ∙ ap (λ m. Some (stopped_by m)) k.1.memory) ∙ e in cc)
    o)

-- a load that a look brought has elements
pub load_full : {V F : Type 0} (P : Values → StateMeaning F) (told : V → DeviceTold) (a b : Stepping V F) (found : Option Stop) (load : Option Load) → ObeysFound P told found a b load → IfSome load (λ l. 0 < length (elements l))
load_full P told a b (Some stop) load o = subst (λ x. IfSome x (λ l. 0 < length (elements l))) (sym o.1) tt
load_full P told a b None load o = ⊎_elim
    (λ k. subst (λ x. IfSome x (λ l. 0 < length (elements l))) (sym k.2) (given_full k.0 k.1))
    (λ k. subst (λ x. IfSome x (λ l. 0 < length (elements l))) (sym k.3) tt)
    o
  where
    given_full : (t : Turn) → TakesTurn P told a b t → IfSome (load_in t) (λ l. 0 < length (elements l))
    given_full (turn.Chunk l) k = k.turns.gave.0
    given_full turn.Quiet k = tt
    given_full turn.Done k = tt
    given_full (turn.Fault c) k = tt
