-- Each turn gives one load more, or is the last.
use Rattle.std.proofs.Common.{◌≡◌, ℕ, ◌<◌, List, [], ◌∷◌, ◌++◌, length, Option, Some, None, refl, sym, ◌∙◌, ap, subst, ⊎_elim, arith, append-nil}
use Rattle.chunk_core.specs.Elements.{elements, elements_of}
use Rattle.chunk_core.specs.Outcomes.{Cut}
use Rattle.chunk_core.specs.Tables.{Values}
use Rattle.chunk_core.specs.declared.code.Code.{Code}
use Rattle.chunk_core.specs.declared.code.How.{How}
use Rattle.chunk_core.specs.declared.code.How.TheVariants as how
use Rattle.chunk_core.specs.declared.load.Load.{Load}
use Rattle.chunk_core.proofs.Each.{each_snoc}
use Rattle.device_port.specs.Device.{DeviceTold}
use Rattle.interrupt_ctx.specs.declared.why.Stop.{Stop}
use Rattle.pull_turns.specs.Around.{Affords, Around}
use Rattle.pull_turns.specs.Led.{CanBeCut, Led, TouchesOnly, Turns}
use Rattle.pull_turns.specs.Piping.{StateMeaning}
use Rattle.pull_turns.specs.Failures.{IsToldRunOfRest}
use Rattle.pull_turns.specs.Rest.{CanStep}
use Rattle.pull_turns.specs.Turned.{Over, Spends, SpendsWithin}
use Rattle.pull_turns.specs.declared.rest.Rest.{Rest}
use Rattle.pull_turns.specs.declared.rest.Rest.TheVariants.{Nil}
use Rattle.pull_turns.specs.declared.turn.Turn.{Turn}
use Rattle.pull_turns.specs.declared.turn.Turn.TheVariants as turn
use Rattle.pull_turns.proofs.Kept.{goes_on}
use Rattle.pull_turns.proofs.Led.{cut_unwritten, led_done, led_ends, led_fault, led_pushed, led_quiet, led_start, over_now, spends_none, spends_then, tells_same}
use Rattle.pull_stepper.specs.Held.{FinishesDevice}
use Rattle.pull_stepper.specs.Laws.{since_same, since_then}
use Rattle.pull_stepper.specs.Sites.{Since, around, told_at}
use Rattle.pull_stepper.specs.Stepping.{CanGo, Halts, Stepping, TakesTurn, Wants, stopped_by}
use Rattle.stream_jobs.specs.Leaving.{CanLeave}
use Rattle.stream_jobs.specs.Messages.{held}
use Rattle.stream_jobs.specs.Running.{HasGiven, HasRun, IsBegun, Origin}
use Rattle.stream_jobs.specs.Steps.{ObeysFound, load_in}

-- what happens to the devices later is no more than their closes
over_later : {F : Type 0} (now last : ℕ → DeviceTold) (r : Rest F) → TouchesOnly {F = F} now last Nil → Over now last r
over_later now last r t = record { over = λ p l. t.others p (λ m. m); goes = t.goes }

-- what came is a run that was cut, where what was left may be left, whatever the devices come to tell by their closes
cut_later : {F : Type 0} (P : StateMeaning F) (first before now last : ℕ → DeviceTold) (start rest : Rest F) (loads : List Load) → Led P first before start rest (elements_of loads) → TouchesOnly before now rest → CanBeCut P now rest → TouchesOnly {F = F} now last Nil
    → IsToldRunOfRest P last start (elements_of loads) Cut
cut_later P first before now last start rest loads h t cut closes = led_ends P first before now start rest (elements_of loads) Cut h t cut last (over_later now last start closes)

-- as much was used at most as what was left could need
spends_all : {F : Type 0} (a b : Around) (old new : Rest F) → Spends a b old new → SpendsWithin a b old
spends_all a b old new s = record { events = omega (arith, s.events); scopes = omega (arith, s.scopes); rows = omega (arith, s.rows) }

spends_stopped : {F : Type 0} (a b c : Around) (old : Rest F) → SpendsWithin a b old → Affords b c → SpendsWithin a c old
spends_stopped a b c old s l = record { events = omega (arith, s.events, l.events); scopes = omega (arith, s.scopes, l.scopes); rows = omega (arith, s.rows, l.rows) }

pub none_is_not_some : {T : Type 0} (o : Option T) (x : T) → o ≡ None → o ≡ Some x → ⊥
none_is_not_some o x n s = let e : None ≡ Some x = sym n ∙ s in cc

pub same_end : (o : Option How) (g h : How) → o ≡ Some g → o ≡ Some h → g ≡ h
same_end o g h a b = let e : Some g ≡ Some h = sym a ∙ b in cc

module _ {V F : Type 0} (told : V → DeviceTold) (P : Values → StateMeaning F) where
  -- before its first turn it has given nothing
  pub given_start : (w : Origin V F) → CanGo P told w.start → HasGiven told P w w.start []
  given_start w can = record {
    led = led_start (P w.start.tables) (told_at told w.start.site) w.start.rest;
    filled = tt;
    since = since_same told (FinishesDevice told) w.start.site;
    tables = refl;
    spends = spends_none (around told w.start.site) w.start.rest;
    can = can;
  }

  -- at its end there is room to leave
  pub room_to_leave : (w : Origin V F) (s : Stepping V F) (h : How) (loads : List Load) → IsBegun told w → HasRun told P w s h loads → CanLeave told w.leased s.site
  room_to_leave w s h loads b r = record {
    events = omega (arith, b.events, r.spends.events);
    rows = omega (arith, b.rows, r.spends.rows);
  }

  module _ (w : Origin V F) (a b : Stepping V F) (loads : List Load) (g : HasGiven told P w a loads) (since : Since told (FinishesDevice told) a.site b.site) where
    abbrev first : ℕ → DeviceTold
    first = told_at told w.start.site

    since_on : Since told (FinishesDevice told) w.start.site b.site
    since_on = since_then told (FinishesDevice told) w.start.site a.site b.site g.since since

    turns_of : (t : Turn) → TakesTurn P told a b t → Turns (P w.start.tables) (around told a.site) (around told b.site) a.chunk a.rest b.rest t
    turns_of t k = subst (λ v. Turns (P v) (around told a.site) (around told b.site) a.chunk a.rest b.rest t) g.tables k.turns

    spends_on : (t : Turn) → TakesTurn P told a b t → Spends (around told w.start.site) (around told b.site) w.start.rest b.rest
    spends_on t k = spends_then (around told w.start.site) (around told a.site) (around told b.site) w.start.rest a.rest b.rest g.spends k.turns.spends

    chunk_on : (l : Load) → TakesTurn P told a b (turn.Chunk l) → HasGiven told P w b (loads ++ l ∷ [])
    chunk_on l k = record {
      led = led_pushed (P w.start.tables) first (around told a.site) (around told b.site) a.chunk w.start.rest a.rest b.rest loads l g.led (turns_of (turn.Chunk l) k);
      filled = each_snoc (λ (x : Load). 0 < length (elements x)) loads l g.filled k.turns.gave.0;
      since = since_on;
      tables = k.tables ∙ g.tables;
      spends = spends_on (turn.Chunk l) k;
      can = k.can tt;
    }

    quiet_on : TakesTurn P told a b turn.Quiet → HasGiven told P w b loads
    quiet_on k = record {
      led = led_quiet (P w.start.tables) first (around told a.site) (around told b.site) a.chunk w.start.rest a.rest b.rest (elements_of loads) g.led (turns_of turn.Quiet k);
      filled = g.filled;
      since = since_on;
      tables = k.tables ∙ g.tables;
      spends = spends_on turn.Quiet k;
      can = k.can tt;
    }

    done_ends : TakesTurn P told a b turn.Done → HasRun told P w b how.Done loads
    done_ends k = record {
      run = led_done (P w.start.tables) first (around told a.site) (around told b.site) a.chunk w.start.rest a.rest b.rest (elements_of loads) g.led (turns_of turn.Done k) (told_at told b.site) (over_now (told_at told b.site) w.start.rest);
      filled = g.filled;
      since = since_on;
      goes = λ p. goes_on (first p) (told_at told a.site p) (told_at told b.site p) (g.led.tells.goes p) (k.turns.tells.goes p);
      spends = spends_all (around told w.start.site) (around told b.site) w.start.rest b.rest (spends_on turn.Done k);
    }

    fault_ends : (c : Code) → TakesTurn P told a b (turn.Fault c) → HasRun told P w b (how.Fault c) loads
    fault_ends c k = record {
      run = led_fault (P w.start.tables) first (around told a.site) (around told b.site) a.chunk w.start.rest a.rest b.rest (elements_of loads) g.led c (turns_of (turn.Fault c) k) (told_at told b.site) (over_now (told_at told b.site) w.start.rest);
      filled = g.filled;
      since = since_on;
      goes = λ p. goes_on (first p) (told_at told a.site p) (told_at told b.site p) (g.led.tells.goes p) (k.turns.tells.goes p);
      spends = spends_all (around told w.start.site) (around told b.site) w.start.rest b.rest (spends_on (turn.Fault c) k);
    }

    wanting_ends : (m : Stepping V F) → Wants P told a m → Halts told m b → HasRun told P w b how.Memory loads
    wanting_ends m k h = record {
      run = cut_later (P w.start.tables) first (told_at told a.site) (told_at told m.site) (told_at told b.site) w.start.rest a.rest loads g.led k.tells (subst (λ v. CanBeCut (P v) (told_at told m.site) a.rest) g.tables k.cut) h.tells;
      filled = g.filled;
      since = since_on;
      goes = λ p. goes_on (first p) (told_at told m.site p) (told_at told b.site p) (goes_on (first p) (told_at told a.site p) (told_at told m.site p) (g.led.tells.goes p) (k.tells.goes p)) (h.tells.goes p);
      spends = spends_stopped (around told w.start.site) (around told m.site) (around told b.site) w.start.rest (spends_then (around told w.start.site) (around told a.site) (around told m.site) w.start.rest a.rest Nil g.spends k.spends) h.affords;
    }

    halted_ends : Halts told a b → HasRun told P w b how.Halted loads
    halted_ends h = record {
      run = cut_later (P w.start.tables) first (told_at told a.site) (told_at told a.site) (told_at told b.site) w.start.rest a.rest loads g.led (tells_same (told_at told a.site) a.rest)
          (cut_unwritten (P w.start.tables) (around told a.site) (around told a.site) 0 a.rest (subst (λ v. CanStep (P v) (around told a.site) 0 a.rest) g.tables g.can.step) (λ q. (refl, refl, refl, refl))) h.tells;
      filled = g.filled;
      since = since_on;
      goes = λ p. goes_on (first p) (told_at told a.site p) (told_at told b.site p) (g.led.tells.goes p) (h.tells.goes p);
      spends = spends_stopped (around told w.start.site) (around told a.site) (around told b.site) w.start.rest (spends_all (around told w.start.site) (around told a.site) w.start.rest a.rest g.spends) h.affords;
    }

    turn_on : (t : Turn) → TakesTurn P told a b t → b.how ≡ None → HasGiven told P w b (loads ++ held (load_in t))
    turn_on (turn.Chunk l) k n = chunk_on l k
    turn_on turn.Quiet k n = subst (HasGiven told P w b) (sym (append-nil loads)) (quiet_on k)
    turn_on turn.Done k n = absurd (none_is_not_some b.how how.Done n k.how)
    turn_on (turn.Fault c) k n = absurd (none_is_not_some b.how (how.Fault c) n k.how)

    turn_ends : (t : Turn) → TakesTurn P told a b t → (h : How) → b.how ≡ Some h → HasRun told P w b h loads
    turn_ends (turn.Chunk l) k h e = absurd (none_is_not_some b.how h k.how e)
    turn_ends turn.Quiet k h e = absurd (none_is_not_some b.how h k.how e)
    turn_ends turn.Done k h e = subst (λ x. HasRun told P w b x loads) (same_end b.how how.Done h k.how e) (done_ends k)
    turn_ends (turn.Fault c) k h e = subst (λ x. HasRun told P w b x loads) (same_end b.how (how.Fault c) h k.how e) (fault_ends c k)

    wanted_how : (m : Stepping V F) → Wants P told a m → Halts told m b → b.how ≡ Some how.Memory
    wanted_how m k h = h.how ∙ ap (λ x. Some (stopped_by x)) k.memory

    halted_how : Halts told a b → b.how ≡ Some how.Halted
    halted_how h = h.how ∙ ap (λ x. Some (stopped_by x)) g.can.memory

    -- where it may go on it has given what it gave before, and the load that came
    pub obeyed_on : (found : Option Stop) (load : Option Load) → ObeysFound P told found a b load → b.how ≡ None → HasGiven told P w b (loads ++ held load)
    obeyed_on (Some stop) load o n = absurd (none_is_not_some b.how how.Halted n (halted_how o.0))
    obeyed_on None load o n = ⊎_elim
        (λ k. subst (λ x. HasGiven told P w b (loads ++ held x)) (sym k.2) (turn_on k.0 k.1 n))
        (λ k. absurd (none_is_not_some b.how how.Memory n (wanted_how k.0 k.1 k.2)))
        o

    -- where it has ended, what it gave is a run with that end
    pub obeyed_ends : (found : Option Stop) (load : Option Load) → ObeysFound P told found a b load → (h : How) → b.how ≡ Some h → HasRun told P w b h loads
    obeyed_ends (Some stop) load o h e = subst (λ x. HasRun told P w b x loads) (same_end b.how how.Halted h (halted_how o.0) e) (halted_ends o.0)
    obeyed_ends None load o h e = ⊎_elim
        (λ k. turn_ends k.0 k.1 h e)
        (λ k. subst (λ x. HasRun told P w b x loads) (same_end b.how how.Memory h (wanted_how k.0 k.1 k.2) e) (wanting_ends k.0 k.1 k.2))
        o
