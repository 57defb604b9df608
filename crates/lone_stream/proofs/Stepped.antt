-- A stream, turn by turn.
use Rattle.std.proofs.Common.{◌≡◌, ℕ, true, false, List, [], ◌∷◌, ◌++◌, inl, inr, Option, Some, None, refl, sym, ap, ◌∙◌, subst, append-nil, arith, ◌+◌, ◌≤◌}
use Rattle.chunk_core.specs.Elements.{Element, LoadKind, elements, kind_of}
use Rattle.chunk_core.specs.Outcomes.{Cut, Done, End, Fault}
use Rattle.chunk_core.specs.Tables.{Values}
use Rattle.chunk_core.specs.declared.code.Code.{Code}
use Rattle.chunk_core.specs.declared.code.How.{How}
use Rattle.chunk_core.specs.declared.code.How.TheVariants as how
use Rattle.chunk_core.specs.declared.load.Load.{Load}
use Rattle.device_port.specs.Device.{DeviceTold}
use Rattle.pull_stepper.specs.Held.{FinishesDevice}
use Rattle.pull_stepper.specs.Laws.{since_then}
use Rattle.pull_stepper.specs.Sites.{Since, around, told_at}
use Rattle.pull_stepper.specs.Stepping.{CanGo, Halts, IsOver, Stepping, TakesTurn, Wants, stopped_by}
use Rattle.pull_turns.specs.Around.{Around, Affords, Goes}
use Rattle.pull_turns.specs.Led.{CanBeCut, Led, TouchesOnly, Turns}
use Rattle.pull_turns.specs.Piping.{HasKind, StateMeaning}
use Rattle.pull_turns.specs.Turned.{Over, Spends, SpendsWithin}
use Rattle.pull_turns.specs.declared.rest.Rest.{Rest}
use Rattle.pull_turns.specs.declared.rest.Rest.TheVariants.{Nil}
use Rattle.pull_turns.specs.declared.turn.Turn.{Turn}
use Rattle.pull_turns.specs.declared.turn.Turn.TheVariants as turn
use Rattle.pull_turns.proofs.Kept.{goes_on}
use Rattle.pull_turns.proofs.Led.{led_chunk, led_done, led_ends, led_fault, led_quiet, over_now, spends_then}
use Rattle.run_rules.specs.Outputs.{IsReported}
use Rattle.lone_stream.specs.Steps.{HasEnded, IsStepped, StepsOn, StepsTo, halted_from}
use Rattle.lone_stream.proofs.Spending.{spends_all, spends_stopped}

spends_both : {F : Type 0} (a b c : Around) (old mid : Rest F) → Spends a b old mid → SpendsWithin b c mid → SpendsWithin a c old
spends_both a b c old mid s t = record { events = omega (arith, s.events, t.events); scopes = omega (arith, s.scopes, t.scopes); rows = omega (arith, s.rows, t.rows) }

-- closes touch nothing that is told of what was left
touches_less : {F : Type 0} (now last : ℕ → DeviceTold) (r : Rest F) → TouchesOnly {F = F} now last Nil → TouchesOnly now last r
touches_less now last r t = record { goes = t.goes; others = λ p n. t.others p (λ m. m) }

over_later : {F : Type 0} (now last : ℕ → DeviceTold) (r : Rest F) → TouchesOnly {F = F} now last Nil → Over now last r
over_later now last r t = record { over = λ p l. t.others p (λ m. m); goes = t.goes }

module _ {V F : Type 0} (P : Values → StateMeaning F) (told : V → DeviceTold) (q : LoadKind) (a b : Stepping V F) (given : List Element) where
  reads : IsStepped P told q a b given → b.how ≡ None → StepsOn P told q a b given
  reads r runs = subst (λ h. StepsTo P told q a b given h) runs r.at

  -- where it is halted it ends so
  pub halted_so : IsStepped P told q a b given → b.how ≡ None → (c : Stepping V F) → Halts told b c → c.how ≡ halted_from b.how
  halted_so r runs c h = h.how ∙ (ap (λ w. Some (stopped_by w)) (reads r runs).can.memory ∙ ap halted_from (sym runs))

  -- where memory was wanting it ends so
  pub wanted_so : (m c : Stepping V F) → Wants P told b m → Halts told m c → c.how ≡ Some how.Memory
  wanted_so m c w h = h.how ∙ ap (λ z. Some (stopped_by z)) w.memory

  module _ (r : IsStepped P told q a b given) (runs : b.how ≡ None) where
    abbrev before : StepsOn P told q a b given
    before = reads r runs

    module _ (c : Stepping V F) (since : Since told (FinishesDevice told) b.site c.site) where
      later : Since told (FinishesDevice told) a.site c.site
      later = since_then told (FinishesDevice told) a.site b.site c.site r.since since

      -- a turn over the tables as they were
      turned : (t : Turn) → TakesTurn P told b c t → Turns (P a.tables) (around told b.site) (around told c.site) b.chunk b.rest c.rest t
      turned t k = subst (λ v. Turns (P v) (around told b.site) (around told c.site) b.chunk b.rest c.rest t) before.tables k.turns

      goes_both : (t : Turn) → TakesTurn P told b c t → (p : ℕ) → Goes (told_at told a.site p) (told_at told c.site p)
      goes_both t k p = goes_on _ _ _ (before.led.tells.goes p) (k.turns.tells.goes p)

      spent : (t : Turn) → TakesTurn P told b c t → Spends (around told a.site) (around told c.site) a.rest c.rest
      spent t k = spends_then (around told a.site) (around told b.site) (around told c.site) a.rest b.rest c.rest before.spends k.turns.spends

      pub kind_is : (l : Load) → TakesTurn P told b c (turn.Chunk l) → kind_of l ≡ q
      kind_is l k = ((turned (turn.Chunk l) k).kinds q before.kind).0

      pub gave : (l : Load) → TakesTurn P told b c (turn.Chunk l) → IsStepped P told q a c (given ++ elements l)
      gave l k = record {
        since = later;
        at = subst (λ h. StepsTo P told q a c (given ++ elements l) h) (sym k.how) (record {
          can = k.can tt;
          tables = k.tables ∙ before.tables;
          chunk = k.chunk ∙ before.chunk;
          spends = spent (turn.Chunk l) k;
          led = led_chunk (P a.tables) (told_at told a.site) (around told b.site) (around told c.site) b.chunk a.rest b.rest c.rest given before.led l (turned (turn.Chunk l) k);
          kind = ((turned (turn.Chunk l) k).kinds q before.kind).1;
        });
      }

      same_given : (e : IsStepped P told q a c given) → IsStepped P told q a c (given ++ [])
      same_given e = subst (λ xs. IsStepped P told q a c xs) (sym (append-nil given)) e

      pub went_on : TakesTurn P told b c turn.Quiet → IsStepped P told q a c (given ++ [])
      went_on k = same_given (record {
        since = later;
        at = subst (λ h. StepsTo P told q a c given h) (sym k.how) (record {
          can = k.can tt;
          tables = k.tables ∙ before.tables;
          chunk = k.chunk ∙ before.chunk;
          spends = spent turn.Quiet k;
          led = led_quiet (P a.tables) (told_at told a.site) (around told b.site) (around told c.site) b.chunk a.rest b.rest c.rest given before.led (turned turn.Quiet k);
          kind = (turned turn.Quiet k).kinds q before.kind;
        });
      })

      pub was_done : TakesTurn P told b c turn.Done → IsStepped P told q a c (given ++ [])
      was_done k = same_given (record {
        since = later;
        at = subst (λ h. StepsTo P told q a c given h) (sym k.how) (record {
          end = Done;
          run = led_done (P a.tables) (told_at told a.site) (around told b.site) (around told c.site) b.chunk a.rest b.rest c.rest given before.led (turned turn.Done k) (told_at told c.site) (over_now (told_at told c.site) a.rest);
          reported = refl;
          over = record { how = how.Done; ended = k.how; shut = k.turns.shut (λ i. i); exit = k.turns.closed };
          goes = goes_both turn.Done k;
          spends = spends_all (around told a.site) (around told c.site) a.rest c.rest (spent turn.Done k);
        });
      })

      pub failed : (d : Code) → TakesTurn P told b c (turn.Fault d) → IsStepped P told q a c (given ++ [])
      failed d k = same_given (record {
        since = later;
        at = subst (λ h. StepsTo P told q a c given h) (sym k.how) (record {
          end = Fault d;
          run = led_fault (P a.tables) (told_at told a.site) (around told b.site) (around told c.site) b.chunk a.rest b.rest c.rest given before.led d (turned (turn.Fault d) k) (told_at told c.site) (over_now (told_at told c.site) a.rest);
          reported = refl;
          over = record { how = how.Fault d; ended = k.how; shut = k.turns.shut (λ i. i); exit = k.turns.closed };
          goes = goes_both (turn.Fault d) k;
          spends = spends_all (around told a.site) (around told c.site) a.rest c.rest (spent (turn.Fault d) k);
        });
      })

    -- it was halted as it stood
    pub halted : (c : Stepping V F) → Since told (FinishesDevice told) b.site c.site → Halts told b c → (CanGo P told b → CanBeCut (P b.tables) (told_at told c.site) b.rest) → IsStepped P told q a c given
    halted c since h cut = record {
      since = later c since;
      at = subst (λ o. StepsTo P told q a c given o) (sym how_is) (record {
        end = Cut;
        run = led_ends (P a.tables) (told_at told a.site) (told_at told b.site) (told_at told c.site) a.rest b.rest given Cut before.led (touches_less (told_at told b.site) (told_at told c.site) b.rest h.tells)
            (subst (λ v. CanBeCut (P v) (told_at told c.site) b.rest) before.tables (cut before.can)) (told_at told c.site) (over_now (told_at told c.site) a.rest);
        reported = inl refl;
        over = record { how = how.Halted; ended = how_is; shut = h.shut; exit = h.exit };
        goes = λ p. goes_on _ _ _ (before.led.tells.goes p) (h.tells.goes p);
        spends = spends_stopped (around told a.site) (around told b.site) (around told c.site) a.rest (spends_all (around told a.site) (around told b.site) a.rest b.rest before.spends) h.affords;
      });
    }
      where
        how_is : c.how ≡ Some how.Halted
        how_is = h.how ∙ ap (λ w. Some (stopped_by w)) before.can.memory

    -- memory was wanting in a turn, and it was halted
    pub wanted : (m c : Stepping V F) → Since told (FinishesDevice told) b.site m.site → Since told (FinishesDevice told) m.site c.site → Wants P told b m → Halts told m c → IsStepped P told q a c given
    wanted m c since closes w h = record {
      since = since_then told (FinishesDevice told) a.site m.site c.site (later m since) closes;
      at = subst (λ o. StepsTo P told q a c given o) (sym how_is) (record {
        end = Cut;
        run = led_ends (P a.tables) (told_at told a.site) (told_at told b.site) (told_at told m.site) a.rest b.rest given Cut before.led w.tells
            (subst (λ v. CanBeCut (P v) (told_at told m.site) b.rest) before.tables w.cut) (told_at told c.site) (over_later (told_at told m.site) (told_at told c.site) a.rest h.tells);
        reported = inr refl;
        over = record { how = how.Memory; ended = how_is; shut = h.shut; exit = h.exit };
        goes = λ p. goes_on _ _ _ (goes_on _ _ _ (before.led.tells.goes p) (w.tells.goes p)) (h.tells.goes p);
        spends = spends_stopped (around told a.site) (around told m.site) (around told c.site) a.rest (spends_both (around told a.site) (around told b.site) (around told m.site) a.rest b.rest before.spends w.spends) h.affords;
      });
    }
      where
        how_is : c.how ≡ Some how.Memory
        how_is = h.how ∙ ap (λ z. Some (stopped_by z)) w.memory
