-- A rotation whose devices came back did its work.
use Rattle.std.proofs.Common.{◌≡◌, ◌≢◌, ◌⊎◌, ℕ, zero, suc, ◌<◌, ◌≤◌, true, false, List, [], ◌∷◌, inl, inr, map, length, Option, Some, None, IfSome, refl, sym, ◌∙◌, ap, subst, ⊎_elim, arith, append-nil}
use Rattle.std.proofs.lemmas.Bool.{both_ways, cases_lt, false≢true}
use Rattle.std.specs.List.{AllByRecursion}
use Rattle.chunk_core.specs.Elements.{Element}
use Rattle.chunk_core.specs.Lists.{IsAmong}
use Rattle.chunk_core.specs.Lists.IsAmong.{here}
use Rattle.chunk_core.specs.Outcomes.{End, Outcomes, Done, Fault, Cut}
use Rattle.chunk_core.specs.Tables.{no_values}
use Rattle.chunk_core.specs.declared.code.Code.{Code}
use Rattle.chunk_core.specs.declared.code.Code.TheVariants as code
use Rattle.chunk_core.specs.declared.code.How.{How}
use Rattle.chunk_core.specs.declared.code.How.TheVariants as how
use Rattle.chunk_core.proofs.Members.{among_cons, among_nil}
use Rattle.res_ledger.specs.declared.event.StreamNo.TheVariants.{Inner}
use Rattle.device_port.specs.Device.{Place, DeviceTold, faults_of}
use Rattle.device_port.specs.Depot.{DepotTold}
use Rattle.run_rules.specs.declared.end.EndOf.{EndOf}
use Rattle.run_rules.specs.Facts.{at, is_memory}
use Rattle.run_rules.specs.Devices.{DevicesAccounted, came_back}
use Rattle.run_rules.specs.Ends.{EndIsCaused, HaveEnds, IsShown, act_count}
use Rattle.run_rules.specs.Exits.{HasOneExit}
use Rattle.run_rules.specs.Homes.{AreLeftAlone, HaveHomes, is_tried}
use Rattle.run_rules.specs.Outputs.{AreOutputs, HaveOutputs, IsReported}
use Rattle.run_rules.specs.Rules.{KeepsRules}
use Rattle.run_rules.specs.Run.{Performs}
use Rattle.run_rules.specs.Wholeness.{IsWholeRun, NothingFailed}
use Rattle.run_rules.specs.Work.{RunRecord, Work, names_of}
use Rattle.pull_turns.specs.Led.{end_of}
use Rattle.joined_runs.specs.Devices.{MadeComeBack}
use Rattle.joined_runs.proofs.MadeRows as made
use Rattle.joined_runs.proofs.MadeRows.{at_some, place_found}
use Rattle.cat_run.specs.declared.outcome.Outcome.{Outcome}
use Rattle.lone_stream.specs.Account.{IsAccount, alone}
use Rattle.cat_run.specs.Cat.{run_record_of}
use Rattle.lone_stream.proofs.Accounts.{clean, kept, leaves_closed, none_above, ours, told_as_ended}
use Rattle.rotate_rules.specs.Pieces.{EndSays, IdealRotatingRuns, RotatingRuns, Rotated}
use Rattle.rotate_rules.specs.Rotation.{HoldsTwo, IsRotation, TellsFaults}

some_is_none : {A : Type 0} (x : A) → Some x ≡ None → ⊥
some_is_none x e = cc

none_some : (x : EndOf) (xs : List EndOf) → (x ∷ xs) ≢ []
none_some x xs e = cc

-- what ended so is reported so
pub reported_end : (h : How) → h ≢ how.Halted → IsReported (end_of h) h
reported_end how.Done n = refl
reported_end (how.Fault c) n = refl
reported_end how.Halted n = absurd (n refl)
reported_end how.Memory n = inr refl

memory_is : (h : How) → is_memory h ≡ true → h ≡ how.Memory
memory_is how.Memory e = refl
memory_is how.Done e = absurd (false≢true e)
memory_is (how.Fault c) e = absurd (false≢true e)
memory_is how.Halted e = absurd (false≢true e)

module _ (places : List Place) (n : ℕ) (old new : DepotTold) (w : ℕ → DeviceTold) (h : How) (o : Outcome) where
  -- a fault of an act has a device of a row that shows it
  abbrev pub IsShownInRow : Code → Type 0
  IsShownInRow c = IfSome (act_count c) (λ m. (r : ℕ) × (r < length places) × (0 < m (w r)))

  abbrev pub end_0 : EndOf
  end_0 = record { who = Inner 0; how = h }

  -- what a rotation left when its devices were back
  pub record IsOver : Type 0 where
    pub devices : MadeComeBack old new places w
    pub account : IsAccount (length places) 1024 w h o.ledger
    pub two : HoldsTwo o.ledger
    pub rotated : Rotated n w (end_of h)
    pub unhalted : h ≢ how.Halted
    pub shown : (c : Code) → h ≡ how.Fault c → IsShownInRow c
    pub calm : (r : ℕ) → length places ≤ r → faults_of (w r) ≡ 0
    pub tried : AllByRecursion (λ d. is_tried d ≡ true) (came_back old new)
    pub told : AllByRecursion (TellsFaults h) (came_back old new)
    pub ends : o.ends ≡ end_0 ∷ []
    pub memory : o.memory ≡ is_memory h

  module _ (q : IsOver) where
    abbrev work : Work
    work = alone places 1024 (RotatingRuns n) (IdealRotatingRuns n)

    abbrev c : RunRecord
    c = run_record_of old new [] None [] o

    rules : KeepsRules work o.ledger
    rules = record {
      stamped = q.account.stamped;
      legal = q.account.legal;
      complete = q.account.complete;
      ordered = q.account.ordered;
      ours = ours places 1024 w h o.ledger q.account (RotatingRuns n) (IdealRotatingRuns n);
      scopes = (q.account.opened, tt);
      leaving = leaves_closed (length places) 1024 w h o.ledger q.account;
      given = tt;
    }

    counted_so : (a : Option (DeviceTold → ℕ)) → IfSome a (λ m. (r : ℕ) × (r < length places) × (0 < m (w r))) → IfSome a (made.IsCountedRow places old new w q.devices places)
    counted_so None s = tt
    counted_so (Some m) s = let p = at_some places s.0 s.1 in (s.0, p.0, p.1, place_found places s.0 p.0 p.1, s.2)

    shown_back : IsShown (came_back old new) places h
    shown_back = made.shown places old new w q.devices places h (λ x is. counted_so (act_count x) (q.shown x is))

    outputs : HaveOutputs work c no_values w
    outputs = record {
      numbers = tt;
      few = tt;
      in_turn = λ e. absurd (false≢true e);
      outputs = subst (λ es. AreOutputs work no_values w [] 0 work.streams es) (sym q.ends) (record { pieces = []; end = end_of h; run = inl (refl, q.rotated); printed = refl; reported = reported_end h q.unhalted }, refl);
      rest = refl;
    }

    each_end : (P : EndOf → Type 0) → P end_0 → (e : EndOf) → IsAmong e o.ends → P e
    each_end P x e m = ⊎_elim (λ is. subst P (sym is) x) (λ z. absurd (among_nil z)) (among_cons (subst (λ es. IsAmong e es) q.ends m))

    ends : HaveEnds work c w
    ends = record {
      named = subst (λ es. map (λ (e : EndOf). e.who) es ≡ names_of work) (sym q.ends) refl;
      caused = subst (λ es. AllByRecursion (EndIsCaused work c) es) (sym q.ends) (record { halted = λ t. absurd (q.unhalted t); fault = shown_back; root = λ t. q.account.closed }, tt);
      outer = tt;
      stopped = record {
        failed = λ e. absurd (false≢true e);
        silenced = λ e. absurd (false≢true e);
        ended = λ e. absurd (false≢true e);
        halted = λ e k m who is why. inr (none_above (length places) 1024 w h o.ledger q.account k);
        nobody = λ e. absurd (some_is_none 0 (sym e));
      };
      begins = tt;
      memory = each_end (λ e. e.how ≡ how.Memory → o.memory ≡ true) (λ t. q.memory ∙ ap is_memory t);
    }

    faultless : NothingFailed work c no_values w → (r : ℕ) → faults_of (w r) ≡ 0
    faultless f r = ⊎_elim (λ (l : r < length places). made.faultless places old new w q.devices f.devices r l) (λ (l : length places ≤ r). q.calm r l) (cases_lt r (length places))

    -- no act failed, so no end says that one did
    none_shown : ((r : ℕ) → faults_of (w r) ≡ 0) → (x : Code) → EndSays n (w 0) q.rotated.given (Fault x) → IsShownInRow x → x ≡ code.TooMany
    none_shown f code.Open s i = let z = f i.0 in let some = i.2 in absurd (omega (arith, z, some))
    none_shown f code.Read s i = let z = f i.0 in let some = i.2 in absurd (omega (arith, z, some))
    none_shown f code.Write s i = let z = f i.0 in let some = i.2 in absurd (omega (arith, z, some))
    none_shown f code.TooMany s i = refl
    none_shown f x s i = absurd s

    done_not : (x : Code) → Fault x ≡ Done → ⊥
    done_not x e = cc

    -- where nothing failed it is done
    done_by : (k : How) → k ≡ h → o.memory ≡ false → NothingFailed work c no_values w → k ≡ how.Done
    done_by how.Done is m f = refl
    done_by how.Halted is m f = absurd (q.unhalted (sym is))
    done_by how.Memory is m f = absurd (both_ways o.memory m (q.memory ∙ ap is_memory (sym is)))
    done_by (how.Fault x) is m f =
        let e : end_of h ≡ Fault x = ap end_of (sym is) in
        let too : x ≡ code.TooMany = none_shown (faultless f) x (subst (λ t. EndSays n (w 0) q.rotated.given t) e q.rotated.says) (q.shown x (sym is)) in
        let ideal : IdealRotatingRuns n w [] (Fault x) = (refl, subst (λ t. Rotated n w t) e q.rotated, inr (ap Fault too)) in
        absurd (done_not x (f.ideal.0 w [] (Fault x) (λ r. (faultless f r, refl)) ideal))

    complete : o.memory ≡ false → NothingFailed work c no_values w → IsWholeRun work c no_values w
    complete m f =
        let d : h ≡ how.Done = done_by h refl m f in
        record {
          done = subst (λ es. AllByRecursion (λ (e : EndOf). e.how ≡ how.Done) es) (sym q.ends) (d, tt);
          clean = clean (length places) 1024 w h o.ledger q.account (λ r l. let z = faultless f r in omega (arith, z));
          listed = tt;
          output = (([], (refl, subst (λ t. Rotated n w (end_of t)) d q.rotated, inl refl), refl), tt);
        }

    left_alone : AreLeftAlone work c w
    left_alone zero r s is quiet l u = let m = q.account.closed.1 in absurd (quiet (m.0, m.1, m.2))
    left_alone (suc k) r s is quiet l u = cc

    homes : HaveHomes work c no_values w
    homes = made.homes places old new w q.devices o.ledger (kept (length places) 1024 w h o.ledger q.account) work c no_values (append-nil places) refl refl refl tt left_alone

    accounted : DevicesAccounted old new places o.ledger
    accounted = made.accounted places old new w q.devices o.ledger (kept (length places) 1024 w h o.ledger q.account)

    pub performs : Performs work c
    performs = record {
      devices = subst (λ ps. DevicesAccounted old new ps o.ledger) (sym (append-nil places)) accounted;
      ledger = rules;
      ran = inr (record {
        values = no_values;
        home = w;
        rows = homes;
        outputs = outputs;
        ends = ends;
        exits = subst (λ es. AllByRecursion (HasOneExit work c no_values w) es) (sym q.ends) (
          record { how = h; same = inl refl; told = told_as_ended (length places) 1024 w h o.ledger q.account; ran = λ k e. ([], end_of h, (refl, q.rotated), reported_end h q.unhalted) },
          tt,
        );
        wanting = λ m. (end_0, subst (λ es. IsAmong end_0 es) (sym q.ends) (here []), inl (memory_is h (sym q.memory ∙ m)));
        completeness = complete;
      });
    }

    -- it is as each rotation is
    pub rotates : IsRotation c
    rotates = record {
      two = q.two;
      never_halted = subst (λ es. AllByRecursion (λ (e : EndOf). e.how ≢ how.Halted) es) (sym q.ends) (q.unhalted, tt);
      begun = λ e. absurd (none_some end_0 [] (sym q.ends ∙ e));
      memory = λ m. subst (λ es. AllByRecursion (λ (e : EndOf). e.how ≡ how.Memory) es) (sym q.ends) (memory_is h (sym q.memory ∙ m), tt);
      tried = q.tried;
      told = subst (λ es. AllByRecursion (λ (e : EndOf). AllByRecursion (TellsFaults e.how) (came_back old new)) es) (sym q.ends) (q.told, tt);
    }
