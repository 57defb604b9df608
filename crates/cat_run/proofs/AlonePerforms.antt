-- One stream that ran alone did its work.
use Rattle.std.proofs.Common.{◌≡◌, ◌⊎◌, ℕ, zero, suc, ◌<◌, true, false, List, [], inl, inr, map, length, Option, Some, None, IfSome, is_some, refl, sym, ◌∙◌, ap, subst, ⊎_elim, arith, append-nil}
use Rattle.std.proofs.lemmas.Bool.{both_ways, false_from_ne_true, false≢true}
use Rattle.std.specs.List.{AllByRecursion}
use Rattle.chunk_core.specs.Elements.{Element, rendering_of}
use Rattle.chunk_core.specs.Lists.{IsAmong}
use Rattle.chunk_core.specs.Lists.IsAmong.{here}
use Rattle.chunk_core.specs.Outcomes.{End, Outcomes, Done}
use Rattle.chunk_core.specs.Tables.{no_values}
use Rattle.chunk_core.specs.Texts.{Frame}
use Rattle.chunk_core.specs.declared.code.Code.{Code}
use Rattle.chunk_core.specs.declared.code.How.{How}
use Rattle.chunk_core.specs.declared.code.How.TheVariants as how
use Rattle.chunk_core.proofs.Members.{among_cons, among_nil}
use Rattle.res_ledger.specs.declared.event.StreamNo.TheVariants.{Inner}
use Rattle.device_port.specs.Device.{Place, DeviceTold, faults_of}
use Rattle.device_port.specs.Depot.{DepotTold}
use Rattle.device_port.specs.Sink.{SinkTold}
use Rattle.run_rules.specs.declared.end.EndOf.{EndOf}
use Rattle.run_rules.specs.Facts.{is_halted, is_memory, is_over}
use Rattle.run_rules.specs.Devices.{DevicesAccounted}
use Rattle.run_rules.specs.Ends.{EndIsCaused, HaveEnds, MayStop, SilenceStops, act_count, last_stream}
use Rattle.run_rules.specs.Exits.{HasOneExit}
use Rattle.run_rules.specs.Homes.{AreLeftAlone}
use Rattle.run_rules.specs.Outputs.{IsOutput, AreOutputs, HaveOutputs, elements_in_pieces}
use Rattle.run_rules.specs.Run.{Performs}
use Rattle.run_rules.specs.Wholeness.{NothingFailed, IsWholeRun}
use Rattle.run_rules.specs.Work.{Work, RunRecord, names_of}
use Rattle.cat_run.specs.declared.outcome.Outcome.{Outcome}
use Rattle.lone_stream.specs.Account.{alone}
use Rattle.cat_run.specs.Alone.{frame_of, RunsAlone}
use Rattle.cat_run.specs.Cat.{run_record_of}
use Rattle.lone_stream.proofs.Accounts.{clean, none_above, told_as_ended}
use Rattle.lone_stream.proofs.AloneWork.{accounted, keeps_rules, homes, shown, faultless}
use Rattle.cat_run.proofs.CutFrames.{rest_is}
use Rattle.cat_run.proofs.Pieces.{cut_is, cut_of, frames_pieces, payloads_pieces, pieces_numbers}

some_is_none : {A : Type 0} (x : A) → Some x ≡ None → ⊥
some_is_none x e = cc

module _ (places : List Place) (scopes : ℕ) (runs ideal : (ℕ → DeviceTold) → Outcomes) (size : ℕ) (old new : DepotTold) (so sn : SinkTold) (o : Outcome) (r : RunsAlone places scopes runs size old new so sn o) where
  abbrev work : Work
  work = alone places scopes runs ideal

  abbrev frames : List Frame
  frames = map (frame_of 0) r.printed.pieces

  abbrev cut : Option Frame
  cut = cut_of 0 o.sink_failed r.printed.next

  abbrev run_record : RunRecord
  run_record = run_record_of old new frames cut r.printed.rest o

  abbrev given : List Element
  given = elements_in_pieces r.printed.pieces

  abbrev end_0 : EndOf
  end_0 = record { who = Inner 0; how = r.how }

  -- over these contents each ideal run ends by itself
  abbrev pub IsIdealDone : Type 0
  IsIdealDone = (v : ℕ → DeviceTold) (ys : List Element) (e : End) → ((k : ℕ) → (faults_of (v k) ≡ 0) × ((v k).content ≡ (r.home k).content)) → ideal v ys e → e ≡ Done

  -- memory is wanting where the stream ended so; a fault of an act has a device that shows it; and where nothing failed the stream is done, and what it gave is an ideal run
  pub record IsCovered : Type 0 where
    pub wants : o.memory ≡ true → r.how ≡ how.Memory
    pub shown : (c : Code) → r.how ≡ how.Fault c → IfSome (act_count c) (λ n. (k : ℕ) × (k < length places) × (0 < n (r.home k)))
    pub whole : is_halted r.how ≡ false → is_memory r.how ≡ false → ((k : ℕ) → k < length places → faults_of (r.home k) ≡ 0) → IsIdealDone
        → (r.how ≡ how.Done) × ((ys : List Element) × ideal r.home ys Done × (rendering_of given ≡ rendering_of ys))

  output : IsOutput work no_values r.home frames 0 r.how
  output = record { pieces = r.printed.pieces; end = r.run.end; run = inl r.run.run; printed = frames_pieces 0 r.printed.pieces; reported = r.run.reported }

  outputs : HaveOutputs work run_record no_values r.home
  outputs = record {
    numbers = pieces_numbers 0 1 (omega arith) r.printed.pieces r.printed.some;
    few = tt;
    in_turn = λ e. absurd (false≢true e);
    outputs = subst (λ es. AreOutputs work no_values r.home frames 0 work.streams es) (sym r.ends) (output, refl);
    rest = rest_is work no_values r.home r.printed.pieces r.printed.next r.printed.rest (omega arith) o.sink_failed r.printed.cut r.run.goes_on;
  }

  -- whoever printed last may stop the only stream
  any_last : (l : Option ℕ) → IfSome l (λ j. MayStop work (Inner j) (Inner 0))
  any_last (Some j) = λ e. absurd (false≢true e)
  any_last None = tt

  silenced : o.sink_failed ≡ true → SilenceStops work run_record (Inner 0)
  silenced t = (inl (λ e. false≢true (ap is_some (sym e) ∙ (cut_is 0 o.sink_failed r.printed.next ∙ t))), any_last (last_stream run_record))

  -- what holds of the only end holds of each
  each_end : (P : EndOf → Type 0) → P end_0 → (e : EndOf) → IsAmong e o.ends → P e
  each_end P h e m = ⊎_elim (λ is. subst P (sym is) h) (λ n. absurd (among_nil n)) (among_cons (subst (λ es. IsAmong e es) r.ends m))

  ends : IsCovered → HaveEnds work run_record r.home
  ends h = record {
    named = subst (λ es. map (λ (e : EndOf). e.who) es ≡ names_of work) (sym r.ends) refl;
    caused = subst (λ es. AllByRecursion (EndIsCaused work run_record) es) (sym r.ends) (
      record {
        halted = λ t. ⊎_elim (λ f. inl (silenced f)) (λ w. inr (inl w)) (r.run.halted (ap is_halted t));
        fault = shown places scopes old new r.home r.how o.ledger r.devices r.account r.how h.shown;
        root = λ t. r.account.closed;
      },
      tt,
    );
    outer = tt;
    stopped = record {
      failed = λ e. absurd (false≢true e);
      silenced = λ e. absurd (false≢true e);
      ended = λ e. absurd (false≢true e);
      halted = λ e k m who is why. inr (none_above (length places) scopes r.home r.how o.ledger r.account k);
      nobody = λ e. absurd (some_is_none 0 (sym e));
    };
    begins = tt;
    memory = each_end (λ e. e.how ≡ how.Memory → o.memory ≡ true) (λ t. r.run.remembered (ap is_memory t));
  }

  complete : IsCovered → o.memory ≡ false → NothingFailed work run_record no_values r.home → IsWholeRun work run_record no_values r.home
  complete h m n =
      let written : o.sink_failed ≡ false = sym (cut_is 0 o.sink_failed r.printed.next) ∙ ap (λ (f : Option Frame). is_some f) n.written in
      let calm = faultless places scopes old new r.home r.how o.ledger r.devices r.account n.devices in
      let running : is_halted r.how ≡ false = false_from_ne_true (is_halted r.how) (λ t. ⊎_elim (λ f. both_ways o.sink_failed written f) (λ w. both_ways o.memory m w) (r.run.halted t)) in
      let remembering : is_memory r.how ≡ false = false_from_ne_true (is_memory r.how) (λ t. both_ways o.memory m (r.run.remembered t)) in
      let w = h.whole running remembering calm n.ideal.0 in
      record {
        done = subst (λ es. AllByRecursion (λ (e : EndOf). e.how ≡ how.Done) es) (sym r.ends) (w.0, tt);
        clean = clean (length places) scopes r.home r.how o.ledger r.account (λ k l. let f : faults_of (r.home k) ≡ 0 = calm k l in omega arith);
        listed = tt;
        output = ((w.1.0, w.1.1, payloads_pieces 0 r.printed.pieces ∙ w.1.2), tt);
      }

  -- the only stream noted something
  left_alone : AreLeftAlone work run_record r.home
  left_alone zero q s is quiet l u = let n = r.account.closed.1 in absurd (quiet (n.0, n.1, n.2))
  left_alone (suc k) q s is quiet l u = cc

  -- the work was done
  pub performs_alone : IsCovered → Performs work run_record
  performs_alone h = record {
    devices = subst (λ ps. DevicesAccounted old new ps o.ledger) (sym (append-nil places)) (accounted places scopes old new r.home r.how o.ledger r.devices r.account);
    ledger = keeps_rules places scopes runs ideal r.home r.how o.ledger r.account;
    ran = inr (record {
      values = no_values;
      home = r.home;
      rows = homes places scopes old new r.home r.how o.ledger r.devices r.account runs ideal no_values run_record refl refl refl left_alone;
      outputs = outputs;
      ends = ends h;
      exits = subst (λ es. AllByRecursion (HasOneExit work run_record no_values r.home) es) (sym r.ends) (
        record { how = r.how; same = inl refl; told = told_as_ended (length places) scopes r.home r.how o.ledger r.account; ran = λ k q. (given, r.run.end, r.run.run, r.run.reported) },
        tt,
      );
      wanting = λ m. (end_0, subst (λ es. IsAmong end_0 es) (sym r.ends) (here []), inl (h.wants m));
      completeness = complete h;
    });
  }
