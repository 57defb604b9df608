-- The run of an evaluation, from what its stream did and what was printed.
use Rattle.std.proofs.Common.{◌≡◌, ◌≢◌, ◌⊎◌, ℕ, zero, suc, ◌<◌, ◌≤◌, ◌^◌, Bool, true, false, List, [], ◌∷◌, ◌++◌, inl, inr, Option, Some, None, IfSome, is_some, refl, sym, ap, ◌∙◌, subst, ⊎_elim, arith, append-nil}
use Rattle.std.proofs.lemmas.Bool.{false≢true}
use Rattle.std.proofs.lemmas.Option.{IfSome_then}
use Rattle.std.specs.List.{AllByRecursion}
use Rattle.cat_run.specs.Cat.{run_record_of}
use Rattle.cat_run.specs.declared.outcome.Outcome.{Outcome}
use Rattle.chain_pipes.specs.Over.{Came, came}
use Rattle.chunk_core.specs.Elements.{Element}
use Rattle.chunk_core.specs.Lists.{IsAmong}
use Rattle.chunk_core.specs.Outcomes.{Cut, Done, End, Fault}
use Rattle.chunk_core.specs.Tables.{no_values}
use Rattle.chunk_core.specs.Texts.{Frame}
use Rattle.chunk_core.specs.declared.code.Code.{Code}
use Rattle.chunk_core.specs.declared.code.How.{How}
use Rattle.chunk_core.specs.declared.code.How.TheVariants as how
use Rattle.chunk_core.proofs.Each.{among_each, each_among}
use Rattle.chunk_core.proofs.Members.{among_cons, among_nil}
use Rattle.device_port.specs.Depot.{DepotTold}
use Rattle.device_port.specs.Device.{DeviceTold, faults_of, to_read}
use Rattle.device_port.specs.Sink.{SinkTold}
use Rattle.eval_rules.specs.Answers.{Answer, answer_of, answer_to, group_over, groups_of, how_of, lines_over}
use Rattle.eval_rules.specs.Evaluation.{HasRun, IdealLineRuns, IsAnswered, IsUnfailed, LineRuns, LinesComeOf, PrintsAnswer, TellsReading, reading_work}
use Rattle.eval_work.specs.Works.{result_of}
use Rattle.joined_runs.proofs.Reading.{IsCountedBy, fault_run}
use Rattle.lone_stream.specs.Account.{ComesBack, IsAccount}
use Rattle.lone_stream.proofs.Accounts.{its_own, none_above, told_as_ended}
use Rattle.lone_stream.proofs.AloneWork.{accounted, faultless, homes, keeps_rules, shown}
use Rattle.pipeline_desc.specs.declared.step.Step.{Step}
use Rattle.res_ledger.specs.declared.event.Event.{Event}
use Rattle.res_ledger.specs.declared.event.StreamNo.TheVariants.{Inner}
use Rattle.res_ledger.specs.Streams.{by_stream}
use Rattle.res_ledger.proofs.Ledgers.{by_out}
use Rattle.run_rules.specs.declared.end.EndOf.{EndOf}
use Rattle.run_rules.specs.Ends.{HasCauseToHalt, HaveEnds, MayStop, SilenceStops, act_count, last_stream}
use Rattle.run_rules.specs.Exits.{HasExit}
use Rattle.run_rules.specs.Facts.{IsOver, is_over}
use Rattle.run_rules.specs.Homes.{AreLeftAlone}
use Rattle.run_rules.specs.Outputs.{IsReported}
use Rattle.run_rules.specs.Work.{RunRecord, Work}
use Rattle.eval_run.specs.Eval.{RunsEval}
use Rattle.eval_run.specs.Printing.{ending_of, is_unwritten, is_wanting}
use Rattle.eval_run.specs.Runs.{HasEvaluated}
use Rattle.eval_run.specs.declared.stop.Stop.{Stop}
use Rattle.eval_run.specs.declared.stop.Stop.TheVariants as stop
use Rattle.eval_run.proofs.LineReading.{ideal_is, lines_near, lines_shows}
use Rattle.eval_run.proofs.Mild.{group_mild}
use Rattle.eval_run.proofs.Shown.{Shows, TellsAnswer, shown as shown_of, the_answer}

-- what stream 0 did, once it has ended so
abbrev pub outcome_by : List Event → How → Option Stop → Outcome
outcome_by L h s = record { ends = record { who = Inner 0; how = ending_of h s } ∷ []; ledger = L; sink_failed = is_unwritten s; memory = is_wanting s }

-- Ends.

-- the end that is reported of a stream that ended by itself
how_is : (e : End) (h : How) → IsReported e h → is_over h ≡ true → h ≡ how_of e
how_is Done h is over = is
how_is (Fault c) h is over = is
how_is Cut h is over = absurd (⊎_elim (λ i. let e : false ≡ true = sym (ap is_over i) ∙ over in cc) (λ i. let e : false ≡ true = sym (ap is_over i) ∙ over in cc) is)

not_cut : (e : End) (h : How) → IsReported e h → is_over h ≡ true → e ≢ Cut
not_cut Done h is over c = cc
not_cut (Fault d) h is over c = cc
not_cut Cut h is over c = absurd (⊎_elim (λ i. let e : false ≡ true = sym (ap is_over i) ∙ over in cc) (λ i. let e : false ≡ true = sym (ap is_over i) ∙ over in cc) is)

over_not_halted : (h : How) → is_over h ≡ true → h ≢ how.Halted
over_not_halted h over i = let e : false ≡ true = sym (ap is_over i) ∙ over in cc

over_not_memory : (h : How) → is_over h ≡ true → h ≢ how.Memory
over_not_memory h over i = let e : false ≡ true = sym (ap is_over i) ∙ over in cc

halted_not_over : IsOver how.Halted → ⊥
halted_not_over (inl e) = cc
halted_not_over (inr (c, e)) = cc

memory_not_over : IsOver how.Memory → ⊥
memory_not_over (inl e) = cc
memory_not_over (inr (c, e)) = cc

code_is : (c d : Code) → how.Fault c ≡ how.Fault d → c ≡ d
code_is c d e = cc

some_cut : (o : Option Frame) → is_some o ≡ true → o ≢ None
some_cut None e n = absurd (false≢true e)
some_cut (Some f) e n = cc

no_cut : (o : Option Frame) → is_some o ≡ false → o ≢ None → ⊥
no_cut None e n = n refl
no_cut (Some f) e n = cc

-- whoever printed last may stop the only stream
any_last : (path : List ℕ) (l : Option ℕ) → IfSome l (λ j. MayStop (reading_work path) (Inner j) (Inner 0))
any_last path (Some j) = λ e. absurd (false≢true e)
any_last path None = tt

module _ (path : List ℕ) (steps : List Step) (n : ℕ) (old new : DepotTold) (so sn : SinkTold) (home : ℕ → DeviceTold) (given : List Element) (end : End) (run : LineRuns (home 0) given end) (h : How) (reported : IsReported end h) (L : List Event)
    (back : ComesBack old new (to_read path ∷ []) home) (account : IsAccount 1 0 home h L) (within : (home 0).at ≤ 2 ^ 40) (s : Option Stop) (v : HasEvaluated (result_of steps) n given h so sn s) where
  abbrev work : Work
  work = reading_work path

  abbrev sh : Shows steps n given h so sn s
  sh = shown_of steps n given h so sn s v

  abbrev o : Outcome
  o = outcome_by L h s

  abbrev c : RunRecord
  c = run_record_of old new sh.frames sh.cut sh.rest o

  abbrev ending : How
  ending = ending_of h s

  abbrev end_0 : EndOf
  end_0 = record { who = Inner 0; how = ending }

  -- the only stream noted something
  left_alone : AreLeftAlone work c home
  left_alone zero q z is quiet l u = let m = account.closed.1 in absurd (quiet (m.0, m.1, m.2))
  left_alone (suc k) q z is quiet l u = cc

  answered_by : (more : List Element) → (is_over h ≡ true → more ≡ []) → (z : Option Stop) (F : List Frame) → TellsAnswer steps n given h F z → IsOver (ending_of h z) → (F ≡ (answer_of steps n (given ++ more) end).frames) × (ending_of h z ≡ how_of (answer_of steps n (given ++ more) end).end)
  answered_by more left None F t over =
      let a : answer_of steps n (given ++ more) end ≡ the_answer F end = ap (λ (xs : List Element). answer_of steps n xs end) (ap (λ (xs : List Element). given ++ xs) (left t.0) ∙ append-nil given) ∙ t.1 end in
      (ap (λ (x : Answer). x.frames) (sym a), how_is end h reported t.0 ∙ ap (λ (x : Answer). how_of x.end) (sym a))
  answered_by more left (Some (stop.Fault d)) F t over =
      let a : answer_of steps n (given ++ more) end ≡ the_answer F (Fault d) = t.0 more end left in
      (ap (λ (x : Answer). x.frames) (sym a), ap (λ (x : Answer). how_of x.end) (sym a))
  answered_by more left (Some stop.Unwritten) F t over = absurd (halted_not_over over)
  answered_by more left (Some stop.Memory) F t over = absurd (memory_not_over over)

  answered : (more : List Element) → (end ≢ Cut → more ≡ []) → IsAnswered steps n (given ++ more) end c ending
  answered more rest =
      let left : is_over h ≡ true → more ≡ [] = λ over. rest (not_cut end h reported over) in
      record { front = sh.begun more end left; whole = answered_by more left s sh.frames sh.tells }

  -- Ends.

  silenced : is_unwritten s ≡ true → SilenceStops work c (Inner 0)
  silenced t = (inl (some_cut sh.cut (sh.broke ∙ t)), any_last path (last_stream c))

  caused_by : (z : Option Stop) (F : List Frame) → TellsAnswer steps n given h F z → (is_unwritten z ≡ true → SilenceStops work c (Inner 0)) → (is_wanting z ≡ true → c.memory ≡ true) → ending_of h z ≡ how.Halted → HasCauseToHalt work c (Inner 0)
  caused_by None F t quiet wants e = absurd (over_not_halted h t.0 e)
  caused_by (Some (stop.Fault d)) F t quiet wants e = cc
  caused_by (Some stop.Unwritten) F t quiet wants e = inl (quiet refl)
  caused_by (Some stop.Memory) F t quiet wants e = cc

  -- the device counts the act that failed
  abbrev pub IsSeen : (DeviceTold → ℕ) → Type 0
  IsSeen k = (r : ℕ) × (r < 1) × (0 < k (home r))

  seen_by : (z : Option Stop) (F : List Frame) → TellsAnswer steps n given h F z → (d : Code) → ending_of h z ≡ how.Fault d → IsCountedBy IsSeen d
  seen_by None F t d e = IfSome_then (act_count d) (lines_shows (home 0) given d (fault_run (LinesComeOf (home 0)) given end h reported run.0 d e)) (λ k m. (0, omega arith, m))
  seen_by (Some (stop.Fault k)) F t d e = group_mild IsSeen steps t.1.0 d (t.1.2 ∙ ap (λ x. Fault x) (code_is k d e))
  seen_by (Some stop.Unwritten) F t d e = cc
  seen_by (Some stop.Memory) F t d e = cc

  remembers : (z : Option Stop) (F : List Frame) → TellsAnswer steps n given h F z → ending_of h z ≡ how.Memory → is_wanting z ≡ true
  remembers None F t e = absurd (over_not_memory h t.0 e)
  remembers (Some (stop.Fault d)) F t e = cc
  remembers (Some stop.Unwritten) F t e = cc
  remembers (Some stop.Memory) F t e = refl

  -- what holds of the only end holds of each
  each_end : (Q : EndOf → Type 0) → Q end_0 → (e : EndOf) → IsAmong e c.ends → Q e
  each_end Q q e m = ⊎_elim (λ is. subst Q (sym is) q) (λ i. absurd (among_nil i)) (among_cons m)

  some_is_none : {A : Type 0} (x : A) → Some x ≡ None → ⊥
  some_is_none x e = cc

  ends : HaveEnds work c home
  ends = record {
    named = refl;
    caused = (
      record {
        halted = caused_by s sh.frames sh.tells silenced (λ t. t);
        fault = shown (to_read path ∷ []) 0 old new home h L back account ending (seen_by s sh.frames sh.tells);
        root = λ t. account.closed;
      },
      tt,
    );
    outer = tt;
    stopped = record {
      failed = λ e. absurd (false≢true e);
      silenced = λ e. absurd (false≢true e);
      ended = λ e. absurd (false≢true e);
      halted = λ e k m who is why. inr (none_above 1 0 home h L account k);
      nobody = λ e. absurd (some_is_none 0 (sym e));
    };
    begins = tt;
    memory = each_end (λ e. e.how ≡ how.Memory → c.memory ≡ true) (remembers s sh.frames sh.tells);
  }

  broken_by : (z : Option Stop) → is_unwritten z ≡ true → ending_of h z ≡ how.Halted
  broken_by None t = absurd (false≢true t)
  broken_by (Some (stop.Fault d)) t = absurd (false≢true t)
  broken_by (Some stop.Unwritten) t = refl
  broken_by (Some stop.Memory) t = absurd (false≢true t)

  wanting_by : (z : Option Stop) → is_wanting z ≡ true → ending_of h z ≡ how.Memory
  wanting_by None t = absurd (false≢true t)
  wanting_by (Some (stop.Fault d)) t = absurd (false≢true t)
  wanting_by (Some stop.Unwritten) t = absurd (false≢true t)
  wanting_by (Some stop.Memory) t = refl

  unwritten_or : (b : Bool) → is_unwritten s ≡ b → c.cut ≢ None → is_unwritten s ≡ true
  unwritten_or true e n = e
  unwritten_or false e n = absurd (no_cut sh.cut (sh.broke ∙ e) n)

  -- Exits.

  same_by : (z : Option Stop) (F : List Frame) → TellsAnswer steps n given h F z → (h ≡ ending_of h z) ⊎ ((group : List Element) × (d : Code) × IsAmong group (groups_of n given) × ((group_over steps group).end ≡ Fault d) × (ending_of h z ≡ how.Fault d)) ⊎ ((ending_of h z ≡ how.Halted) ⊎ (ending_of h z ≡ how.Memory))
  same_by None F t = inl refl
  same_by (Some (stop.Fault d)) F t = inr (inl (t.1.0, d, t.1.1, t.1.2, refl))
  same_by (Some stop.Unwritten) F t = inr (inr (inl refl))
  same_by (Some stop.Memory) F t = inr (inr (inr refl))

  told : AllByRecursion (λ x. HasExit (record { who = Inner 0; how = h }) x.what) L
  told = each_among (λ (x : Event). HasExit (record { who = Inner 0; how = h }) x.what) L (λ x m. among_each (λ (y : Event). HasExit (record { who = Inner 0; how = h }) y.what) x (by_stream (Inner 0) L) (told_as_ended 1 0 home h L account) (by_out (Inner 0) L x m (its_own 1 0 home h L account x m)))

  exits : TellsReading steps n given end c.events ending
  exits = record { reading = h; reported = reported; told = told; same = same_by s sh.frames sh.tells }

  -- Where nothing failed.

  module _ (bytes : List ℕ) (content : (home 0).content ≡ Some bytes) (calm : faults_of (home 0) ≡ 0) where
    ideal : (ys : List Element) (e : End) → IdealLineRuns (home 0) ys e → came ys e ≡ lines_over bytes
    ideal ys e r = ideal_is (home 0) bytes ys e content r

    abbrev answer_by : Came → Answer
    answer_by x = answer_of steps n x.list x.end

    -- all lines were read, where the reading ended by itself
    read_whole : is_over h ≡ true → came given end ≡ lines_over bytes
    read_whole over = ideal given end ((lines_near (home 0) calm within).whole given end run.0 (not_cut end h reported over))

    fault_answer : (F : List Frame) (d : Code) → ((more : List Element) (e : End) → (is_over h ≡ true → more ≡ []) → answer_of steps n (given ++ more) e ≡ the_answer F (Fault d)) → (b : Bool) → is_over h ≡ b → answer_to steps n bytes ≡ the_answer F (Fault d)
    fault_answer F d all true e =
        ap answer_by (sym (read_whole e)) ∙ (ap (λ (xs : List Element). answer_of steps n xs end) (sym (append-nil given)) ∙ all [] end (λ i. refl))
    fault_answer F d all false e =
        let f = (lines_near (home 0) calm within).front given end run.0 in
        ap answer_by (sym (ideal f.0 f.1 f.2)) ∙ (ap (λ (xs : List Element). answer_of steps n xs f.1) f.3.1 ∙ all f.3.0 f.1 (λ t. absurd (false≢true (sym e ∙ t))))

    whole_by : (z : Option Stop) (F : List Frame) → TellsAnswer steps n given h F z → is_unwritten z ≡ false → is_wanting z ≡ false → (F ≡ (answer_to steps n bytes).frames) × (ending_of h z ≡ how_of (answer_to steps n bytes).end)
    whole_by None F t u m =
        let a : answer_to steps n bytes ≡ the_answer F end = ap answer_by (sym (read_whole t.0)) ∙ t.1 end in (ap (λ (x : Answer). x.frames) (sym a), how_is end h reported t.0 ∙ ap (λ (x : Answer). how_of x.end) (sym a))
    whole_by (Some (stop.Fault d)) F t u m =
        let a = fault_answer F d t.0 (is_over h) refl in (ap (λ (x : Answer). x.frames) (sym a), ap (λ (x : Answer). how_of x.end) (sym a))
    whole_by (Some stop.Unwritten) F t u m = absurd (false≢true (sym u))
    whole_by (Some stop.Memory) F t u m = absurd (false≢true (sym m))

  prints_answer : (bytes : List ℕ) → (home 0).content ≡ Some bytes → IsUnfailed c → PrintsAnswer steps n bytes c
  prints_answer bytes content calm =
      let unwritten : is_unwritten s ≡ false = sym sh.broke ∙ ap (λ (x : Option Frame). is_some x) calm.written in
      let w = whole_by bytes content (faultless (to_read path ∷ []) 0 old new home h L back account calm.devices 0 (omega arith)) s sh.frames sh.tells unwritten calm.memory in
      record { frames = w.0; ends = ap (λ (x : How). let e : EndOf = record { who = Inner 0; how = x } in e ∷ []) w.1 }

  has_run : HasRun path steps n c
  has_run =
      let rows = homes (to_read path ∷ []) 0 old new home h L back account (λ w. LineRuns (w 0)) (λ w. IdealLineRuns (w 0)) no_values c refl refl refl left_alone in
      record {
        home = home;
        lines = given;
        end = end;
        ending = ending;
        rows = rows;
        run = run;
        answered = answered;
        rest = sh.rest_of;
        ends_so = refl;
        ends = ends;
        broken = λ e. broken_by s (unwritten_or (is_unwritten s) refl e);
        wanting = λ t. wanting_by s t;
        exits = exits;
        completeness = λ bytes is calm. prints_answer bytes (rows.at_home.1 ∙ is) calm;
      }

  -- the lines of the file went through the steps
  pub evaluated : RunsEval path n steps old new so sn o
  evaluated = record {
    frames = sh.frames;
    cut = sh.cut;
    rest = sh.rest;
    broke = sh.broke;
    evaluates = record {
      devices = accounted (to_read path ∷ []) 0 old new home h L back account;
      ledger = keeps_rules (to_read path ∷ []) 0 (λ w. LineRuns (w 0)) (λ w. IdealLineRuns (w 0)) home h L account;
      ran = inr has_run;
    };
    wrote = sh.wrote;
  }
