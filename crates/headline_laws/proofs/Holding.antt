-- Each call that went as it should meets the contract.
use Rattle.std.proofs.Common.{◌≡◌, ◌≢◌, ◌<◌, ℕ, zero, suc, Bool, true, false, List, [], ◌∷◌, ◌++◌, map, length, nat_eq, nat_lt, refl, sym, ap, ◌∙◌, inl, inr, arith, ◌≤◌, Option, Some, None, subst, ⊎_elim}
use Rattle.std.specs.Prelude.{codes}
use Rattle.std.specs.Fmt.{digits}
use Rattle.std.specs.List.{AllByRecursion}
use Rattle.std.proofs.lemmas.Bool.{false≢true}
use Rattle.std.proofs.lemmas.List.Sorted.{IsPermutation-refl}
use Rattle.chunk_core.proofs.Each.{among_each}
use Rattle.chunk_core.proofs.Members.{among_cons, among_nil}
use Rattle.chunk_core.specs.Texts.{Frame, frame_text, frames_text}
use Rattle.chunk_core.specs.Elements.{Byte, Element}
use Rattle.chunk_core.specs.Outcomes.{Done, End, Fault, Cut, exit_of}
use Rattle.chunk_core.specs.declared.code.Code.TheVariants as code
use Rattle.chunk_core.specs.declared.code.Exit.{Exit}
use Rattle.chunk_core.specs.declared.code.Exit.TheVariants.{Succeeded, Errored, Canceled}
use Rattle.chunk_core.specs.declared.code.How.{How}
use Rattle.chunk_core.specs.declared.code.How.TheVariants as how
use Rattle.res_ledger.specs.declared.event.Event.{Event}
use Rattle.res_ledger.specs.Judge.{is_legal, is_complete}
use Rattle.res_ledger.specs.declared.event.What.{What}
use Rattle.res_ledger.specs.declared.event.What.TheVariants.{Acquire, Cancel, Close, Final}
use Rattle.res_ledger.specs.Order.{is_ordered}
use Rattle.res_ledger.proofs.Judged.{legal_sound, complete_sound}
use Rattle.res_ledger.proofs.Ordering.{ordered_sound}
use Rattle.device_port.specs.Device.{DeviceTold, to_read}
use Rattle.device_port.specs.Depot.{DepotTold, HaveOwnNumbers}
use Rattle.run_rules.specs.Devices.{AreAsMany, came_back, is_closed_with}
use Rattle.run_rules.specs.Facts.{at, ended_row, failed_row}
use Rattle.run_rules.specs.Texts.{tail_text}
use Rattle.run_rules.specs.declared.end.EndOf.{EndOf}
use Rattle.run_rules.specs.Ends.{HasCauseToHalt, HaveEnds, IsLast, IsShown}
use Rattle.run_rules.specs.Homes.{AreLeftAlone}
use Rattle.run_rules.specs.Outputs.{HaveOutputs, IsReported}
use Rattle.run_rules.specs.Rules.{ClosesBeforeLeaving, IsOurs, KeepsRules}
use Rattle.run_rules.specs.Run.{Performs}
use Rattle.run_rules.specs.Wholeness.{IsWholeRun, NothingFailed}
use Rattle.run_rules.specs.Work.{RunRecord, Values, owners_of}
use Rattle.res_ledger.specs.Judge.{each_after}
use Rattle.res_ledger.specs.Own.{opens, own}
use Rattle.res_ledger.specs.declared.event.StreamNo.TheVariants.{Inner}
use Rattle.res_ledger.specs.Ledger.{NotesClose}
use Rattle.res_ledger.proofs.Judged.{each_event}
use Rattle.res_ledger.proofs.Stamps.{stamped_sound}
use Rattle.device_port.specs.declared.device.Mode.TheVariants as mode
use Rattle.cat_run.specs.Cat.{FileRuns, cat_work}
use Rattle.flume_cli.specs.Headline.{RunsStreams}
use Rattle.headline_laws.specs.Calls.{a, closed_device, depot_after, depot_before, end_of_0, event, one_row_ledger}
use Rattle.headline_laws.specs.Worked.{hello_device, words_not_read, missing_device, whole_file, empty_file, missing_file, read_fault, failed_close, failed_write}
use Rattle.headline_laws.proofs.Asked.{cat_holds, cat_means}
use Rattle.chunk_core.proofs.Distinct.{distinct_one}
use Rattle.chunk_core.specs.Lists.IsAmong.{here, there}

some_none : {A : Type 0} {x : A} → Some x ≢ None
some_none e = cc

pub none_some : {A : Type 0} {x : A} → None ≢ Some x
none_some e = cc

no_nil : {A : Type 0} (x : A) (xs : List A) → (x ∷ xs) ≢ []
no_nil x xs e = cc

-- The rules, by the tests of a ledger.

-- the event cancels nothing
abbrev cancels_nothing : What → Bool
cancels_nothing (Cancel j x) = false
cancels_nothing w = true

pub never_leaves : (L : List Event) → each_after (λ P e. cancels_nothing e.what) [] L ≡ true → ClosesBeforeLeaving L
never_leaves L h P Q e j x is by what = absurd (false≢true (ap cancels_nothing (sym what) ∙ each_event (λ P e. cancels_nothing e.what) L P Q e h is))

rules_of : (L : List Event) → each_after (λ P e. nat_eq e.stamp (length P)) [] L ≡ true → is_legal L ≡ true → is_complete L ≡ true → is_ordered L ≡ true → AllByRecursion (IsOurs (cat_work a)) L → length (opens (own (Inner 0) L)) ≤ 0 → each_after (λ P e. cancels_nothing e.what) [] L ≡ true → KeepsRules (cat_work a) L
rules_of L stamped legal complete ordered ours scopes none = record {
  stamped = stamped_sound L L refl stamped;
  legal = legal_sound L legal;
  complete = complete_sound L (legal_sound L legal) complete;
  ordered = ordered_sound L ordered;
  ours = ours;
  scopes = (scopes, tt);
  leaving = never_leaves L none;
  given = tt;
}

-- the events of the one row are cat's
acquire_ours : (n s : ℕ) → IsOurs (cat_work a) (event n (Inner 0) (Acquire 0 s))
acquire_ours n s = record {
  by = here [];
  leases = λ j t e. let x : ⊥ = cc in absurd x;
  owns = λ r t e. let is : 0 ≡ r = cc in subst (λ q. at (owners_of (cat_work a)) q ≡ Some (Inner 0)) is refl;
}

close_ours : (n s : ℕ) (x : Exit) → IsOurs (cat_work a) (event n (Inner 0) (Close s x))
close_ours n s x = record { by = here []; leases = λ j t e. let y : ⊥ = cc in absurd y; owns = λ r t e. let y : ⊥ = cc in absurd y }

final_ours : (n r : ℕ) (x : Exit) (ok : Bool) → IsOurs (cat_work a) (event n (Inner 0) (Final r x ok))
final_ours n r x ok = record { by = here []; leases = λ j t e. let y : ⊥ = cc in absurd y; owns = λ q t e. let y : ⊥ = cc in absurd y }

row_ours : (x : Exit) (ok : Bool) → AllByRecursion (IsOurs (cat_work a)) (one_row_ledger x ok)
row_ours x ok = (acquire_ours 0 0, (close_ours 1 0 x, (final_ours 2 0 x ok, tt)))

row_rules : (x : Exit) (ok : Bool) → KeepsRules (cat_work a) (one_row_ledger x ok)
row_rules Succeeded ok = rules_of (one_row_ledger Succeeded ok) refl refl refl refl (row_ours Succeeded ok) (omega arith) refl
row_rules Errored ok = rules_of (one_row_ledger Errored ok) refl refl refl refl (row_ours Errored ok) (omega arith) refl
row_rules Canceled ok = rules_of (one_row_ledger Canceled ok) refl refl refl refl (row_ours Canceled ok) (omega arith) refl

-- cat has no tables
abbrev no_values : Values
no_values t key = None

pub reads_only : mode.Read ≢ mode.Write
reads_only e = cc

pub is_there : ◌≢◌ {A = Option Bool} (Some true) (Some false)
is_there e = cc

-- A file that was opened and closed.

pub one_apart : (d : DeviceTold) → HaveOwnNumbers (d ∷ [])
one_apart d = distinct_one d.number

abbrev hello_frame : Frame
hello_frame = record { stream = 0; payload = codes "hello\n" }

-- the one device has the exit of its row
pub exits_of : (bytes : List ℕ) (at reads closes : ℕ) (ended ok : Bool) (x y : Exit) → AreAsMany (is_closed_with y) (ended_row y) (closed_device bytes at ended x reads closes ∷ []) (to_read a ∷ []) (one_row_ledger x ok)
exits_of bytes at reads closes ended ok Succeeded Succeeded = (refl, (refl, tt))
exits_of bytes at reads closes ended ok Errored Errored = (refl, (refl, tt))
exits_of bytes at reads closes ended ok Canceled Canceled = (refl, (refl, tt))
exits_of bytes at reads closes ended ok x y = tt

-- nobody but stream 0 noted anything
last_of : (L : List Event) → AllByRecursion (IsOurs (cat_work a)) L → (k : ℕ) → IsLast k L
last_of L ours k j n = ⊎_elim (λ (i : n.0.by ≡ Inner 0). let z : Inner j ≡ Inner 0 = sym n.2 ∙ i in let y : j ≡ 0 = cc in omega (arith, y)) (λ m. absurd (among_nil m)) (among_cons (among_each (IsOurs (cat_work a)) n.0 L ours n.1).by)

-- a call of cat whose stream ended so, as a run in which memory wasn't wanting
module _ (old new : DepotTold) (h : How) (L : List Event) (frames : List Frame) (cut : Option Frame) where
  abbrev record_of : RunRecord
  record_of = record { depot_old = old; depot_new = new; ends = end_of_0 h ∷ []; events = L; frames = frames; cut = cut; rest = []; memory = false }

  -- an end that isn't want of memory, with its cause
  ends_of : (w : ℕ → DeviceTold) → (h ≡ how.Halted → HasCauseToHalt (cat_work a) record_of (Inner 0)) → IsShown (came_back old new) (to_read a ∷ []) h → NotesClose L (Inner 0) 0 → h ≢ how.Memory → AllByRecursion (IsOurs (cat_work a)) L → HaveEnds (cat_work a) record_of w
  ends_of w halted fault root ample ours = record {
    named = refl;
    caused = (record { halted = halted; fault = fault; root = λ b. root }, tt);
    outer = tt;
    stopped = record { failed = λ t. absurd (false≢true t); silenced = λ t. absurd (false≢true t); ended = λ t. absurd (false≢true t); halted = λ e k m who is early. inr (last_of L ours k); nobody = λ t. absurd (none_some t) };
    memory = λ e m is. ⊎_elim (λ (q : e ≡ end_of_0 h). absurd (ample (sym (ap (λ (x : EndOf). x.how) q) ∙ is))) (λ m. absurd (among_nil m)) (among_cons m);
    begins = tt;
  }

  -- the stream noted something
  left_alone : (w : ℕ → DeviceTold) → NotesClose L (Inner 0) 0 → AreLeftAlone (cat_work a) record_of w
  left_alone w n zero r s is idle l m = absurd (idle (n.1.0, n.1.1, n.1.2))
  left_alone w n (suc k) r s is idle l m = absurd (none_some is)

module _ (bytes : List ℕ) (at : ℕ) (ended : Bool) (x : Exit) (reads closes : ℕ) (ok : Bool) (frames : List Frame) (cut : Option Frame) (h : How) where
  abbrev device : DeviceTold
  device = closed_device bytes at ended x reads closes

  abbrev run_record : RunRecord
  run_record = record_of (depot_before bytes) (depot_after bytes (device ∷ [])) h (one_row_ledger x ok) frames cut

  root_closed : NotesClose (one_row_ledger x ok) (Inner 0) 0
  root_closed = (x, (event 1 (Inner 0) (Close 0 x), there _ (here _), refl, refl))

  -- the work was done, where its parts were that differ from call to call
  row_performs : at ≤ length bytes → AreAsMany (λ d. nat_lt 0 d.close_faults) failed_row (device ∷ []) (to_read a ∷ []) (one_row_ledger x ok) → ok ≡ nat_eq closes 0 → x ≡ exit_of h → HaveOutputs (cat_work a) run_record no_values (λ r. device) → ((ys : List Element) × (end : End) × FileRuns device ys end × IsReported end h)
      → (h ≡ how.Halted → HasCauseToHalt (cat_work a) run_record (Inner 0)) → IsShown (device ∷ []) (to_read a ∷ []) h → h ≢ how.Memory
      → (NothingFailed (cat_work a) run_record no_values (λ r. device) → IsWholeRun (cat_work a) run_record no_values (λ r. device)) → Performs (cat_work a) run_record
  row_performs within failed tied exit outputs run halted fault ample whole = record {
    devices = record {
      made = refl;
      few = (omega arith, tt);
      retired = refl;
      once = IsPermutation-refl _;
      shut = (record { shut = refl; closes = refl; once = omega arith; there = λ reads missing. absurd (is_there missing); within = within }, tt);
      rows = (omega arith, (tt, (tt, tt)));
      acquired = (refl, (refl, tt));
      failed = failed;
      exits = exits_of bytes at reads closes ended ok x;
      files = λ path. inr refl;
      stored = ((λ writes. absurd (reads_only writes)), tt);
    };
    ledger = row_rules x ok;
    ran = inr (record {
      values = no_values;
      home = λ r. device;
      rows = record { at_home = (refl, refl, inl (here []), tt); apart = one_apart device; tied = (refl, (tt, ((refl, tied), tt))); values = tt; alone = left_alone (depot_before bytes) (depot_after bytes (device ∷ [])) h (one_row_ledger x ok) frames cut (λ r. device) root_closed; housed = λ d b. ⊎_elim (λ (q : d ≡ device). (0, omega arith, q)) (λ m. absurd (among_nil m)) (among_cons b) };
      outputs = outputs;
      ends = ends_of _ _ h (one_row_ledger x ok) frames cut (λ r. device) halted fault root_closed ample (row_ours x ok);
      exits = (record { how = h; same = inl refl; told = (tt, (exit, (tt, tt))); ran = λ k q. run }, tt);
      wanting = λ t. absurd (false≢true t);
      completeness = λ m n. whole n;
    });
  }

-- The texts.

text_of_whole_file : whole_file.out_new.written ≡ Some ([] ++ (frames_text (hello_frame ∷ []) ++ ([] ++ tail_text whole_file.ends whole_file.events)))
unfolding digits
text_of_whole_file = refl

text_of_empty_file : empty_file.out_new.written ≡ Some ([] ++ (frames_text [] ++ ([] ++ tail_text empty_file.ends empty_file.events)))
unfolding digits
text_of_empty_file = refl

text_of_missing_file : missing_file.out_new.written ≡ Some ([] ++ (frames_text [] ++ ([] ++ tail_text missing_file.ends missing_file.events)))
unfolding digits
text_of_missing_file = refl

text_of_read_fault : read_fault.out_new.written ≡ Some ([] ++ (frames_text (record { stream = 0; payload = codes "he" } ∷ []) ++ ([] ++ tail_text read_fault.ends read_fault.events)))
unfolding digits
text_of_read_fault = refl

text_of_failed_close : failed_close.out_new.written ≡ Some ([] ++ (frames_text (hello_frame ∷ []) ++ ([] ++ tail_text failed_close.ends failed_close.events)))
unfolding digits
text_of_failed_close = refl

failed_frame : 0 < length (frame_text 0 (codes "hello\n"))
unfolding digits
failed_frame = omega arith

-- The calls.

pub whole_file_holds : RunsStreams whole_file
whole_file_holds =
    cat_holds whole_file (record { early = false; words = true; unread = false; refused = None; unwritten = false; memory = false; faulty = false; unclean = false }) refl refl
    (record { words = cat_means; unread = refl; unwritten = refl; memory = λ h. absurd (false≢true h); faulty = refl; unclean = refl; status = refl; line = inl refl })
    (record { kept = refl; refused = refl }) (
      record {
        frames = hello_frame ∷ [];
        cut = None;
        rest = [];
        wanted = false;
        performs = row_performs (codes "hello\n") 6 true Succeeded 0 0 true (hello_frame ∷ []) None how.Done (omega arith) tt refl refl
            (record { numbers = ((omega arith, omega arith), tt); few = tt; in_turn = λ t. absurd (false≢true t); outputs = (record { pieces = map Byte (codes "hello\n") ∷ []; end = Done; run = inl (inl (inl (refl, refl, inl (refl, (refl, omega arith, refl, refl)))), inl (refl, inl (refl, tt))); printed = refl; reported = refl }, refl); rest = refl })
            (map Byte (codes "hello\n"), Done, (inl (inl (refl, refl, inl (refl, (refl, omega arith, refl, refl)))), inl (refl, inl (refl, tt))), refl)
            (λ e. let x : ⊥ = cc in absurd x) tt (λ e. cc)
            (λ n. record { done = (refl, tt); clean = refl; listed = tt; output = ((map Byte (codes "hello\n"), inl (omega arith, refl, refl), refl), tt) });
        text = record { said = tail_text whole_file.ends whole_file.events; written = text_of_whole_file; tail = refl; spoke = λ e. absurd (no_nil _ _ e); once = omega arith };
      },
      record { fits = (omega arith, tt); cut_fits = tt },
    )

pub empty_file_holds : RunsStreams empty_file
empty_file_holds =
    cat_holds empty_file (record { early = false; words = true; unread = false; refused = None; unwritten = false; memory = false; faulty = false; unclean = false }) refl refl
    (record { words = cat_means; unread = refl; unwritten = refl; memory = λ h. absurd (false≢true h); faulty = refl; unclean = refl; status = refl; line = inl refl })
    (record { kept = refl; refused = refl }) (
      record {
        frames = [];
        cut = None;
        rest = [];
        wanted = false;
        performs = row_performs [] 0 true Succeeded 0 0 true [] None how.Done (omega arith) tt refl refl
            (record { numbers = tt; few = tt; in_turn = λ t. absurd (false≢true t); outputs = (record { pieces = []; end = Done; run = inl (inl (inl (refl, refl, inl (refl, (refl, omega arith, refl, refl)))), inl (refl, inl (refl, tt))); printed = refl; reported = refl }, refl); rest = refl })
            ([], Done, (inl (inl (refl, refl, inl (refl, (refl, omega arith, refl, refl)))), inl (refl, inl (refl, tt))), refl)
            (λ e. let x : ⊥ = cc in absurd x) tt (λ e. cc)
            (λ n. record { done = (refl, tt); clean = refl; listed = tt; output = (([], inl (omega arith, refl, refl), refl), tt) });
        text = record { said = tail_text empty_file.ends empty_file.events; written = text_of_empty_file; tail = refl; spoke = λ e. absurd (no_nil _ _ e); once = omega arith };
      },
      record { fits = tt; cut_fits = tt },
    )

pub read_fault_holds : RunsStreams read_fault
read_fault_holds =
    cat_holds read_fault (record { early = false; words = true; unread = false; refused = None; unwritten = false; memory = false; faulty = true; unclean = false }) refl refl
    (record { words = cat_means; unread = refl; unwritten = refl; memory = λ h. absurd (false≢true h); faulty = refl; unclean = refl; status = refl; line = inl refl })
    (record { kept = refl; refused = refl }) (
      record {
        frames = record { stream = 0; payload = codes "he" } ∷ [];
        cut = None;
        rest = [];
        wanted = false;
        performs = row_performs (codes "hello\n") 2 false Errored 1 0 true (record { stream = 0; payload = codes "he" } ∷ []) None (how.Fault code.Read) (omega arith) tt refl refl
            (record { numbers = ((omega arith, omega arith), tt); few = tt; in_turn = λ t. absurd (false≢true t); outputs = (record { pieces = map Byte (codes "he") ∷ []; end = Fault code.Read; run = inl (inl (inl (refl, refl, inl (refl, refl))), inl (refl, inr (refl, refl, tt))); printed = refl; reported = refl }, refl); rest = refl })
            (map Byte (codes "he"), Fault code.Read, (inl (inl (refl, refl, inl (refl, refl))), inl (refl, inr (refl, refl, tt))), refl)
            (λ e. let x : ⊥ = cc in absurd x) (hello_device 2 false Errored 1 0, here [], here [], omega arith) (λ e. cc)
            (λ n. let z = n.devices.0 in absurd (omega (arith, z)));
        text = record { said = tail_text read_fault.ends read_fault.events; written = text_of_read_fault; tail = refl; spoke = λ e. absurd (no_nil _ _ e); once = omega arith };
      },
      record { fits = (omega arith, tt); cut_fits = tt },
    )

pub failed_close_holds : RunsStreams failed_close
failed_close_holds =
    cat_holds failed_close (record { early = false; words = true; unread = false; refused = None; unwritten = false; memory = false; faulty = false; unclean = true }) refl refl
    (record { words = cat_means; unread = refl; unwritten = refl; memory = λ h. absurd (false≢true h); faulty = refl; unclean = refl; status = refl; line = inl refl })
    (record { kept = refl; refused = refl }) (
      record {
        frames = hello_frame ∷ [];
        cut = None;
        rest = [];
        wanted = false;
        performs = row_performs (codes "hello\n") 6 true Succeeded 0 1 false (hello_frame ∷ []) None how.Done (omega arith) (refl, (refl, tt)) refl refl
            (record { numbers = ((omega arith, omega arith), tt); few = tt; in_turn = λ t. absurd (false≢true t); outputs = (record { pieces = map Byte (codes "hello\n") ∷ []; end = Done; run = inl (inl (inl (refl, refl, inl (refl, (refl, omega arith, refl, refl)))), inl (refl, inl (refl, tt))); printed = refl; reported = refl }, refl); rest = refl })
            (map Byte (codes "hello\n"), Done, (inl (inl (refl, refl, inl (refl, (refl, omega arith, refl, refl)))), inl (refl, inl (refl, tt))), refl)
            (λ e. let x : ⊥ = cc in absurd x) tt (λ e. cc)
            (λ n. let z = n.devices.0 in absurd (omega (arith, z)));
        text = record { said = tail_text failed_close.ends failed_close.events; written = text_of_failed_close; tail = refl; spoke = λ e. absurd (no_nil _ _ e); once = omega arith };
      },
      record { fits = (omega arith, tt); cut_fits = tt },
    )

pub failed_write_holds : RunsStreams failed_write
failed_write_holds =
    cat_holds failed_write (record { early = false; words = true; unread = false; refused = None; unwritten = true; memory = false; faulty = false; unclean = false }) refl refl
    (record { words = cat_means; unread = refl; unwritten = refl; memory = λ h. absurd (false≢true h); faulty = refl; unclean = refl; status = refl; line = inl refl })
    (record { kept = refl; refused = refl }) (
      record {
        frames = [];
        cut = Some hello_frame;
        rest = [];
        wanted = false;
        performs = row_performs (codes "hello\n") 6 false Canceled 0 0 true [] (Some hello_frame) how.Halted (omega arith) tt refl refl
            (record { numbers = tt; few = tt; in_turn = λ t. absurd (false≢true t); outputs = (record { pieces = []; end = Cut; run = inl (inr (refl, inl (refl, tt)), inl (refl, inl (refl, tt))); printed = refl; reported = inl refl }, refl); rest = record { stream = omega arith; some = omega arith; more = frame_text 0 (codes "hello\n"); front = failed_frame; text = refl; pieces = map Byte (codes "hello\n") ∷ []; run = ([], Cut, (inl (inl (refl, refl, inl (refl, tt))), inl (refl, inl (refl, tt)))); goes_on = refl } })
            ([], Cut, (inr (refl, inl (refl, tt)), inl (refl, inl (refl, tt))), inl refl)
            (λ e. inl (inl (λ n. some_none n), λ t. omega arith)) tt (λ e. cc)
            (λ n. absurd (some_none n.written));
        text = record { said = []; written = refl; tail = (refl, refl); spoke = λ e. absurd (no_nil _ _ e); once = omega arith };
      },
      record { fits = tt; cut_fits = omega arith },
    )

missing_root : NotesClose missing_file.events (Inner 0) 0
missing_root = (Errored, (event 0 (Inner 0) (Close 0 Errored), here [], refl, refl))

pub missing_file_holds : RunsStreams missing_file
missing_file_holds =
    cat_holds missing_file (record { early = false; words = true; unread = false; refused = None; unwritten = false; memory = false; faulty = true; unclean = false }) refl refl
    (record { words = cat_means; unread = refl; unwritten = refl; memory = λ h. absurd (false≢true h); faulty = refl; unclean = refl; status = refl; line = inl refl })
    (record { kept = refl; refused = refl }) (
      record {
        frames = [];
        cut = None;
        rest = [];
        wanted = false;
        performs = record {
          devices = record { made = refl; few = (omega arith, tt); retired = refl; once = IsPermutation-refl _; shut = (record { shut = refl; closes = refl; once = omega arith; there = λ reads missing. refl; within = omega arith }, tt); rows = (tt, tt); acquired = tt; failed = tt; exits = λ x. tt; files = λ path. inr refl; stored = ((λ writes. absurd (reads_only writes)), tt) };
          ledger = rules_of missing_file.events refl refl refl refl (close_ours 0 0 Errored, tt) (omega arith) refl;
          ran = inr (record {
            values = no_values;
            home = λ r. missing_device;
            rows = record { at_home = (refl, refl, inl (here []), tt); apart = one_apart missing_device; tied = (tt, tt); values = tt; alone = left_alone missing_file.depot_old missing_file.depot_new (how.Fault code.Open) missing_file.events [] None (λ r. missing_device) missing_root; housed = λ d b. ⊎_elim (λ (q : d ≡ missing_device). (0, omega arith, q)) (λ m. absurd (among_nil m)) (among_cons b) };
            outputs = record { numbers = tt; few = tt; in_turn = λ t. absurd (false≢true t); outputs = (record { pieces = []; end = Fault code.Open; run = inl (inl (inr (refl, refl, refl, refl, tt)), inr (refl, refl, refl)); printed = refl; reported = refl }, refl); rest = refl };
            ends = ends_of _ _ (how.Fault code.Open) missing_file.events [] None (λ r. missing_device) (λ e. let x : ⊥ = cc in absurd x) (missing_device, here [], here [], omega arith) missing_root (λ e. cc) (close_ours 0 0 Errored, tt);
            exits = (record { how = how.Fault code.Open; same = inl refl; told = (refl, tt); ran = λ k q. ([], Fault code.Open, (inl (inr (refl, refl, refl, refl, tt)), inr (refl, refl, refl)), refl) }, tt);
            wanting = λ t. absurd (false≢true t);
            completeness = λ m n. let z = n.devices.0 in absurd (omega (arith, z));
          });
        };
        text = record { said = tail_text missing_file.ends missing_file.events; written = text_of_missing_file; tail = refl; spoke = λ e. absurd (no_nil _ _ e); once = omega arith };
      },
      record { fits = tt; cut_fits = tt },
    )

pub words_not_read_holds : RunsStreams words_not_read
words_not_read_holds = record {
  causes = record { early = true; words = true; unread = false; refused = None; unwritten = false; memory = true; faulty = false; unclean = false };
  status = record { words = cat_means; unread = refl; unwritten = refl; memory = λ h. refl; faulty = refl; unclean = refl; status = refl; line = inl refl };
  source = record { kept = refl; refused = refl };
  does = record { depot = refl; out = refl; ends = refl; events = refl };
}
