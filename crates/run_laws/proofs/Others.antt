-- Each of the other runs is right.
use Rattle.std.proofs.Common.{◌≡◌, ℕ, true, false, if◌then◌else◌, List, [], ◌∷◌, ◌++◌, map, Some, None, inl, inr, ◌⊎◌, Bool, refl, sym, ap, ◌∙◌, arith}
use Rattle.std.specs.Prelude.{codes}
use Rattle.std.specs.Fmt.{digits}
use Rattle.std.specs.Str.{bytes_eq}
use Rattle.std.proofs.lemmas.Slice.Eq.{bytes_eq-Decides}
use Rattle.std.proofs.lemmas.Bool.{false≢true}
use Rattle.chunk_core.specs.Elements.{Element, Byte, Line}
use Rattle.chunk_core.specs.Lists.IsAmong.{here, there}
use Rattle.chunk_core.specs.Outcomes.{Cut, Done, Fault}
use Rattle.chunk_core.specs.Texts.{frames_text}
use Rattle.chunk_core.specs.declared.code.Code.TheVariants as code
use Rattle.chunk_core.specs.declared.code.Exit.TheVariants.{Succeeded, Errored}
use Rattle.chunk_core.specs.declared.code.How.TheVariants as how
use Rattle.chunk_core.proofs.Distinct.{test_distinct}
use Rattle.res_ledger.specs.declared.event.StreamNo.TheVariants.{Outer}
use Rattle.device_port.specs.Device.{DeviceTold, Place, to_read, to_write}
use Rattle.pull_nodes.specs.Lines.{without_pairs, ended_lines, open_line}
use Rattle.chunk_core.specs.Tables.{no_values}
use Rattle.pull_nodes.specs.Pipes.{part_of, all_of}
use Rattle.pull_nodes.specs.Failures.{FileTells, TellsInTurn}
use Rattle.pull_nodes.specs.Runs.{IsFault, OpensThen, Reads}
use Rattle.pull_nodes.specs.declared.pipe.Pipe.TheVariants as pipe
use Rattle.run_rules.specs.Devices.{IsWrittenBy}
use Rattle.run_rules.specs.Texts.{tail_text}
use Rattle.run_rules.specs.Work.{begun_frames}
use Rattle.run_laws.specs.Files.{path_a}
use Rattle.run_laws.specs.Others.{Handles, u_csv, table_files, two_listing, x_device, hello, no_streams, silent_work, stopped_work, handled_work, copy_work, two_tables, nothing_described, silent, stopped, handled, copied, uncopied, two_tables_text, nothing_described_text, silent_text, stopped_text, handled_text, copied_text, uncopied_text}
use Rattle.run_laws.specs.Tables.{path_b, t_csv, table_bytes}
use Rattle.run_laws.specs.Streams.{Leaves, ThroughPipe, opener}
use Rattle.run_laws.specs.Written.{IsRightRun, homes_of, idle_device, read_device, used_device}
use Rattle.run_laws.proofs.Devices.{accounted}
use Rattle.run_laws.proofs.Performing.{by_content, piped_fault, read_only, values_of}
use Rattle.run_laws.proofs.EndsTested.{unbounded, unfinished}
use Rattle.run_laws.proofs.RoomTested.{ends_by}
use Rattle.run_laws.proofs.WorksLeft.{copy_left, silent_left, two_left}
use Rattle.run_laws.proofs.ExitsTested.{ends_at, outer_ends, ran_by, ran_so}
use Rattle.run_laws.proofs.RowsTested.{housed_by, left_alone_so, never_fall_so}
use Rattle.run_laws.proofs.GivingTested.{outer_by, rules_by}

abbrev bytes_of : List ℕ → List Element
bytes_of bytes = map Byte bytes

-- only the path b was written
module _ (d : DeviceTold) (ds : List DeviceTold) (at : d.place ≡ to_write path_b) (opened : d.opens ≡ 1) where
  b_by : (path bytes : List ℕ) (q r : Bool) → bytes_eq path_b path ≡ q → IsWrittenBy (d ∷ ds) path ⊎ ((if r then Some hello else (if q then Some bytes else None)) ≡ (if r then Some hello else None))
  b_by path bytes true r e = inl (d, here ds, ap (λ (p : Place). p.mode) at, opened, sym ((bytes_eq-Decides path_b path).0 e) ∙ sym (ap (λ (p : Place). p.path) at))
  b_by path bytes false true e = inr refl
  b_by path bytes false false e = inr refl

  b_written : (path bytes : List ℕ) → IsWrittenBy (d ∷ ds) path ⊎ ((if bytes_eq path_a path then Some hello else (if bytes_eq path_b path then Some bytes else None)) ≡ (if bytes_eq path_a path then Some hello else None))
  b_written path bytes = b_by path bytes (bytes_eq path_b path) (bytes_eq path_a path) refl

-- a fault behind five bytes, and then the text
handled_part : part_of no_values pipe.Lines (bytes_of (codes "ab\ncd")) ≡ record { list = Line (codes "ab") ∷ []; fault = None }
unfolding without_pairs ended_lines open_line
handled_part = refl

abbrev handled_device : DeviceTold
handled_device = record (used_device 0 (to_read path_a) (codes "ab\ncd") Errored) { at = 5; read_faults = 1 }

handled_run : Handles (OpensThen handled_device (Leaves (ThroughPipe (Leaves (Reads handled_device)) pipe.Lines)) (Unit {0})) (Line (codes "ab") ∷ Line (codes "lost") ∷ []) Done
handled_run =
    let lines = piped_fault (part_of no_values pipe.Lines) (all_of no_values pipe.Lines) (Leaves (Reads handled_device)) (bytes_of (codes "ab\ncd")) (Line (codes "ab") ∷ []) code.Read (inl (refl, refl)) handled_part in
    inl (inr (Line (codes "ab") ∷ [], Line (codes "lost") ∷ [], Fault code.Read, inl (inl (inl (refl, refl, inl lines))), tt, inl (refl, refl), refl))

-- its read failed, which the text that came for it took
handled_tells : TellsInTurn IsFault (FileTells handled_device) (λ g. Unit {0}) (Unit {0}) Done
handled_tells = inr (Fault code.Read, tt, inl (refl, inr (refl, refl, tt)), tt)

handled_so : handled_work.runs 0 (values_of (handled_device ∷ [])) (homes_of (handled_device ∷ [])) (Line (codes "ab") ∷ Line (codes "lost") ∷ []) Done
handled_so = (handled_run, handled_tells)

printed_two_tables : frames_text two_tables.frames ++ tail_text two_tables.ends two_tables.events ≡ two_tables_text
unfolding digits
printed_two_tables = refl

printed_nothing_described : frames_text nothing_described.frames ++ tail_text nothing_described.ends nothing_described.events ≡ nothing_described_text
unfolding digits
printed_nothing_described = refl

printed_silent : frames_text silent.frames ++ tail_text silent.ends silent.events ≡ silent_text
unfolding digits
printed_silent = refl

printed_stopped : frames_text stopped.frames ++ tail_text stopped.ends stopped.events ≡ stopped_text
unfolding digits
printed_stopped = refl

printed_handled : frames_text handled.frames ++ tail_text handled.ends handled.events ≡ handled_text
unfolding digits
printed_handled = refl

printed_copied : frames_text copied.frames ++ tail_text copied.ends copied.events ≡ copied_text
unfolding digits
printed_copied = refl

printed_uncopied : frames_text uncopied.frames ++ tail_text uncopied.ends uncopied.events ≡ uncopied_text
unfolding digits
printed_uncopied = refl

pub two_tables_right : IsRightRun (no_streams (t_csv ∷ u_csv ∷ [])) two_tables two_tables_text
two_tables_right = record {
  performs = record {
    devices = accounted (read_device 0 t_csv table_bytes Succeeded ∷ read_device 1 u_csv (codes "k,w\n") Succeeded ∷ []) (to_read t_csv ∷ to_read u_csv ∷ []) two_tables.events table_files table_files refl refl refl refl refl refl refl refl refl (λ path. inr refl) (read_only two_tables.depot_new.files (read_device 0 t_csv table_bytes Succeeded) refl, (read_only two_tables.depot_new.files (read_device 1 u_csv (codes "k,w\n") Succeeded) refl, tt));
    ledger = rules_by (no_streams (t_csv ∷ u_csv ∷ [])) two_tables.events refl refl refl refl refl (omega arith, tt) refl refl;
    ran = inr (ran_by (no_streams (t_csv ∷ u_csv ∷ [])) two_tables (values_of (read_device 0 t_csv table_bytes Succeeded ∷ read_device 1 u_csv (codes "k,w\n") Succeeded ∷ [])) (homes_of (read_device 0 t_csv table_bytes Succeeded ∷ read_device 1 u_csv (codes "k,w\n") Succeeded ∷ [])) (λ v w k ys more e r. absurd r)
        (record { at_home = (refl, refl, inl (here _), (refl, refl, inl (there _ (here _)), tt)); apart = test_distinct (0 ∷ 1 ∷ []) refl; tied = (refl, (refl, (tt, ((refl, refl), ((refl, refl), tt))))); values = λ t key l. by_content (homes_of (read_device 0 t_csv table_bytes Succeeded ∷ read_device 1 u_csv (codes "k,w\n") Succeeded ∷ []) t).content key; alone = (left_alone_so (no_streams (t_csv ∷ u_csv ∷ [])) two_tables (homes_of (read_device 0 t_csv table_bytes Succeeded ∷ read_device 1 u_csv (codes "k,w\n") Succeeded ∷ []))).0 refl; housed = housed_by (no_streams (t_csv ∷ u_csv ∷ [])) two_tables (homes_of (read_device 0 t_csv table_bytes Succeeded ∷ read_device 1 u_csv (codes "k,w\n") Succeeded ∷ [])) ((0, omega arith, refl), ((1, omega arith, refl), tt)) })
        (record { numbers = tt; few = tt; in_turn = λ t. (never_fall_so (begun_frames two_tables)).0 refl; outputs = refl; rest = refl })
        (ends_by (no_streams (t_csv ∷ u_csv ∷ [])) two_tables (homes_of (read_device 0 t_csv table_bytes Succeeded ∷ read_device 1 u_csv (codes "k,w\n") Succeeded ∷ [])) refl refl (outer_by ((record { acquired = (Outer, 0, (_, here _, refl, refl)); back = here _; ended = refl; unfailed = refl; whole = (refl, refl) }, (record { acquired = (Outer, 0, (_, there _ (here _), refl, refl)); back = there _ (here _); ended = refl; unfailed = refl; whole = (refl, refl) }, tt)), refl, tt) tt refl tt tt unbounded) refl refl refl)
        refl
        (λ m n. record { done = (refl, tt); clean = refl; listed = tt; output = tt }));
  };
  printed = printed_two_tables;
}

pub nothing_described_right : IsRightRun (no_streams []) nothing_described nothing_described_text
nothing_described_right = record {
  performs = record {
    devices = accounted ([]) ([]) nothing_described.events [] [] refl refl refl refl refl refl refl refl refl (λ path. inr refl) tt;
    ledger = rules_by (no_streams []) nothing_described.events refl refl refl refl refl (omega arith, tt) refl refl;
    ran = inr (ran_by (no_streams []) nothing_described (values_of ([])) (homes_of ([])) (λ v w k ys more e r. absurd r)
        (record { at_home = tt; apart = test_distinct ([]) refl; tied = (tt, tt); values = λ t key l. by_content (homes_of ([]) t).content key; alone = (left_alone_so (no_streams []) nothing_described (homes_of ([]))).0 refl; housed = housed_by (no_streams []) nothing_described (homes_of ([])) tt })
        (record { numbers = tt; few = tt; in_turn = λ t. (never_fall_so (begun_frames nothing_described)).0 refl; outputs = refl; rest = refl })
        (ends_by (no_streams []) nothing_described (homes_of ([])) refl refl (outer_by (tt, refl, tt) tt refl tt tt unbounded) refl refl refl)
        refl
        (λ m n. record { done = (refl, tt); clean = refl; listed = tt; output = tt }));
  };
  printed = printed_nothing_described;
}

pub silent_right : IsRightRun silent_work silent silent_text
silent_right = record {
  performs = record {
    devices = accounted ([]) (to_read t_csv ∷ to_read path_a ∷ to_read path_b ∷ []) silent.events two_listing two_listing refl refl refl refl refl refl refl refl refl (λ path. inr refl) tt;
    ledger = rules_by silent_work silent.events refl refl refl refl refl (omega arith, (omega arith, (omega arith, tt))) refl refl;
    ran = inr (ran_by silent_work silent (values_of (idle_device 0 (to_read t_csv) table_bytes ∷ idle_device 0 (to_read path_a) (codes "x\n") ∷ idle_device 0 (to_read path_b) (codes "y\n") ∷ [])) (homes_of (idle_device 0 (to_read t_csv) table_bytes ∷ idle_device 0 (to_read path_a) (codes "x\n") ∷ idle_device 0 (to_read path_b) (codes "y\n") ∷ [])) silent_left
        (record { at_home = (refl, refl, inr (record { opens = refl; at = refl; written = refl; faults = refl }), (refl, refl, inr (record { opens = refl; at = refl; written = refl; faults = refl }), (refl, refl, inr (record { opens = refl; at = refl; written = refl; faults = refl }), tt))); apart = test_distinct ([]) refl; tied = (tt, tt); values = λ t key l. by_content (homes_of (idle_device 0 (to_read t_csv) table_bytes ∷ idle_device 0 (to_read path_a) (codes "x\n") ∷ idle_device 0 (to_read path_b) (codes "y\n") ∷ []) t).content key; alone = (left_alone_so silent_work silent (homes_of (idle_device 0 (to_read t_csv) table_bytes ∷ idle_device 0 (to_read path_a) (codes "x\n") ∷ idle_device 0 (to_read path_b) (codes "y\n") ∷ []))).0 refl; housed = housed_by silent_work silent (homes_of (idle_device 0 (to_read t_csv) table_bytes ∷ idle_device 0 (to_read path_a) (codes "x\n") ∷ idle_device 0 (to_read path_b) (codes "y\n") ∷ [])) tt })
        (record { numbers = tt; few = omega arith; in_turn = λ t. (never_fall_so (begun_frames silent)).0 refl; outputs = (record { pieces = []; end = Cut; run = inl (inr (refl, inl (refl, tt))); printed = refl; reported = inl refl }, (record { pieces = []; end = Cut; run = inl (inr (refl, inl (refl, tt))); printed = refl; reported = inl refl }, refl)); rest = refl })
        (ends_by silent_work silent (homes_of (idle_device 0 (to_read t_csv) table_bytes ∷ idle_device 0 (to_read path_a) (codes "x\n") ∷ idle_device 0 (to_read path_b) (codes "y\n") ∷ [])) refl refl (outer_by (inl (refl, tt), tt) tt refl tt tt (λ e. ((refl, tt), unfinished))) refl refl refl)
        refl
        (λ m n. absurd (let l = n.most in omega (arith, l))));
  };
  printed = printed_silent;
}

pub stopped_right : IsRightRun stopped_work stopped stopped_text
stopped_right = record {
  performs = record {
    devices = accounted (x_device ∷ []) (to_read path_a ∷ to_read path_b ∷ []) stopped.events two_listing two_listing refl refl refl refl refl refl refl refl refl (λ path. inr refl) (read_only stopped.depot_new.files (x_device) refl, tt);
    ledger = rules_by stopped_work stopped.events refl refl refl refl refl (omega arith, (omega arith, (omega arith, tt))) refl refl;
    ran = inr (ran_by stopped_work stopped (values_of (x_device ∷ idle_device 0 (to_read path_b) (codes "y\n") ∷ [])) (homes_of (x_device ∷ idle_device 0 (to_read path_b) (codes "y\n") ∷ [])) (two_left (opener [] 1 None) (Some 0))
        (record { at_home = (refl, refl, inl (here _), (refl, refl, inr (record { opens = refl; at = refl; written = refl; faults = refl }), tt)); apart = test_distinct (0 ∷ []) refl; tied = (tt, (tt, (refl, (tt, ((refl, refl), (tt, (tt, (tt, tt)))))))); values = λ t key l. by_content (homes_of (x_device ∷ idle_device 0 (to_read path_b) (codes "y\n") ∷ []) t).content key; alone = (left_alone_so stopped_work stopped (homes_of (x_device ∷ idle_device 0 (to_read path_b) (codes "y\n") ∷ []))).0 refl; housed = housed_by stopped_work stopped (homes_of (x_device ∷ idle_device 0 (to_read path_b) (codes "y\n") ∷ [])) ((0, omega arith, refl), tt) })
        (record { numbers = ((omega arith, omega arith), tt); few = tt; in_turn = λ t. (never_fall_so (begun_frames stopped)).0 refl; outputs = (record { pieces = (bytes_of (codes "x\n")) ∷ []; end = Done; run = inl (inl (inl (refl, refl, inl (refl, (refl, omega arith, refl, refl))))); printed = refl; reported = refl }, (record { pieces = []; end = Cut; run = inl (inr (refl, inl (refl, tt))); printed = refl; reported = inl refl }, refl)); rest = refl })
        (ends_by stopped_work stopped (homes_of (x_device ∷ idle_device 0 (to_read path_b) (codes "y\n") ∷ [])) refl refl (outer_by (tt, refl, tt) (tt, (tt, tt)) refl tt tt unbounded) refl refl refl)
        refl
        (λ m n. absurd (false≢true n.until)));
  };
  printed = printed_stopped;
}

pub handled_right : IsRightRun handled_work handled handled_text
handled_right = record {
  performs = record {
    devices = accounted (record (used_device 0 (to_read path_a) (codes "ab\ncd") Errored) { at = 5; read_faults = 1 } ∷ []) (to_read path_a ∷ []) handled.events ((path_a, codes "ab\ncd") ∷ []) ((path_a, codes "ab\ncd") ∷ []) refl refl refl refl refl refl refl refl refl (λ path. inr refl) (read_only handled.depot_new.files (record (used_device 0 (to_read path_a) (codes "ab\ncd") Errored) { at = 5; read_faults = 1 }) refl, tt);
    ledger = rules_by handled_work handled.events refl refl refl refl refl (omega arith, (omega arith, tt)) refl refl;
    ran = inr (ran_so handled_work handled (values_of (record (used_device 0 (to_read path_a) (codes "ab\ncd") Errored) { at = 5; read_faults = 1 } ∷ [])) (homes_of (record (used_device 0 (to_read path_a) (codes "ab\ncd") Errored) { at = 5; read_faults = 1 } ∷ []))
        (outer_ends handled_work (values_of (handled_device ∷ [])) (homes_of (handled_device ∷ [])) how.Done, (ends_at handled_work (values_of (handled_device ∷ [])) (homes_of (handled_device ∷ [])) 0 (Line (codes "ab") ∷ Line (codes "lost") ∷ []) Done how.Done handled_so refl, tt))
        (record { at_home = (refl, refl, inl (here _), tt); apart = test_distinct (0 ∷ []) refl; tied = (tt, (tt, (tt, (refl, (tt, ((refl, refl), (tt, (tt, tt)))))))); values = λ t key l. by_content (homes_of (record (used_device 0 (to_read path_a) (codes "ab\ncd") Errored) { at = 5; read_faults = 1 } ∷ []) t).content key; alone = (left_alone_so handled_work handled (homes_of (record (used_device 0 (to_read path_a) (codes "ab\ncd") Errored) { at = 5; read_faults = 1 } ∷ []))).0 refl; housed = housed_by handled_work handled (homes_of (record (used_device 0 (to_read path_a) (codes "ab\ncd") Errored) { at = 5; read_faults = 1 } ∷ [])) ((0, omega arith, refl), tt) })
        (record { numbers = ((omega arith, omega arith), ((omega arith, omega arith), tt)); few = tt; in_turn = λ t. (never_fall_so (begun_frames handled)).0 refl; outputs = (record { pieces = (Line (codes "ab") ∷ []) ∷ (Line (codes "lost") ∷ []) ∷ []; end = Done; run = inl handled_so; printed = refl; reported = refl }, refl); rest = refl })
        (ends_by handled_work handled (homes_of (record (used_device 0 (to_read path_a) (codes "ab\ncd") Errored) { at = 5; read_faults = 1 } ∷ [])) refl refl (outer_by (tt, refl, tt) (tt, tt) refl tt tt unbounded) refl refl refl)
        refl
        (λ m n. absurd (let z = n.devices.0 in omega (arith, z))));
  };
  printed = printed_handled;
}

pub copied_right : IsRightRun copy_work copied copied_text
copied_right = record {
  performs = record {
    devices = accounted (record (used_device 0 (to_write path_b) [] Succeeded) { written = Some hello } ∷ read_device 1 path_a hello Succeeded ∷ []) (to_write path_b ∷ to_read path_a ∷ []) copied.events ((path_a, hello) ∷ []) ((path_a, hello) ∷ (path_b, hello) ∷ []) refl refl refl refl refl refl refl refl refl (λ path. b_written (record (used_device 0 (to_write path_b) [] Succeeded) { written = Some hello }) (read_device 1 path_a hello Succeeded ∷ []) refl refl path hello) (λ m o. refl, (read_only copied.depot_new.files (read_device 1 path_a hello Succeeded) refl, tt));
    ledger = rules_by copy_work copied.events refl refl refl refl refl (omega arith, (omega arith, tt)) refl refl;
    ran = inr (ran_by copy_work copied (values_of (record (used_device 0 (to_write path_b) [] Succeeded) { written = Some hello } ∷ read_device 1 path_a hello Succeeded ∷ [])) (homes_of (record (used_device 0 (to_write path_b) [] Succeeded) { written = Some hello } ∷ read_device 1 path_a hello Succeeded ∷ [])) copy_left
        (record { at_home = (refl, refl, inl (here _), (refl, refl, inl (there _ (here _)), tt)); apart = test_distinct (0 ∷ 1 ∷ []) refl; tied = (tt, (tt, (refl, (refl, (tt, ((refl, refl), ((refl, refl), (tt, tt)))))))); values = λ t key l. by_content (homes_of (record (used_device 0 (to_write path_b) [] Succeeded) { written = Some hello } ∷ read_device 1 path_a hello Succeeded ∷ []) t).content key; alone = (left_alone_so copy_work copied (homes_of (record (used_device 0 (to_write path_b) [] Succeeded) { written = Some hello } ∷ read_device 1 path_a hello Succeeded ∷ []))).0 refl; housed = housed_by copy_work copied (homes_of (record (used_device 0 (to_write path_b) [] Succeeded) { written = Some hello } ∷ read_device 1 path_a hello Succeeded ∷ [])) ((0, omega arith, refl), ((1, omega arith, refl), tt)) })
        (record { numbers = tt; few = tt; in_turn = λ t. (never_fall_so (begun_frames copied)).0 refl; outputs = (record { pieces = []; end = Done; run = inl (inl (inl (refl, refl, inl (bytes_of hello, Done, inl (inl (refl, refl, inl (refl, (refl, omega arith, refl, refl)))), refl, inl (refl, refl, refl))))); printed = refl; reported = refl }, refl); rest = refl })
        (ends_by copy_work copied (homes_of (record (used_device 0 (to_write path_b) [] Succeeded) { written = Some hello } ∷ read_device 1 path_a hello Succeeded ∷ [])) refl refl (outer_by (tt, refl, tt) (tt, tt) refl tt tt unbounded) refl refl refl)
        refl
        (λ m n. record { done = (refl, (refl, tt)); clean = refl; listed = tt; output = (([], (bytes_of hello, inl (omega arith, refl, refl), refl, refl), refl), tt) }));
  };
  printed = printed_copied;
}

pub uncopied_right : IsRightRun copy_work uncopied uncopied_text
uncopied_right = record {
  performs = record {
    devices = accounted (record (used_device 0 (to_write path_b) [] Errored) { write_faults = 1 } ∷ record (used_device 1 (to_read path_a) hello Errored) { at = 6 } ∷ []) (to_write path_b ∷ to_read path_a ∷ []) uncopied.events ((path_a, hello) ∷ []) ((path_a, hello) ∷ (path_b, []) ∷ []) refl refl refl refl refl refl refl refl refl (λ path. b_written (record (used_device 0 (to_write path_b) [] Errored) { write_faults = 1 }) (record (used_device 1 (to_read path_a) hello Errored) { at = 6 } ∷ []) refl refl path []) (λ m o. refl, (read_only uncopied.depot_new.files (record (used_device 1 (to_read path_a) hello Errored) { at = 6 }) refl, tt));
    ledger = rules_by copy_work uncopied.events refl refl refl refl refl (omega arith, (omega arith, tt)) refl refl;
    ran = inr (ran_by copy_work uncopied (values_of (record (used_device 0 (to_write path_b) [] Errored) { write_faults = 1 } ∷ record (used_device 1 (to_read path_a) hello Errored) { at = 6 } ∷ [])) (homes_of (record (used_device 0 (to_write path_b) [] Errored) { write_faults = 1 } ∷ record (used_device 1 (to_read path_a) hello Errored) { at = 6 } ∷ [])) copy_left
        (record { at_home = (refl, refl, inl (here _), (refl, refl, inl (there _ (here _)), tt)); apart = test_distinct (0 ∷ 1 ∷ []) refl; tied = (tt, (tt, (refl, (refl, (tt, ((refl, refl), ((refl, refl), (tt, tt)))))))); values = λ t key l. by_content (homes_of (record (used_device 0 (to_write path_b) [] Errored) { write_faults = 1 } ∷ record (used_device 1 (to_read path_a) hello Errored) { at = 6 } ∷ []) t).content key; alone = (left_alone_so copy_work uncopied (homes_of (record (used_device 0 (to_write path_b) [] Errored) { write_faults = 1 } ∷ record (used_device 1 (to_read path_a) hello Errored) { at = 6 } ∷ []))).0 refl; housed = housed_by copy_work uncopied (homes_of (record (used_device 0 (to_write path_b) [] Errored) { write_faults = 1 } ∷ record (used_device 1 (to_read path_a) hello Errored) { at = 6 } ∷ [])) ((0, omega arith, refl), ((1, omega arith, refl), tt)) })
        (record { numbers = tt; few = tt; in_turn = λ t. (never_fall_so (begun_frames uncopied)).0 refl; outputs = (record { pieces = []; end = Fault code.Write; run = inl (inl (inl (refl, refl, inl (bytes_of hello, Cut, inl (inl (refl, refl, inl (refl, tt))), refl, inr (refl, (hello, refl), refl))))); printed = refl; reported = refl }, refl); rest = refl })
        (ends_by copy_work uncopied (homes_of (record (used_device 0 (to_write path_b) [] Errored) { write_faults = 1 } ∷ record (used_device 1 (to_read path_a) hello Errored) { at = 6 } ∷ [])) refl refl (outer_by (tt, refl, tt) (tt, tt) refl tt tt unbounded) refl refl refl)
        refl
        (λ m n. absurd (let z = n.devices.0 in omega (arith, z))));
  };
  printed = printed_uncopied;
}
