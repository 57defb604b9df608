-- Each run with a table is right.
use Rattle.std.proofs.Common.{◌≡◌, ℕ, List, [], ◌∷◌, ◌++◌, map, Some, None, inl, inr, refl, ap, ◌∙◌, arith}
use Rattle.std.specs.Prelude.{codes}
use Rattle.std.specs.Fmt.{digits}
use Rattle.csv.specs.Writing.{fields_text, is_blank}
use Rattle.chunk_core.specs.Elements.{Element, Byte, Row, rendering_of}
use Rattle.chunk_core.specs.Lists.IsAmong.{here, there}
use Rattle.chunk_core.specs.Outcomes.{Cut, Done, Fault}
use Rattle.chunk_core.specs.Texts.{frames_text, payloads_of}
use Rattle.chunk_core.specs.declared.code.Code.TheVariants as code
use Rattle.chunk_core.specs.declared.code.Exit.TheVariants.{Succeeded, Errored}
use Rattle.chunk_core.proofs.Distinct.{test_distinct}
use Rattle.res_ledger.specs.declared.event.StreamNo.TheVariants.{Outer}
use Rattle.device_port.specs.Device.{to_read}
use Rattle.run_rules.specs.Texts.{tail_text}
use Rattle.run_rules.specs.Work.{begun_frames}
use Rattle.run_laws.specs.Tables.{t_csv, a_csv, table_bytes, keys_bytes, looked_up, lookup_files, refused_files, missing_files, lookup_work, unread_table_device, lookup_frames, lookup, unread_table, refused_table, missing_table, unopened_file, unread_file, unclean_table, unclean_file, lookup_text, unread_table_text, refused_table_text, missing_table_text, unopened_file_text, unread_file_text, unclean_table_text, unclean_file_text}
use Rattle.run_laws.specs.Streams.{fault_in}
use Rattle.run_laws.specs.Written.{IsRightRun, homes_of, idle_device, missing_device, read_device, used_device}
use Rattle.run_laws.proofs.Devices.{accounted}
use Rattle.run_laws.proofs.Performing.{by_content, read_only, values_of}
use Rattle.run_laws.proofs.EndsTested.{unbounded}
use Rattle.run_laws.proofs.RoomTested.{ends_by}
use Rattle.run_laws.proofs.WorksLeft.{lookup_left}
use Rattle.run_laws.proofs.ExitsTested.{ran_by}
use Rattle.run_laws.proofs.RowsTested.{housed_by, left_alone_so, never_fall_so}
use Rattle.run_laws.proofs.GivingTested.{outer_by, rules_by}

abbrev bytes_of : List ℕ → List Element
bytes_of bytes = map Byte bytes

pub row_texts : payloads_of 0 lookup_frames ≡ rendering_of (Row (codes "k" ∷ codes "v" ∷ []) ∷ Row (codes "z" ∷ [] ∷ []) ∷ [])
unfolding fields_text is_blank
row_texts = refl

some_is : (x y : List ℕ) → Some x ≡ Some y → x ≡ y
some_is x y e = cc

-- the table's bytes are refused
refused_bytes : (bytes : List ℕ) → Some (codes "k\n") ≡ Some bytes → fault_in bytes ≡ None → ⊥
refused_bytes bytes e f = let g : Some code.NoField ≡ None = ap fault_in (some_is (codes "k\n") bytes e) ∙ f in cc

printed_lookup : frames_text lookup.frames ++ tail_text lookup.ends lookup.events ≡ lookup_text
unfolding digits
printed_lookup = refl

printed_unread_table : frames_text unread_table.frames ++ tail_text unread_table.ends unread_table.events ≡ unread_table_text
unfolding digits
printed_unread_table = refl

printed_refused_table : frames_text refused_table.frames ++ tail_text refused_table.ends refused_table.events ≡ refused_table_text
unfolding digits
printed_refused_table = refl

printed_missing_table : frames_text missing_table.frames ++ tail_text missing_table.ends missing_table.events ≡ missing_table_text
unfolding digits
printed_missing_table = refl

printed_unopened_file : frames_text unopened_file.frames ++ tail_text unopened_file.ends unopened_file.events ≡ unopened_file_text
unfolding digits
printed_unopened_file = refl

printed_unread_file : frames_text unread_file.frames ++ tail_text unread_file.ends unread_file.events ≡ unread_file_text
unfolding digits
printed_unread_file = refl

printed_unclean_table : frames_text unclean_table.frames ++ tail_text unclean_table.ends unclean_table.events ≡ unclean_table_text
unfolding digits
printed_unclean_table = refl

printed_unclean_file : frames_text unclean_file.frames ++ tail_text unclean_file.ends unclean_file.events ≡ unclean_file_text
unfolding digits
printed_unclean_file = refl

pub lookup_right : IsRightRun lookup_work lookup lookup_text
lookup_right = record {
  performs = record {
    devices = accounted (read_device 0 t_csv table_bytes Succeeded ∷ read_device 1 a_csv keys_bytes Succeeded ∷ []) (to_read t_csv ∷ to_read a_csv ∷ []) lookup.events lookup_files lookup_files refl refl refl refl refl refl refl refl refl (λ path. inr refl) (read_only lookup.depot_new.files (read_device 0 t_csv table_bytes Succeeded) refl, (read_only lookup.depot_new.files (read_device 1 a_csv keys_bytes Succeeded) refl, tt));
    ledger = rules_by lookup_work lookup.events refl refl refl refl refl (omega arith, (omega arith, tt)) refl refl;
    ran = inr (ran_by lookup_work lookup (values_of (read_device 0 t_csv table_bytes Succeeded ∷ read_device 1 a_csv keys_bytes Succeeded ∷ [])) (homes_of (read_device 0 t_csv table_bytes Succeeded ∷ read_device 1 a_csv keys_bytes Succeeded ∷ [])) lookup_left
        (record { at_home = (refl, refl, inl (here _), (refl, refl, inl (there _ (here _)), tt)); apart = test_distinct (0 ∷ 1 ∷ []) refl; tied = (refl, (tt, (tt, (refl, (tt, ((refl, refl), (tt, ((refl, refl), tt)))))))); values = λ t key l. by_content (homes_of (read_device 0 t_csv table_bytes Succeeded ∷ read_device 1 a_csv keys_bytes Succeeded ∷ []) t).content key; alone = (left_alone_so lookup_work lookup (homes_of (read_device 0 t_csv table_bytes Succeeded ∷ read_device 1 a_csv keys_bytes Succeeded ∷ []))).0 refl; housed = housed_by lookup_work lookup (homes_of (read_device 0 t_csv table_bytes Succeeded ∷ read_device 1 a_csv keys_bytes Succeeded ∷ [])) ((0, omega arith, refl), ((1, omega arith, refl), tt)) })
        (record { numbers = ((omega arith, omega arith), tt); few = tt; in_turn = λ t. (never_fall_so (begun_frames lookup)).0 refl; outputs = (record { pieces = ((looked_up (values_of (read_device 0 t_csv table_bytes Succeeded ∷ read_device 1 a_csv keys_bytes Succeeded ∷ []))).list) ∷ []; end = Done; run = inl (inl (inl (refl, refl, inl (bytes_of keys_bytes, Done, inl (refl, (refl, omega arith, refl, refl)), (refl, refl))))); printed = ap (λ t. t ∷ []) row_texts; reported = refl }, refl); rest = refl })
        (ends_by lookup_work lookup (homes_of (read_device 0 t_csv table_bytes Succeeded ∷ read_device 1 a_csv keys_bytes Succeeded ∷ [])) refl refl (outer_by ((record { acquired = (Outer, 0, (_, here _, refl, refl)); back = here _; ended = refl; unfailed = refl; whole = (refl, refl) }, tt), refl, tt) ((record { acquired = (Outer, 0, (_, here _, refl, refl)); back = here _; ended = refl; unfailed = refl; whole = (refl, refl) }, tt), tt) refl tt tt unbounded) refl refl refl)
        refl
        (λ m n. record { done = (refl, (refl, tt)); clean = refl; listed = tt; output = (((looked_up (values_of (read_device 0 t_csv table_bytes Succeeded ∷ read_device 1 a_csv keys_bytes Succeeded ∷ []))).list, (bytes_of keys_bytes, Done, inl (omega arith, refl, refl), (refl, refl)), row_texts), tt) }));
  };
  printed = printed_lookup;
}

pub unread_table_right : IsRightRun lookup_work unread_table unread_table_text
unread_table_right = record {
  performs = record {
    devices = accounted (unread_table_device ∷ []) (to_read t_csv ∷ to_read a_csv ∷ []) unread_table.events lookup_files lookup_files refl refl refl refl refl refl refl refl refl (λ path. inr refl) (read_only unread_table.depot_new.files (unread_table_device) refl, tt);
    ledger = rules_by lookup_work unread_table.events refl refl refl refl refl (omega arith, (omega arith, tt)) refl refl;
    ran = inr (ran_by lookup_work unread_table (values_of (unread_table_device ∷ idle_device 0 (to_read a_csv) keys_bytes ∷ [])) (homes_of (unread_table_device ∷ idle_device 0 (to_read a_csv) keys_bytes ∷ [])) lookup_left
        (record { at_home = (refl, refl, inl (here _), (refl, refl, inr (record { opens = refl; at = refl; written = refl; faults = refl }), tt)); apart = test_distinct (0 ∷ []) refl; tied = (refl, (tt, ((refl, refl), tt))); values = λ t key l. by_content (homes_of (unread_table_device ∷ idle_device 0 (to_read a_csv) keys_bytes ∷ []) t).content key; alone = (left_alone_so lookup_work unread_table (homes_of (unread_table_device ∷ idle_device 0 (to_read a_csv) keys_bytes ∷ []))).0 refl; housed = housed_by lookup_work unread_table (homes_of (unread_table_device ∷ idle_device 0 (to_read a_csv) keys_bytes ∷ [])) ((0, omega arith, refl), tt) })
        (record { numbers = tt; few = tt; in_turn = λ t. (never_fall_so (begun_frames unread_table)).0 refl; outputs = (record { pieces = []; end = Cut; run = inl (inr (refl, inl (refl, tt))); printed = refl; reported = inl refl }, refl); rest = refl })
        (ends_by lookup_work unread_table (homes_of (unread_table_device ∷ idle_device 0 (to_read a_csv) keys_bytes ∷ [])) refl refl (outer_by (inl (inl ((here _, inr (refl, inl (refl, refl))), tt), tt)) tt refl tt tt unbounded) refl refl refl)
        refl
        (λ m n. absurd (let z = n.devices.0 in omega (arith, z))));
  };
  printed = printed_unread_table;
}

pub refused_table_right : IsRightRun lookup_work refused_table refused_table_text
refused_table_right = record {
  performs = record {
    devices = accounted (read_device 0 t_csv (codes "k\n") Errored ∷ []) (to_read t_csv ∷ to_read a_csv ∷ []) refused_table.events refused_files refused_files refl refl refl refl refl refl refl refl refl (λ path. inr refl) (read_only refused_table.depot_new.files (read_device 0 t_csv (codes "k\n") Errored) refl, tt);
    ledger = rules_by lookup_work refused_table.events refl refl refl refl refl (omega arith, (omega arith, tt)) refl refl;
    ran = inr (ran_by lookup_work refused_table (values_of (read_device 0 t_csv (codes "k\n") Errored ∷ idle_device 0 (to_read a_csv) keys_bytes ∷ [])) (homes_of (read_device 0 t_csv (codes "k\n") Errored ∷ idle_device 0 (to_read a_csv) keys_bytes ∷ [])) lookup_left
        (record { at_home = (refl, refl, inl (here _), (refl, refl, inr (record { opens = refl; at = refl; written = refl; faults = refl }), tt)); apart = test_distinct (0 ∷ []) refl; tied = (refl, (tt, ((refl, refl), tt))); values = λ t key l. by_content (homes_of (read_device 0 t_csv (codes "k\n") Errored ∷ idle_device 0 (to_read a_csv) keys_bytes ∷ []) t).content key; alone = (left_alone_so lookup_work refused_table (homes_of (read_device 0 t_csv (codes "k\n") Errored ∷ idle_device 0 (to_read a_csv) keys_bytes ∷ []))).0 refl; housed = housed_by lookup_work refused_table (homes_of (read_device 0 t_csv (codes "k\n") Errored ∷ idle_device 0 (to_read a_csv) keys_bytes ∷ [])) ((0, omega arith, refl), tt) })
        (record { numbers = tt; few = tt; in_turn = λ t. (never_fall_so (begun_frames refused_table)).0 refl; outputs = (record { pieces = []; end = Cut; run = inl (inr (refl, inl (refl, tt))); printed = refl; reported = inl refl }, refl); rest = refl })
        (ends_by lookup_work refused_table (homes_of (read_device 0 t_csv (codes "k\n") Errored ∷ idle_device 0 (to_read a_csv) keys_bytes ∷ [])) refl refl (outer_by (inl (inl ((here _, inr (refl, inr (refl, refl))), tt), tt)) tt refl tt tt unbounded) refl refl refl)
        refl
        (λ m n. absurd (refused_bytes n.tables.0.0 n.tables.0.1 n.tables.0.2)));
  };
  printed = printed_refused_table;
}

pub missing_table_right : IsRightRun lookup_work missing_table missing_table_text
missing_table_right = record {
  performs = record {
    devices = accounted (missing_device 0 t_csv ∷ []) (to_read t_csv ∷ to_read a_csv ∷ []) missing_table.events missing_files missing_files refl refl refl refl refl refl refl refl refl (λ path. inr refl) (read_only missing_table.depot_new.files (missing_device 0 t_csv) refl, tt);
    ledger = rules_by lookup_work missing_table.events refl refl refl refl refl (omega arith, (omega arith, tt)) refl refl;
    ran = inr (ran_by lookup_work missing_table (values_of (missing_device 0 t_csv ∷ idle_device 0 (to_read a_csv) keys_bytes ∷ [])) (homes_of (missing_device 0 t_csv ∷ idle_device 0 (to_read a_csv) keys_bytes ∷ [])) lookup_left
        (record { at_home = (refl, refl, inl (here _), (refl, refl, inr (record { opens = refl; at = refl; written = refl; faults = refl }), tt)); apart = test_distinct (0 ∷ []) refl; tied = (tt, tt); values = λ t key l. by_content (homes_of (missing_device 0 t_csv ∷ idle_device 0 (to_read a_csv) keys_bytes ∷ []) t).content key; alone = (left_alone_so lookup_work missing_table (homes_of (missing_device 0 t_csv ∷ idle_device 0 (to_read a_csv) keys_bytes ∷ []))).0 refl; housed = housed_by lookup_work missing_table (homes_of (missing_device 0 t_csv ∷ idle_device 0 (to_read a_csv) keys_bytes ∷ [])) ((0, omega arith, refl), tt) })
        (record { numbers = tt; few = tt; in_turn = λ t. (never_fall_so (begun_frames missing_table)).0 refl; outputs = (record { pieces = []; end = Cut; run = inl (inr (refl, inl (refl, tt))); printed = refl; reported = inl refl }, refl); rest = refl })
        (ends_by lookup_work missing_table (homes_of (missing_device 0 t_csv ∷ idle_device 0 (to_read a_csv) keys_bytes ∷ [])) refl refl (outer_by (inl (inl ((here _, inl (refl, refl, refl)), tt), tt)) tt refl tt tt unbounded) refl refl refl)
        refl
        (λ m n. absurd (let z = n.devices.0 in omega (arith, z))));
  };
  printed = printed_missing_table;
}

pub unopened_file_right : IsRightRun lookup_work unopened_file unopened_file_text
unopened_file_right = record {
  performs = record {
    devices = accounted (read_device 0 t_csv table_bytes Errored ∷ record (idle_device 1 (to_read a_csv) keys_bytes) { open_faults = 1 } ∷ []) (to_read t_csv ∷ to_read a_csv ∷ []) unopened_file.events lookup_files lookup_files refl refl refl refl refl refl refl refl refl (λ path. inr refl) (read_only unopened_file.depot_new.files (read_device 0 t_csv table_bytes Errored) refl, (read_only unopened_file.depot_new.files (record (idle_device 1 (to_read a_csv) keys_bytes) { open_faults = 1 }) refl, tt));
    ledger = rules_by lookup_work unopened_file.events refl refl refl refl refl (omega arith, (omega arith, tt)) refl refl;
    ran = inr (ran_by lookup_work unopened_file (values_of (read_device 0 t_csv table_bytes Errored ∷ record (idle_device 1 (to_read a_csv) keys_bytes) { open_faults = 1 } ∷ [])) (homes_of (read_device 0 t_csv table_bytes Errored ∷ record (idle_device 1 (to_read a_csv) keys_bytes) { open_faults = 1 } ∷ [])) lookup_left
        (record { at_home = (refl, refl, inl (here _), (refl, refl, inl (there _ (here _)), tt)); apart = test_distinct (0 ∷ 1 ∷ []) refl; tied = (refl, (tt, (tt, (tt, (tt, ((refl, refl), tt)))))); values = λ t key l. by_content (homes_of (read_device 0 t_csv table_bytes Errored ∷ record (idle_device 1 (to_read a_csv) keys_bytes) { open_faults = 1 } ∷ []) t).content key; alone = (left_alone_so lookup_work unopened_file (homes_of (read_device 0 t_csv table_bytes Errored ∷ record (idle_device 1 (to_read a_csv) keys_bytes) { open_faults = 1 } ∷ []))).0 refl; housed = housed_by lookup_work unopened_file (homes_of (read_device 0 t_csv table_bytes Errored ∷ record (idle_device 1 (to_read a_csv) keys_bytes) { open_faults = 1 } ∷ [])) ((0, omega arith, refl), ((1, omega arith, refl), tt)) })
        (record { numbers = tt; few = tt; in_turn = λ t. (never_fall_so (begun_frames unopened_file)).0 refl; outputs = (record { pieces = []; end = Fault code.Open; run = inl (inl (inr (refl, refl, refl, refl, tt))); printed = refl; reported = refl }, refl); rest = refl })
        (ends_by lookup_work unopened_file (homes_of (read_device 0 t_csv table_bytes Errored ∷ record (idle_device 1 (to_read a_csv) keys_bytes) { open_faults = 1 } ∷ [])) refl refl (outer_by ((record { acquired = (Outer, 0, (_, here _, refl, refl)); back = here _; ended = refl; unfailed = refl; whole = (refl, refl) }, tt), refl, tt) ((record { acquired = (Outer, 0, (_, here _, refl, refl)); back = here _; ended = refl; unfailed = refl; whole = (refl, refl) }, tt), tt) refl tt tt unbounded) refl refl refl)
        refl
        (λ m n. absurd (let z = n.devices.1.0 in omega (arith, z))));
  };
  printed = printed_unopened_file;
}

pub unread_file_right : IsRightRun lookup_work unread_file unread_file_text
unread_file_right = record {
  performs = record {
    devices = accounted (read_device 0 t_csv table_bytes Errored ∷ record (used_device 1 (to_read a_csv) keys_bytes Errored) { read_faults = 1 } ∷ []) (to_read t_csv ∷ to_read a_csv ∷ []) unread_file.events lookup_files lookup_files refl refl refl refl refl refl refl refl refl (λ path. inr refl) (read_only unread_file.depot_new.files (read_device 0 t_csv table_bytes Errored) refl, (read_only unread_file.depot_new.files (record (used_device 1 (to_read a_csv) keys_bytes Errored) { read_faults = 1 }) refl, tt));
    ledger = rules_by lookup_work unread_file.events refl refl refl refl refl (omega arith, (omega arith, tt)) refl refl;
    ran = inr (ran_by lookup_work unread_file (values_of (read_device 0 t_csv table_bytes Errored ∷ record (used_device 1 (to_read a_csv) keys_bytes Errored) { read_faults = 1 } ∷ [])) (homes_of (read_device 0 t_csv table_bytes Errored ∷ record (used_device 1 (to_read a_csv) keys_bytes Errored) { read_faults = 1 } ∷ [])) lookup_left
        (record { at_home = (refl, refl, inl (here _), (refl, refl, inl (there _ (here _)), tt)); apart = test_distinct (0 ∷ 1 ∷ []) refl; tied = (refl, (tt, (tt, (refl, (tt, ((refl, refl), (tt, ((refl, refl), tt)))))))); values = λ t key l. by_content (homes_of (read_device 0 t_csv table_bytes Errored ∷ record (used_device 1 (to_read a_csv) keys_bytes Errored) { read_faults = 1 } ∷ []) t).content key; alone = (left_alone_so lookup_work unread_file (homes_of (read_device 0 t_csv table_bytes Errored ∷ record (used_device 1 (to_read a_csv) keys_bytes Errored) { read_faults = 1 } ∷ []))).0 refl; housed = housed_by lookup_work unread_file (homes_of (read_device 0 t_csv table_bytes Errored ∷ record (used_device 1 (to_read a_csv) keys_bytes Errored) { read_faults = 1 } ∷ [])) ((0, omega arith, refl), ((1, omega arith, refl), tt)) })
        (record { numbers = tt; few = tt; in_turn = λ t. (never_fall_so (begun_frames unread_file)).0 refl; outputs = (record { pieces = []; end = Fault code.Read; run = inl (inl (inl (refl, refl, inl ([], Fault code.Read, inl (refl, refl), (refl, refl))))); printed = refl; reported = refl }, refl); rest = refl })
        (ends_by lookup_work unread_file (homes_of (read_device 0 t_csv table_bytes Errored ∷ record (used_device 1 (to_read a_csv) keys_bytes Errored) { read_faults = 1 } ∷ [])) refl refl (outer_by ((record { acquired = (Outer, 0, (_, here _, refl, refl)); back = here _; ended = refl; unfailed = refl; whole = (refl, refl) }, tt), refl, tt) ((record { acquired = (Outer, 0, (_, here _, refl, refl)); back = here _; ended = refl; unfailed = refl; whole = (refl, refl) }, tt), tt) refl tt tt unbounded) refl refl refl)
        refl
        (λ m n. absurd (let z = n.devices.1.0 in omega (arith, z))));
  };
  printed = printed_unread_file;
}

pub unclean_table_right : IsRightRun lookup_work unclean_table unclean_table_text
unclean_table_right = record {
  performs = record {
    devices = accounted (record (read_device 0 t_csv table_bytes Succeeded) { close_faults = 1 } ∷ read_device 1 a_csv keys_bytes Succeeded ∷ []) (to_read t_csv ∷ to_read a_csv ∷ []) unclean_table.events lookup_files lookup_files refl refl refl refl refl refl refl refl refl (λ path. inr refl) (read_only unclean_table.depot_new.files (record (read_device 0 t_csv table_bytes Succeeded) { close_faults = 1 }) refl, (read_only unclean_table.depot_new.files (read_device 1 a_csv keys_bytes Succeeded) refl, tt));
    ledger = rules_by lookup_work unclean_table.events refl refl refl refl refl (omega arith, (omega arith, tt)) refl refl;
    ran = inr (ran_by lookup_work unclean_table (values_of (record (read_device 0 t_csv table_bytes Succeeded) { close_faults = 1 } ∷ read_device 1 a_csv keys_bytes Succeeded ∷ [])) (homes_of (record (read_device 0 t_csv table_bytes Succeeded) { close_faults = 1 } ∷ read_device 1 a_csv keys_bytes Succeeded ∷ [])) lookup_left
        (record { at_home = (refl, refl, inl (here _), (refl, refl, inl (there _ (here _)), tt)); apart = test_distinct (0 ∷ 1 ∷ []) refl; tied = (refl, (tt, (tt, (refl, (tt, ((refl, refl), (tt, ((refl, refl), tt)))))))); values = λ t key l. by_content (homes_of (record (read_device 0 t_csv table_bytes Succeeded) { close_faults = 1 } ∷ read_device 1 a_csv keys_bytes Succeeded ∷ []) t).content key; alone = (left_alone_so lookup_work unclean_table (homes_of (record (read_device 0 t_csv table_bytes Succeeded) { close_faults = 1 } ∷ read_device 1 a_csv keys_bytes Succeeded ∷ []))).0 refl; housed = housed_by lookup_work unclean_table (homes_of (record (read_device 0 t_csv table_bytes Succeeded) { close_faults = 1 } ∷ read_device 1 a_csv keys_bytes Succeeded ∷ [])) ((0, omega arith, refl), ((1, omega arith, refl), tt)) })
        (record { numbers = ((omega arith, omega arith), tt); few = tt; in_turn = λ t. (never_fall_so (begun_frames unclean_table)).0 refl; outputs = (record { pieces = ((looked_up (values_of (record (read_device 0 t_csv table_bytes Succeeded) { close_faults = 1 } ∷ read_device 1 a_csv keys_bytes Succeeded ∷ []))).list) ∷ []; end = Done; run = inl (inl (inl (refl, refl, inl (bytes_of keys_bytes, Done, inl (refl, (refl, omega arith, refl, refl)), (refl, refl))))); printed = ap (λ t. t ∷ []) row_texts; reported = refl }, refl); rest = refl })
        (ends_by lookup_work unclean_table (homes_of (record (read_device 0 t_csv table_bytes Succeeded) { close_faults = 1 } ∷ read_device 1 a_csv keys_bytes Succeeded ∷ [])) refl refl (outer_by ((record { acquired = (Outer, 0, (_, here _, refl, refl)); back = here _; ended = refl; unfailed = refl; whole = (refl, refl) }, tt), refl, tt) ((record { acquired = (Outer, 0, (_, here _, refl, refl)); back = here _; ended = refl; unfailed = refl; whole = (refl, refl) }, tt), tt) refl tt tt unbounded) refl refl refl)
        refl
        (λ m n. absurd (let z = n.devices.0 in omega (arith, z))));
  };
  printed = printed_unclean_table;
}

pub unclean_file_right : IsRightRun lookup_work unclean_file unclean_file_text
unclean_file_right = record {
  performs = record {
    devices = accounted (read_device 0 t_csv table_bytes Succeeded ∷ record (read_device 1 a_csv keys_bytes Succeeded) { close_faults = 1 } ∷ []) (to_read t_csv ∷ to_read a_csv ∷ []) unclean_file.events lookup_files lookup_files refl refl refl refl refl refl refl refl refl (λ path. inr refl) (read_only unclean_file.depot_new.files (read_device 0 t_csv table_bytes Succeeded) refl, (read_only unclean_file.depot_new.files (record (read_device 1 a_csv keys_bytes Succeeded) { close_faults = 1 }) refl, tt));
    ledger = rules_by lookup_work unclean_file.events refl refl refl refl refl (omega arith, (omega arith, tt)) refl refl;
    ran = inr (ran_by lookup_work unclean_file (values_of (read_device 0 t_csv table_bytes Succeeded ∷ record (read_device 1 a_csv keys_bytes Succeeded) { close_faults = 1 } ∷ [])) (homes_of (read_device 0 t_csv table_bytes Succeeded ∷ record (read_device 1 a_csv keys_bytes Succeeded) { close_faults = 1 } ∷ [])) lookup_left
        (record { at_home = (refl, refl, inl (here _), (refl, refl, inl (there _ (here _)), tt)); apart = test_distinct (0 ∷ 1 ∷ []) refl; tied = (refl, (tt, (tt, (refl, (tt, ((refl, refl), (tt, ((refl, refl), tt)))))))); values = λ t key l. by_content (homes_of (read_device 0 t_csv table_bytes Succeeded ∷ record (read_device 1 a_csv keys_bytes Succeeded) { close_faults = 1 } ∷ []) t).content key; alone = (left_alone_so lookup_work unclean_file (homes_of (read_device 0 t_csv table_bytes Succeeded ∷ record (read_device 1 a_csv keys_bytes Succeeded) { close_faults = 1 } ∷ []))).0 refl; housed = housed_by lookup_work unclean_file (homes_of (read_device 0 t_csv table_bytes Succeeded ∷ record (read_device 1 a_csv keys_bytes Succeeded) { close_faults = 1 } ∷ [])) ((0, omega arith, refl), ((1, omega arith, refl), tt)) })
        (record { numbers = ((omega arith, omega arith), tt); few = tt; in_turn = λ t. (never_fall_so (begun_frames unclean_file)).0 refl; outputs = (record { pieces = ((looked_up (values_of (read_device 0 t_csv table_bytes Succeeded ∷ record (read_device 1 a_csv keys_bytes Succeeded) { close_faults = 1 } ∷ []))).list) ∷ []; end = Done; run = inl (inl (inl (refl, refl, inl (bytes_of keys_bytes, Done, inl (refl, (refl, omega arith, refl, refl)), (refl, refl))))); printed = ap (λ t. t ∷ []) row_texts; reported = refl }, refl); rest = refl })
        (ends_by lookup_work unclean_file (homes_of (read_device 0 t_csv table_bytes Succeeded ∷ record (read_device 1 a_csv keys_bytes Succeeded) { close_faults = 1 } ∷ [])) refl refl (outer_by ((record { acquired = (Outer, 0, (_, here _, refl, refl)); back = here _; ended = refl; unfailed = refl; whole = (refl, refl) }, tt), refl, tt) ((record { acquired = (Outer, 0, (_, here _, refl, refl)); back = here _; ended = refl; unfailed = refl; whole = (refl, refl) }, tt), tt) refl tt tt unbounded) refl refl refl)
        refl
        (λ m n. absurd (let z = n.devices.1.0 in omega (arith, z))));
  };
  printed = printed_unclean_file;
}
