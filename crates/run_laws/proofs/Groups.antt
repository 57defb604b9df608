-- Each run of a group's streams is right.
use Rattle.std.proofs.Common.{◌≡◌, List, [], ◌∷◌, ◌++◌, map, inl, inr, refl, ap, arith}
use Rattle.std.specs.Prelude.{codes}
use Rattle.std.specs.Fmt.{digits}
use Rattle.csv.specs.Writing.{fields_text, is_blank}
use Rattle.chunk_core.specs.Elements.{Element, Byte, Row, rendering_of}
use Rattle.chunk_core.specs.Lists.IsAmong.{here, there}
use Rattle.chunk_core.specs.Outcomes.{Done}
use Rattle.chunk_core.specs.Tables.{Values}
use Rattle.chunk_core.specs.Texts.{frames_text, payloads_of}
use Rattle.chunk_core.specs.declared.code.Exit.TheVariants.{Succeeded}
use Rattle.chunk_core.proofs.Distinct.{test_distinct}
use Rattle.res_ledger.specs.declared.event.StreamNo.TheVariants.{Outer}
use Rattle.device_port.specs.Device.{to_read}
use Rattle.run_rules.specs.Opening.{AreTablesRead}
use Rattle.run_rules.specs.Texts.{tail_text}
use Rattle.run_rules.specs.Work.{begun_frames}
use Rattle.run_laws.specs.Groups.{b_csv, group_work, grouped, grouped_opener, grouped_text, part, pair, pair_devices, pair_files, pair_frames, pair_text, pair_work}
use Rattle.run_laws.specs.Others.{u_csv}
use Rattle.run_laws.specs.Tables.{a_csv, keys_bytes, looked_up_in, lookup_devices, lookup_files, t_csv, table_bytes}
use Rattle.run_laws.specs.Written.{IsRightRun, homes_of, read_device}
use Rattle.run_laws.proofs.Devices.{accounted}
use Rattle.run_laws.proofs.EndsTested.{unbounded}
use Rattle.run_laws.proofs.WorksLeft.{lookup_left, lookups_left}
use Rattle.run_laws.proofs.ExitsTested.{ran_by}
use Rattle.run_laws.proofs.GivingTested.{outer_by, rules_by}
use Rattle.run_laws.proofs.Performing.{by_content, read_only, values_of}
use Rattle.run_laws.proofs.RoomTested.{ends_by}
use Rattle.run_laws.proofs.RowsTested.{housed_by, left_alone_so, never_fall_so}
use Rattle.run_laws.proofs.Tables.{row_texts}

abbrev keys : List Element
keys = map Byte keys_bytes

printed_grouped : frames_text grouped.frames ++ tail_text grouped.ends grouped.events ≡ grouped_text
unfolding digits
printed_grouped = refl

printed_pair : frames_text pair.frames ++ tail_text pair.ends pair.events ≡ pair_text
unfolding digits
printed_pair = refl

-- what the second stream prints
second_texts : payloads_of 1 pair_frames ≡ rendering_of (Row (codes "k" ∷ codes "w" ∷ []) ∷ Row (codes "z" ∷ [] ∷ []) ∷ [])
unfolding fields_text is_blank
second_texts = refl

pub grouped_right : IsRightRun group_work grouped grouped_text
grouped_right = record {
  performs = record {
    devices = accounted lookup_devices (to_read t_csv ∷ to_read a_csv ∷ []) grouped.events lookup_files lookup_files refl refl refl refl refl refl refl refl refl (λ path. inr refl)
        (read_only grouped.depot_new.files (read_device 0 t_csv table_bytes Succeeded) refl, (read_only grouped.depot_new.files (read_device 1 a_csv keys_bytes Succeeded) refl, tt));
    ledger = rules_by group_work grouped.events refl refl refl refl refl (omega arith, (omega arith, tt)) refl refl;
    ran = inr (ran_by group_work grouped (values_of lookup_devices) (homes_of lookup_devices) lookup_left
        (record { at_home = (refl, refl, inl (here _), (refl, refl, inl (there _ (here _)), tt)); apart = test_distinct (0 ∷ 1 ∷ []) refl; tied = (tt, (refl, (tt, (tt, (tt, (refl, (tt, ((refl, refl), (tt, ((refl, refl), tt)))))))))); values = λ t key l. by_content (homes_of lookup_devices t).content key; alone = (left_alone_so group_work grouped (homes_of lookup_devices)).0 refl; housed = housed_by group_work grouped (homes_of lookup_devices) ((0, omega arith, refl), ((1, omega arith, refl), tt)) })
        (record { numbers = ((omega arith, omega arith), tt); few = tt; in_turn = λ t. (never_fall_so (begun_frames grouped)).0 refl; outputs = (record { pieces = (looked_up_in 0 (values_of lookup_devices)).list ∷ []; end = Done; run = inl (inl (inl (refl, refl, inl (keys, Done, inl (refl, (refl, omega arith, refl, refl)), (refl, refl))))); printed = ap (λ t. t ∷ []) row_texts; reported = refl }, refl); rest = refl })
        (ends_by group_work grouped (homes_of lookup_devices) refl refl
        (outer_by ((record { acquired = (Outer, 1, (_, there _ (here _), refl, refl)); back = here _; ended = refl; unfailed = refl; whole = (refl, refl) }, tt), refl, tt)
        ((record { acquired = (Outer, 1, (_, there _ (here _), refl, refl)); back = here _; ended = refl; unfailed = refl; whole = (refl, refl) }, tt), tt) refl tt tt unbounded)
        refl refl refl)
        refl
        (λ m n. record { done = (refl, (refl, tt)); clean = refl; listed = tt; output = (((looked_up_in 0 (values_of lookup_devices)).list, (keys, Done, inl (omega arith, refl, refl), (refl, refl)), row_texts), tt) }));
  };
  printed = printed_grouped;
}

pub pair_right : IsRightRun pair_work pair pair_text
pair_right =
    let v : Values = values_of pair_devices in
    record {
      performs = record {
        devices = accounted pair_devices (to_read t_csv ∷ to_read u_csv ∷ to_read a_csv ∷ to_read b_csv ∷ []) pair.events pair_files pair_files refl refl refl refl refl refl refl refl refl (λ path. inr refl)
            (read_only pair.depot_new.files (read_device 0 t_csv table_bytes Succeeded) refl, (read_only pair.depot_new.files (read_device 1 u_csv (codes "k,w\n") Succeeded) refl, (read_only pair.depot_new.files (read_device 2 a_csv keys_bytes Succeeded) refl, (read_only pair.depot_new.files (read_device 3 b_csv keys_bytes Succeeded) refl, tt))));
        ledger = rules_by pair_work pair.events refl refl refl refl refl (omega arith, (omega arith, (omega arith, tt))) refl refl;
        ran = inr (ran_by pair_work pair v (homes_of pair_devices) (lookups_left (part 1 2 ∷ []))
            (record {
              at_home = (refl, refl, inl (here _), (refl, refl, inl (there _ (here _)), (refl, refl, inl (there _ (there _ (here _))), (refl, refl, inl (there _ (there _ (there _ (here _)))), tt))));
              apart = test_distinct (0 ∷ 1 ∷ 2 ∷ 3 ∷ []) refl;
              tied = (refl, (tt, (refl, (tt, (tt, (tt, (tt, (refl, (tt, ((refl, refl), (tt, (refl, (tt, ((refl, refl), (tt, ((refl, refl), ((refl, refl), tt)))))))))))))))));
              values = λ t key l. by_content (homes_of pair_devices t).content key;
              alone = (left_alone_so pair_work pair (homes_of pair_devices)).0 refl;
              housed = housed_by pair_work pair (homes_of pair_devices) ((0, omega arith, refl), ((1, omega arith, refl), ((2, omega arith, refl), ((3, omega arith, refl), tt))));
            })
            (record {
              numbers = ((omega arith, omega arith), ((omega arith, omega arith), tt));
              few = tt;
              in_turn = λ t. (never_fall_so (begun_frames pair)).0 refl;
              outputs = (
                record { pieces = (looked_up_in 0 v).list ∷ []; end = Done; run = inl (inl (inl (refl, refl, inl (keys, Done, inl (refl, (refl, omega arith, refl, refl)), (refl, refl))))); printed = ap (λ t. t ∷ []) row_texts; reported = refl },
                (record { pieces = (looked_up_in 1 v).list ∷ []; end = Done; run = inl (inl (inl (refl, refl, inl (keys, Done, inl (refl, (refl, omega arith, refl, refl)), (refl, refl))))); printed = ap (λ t. t ∷ []) second_texts; reported = refl }, refl),
              );
              rest = refl;
            })
            (ends_by pair_work pair (homes_of pair_devices) refl refl (outer_by (tables, refl, tt) (tables, (tables, tt)) refl tt tt unbounded) refl refl refl)
            refl
            (λ m n. record { done = (refl, (refl, (refl, tt))); clean = refl; listed = tt; output = (((looked_up_in 0 v).list, (keys, Done, inl (omega arith, refl, refl), (refl, refl)), row_texts), (((looked_up_in 1 v).list, (keys, Done, inl (omega arith, refl, refl), (refl, refl)), second_texts), tt)) }));
      };
      printed = printed_pair;
    }
  where
    tables : AreTablesRead (grouped_opener (t_csv ∷ u_csv ∷ []) (part 1 2 ∷ [])) pair (homes_of pair_devices) 0 (to_read t_csv ∷ to_read u_csv ∷ [])
    tables = (
      record { acquired = (Outer, 0, (_, here _, refl, refl)); back = here _; ended = refl; unfailed = refl; whole = (refl, refl) },
      (record { acquired = (Outer, 1, (_, there _ (there _ (here _)), refl, refl)); back = there _ (here _); ended = refl; unfailed = refl; whole = (refl, refl) }, tt),
    )
