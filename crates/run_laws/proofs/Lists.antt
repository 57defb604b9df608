-- Each run over the lines of a list is right.
use Rattle.std.proofs.Common.{◌≡◌, ℕ, true, List, [], ◌∷◌, ◌++◌, map, inl, inr, refl, sym, ◌∙◌, arith}
use Rattle.std.specs.Prelude.{codes}
use Rattle.std.specs.Fmt.{digits}
use Rattle.std.specs.List.{list_all as all}
use Rattle.std.proofs.lemmas.Bool.{false≢true}
use Rattle.chunk_core.specs.Elements.{Byte, Element}
use Rattle.chunk_core.specs.Lists.IsAmong.{here, there}
use Rattle.chunk_core.specs.Outcomes.{Cut, Done, Fault}
use Rattle.chunk_core.specs.Tables.{no_values}
use Rattle.chunk_core.specs.Texts.{frames_text}
use Rattle.chunk_core.specs.declared.code.Code.{Code}
use Rattle.chunk_core.specs.declared.code.Code.TheVariants as code
use Rattle.chunk_core.specs.declared.code.Exit.TheVariants.{Succeeded}
use Rattle.chunk_core.proofs.Distinct.{test_distinct}
use Rattle.res_ledger.specs.declared.event.StreamNo.TheVariants.{Outer}
use Rattle.device_port.specs.Device.{DeviceTold, to_read}
use Rattle.run_rules.specs.Listing.{listing_of}
use Rattle.run_rules.specs.Run.{Performs}
use Rattle.run_rules.specs.Texts.{tail_text}
use Rattle.run_rules.specs.Work.{Work, begun_frames}
use Rattle.run_laws.specs.EndTests.{is_caused}
use Rattle.run_laws.specs.Files.{path_a}
use Rattle.run_laws.specs.Lists.{bad_bytes, bad_device, bad_line, bad_line_text, bad_run, is_no_path, list_bytes, list_devices, list_files, list_work, lister, listing_work, one_line_work, one_too_many, one_too_many_text, path_l, two_listed, two_listed_text}
use Rattle.run_laws.specs.Tables.{path_b}
use Rattle.run_laws.specs.Written.{IsRightRun, homes_of, idle_device, read_device}
use Rattle.run_laws.proofs.Devices.{accounted}
use Rattle.run_laws.proofs.EndsTested.{unbounded}
use Rattle.run_laws.proofs.WorksLeft.{listing_left}
use Rattle.run_laws.proofs.ExitsTested.{ran_by}
use Rattle.run_laws.proofs.GivingTested.{outer_by, rules_by}
use Rattle.run_laws.proofs.ListRuns.{bad_lines, bad_spelled, ideal_list, left_list, none_ended, two_ended, two_lines, two_spelled, whole_list}
use Rattle.run_laws.proofs.Performing.{read_only}
use Rattle.run_laws.proofs.RoomTested.{ends_by}
use Rattle.run_laws.proofs.RowsTested.{housed_by, left_alone_so, never_fall_so}

printed_two : frames_text two_listed.frames ++ tail_text two_listed.ends two_listed.events ≡ two_listed_text
unfolding digits
printed_two = refl

printed_bad : frames_text bad_line.frames ++ tail_text bad_line.ends bad_line.events ≡ bad_line_text
unfolding digits
printed_bad = refl

printed_many : frames_text one_too_many.frames ++ tail_text one_too_many.ends one_too_many.events ≡ one_too_many_text
unfolding digits
printed_many = refl

abbrev bytes_of : List ℕ → List Element
bytes_of bytes = map Byte bytes

-- Two lines.

abbrev list_device : DeviceTold
list_device = read_device 0 path_l list_bytes Succeeded

abbrev homes : ℕ → DeviceTold
homes = homes_of list_devices

pub two_listed_right : IsRightRun (list_work (path_a ∷ path_b ∷ [])) two_listed two_listed_text
two_listed_right = record {
  performs = record {
    devices = accounted list_devices (to_read path_l ∷ to_read path_a ∷ to_read path_b ∷ []) two_listed.events (list_files list_bytes) (list_files list_bytes) refl refl refl refl refl refl refl refl refl (λ path. inr refl)
        (read_only two_listed.depot_new.files list_device refl, (read_only two_listed.depot_new.files (read_device 1 path_a (codes "x\n") Succeeded) refl, (read_only two_listed.depot_new.files (read_device 2 path_b (codes "y\n") Succeeded) refl, tt)));
    ledger = rules_by (list_work (path_a ∷ path_b ∷ [])) two_listed.events refl refl refl refl refl (omega arith, (omega arith, (omega arith, tt))) refl refl;
    ran = inr (ran_by (list_work (path_a ∷ path_b ∷ [])) two_listed no_values homes (listing_left [] (lister 4096 64 (path_a ∷ path_b ∷ [])))
        (record {
          at_home = (refl, refl, inl (here _), (refl, refl, inl (there _ (here _)), (refl, refl, inl (there _ (there _ (here _))), tt)));
          apart = test_distinct (0 ∷ 1 ∷ 2 ∷ []) refl;
          tied = (tt, (refl, (tt, (tt, (refl, (tt, ((refl, refl), (tt, (tt, (tt, (refl, (tt, ((refl, refl), (tt, ((refl, refl), tt)))))))))))))));
          values = λ t key l. absurd (omega (arith, l));
          alone = (left_alone_so (list_work (path_a ∷ path_b ∷ [])) two_listed homes).0 refl;
          housed = housed_by (list_work (path_a ∷ path_b ∷ [])) two_listed homes ((0, omega arith, refl), ((1, omega arith, refl), ((2, omega arith, refl), tt)));
        })
        (record {
          numbers = ((omega arith, omega arith), ((omega arith, omega arith), tt));
          few = tt;
          in_turn = λ t. (never_fall_so (begun_frames two_listed)).0 refl;
          outputs = (
            record { pieces = bytes_of (codes "x\n") ∷ []; end = Done; run = inl (inl (inl (refl, refl, inl (refl, (refl, omega arith, refl, refl))))); printed = refl; reported = refl },
            (record { pieces = bytes_of (codes "y\n") ∷ []; end = Done; run = inl (inl (inl (refl, refl, inl (refl, (refl, omega arith, refl, refl))))); printed = refl; reported = refl }, refl),
          );
          rest = refl;
        })
        (ends_by (list_work (path_a ∷ path_b ∷ [])) two_listed homes refl refl
        (outer_by
        (tt, refl, (record { acquired = (Outer, 1, (_, there _ (here _), refl, refl)); back = here _; ended = refl; unfailed = refl; whole = refl }, (two_lines, Done, whole_list list_bytes two_lines two_spelled list_device refl refl (refl, (refl, omega arith, refl, refl)), refl)))
        (tt, (tt, tt)) refl (λ t. tt)
        (record {
          leased = ((Outer, 1, (_, there _ (there _ (here _)), refl, refl)), ((Outer, 1, (_, there _ (there _ (there _ (here _))), refl, refl)), tt));
          in_time = record { needed = omega (arith, none_ended); ended = λ t. omega (arith, two_ended) };
        })
        unbounded)
        refl refl refl)
        refl
        (λ m n. record {
          done = (refl, (refl, (refl, tt)));
          clean = refl;
          listed = (two_lines, Done, ideal_list list_bytes two_lines two_spelled list_device (inl (omega arith, refl, refl)), refl);
          output = ((bytes_of (codes "x\n"), inl (omega arith, refl, refl), refl), ((bytes_of (codes "y\n"), inl (omega arith, refl, refl), refl), tt));
        }));
  };
  printed = printed_two;
}

-- A line that is given no stream.

abbrev bad_homes : ℕ → DeviceTold
bad_homes = homes_of (bad_device ∷ idle_device 0 (to_read path_a) (codes "x\n") ∷ [])

fault_is_no_end : (c : Code) → Fault c ≡ Done → ⊥
fault_is_no_end c e = cc

-- a list of at most so many lines, of which the second one fails so
module _ (most : ℕ) (c : Code) (fails : listing_of most is_no_path bad_lines Cut ≡ record { lines = path_a ∷ []; end = Fault c }) (whole : (listing_of most is_no_path bad_lines Done).end ≡ Fault c) where
  abbrev bad_work : Work
  bad_work = listing_work [] (lister 4096 most (path_a ∷ []))

  bad_performs : all (is_caused bad_work (bad_run c)) (bad_run c).ends ≡ true → Performs bad_work (bad_run c)
  bad_performs caused = record {
    devices = accounted (bad_device ∷ []) (to_read path_l ∷ to_read path_a ∷ []) (bad_run c).events (list_files bad_bytes) (list_files bad_bytes) refl refl refl refl refl refl refl refl refl (λ path. inr refl) (read_only (bad_run c).depot_new.files bad_device refl, tt);
    ledger = rules_by bad_work (bad_run c).events refl refl refl refl refl (omega arith, (omega arith, tt)) refl refl;
    ran = inr (ran_by bad_work (bad_run c) no_values bad_homes (listing_left [] (lister 4096 most (path_a ∷ [])))
        (record {
          at_home = (refl, refl, inl (here _), (refl, refl, inr (record { opens = refl; at = refl; written = refl; faults = refl }), tt));
          apart = test_distinct (0 ∷ []) refl;
          tied = (tt, (refl, (tt, (tt, (tt, ((refl, refl), tt))))));
          values = λ t key l. absurd (omega (arith, l));
          alone = (left_alone_so bad_work (bad_run c) bad_homes).0 refl;
          housed = housed_by bad_work (bad_run c) bad_homes ((0, omega arith, refl), tt);
        })
        (record { numbers = tt; few = tt; in_turn = λ t. (never_fall_so (begun_frames (bad_run c))).0 refl; outputs = (record { pieces = []; end = Cut; run = inl (inr (refl, inl (refl, tt))); printed = refl; reported = inl refl }, refl); rest = refl })
        (ends_by bad_work (bad_run c) bad_homes refl caused
        (outer_by
        (inr (tt, (lister 4096 most (path_a ∷ []), refl, here _, (bad_lines, Cut, left_list bad_bytes bad_lines bad_spelled bad_device refl refl (refl, tt), fails), inr (refl, inr refl))))
        (tt, tt) refl (λ t. tt)
        (record { leased = ((Outer, 1, (_, there _ (there _ (here _)), refl, refl)), tt); in_time = record { needed = omega (arith, none_ended); ended = λ t. absurd (false≢true t) } })
        unbounded)
        refl refl refl)
        refl
        (λ m n. absurd (fault_is_no_end c (sym whole ∙ n.list bad_lines Done (ideal_list bad_bytes bad_lines bad_spelled bad_device (inl (omega arith, refl, refl)))))));
  }

pub bad_line_right : IsRightRun (list_work (path_a ∷ [])) bad_line bad_line_text
bad_line_right = record { performs = bad_performs 64 code.BadPath refl refl refl; printed = printed_bad }

pub one_too_many_right : IsRightRun (one_line_work (path_a ∷ [])) one_too_many one_too_many_text
one_too_many_right = record { performs = bad_performs 1 code.TooMany refl refl refl; printed = printed_many }
