-- Each run of one stream that is never begun is right.
use Rattle.std.proofs.Common.{◌≡◌, [], ◌∷◌, ◌++◌, Some, None, inl, inr, refl, sym, arith}
use Rattle.std.specs.Prelude.{codes}
use Rattle.std.specs.Fmt.{digits}
use Rattle.std.proofs.lemmas.Bool.{false≢true}
use Rattle.chunk_core.specs.Outcomes.{Cut}
use Rattle.chunk_core.specs.Tables.{no_values}
use Rattle.chunk_core.specs.Texts.{frames_text}
use Rattle.chunk_core.proofs.Distinct.{distinct_nil}
use Rattle.device_port.specs.Device.{to_read}
use Rattle.run_rules.specs.Run.{Performs}
use Rattle.run_rules.specs.Texts.{tail_text}
use Rattle.run_rules.specs.Work.{begun_frames}
use Rattle.run_laws.specs.Files.{path_a}
use Rattle.run_laws.specs.OneStream.{one_stream_work, unbegun, ungiven, ungiven_text, x_listing}
use Rattle.run_laws.specs.Written.{IsRightRun, homes_of, idle_device}
use Rattle.run_laws.proofs.Devices.{accounted}
use Rattle.run_laws.proofs.EndsTested.{unbounded, unfinished}
use Rattle.run_laws.proofs.RoomTested.{ends_by}
use Rattle.run_laws.proofs.WorksLeft.{one_left}
use Rattle.run_laws.proofs.ExitsTested.{ran_by}
use Rattle.run_laws.proofs.RowsTested.{housed_by, left_alone_so, never_fall_so}
use Rattle.run_laws.proofs.GivingTested.{outer_by, rules_by}

printed_ungiven : frames_text ungiven.frames ++ tail_text ungiven.ends ungiven.events ≡ ungiven_text
unfolding digits
printed_ungiven = refl

pub ungiven_right : IsRightRun (one_stream_work (Some 0)) ungiven ungiven_text
ungiven_right = record {
  performs = record {
    devices = accounted [] (to_read path_a ∷ []) ungiven.events x_listing x_listing refl refl refl refl refl refl refl refl refl (λ path. inr refl) tt;
    ledger = rules_by (one_stream_work (Some 0)) ungiven.events refl refl refl refl refl (omega arith, (omega arith, tt)) refl refl;
    ran = inr (ran_by (one_stream_work (Some 0)) ungiven no_values (homes_of (idle_device 0 (to_read path_a) (codes "x\n") ∷ [])) (one_left (Some 0))
        (record { at_home = (refl, refl, inr (record { opens = refl; at = refl; written = refl; faults = refl }), tt); apart = distinct_nil; tied = (tt, tt); values = λ t key l. absurd (omega (arith, l)); alone = (left_alone_so (one_stream_work (Some 0)) ungiven (homes_of (idle_device 0 (to_read path_a) (codes "x\n") ∷ []))).0 refl; housed = housed_by (one_stream_work (Some 0)) ungiven (homes_of (idle_device 0 (to_read path_a) (codes "x\n") ∷ [])) tt })
        (record { numbers = tt; few = omega arith; in_turn = λ t. (never_fall_so (begun_frames ungiven)).0 refl; outputs = (record { pieces = []; end = Cut; run = inl (inr (refl, inl (refl, tt))); printed = refl; reported = inl refl }, refl); rest = refl })
        (ends_by (one_stream_work (Some 0)) ungiven (homes_of (idle_device 0 (to_read path_a) (codes "x\n") ∷ [])) refl refl (outer_by (inl tt, tt) tt refl tt tt (λ e. (tt, unfinished))) refl refl refl)
        refl
        (λ m n. absurd (let l = n.most in omega (arith, l))));
  };
  printed = printed_ungiven;
}

pub unbegun_right : Performs (one_stream_work None) unbegun
unbegun_right = record {
  devices = accounted [] (to_read path_a ∷ []) unbegun.events x_listing x_listing refl refl refl refl refl refl refl refl refl (λ path. inr refl) tt;
  ledger = rules_by (one_stream_work None) unbegun.events refl refl refl refl refl (omega arith, (omega arith, tt)) refl refl;
  ran = inr (ran_by (one_stream_work None) unbegun no_values (homes_of (idle_device 0 (to_read path_a) (codes "x\n") ∷ [])) (one_left None)
      (record { at_home = (refl, refl, inr (record { opens = refl; at = refl; written = refl; faults = refl }), tt); apart = distinct_nil; tied = (tt, (tt, (tt, tt))); values = λ t key l. absurd (omega (arith, l)); alone = (left_alone_so (one_stream_work None) unbegun (homes_of (idle_device 0 (to_read path_a) (codes "x\n") ∷ []))).0 refl; housed = housed_by (one_stream_work None) unbegun (homes_of (idle_device 0 (to_read path_a) (codes "x\n") ∷ [])) tt })
      (record { numbers = tt; few = tt; in_turn = λ t. (never_fall_so (begun_frames unbegun)).0 refl; outputs = (record { pieces = []; end = Cut; run = inl (inr (refl, inl (refl, tt))); printed = refl; reported = inr refl }, refl); rest = refl })
      (ends_by (one_stream_work None) unbegun (homes_of (idle_device 0 (to_read path_a) (codes "x\n") ∷ [])) refl refl (outer_by (tt, refl, tt) (tt, tt) refl tt tt unbounded) refl refl refl)
      refl
      (λ m n. absurd (false≢true (sym m))));
}
