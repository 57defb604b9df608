-- The tale of a collector before its first stream.
use Rattle.std.proofs.Common.{◌≡◌, ◌≢◌, ◌⊎◌, true, false, List, [], ◌∷◌, ◌++◌, Some, None, refl, sym, ◌∙◌, ap}
use Rattle.chunk_core.specs.Lists.{IsAmong}
use Rattle.chunk_core.specs.declared.code.How.TheVariants as how
use Rattle.chunk_core.proofs.Members.{among_last, among_left}
use Rattle.device_port.specs.Sink.{SinkTold}
use Rattle.interrupt_ctx.specs.Ends.{BoardSeen, SeatSeen}
use Rattle.interrupt_ctx.specs.declared.view.Interruption.{Interruption}
use Rattle.interrupt_ctx.specs.Views.{interruption}
use Rattle.interrupt_ctx.specs.declared.why.Stop.{Stop}
use Rattle.interrupt_ctx.specs.declared.why.Why.TheVariants as why
use Rattle.join_report.specs.Calls.{EndsOuter}
use Rattle.join_report.specs.Stopping.{Interrupts, IsSeated, IsUnknown, Learns, TellsKnown, view_of}
use Rattle.join_report.specs.declared.report.Report.{Report}
use Rattle.join_report.specs.declared.stops.Stops.{Stops}
use Rattle.join_report.proofs.Steps as reports
use Rattle.join_tale.specs.Steps.{first_tale, heeded, learned, outer_ended}
use Rattle.join_tale.specs.Tales.{Tale}
use Rattle.join_tale.proofs.Growing.{marked_known}
use Rattle.join_report.proofs.Learning.{learns_known, unknown_is}
use Rattle.join_tale.proofs.Steps.{starts, starts_met}
use Rattle.pipeline_desc.specs.Meant.{PlanMeant, stream_limit}
use Rattle.collector.specs.declared.collector.JoinRoom.{JoinRoom}
use Rattle.dealt_streams.specs.Works.{plan_bounds}
use Rattle.collector.specs.Collecting.{KeepsTale}
use Rattle.collector.specs.Starting.{IsRoomFor}
use Rattle.collector.proofs.OuterSteps.{whole_found}
use Rattle.res_ledger.specs.declared.event.StreamNo.TheVariants.{Outer}
use Rattle.collector.proofs.Telling.{learns_none, seen_so, tale_closes, tale_heeds, tale_learns, tells_halted, wrote_none}

module _ {S V F D T : Type 0} (p : PlanMeant) (room : JoinRoom S V F D T) (fr : IsRoomFor p room) (s0 : SinkTold) where
  first_known : TellsKnown first_tale room.stops
  first_known = record { set = sym (ap (λ (x : SeatSeen). x.view.set) fr.seat); seen = sym (ap (λ (x : SeatSeen). x.view.seen) fr.seat) }

  first_seats : (view_of room.stops).out ≡ 0
  first_seats = ap (λ (x : SeatSeen). x.view.out) fr.seat

  -- where frames are wanted
  pub tale_starts : p.take ≢ Some 0 → KeepsTale p None room.report room.stops 0 s0 s0 [] first_tale
  tale_starts some = record {
    is_tale = starts (plan_bounds p) some;
    fates_are = refl;
    outer_is = refl;
    report_is = fr.some some;
    known = first_known;
    seated = fr.seated;
    seats = first_seats;
    contexts = fr.contexts;
    wrote = wrote_none s0 [] None [] [] false false;
  }

  -- where none is wanted the run was interrupted, which was found, and the outer stream ended
  module _ (none : p.take ≡ Some 0) (again : Stops) (m : Interrupts room.stops again 0 (record { why = why.Take; at = 0 })) (seated : IsSeated again) where
    abbrev unwanted : Tale
    unwanted = record (learned first_tale m.0 m.1) { ceased = true }

    pub tale_unwanted : KeepsTale p None room.report again 0 s0 s0 [] unwanted
    tale_unwanted = record {
      is_tale = starts_met (plan_bounds p) m.0 m.1 refl m.2 none;
      fates_are = refl;
      outer_is = refl;
      report_is = reports.learns p.take (stream_limit p) (record first_tale { ceased = true }) room.report (fr.none none) m.0 m.1;
      known = let n = learns_known first_tale room.stops again m.0 m.1 first_known m.3 in record { set = n.set; seen = n.seen };
      seated = seated;
      seats = m.3.out ∙ first_seats;
      contexts = ap (λ (b : BoardSeen). b.contexts) m.3.board ∙ fr.contexts;
      wrote = wrote_none s0 [] None ([] ++ m.0) ([] ++ m.1) true false;
    }

    -- a look finds it
    pub surely_found : IsUnknown (view_of again) 0 → ⊥
    surely_found u = unknown_is unwanted again 0 tale_unwanted.known u (marked_known first_tale 0 (record { why = why.Take; at = 0 }) m.0 m.1 m.2)

    module _ (last : Stops) (cs : List Interruption) (w : Stop) (l : Learns again last [] cs) (sits : IsSeated last) (r : IsAmong (interruption 0 w) cs ⊎ IsAmong (interruption 0 w) cs) (report : Report) (ends : EndsOuter how.Halted room.report report) where
      abbrev looked : Tale
      looked = learned unwanted [] cs

      -- it obeys what the look found
      abbrev obeying : Tale
      obeying = heeded looked ((Outer, w) ∷ [])

      abbrev pub halted : Tale
      halted = learned (outer_ended obeying how.Halted) [] []

      pub tale_halted : KeepsTale p (Some how.Halted) report last 0 s0 s0 [] halted
      tale_halted =
          let kt = tale_learns p None room.report again 0 s0 s0 [] unwanted tale_unwanted last cs l sits in
          let found = seen_so p None room.report last 0 s0 s0 [] looked kt 0 w (whole_found again last cs w l r) in
          tale_closes p None room.report last 0 s0 s0 [] obeying (tale_heeds p None room.report last 0 s0 s0 [] looked kt ((Outer, w) ∷ [])) how.Halted last report [] [] refl (learns_none last) sits ends (tells_halted p halted (w, among_last looked.obeyed (Outer, w), among_left [] found))
