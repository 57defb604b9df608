-- The lease may be cancelled, and then the tree is all that it was to be.
use Rattle.std.proofs.Common.{subst}
use Rattle.row_seat.specs.Views.{OthersFit}
use Rattle.scope_tree.specs.Trees.{seen}
use Rattle.tree_laws.proofs.Kept.{closed_rows_end}
use Rattle.stream_jobs.proofs.Parting.{leave_events, leave_rows, leaves_so, visit_by, visit_kept, visit_main, visit_pairs}
use Rattle.stream_jobs.proofs.leaving.part.Goals as goal

pub cancel-requires-clause-may : goal.cancel-requires-clause-may
cancel-requires-clause-may g c =
    let view = g.S.RowSeat.view in
    let told = g.V.Device.told in
    let l = c.args.lease in
    let v = c.requires.ended in
    let y = v.1.site in
    let t = c.args.tree in
    (visit_kept told l.stream l.rows.items v.0 y (seen view t) v.2.tree v.3, λ by. closed_rows_end view t c.requires.fits.sound (visit_main told l.stream l.rows.items v.0 y (seen view t) v.2.tree v.3) v.2.root)

pub cancel-requires-clause-pairs : goal.cancel-requires-clause-pairs
cancel-requires-clause-pairs g c r m =
    let l = c.args.lease in
    let v = c.requires.ended in
    visit_pairs g.V.Device.told l.stream l.rows.items v.0 v.1.site (seen g.S.RowSeat.view c.args.tree) v.2.tree v.3 r m

pub cancel-requires-clause-room : goal.cancel-requires-clause-room
cancel-requires-clause-room g c =
    let l = c.args.lease in
    let v = c.requires.ended in
    leave_rows g.V.Device.told l.stream l.rows.items v.0 v.1.site (seen g.S.RowSeat.view c.args.tree) v.2.tree v.4 c.requires.fits.sound.used

pub cancel-requires-clause-free : goal.cancel-requires-clause-free
cancel-requires-clause-free g c =
    let l = c.args.lease in
    let v = c.requires.ended in
    leave_events g.V.Device.told l.stream l.rows.items v.0 v.1.site (seen g.S.RowSeat.view c.args.tree) v.2.tree v.4

pub end-seat-requires-clause-closed : goal.end-seat-requires-clause-closed
end-seat-requires-clause-closed g c = c.cancel.ensures.scopes.closed 0 c.requires.ended.2.root

pub returns-clause-leaves : goal.returns-clause-leaves
returns-clause-leaves g c x s ends v =
    let view = g.S.RowSeat.view in
    let told = g.V.Device.told in
    let t = c.args.tree in
    let l = c.args.lease in
    let o = c.end-seat.ensures in
    leaves_so told l.stream l.rows.items x s.site (seen view t) ends.tree v s c.args.how c.args.unopened c.exit.result (seen view c.cancel.new.self) (view c.end-seat.result.0) c.end-seat.result.1 ends c.exit.ensures c.cancel.ensures.cancels
    (closed_rows_end view t c.requires.fits.sound (visit_main told l.stream l.rows.items x s.site (seen view t) ends.tree v) ends.root)
    (c.cancel.ensures.scopes.closed 0 ends.root) c.cancel.ensures.fits.sound.shelved.distinct o.seat o.shelf o.rest

pub returns-clause-fits : goal.returns-clause-fits
returns-clause-fits g c = c.end-seat.ensures.fits c.cancel.new.desk c.cancel.ensures.fits

pub returns-clause-others : goal.returns-clause-others
returns-clause-others g c =
    let view = g.S.RowSeat.view in
    let l = c.args.lease in
    let v = c.requires.ended in
    let by = visit_by g.V.Device.told l.stream l.rows.items v.0 v.1.site (seen view c.args.tree) v.2.tree v.3 in
    subst (λ k. OthersFit view g.S.RowSeat.fits k c.args.desk.now c.cancel.new.desk) by c.cancel.ensures.others
