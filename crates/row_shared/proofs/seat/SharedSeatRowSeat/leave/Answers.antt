use Rattle.std.proofs.Common.{refl, subst}
use Rattle.row_shared.specs.Told.{Gave}
use Rattle.row_shared.proofs.Calls.{leaves_fits, leaves_view}
use Rattle.row_shared.proofs.seat.SharedSeatRowSeat.leave.Goals as goal

pub returns-clause-view : goal.returns-clause-view
returns-clause-view g c = leaves_view c.args.desk.now c.requires.fits c.deref.result.now.shared.table_id.slots c.args.stream c.args.row c.leave.result c.leave.new.pass.me c.leave.ensures.told

pub returns-clause-fits : goal.returns-clause-fits
returns-clause-fits g c = leaves_fits c.args.desk.now c.requires.fits _ c.args.stream c.args.row c.leave.result c.leave.ensures.table refl refl refl
    (subst (λ a. Gave a.shared.table_id.slots c.args.stream c.args.row c.leave.result c.args.self.now.pass.me.0.token c.leave.new.pass.me) c.deref.ensures c.leave.ensures.told)
