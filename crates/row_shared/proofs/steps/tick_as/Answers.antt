use Rattle.std.proofs.Common.{◌+◌, ◌%◌, ◌^◌, sym, subst, arith}
use Rattle.row_seat.specs.Rule.{view_of}
use Rattle.row_seat.specs.Views.{MayNote}
use Rattle.row_shared.specs.Told.{Ticked}
use Rattle.row_shared.proofs.Allowed.{tick_allows}
use Rattle.row_shared.proofs.Called.{from_rest}
use Rattle.row_shared.proofs.steps.tick_as.Goals as goal

pub fetch_add-requires : goal.fetch_add-requires
fetch_add-requires g c = let t = c.requires.table in let t1 = t.1 in let w = g.W.About in let v = c.args.pass.now.me.0.token in let rows = c.args.table.now.table_id.slots in let m = c.requires.event in
    let may = subst (λ z. MayNote (view_of v m.0) z) (sym c.requires.said.0) m.1 in
    (t.0, omega arith, from_rest c.requires.idle.0 0 (λ n. (n + 1) % 2 ^ 64) (λ n after. Ticked rows w.what w.room v n after) (tick_allows c.args.table.now.key rows c.args.pass.now.id v c.requires.idle.1 w.what m.0 w.room (sym c.requires.said.1) may c.requires.room))
