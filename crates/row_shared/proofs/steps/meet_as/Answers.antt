use Rattle.std.proofs.Common.{sym, arith}
use Rattle.row_shared.specs.Told.{Met}
use Rattle.row_shared.proofs.Allowed.{met_allows}
use Rattle.row_shared.proofs.Called.{from_rest}
use Rattle.row_shared.proofs.steps.meet_as.Goals as goal

pub load-requires : goal.load-requires
load-requires g c = let t = c.requires.table in let t1 = t.1 in let v = c.args.pass.now.me.0.token in let rows = c.args.table.now.table_id.slots in let room = g.W.About.room in
    (t.0, omega arith, from_rest c.requires.idle.0 0 (λ n. n) (λ _ after. Met rows room v after) (met_allows c.args.table.now.key rows c.args.pass.now.id v c.requires.idle.1 room (sym c.requires.said)))
