use Rattle.std.proofs.Common.{arith}
use Rattle.row_shared.specs.Told.{Saw}
use Rattle.row_shared.proofs.Called.{from_rest}
use Rattle.row_shared.proofs.Marking.{see_allows}
use Rattle.row_shared.proofs.sights.see.Goals as goal

pub load-requires : goal.load-requires
load-requires g c = let t = c.requires.table in let t1 = t.1 in let v = c.args.pass.now.me.0.token in let rows = c.args.table.now.table_id.slots in
    (t.0, omega arith, from_rest c.requires.idle.0 0 (λ n. n) (λ n after. Saw rows v n after) (see_allows c.args.table.now.key c.args.pass.now.id v c.requires.idle.1 rows))
