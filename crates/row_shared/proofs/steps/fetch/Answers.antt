use Rattle.std.proofs.Common.{◌+◌, ◌-◌, arith}
use Rattle.row_shared.specs.Told.{Fetched}
use Rattle.row_shared.proofs.Called.{from_rest}
use Rattle.row_shared.proofs.Slots.{fetch_allows}
use Rattle.row_shared.proofs.steps.fetch.Goals as goal

pub load-requires : goal.load-requires
load-requires g c = let t = c.requires.table in let t1 = t.1 in let t2 = t.2 in let b = c.requires.inside in let v = c.args.pass.now.me.0.token in let rows = c.args.table.now.table_id.slots in let row = c.args.row in
    (t.0, omega arith, from_rest c.requires.idle.0 (row + 1) (λ n. n) (λ _ after. Fetched (row + 1 - 1) v after) (fetch_allows c.args.table.now.key rows c.args.pass.now.id v c.requires.idle.1 row (row + 1 - 1) (omega arith) c.requires.row.0 c.requires.row.1))
