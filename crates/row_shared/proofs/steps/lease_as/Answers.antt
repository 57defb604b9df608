use Rattle.std.proofs.Common.{◌+◌, ◌-◌, ◌%◌, ◌^◌, arith}
use Rattle.row_shared.specs.Told.{Leased}
use Rattle.row_shared.proofs.Allowed.{lease_allows}
use Rattle.row_shared.proofs.Called.{from_rest}
use Rattle.row_shared.proofs.steps.lease_as.Goals as goal

pub fetch_add-requires : goal.fetch_add-requires
fetch_add-requires g c = let t = c.requires.table in let t1 = t.1 in let t2 = t.2 in let b = c.requires.inside in let v = c.args.pass.now.me.0.token in let rows = c.args.table.now.table_id.slots in let row = c.args.row in let j = c.args.stream in let m = c.requires.row in let s = c.requires.stream in
    rw c.requires.said (t.0, omega arith, from_rest c.requires.idle.0 (row + 1) (λ n. (n + 4) % 2 ^ 64) (λ _ after. Leased rows j (row + 1 - 1) v after) (lease_allows c.args.table.now.key rows c.args.pass.now.id v c.requires.idle.1 j row (row + 1 - 1) (omega arith) c.ranges.stream.fits c.requires.main m.0 m.1 s.0 s.1))
