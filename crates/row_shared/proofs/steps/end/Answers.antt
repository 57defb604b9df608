use Rattle.std.proofs.Common.{arith}
use Rattle.row_shared.specs.Told.{Ended}
use Rattle.row_shared.proofs.Allowed.{end_allows}
use Rattle.row_shared.proofs.Called.{from_rest}
use Rattle.row_shared.proofs.steps.end.Goals as goal

pub load-requires : goal.load-requires
load-requires g c = let t = c.requires.table in let t1 = t.1 in let v = c.args.pass.now.me.0.token in let m = c.requires.main in let r = c.requires.rest in
    (t.0, omega arith, from_rest c.requires.idle.0 0 (λ n. n) (λ _ after. Ended v after) (end_allows c.args.table.now.key c.args.table.now.table_id.slots c.args.pass.now.id v c.requires.idle.1 m.0 m.1 c.requires.unused r.0 r.1 r.2 r.3))
