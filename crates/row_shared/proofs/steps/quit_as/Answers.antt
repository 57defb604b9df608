use Rattle.std.proofs.Common.{◌≡◌, ◌+◌, ◌-◌, ◌%◌, ◌^◌, subst, arith}
use Rattle.row_shared.specs.Told.{Quit}
use Rattle.row_shared.proofs.Allowed.{quit_allows}
use Rattle.row_shared.proofs.Called.{from_rest}
use Rattle.row_shared.proofs.steps.quit_as.Goals as goal

pub fetch_sub-requires : goal.fetch_sub-requires
fetch_sub-requires g c = let t = c.requires.table in let t1 = t.1 in let t2 = t.2 in let b = c.requires.inside in let v = c.args.pass.now.me.0.token in let rows = c.args.table.now.table_id.slots in let row = c.args.row in let j = c.args.stream in let m = c.requires.pair in
    rw c.requires.said (t.0, omega arith, from_rest c.requires.idle.0 (row + 1) (λ n. (n + (2 ^ 64 - 4)) % 2 ^ 64) (λ n after. Quit rows j (row + 1 - 1) v n after) (quit_allows c.args.table.now.key rows c.args.pass.now.id v c.requires.idle.1 j row (row + 1 - 1) (omega arith) m.0 m.1))

pub returns-clause-told : goal.returns-clause-told
returns-clause-told g c = let row = c.args.row in let e : row + 1 - 1 ≡ row = omega arith in subst (λ r. Quit c.args.table.now.table_id.slots g.W.About.stream r c.args.pass.now.me.0.token c.fetch_sub.result c.fetch_sub.new.seat.me) e c.fetch_sub.ensures.2
