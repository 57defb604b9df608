use Rattle.std.proofs.Common.{◌+◌, ◌-◌, sym, subst, arith}
use Rattle.std.specs.Prelude.{bit_or}
use Rattle.atomic_table.specs.Table.{Allows}
use Rattle.row_shared.specs.Places.{IsRows, Seated}
use Rattle.row_shared.specs.Told.{Shut}
use Rattle.row_shared.proofs.Slots.{shut_allows}
use Rattle.row_shared.proofs.steps.shut.Goals as goal

pub fetch_or-requires : goal.fetch_or-requires
fetch_or-requires g c = let t = c.requires.table in let t1 = t.1 in let t2 = t.2 in let b = c.requires.inside in let v = c.args.pass.now.me.0.token in let rows = c.args.table.now.table_id.slots in let row = c.args.row in let z = c.requires.closed in let q = c.requires.seat in
    let key = c.args.table.now.key in let id = c.args.pass.now.id in (
      t.0,
      omega arith,
      subst (λ (m : Seated g.row.P.Denot). Allows (λ s. IsRows key s) rows id m (row + 1) (λ n. bit_or n 2) (λ n after. Shut rows (row + 1 - 1) m n after)) (sym q.1.1)
          (shut_allows key rows id v q.0 row (row + 1 - 1) z.0 q.1.0 (omega arith) z.1 z.2 c.requires.row c.requires.named),
    )
