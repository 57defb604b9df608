use Rattle.std.proofs.Common.{◌≡◌, ◌+◌, sym, subst, arith}
use Rattle.atomic_table.specs.Table.{Allows}
use Rattle.row_shared.specs.Places.{IsRows, Seated, idle}
use Rattle.row_shared.proofs.Slots.{return_allows}
use Rattle.row_shared.proofs.steps.give_back.Goals as goal

pub load-requires : goal.load-requires
load-requires g c = let t = c.requires.table in let t1 = t.1 in let t2 = t.2 in let b = c.requires.inside in let v = c.args.pass.now.me.0.token in let rows = c.args.table.now.table_id.slots in let row = c.args.row in let q = c.requires.seat in
    let key = c.args.table.now.key in let id = c.args.pass.now.id in (
      t.0,
      omega arith,
      subst (λ (m : Seated g.row.P.Denot). Allows (λ s. IsRows key s) rows id m (row + 1) (λ n. n) (λ _ after. after ≡ idle v)) (sym q.1.1)
          (return_allows key rows id v q.0 row q.1.0 c.requires.row.0 c.requires.row.1),
    )
