use Rattle.std.proofs.Common.{sym, subst, arith, ◌∷◌, []}
use Rattle.atomic_table.specs.Table.{Allows}
use Rattle.row_shared.specs.Places.{IsRows, Seated}
use Rattle.row_shared.specs.Told.{Recalled}
use Rattle.row_shared.proofs.Marking.{recall_allows}
use Rattle.row_shared.proofs.sights.look_back.Goals as goal

pub load-requires : goal.load-requires
load-requires g c = let t = c.requires.table in let t1 = t.1 in let v = c.args.pass.now.me.0.token in let rows = c.args.table.now.table_id.slots in let x = c.requires.marked in
    let key = c.args.table.now.key in let id = c.args.pass.now.id in (
      t.0,
      omega arith,
      subst (λ (m : Seated g.row.P.Denot). Allows (λ s. IsRows key s) rows id m 0 (λ n. n) (λ _ after. Recalled v m.0.sights after)) (sym x.1) (recall_allows key id v c.requires.live rows (x.0 ∷ [])),
    )
