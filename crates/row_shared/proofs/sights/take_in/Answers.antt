use Rattle.std.proofs.Common.{sym, ap, ◌∙◌, subst, arith, ◌∷◌, []}
use Rattle.atomic_table.specs.Table.{Joins}
use Rattle.row_shared.specs.declared.table.Place.{Place}
use Rattle.row_shared.specs.Places.{IsRows, Seated, at_rest, nobody, seeing}
use Rattle.row_shared.proofs.Marking.{took_mark, unmarks}
use Rattle.row_shared.proofs.sights.take_in.Goals as goal

pub join_seat-requires : goal.join_seat-requires
join_seat-requires g c = let t = c.requires.table in let t1 = t.0.1 in let i = c.requires.idle in let x = c.requires.mark in
    let v = c.args.pass.now.me.0.token in let key = c.args.table.now.key in let id = c.args.pass.now.id in let jd = c.args.mark.id in (
      t.0.0,
      t.1,
      ap (λ (m : Seated g.row.P.Denot). m.1) x.1,
      omega arith,
      subst (λ (p : Place g.row.P.Denot). Joins (λ s. IsRows key s) id p jd c.args.mark.me.0 (seeing v c.args.mark.me.0.sights) (seeing nobody [])) (sym (ap (λ (m : Seated g.row.P.Denot). m.0) i.0))
          (subst (λ (p : Place g.row.P.Denot). Joins (λ s. IsRows key s) id (at_rest v) jd p (seeing v p.sights) (seeing nobody [])) (sym (ap (λ (m : Seated g.row.P.Denot). m.0) x.1))
          (unmarks key id v i.1 jd (x.0 ∷ []))),
    )

pub returns-clause-marked : goal.returns-clause-marked
returns-clause-marked g c = λ x e. c.join_seat.ensures.2 ∙ took_mark c.args.pass.now.me.0.token x c.args.pass.now.me c.args.mark.me c.requires.idle.0 e
