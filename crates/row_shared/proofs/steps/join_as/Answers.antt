use Rattle.std.proofs.Common.{sym, ap, ◌∙◌, subst, arith}
use Rattle.atomic_table.specs.Table.{Joins}
use Rattle.row_seat.specs.Steps.{joined}
use Rattle.row_shared.specs.declared.table.Place.{Place}
use Rattle.row_shared.specs.Places.{IsRows, Seated, at_rest, gone_by}
use Rattle.row_shared.proofs.Called.{still_idle}
use Rattle.row_shared.proofs.Pairs.{joins}
use Rattle.row_shared.proofs.steps.join_as.Goals as goal

pub join_seat-requires : goal.join_seat-requires
join_seat-requires g c = let t = c.requires.table in let t1 = t.0.1 in let i = c.requires.idle in let r = c.requires.rest in let z = c.requires.said in
    let v = c.args.pass.now.me.0.token in let w = c.args.other.me.0.token in let key = c.args.table.now.key in let id = c.args.pass.now.id in let jd = c.args.other.id in (
      t.0.0,
      t.1,
      ap (λ (m : Seated g.row.P.Denot). m.1) i.1.0,
      omega arith,
      rw (z.0 ∙ z.1) (subst (λ (p : Place g.row.P.Denot). Joins (λ s. IsRows key s) id p jd c.args.other.me.0 (at_rest (joined v w)) (gone_by w.by)) (sym (ap (λ (m : Seated g.row.P.Denot). m.0) i.0.0))
          (subst (λ (p : Place g.row.P.Denot). Joins (λ s. IsRows key s) id (at_rest v) jd p (at_rest (joined v w)) (gone_by w.by)) (sym (ap (λ (m : Seated g.row.P.Denot). m.0) i.1.0))
          (joins key id v i.0.1 jd w i.1.1 c.requires.main c.requires.two r.0 r.1 r.2))),
    )

pub returns-clause-told : goal.returns-clause-told
returns-clause-told g c = c.join_seat.ensures.2 ∙ still_idle (joined c.args.pass.now.me.0.token c.args.other.me.0.token) c.args.pass.now.me c.requires.idle.0.0
