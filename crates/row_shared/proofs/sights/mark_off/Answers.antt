use Rattle.std.proofs.Common.{sym, ap, ◌∙◌, subst, arith, ◌∷◌, []}
use Rattle.atomic_table.specs.Table.{Splits}
use Rattle.row_shared.specs.declared.table.Place.{Place}
use Rattle.row_shared.specs.Places.{IsRows, Seated, at_rest, nobody, seeing}
use Rattle.row_shared.proofs.Marking.{marks_off, marked_is, seat_left}
use Rattle.row_shared.proofs.sights.mark_off.Goals as goal

pub split_seat-requires : goal.split_seat-requires
split_seat-requires g c = let t = c.requires.table in let t1 = t.1 in let v = c.args.pass.now.me.0.token in let key = c.args.table.now.key in let id = c.args.pass.now.id in let x = c.requires.saw in (
  t.0,
  omega arith,
  subst (λ (p : Place g.row.P.Denot). Splits (λ s. IsRows key s) id p (at_rest v) (seeing nobody p.sights)) (sym (ap (λ (m : Seated g.row.P.Denot). m.0) x.1))
      (marks_off key id v c.requires.live (x.0 ∷ [])),
)

pub returns-clause-seat : goal.returns-clause-seat
returns-clause-seat g c = c.split_seat.ensures.2 ∙ seat_left c.args.pass.now.me.0.token c.requires.saw.0 c.args.pass.now.me c.requires.saw.1

pub returns-clause-mark : goal.returns-clause-mark
returns-clause-mark g c = λ x e. c.split_seat.ensures.4 ∙ marked_is c.args.pass.now.me.0.token x c.args.pass.now.me e
