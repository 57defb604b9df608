use Rattle.std.proofs.Common.{sym, ap, ◌∙◌, subst, arith}
use Rattle.atomic_table.specs.Table.{Splits}
use Rattle.row_seat.specs.Steps.{split_main, split_off}
use Rattle.row_shared.specs.declared.table.Place.{Place}
use Rattle.row_shared.specs.Places.{IsRows, Seated, at_rest}
use Rattle.row_shared.proofs.Called.{still_idle}
use Rattle.row_shared.proofs.Pairs.{splits}
use Rattle.row_shared.proofs.steps.split_as.Goals as goal

pub split_seat-requires : goal.split_seat-requires
split_seat-requires g c = let t = c.requires.table in let t1 = t.1 in let s = c.requires.stream in let w = g.W.About in let v = c.args.pass.now.me.0.token in let key = c.args.table.now.key in let id = c.args.pass.now.id in (
  t.0,
  omega arith,
  subst (λ (p : Place g.row.P.Denot). Splits (λ s. IsRows key s) id p (at_rest (split_main v w.stream w.from w.to w.count)) (at_rest (split_off v w.stream w.from w.to w.count))) (sym (ap (λ (m : Seated g.row.P.Denot). m.0) c.requires.idle.0))
      (splits key id v c.requires.idle.1 w.stream w.from w.to w.count c.requires.main s.0 s.1 c.requires.rows c.requires.room c.requires.named),
)

pub returns-clause-main : goal.returns-clause-main
returns-clause-main g c = let w = g.W.About in let v = c.args.pass.now.me.0.token in c.split_seat.ensures.2 ∙ still_idle (split_main v w.stream w.from w.to w.count) c.args.pass.now.me c.requires.idle.0
