use Rattle.std.proofs.Common.{◌≡◌, sym, ap, ◌∙◌, subst}
use Rattle.chunk_core.specs.Lists.{IsAmong}
use Rattle.chunk_core.proofs.Filters.{among_right}
use Rattle.row_seat.specs.Views.{HasRow, paid}
use Rattle.row_seat.proofs.Hands.{has_nil}
use Rattle.tree_scripts.specs.Waiting.{IsAlone}
use Rattle.scope_tree.proofs.Lent.{has_with, lent_fits, with_pay}
use Rattle.scope_tree.proofs.Once.{once_pay}
use Rattle.tree_scripts.proofs.Outcomes.{said_found}
use Rattle.scope_tree.proofs.Use.{closed_now}
use Rattle.scope_tree.proofs.Ending.{close_all, none_leased}
use Rattle.tree_scripts.proofs.Waits.{close_takes}
use Rattle.tree_scripts.proofs.uses.write_and_end.Goals as goal
use Rattle.chunk_core.specs.declared.code.Exit.TheVariants.{Canceled}
use Rattle.scope_tree.proofs.Owning.{owner_pays}

pub close-requires-clause-fits : goal.close-requires-clause-fits
close-requires-clause-fits g c = let laws = g.met.S.RowSeat in lent_fits g.S.RowSeat.view g.S.RowSeat.with_pay laws.pay_view g.S.RowSeat.fits laws.pay_fits c.args.tree c.args.row c.args.pay c.args.desk.now c.requires.fits

pub end-requires-clause-closed : goal.end-requires-clause-closed
end-requires-clause-closed g c = closed_now c.close.ensures.closes

pub returns-clause-ended : goal.returns-clause-ended
returns-clause-ended g c =
    let t = c.args.tree in let r = c.args.row in let w = c.args.pay in let laws = g.met.S.RowSeat in let v = g.S.RowSeat.view t.seat in let k = c.close.ensures.closes in let xs = k.torn.0 in let al = c.requires.alone in
    let u = g.S.RowSeat.view (g.S.RowSeat.with_pay t.seat r w) in let e : u ≡ paid v r w = laws.pay_view t.seat r w in
    let f = lent_fits g.S.RowSeat.view g.S.RowSeat.with_pay laws.pay_view g.S.RowSeat.fits laws.pay_fits t r w c.args.desk.now c.requires.fits in
    let alone : IsAlone u = subst IsAlone (sym e) (record { main = al.main; pairs = al.pairs; kept = al.kept; out = al.out; events = al.events }) in
    let opened = subst (λ x. HasRow x.opened r) (sym e) (has_with r w v.opened r c.requires.row) in
    let none = ap (λ z. z.opened) (sym c.end.ensures.seat) ∙ c.end.ensures.rest.0 in
    let m = subst (λ l. IsAmong r l) (sym (close_all k (none_leased u alone.pairs alone.out _))) (close_takes r k opened (λ h. has_nil r (subst (λ l. HasRow l r) none h))) in
    let x = said_found r xs m in let y = owner_pays x.0 k.torn.2 x.1 in
    let same : y.0 ≡ w = once_pay r y.0 w u.opened f.sound.kept.holds.once (subst (λ z. IsAmong (z, y.0) u.opened) x.2 y.1) (subst (λ z. IsAmong (r, w) z.opened) (sym e) (with_pay r w v.opened c.requires.row)) in
    record {
      spent = x.0;
      on = subst (λ l. IsAmong x.0 l) (sym (c.end.ensures.shelf ∙ k.torn.1)) (among_right x.0 t.shelf.items xs x.1);
      row = x.2;
      exit = y.2;
      took = subst (λ p. g.S.Pay.Finish.ends p Canceled x.0.ok x.0.pay) same y.3;
    }
