use Rattle.std.proofs.Common.{◌≡◌, ◌∙◌, sym, subst, refl, cond, nat_eq, Some, None, ◌<◌}
use Rattle.ledger_books.specs.Peaks.{peak_at}
use Rattle.ledger_books.proofs.waits.Waits.leave.Goals as goal

pub returns-in_default : goal.returns-in_default
returns-in_default c = record {
  fits = refl;
  rooms = refl;
  shuts = refl;
  nexts = refl;
  half = refl;
  heap = λ s e l h. h;
  peaks = λ s x e l h k. let u : None ≡ Some s = sym c.in_default.is ∙ c.seat.ensures ∙ e in cc;
}

pub returns : goal.returns
returns c = record {
  fits = refl;
  rooms = refl;
  shuts = refl;
  nexts = refl;
  half = c.set.ensures.half;
  heap = λ s e l h. let u : Some c.in-Some.seat ≡ Some s = sym c.in-Some.is ∙ c.seat.ensures ∙ e in let v : c.in-Some.seat ≡ s = cc in c.set.ensures.heap (subst (λ z. z < c.args.self.now.peaks.half) (sym v) l) h;
  peaks = λ s x e l h k. let u : Some c.in-Some.seat ≡ Some s = sym c.in-Some.is ∙ c.seat.ensures ∙ e in let v : c.in-Some.seat ≡ s = cc in subst (λ z. z < c.args.self.now.peaks.half → peak_at c.set.new.self x ≡ cond (nat_eq x z) 0 (peak_at c.args.self.now.peaks x)) v (λ w. c.set.ensures.at x w h k) l;
}
