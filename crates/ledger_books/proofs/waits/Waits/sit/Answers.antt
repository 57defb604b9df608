use Rattle.std.proofs.Common.{◌≡◌, suc, cond, nat_eq, refl, subst, arith, Result, Ok, Err}
use Rattle.std.specs.Prelude.{OnOk}
use Rattle.std.proofs.lemmas.Bool.{false≢true}
use Rattle.ledger_books.specs.declared.index.Key.TheVariants.{Opened}
use Rattle.ledger_books.specs.Peaks.{peak_at}
use Rattle.ledger_books.specs.Waits.{Raised}
use Rattle.ledger_books.proofs.waits.Waits.sit.Goals as goal

on_ok : {T E A B : Type 0} (r : Result T E) → (A → B) → OnOk r A → OnOk r B
on_ok (Ok x) f a = f a
on_ok (Err e) f a = tt

pub returns-in_default : goal.returns-in_default
returns-in_default c = λ h. absurd (false≢true h)

pub returns-in_default-checked_add : goal.returns-in_default-checked_add
returns-in_default-checked_add c = λ h. absurd (false≢true h)

pub returns-in_default-checked_add-2 : goal.returns-in_default-checked_add-2
returns-in_default-checked_add-2 c = λ h. absurd (false≢true h)

pub returns : goal.returns
returns c = on_ok c.raise_next.result
    (λ r h. record {
      fits = h;
      rooms = refl;
      shuts = refl;
      half = c.set.ensures.half;
      seat = c.in-Some.seat;
      can = c.in-Some.ensures;
      nexts = (r.0, (let e : c.in-Some-checked_add.behind ≡ suc c.in-Some.seat = omega arith in let t = subst (λ n. Raised c.args.self.now.nexts c.raise_next.new.nexts (Opened n c.args.scope) c.in-Some-checked_add.behind) c.number.ensures r in let a = t.1 in omega arith));
      heap = c.set.ensures.heap c.in-Some.ensures.within;
      peaks = λ heap x l. let e : c.in-Some-checked_add-2.mark ≡ suc c.args.place = omega arith in subst (λ z. peak_at c.set.new.self x ≡ cond (nat_eq x c.in-Some.seat) z (peak_at c.args.self.now.peaks x)) e (c.set.ensures.at x c.in-Some.ensures.within heap l);
    })
    c.raise_next.ensures
