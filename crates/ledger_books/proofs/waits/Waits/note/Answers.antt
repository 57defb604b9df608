use Rattle.std.proofs.Common.{◌≡◌, ◌∙◌, sym, ap, subst, Result, Ok, Err, ◌++◌, ◌∷◌, []}
use Rattle.std.specs.Prelude.{OnOk}
use Rattle.res_ledger.specs.declared.event.What.TheVariants.{Lease, Open}
use Rattle.ledger_books.specs.Keyed.{number_of}
use Rattle.ledger_books.specs.Waits.{IsWithin, Seated, SitsDown}
use Rattle.ledger_books.proofs.Seating.{seated_less, seated_more, seated_shut, seated_still}
use Rattle.ledger_books.proofs.waits.Waits.note.Goals as goal

on_ok : {T E A B : Type 0} (r : Result T E) → (A → B) → OnOk r A → OnOk r B
on_ok (Ok x) f a = f a
on_ok (Err e) f a = tt

pub returns-in-Open : goal.returns-in-Open
returns-in-Open c = λ P n legal f h.
    let w = c.args.self.now in
    let o = c.open.ensures h in
    let s = c.in-Open.scope in
    let p = c.in-Open.parent in
    subst (λ v. Seated v (P ++ c.args.event ∷ [])) (sym o.0)
    (seated_still w P c.args.event (f (sym (ap (λ z. z.fits) o.0) ∙ h))
    (λ k t q b g.
    let u : Open s p ≡ Open t q = sym c.in-Open.is ∙ g in
    let x : s ≡ t = cc in
    let y : p ≡ q = cc in
    subst (λ z. IsWithin w.rooms (number_of k) t z) y (subst (λ z. IsWithin w.rooms (number_of k) z p) x (subst (λ z. IsWithin w.rooms (number_of z) s p) b o.1)))
    (λ j t g. let u : Open s p ≡ Lease j t = sym c.in-Open.is ∙ g in cc))

pub returns-in-Lease : goal.returns-in-Lease
returns-in-Lease c = on_ok c.sit.result (λ o P n legal f h. let d = o h in seated_more c.args.self.now c.sit.new.self P c.args.event c.in-Lease.stream c.in-Lease.scope c.in-Lease.is (subst (SitsDown c.args.self.now c.sit.new.self (number_of c.args.event.by) c.in-Lease.stream c.in-Lease.scope) (sym n) d) (f d.fits)) c.sit.ensures

pub returns-in-Cancel : goal.returns-in-Cancel
returns-in-Cancel c = λ P n legal f h. let d = c.leave.ensures in seated_less c.args.self.now c.leave.new.self P c.args.event c.in-Cancel.stream c.in-Cancel.exit legal c.in-Cancel.is d (f (sym d.fits ∙ h))

pub returns-in-Close : goal.returns-in-Close
returns-in-Close c = on_ok c.shut.result (λ d P n legal f h. seated_shut c.args.self.now c.shut.new.self P c.args.event c.in-Close.scope c.in-Close.exit c.in-Close.is d (f (sym d.fits ∙ h))) c.shut.ensures

pub returns-in_default : goal.returns-in_default
returns-in_default c = λ P n legal f h. seated_still c.args.self.now P c.args.event (f h) (λ k t q b g. absurd (c.in_default.not-Open t q g)) (λ j t g. c.in_default.not-Lease j t g)
