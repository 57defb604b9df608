use Rattle.std.proofs.Common.{◌≡◌, ℕ, Bool, true, false, List, None, Some, reverse, refl, sym, ap, ◌∙◌, subst}
use Rattle.std.specs.Prelude.{MatchOption}
use Rattle.chunk_core.specs.Lists.{has}
use Rattle.res_ledger.specs.Order.{any_row, covered}
use Rattle.ledger_verdict.specs.Pending.{behind, go_on}
use Rattle.ledger_audit.specs.Marks.{Stands, Tells, covered_until}
use Rattle.ledger_audit.proofs.Marking.{final_is}
use Rattle.ledger_audit.proofs.marks.after_final.Goals as goal

pub returns-in-Some : goal.returns-in-Some
returns-in-Some c = λ d t.
    let may : ℕ → Bool = λ r. has r (covered c.args.past.now) in
    let u = subst (λ m. Tells c.args.past.now c.args.torn.now m d) c.in-Closed.is t in
    let ys = u.2.0 in
    let p = subst (λ o. MatchOption o (behind may c.args.row (reverse ys) ≡ None) (λ n. (zs : List ℕ) × Stands c.args.torn.now c.in-Closed.from n zs × (behind may c.args.row (reverse ys) ≡ Some (reverse zs)))) c.in-Some.is (c.in_ok-left-in-Closed.ensures ys u.2.1) in (
      record { exit = d.exit; strict = d.strict; rows = reverse p.0 },
      final_is may d c.args.row c.args.exit c.in-Closed.end may true (reverse ys) refl u.0 u.1 u.2.2 (sym c.is_same.ensures ∙ c.if-not-is_same.false) ∙ ap (go_on d.exit d.strict) p.2,
      (u.0, u.1, (p.0, p.1, refl)),
    )

pub returns-in_default-reached : goal.returns-in_default-reached
returns-in_default-reached c = λ d t.
    let may : ℕ → Bool = λ r. has r (covered c.args.past.now) in
    let u = subst (λ m. Tells c.args.past.now c.args.torn.now m d) c.in-Canceled.is t in
    let v = u.2 in
    final_is may d c.args.row c.args.exit c.in-Canceled.end any_row false (covered_until c.args.past.now v.0 c.in-Canceled.lease v.2 c.in-Canceled.until) refl u.0 u.1 v.5 (sym c.is_same-in-Canceled.ensures ∙ c.if-not-is_same-2.false)
    ∙ ap (go_on d.exit d.strict) (c.in_default-reached.ensures v.4 v.0 v.1 v.2 v.3)

pub returns-in-Some-reached : goal.returns-in-Some-reached
returns-in-Some-reached c = λ d t.
    let may : ℕ → Bool = λ r. has r (covered c.args.past.now) in
    let u = subst (λ m. Tells c.args.past.now c.args.torn.now m d) c.in-Canceled.is t in
    let v = u.2 in
    let p = c.in-Some-reached.ensures v.4 v.0 v.1 v.2 v.3 in (
      record { exit = d.exit; strict = d.strict; rows = covered_until c.args.past.now v.0 c.in-Canceled.lease v.2 c.in-Some-reached.left },
      final_is may d c.args.row c.args.exit c.in-Canceled.end any_row false (covered_until c.args.past.now v.0 c.in-Canceled.lease v.2 c.in-Canceled.until) refl u.0 u.1 v.5 (sym c.is_same-in-Canceled.ensures ∙ c.if-not-is_same-2.false) ∙ ap (go_on d.exit d.strict) p.1,
      (u.0, u.1, (v.0, v.1, v.2, v.3, p.0, refl)),
    )
