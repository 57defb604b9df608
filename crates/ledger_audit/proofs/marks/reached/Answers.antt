use Rattle.std.proofs.Common.{sym, ◌∙◌, subst, arith}
use Rattle.std.proofs.lemmas.Bool.{false≢true}
use Rattle.ledger_books.specs.Keyed.{CoversAt}
use Rattle.ledger_books.proofs.Walking.{same_lease}
use Rattle.ledger_audit.proofs.Reaching.{not_acquired, too_late, not_covered, is_reached}
use Rattle.ledger_audit.proofs.marks.reached.Goals as goal

pub returns-in_default : goal.returns-in_default
returns-in_default c = λ w q j s t. not_acquired c.args.past.now c.requires.legal q c.args.lease j s t c.args.until c.args.row w c.in_default.ensures

pub returns-then-at-until : goal.returns-then-at-until
returns-then-at-until c = λ w q j s t. too_late c.args.past.now c.requires.legal q c.args.lease j s t c.args.until c.args.row c.in-Some.at c.in-Some.owner c.in-Some.of w c.in-Some.ensures (let l = c.if-at-until.true in omega (arith, l))

pub returns-in_default-lease_at : goal.returns-in_default-lease_at
returns-in_default-lease_at c = λ w q j s t. absurd (c.in_default-lease_at.ensures q j s t)

pub returns-then-not-covers : goal.returns-then-not-covers
returns-then-not-covers c = λ w q j s t.
    let P = c.args.past.now in
    let i = c.args.lease in
    let e = same_lease P i c.in-Some-lease_at.field-0-1 j c.in-Some-lease_at.scope s c.in-Some-lease_at.by q c.in-Some-lease_at.ensures t in
    not_covered P c.requires.legal q i j s t c.args.until c.args.row c.in-Some.at c.in-Some.owner c.in-Some.of w c.in-Some.ensures
    (λ v. false≢true (sym c.if-not-covers.true ∙ (c.covers.ensures c.in-Some-lease_at.field-0-1 c.in-Some-lease_at.ensures).1 (subst (λ x. CoversAt P i x c.in-Some-lease_at.scope c.args.row) (sym e.2) (subst (λ x. CoversAt P i q x c.args.row) (sym e.1) v))))

pub returns : goal.returns
returns c = λ w q j s t.
    let P = c.args.past.now in
    let i = c.args.lease in
    let e = same_lease P i c.in-Some-lease_at.field-0-1 j c.in-Some-lease_at.scope s c.in-Some-lease_at.by q c.in-Some-lease_at.ensures t in
    let l = c.if-at-until.false in
    let v = (c.covers.ensures c.in-Some-lease_at.field-0-1 c.in-Some-lease_at.ensures).0 c.if-not-covers.false in (
      omega (arith, l, w),
      is_reached P c.requires.legal q i j s t c.args.until c.args.row c.in-Some.at c.in-Some.owner c.in-Some.of w c.in-Some.ensures (omega (arith, l))
          (subst (λ x. CoversAt P i x s c.args.row) e.2 (subst (λ x. CoversAt P i c.in-Some-lease_at.by x c.args.row) e.1 v)),
    )
