use Rattle.std.proofs.Common.{◌≡◌, ◌↔◌, ℕ, arith, true, false, refl, sym, ◌∙◌, ap, ⊎_elim}
use Rattle.std.proofs.lemmas.Bool.{false≢true}
use Rattle.res_ledger.specs.declared.event.StreamNo.{StreamNo}
use Rattle.ledger_books.specs.Keyed.{number_of}
use Rattle.ledger_books.proofs.Keys.{number_is}
use Rattle.ledger_books.proofs.Covering.{covers_mine, covers_within, covers_child, covers_shape}
use Rattle.ledger_books.proofs.leases.covers.Goals as goal

no_way : {A : Type 0} → ¬ A → (false ≡ true) ↔ A
no_way n = ((λ h. absurd (false≢true h)), (λ a. absurd (n a)))

same_number : (a b : ℕ) (j k : StreamNo) → a ≡ number_of j → b ≡ number_of k → a ≡ b → j ≡ k
same_number a b j k e f h = number_is j k (sym e ∙ h ∙ f)

pub returns-then-number : goal.returns-then-number
returns-then-number c = λ j l.
    no_way (λ v. c.if-number.true (c.number.ensures ∙ ap number_of (covers_mine c.args.past.now c.requires.legal c.args.by c.args.owner c.args.place j c.args.scope c.args.row c.args.at c.args.of l c.requires.row v).0 ∙ sym c.number-2.ensures))

pub returns-then-at-place : goal.returns-then-at-place
returns-then-at-place c = λ j l.
    no_way (λ v. let m = (covers_mine c.args.past.now c.requires.legal c.args.by c.args.owner c.args.place j c.args.scope c.args.row c.args.at c.args.of l c.requires.row v).1 in omega arith)

pub returns-then-is_child_before : goal.returns-then-is_child_before
returns-then-is_child_before c = λ j l.
    let e : c.args.by ≡ c.args.owner = same_number c.number.result c.number-2.result c.args.by c.args.owner c.number.ensures c.number-2.ensures c.if-number.false in
    let o = c.is_child_before.ensures.0 c.if-is_child_before.true in
    ((λ h. covers_child c.args.past.now c.requires.legal c.args.by c.args.owner c.args.place j c.args.scope c.args.row c.args.at c.args.of l c.requires.row o.0.0 e (omega arith) o.0.1 o.1), (λ v. refl))

pub returns : goal.returns
returns c = λ j l.
    let e : c.args.by ≡ c.args.owner = same_number c.number.result c.number-2.result c.args.by c.args.owner c.number.ensures c.number-2.ensures c.if-number.false in (
      (λ h. covers_within c.args.past.now c.requires.legal c.args.by c.args.owner c.args.place j c.args.scope c.args.row c.args.at c.args.of l c.requires.row e (omega arith) (c.lies_within.ensures.0 h)),
      (λ v. ⊎_elim
          (λ w. c.lies_within.ensures.1 w)
          (λ o. absurd (false≢true (sym c.if-is_child_before.false ∙ c.is_child_before.ensures.1 o)))
          (covers_shape c.args.past.now c.requires.legal c.args.by c.args.owner c.args.place j c.args.scope c.args.row c.args.at c.args.of l c.requires.row v)),
    )
