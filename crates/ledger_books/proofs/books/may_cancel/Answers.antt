use Rattle.std.proofs.Common.{◌≡◌, suc, Bool, true, false, not, inl, inr, refl, sym, ◌∙◌, ap, ⊎_elim, subst, arith}
use Rattle.std.proofs.lemmas.Bool.{false≢true}
use Rattle.res_ledger.specs.declared.event.StreamNo.TheVariants.{Inner}
use Rattle.res_ledger.specs.declared.event.What.TheVariants.{Acquire}
use Rattle.res_ledger.specs.Ledger.{IsLeased, IsCanceled, Notes}
use Rattle.ledger_books.specs.Keyed.{number_of}
use Rattle.ledger_books.proofs.Keys.{number_is}
use Rattle.ledger_books.proofs.Placed.{at_among}
use Rattle.ledger_books.proofs.Canceling.{leased_by_one}
use Rattle.ledger_books.proofs.Following.{nothing_so}
use Rattle.ledger_books.proofs.books.may_cancel.Goals as goal

flip : (b : Bool) → not b ≡ true → b ≡ false
flip true h = absurd (false≢true h)
flip false h = refl

flop : (b : Bool) → b ≡ false → not b ≡ true
flop true h = absurd (false≢true (sym h))
flop false h = refl

pub returns-then-own-from : goal.returns-then-own-from
returns-then-own-from c = λ x.
    let P = c.args.past.now in
    let l = c.in-Some.ensures in
    let leased : IsLeased P c.args.stream = (c.in-Some.lessor, c.in-Some.field-0-2, (l.0, at_among P c.in-Some.field-0-0 l.0 l.1, l.2, l.3)) in
    let open_yet : ¬ (IsCanceled P c.args.stream) = λ z. false≢true (sym c.if-is_canceled.false ∙ c.is_canceled.ensures.1 z) in
    let n : number_of c.args.by ≡ suc c.args.stream = omega (arith, sym c.number-own.ensures) in
    let e : c.args.by ≡ Inner c.args.stream = number_is c.args.by (Inner c.args.stream) n in (
      (λ h. (leased, open_yet, inl (e, λ r s m. c.are_final.ensures.0 h r s (subst (λ k. Notes P k (Acquire r s)) e m)))),
      (λ m. ⊎_elim
          (λ a. c.are_final.ensures.1 (λ r s b. a.1 r s (subst (λ k. Notes P k (Acquire r s)) (sym e) b)))
          (λ b. absurd (b.1 b.0.1.0 b.0.1.1 (b.0.1.2 ∙ e)))
          m.2),
    )

pub returns-then-own-other : goal.returns-then-own-other
returns-then-own-other c = λ x.
    nothing_so (λ m. ⊎_elim
    (λ a. c.if-own-from.false (let n = ap number_of a.0 in let q = c.number-own.ensures in omega arith))
    (λ b. c.if-own-other.true (c.number-own.ensures ∙ ap number_of (sym (leased_by_one c.args.past.now c.requires.legal c.in-Some.field-0-0 c.args.stream c.in-Some.field-0-2 b.0.0 c.in-Some.lessor c.args.by c.in-Some.ensures b.0.1)) ∙ sym c.number-other.ensures))
    m.2)

pub returns : goal.returns
returns c = λ x.
    let P = c.args.past.now in
    let l = c.in-Some.ensures in
    let leased : IsLeased P c.args.stream = (c.in-Some.lessor, c.in-Some.field-0-2, (l.0, at_among P c.in-Some.field-0-0 l.0 l.1, l.2, l.3)) in
    let open_yet : ¬ (IsCanceled P c.args.stream) = λ z. false≢true (sym c.if-is_canceled.false ∙ c.is_canceled.ensures.1 z) in
    let e : c.args.by ≡ c.in-Some.lessor = number_is c.args.by c.in-Some.lessor (sym c.number-own.ensures ∙ c.if-own-other.false ∙ c.number-other.ensures) in (
      (λ h. (leased, open_yet, inr ((c.in-Some.field-0-2, (l.0, at_among P c.in-Some.field-0-0 l.0 l.1, l.2 ∙ sym e, l.3)), c.has_begun.ensures.0 (flip c.has_begun.result h)))),
      (λ m. ⊎_elim
          (λ a. absurd (c.if-own-from.false (let n = ap number_of a.0 in let q = c.number-own.ensures in omega arith)))
          (λ b. flop c.has_begun.result (c.has_begun.ensures.1 b.1))
          m.2),
    )
