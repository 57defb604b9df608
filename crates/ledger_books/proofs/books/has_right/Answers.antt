use Rattle.std.proofs.Common.{◌≡◌, ◌≢◌, inl, inr, refl, sym, ap, ◌∙◌, subst, ⊎_elim}
use Rattle.res_ledger.specs.declared.event.StreamNo.TheVariants.{Inner, Outer}
use Rattle.res_ledger.specs.Ledger.{Covers, NotesCancel}
use Rattle.ledger_books.specs.Keyed.{number_of}
use Rattle.ledger_books.proofs.Keys.{number_is}
use Rattle.ledger_books.proofs.Following.{mine, not_mine, nothing_so}
use Rattle.ledger_books.proofs.Untiling.{canceled_own}
use Rattle.ledger_books.proofs.books.has_right.Goals as goal

pub returns-then-number : goal.returns-then-number
returns-then-number c = ((λ h. inl (mine c.args.past.now c.requires.legal c.args.row c.args.at c.args.owner c.args.of c.requires.row c.args.by (number_is c.args.by c.args.owner (sym c.number.ensures ∙ c.if-number.true ∙ c.number-2.ensures)))), (λ m. refl))

pub returns-in-Outer : goal.returns-in-Outer
returns-in-Outer c =
    let other : c.args.by ≢ c.args.owner = λ e. c.if-number.false (c.number.ensures ∙ ap number_of e ∙ sym c.number-2.ensures) in
    nothing_so (λ m. ⊎_elim
    (λ n. other (not_mine c.args.past.now c.requires.legal c.args.row c.args.at c.args.owner c.args.of c.requires.row c.args.by n.0 n.1))
    (λ v.
    let e : Outer ≡ Inner v.0 = sym c.in-Outer.is ∙ canceled_own c.args.past.now c.requires.legal c.args.at c.args.row c.args.of v.0 c.args.owner c.args.by v.1 c.requires.row other v.2 v.3 in
    cc)
    m)

pub returns-in-Inner : goal.returns-in-Inner
returns-in-Inner c =
    let P = c.args.past.now in
    let j = c.in-Inner.stream in
    let other : c.args.by ≢ c.args.owner = λ e. c.if-number.false (c.number.ensures ∙ ap number_of e ∙ sym c.number-2.ensures) in (
      (λ h. let t = c.has_inherited.ensures.0 h in inr (j, t.0, t.1, subst (λ k. NotesCancel P k j) (sym c.in-Inner.is) t.2)),
      (λ m. ⊎_elim
          (λ n. absurd (other (not_mine P c.requires.legal c.args.row c.args.at c.args.owner c.args.of c.requires.row c.args.by n.0 n.1)))
          (λ v.
          let e : Inner j ≡ Inner v.0 = sym c.in-Inner.is ∙ canceled_own P c.requires.legal c.args.at c.args.row c.args.of v.0 c.args.owner c.args.by v.1 c.requires.row other v.2 v.3 in
          let d : v.0 ≡ j = cc in
          c.has_inherited.ensures.1 (v.1, subst (λ i. Covers P i v.1 c.args.row) d v.2, subst (λ i. NotesCancel P (Inner j) i) d (subst (λ k. NotesCancel P k v.0) c.in-Inner.is v.3)))
          m),
    )
