use Rattle.std.proofs.Common.{◌≡◌, ◌<◌, ◌+◌, ℕ, Bool, true, false, cond, nat_eq, List, refl, sym, ap, ◌∙◌, subst, arith, get_or, set, length}
use Rattle.std.proofs.lemmas.Bool.{false≢true}
use Rattle.std.proofs.lemmas.List.{length-set, get_or-set_same, get_or-set_other}
use Rattle.chunk_core.proofs.Bools.{itself, number}
use Rattle.ledger_books.specs.Peaks.{RisesBut}
use Rattle.ledger_books.proofs.Heaping.{rises_set}
use Rattle.ledger_books.proofs.peaks.Peaks.set.Goals as goal

pub returns-clause-heap : goal.returns-clause-heap
returns-clause-heap c = λ w h.
    let xs = c.args.self.now.knots.items in
    let half = c.args.self.now.half in
    let n = c.saturating_add-at.result in
    let at : n ≡ half + c.args.place = (let a = h.long in omega arith) in
    let long : length c.put.new.knots.items ≡ half + half = ap length c.put.ensures ∙ length-set xs n c.args.number ∙ h.long in
    record {
      some = h.some;
      long = c.mend_above.ensures.long ∙ long;
      rises = c.mend_above.ensures.rises half long (omega arith) (subst (λ ys. RisesBut ys half n) (sym c.put.ensures) (rises_set xs half n c.args.number (omega arith) h.rises));
    }

pub returns-clause-at : goal.returns-clause-at
returns-clause-at c = λ i w h l.
    let xs = c.args.self.now.knots.items in
    let half = c.args.self.now.half in
    let n = c.saturating_add-at.result in
    let at : n ≡ half + c.args.place = (let a = h.long in omega arith) in
    c.mend_above.ensures.numbers half (half + i) (omega arith) (omega arith) ∙ ap (λ ys. get_or ys (half + i) 0) c.put.ensures ∙ there xs half n c.args.number i c.args.place at (let a = h.long in omega arith) (nat_eq i c.args.place) refl
  where
    there : (xs : List ℕ) (half n m i p : ℕ) → n ≡ half + p → n < length xs → (b : Bool) → nat_eq i p ≡ b → get_or (set xs n m) (half + i) 0 ≡ cond b m (get_or xs (half + i) 0)
    there xs half n m i p at l true e = let q = number i p e in subst (λ k. get_or (set xs n m) k 0 ≡ m) (let r : n ≡ half + i = omega arith in r) (get_or-set_same xs n m 0 l)
    there xs half n m i p at l false e = get_or-set_other xs n (half + i) m 0 (λ q. let r : i ≡ p = omega arith in false≢true (sym e ∙ ap (λ k. nat_eq k p) r ∙ itself p))
