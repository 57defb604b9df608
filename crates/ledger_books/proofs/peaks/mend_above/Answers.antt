use Rattle.std.proofs.Common.{◌≤◌, ◌<◌, refl, ◌∙◌, arith, ⊎_elim}
use Rattle.ledger_books.proofs.Heaping.{rises_top}
use Rattle.ledger_books.proofs.peaks.mend_above.Goals as goal

pub loop-at-init : goal.loop-at-init
loop-at-init c = record { long = refl; lower = omega arith; rises = λ h l b f. f; numbers = λ h i b l. refl }

pub loop-at-preserved : goal.loop-at-preserved
loop-at-preserved c =
    let v = c.loop-at.invariant in
    let p = c.half_of-at.ensures in
    let low : c.half_of-at.result ≤ c.loop-at.at = ⊎_elim (λ e. omega arith) (λ e. omega arith) p in
    record {
      long = c.mend.ensures.long ∙ v.long;
      lower = (let a = v.lower in omega arith);
      rises = λ h l b f.
          let some : 0 < c.half_of-at.result = ⊎_elim (λ e. let t = c.loop-at-test.true in omega arith) (λ e. let t = c.loop-at-test.true in omega arith) p in
          let less : c.half_of-at.result < h = ⊎_elim (λ e. let a = v.lower in omega arith) (λ e. let a = v.lower in omega arith) p in
          c.mend.ensures.rises h c.loop-at.at (v.long ∙ l) some less p (v.rises h l b f);
      numbers = λ h i b l.
          let less : c.half_of-at.result < i = ⊎_elim (λ e. let a = v.lower in omega arith) (λ e. let a = v.lower in omega arith) p in
          c.mend.ensures.numbers i less ∙ v.numbers h i b l;
    }

pub returns : goal.returns
returns c = record {
  long = c.loop-at.invariant.long;
  rises = λ h l b f. rises_top _ h c.loop-at.at (let t = c.loop-at-test.false in omega arith) (c.loop-at.invariant.rises h l b f);
  numbers = c.loop-at.invariant.numbers;
}
