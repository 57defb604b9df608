use Rattle.std.proofs.Common.{◌≤◌, ◌<◌, ◌+◌, ℕ, arith, get_or, subst}
use Rattle.ledger_books.specs.Peaks.{RisesBut}
use Rattle.ledger_books.proofs.peaks.Peaks.most.Goals as goal

pub returns : goal.returns
returns c = λ i h l u w.
    let half = c.args.self.now.half in
    let f = subst (λ xs. (q : ℕ) → RisesBut xs half 0 → 0 < c.saturating_add-low.result → c.saturating_add-high.result ≤ half + half → c.saturating_add-low.result ≤ q → q < c.saturating_add-high.result → get_or xs q 0 ≤ c.most_between.result) c.as_slice.ensures.value (c.most_between.ensures half) in
    f (half + i) h.rises (let a = h.some in omega arith) (let a = h.long in omega arith) (let a = h.long in omega arith) (let a = h.long in omega arith)
