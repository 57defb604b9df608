use Rattle.std.proofs.Common.{◌≤◌, ◌<◌, ◌+◌, ◌-◌, arith, get_or, ⊎_elim}
use Rattle.ledger_books.proofs.Heaping.{most_up}
use Rattle.ledger_books.proofs.peaks.most_between.Goals as goal

pub loop-low-init : goal.loop-low-init
loop-low-init c = λ h m f s b. (s, b, λ l g. g)

pub loop-low-preserved : goal.loop-low-preserved
loop-low-preserved c = λ h m f s b.
    let v = c.loop-low.invariant h m f s b in
    let up = c.half_of-low.ensures in
    let down = c.half_of-high.ensures in
    let some : 0 < c.half_of-low.result = ⊎_elim (λ e. let a = v.0 in omega arith) (λ e. let a = v.0 in omega arith) up in
    let less : c.half_of-high.result ≤ h + h = ⊎_elim (λ e. let a = v.1 in omega arith) (λ e. let a = v.1 in omega arith) down in (
      some,
      less,
      λ l g.
          let x : get_or c.args.knots.now c.loop-low.low 0 ≤ m = (let a = c.raised-most.ensures.knot in let d = c.raised-most-in-loop-low.ensures.number in omega arith) in
          let y : get_or c.args.knots.now (c.loop-low.high - 1) 0 ≤ m = (let a = c.raised-most-in-loop-low.ensures.knot in omega arith) in
          let z : c.loop-low.most ≤ m = (let a = c.raised-most.ensures.number in let d = c.raised-most-in-loop-low.ensures.number in omega arith) in
          v.2 z (most_up c.args.knots.now h c.loop-low.low c.loop-low.high c.half_of-low.result c.half_of-high.result f v.0 v.1 up down m x y g),
    )

pub returns : goal.returns
returns c = λ h q f s b l u. (c.loop-low.invariant h c.loop-low.most f s b).2 (omega arith) (λ p i k. let t = c.loop-low-test.false in absurd (omega arith)) q l u
