use Rattle.std.proofs.Common.{◌≡◌, ◌+◌, ◌∙◌, ap, subst, sym, arith, length, is_ok}
use Rattle.ledger_books.specs.Peaks.{RisesBut}
use Rattle.ledger_books.proofs.Heaping.{rises_zeros, zeros_long, zeros_of}
use Rattle.ledger_books.proofs.peaks.Peaks.new.Goals as goal

pub returns : goal.returns
returns c =
    let all = c.in-Some-checked_add.all in
    let twice : all ≡ c.in-Some.half + c.in-Some.half = omega arith in
    let zeros = zeros_of all _ c.resize.new.self.items c.new-knots.result.items _ (ap is_ok c.in-Ok.is) c.new-knots.ensures.items (omega arith) c.resize.ensures.items in
    record {
      some = omega arith;
      long = ap length zeros ∙ zeros_long 0 all ∙ twice;
      rises = subst (λ xs. RisesBut xs c.in-Some.half 0) (sym zeros) (rises_zeros all c.in-Some.half 0);
    }
