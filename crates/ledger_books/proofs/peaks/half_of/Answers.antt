use Rattle.std.proofs.Common.{◌≡◌, ◌<◌, ◌+◌, ◌*◌, ◌/◌, ◌%◌, zero, suc, ℕ, ◌⊎◌, inl, inr, arith}
use Rattle.std.proofs.Math.Nat.{div-add-mod, mod-lt}
use Rattle.ledger_books.proofs.peaks.half_of.Goals as goal

halved : (n h r : ℕ) → 2 * h + r ≡ n → r < 2 → (h + h ≡ n) ⊎ (suc (h + h) ≡ n)
halved n h zero e l = inl (omega arith)
halved n h (suc zero) e l = inr (omega arith)
halved n h (suc (suc r)) e l = absurd (omega arith)

pub returns : goal.returns
returns c = halved c.args.n (c.args.n / 2) (c.args.n % 2) (div-add-mod c.args.n 2) (mod-lt c.args.n (omega arith))
