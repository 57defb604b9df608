-- Texts that are a ledger's, and texts that are refused.
use Rattle.std.proofs.Common.{◌≢◌, ℕ, refl, sym, ap, subst, arith}
use Rattle.ledger_text.specs.Reading.{IsFirstBadLine, IsSpelled}
use Rattle.ledger_text.specs.declared.reading.LedgerRefused.{LedgerRefused}
use Rattle.ledger_text.specs.declared.reading.LedgerRefused.TheVariants.{Memory, BadLine, BadCount}
use Rattle.ledger_text.proofs.Readings.{refusal_is_one, text_is_not_refused}
use Rattle.audit_run.specs.declared.reading.LedgerRefusal.{LedgerRefusal}
use Rattle.audit_run.specs.declared.reading.LedgerRefusal.TheVariants.{Size, Line, Count}
use Rattle.audit_run.specs.Laws.{NoTextForOneCause, TextForNoCause}

-- what the reader answers is no want of memory
line_is : (i : ℕ) → BadLine i ≢ Memory
line_is i e = cc

count_is : (s f : ℕ) → BadCount s f ≢ Memory
count_is s f e = cc

-- what is refused, by what the reader answers
abbrev told : LedgerRefused → LedgerRefusal
told Memory = Size
told (BadLine i) = Line i
told (BadCount s f) = Count s f

pub one_cause : NoTextForOneCause
one_cause bytes Size Size x y = refl
one_cause bytes Size (Line j) x y = let few = y.0 in absurd (omega (arith, x, few))
one_cause bytes Size (Count s f) x y = let few = y.0 in absurd (omega (arith, x, few))
one_cause bytes (Line i) Size x y = let few = x.0 in absurd (omega (arith, y, few))
one_cause bytes (Line i) (Line j) x y = ap told (refusal_is_one bytes (BadLine i) (BadLine j) (line_is i) (line_is j) x.1 y.1)
one_cause bytes (Line i) (Count s f) x y = ap told (refusal_is_one bytes (BadLine i) (BadCount s f) (line_is i) (count_is s f) x.1 (y.1, y.2))
one_cause bytes (Count s f) Size x y = let few = x.0 in absurd (omega (arith, y, few))
one_cause bytes (Count s f) (Line j) x y = ap told (refusal_is_one bytes (BadCount s f) (BadLine j) (count_is s f) (line_is j) (x.1, x.2) y.1)
one_cause bytes (Count s f) (Count u g) x y = ap told (refusal_is_one bytes (BadCount s f) (BadCount u g) (count_is s f) (count_is u g) (x.1, x.2) (y.1, y.2))

pub no_cause : TextForNoCause
no_cause bytes L Size t many = let few = t.0 in omega (arith, few, many)
no_cause bytes L (Line i) t bad = line_is i (text_is_not_refused L t.1 (BadLine i) (subst (λ b. IsFirstBadLine b i) (sym t.2) bad.1))
no_cause bytes L (Count s f) t bad = count_is s f (text_is_not_refused L t.1 (BadCount s f) (subst (λ b. IsSpelled b s f) (sym t.2) bad.1, bad.2))
