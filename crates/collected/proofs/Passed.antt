-- The streams behind those that were dealt with are passed over in a longer tale.
use Rattle.std.proofs.Common.{◌≡◌, ◌≢◌, ◌⊎◌, ℕ, zero, suc, ◌+◌, ◌<◌, List, [], ◌∷◌, ◌++◌, inl, inr, length, Option, Some, refl, sym, ap, subst, arith, append-nil, append_assoc, length-append}
use Rattle.chunk_core.specs.declared.code.How.{How}
use Rattle.chunk_core.specs.declared.code.How.TheVariants as how
use Rattle.join_report.specs.Reports.{IsReport}
use Rattle.join_report.specs.declared.report.Report.{Report}
use Rattle.join_report.proofs.Steps.{fates}
use Rattle.join_tale.specs.Bounds.{Bounds}
use Rattle.join_tale.specs.Keeping.{IsOuterStopped, IsTale}
use Rattle.join_tale.specs.Steps.{fated}
use Rattle.join_tale.specs.Tales.{FailedSo, Fate, IsBegun, Tale}
use Rattle.join_tale.specs.Tales.Fate.{Begun, Skipped}
use Rattle.join_tale.proofs.Steps.{skips}
use Rattle.res_ledger.specs.declared.event.StreamNo.{StreamNo}
use Rattle.res_ledger.specs.declared.event.StreamNo.TheVariants.{Inner, Outer}
use Rattle.run_rules.specs.Facts.{at}

-- so many fates of streams that are passed over
abbrev pub passed_over : ℕ → List Fate
passed_over zero = []
passed_over (suc n) = Skipped ∷ passed_over n

-- the tale in which so many streams more were passed over
abbrev pub longer : Tale → ℕ → Tale
longer t n = record t { fates = t.fates ++ passed_over n }

count_over : (n : ℕ) → length (passed_over n) ≡ n
count_over zero = refl
count_over (suc n) = ap suc (count_over n)

pub longer_count : (t : Tale) (n : ℕ) → length (longer t n).fates ≡ length t.fates + n
longer_count t n = let l = length-append t.fates (passed_over n) in let c = count_over n in omega (arith, l, c)

one_more : (t : Tale) (n : ℕ) → longer (fated t Skipped) n ≡ longer t (suc n)
one_more t n = ap (λ (l : List Fate). record t { fates = l }) (append_assoc t.fates (Skipped ∷ []) (passed_over n))

none_more : (t : Tale) → t ≡ longer t 0
none_more t = ap (λ (l : List Fate). record t { fates = l }) (sym (append-nil t.fates))

-- where the outer stream has ended otherwise than done, it is a tale
pub longer_tale : (bounds : Bounds) (t : Tale) (n : ℕ) → IsTale bounds t → (0 < n → IsOuterStopped t) → IsTale bounds (longer t n)
longer_tale bounds t zero i stopped = subst (λ u. IsTale bounds u) (none_more t) i
longer_tale bounds t (suc n) i stopped =
    let o = stopped (omega arith) in
    subst (λ u. IsTale bounds u) (one_more t n) (longer_tale bounds (fated t Skipped) n (skips bounds t i (inr (inr o))) (λ l. o))

-- a report tells it as well
pub longer_report : (most : Option ℕ) (count : ℕ) (t : Tale) (r : Report) (n : ℕ) → IsReport most count t r → IsReport most count (longer t n) r
longer_report most count t r zero i = subst (λ u. IsReport most count u r) (none_more t) i
longer_report most count t r (suc n) i = subst (λ u. IsReport most count u r) (one_more t n) (longer_report most count (fated t Skipped) r n (fates most count t r i Skipped (λ e. cc)))

none_begun : (n k : ℕ) → at (passed_over n) k ≡ Some Begun → ⊥
none_begun zero k e = cc
none_begun (suc n) zero e = cc
none_begun (suc n) (suc k) e = none_begun n k e

at_front : (xs : List Fate) (n k : ℕ) → at (xs ++ passed_over n) k ≡ Some Begun → at xs k ≡ Some Begun
at_front [] n k e = absurd (none_begun n k e)
at_front (x ∷ xs) n zero e = e
at_front (x ∷ xs) n (suc k) e = at_front xs n k e

at_still : (xs : List Fate) (n k : ℕ) → at xs k ≡ Some Begun → at (xs ++ passed_over n) k ≡ Some Begun
at_still [] n k e = cc
at_still (x ∷ xs) n zero e = e
at_still (x ∷ xs) n (suc k) e = at_still xs n k e

-- the same streams were begun
pub begun_before : (t : Tale) (n k : ℕ) → IsBegun (longer t n) k → IsBegun t k
begun_before t n k e = at_front t.fates n k e

pub begun_still : (t : Tale) (n k : ℕ) → IsBegun t k → IsBegun (longer t n) k
begun_still t n k e = at_still t.fates n k e

-- the same streams failed
pub failed_still : (t : Tale) (n : ℕ) (k : StreamNo) → FailedSo t k → FailedSo (longer t n) k
failed_still t n Outer f = f
failed_still t n (Inner k) f = f

-- an outer stream is done, or it was stopped
pub done_or : (h : How) → (h ≡ how.Done) ⊎ (h ≢ how.Done)
done_or how.Done = inl refl
done_or (how.Fault c) = inr (λ e. cc)
done_or how.Halted = inr (λ e. cc)
done_or how.Memory = inr (λ e. cc)
