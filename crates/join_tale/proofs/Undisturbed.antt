-- Where nothing stopped a stream, each is done.
use Rattle.std.proofs.Common.{◌≡◌, ℕ, zero, suc, ◌<◌, true, not, List, [], ◌∷◌, length, Option, Some, None, IfSome, is_some, refl, ap, ⊎_elim, arith}
use Rattle.std.specs.List.{list_any as any, list_all as all}
use Rattle.chunk_core.specs.Lists.{IsAmong}
use Rattle.chunk_core.proofs.Bools.{any_at, both, no}
use Rattle.chunk_core.specs.declared.code.How.{How}
use Rattle.chunk_core.specs.declared.code.How.TheVariants as how
use Rattle.res_ledger.specs.declared.event.StreamNo.{StreamNo}
use Rattle.res_ledger.specs.declared.event.StreamNo.TheVariants.{Outer, Inner}
use Rattle.run_rules.specs.declared.end.EndOf.{EndOf}
use Rattle.run_rules.specs.Ends.{EndStopsInTime, HasCauseToHalt, IsSilenced}
use Rattle.run_rules.specs.Facts.{IsFailure, at, is_fault}
use Rattle.run_rules.specs.Work.{Work, RunRecord, Stream, most_of}
use Rattle.join_tale.specs.Records.{Follows, IsUndisturbed}
use Rattle.join_tale.proofs.Places.{none_some, not_both, some_is}

-- a number above another isn't that
not_number : (o : Option ℕ) (n : ℕ) → IfSome o (λ m. n < m) → o ≡ Some n → ⊥
not_number None n l e = none_some e
not_number (Some m) n l e = let less : n < m = l in let same : m ≡ n = some_is m n e in omega (arith, less, same)

-- no stream ends with another
no_until : (ss : List Stream) (k : ℕ) → all (λ s. not (is_some s.until)) ss ≡ true → (j : ℕ) → elim (at ss k) [ Some s ↦ s.until | None ↦ None ] ≡ Some j → ⊥
no_until [] k h j e = none_some e
no_until (s ∷ ss) zero h j e = no (is_some s.until) (both (not (is_some s.until)) (all (λ (z : Stream). not (is_some z.until)) ss) h).0 (ap (λ (o : Option ℕ). is_some o) e)
no_until (s ∷ ss) (suc k) h j e = no_until ss k (both (not (is_some s.until)) (all (λ (z : Stream). not (is_some z.until)) ss) h).1 j e

module _ (work : Work) (c : RunRecord) (u : IsUndisturbed work c) where
  no_silence : IsSilenced work c → ⊥
  no_silence s = ⊎_elim (λ n. n u.written) (λ m. not_number (most_of work) (length c.frames) u.most m) s

  no_fault : (e : EndOf) → IsAmong e c.ends → IsFailure e.how → ⊥
  no_fault e m f = not_both (any (λ (x : EndOf). is_fault x.how) c.ends) u.faultless (any_at (λ (x : EndOf). is_fault x.how) e c.ends m (ap is_fault f.1))

  no_end : (k : StreamNo) → EndStopsInTime work c k → ⊥
  no_end Outer e = none_some e.1
  no_end (Inner k) e = no_until work.streams k u.until e.0 e.1

  no_cause : (k : StreamNo) → HasCauseToHalt work c k → ⊥
  no_cause k h = ⊎_elim (λ s. no_silence s.0) (λ z. ⊎_elim (λ m. not_both c.memory u.memory m) (λ y. ⊎_elim (λ f. no_fault f.0 f.1 f.2) (λ e. no_end k e) y) z) h

  by_how : (e : EndOf) (h : How) → IsAmong e c.ends → Follows work c → e.how ≡ h → h ≡ how.Done
  by_how e how.Done m f is = refl
  by_how e how.Halted m f is = absurd (no_cause e.who (f.halted e m is))
  by_how e how.Memory m f is = absurd (not_both c.memory u.memory (f.memory e m is))
  by_how e (how.Fault g) m f is = absurd (no_fault e m (g, is))

pub undisturbed_is_done : (work : Work) (c : RunRecord) → Follows work c → IsUndisturbed work c → (e : EndOf) → IsAmong e c.ends → e.how ≡ how.Done
undisturbed_is_done work c f u e m = by_how work c u e e.how m f refl
