-- What stays where a load came.
use Rattle.std.proofs.Common.{◌≡◌, ◌+◌, ◌≤◌, ℕ, List, [], ◌∷◌, Option, inl, inr, ap, ⊎_elim, arith}
use Rattle.chunk_core.specs.Lists.{IsAmong}
use Rattle.chunk_core.proofs.Members.{among_cons, among_nil}
use Rattle.chunk_core.specs.declared.code.How.{How}
use Rattle.chunk_core.specs.declared.load.Load.{Load}
use Rattle.device_port.specs.Sink.{SinkTold}
use Rattle.interrupt_ctx.specs.declared.why.Why.{Why}
use Rattle.join_tale.specs.Tales.{IsOpen, Tale, end_of, load_of}
use Rattle.join_tale.proofs.Parts.{end_before_load, no_end}
use Rattle.join_report.specs.Calls.{Writes}
use Rattle.join_report.specs.Calls.Writes.{late as too_late, some as put_some, last as put_last, sink as broken_off, memory as not_rendered}

-- an end isn't the one load that came too late
alone_no_end : (j k : ℕ) (h : How) (x : List ℕ) → IsAmong (end_of j h) (load_of k x ∷ []) → ⊥
alone_no_end j k h x m = ⊎_elim (λ e. no_end j k h x e) (λ n. among_nil n) (among_cons m)

-- a stream that is open stays so
pub still_open : (most : Option ℕ) (t : Tale) (k : ℕ) (load : Load) (a b : SinkTold) (answer : Option Why) (u : Tale) → Writes most t k load a b answer u → (j : ℕ) → IsOpen t j → IsOpen u j
still_open most t k load a b answer u (too_late c e) j o = (o.0, λ c. o.1 (c.0, ⊎_elim (λ m. inl m) (λ m. inr (end_before_load j k c.0 _ t.late m)) c.1))
still_open most t k load a b answer u (put_some c n e) j o = (o.0, λ c. o.1 (c.0, ⊎_elim (λ m. inl (end_before_load j k c.0 _ t.front m)) (λ m. inr m) c.1))
still_open most t k load a b answer u (put_last c n e) j o = (o.0, λ c. o.1 (c.0, ⊎_elim (λ m. inl (end_before_load j k c.0 _ t.front m)) (λ m. inr m) c.1))
still_open most t k load a b answer u (broken_off c e) j o = (o.0, λ c. o.1 (c.0, ⊎_elim (λ m. inl m) (λ m. absurd (alone_no_end j k c.0 _ m)) c.1))
still_open most t k load a b answer u (not_rendered c e n) j o = (o.0, λ c. o.1 (c.0, ⊎_elim (λ m. inl m) (λ m. absurd (alone_no_end j k c.0 _ m)) c.1))

-- at most one write failed
pub few_faults : (most : Option ℕ) (t : Tale) (k : ℕ) (load : Load) (a b : SinkTold) (answer : Option Why) (u : Tale) → Writes most t k load a b answer u → b.faults ≤ a.faults + 1
few_faults most t k load a b answer u (too_late c e) = let q : b.faults ≡ a.faults = ap (λ (s : SinkTold). s.faults) e in omega (arith, q)
few_faults most t k load a b answer u (put_some c n e) = let q : b.faults ≡ a.faults = ap (λ (s : SinkTold). s.faults) e in omega (arith, q)
few_faults most t k load a b answer u (put_last c n e) = let q : b.faults ≡ a.faults = ap (λ (s : SinkTold). s.faults) e in omega (arith, q)
few_faults most t k load a b answer u (broken_off c e) = let q : b.faults ≡ a.faults + 1 = ap (λ (s : SinkTold). s.faults) e.told in omega (arith, q)
few_faults most t k load a b answer u (not_rendered c e n) = let q : b.faults ≡ a.faults = ap (λ (s : SinkTold). s.faults) e in omega (arith, q)
