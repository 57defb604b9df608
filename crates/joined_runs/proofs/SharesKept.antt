-- The shares of the streams of one run.
use Rattle.std.proofs.Common.{◌≡◌, ◌≢◌, ℕ, ◌<◌, if◌then◌else◌, List, [], ◌∷◌, length, Some, refl, ◌∙◌, ap, ⊎_elim, arith}
use Rattle.chunk_core.specs.Lists.{IsAmong}
use Rattle.chunk_core.specs.Lists.IsAmong.{here, there}
use Rattle.chunk_core.specs.Outcomes.{Outcomes}
use Rattle.chunk_core.specs.Tables.{Values}
use Rattle.res_ledger.specs.declared.event.StreamNo.{StreamNo}
use Rattle.res_ledger.specs.declared.event.StreamNo.TheVariants.{Inner}
use Rattle.res_ledger.specs.declared.event.Event.{Event}
use Rattle.res_ledger.specs.Own.{opens, own}
use Rattle.res_ledger.proofs.Ledgers.{stream_cases}
use Rattle.device_port.specs.Device.{DeviceTold}
use Rattle.run_rules.specs.Facts.{at}
use Rattle.run_rules.specs.Work.{Opener, RunRecord, Stream, first_row_of}
use Rattle.join_tale.specs.Records.{bare}
use Rattle.joined_runs.specs.Together.{HasNotRun, HasRun, RunsTogether}
use Rattle.joined_runs.proofs.JoinedRules.{AreSharesKept}
use Rattle.joined_runs.proofs.MadeRows.{at_some}
use Rattle.joined_runs.proofs.StreamRows.{inside, owner_of, row_here}

-- a stream that noted nothing has nothing of its own
pub own_none : (k : StreamNo) (M : List Event) → ((e : Event) → IsAmong e M → e.by ≢ k) → own k M ≡ []
own_none k [] h = refl
own_none k (e ∷ M) h =
    ⊎_elim
    (λ s. absurd (h e (here M) s.0))
    (λ d. ap (λ b. if b then e.what ∷ own k M else own k M) d.1 ∙ own_none k M (λ x i. h x (there e i)))
    (stream_cases e.by k)

module _ (opener : Opener) (ss : List Stream) (runs : ℕ → Values → (ℕ → DeviceTold) → Outcomes) (listing : DeviceTold → Outcomes) (c : RunRecord) (r : RunsTogether opener ss runs listing c) where
  -- stream k was begun, or it noted nothing
  pub silent : (k : ℕ) (s : Stream) → HasNotRun r.home r.tale k (first_row_of (bare (Some opener) ss) k) s → (e : Event) → IsAmong e c.events → e.by ≢ Inner k
  silent k s u e i b = u.unbegun (r.recorded.begun e k i b)

  -- what follows of stream k, whether it was begun or noted nothing
  by_number : {P : Type 0} (k : ℕ) → k < length ss
      → ((s : Stream) → at ss k ≡ Some s → HasRun (runs k r.values r.home) r.home r.tale c.events k (first_row_of (bare (Some opener) ss) k) s → P)
      → (((e : Event) → IsAmong e c.events → e.by ≢ Inner k) → P) → P
  by_number k l ran quiet = let s = at_some ss k l in ⊎_elim (λ h. ran s.0 s.1 h) (λ u. quiet (silent k s.0 u)) (r.each k s.0 s.1)

  pub shares_kept : AreSharesKept opener ss r.home c.events
  shares_kept = record {
    acquired = λ k q z l n. by_number k l
        (λ s is h. let x = h.share.acquired q z n in let i = inside opener ss k s is in (omega (arith, x.1, i), x.2, owner_of opener ss k s is q x.0 x.1))
        (λ quiet. absurd (quiet n.0 n.1 n.2));
    each = λ q m l o.
        let x = row_here opener ss q m l in
        ⊎_elim
        (λ h. let n = h.share.each q x.low x.high o in (Inner x.number, n.0, n.1))
        (λ u. let z = (u.untouched q x.low x.high).opens in absurd (omega (arith, z, o)))
        (r.each x.number x.stream x.is);
    ended = λ k q x ok l n. by_number k l (λ s is h. h.share.ended q x ok n) (λ quiet. absurd (quiet n.0 n.1 n.2));
    leases = λ k e l i b. by_number k l (λ s is h. h.share.leases e i b) (λ quiet. absurd (quiet e i b));
    opened = λ k s is. ⊎_elim (λ h. h.share.opened) (λ u. let none = ap (λ E. length (opens E)) (own_none (Inner k) c.events (silent k s u)) in omega (arith, none)) (r.each k s is);
    leaves = λ k e j x l i b v. by_number k l (λ s is h. let y = h.share.leaves e j x i b v in (y.0, y.2)) (λ quiet. absurd (quiet e i b));
  }
