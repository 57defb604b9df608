-- Behind the Cancel of its own lease a stream notes nothing but Finals.
use Rattle.std.proofs.Common.{◌≡◌, ◌≤◌, ℕ, zero, suc, Bool, List, ◌∷◌, ◌++◌, length, refl, sym, ap, ◌∙◌, subst, arith, ⊎_elim, append_assoc, length-append}
use Rattle.chunk_core.specs.declared.code.Exit.{Exit}
use Rattle.chunk_core.proofs.Cuts.{among_parts}
use Rattle.chunk_core.proofs.Members.{among_mid}
use Rattle.res_ledger.specs.Ledger.{IsCanceled, IsLegal, IsOpened, IsUsable, LiesWithin, MayFollow, Notes, NotesClose}
use Rattle.res_ledger.specs.Ledger.LiesWithin.{same, below}
use Rattle.res_ledger.specs.declared.event.Event.{Event}
use Rattle.res_ledger.specs.declared.event.StreamNo.{StreamNo}
use Rattle.res_ledger.specs.declared.event.StreamNo.TheVariants.{Inner, Outer}
use Rattle.res_ledger.specs.declared.event.What.{What}
use Rattle.res_ledger.specs.declared.event.What.TheVariants.{Open, Acquire, Lease, Cancel, Close, Final}
use Rattle.res_ledger.proofs.Ledgers.{inner_is}
use Rattle.res_ledger.proofs.Prefixes.{front_legal, front_notes, front_within, split_at}
use Rattle.run_laws.specs.Laws.{LeaversAreSilent, OnlyOuterLeases}

-- each scope that was opened lies below the root
below_root : (n : ℕ) (L : List Event) → length L ≤ n → IsLegal L → (k : StreamNo) (s : ℕ) → IsOpened L k s → LiesWithin L k s 0
below_root zero L short legal k s o =
    let parts = split_at o.1.0 L o.1.1 in
    let l = ap length parts.2 in
    let m = length-append parts.0 (o.1.0 ∷ parts.1) in
    absurd (omega arith)
below_root (suc n) L short legal k s o =
    let e = o.1.0 in
    let parts = split_at e L o.1.1 in
    let l = ap length parts.2 in
    let m = length-append parts.0 (e ∷ parts.1) in
    let less : length parts.0 ≤ n = omega arith in
    let front : IsLegal parts.0 = front_legal parts.0 (e ∷ parts.1) (subst IsLegal parts.2 legal) in
    let may : MayFollow parts.0 k (Open s o.0) = subst (λ q. MayFollow parts.0 q (Open s o.0)) o.1.2 (subst (λ v. MayFollow parts.0 e.by v) o.1.3 (legal parts.0 parts.1 e parts.2)) in
    let up : LiesWithin parts.0 k o.0 0 = ⊎_elim (λ z. subst (λ q. LiesWithin parts.0 k q 0) (sym z) (same 0)) (λ q. below_root n parts.0 less front k o.0 q) may.2.0 in
    below s o.0 0 o.1 (subst (λ x. LiesWithin x k o.0 0) (sym parts.2) (front_within (e ∷ parts.1) up))

-- where the root is closed no scope may be used
unusable : (L : List Event) → IsLegal L → (k : StreamNo) (s : ℕ) → NotesClose L k 0 → IsUsable L k s → ⊥
unusable L legal k s c u =
    let within : LiesWithin L k s 0 = ⊎_elim (λ z. subst (λ q. LiesWithin L k q 0) (sym z) (same 0)) (λ o. below_root (length L) L (omega arith) legal k s o) u.0 in
    u.1 (0, within, c)

module _ (F : List Event) (legal : IsLegal F) (outer : OnlyOuterLeases F) (j : ℕ) (x : Exit) (closed : NotesClose F (Inner j) 0) (left : Notes F (Inner j) (Cancel j x)) where
  not_outer : Inner j ≡ Outer → ⊥
  not_outer e = cc

  only_final : (w : What) → MayFollow F (Inner j) w → (r : ℕ) × (y : Exit) × (ok : Bool) × (w ≡ Final r y ok)
  only_final (Open s p) m = absurd (unusable F legal (Inner j) p closed m.2)
  only_final (Acquire r s) m = absurd (unusable F legal (Inner j) s closed m.1)
  only_final (Lease i s) m = absurd (unusable F legal (Inner j) s closed m.2)
  only_final (Cancel i y) m = absurd (⊎_elim
      (λ o. m.1 (subst (λ q. IsCanceled F q) (inner_is j i o.0) (Inner j, (x, left))))
      (λ o. not_outer (outer (Inner j) i o.0.0 o.0.1))
      m.2)
  only_final (Close s y) m = absurd (unusable F legal (Inner j) s closed m)
  only_final (Final r y ok) m = (r, y, ok, refl)

pub leavers_are_silent : LeaversAreSilent
leavers_are_silent L P Q e f j x legal outer closes is by what among mine =
    let parts = among_parts f Q among in
    let F = P ++ e ∷ parts.0 in
    let whole : L ≡ F ++ f ∷ parts.1 = is ∙ (ap (λ l. P ++ e ∷ l) parts.2 ∙ sym (append_assoc P (e ∷ parts.0) (f ∷ parts.1))) in
    let front : IsLegal F = front_legal F (f ∷ parts.1) (subst IsLegal whole legal) in
    let c = closes P Q e j x is by what in
    let closed : NotesClose F (Inner j) 0 = (c.0, front_notes (e ∷ parts.0) c.1) in
    let left : Notes F (Inner j) (Cancel j x) = (e, among_mid P parts.0 e, by, what) in
    let may : MayFollow F (Inner j) f.what = subst (λ k. MayFollow F k f.what) mine (legal F parts.1 f whole) in
    only_final F front (λ k i s n. outer k i s (subst (λ l. Notes l k (Lease i s)) (sym whole) (front_notes (f ∷ parts.1) n))) j x closed left f.what may
