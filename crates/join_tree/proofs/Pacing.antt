-- What the finished ledger tells of the outer stream's pace.
use Rattle.std.proofs.Common.{◌≡◌, ℕ, zero, suc, ◌+◌, ◌<◌, ◌≤◌, ◌⊎◌, true, false, List, [], ◌∷◌, ◌++◌, length, length-append, count_by, inl, inr, sym, ap, subst, ⊎_elim, arith}
use Rattle.std.proofs.lemmas.Bool.{cases_eq}
use Rattle.chunk_core.specs.Lists.{IsAmong}
use Rattle.chunk_core.specs.Lists.IsAmong.{here, there}
use Rattle.chunk_core.proofs.Bools.{any_found, both, number}
use Rattle.chunk_core.proofs.Cuts.{among_parts}
use Rattle.chunk_core.proofs.Members.{among_left, among_mid}
use Rattle.res_ledger.specs.declared.event.Event.{Event}
use Rattle.res_ledger.specs.declared.event.StreamNo.{StreamNo}
use Rattle.res_ledger.specs.declared.event.StreamNo.TheVariants.{Outer}
use Rattle.res_ledger.specs.declared.event.What.{What}
use Rattle.res_ledger.specs.declared.event.What.TheVariants.{Acquire, Cancel, Close, Final, Lease, Open}
use Rattle.res_ledger.specs.Ledger.{Covers, IsLegal, IsOpened, IsStamped, IsUsable, LiesWithin, MayFollow, Notes}
use Rattle.res_ledger.specs.Ledger.LiesWithin.{same, below}
use Rattle.res_ledger.proofs.Prefixes.{front_legal, front_within}
use Rattle.run_rules.specs.Facts.{first_numbers, has_event, holds_number, leased_stream}
use Rattle.run_rules.specs.Pace.{LeasesInOrder, OuterWaits, is_standing}
use Rattle.scope_tree.proofs.Keeps.{within_trans}
use Rattle.tree_families.proofs.Counting.{covered_count, last_passing}
use Rattle.tree_families.proofs.Pacing.{before, in_whole, stamp_before, stamp_in, uncancelled}
use Rattle.join_tree.specs.Notes.{GivesInPace, IsTold}
use Rattle.join_tree.specs.Progress.{Progress}
use Rattle.join_tree.proofs.Giving.{lease_below}

-- what leases for k is a Lease for k
lease_found : (w : What) (k : ℕ) → holds_number (leased_stream w) k ≡ true → (s : ℕ) × (w ≡ Lease k s)
lease_found (Lease j s) k h = (s, ap (λ i. Lease i s) (number j k h))
lease_found (Open s p) k h = absurd (let z : false ≡ true = h in cc)
lease_found (Acquire r s) k h = absurd (let z : false ≡ true = h in cc)
lease_found (Cancel j x) k h = absurd (let z : false ≡ true = h in cc)
lease_found (Close s x) k h = absurd (let z : false ≡ true = h in cc)
lease_found (Final r x ok) k h = absurd (let z : false ≡ true = h in cc)

-- each scope of a legal list lies below the root
under_root : (n : ℕ) (L : List Event) → length L ≤ n → IsLegal L → (k : StreamNo) (s : ℕ) → (s ≡ 0) ⊎ IsOpened L k s → LiesWithin L k s 0
under_root n L l legal k s (inl z) = subst (λ x. LiesWithin L k x 0) (sym z) (same 0)
under_root zero L l legal k s (inr o) = let t = among_parts o.1.0 L o.1.1 in absurd (let a = ap length t.2 in let b = length-append t.0 (o.1.0 ∷ t.1) in omega arith)
under_root (suc n) L l legal k s (inr o) =
    let t = among_parts o.1.0 L o.1.1 in
    let u : IsUsable t.0 k o.0 = (subst (λ b. MayFollow t.0 b (Open s o.0)) o.1.2 (subst (λ w. MayFollow t.0 o.1.0.by w) o.1.3 (legal t.0 t.1 o.1.0 t.2))).2 in
    let a = ap length t.2 in
    let b = length-append t.0 (o.1.0 ∷ t.1) in
    let w = under_root n t.0 (omega arith) (front_legal t.0 (o.1.0 ∷ t.1) (subst IsLegal t.2 legal)) k o.0 u.0 in
    below s o.0 0 o.1 (subst (λ x. LiesWithin x k o.0 0) (sym t.2) (front_within (o.1.0 ∷ t.1) w))

module _ {P : Type 0} {width : ℕ} (p : Progress P) (L : List Event) (stamped : IsStamped L) (told : IsTold p L) (gives : GivesInPace width L) where
  -- what has a lesser stamp than e stands before it
  noted_earlier : (R S : List Event) (e f : Event) → L ≡ R ++ e ∷ S → IsAmong f L → f.stamp < e.stamp → IsAmong f R
  noted_earlier R S e f is m l = before L R S e f stamped is m (subst (λ n. f.stamp < n) (stamped R S e is) l)

  pub leases_in_order : LeasesInOrder L
  leases_in_order R S e i j s is what less =
      let m : IsAmong e L = subst (λ l. IsAmong e l) (sym is) (among_mid R S e) in
      let low = lease_below told e j s m what in
      let n = told.leases i (omega (low, less, arith)) in
      let x = n.1 in
      (Outer, n.0, (x.0, noted_earlier R S e x.0 is x.1 (gives.order x.0 e i j n.0 s x.1 m x.3 what less), x.2, x.3))

  -- so many stand where k is the last
  waits_at : (n : ℕ) (R S : List Event) (e : Event) → L ≡ R ++ e ∷ S → (k : ℕ) → is_standing (R ++ e ∷ []) k ≡ true → ((i : ℕ) → i < n → is_standing (R ++ e ∷ []) i ≡ true → i ≤ k) → count_by (is_standing (R ++ e ∷ [])) (first_numbers n) ≤ width + 1
  waits_at n R S e is k stands most =
      let M = R ++ e ∷ [] in
      let f = any_found (λ x. holds_number (leased_stream x.what) k) M (both (has_event (λ w. holds_number (leased_stream w) k) M) _ stands).0 in
      let l = lease_found f.0.what k f.2 in
      let w = gives.waits f.0 k l.0 (in_whole L R S e f.0 is f.1) l.1 in
      let top : f.0.stamp ≤ length R = stamp_in L R S e f.0 stamped is f.1 in
      let c = covered_count (is_standing M) n (k ∷ w.0) (λ i less h. ⊎_elim
      (λ q. subst (λ z. IsAmong z (k ∷ w.0)) (sym q) (here w.0))
      (λ ne. ⊎_elim
      (λ o. there k o)
      (λ o.
      let q = o.2 in
      let low : q.0.stamp < length R = (let u = q.4 in omega (u, top, arith)) in
      absurd (uncancelled M i o.0 (both (has_event (λ w. holds_number (leased_stream w) i) M) _ h).1 (o.1, (q.0, among_left (e ∷ []) (before L R S e q.0 stamped is q.1 low), q.2, q.3))))
      (w.2 i (let u = most i less h in omega (u, ne, arith))))
      (cases_eq i k)) in
      let few = w.1 in omega (c, few, arith)

  pub outer_waits : (n : ℕ) → OuterWaits width n L
  outer_waits n R S e is = ⊎_elim
      (λ h. let c = covered_count (is_standing (R ++ e ∷ [])) n [] (λ k l t. absurd (h k l t)) in omega (c, arith))
      (λ h. waits_at n R S e is h.0 h.2 h.3)
      (last_passing (is_standing (R ++ e ∷ [])) n)

  -- the outer stream acquires rows in their order
  pub rows_rise : (R S : List Event) (e : Event) (r s q t : ℕ) → L ≡ R ++ e ∷ S → e.by ≡ Outer → e.what ≡ Acquire r s → Notes R Outer (Acquire q t) → q < r
  rows_rise R S e r s q t is by what n =
      let m : IsAmong e L = subst (λ l. IsAmong e l) (sym is) (among_mid R S e) in
      let o : IsAmong n.0 L = subst (λ l. IsAmong n.0 l) (sym is) (among_left (e ∷ S) n.1) in
      gives.rise e n.0 r s q t m o by n.2 what n.3 (subst (λ k. n.0.stamp < k) (sym (stamped R S e is)) (stamp_before L R S e n.0 stamped is n.1))

  -- each Lease of the outer stream covers the rows of its root
  pub leases_cover : IsLegal L → (j s r : ℕ) → Notes L Outer (Lease j s) → IsAmong (Acquire r 0) p.tables → Covers L j Outer r
  leases_cover legal j s r n i =
      let e = n.0 in
      let at = among_parts e L n.1 in
      let may : MayFollow at.0 Outer (Lease j s) = subst (λ k. MayFollow at.0 k (Lease j s)) n.2 (subst (λ w. MayFollow at.0 e.by w) n.3 (legal at.0 at.1 e at.2)) in
      let a = told.acquired r i in
      let first : IsAmong a.0 at.0 = noted_earlier at.0 at.1 e a.0 at.2 a.1 (gives.behind a.0 e r j s a.1 n.1 a.2 a.3 n.3) in
      let within = under_root (length at.0) at.0 (omega arith) (front_legal at.0 (e ∷ at.1) (subst IsLegal at.2 legal)) Outer s may.2.0 in
      (at.0, at.1, e, s, at.2, n.2, n.3, (0, (a.0, first, a.2, a.3), inr within, λ c. may.2.1 (c.0, within_trans within c.1, c.2)))
