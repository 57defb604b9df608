-- The leases that wait.
use Rattle.std.proofs.Common.{◌≡◌, ◌≢◌, ℕ, suc, ◌+◌, ◌<◌, ◌≤◌, ◌⊎◌, List, [], ◌∷◌, ◌++◌, length, map, inl, inr, refl, sym, ap, ◌∙◌, subst, ⊎_elim, arith}
use Rattle.std.proofs.lemmas.Bool.{cases_eq}
use Rattle.chunk_core.specs.Lists.{IsAmong}
use Rattle.chunk_core.specs.Lists.IsAmong.{here, there}
use Rattle.chunk_core.proofs.Filters.{among_append, among_right}
use Rattle.chunk_core.proofs.Members.{among_cons, among_last, among_left, among_nil, among_snoc}
use Rattle.row_seat.specs.declared.view.View.{View}
use Rattle.scope_tree.specs.Leased.{pairs_for}
use Rattle.scope_tree.proofs.Leasing.{among_pairs, pairs_among}
use Rattle.join_tree.specs.Mains.{Waits}
use Rattle.join_tree.specs.Progress.{Follow}

pub follow_snoc : (next : ℕ) (ws : List (ℕ × List ℕ)) (leased : ℕ) (T : List ℕ) → Follow next ws leased → Follow next (ws ++ (leased, T) ∷ []) (suc leased)
follow_snoc next [] leased T f = (sym f, ap suc f)
follow_snoc next (w ∷ ws) leased T f = (f.0, follow_snoc (suc next) ws leased T f.1)

-- as many wait as there are streams between
pub follow_length : (next : ℕ) (ws : List (ℕ × List ℕ)) (leased : ℕ) → Follow next ws leased → leased ≡ next + length ws
follow_length next [] leased f = omega arith
follow_length next (w ∷ ws) leased f = let l = follow_length (suc next) ws leased f.1 in omega arith

pub follow_least : (next : ℕ) (ws : List (ℕ × List ℕ)) (leased : ℕ) → Follow next ws leased → next ≤ leased
follow_least next ws leased f = let l = follow_length next ws leased f in omega arith

pub follow_range : (next : ℕ) (ws : List (ℕ × List ℕ)) (leased j : ℕ) (T : List ℕ) → Follow next ws leased → IsAmong (j, T) ws → (next ≤ j) × (j < leased)
follow_range next [] leased j T f m = absurd (among_nil m)
follow_range next (w ∷ ws) leased j T f m = ⊎_elim
    (λ e. let k : j ≡ w.0 = ap (λ (z : ℕ × List ℕ). z.0) e in let n = f.0 in let l = follow_least (suc next) ws leased f.1 in ((omega arith), (omega arith)))
    (λ i. let r = follow_range (suc next) ws leased j T f.1 i in let a = r.0 in (omega arith, r.1))
    (among_cons m)

-- what is below `leased` is below `next` or waits
pub follow_among : (next : ℕ) (ws : List (ℕ × List ℕ)) (leased i : ℕ) → Follow next ws leased → i < leased → (i < next) ⊎ IsAmong i (map (λ w. w.0) ws)
follow_among next [] leased i f l = inl (omega (f, l, arith))
follow_among next (w ∷ ws) leased i f l = ⊎_elim
    (λ e. inr (subst (λ z. IsAmong z (map (λ (y : ℕ × List ℕ). y.0) (w ∷ ws))) (f.0 ∙ sym e) (here (map (λ (y : ℕ × List ℕ). y.0) ws))))
    (λ ne. ⊎_elim (λ k. inl (omega (k, ne, arith))) (λ m. inr (there w.0 m)) (follow_among (suc next) ws leased i f.1 l))
    (cases_eq i next)

-- those behind the first are for other streams
pub follow_other : (next : ℕ) (us : List (ℕ × List ℕ)) (leased j i : ℕ) (T U : List ℕ) → Follow next ((j, T) ∷ us) leased → IsAmong (i, U) us → i ≢ j
follow_other next us leased j i T U f m e = let r = follow_range (suc next) us leased i U f.1 m in let q = r.0 in let s = f.0 in omega arith

module _ {P : Type 0} where
  pub waits_same : (v w : View P) (ws : List (ℕ × List ℕ)) → w.kept ≡ v.kept → w.pairs ≡ v.pairs → Waits v ws → Waits w ws
  waits_same v w ws kept pairs h = record {
    kept = λ j m. h.kept j (subst (λ l. IsAmong j l) kept m);
    keeps = λ j T m. subst (λ l. IsAmong j l) (sym kept) (h.keeps j T m);
    held = λ j r m. h.held j r (subst (λ l. IsAmong (j, r) l) pairs m);
    holds = λ j r T m i. subst (λ l. IsAmong (j, r) l) (sym pairs) (h.holds j r T m i);
  }

  pub waits_more : (v w : View P) (ws : List (ℕ × List ℕ)) (k : ℕ) (T : List ℕ) → w.kept ≡ v.kept ++ k ∷ [] → w.pairs ≡ v.pairs ++ pairs_for k T → Waits v ws → Waits w (ws ++ (k, T) ∷ [])
  waits_more v w ws k T kept pairs h = record {
    kept = λ j m. ⊎_elim
        (λ i. let t = h.kept j i in (t.0, among_left ((k, T) ∷ []) t.1))
        (λ e. (T, subst (λ z. IsAmong (z, T) (ws ++ (k, T) ∷ [])) (sym e) (among_last ws (k, T))))
        (among_snoc v.kept j k (subst (λ l. IsAmong j l) kept m));
    keeps = λ j U m. subst (λ l. IsAmong j l) (sym kept) (⊎_elim
        (λ i. among_left (k ∷ []) (h.keeps j U i))
        (λ e. let z : j ≡ k = ap (λ (x : ℕ × List ℕ). x.0) e in subst (λ x. IsAmong x (v.kept ++ k ∷ [])) (sym z) (among_last v.kept k))
        (among_snoc ws (j, U) (k, T) m));
    held = λ j r m. ⊎_elim
        (λ i. let t = h.held j r i in (t.0, among_left ((k, T) ∷ []) t.1, t.2))
        (λ i. let t = pairs_among k j r T i in (T, subst (λ z. IsAmong (z, T) (ws ++ (k, T) ∷ [])) (sym t.0) (among_last ws (k, T)), t.1))
        (among_append (j, r) v.pairs (pairs_for k T) (subst (λ l. IsAmong (j, r) l) pairs m));
    holds = λ j r U m i. subst (λ l. IsAmong (j, r) l) (sym pairs) (⊎_elim
        (λ x. among_left (pairs_for k T) (h.holds j r U x i))
        (λ e.
        let z : j ≡ k = ap (λ (x : ℕ × List ℕ). x.0) e in
        let u : U ≡ T = ap (λ (x : ℕ × List ℕ). x.1) e in
        among_right (j, r) v.pairs (pairs_for k T) (subst (λ x. IsAmong (x, r) (pairs_for k T)) (sym z) (among_pairs k r T (subst (λ x. IsAmong r x) u i))))
        (among_snoc ws (j, U) (k, T) m));
  }

  -- the lease for j, on the rows T, went
  pub waits_less : (v w : View P) (us : List (ℕ × List ℕ)) (j : ℕ) (T : List ℕ) → ((i : ℕ) → IsAmong i w.kept → IsAmong i v.kept × (i ≢ j)) → ((i : ℕ) → IsAmong i v.kept → i ≢ j → IsAmong i w.kept) → ((i r : ℕ) → IsAmong (i, r) w.pairs → IsAmong (i, r) v.pairs × ¬ ((i ≡ j) × IsAmong r T)) → ((i r : ℕ) → IsAmong (i, r) v.pairs → i ≢ j → IsAmong (i, r) w.pairs) → ((i : ℕ) (U : List ℕ) → IsAmong (i, U) us → i ≢ j) → Waits v ((j, T) ∷ us) → Waits w us
  waits_less v w us j T fewer kept less pairs other h = record {
    kept = λ i m.
        let k = fewer i m in
        let t = h.kept i k.0 in
        (t.0, ⊎_elim (λ e. absurd (k.1 (ap (λ (z : ℕ × List ℕ). z.0) e))) (λ x. x) (among_cons t.1));
    keeps = λ i U m. kept i (h.keeps i U (there (j, T) m)) (other i U m);
    held = λ i r m.
        let k = less i r m in
        let t = h.held i r k.0 in
        (t.0, ⊎_elim (λ e. absurd (k.1 (ap (λ (z : ℕ × List ℕ). z.0) e, subst (λ l. IsAmong r l) (ap (λ (z : ℕ × List ℕ). z.1) e) t.2))) (λ x. x) (among_cons t.1), t.2);
    holds = λ i r U m x. pairs i r (h.holds i r U (there (j, T) m) x) (other i U m);
  }

  -- with the first lease all are
  pub waits_first : (v : View P) (us : List (ℕ × List ℕ)) (next leased j : ℕ) (T : List ℕ) → Follow next ((j, T) ∷ us) leased → Waits v ((j, T) ∷ us) → (r : ℕ) → IsAmong (j, r) v.pairs → IsAmong r T
  waits_first v us next leased j T f h r m =
      let t = h.held j r m in ⊎_elim
      (λ e. subst (λ l. IsAmong r l) (ap (λ (z : ℕ × List ℕ). z.1) e) t.2)
      (λ i. absurd (follow_other next us leased j j T t.0 f i refl))
      (among_cons t.1)
