-- A walk over the leases, the latest first.
use Rattle.std.proofs.Common.{◌≡◌, ◌↔◌, ℕ, suc, ◌<◌, ◌≤◌, true, List, [], ◌∷◌, ◌++◌, refl, sym, ap, ◌∙◌, subst, ⊎_elim, length, arith, Some, slice_get}
use Rattle.std.proofs.lemmas.Bool.{false≢true}
use Rattle.chunk_core.specs.Lists.{IsAmong}
use Rattle.chunk_core.proofs.Members.{among_last, among_left, among_nil, among_snoc}
use Rattle.std.proofs.lemmas.Option.{slice_get_within}
use Rattle.res_ledger.specs.declared.event.StreamNo.{StreamNo}
use Rattle.res_ledger.specs.declared.event.What.{What}
use Rattle.res_ledger.specs.declared.event.What.TheVariants.{Acquire, Lease}
use Rattle.res_ledger.specs.declared.event.Event.{Event}
use Rattle.res_ledger.specs.Ledger.{Covers, IsFinalized, IsLegal, Notes}
use Rattle.ledger_books.specs.Keyed.{NotesAt, CoversAt, IsSomeCover, Listed, is_acquire, is_lease}
use Rattle.ledger_books.proofs.Placed.{among_at as among_place, places}
use Rattle.ledger_books.proofs.Covering.{covers_mine, covers_to, covers_of}

-- among the leases from position n on, those that cover the row were found
pub record Found (P : List Event) (xs : List ℕ) (r n : ℕ) (found : List ℕ) : Type 0 where
  pub sound : (j : ℕ) → IsAmong j found → IsSomeCover P j r
  pub all : (m i j s : ℕ) (k : StreamNo) → slice_get xs m ≡ Some i → n ≤ m → NotesAt P i k (Lease j s) → CoversAt P i k s r → IsAmong j found

same_place : (xs : List ℕ) (m n i j : ℕ) → m ≡ n → slice_get xs m ≡ Some i → slice_get xs n ≡ Some j → i ≡ j
same_place xs m n i j e a b = let h : Some i ≡ Some j = sym a ∙ ap (slice_get xs) e ∙ b in let q : i ≡ j = cc in q

pub same_lease : (P : List Event) (i j h s t : ℕ) (k q : StreamNo) → NotesAt P i k (Lease j s) → NotesAt P i q (Lease h t) → (j ≡ h) × (s ≡ t) × (k ≡ q)
same_lease P i j h s t k q a b =
    let w : Some a.0 ≡ Some b.0 = sym a.1 ∙ b.1 in
    let e : a.0 ≡ b.0 = cc in
    let v : Lease j s ≡ Lease h t = sym a.3 ∙ ap (λ x. x.what) e ∙ b.3 in
    let x : j ≡ h = cc in
    let y : s ≡ t = cc in
    (x, y, sym a.2 ∙ ap (λ z. z.by) e ∙ b.2)

module _ (P : List Event) (legal : IsLegal P) (xs : List ℕ) (listed : Listed is_lease xs P) (q : StreamNo) (r at t : ℕ) (row : NotesAt P at q (Acquire r t)) where
  -- where the leases that are left stand in front of the row, all were found
  pub found_ends : (n : ℕ) (found : List ℕ) → ((m i : ℕ) → slice_get xs m ≡ Some i → m < n → i ≤ at) → Found P xs r n found → (j : ℕ) → IsAmong j found ↔ IsSomeCover P j r
  found_ends n found cut f j = (
    (λ m. f.sound j m),
    (λ c.
        let v = covers_to P j r c.0 c.1 in
        let l = listed.all v.0 v.2.0 v.2.1 (ap is_lease v.2.3) in
        let mine = (covers_mine P legal c.0 q v.0 j v.1 r at t v.2 row v.3).1 in
        ⊎_elim
        (λ e. f.all l.0 v.0 j v.1 c.0 l.1 (omega arith) v.2 v.3)
        (λ o. ⊎_elim (λ h. let z = cut l.0 v.0 l.1 h in absurd (omega arith)) (λ h. f.all l.0 v.0 j v.1 c.0 l.1 (omega arith) v.2 v.3) o)
        (places l.0 n)),
  )

  -- leases behind a place at or in front of the row
  pub rest_before : (n i : ℕ) → slice_get xs n ≡ Some i → i ≤ at → (m h : ℕ) → slice_get xs m ≡ Some h → m < suc n → h ≤ at
  rest_before n i a l m h b lt = ⊎_elim
      (λ e. let z = same_place xs m n h i e b a in omega arith)
      (λ o. ⊎_elim (λ w. let z = listed.rises m n h i b a w in omega arith) (λ w. absurd (omega arith)) o)
      (places m n)

  pub found_skip : (n i j s : ℕ) (k : StreamNo) (found : List ℕ) → slice_get xs n ≡ Some i → NotesAt P i k (Lease j s) → ¬ (CoversAt P i k s r) → Found P xs r (suc n) found → Found P xs r n found
  found_skip n i j s k found a e bare f = record {
    sound = f.sound;
    all = λ m h g u p b l w v. ⊎_elim
        (λ x. let z = same_place xs m n h i x b a in
        let y = same_lease P i g j u s p k (subst (λ c. NotesAt P c p (Lease g u)) z w) e in
        absurd (bare (subst (λ c. CoversAt P i c s r) y.2 (subst (λ c. CoversAt P i p c r) y.1 (subst (λ c. CoversAt P c p u r) z v)))))
        (λ o. ⊎_elim (λ x. absurd (omega arith)) (λ x. f.all m h g u p b (omega arith) w v) o)
        (places m n);
  }

  pub found_more : (n i j s : ℕ) (k : StreamNo) (found : List ℕ) → slice_get xs n ≡ Some i → NotesAt P i k (Lease j s) → CoversAt P i k s r → Found P xs r (suc n) found → Found P xs r n (found ++ j ∷ [])
  found_more n i j s k found a e c0 f = record {
    sound = λ g m. ⊎_elim (λ l. f.sound g l) (λ x. (k, subst (λ c. Covers P c k r) (sym x) (covers_of P i j s r k e c0))) (among_snoc found g j m);
    all = λ m h g u p b l w v. ⊎_elim
        (λ x. let z = same_place xs m n h i x b a in
        let y = same_lease P i g j u s p k (subst (λ c. NotesAt P c p (Lease g u)) z w) e in
        subst (λ c. IsAmong c (found ++ j ∷ [])) (sym y.0) (among_last found j))
        (λ o. ⊎_elim (λ x. absurd (omega arith)) (λ x. among_left (j ∷ []) (f.all m h g u p b (omega arith) w v)) o)
        (places m n);
  }

pub found_start : (P : List Event) (xs : List ℕ) (r n : ℕ) (found : List ℕ) → n ≡ length xs → found ≡ [] → Found P xs r n found
found_start P xs r n found e z = record {
  sound = λ j m. absurd (among_nil (subst (IsAmong j) z m));
  all = λ m i j s k a l w v. let h = slice_get_within xs m i a in absurd (omega arith);
}

pub found_at : (P : List Event) (xs : List ℕ) (r m n : ℕ) (found : List ℕ) → m ≡ n → Found P xs r m found → Found P xs r n found
found_at P xs r m n found e f = subst (λ k. Found P xs r k found) e f

pub lease_shape : (w : What) → is_lease w ≡ true → (j s : ℕ) × (w ≡ Lease j s)
lease_shape (Lease j s) h = (j, s, refl)
lease_shape w h = absurd (false≢true h)

-- the rows of a stream, from position n on, are final
pub record Ended (P : List Event) (xs : List ℕ) (k : StreamNo) (n : ℕ) : Type 0 where
  pub all : (m i r s : ℕ) → slice_get xs m ≡ Some i → n ≤ m → NotesAt P i k (Acquire r s) → IsFinalized P r

pub ended_start : (P : List Event) (xs : List ℕ) (k : StreamNo) (n : ℕ) → n ≡ length xs → Ended P xs k n
ended_start P xs k n e = record { all = λ m i r s a l w. let h = slice_get_within xs m i a in absurd (omega arith) }

pub ended_more : (P : List Event) (xs : List ℕ) (k : StreamNo) (p n i : ℕ) → p ≡ suc n → slice_get xs n ≡ Some i → ((r s : ℕ) → NotesAt P i k (Acquire r s) → IsFinalized P r) → Ended P xs k p → Ended P xs k n
ended_more P xs k p n i e a f d = record {
  all = λ m h r s b l w. ⊎_elim
      (λ x. f r s (subst (λ c. NotesAt P c k (Acquire r s)) (same_place xs m n h i x b a) w))
      (λ o. ⊎_elim (λ x. absurd (omega arith)) (λ x. d.all m h r s b (omega arith) w) o)
      (places m n);
}

-- where the rows that are left stand in front of the stream's first event, all are final
pub ended_all : (P : List Event) (xs : List ℕ) → Listed is_acquire xs P → (k : StreamNo) (first n : ℕ) → ((m : ℕ) (f : Event) → slice_get P m ≡ Some f → f.by ≡ k → first ≤ m) → ((m i : ℕ) → slice_get xs m ≡ Some i → m < n → i < first) → Ended P xs k n → (r s : ℕ) → Notes P k (Acquire r s) → IsFinalized P r
ended_all P xs l k first n begun cut d r s w =
    let p = among_place w.0 P w.1 in
    let m = l.all p.0 w.0 p.1 (ap is_acquire w.3) in
    let f = begun p.0 w.0 p.1 w.2 in
    ⊎_elim
    (λ e. d.all m.0 p.0 r s m.1 (omega arith) (w.0, p.1, w.2, w.3))
    (λ o. ⊎_elim (λ h. let z = cut m.0 p.0 m.1 h in absurd (omega arith)) (λ h. d.all m.0 p.0 r s m.1 (omega arith) (w.0, p.1, w.2, w.3)) o)
    (places m.0 n)

pub below_first : (P : List Event) (xs : List ℕ) → Listed is_acquire xs P → (n i first : ℕ) → slice_get xs n ≡ Some i → i < first → (m h : ℕ) → slice_get xs m ≡ Some h → m < suc n → h < first
below_first P xs l n i first a w m h b lt = ⊎_elim
    (λ e. let z = same_place xs m n h i e b a in omega arith)
    (λ o. ⊎_elim (λ x. let z = l.rises m n h i b a x in omega arith) (λ x. absurd (omega arith)) o)
    (places m n)
