-- Which rows a lease at a place covers.
use Rattle.std.proofs.Common.{◌≡◌, ℕ, ◌<◌, ◌≤◌, List, [], ◌∷◌, ◌++◌, ◌⊎◌, inl, inr, refl, sym, ap, ◌∙◌, subst, ⊎_elim, length, arith, Some, slice_get}
use Rattle.chunk_core.specs.declared.code.Exit.{Exit}
use Rattle.res_ledger.specs.declared.event.StreamNo.{StreamNo}
use Rattle.res_ledger.specs.declared.event.What.{What}
use Rattle.res_ledger.specs.declared.event.What.TheVariants.{Open, Acquire, Lease, Close}
use Rattle.res_ledger.specs.declared.event.Event.{Event}
use Rattle.res_ledger.specs.Ledger.{Notes, NotesClose, LiesWithin, IsClosed, Covers, IsOpened, MayFollow, IsLegal}
use Rattle.res_ledger.specs.Ledger.LiesWithin.{same, below}
use Rattle.res_ledger.proofs.Prefixes.{acquired_once, front_notes, front_within, front_legal}
use Rattle.ledger_books.specs.Keyed.{NotesAt, CoversAt, IsUnclosedBefore}
use Rattle.ledger_books.proofs.Placed.{at_more, among_at, noted_before, places, may_at, opened_at_one, noted_at_place, place_noted}

module _ (P : List Event) (legal : IsLegal P) (k : StreamNo) where
  closes_not : (m n s : ℕ) (x y : Exit) → m < n → NotesAt P m k (Close s x) → NotesAt P n k (Close s y) → ⊥
  closes_not m n s x y l a b =
      let t = may_at P legal k n (Close s y) b in
      t.5.1 (s, same s, (x, noted_before P n t.2 t.0 t.1 k (Close s x) t.3 t.4 m l a))

  -- a Close at or behind a place: none stands in front of it
  pub unclosed_by : (i c s : ℕ) (x : Exit) → NotesAt P c k (Close s x) → i ≤ c → IsUnclosedBefore P k s i
  unclosed_by i c s x a l m y b = ⊎_elim
      (λ e. omega arith)
      (λ o. ⊎_elim (λ h. absurd (closes_not c m s x y h a b)) (λ h. absurd (closes_not m c s y x h b a)) o)
      (places c m)

  -- in front of a lease on s, s lies below what it lies below
  pub within_before : (A B : List Event) → P ≡ A ++ B → {s a : ℕ} → (s ≡ 0) ⊎ IsOpened A k s → LiesWithin P k s a → LiesWithin A k s a
  within_before A B c o (same s) = same s
  within_before A B c o (below s p a n w) =
      let first : IsOpened A k s = ⊎_elim
      (λ z. absurd (let t = noted_at_place P legal k (Open s p) n in (may_at P legal k t.0 (Open s p) t.1).5.0 z))
      (λ q. q) o in
      let t = noted_at_place P legal k (Open s p) n in
      let u = among_at first.1.0 A first.1.1 in
      let v = at_more A B u.0 first.1.0 u.1 in
      let one = opened_at_one P legal k u.0 t.0 s first.0 p (first.1.0, ap (λ l. slice_get l u.0) c ∙ v.0, first.1.2, first.1.3) t.1 in
      let here : NotesAt A u.0 k (Open s p) = (first.1.0, u.1, first.1.2, first.1.3 ∙ ap (Open s) one.1) in
      let m = may_at A (front_legal A B (subst IsLegal c legal)) k u.0 (Open s p) here in
      let known : (p ≡ 0) ⊎ IsOpened A k p = ⊎_elim (λ z. inl z) (λ x. inr (x.0, subst (λ l. Notes l k (Open p x.0)) (sym m.3) (front_notes (m.2 ∷ m.1) x.1))) m.5.2.0 in
      below s p a (place_noted A (front_legal A B (subst IsLegal c legal)) k u.0 (Open s p) here) (within_before A B c known w)

within_then : {P : List Event} {k : StreamNo} {s a x : ℕ} → LiesWithin P k s a → LiesWithin P k a x → LiesWithin P k s x
within_then (same s) v = v
within_then (below s p a n w) v = below s p _ n (within_then w v)

module _ (P : List Event) (legal : IsLegal P) (k q : StreamNo) (i j s r at t : ℕ) (lease : NotesAt P i k (Lease j s)) (row : NotesAt P at q (Acquire r t)) where
  -- what stands in front of the lease
  abbrev split : (A B : List Event) × (e : Event) × (P ≡ A ++ e ∷ B) × (length A ≡ i) × MayFollow A k (Lease j s)
  split = may_at P legal k i (Lease j s) lease

  in_front : (A B : List Event) (e : Event) → P ≡ A ++ e ∷ B → length A ≡ i → (w : What) (m : StreamNo) → Notes A m w → (n : ℕ) × (n < i) × NotesAt P n m w
  in_front A B e c l w m n =
      let u = among_at n.0 A n.1 in
      let v = at_more A (e ∷ B) u.0 n.0 u.1 in
      (u.0, (let x = v.1 in omega arith), (n.0, ap (λ z. slice_get z u.0) c ∙ v.0, n.2, n.3))

  acquired_at_one : (n u : ℕ) (m : StreamNo) → NotesAt P n m (Acquire r u) → (n ≡ at) × (m ≡ q) × (u ≡ t)
  acquired_at_one n u m a =
      let one = acquired_once P legal r m q u t (place_noted P legal m n (Acquire r u) a) (place_noted P legal q at (Acquire r t) row) in (
        ⊎_elim (λ e. e)
            (λ o. absurd (⊎_elim
            (λ l. let f = may_at P legal q at (Acquire r t) row in f.5.0 (m, u, noted_before P at f.2 f.0 f.1 m (Acquire r u) f.3 f.4 n l a))
            (λ l. let f = may_at P legal m n (Acquire r u) a in f.5.0 (q, t, noted_before P n f.2 f.0 f.1 q (Acquire r t) f.3 f.4 at l row))
            o)) (places n at),
        one.0,
        one.1,
      )

  -- what it covers was acquired by the same stream, in front of it
  pub covers_mine : CoversAt P i k s r → (k ≡ q) × (at < i)
  covers_mine c =
      let n = in_front c.0 c.1 c.2 c.3 c.4 (Acquire r c.5.0) k c.5.1 in
      let one = acquired_at_one n.0 c.5.0 k n.2 in
      (one.1, (let l = n.1 in let e = one.0 in omega arith))

  pub covers_within : k ≡ q → at < i → LiesWithin P k s t → CoversAt P i k s r
  covers_within e l w =
      let A = split.0 in
      let B = split.1 in
      let f = split.5 in
      let inside : LiesWithin A k s t = within_before P legal k A (split.2 ∷ B) split.3 f.2.0 w in
      let mine : NotesAt P at k (Acquire r t) = subst (λ m. NotesAt P at m (Acquire r t)) (sym e) row in
      (A, B, split.2, split.3, split.4, (t, noted_before P i split.2 A B k (Acquire r t) split.3 split.4 at l mine, inr inside, λ c. f.2.1 (c.0, within_then inside c.1, c.2)))

  pub covers_child : (n : ℕ) → k ≡ q → at < i → NotesAt P n k (Open t s) → IsUnclosedBefore P k t i → CoversAt P i k s r
  covers_child n e l o u =
      let A = split.0 in
      let B = split.1 in
      let f = split.5 in
      let mine : NotesAt P at k (Acquire r t) = subst (λ m. NotesAt P at m (Acquire r t)) (sym e) row in
      let first = may_at P legal k at (Acquire r t) mine in
      let legal_A : IsLegal A = front_legal A (split.2 ∷ B) (subst IsLegal split.3 legal) in
      let opened : Notes A k (Open t s) = ⊎_elim
      (λ z. absurd ((may_at P legal k n (Open t s) o).5.0 z))
      (λ x.
      let v = among_at x.1.0 first.0 x.1.1 in
      let w = at_more first.0 (first.2 ∷ first.1) v.0 x.1.0 v.1 in
      let c : NotesAt P v.0 k (Open t x.0) = (x.1.0, ap (λ z. slice_get z v.0) first.3 ∙ w.0, x.1.2, x.1.3) in
      let one = opened_at_one P legal k v.0 n t x.0 s c o in
      let h : n < i = (let a = w.1 in let b = first.4 in let d = one.0 in omega arith) in
      noted_before P i split.2 A B k (Open t s) split.3 split.4 n h o)
      first.5.1.0 in
      (A, B, split.2, split.3, split.4, (t, noted_before P i split.2 A B k (Acquire r t) split.3 split.4 at l mine, inl opened, λ c. shut A B legal_A split.2 split.3 split.4 f.2.1 opened t c.0 c.1 c.2 refl))
    where
      shut : (A B : List Event) → IsLegal A → (e : Event) → P ≡ A ++ e ∷ B → length A ≡ i → ¬ (IsClosed A k s) → Notes A k (Open t s) → (v x : ℕ) → LiesWithin A k v x → NotesClose A k x → v ≡ t → ⊥
      shut A B la e c l nc o v x (same y) z h =
          let m = in_front A B e c l (Close y z.0) k z.1 in
          let g = u m.0 z.0 (subst (λ w. NotesAt P m.0 k (Close w z.0)) h m.2) in
          let less = m.1 in absurd (omega arith)
      shut A B la e c l nc o v x (below y p b m w) z h =
          let a = noted_at_place A la k (Open y p) m in
          let d = noted_at_place A la k (Open t s) o in
          let one = opened_at_one A la k a.0 d.0 t p s (subst (λ w. NotesAt A a.0 k (Open w p)) h a.1) d.1 in
          nc (b, subst (λ w. LiesWithin A k w b) one.1 w, z)

  -- what it covers lies above or is a child that isn't closed
  pub covers_shape : CoversAt P i k s r → LiesWithin P k s t ⊎ (((n : ℕ) × NotesAt P n k (Open t s)) × IsUnclosedBefore P k t i)
  covers_shape c =
      let n = in_front c.0 c.1 c.2 c.3 c.4 (Acquire r c.5.0) k c.5.1 in
      let is : c.5.0 ≡ t = (acquired_at_one n.0 c.5.0 k n.2).2 in
      ⊎_elim
      (λ o. let m = in_front c.0 c.1 c.2 c.3 c.4 (Open c.5.0 s) k o in inr (
        (m.0, subst (λ v. NotesAt P m.0 k (Open v s)) is m.2),
        λ h x a.
            ⊎_elim (λ e. omega arith) (λ b. ⊎_elim (λ l. omega arith) (λ l.
            absurd (c.5.3 (subst (IsClosed c.0 k) (sym is) (t, same t, (x, noted_before P i c.2 c.0 c.1 k (Close t x) c.3 c.4 h l a))))) b) (places i h),
      ))
      (λ w. inl (subst (λ l. LiesWithin l k s t) (sym c.3) (front_within (c.2 ∷ c.1) (subst (LiesWithin c.0 k s) is w))))
      c.5.2

-- a covering lease is one at a place
pub covers_to : (P : List Event) (j r : ℕ) (k : StreamNo) → Covers P j k r → (i s : ℕ) × NotesAt P i k (Lease j s) × CoversAt P i k s r
covers_to P j r k c = (length c.0, c.3, (c.2, ap (λ l. slice_get l (length c.0)) c.4 ∙ at_mid c.0 c.1 c.2, c.5, c.6), (c.0, c.1, c.2, c.4, refl, c.7))
  where
    at_mid : (A B : List Event) (e : Event) → slice_get (A ++ e ∷ B) (length A) ≡ Some e
    at_mid [] B e = refl
    at_mid (x ∷ A) B e = at_mid A B e

pub covers_of : (P : List Event) (i j s r : ℕ) (k : StreamNo) → NotesAt P i k (Lease j s) → CoversAt P i k s r → Covers P j k r
covers_of P i j s r k a c =
    let h : slice_get P i ≡ Some c.2 = ap (slice_get P) (sym c.4) ∙ ap (λ l. slice_get l (length c.0)) c.3 ∙ at_mid c.0 c.1 c.2 in
    let q : Some c.2 ≡ Some a.0 = sym h ∙ a.1 in
    let e : c.2 ≡ a.0 = cc in
    (c.0, c.1, c.2, s, c.3, ap (λ x. x.by) e ∙ a.2, ap (λ x. x.what) e ∙ a.3, c.5)
  where
    at_mid : (A B : List Event) (e : Event) → slice_get (A ++ e ∷ B) (length A) ≡ Some e
    at_mid [] B e = refl
    at_mid (x ∷ A) B e = at_mid A B e
