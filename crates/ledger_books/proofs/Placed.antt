-- Events at their places.
use Rattle.std.proofs.Common.{◌≡◌, ◌≢◌, ◌↔◌, ℕ, zero, suc, ◌<◌, List, [], ◌∷◌, ◌++◌, ◌⊎◌, inl, inr, refl, sym, ap, ◌∙◌, subst, ⊎_elim, length, arith, Some, slice_get}
use Rattle.chunk_core.specs.Lists.{IsAmong}
use Rattle.chunk_core.specs.Lists.IsAmong.{here, there}
use Rattle.res_ledger.specs.declared.event.StreamNo.{StreamNo}
use Rattle.res_ledger.specs.declared.event.What.{What}
use Rattle.res_ledger.specs.declared.event.What.TheVariants.{Open}
use Rattle.res_ledger.specs.declared.event.Event.{Event}
use Rattle.res_ledger.specs.Ledger.{Notes, LiesWithin, IsOpened, MayFollow, IsLegal}
use Rattle.res_ledger.specs.Ledger.LiesWithin.{same, below}
use Rattle.ledger_books.specs.Keyed.{NotesAt}

-- what stands at a place
pub at_split : (P : List Event) (i : ℕ) (e : Event) → slice_get P i ≡ Some e → (A B : List Event) × (P ≡ A ++ e ∷ B) × (length A ≡ i)
at_split [] i e h = cc
at_split (x ∷ P) zero e h = let q : x ≡ e = cc in ([], P, ap (λ y. y ∷ P) q, refl)
at_split (x ∷ P) (suc i) e h = let t = at_split P i e h in (x ∷ t.0, t.1, ap (λ l. x ∷ l) t.2, ap suc t.3)

pub at_among : (P : List Event) (i : ℕ) (e : Event) → slice_get P i ≡ Some e → IsAmong e P
at_among [] i e h = cc
at_among (x ∷ P) zero e h = let q : x ≡ e = cc in subst (λ y. IsAmong y (x ∷ P)) q (here P)
at_among (x ∷ P) (suc i) e h = there x (at_among P i e h)

-- what stands at a place below the length of a front stands in the front
pub at_front : (A B : List Event) (i : ℕ) (e : Event) → i < length A → slice_get (A ++ B) i ≡ Some e → slice_get A i ≡ Some e
at_front [] B i e l h = absurd (omega arith)
at_front (x ∷ A) B zero e l h = h
at_front (x ∷ A) B (suc i) e l h = at_front A B i e (omega arith) h

pub among_at : (e : Event) (P : List Event) → IsAmong e P → (i : ℕ) × (slice_get P i ≡ Some e)
among_at e P (here xs) = (0, refl)
among_at e P (there {xs = ys} y m) = let t = among_at e ys m in (suc t.0, t.1)

pub at_more : (A B : List Event) (i : ℕ) (e : Event) → slice_get A i ≡ Some e → (slice_get (A ++ B) i ≡ Some e) × (i < length A)
at_more [] B i e h = cc
at_more (x ∷ A) B zero e h = (h, (omega arith))
at_more (x ∷ A) B (suc i) e h = let t = at_more A B i e h in (t.0, (let n = t.1 in omega arith))

-- k noted w in front of place i
pub noted_before : (P : List Event) (i : ℕ) (e : Event) (A B : List Event) (k : StreamNo) (w : What) → P ≡ A ++ e ∷ B → length A ≡ i → (j : ℕ) → j < i → NotesAt P j k w → Notes A k w
noted_before P i e A B k w c n j l t =
    let h : slice_get (A ++ e ∷ B) j ≡ Some t.0 = ap (λ x. slice_get x j) (sym c) ∙ t.1 in
    (t.0, at_among A j t.0 (at_front A (e ∷ B) j t.0 (let m : j < length A = omega arith in m) h), t.2, t.3)

pub places : (i j : ℕ) → (i ≡ j) ⊎ ((i < j) ⊎ (j < i))
places zero zero = inl refl
places zero (suc j) = inr (inl (omega arith))
places (suc i) zero = inr (inr (omega arith))
places (suc i) (suc j) = ⊎_elim (λ e. inl (ap suc e)) (λ o. inr (⊎_elim (λ l. inl (omega arith)) (λ l. inr (omega arith)) o)) (places i j)

module _ (P : List Event) (legal : IsLegal P) (k : StreamNo) where
  -- what is noted at a place may follow what stands in front of it
  pub may_at : (i : ℕ) (w : What) → NotesAt P i k w → (A B : List Event) × (e : Event) × (P ≡ A ++ e ∷ B) × (length A ≡ i) × MayFollow A k w
  may_at i w t = let s = at_split P i t.0 t.1 in (s.0, s.1, t.0, s.2, s.3, subst (λ q. MayFollow s.0 q w) t.2 (subst (MayFollow s.0 t.0.by) t.3 (legal s.0 s.1 t.0 s.2)))

  opens_not : (i j s p q : ℕ) → i < j → NotesAt P i k (Open s p) → NotesAt P j k (Open s q) → ⊥
  opens_not i j s p q l a b =
      let m = may_at j (Open s q) b in
      m.5.1 (p, noted_before P j m.2 m.0 m.1 k (Open s p) m.3 m.4 i l a)

  -- a scope is opened at one place
  pub opened_at_one : (i j s p q : ℕ) → NotesAt P i k (Open s p) → NotesAt P j k (Open s q) → (i ≡ j) × (p ≡ q)
  opened_at_one i j s p q a b = ⊎_elim
      (λ e. (e, let x : Some a.0 ≡ Some b.0 = sym a.1 ∙ ap (slice_get P) e ∙ b.1 in let y : a.0 ≡ b.0 = cc in let z : Open s p ≡ Open s q = sym a.3 ∙ ap (λ v. v.what) y ∙ b.3 in let r : p ≡ q = cc in r))
      (λ o. absurd (⊎_elim (λ l. opens_not i j s p q l a b) (λ l. opens_not j i s q p l b a) o))
      (places i j)

  pub noted_at_place : (w : What) → Notes P k w → (i : ℕ) × NotesAt P i k w
  noted_at_place w n = let t = among_at n.0 P n.1 in (t.0, (n.0, t.1, n.2, n.3))

  pub place_noted : (i : ℕ) (w : What) → NotesAt P i k w → Notes P k w
  place_noted i w t = (t.0, at_among P i t.0 t.1, t.2, t.3)

  -- a parent is opened in front of its child
  pub parent_before : (i j s p q : ℕ) → NotesAt P i k (Open s p) → NotesAt P j k (Open p q) → j < i
  parent_before i j s p q a b =
      let m = may_at i (Open s p) a in
      ⊎_elim
      (λ z. absurd (let n = may_at j (Open p q) b in n.5.0 z))
      (λ o. let t = among_at o.1.0 m.0 o.1.1 in
      let u = at_more m.0 (m.2 ∷ m.1) t.0 o.1.0 t.1 in
      let c : NotesAt P t.0 k (Open p o.0) = (o.1.0, ap (λ l. slice_get l t.0) m.3 ∙ u.0, o.1.2, o.1.3) in
      let e = (opened_at_one t.0 j p o.0 q c b).0 in
      let l = u.1 in let n = m.4 in omega arith)
      m.5.2.0

  -- from a scope that isn't it, a walk upwards comes to a scope exactly where it does from the parent
  pub within_by_parent : (i s p a : ℕ) → NotesAt P i k (Open s p) → s ≢ a → LiesWithin P k p a ↔ LiesWithin P k s a
  within_by_parent i s p a o n = (below s p a (place_noted i (Open s p) o), (λ w. up s a w o n))
    where
      up : (s a : ℕ) → LiesWithin P k s a → NotesAt P i k (Open s p) → s ≢ a → LiesWithin P k p a
      up s a (same y) o n = absurd (n refl)
      up s a (below y q b m w) o n =
          let t = noted_at_place (Open y q) m in
          subst (λ v. LiesWithin P k v b) (opened_at_one t.0 i y q p t.1 o).1 w

  -- a scope that wasn't opened lies below none
  pub within_not : (s a : ℕ) → ¬ (IsOpened P k s) → s ≢ a → ¬ (LiesWithin P k s a)
  within_not s a n m (same y) = m refl
  within_not s a n m (below y q b o w) = n (q, o)
