-- What holds of a ledger where it holds of a front of it.
use Rattle.std.proofs.Common.{◌≡◌, ℕ, List, [], ◌∷◌, ◌++◌, ◌⊎◌, inl, inr, refl, sym, ap, ◌∙◌, subst, ⊎_elim, append_assoc}
use Rattle.chunk_core.specs.Lists.{IsAmong}
use Rattle.chunk_core.specs.Lists.IsAmong.{here, there}
use Rattle.chunk_core.proofs.Members.{among_cons, among_left}
use Rattle.res_ledger.specs.declared.event.StreamNo.{StreamNo}
use Rattle.res_ledger.specs.declared.event.What.{What}
use Rattle.res_ledger.specs.declared.event.What.TheVariants.{Acquire}
use Rattle.res_ledger.specs.declared.event.Event.{Event}
use Rattle.res_ledger.specs.Ledger.{Notes, LiesWithin, IsClosed, IsAcquired, IsFinalized, IsCanceled, IsRowClosed, IsLegal, MayFollow}
use Rattle.res_ledger.specs.Ledger.LiesWithin.{same, below}

pub front_notes : {P : List Event} {k : StreamNo} {w : What} (Q : List Event) → Notes P k w → Notes (P ++ Q) k w
front_notes Q n = (n.0, among_left Q n.1, n.2, n.3)

pub front_within : {P : List Event} {k : StreamNo} {s a : ℕ} (Q : List Event) → LiesWithin P k s a → LiesWithin (P ++ Q) k s a
front_within Q (same s) = same s
front_within Q (below s p a n w) = below s p a (front_notes Q n) (front_within Q w)

pub front_closed : {P : List Event} {k : StreamNo} {s : ℕ} (Q : List Event) → IsClosed P k s → IsClosed (P ++ Q) k s
front_closed Q c = (c.0, front_within Q c.1, (c.2.0, front_notes Q c.2.1))

pub front_row_closed : {P : List Event} {r : ℕ} (Q : List Event) → IsRowClosed P r → IsRowClosed (P ++ Q) r
front_row_closed Q c = (c.0, c.1, front_notes Q c.2, front_closed Q c.3)

pub front_finalized : {P : List Event} {r : ℕ} (Q : List Event) → IsFinalized P r → IsFinalized (P ++ Q) r
front_finalized Q f = (f.0, f.1, (f.2.0, front_notes Q f.2.1))

pub front_canceled : {P : List Event} {j : ℕ} (Q : List Event) → IsCanceled P j → IsCanceled (P ++ Q) j
front_canceled Q c = (c.0, (c.1.0, front_notes Q c.1.1))

-- a front of a legal ledger is legal
pub front_legal : (P Q : List Event) → IsLegal (P ++ Q) → IsLegal P
front_legal P Q h A B e q = h A (B ++ Q) e (ap (λ l. l ++ Q) q ∙ append_assoc A (e ∷ B) Q)

-- a list is split at each of its elements
pub split_at : {A : Type 0} (x : A) (xs : List A) → IsAmong x xs → (us vs : List A) × (xs ≡ us ++ x ∷ vs)
split_at x xs (here ys) = ([], ys, refl)
split_at x xs (there {xs = ys} y m) = let s = split_at x ys m in (y ∷ s.0, s.1, ap (λ l. y ∷ l) s.2)

-- of two elements one is the other, or one stands before the other
pub split_two : {A : Type 0} (x y : A) (xs : List A) → IsAmong x xs → IsAmong y xs
    → (x ≡ y) ⊎ (((us vs : List A) × (xs ≡ us ++ y ∷ vs) × IsAmong x us) ⊎ ((us vs : List A) × (xs ≡ us ++ x ∷ vs) × IsAmong y us))
split_two x y xs (here ys) n = ⊎_elim (λ e. inl (sym e)) (λ l. let s = split_at y ys l in inr (inl (x ∷ s.0, s.1, ap (λ l. x ∷ l) s.2, here s.0))) (among_cons n)
split_two x y xs (there {xs = ys} z m) n = ⊎_elim
    (λ e. let s = split_at x ys m in inr (inr (z ∷ s.0, s.1, ap (λ l. z ∷ l) s.2, subst (λ v. IsAmong y (v ∷ s.0)) e (here s.0))))
    (λ l. ⊎_elim (λ e. inl e) (λ o. inr (⊎_elim (λ b. inl (z ∷ b.0, b.1, ap (λ l. z ∷ l) b.2, there z b.3)) (λ b. inr (z ∷ b.0, b.1, ap (λ l. z ∷ l) b.2, there z b.3)) o)) (split_two x y ys m l))
    (among_cons n)

head_is : {A : Type 0} (x y : A) (xs ys : List A) → x ∷ xs ≡ y ∷ ys → (x ≡ y) × (xs ≡ ys)
head_is x y xs ys e = (cc, cc)

-- where a list of two parts is split, one part is
pub split_append : {A : Type 0} (ps qs us vs : List A) (x : A) → ps ++ qs ≡ us ++ x ∷ vs → ((cs : List A) × (ps ≡ us ++ x ∷ cs)) ⊎ ((cs : List A) × (us ≡ ps ++ cs))
split_append [] qs us vs x e = inr (us, refl)
split_append (p ∷ ps) qs [] vs x e = let h = head_is p x (ps ++ qs) vs e in inl (ps, ap (λ y. y ∷ ps) h.0)
split_append (p ∷ ps) qs (a ∷ us) vs x e =
    let h = head_is p a (ps ++ qs) (us ++ x ∷ vs) e in
    ⊎_elim
    (λ c. inl (c.0, ap (λ l. p ∷ l) c.1 ∙ ap (λ y. y ∷ (us ++ x ∷ c.0)) h.0))
    (λ c. inr (c.0, ap (λ l. a ∷ l) c.1 ∙ ap (λ y. y ∷ (ps ++ c.0)) (sym h.0)))
    (split_append ps qs us vs x h.1)

-- an empty list has no element
pub nothing_is : {A : Type 0} (x : A) (xs : List A) → [] ≡ x ∷ xs → ⊥
nothing_is x xs e = cc

nothing_splits : {A : Type 0} (us vs : List A) (x : A) → [] ≡ us ++ x ∷ vs → ⊥
nothing_splits [] vs x e = nothing_is x vs e
nothing_splits (u ∷ us) vs x e = nothing_is u (us ++ x ∷ vs) e

-- where a list with a last element is split, the front is, or it is split at the last
pub split_last : {A : Type 0} (ps us vs : List A) (y x : A) → ps ++ y ∷ [] ≡ us ++ x ∷ vs → ((cs : List A) × (ps ≡ us ++ x ∷ cs)) ⊎ ((us ≡ ps) × (x ≡ y))
split_last [] [] vs y x e = let h = head_is y x [] vs e in inr (refl, sym h.0)
split_last [] (u ∷ us) vs y x e = let h = head_is y u [] (us ++ x ∷ vs) e in absurd (nothing_splits us vs x h.1)
split_last (p ∷ ps) [] vs y x e = let h = head_is p x (ps ++ y ∷ []) vs e in inl (ps, ap (λ z. z ∷ ps) h.0)
split_last (p ∷ ps) (u ∷ us) vs y x e =
    let h = head_is p u (ps ++ y ∷ []) (us ++ x ∷ vs) e in
    ⊎_elim
    (λ c. inl (c.0, ap (λ l. p ∷ l) c.1 ∙ ap (λ z. z ∷ (us ++ x ∷ c.0)) h.0))
    (λ c. inr (ap (λ l. u ∷ l) c.0 ∙ ap (λ z. z ∷ ps) (sym h.0), c.1))
    (split_last ps us vs y x h.1)

-- a legal ledger grows by an event that may follow
pub legal_more : (P : List Event) (e : Event) → IsLegal P → MayFollow P e.by e.what → IsLegal (P ++ e ∷ [])
legal_more P e l m A B x q = ⊎_elim
    (λ c. l A c.0 x c.1)
    (λ c. subst (λ p. MayFollow p x.by x.what) (sym c.0) (subst (λ y. MayFollow P y.by y.what) (sym c.1) m))
    (split_last P A B e x q)

acquired_in : (r s t : ℕ) → Acquire r s ≡ Acquire r t → s ≡ t
acquired_in r s t e = cc

twice : (L : List Event) → IsLegal L → (r s : ℕ) (A B : List Event) (e : Event) → L ≡ A ++ e ∷ B → e.what ≡ Acquire r s → IsAcquired A r → ⊥
twice L h r s A B e q w a = let f : MayFollow A e.by (Acquire r s) = subst (λ x. MayFollow A e.by x) w (h A B e q) in f.0 a

-- a legal ledger has one Acquire of a row
pub acquired_once : (L : List Event) → IsLegal L → (r : ℕ) (k q : StreamNo) (s t : ℕ) → Notes L k (Acquire r s) → Notes L q (Acquire r t) → (k ≡ q) × (s ≡ t)
acquired_once L h r k q s t n m = ⊎_elim
    (λ e. let w : Acquire r s ≡ Acquire r t = sym n.3 ∙ ap (λ x. x.what) e ∙ m.3 in (sym n.2 ∙ ap (λ x. x.by) e ∙ m.2, acquired_in r s t w))
    (λ o. absurd (⊎_elim
    (λ b. twice L h r t b.0 b.1 m.0 b.2 m.3 (k, s, (n.0, b.3, n.2, n.3)))
    (λ b. twice L h r s b.0 b.1 n.0 b.2 n.3 (q, t, (m.0, b.3, m.2, m.3))) o))
    (split_two n.0 m.0 L n.1 m.1)

-- where the row's scope is closed in a front, it is the scope in which the ledger acquires it
pub row_scope_closed : (L P : List Event) → IsLegal L → ((q : StreamNo) (w : What) → Notes P q w → Notes L q w) → (r : ℕ) (k : StreamNo) (s : ℕ) → Notes L k (Acquire r s) → IsRowClosed P r → IsClosed P k s
row_scope_closed L P l up r k s n c =
    let u = acquired_once L l r c.0 k c.1 s (up c.0 (Acquire r c.1) c.2) n in
    subst (λ t. IsClosed P k t) u.1 (subst (λ q. IsClosed P q c.1) u.0 c.3)
