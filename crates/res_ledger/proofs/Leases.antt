-- The rows that a lease covers, in a legal ledger.
use Rattle.std.proofs.Common.{◌≡◌, ℕ, Bool, true, false, cond, ◌&&◌, ◌||◌, not, nat_eq, List, [], ◌∷◌, ◌++◌, ◌⊎◌, inl, inr, refl, sym, ap, ◌∙◌, subst, ⊎_elim, append_assoc, append-nil}
use Rattle.chunk_core.specs.Lists.{IsAmong, has}
use Rattle.chunk_core.specs.Lists.IsAmong.{here, there}
use Rattle.chunk_core.proofs.Members.{among_cons, among_nil, among_left}
use Rattle.res_ledger.specs.declared.event.StreamNo.{StreamNo}
use Rattle.res_ledger.specs.declared.event.What.TheVariants.{Open, Lease}
use Rattle.res_ledger.specs.declared.event.Event.{Event}
use Rattle.res_ledger.specs.Ledger.{Notes, LiesWithin, IsClosed, IsCoveredBy, Covers, IsLegal}
use Rattle.res_ledger.specs.Own.{own, opens, rows, leased_of, ancestors, is_closed, is_child, reaches, picked, leased_rows}
use Rattle.res_ledger.specs.Order.{gathered, covered_for, covered_at, covered_by, covered}
use Rattle.chunk_core.proofs.Bools.{both, either, no, or_left, or_right, and_true, tested, number, itself, any_at, any_found}
use Rattle.res_ledger.proofs.Noted.{opens_notes, rows_notes, notes_opens, notes_rows, leased_shape, flat_found, flat_holds}
use Rattle.chunk_core.proofs.Filters.{among_append, among_right, chosen}
use Rattle.res_ledger.proofs.Scopes.{above_within, within_above, closed_sound, closed_found}
use Rattle.res_ledger.proofs.Prefixes.{front_legal}

picked_case : (f : ℕ → Bool) (x : ℕ × ℕ) (xs : List (ℕ × ℕ)) (r : ℕ) (b : Bool) → f x.1 ≡ b → IsAmong r (cond b (x.0 ∷ picked f xs) (picked f xs)) → (IsAmong r (picked f xs) → (t : ℕ) × IsAmong (r, t) xs × (f t ≡ true)) → (t : ℕ) × IsAmong (r, t) (x ∷ xs) × (f t ≡ true)
picked_case f x xs r true h m rest = ⊎_elim (λ e. (x.1, subst (λ y. IsAmong (y, x.1) (x ∷ xs)) (sym e) (here xs), h)) (λ n. let i = rest n in (i.0, there x i.1, i.2)) (among_cons m)
picked_case f x xs r false h m rest = let i = rest m in (i.0, there x i.1, i.2)

picked_found : (f : ℕ → Bool) (xs : List (ℕ × ℕ)) (r : ℕ) → IsAmong r (picked f xs) → (t : ℕ) × IsAmong (r, t) xs × (f t ≡ true)
picked_found f [] r m = absurd (among_nil m)
picked_found f (x ∷ xs) r m = picked_case f x xs r (f x.1) refl m (picked_found f xs r)

picked_more : (f : ℕ → Bool) (x : ℕ × ℕ) (xs : List (ℕ × ℕ)) (r : ℕ) (b : Bool) → IsAmong r (picked f xs) → IsAmong r (cond b (x.0 ∷ picked f xs) (picked f xs))
picked_more f x xs r true m = there x.0 m
picked_more f x xs r false m = m

picked_holds : (f : ℕ → Bool) (xs : List (ℕ × ℕ)) (r t : ℕ) → IsAmong (r, t) xs → f t ≡ true → IsAmong r (picked f xs)
picked_holds f [] r t m h = absurd (among_nil m)
picked_holds f (x ∷ xs) r t m h = ⊎_elim
    (λ e.
    let r_is : r ≡ x.0 = ap (λ (y : ℕ × ℕ). y.0) e in
    let t_is : t ≡ x.1 = ap (λ (y : ℕ × ℕ). y.1) e in
    let here_is : f x.1 ≡ true = subst (λ y. f y ≡ true) t_is h in
    subst (λ b. IsAmong r (cond b (x.0 ∷ picked f xs) (picked f xs))) (sym here_is) (subst (λ y. IsAmong y (x.0 ∷ picked f xs)) (sym r_is) (here (picked f xs))))
    (λ n. picked_more f x xs r (f x.1) (picked_holds f xs r t n h))
    (among_cons m)

child_in : (P : List Event) (k : StreamNo) (s t : ℕ) → is_child (opens (own k P)) t s ≡ true → Notes P k (Open t s)
child_in P k s t h =
    let f = any_found (λ o. nat_eq o.0 t && nat_eq o.1 s) (opens (own k P)) h in
    let b = both (nat_eq f.0.0 t) (nat_eq f.0.1 s) f.2 in
    subst (λ x. Notes P k (Open t x)) (number f.0.1 s b.1) (subst (λ x. Notes P k (Open x f.0.1)) (number f.0.0 t b.0) (opens_notes P k f.0 f.1))

in_child : (P : List Event) (k : StreamNo) (s t : ℕ) → Notes P k (Open t s) → is_child (opens (own k P)) t s ≡ true
in_child P k s t n = let q : ℕ × ℕ = (t, s) in any_at (λ o. nat_eq o.0 t && nat_eq o.1 s) q (opens (own k P)) (notes_opens P k t s n) (and_true (nat_eq t t) (nat_eq s s) (itself t) (itself s))

-- the rows of the list are covered
pub leased_sound : (L : List Event) → IsLegal L → (k : StreamNo) (s r : ℕ) → IsAmong r (leased_rows (own k L) s) → IsCoveredBy L k s r
leased_sound L h k s r m =
    let f = picked_found (reaches (own k L) s) (rows (own k L)) r m in
    let t = f.0 in
    let q : ℕ × ℕ = (r, t) in
    let b = both (not (is_closed (own k L) t)) (has t (ancestors (own k L) s) || is_child (opens (own k L)) t s) f.2 in
    (t, rows_notes L k q f.1, elim (either (has t (ancestors (own k L) s)) (is_child (opens (own k L)) t s) b.1) [ inl g ↦ inr (above_within L k s t g) | inr g ↦ inl (child_in L k s t g) ], λ c. no (is_closed (own k L) t) b.0 (closed_found L h k t c))

reached : (L : List Event) → IsLegal L → (k : StreamNo) (s t : ℕ) → Notes L k (Open t s) ⊎ LiesWithin L k s t → (has t (ancestors (own k L) s) || is_child (opens (own k L)) t s) ≡ true
reached L h k s t (inl o) = or_right (has t (ancestors (own k L) s)) (is_child (opens (own k L)) t s) (in_child L k s t o)
reached L h k s t (inr w) = or_left (has t (ancestors (own k L) s)) (is_child (opens (own k L)) t s) (within_above L h k s t w)

unclosed : (L : List Event) (k : StreamNo) (t : ℕ) → ¬ (IsClosed L k t) → not (is_closed (own k L) t) ≡ true
unclosed L k t n = ⊎_elim (λ g. absurd (n (closed_sound L k t g))) (λ g. g) (tested (is_closed (own k L) t))

-- the covered rows are in the list
pub leased_found : (L : List Event) → IsLegal L → (k : StreamNo) (s r : ℕ) → IsCoveredBy L k s r → IsAmong r (leased_rows (own k L) s)
leased_found L h k s r c =
    let t = c.0 in
    picked_holds (reaches (own k L) s) (rows (own k L)) r t (notes_rows L k r t c.1)
    (and_true (not (is_closed (own k L) t)) (has t (ancestors (own k L) s) || is_child (opens (own k L)) t s) (unclosed L k t c.3) (reached L h k s t c.2))

gathered_found : (of : List Event → Event → List ℕ) (P L : List Event) (y : ℕ) → IsAmong y (gathered of P L) → (A B : List Event) × (e : Event) × (L ≡ A ++ e ∷ B) × IsAmong y (of (P ++ A) e)
gathered_found of P [] y m = absurd (among_nil m)
gathered_found of P (e ∷ L) y m = ⊎_elim
    (λ l. ([], L, e, refl, subst (λ p. IsAmong y (of p e)) (sym (append-nil P)) l))
    (λ r. let f = gathered_found of (P ++ e ∷ []) L y r in (e ∷ f.0, f.1, f.2, ap (λ l. e ∷ l) f.3, subst (λ p. IsAmong y (of p f.2)) (append_assoc P (e ∷ []) f.0) f.4))
    (among_append y (of P e) (gathered of (P ++ e ∷ []) L) m)

gathered_holds : (of : List Event → Event → List ℕ) (P A B : List Event) (e : Event) (y : ℕ) → IsAmong y (of (P ++ A) e) → IsAmong y (gathered of P (A ++ e ∷ B))
gathered_holds of P [] B e y m = among_left (gathered of (P ++ e ∷ []) B) (subst (λ p. IsAmong y (of p e)) (append-nil P) m)
gathered_holds of P (a ∷ A) B e y m = among_right y (of P a) (gathered of (P ++ a ∷ []) (A ++ e ∷ B)) (gathered_holds of (P ++ a ∷ []) A B e y (subst (λ p. IsAmong y (of p e)) (sym (append_assoc P (a ∷ []) A)) m))

-- a Lease that is split off covers what its list has
covers_there : (L A B : List Event) (e : Event) (j s r : ℕ) → IsLegal L → L ≡ A ++ e ∷ B → e.what ≡ Lease j s → IsAmong r (leased_rows (own e.by A) s) → Covers L j e.by r
covers_there L A B e j s r h q w m = (A, B, e, s, q, refl, w, leased_sound A (front_legal A (e ∷ B) (subst IsLegal q h)) e.by s r m)

pub covered_by_sound : (L : List Event) → IsLegal L → (j r : ℕ) → IsAmong r (covered_by L j) → (k : StreamNo) × Covers L j k r
covered_by_sound L h j r m =
    let f = gathered_found (covered_for j) [] L r m in
    let A = f.0 in let e = f.2 in
    let g = flat_found (λ l. cond (nat_eq l.0 j) (leased_rows (own e.by A) l.1) []) (leased_of e.what) r f.4 in
    let l = g.0 in
    let c = chosen (nat_eq l.0 j) (leased_rows (own e.by A) l.1) r g.2 in
    (e.by, covers_there L A f.1 e j l.1 r h f.3 (leased_shape e.what l g.1 ∙ ap (λ y. Lease y l.1) (number l.0 j c.0)) c.1)

pub covered_sound : (L : List Event) → IsLegal L → (r : ℕ) → IsAmong r (covered L) → (j : ℕ) × (k : StreamNo) × Covers L j k r
covered_sound L h r m =
    let f = gathered_found covered_at [] L r m in
    let A = f.0 in let e = f.2 in
    let g = flat_found (λ l. leased_rows (own e.by A) l.1) (leased_of e.what) r f.4 in
    let l = g.0 in
    (l.0, e.by, covers_there L A f.1 e l.0 l.1 r h f.3 (leased_shape e.what l g.1) g.2)

-- the list of a covering Lease has the row
in_its_list : (L : List Event) → IsLegal L → (A B : List Event) (e : Event) (k : StreamNo) (s r : ℕ) → L ≡ A ++ e ∷ B → e.by ≡ k → IsCoveredBy A k s r → IsAmong r (leased_rows (own e.by A) s)
in_its_list L h A B e k s r q b c = leased_found A (front_legal A (e ∷ B) (subst IsLegal q h)) e.by s r (subst (λ x. IsCoveredBy A x s r) (sym b) c)

pub covered_by_found : (L : List Event) → IsLegal L → (j r : ℕ) (k : StreamNo) → Covers L j k r → IsAmong r (covered_by L j)
covered_by_found L h j r k c =
    let A = c.0 in let B = c.1 in let e = c.2 in let s = c.3 in
    let q : ℕ × ℕ = (j, s) in
    let l : IsAmong q (leased_of e.what) = subst (λ w. IsAmong q (leased_of w)) (sym c.6) (here []) in
    let m : IsAmong r (cond (nat_eq j j) (leased_rows (own e.by A) s) []) = subst (λ b. IsAmong r (cond b (leased_rows (own e.by A) s) [])) (sym (itself j)) (in_its_list L h A B e k s r c.4 c.5 c.7) in
    subst (λ l. IsAmong r (gathered (covered_for j) [] l)) (sym c.4) (gathered_holds (covered_for j) [] A B e r (flat_holds (λ l. cond (nat_eq l.0 j) (leased_rows (own e.by A) l.1) []) q (leased_of e.what) r l m))

pub covered_found : (L : List Event) → IsLegal L → (j r : ℕ) (k : StreamNo) → Covers L j k r → IsAmong r (covered L)
covered_found L h j r k c =
    let A = c.0 in let B = c.1 in let e = c.2 in let s = c.3 in
    let q : ℕ × ℕ = (j, s) in
    let l : IsAmong q (leased_of e.what) = subst (λ w. IsAmong q (leased_of w)) (sym c.6) (here []) in
    subst (λ l. IsAmong r (gathered covered_at [] l)) (sym c.4) (gathered_holds covered_at [] A B e r (flat_holds (λ l. leased_rows (own e.by A) l.1) q (leased_of e.what) r l (in_its_list L h A B e k s r c.4 c.5 c.7)))
