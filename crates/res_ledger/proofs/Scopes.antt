-- The scopes of a stream, and which are closed, in a legal ledger.
use Rattle.std.proofs.Common.{◌≡◌, ◌≢◌, ℕ, Bool, true, false, cond, nat_eq, List, [], ◌∷◌, ◌++◌, ◌⊎◌, inl, inr, refl, sym, ap, ◌∙◌, subst, ⊎_elim, append_assoc, append-nil, ne_eqb, reverse}
use Rattle.std.proofs.lemmas.List.{reverse-append}
use Rattle.std.proofs.lemmas.Grind.{flat_map-append}
use Rattle.chunk_core.specs.Lists.{IsAmong, has}
use Rattle.chunk_core.specs.Lists.IsAmong.{here, there}
use Rattle.chunk_core.proofs.Members.{among_cons, among_nil}
use Rattle.chunk_core.proofs.Reversed.{among_reverse, reverse_among}
use Rattle.res_ledger.specs.declared.event.StreamNo.{StreamNo}
use Rattle.res_ledger.specs.declared.event.What.{What}
use Rattle.res_ledger.specs.declared.event.What.TheVariants.{Open}
use Rattle.res_ledger.specs.declared.event.Event.{Event}
use Rattle.res_ledger.specs.Ledger.{Notes, LiesWithin, IsClosed, MayFollow, IsLegal}
use Rattle.res_ledger.specs.Ledger.LiesWithin.{same, below}
use Rattle.res_ledger.specs.Own.{own, opens, opens_of, closes, up, ancestors, is_closed}
use Rattle.res_ledger.specs.Streams.{same_stream}
use Rattle.res_ledger.proofs.Tests.{name}
use Rattle.chunk_core.proofs.Bools.{number, itself, any_at, any_found, has_in, in_has}
use Rattle.res_ledger.proofs.Noted.{opens_notes, closes_notes, notes_opens, notes_closes}

up_cases : (P : List Event) (k : StreamNo) (o : ℕ × ℕ) (os : List (ℕ × ℕ)) (s a : ℕ) (b : Bool) → nat_eq o.0 s ≡ b → Notes P k (Open o.0 o.1) → IsAmong a (cond b (s ∷ up os o.1) (up os s)) → ((t : ℕ) → IsAmong a (up os t) → LiesWithin P k t a) → LiesWithin P k s a
up_cases P k o os s a true t n m rest = ⊎_elim (λ e. subst (λ x. LiesWithin P k s x) (sym e) (same s)) (λ i. below s o.1 a (subst (λ x. Notes P k (Open x o.1)) (number o.0 s t) n) (rest o.1 i)) (among_cons m)
up_cases P k o os s a false t n m rest = rest s m

up_within : (P : List Event) (k : StreamNo) (os : List (ℕ × ℕ)) → ((o : ℕ × ℕ) → IsAmong o os → Notes P k (Open o.0 o.1)) → (s a : ℕ) → IsAmong a (up os s) → LiesWithin P k s a
up_within P k [] h s a m = ⊎_elim (λ e. subst (λ x. LiesWithin P k s x) (sym e) (same s)) (λ n. absurd (among_nil n)) (among_cons m)
up_within P k (o ∷ os) h s a m = up_cases P k o os s a (nat_eq o.0 s) refl (h o (here os)) m (λ t i. up_within P k os (λ x n. h x (there o n)) t a i)

-- what stands above a scope lies above it
pub above_within : (P : List Event) (k : StreamNo) (s a : ℕ) → has a (ancestors (own k P) s) ≡ true → LiesWithin P k s a
above_within P k s a h = up_within P k (reverse (opens (own k P))) (λ o m. opens_notes P k o (among_reverse o (opens (own k P)) m)) s a (has_in a (ancestors (own k P) s) h)

pub closed_sound : (P : List Event) (k : StreamNo) (s : ℕ) → is_closed (own k P) s ≡ true → IsClosed P k s
closed_sound P k s h =
    let f = any_found (λ a. has a (closes (own k P))) (ancestors (own k P) s) h in
    (f.0, above_within P k s f.0 (in_has f.0 (ancestors (own k P) s) f.1), closes_notes P k f.0 (has_in f.0 (closes (own k P)) f.2))

-- x was opened
abbrev IsIn : ℕ → List (ℕ × ℕ) → Type 0
IsIn x os = (q : ℕ) × IsAmong (x, q) os

-- of scopes with the latest opened first: each is opened once, it isn't the root, and its parent is the root or was opened before
abbrev IsTree : List (ℕ × ℕ) → Type 0
IsTree [] = Unit {0}
IsTree (o ∷ os) = IsTree os × (o.0 ≢ 0) × ¬ (IsIn o.0 os) × ((o.1 ≡ 0) ⊎ IsIn o.1 os)

up_other : (o : ℕ × ℕ) (os : List (ℕ × ℕ)) (x : ℕ) → x ≢ o.0 → up (o ∷ os) x ≡ up os x
up_other o os x n = ap (λ b. cond b (x ∷ up os o.1) (up os x)) (ne_eqb o.0 x (λ e. n (sym e)))

up_here : (o : ℕ × ℕ) (os : List (ℕ × ℕ)) → up (o ∷ os) o.0 ≡ o.0 ∷ up os o.1
up_here o os = ap (λ b. cond b (o.0 ∷ up os o.1) (up os o.0)) (itself o.0)

up_self_at : (o : ℕ × ℕ) (os : List (ℕ × ℕ)) (s : ℕ) (b : Bool) → IsAmong s (up os s) → IsAmong s (cond b (s ∷ up os o.1) (up os s))
up_self_at o os s true m = here (up os o.1)
up_self_at o os s false m = m

up_self : (os : List (ℕ × ℕ)) (s : ℕ) → IsAmong s (up os s)
up_self [] s = here []
up_self (o ∷ os) s = up_self_at o os s (nat_eq o.0 s) (up_self os s)

not_new : (o : ℕ × ℕ) (os : List (ℕ × ℕ)) → IsTree (o ∷ os) → (x : ℕ) → (x ≡ 0) ⊎ IsIn x os → x ≢ o.0
not_new o os t x (inl z) e = t.1 (sym e ∙ z)
not_new o os t x (inr i) e = t.2 (i.0, subst (λ y. IsAmong (y, i.0) os) e i.1)

parent_known : (os : List (ℕ × ℕ)) → IsTree os → (s p : ℕ) → IsAmong (s, p) os → (p ≡ 0) ⊎ IsIn p os
parent_known [] t s p m = absurd (among_nil m)
parent_known (o ∷ os) t s p m = ⊎_elim
    (λ e. let q : p ≡ o.1 = ap (λ (x : ℕ × ℕ). x.1) e in ⊎_elim (λ z. inl (q ∙ z)) (λ i. inr (i.0, there o (subst (λ x. IsAmong (x, i.0) os) (sym q) i.1))) t.3)
    (λ n. ⊎_elim (λ z. inl z) (λ i. inr (i.0, there o i.1)) (parent_known os t.0 s p n))
    (among_cons m)

up_step : (os : List (ℕ × ℕ)) → IsTree os → (s p a : ℕ) → IsAmong (s, p) os → IsAmong a (up os p) → IsAmong a (up os s)
up_step [] t s p a m h = absurd (among_nil m)
up_step (o ∷ os) t s p a m h = ⊎_elim
    (λ e.
    let s_is : s ≡ o.0 = ap (λ (x : ℕ × ℕ). x.0) e in
    let p_is : p ≡ o.1 = ap (λ (x : ℕ × ℕ). x.1) e in
    let p_not : p ≢ o.0 = λ q. not_new o os t o.1 t.3 (sym p_is ∙ q) in
    let h' : IsAmong a (up os p) = subst (λ l. IsAmong a l) (up_other o os p p_not) h in
    subst (λ x. IsAmong a (up (o ∷ os) x)) (sym s_is) (subst (λ l. IsAmong a l) (sym (up_here o os)) (there o.0 (subst (λ x. IsAmong a (up os x)) p_is h'))))
    (λ n.
    let p_not : p ≢ o.0 = not_new o os t p (parent_known os t.0 s p n) in
    let s_not : s ≢ o.0 = not_new o os t s (inr (p, n)) in
    subst (λ l. IsAmong a l) (sym (up_other o os s s_not)) (up_step os t.0 s p a n (subst (λ l. IsAmong a l) (up_other o os p p_not) h)))
    (among_cons m)

within_up : (P : List Event) (k : StreamNo) (os : List (ℕ × ℕ)) → IsTree os → ((s p : ℕ) → Notes P k (Open s p) → IsAmong (s, p) os) → {s a : ℕ} → LiesWithin P k s a → IsAmong a (up os s)
within_up P k os t f (same s) = up_self os s
within_up P k os t f (below s p a n w) = up_step os t s p a (f s p n) (within_up P k os t f w)

own_cons : (b : Bool) (w : What) (E F G : List What) → E ≡ F ++ G → cond b (w ∷ E) E ≡ cond b (w ∷ F) F ++ G
own_cons true w E F G e = ap (λ l. w ∷ l) e
own_cons false w E F G e = e

pub own_append : (k : StreamNo) (P Q : List Event) → own k (P ++ Q) ≡ own k P ++ own k Q
own_append k [] Q = refl
own_append k (e ∷ P) Q = own_cons (same_stream e.by k) e.what (own k (P ++ Q)) (own k P) (own k Q) (own_append k P Q)

-- the scopes that k opened, the latest first
abbrev scopes : List Event → StreamNo → List (ℕ × ℕ)
scopes P k = reverse (opens (own k P))

scopes_append : (P Q : List Event) (k : StreamNo) → scopes (P ++ Q) k ≡ scopes Q k ++ scopes P k
scopes_append P Q k = ap (λ l. reverse (opens l)) (own_append k P Q) ∙ ap reverse (flat_map-append opens_of (own k P) (own k Q)) ∙ reverse-append (opens (own k P)) (opens (own k Q))

tree_what : (P : List Event) (k : StreamNo) (w : What) → MayFollow P k w → IsTree (scopes P k) → IsTree (reverse (opens (w ∷ [])) ++ scopes P k)
tree_what P k (Open s p) m t = (t, m.0, λ i. let q : ℕ × ℕ = (s, i.0) in m.1 (i.0, opens_notes P k q (among_reverse q (opens (own k P)) i.1)), ⊎_elim (λ z. inl z) (λ o. let q : ℕ × ℕ = (p, o.0) in inr (o.0, reverse_among q (opens (own k P)) (notes_opens P k p o.0 o.1))) m.2.0)
tree_what P k w m t = t

tree_event : (P : List Event) (k : StreamNo) (e : Event) (b : Bool) → same_stream e.by k ≡ b → MayFollow P e.by e.what → IsTree (scopes P k) → IsTree (reverse (opens (cond b (e.what ∷ []) [])) ++ scopes P k)
tree_event P k e true h m t = tree_what P k e.what (subst (λ q. MayFollow P q e.what) (name e.by k h) m) t
tree_event P k e false h m t = t

tree_from : (P Q : List Event) (k : StreamNo) → IsLegal (P ++ Q) → IsTree (scopes P k) → IsTree (scopes (P ++ Q) k)
tree_from P [] k h t = subst (λ l. IsTree (scopes l k)) (sym (append-nil P)) t
tree_from P (e ∷ Q) k h t =
    let next : IsTree (scopes (P ++ e ∷ []) k) = subst IsTree (sym (scopes_append P (e ∷ []) k)) (tree_event P k e (same_stream e.by k) refl (h P Q e refl) t) in
    subst (λ l. IsTree (scopes l k)) (append_assoc P (e ∷ []) Q) (tree_from (P ++ e ∷ []) Q k (subst IsLegal (sym (append_assoc P (e ∷ []) Q)) h) next)

-- what lies above a scope stands above it
pub within_above : (L : List Event) → IsLegal L → (k : StreamNo) (s a : ℕ) → LiesWithin L k s a → has a (ancestors (own k L) s) ≡ true
within_above L h k s a w = in_has a (ancestors (own k L) s) (within_up L k (scopes L k) (tree_from [] L k h tt) (λ s p n. let q : ℕ × ℕ = (s, p) in reverse_among q (opens (own k L)) (notes_opens L k s p n)) w)

pub closed_found : (L : List Event) → IsLegal L → (k : StreamNo) (s : ℕ) → IsClosed L k s → is_closed (own k L) s ≡ true
closed_found L h k s c =
    any_at (λ a. has a (closes (own k L))) c.0 (ancestors (own k L) s) (has_in c.0 (ancestors (own k L) s) (within_above L h k s c.0 c.1)) (in_has c.0 (closes (own k L)) (notes_closes L k c.0 c.2))
