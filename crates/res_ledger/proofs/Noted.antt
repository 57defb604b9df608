-- Between a ledger and what one stream noted in it.
use Rattle.std.proofs.Common.{◌≡◌, ℕ, Bool, true, false, cond, List, [], ◌∷◌, refl, sym, ap, ◌∙◌, subst, ⊎_elim}
use Rattle.std.specs.List.{flat_map}
use Rattle.std.proofs.lemmas.Bool.{false≢true}
use Rattle.chunk_core.specs.Lists.{IsAmong}
use Rattle.chunk_core.specs.Lists.IsAmong.{here, there}
use Rattle.chunk_core.proofs.Filters.{among_append, among_right}
use Rattle.chunk_core.proofs.Members.{among_cons, among_nil, among_left}
use Rattle.chunk_core.specs.declared.code.Exit.{Exit}
use Rattle.res_ledger.specs.declared.event.StreamNo.{StreamNo}
use Rattle.res_ledger.specs.declared.event.What.{What}
use Rattle.res_ledger.specs.declared.event.What.TheVariants.{Open, Acquire, Lease, Cancel, Close, Final}
use Rattle.res_ledger.specs.declared.event.Event.{Event}
use Rattle.res_ledger.specs.Ledger.{Notes, NotesClose, NotesCancel}
use Rattle.res_ledger.specs.Own.{own, opens, opens_of, rows, acquires_of, closes, closes_of, leased_of, canceled_of}
use Rattle.res_ledger.specs.Streams.{same_stream}
use Rattle.res_ledger.specs.Whole.{is_final, is_cancel}
use Rattle.res_ledger.specs.Judge.{is_noted}
use Rattle.res_ledger.proofs.Tests.{name, named}
use Rattle.chunk_core.proofs.Bools.{number, any_at, any_found}

own_found : (e : Event) (L : List Event) (k : StreamNo) (w : What) (b : Bool) → same_stream e.by k ≡ b → IsAmong w (cond b (e.what ∷ own k L) (own k L)) → (IsAmong w (own k L) → Notes L k w) → Notes (e ∷ L) k w
own_found e L k w true t m rest = ⊎_elim (λ q. (e, here L, name e.by k t, sym q)) (λ n. let x = rest n in (x.0, there e x.1, x.2, x.3)) (among_cons m)
own_found e L k w false t m rest = let x = rest m in (x.0, there e x.1, x.2, x.3)

-- what is among a stream's own was noted by it
pub own_notes : (L : List Event) (k : StreamNo) (w : What) → IsAmong w (own k L) → Notes L k w
own_notes [] k w m = absurd (among_nil m)
own_notes (e ∷ L) k w m = own_found e L k w (same_stream e.by k) refl m (own_notes L k w)

own_more : (y : Event) (L : List Event) (k : StreamNo) (w : What) (b : Bool) → IsAmong w (own k L) → IsAmong w (cond b (y.what ∷ own k L) (own k L))
own_more y L k w true m = there y.what m
own_more y L k w false m = m

own_holds : (e : Event) (k : StreamNo) (L : List Event) → IsAmong e L → same_stream e.by k ≡ true → IsAmong e.what (own k L)
own_holds e k L (here xs) t = subst (λ b. IsAmong e.what (cond b (e.what ∷ own k xs) (own k xs))) (sym t) (here (own k xs))
own_holds e k L (there {xs = ys} y m) t = own_more y ys k e.what (same_stream y.by k) (own_holds e k ys m t)

-- what a stream noted is among its own
pub notes_own : (L : List Event) (k : StreamNo) (w : What) → Notes L k w → IsAmong w (own k L)
notes_own L k w n = subst (λ x. IsAmong x (own k L)) n.3 (own_holds n.0 k L n.1 (subst (λ x. same_stream x k ≡ true) (sym n.2) (named k)))

pub flat_found : {A B : Type 0} (f : A → List B) (xs : List A) (y : B) → IsAmong y (flat_map f xs) → (x : A) × IsAmong x xs × IsAmong y (f x)
flat_found f [] y m = absurd (among_nil m)
flat_found f (x ∷ xs) y m = ⊎_elim (λ l. (x, here xs, l)) (λ r. let i = flat_found f xs y r in (i.0, there x i.1, i.2)) (among_append y (f x) (flat_map f xs) m)

pub flat_holds : {A B : Type 0} (f : A → List B) (x : A) (xs : List A) (y : B) → IsAmong x xs → IsAmong y (f x) → IsAmong y (flat_map f xs)
flat_holds f x xs y (here ys) h = among_left (flat_map f ys) h
flat_holds f x xs y (there {xs = ys} z m) h = among_right y (f z) (flat_map f ys) (flat_holds f x ys y m h)

pub only : {A : Type 0} (x y : A) → IsAmong x (y ∷ []) → x ≡ y
only x y m = ⊎_elim (λ e. e) (λ n. absurd (among_nil n)) (among_cons m)

pub opens_shape : (w : What) (o : ℕ × ℕ) → IsAmong o (opens_of w) → w ≡ Open o.0 o.1
opens_shape (Open s p) o m = let q : ℕ × ℕ = (s, p) in ap (λ x. Open x.0 x.1) (sym (only o q m))
opens_shape w o m = absurd (among_nil m)

pub rows_shape : (w : What) (x : ℕ × ℕ) → IsAmong x (acquires_of w) → w ≡ Acquire x.0 x.1
rows_shape (Acquire r s) x m = let q : ℕ × ℕ = (r, s) in ap (λ y. Acquire y.0 y.1) (sym (only x q m))
rows_shape w x m = absurd (among_nil m)

pub leased_shape : (w : What) (l : ℕ × ℕ) → IsAmong l (leased_of w) → w ≡ Lease l.0 l.1
leased_shape (Lease j s) l m = let q : ℕ × ℕ = (j, s) in ap (λ y. Lease y.0 y.1) (sym (only l q m))
leased_shape w l m = absurd (among_nil m)

pub closes_shape : (w : What) (c : ℕ) → IsAmong c (closes_of w) → (x : Exit) × (w ≡ Close c x)
closes_shape (Close s x) c m = (x, ap (λ y. Close y x) (sym (only c s m)))
closes_shape w c m = absurd (among_nil m)

pub canceled_shape : (w : What) (j : ℕ) → IsAmong j (canceled_of w) → (x : Exit) × (w ≡ Cancel j x)
canceled_shape (Cancel i x) j m = (x, ap (λ y. Cancel y x) (sym (only j i m)))
canceled_shape w j m = absurd (among_nil m)

pub is_final_shape : (r : ℕ) (w : What) → is_final r w ≡ true → (x : Exit) × (ok : Bool) × (w ≡ Final r x ok)
is_final_shape r (Final q x ok) h = (x, ok, ap (λ z. Final z x ok) (number q r h))
is_final_shape r w h = absurd (false≢true h)

pub is_cancel_shape : (j : ℕ) (w : What) → is_cancel j w ≡ true → (x : Exit) × (w ≡ Cancel j x)
is_cancel_shape j (Cancel i x) h = (x, ap (λ z. Cancel z x) (number i j h))
is_cancel_shape j w h = absurd (false≢true h)

-- what stands in a list drawn from a stream's own was noted by it
pub listed_notes : {B : Type 0} (of : What → List B) (make : B → What) → ((w : What) (b : B) → IsAmong b (of w) → w ≡ make b) → (P : List Event) (k : StreamNo) (b : B) → IsAmong b (flat_map of (own k P)) → Notes P k (make b)
listed_notes of make shape P k b m = let f = flat_found of (own k P) b m in let n = own_notes P k f.0 f.1 in (n.0, n.1, n.2, n.3 ∙ shape f.0 b f.2)

pub opens_notes : (P : List Event) (k : StreamNo) (o : ℕ × ℕ) → IsAmong o (opens (own k P)) → Notes P k (Open o.0 o.1)
opens_notes P k o m = listed_notes opens_of (λ x. Open x.0 x.1) opens_shape P k o m

pub rows_notes : (P : List Event) (k : StreamNo) (x : ℕ × ℕ) → IsAmong x (rows (own k P)) → Notes P k (Acquire x.0 x.1)
rows_notes P k x m = listed_notes acquires_of (λ y. Acquire y.0 y.1) rows_shape P k x m

pub leased_notes : (P : List Event) (k : StreamNo) (l : ℕ × ℕ) → IsAmong l (flat_map leased_of (own k P)) → Notes P k (Lease l.0 l.1)
leased_notes P k l m = listed_notes leased_of (λ y. Lease y.0 y.1) leased_shape P k l m

-- the same where it is told by a number and an exit
ended_notes : (of : What → List ℕ) (make : ℕ → Exit → What) → ((w : What) (n : ℕ) → IsAmong n (of w) → (x : Exit) × (w ≡ make n x)) → (P : List Event) (k : StreamNo) (n : ℕ) → IsAmong n (flat_map of (own k P)) → (x : Exit) × Notes P k (make n x)
ended_notes of make shape P k n m = let f = flat_found of (own k P) n m in let t = own_notes P k f.0 f.1 in let w = shape f.0 n f.2 in (w.0, (t.0, t.1, t.2, t.3 ∙ w.1))

pub closes_notes : (P : List Event) (k : StreamNo) (c : ℕ) → IsAmong c (closes (own k P)) → NotesClose P k c
closes_notes P k c m = ended_notes closes_of Close closes_shape P k c m

pub canceled_notes : (P : List Event) (k : StreamNo) (j : ℕ) → IsAmong j (flat_map canceled_of (own k P)) → NotesCancel P k j
canceled_notes P k j m = ended_notes canceled_of Cancel canceled_shape P k j m

pub notes_opens : (P : List Event) (k : StreamNo) (s p : ℕ) → Notes P k (Open s p) → IsAmong (s, p) (opens (own k P))
notes_opens P k s p n = flat_holds opens_of (Open s p) (own k P) (s, p) (notes_own P k (Open s p) n) (here [])

pub notes_rows : (P : List Event) (k : StreamNo) (r s : ℕ) → Notes P k (Acquire r s) → IsAmong (r, s) (rows (own k P))
notes_rows P k r s n = flat_holds acquires_of (Acquire r s) (own k P) (r, s) (notes_own P k (Acquire r s) n) (here [])

pub notes_closes : (P : List Event) (k : StreamNo) (c : ℕ) → NotesClose P k c → IsAmong c (closes (own k P))
notes_closes P k c n = flat_holds closes_of (Close c n.0) (own k P) c (notes_own P k (Close c n.0) n.1) (here [])

-- an event that some stream noted is found
pub noted_at : (p : What → Bool) (P : List Event) (k : StreamNo) (w : What) → Notes P k w → p w ≡ true → is_noted p P ≡ true
noted_at p P k w n h = any_at (λ e. p e.what) n.0 P n.1 (subst (λ x. p x ≡ true) (sym n.3) h)

pub noted_found : (p : What → Bool) (P : List Event) → is_noted p P ≡ true → (k : StreamNo) × (w : What) × Notes P k w × (p w ≡ true)
noted_found p P h = let f = any_found (λ e. p e.what) P h in (f.0.by, f.0.what, (f.0, f.1, refl, refl), f.2)
