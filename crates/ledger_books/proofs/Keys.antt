-- What the index says of the events so far.
use Rattle.std.proofs.Common.{◌≡◌, ◌≢◌, ◌↔◌, ℕ, Bool, true, false, List, inl, inr, refl, sym, ap, ◌∙◌, subst, Option, None, Some}
use Rattle.std.specs.Prelude.{is_some}
use Rattle.std.proofs.lemmas.Bool.{false≢true}
use Rattle.chunk_core.specs.Lists.{IsAmong}
use Rattle.chunk_core.specs.declared.code.Exit.{Exit}
use Rattle.res_ledger.specs.declared.event.StreamNo.{StreamNo}
use Rattle.res_ledger.specs.declared.event.StreamNo.TheVariants.{Outer, Inner}
use Rattle.res_ledger.specs.declared.event.What.{What}
use Rattle.res_ledger.specs.declared.event.What.TheVariants.{Open, Acquire, Lease, Cancel, Close, Final}
use Rattle.res_ledger.specs.declared.event.Event.{Event}
use Rattle.res_ledger.specs.Ledger.{NotesClose, IsFinalized}
use Rattle.ledger_books.specs.declared.index.Key.{Key}
use Rattle.ledger_books.specs.declared.index.Key.TheVariants.{Begun, Closed, Finalized}
use Rattle.ledger_books.specs.declared.index.Index.{Index}
use Rattle.ledger_books.specs.Key.{place_of}
use Rattle.ledger_books.specs.Keyed.{Indexes, HasKey, NotesAt, key_of, number_of}
use Rattle.ledger_books.proofs.Placed.{at_among}

module _ (x : Index) (P : List Event) (i : Indexes x P) where
  pub has_found : (q : Key) → is_some (place_of x q) ≡ true → (e : Event) × IsAmong e P × HasKey e q
  has_found q h = found (place_of x q) refl h
    where
      found : (o : Option ℕ) → place_of x q ≡ o → is_some o ≡ true → (e : Event) × IsAmong e P × HasKey e q
      found None e h = absurd (false≢true h)
      found (Some n) e h = let t = i.found q n e in (t.0, at_among P n t.0 t.1, t.2)

  pub has_not : (q : Key) → is_some (place_of x q) ≡ false → (e : Event) → IsAmong e P → HasKey e q → ⊥
  has_not q h e m k = none (place_of x q) refl h
    where
      none : (o : Option ℕ) → place_of x q ≡ o → is_some o ≡ false → ⊥
      none None g h = i.missing q g e m k
      none (Some n) g h = false≢true (sym h)

  -- what has the key is noted exactly where the index has it
  pub has_exactly : (q : Key) (A : Type 0) → ((e : Event) → IsAmong e P → HasKey e q → A) → (A → (e : Event) × IsAmong e P × HasKey e q) → (b : Bool) → b ≡ is_some (place_of x q) → (b ≡ true) ↔ A
  has_exactly q A there back b h = ((λ e. let t = has_found q (sym h ∙ e) in there t.0 t.1 t.2), (λ a. let t = back a in stands b h t))
    where
      stands : (b : Bool) → b ≡ is_some (place_of x q) → ((e : Event) × IsAmong e P × HasKey e q) → b ≡ true
      stands true h t = refl
      stands false h t = absurd (has_not q (sym h) t.0 t.1 t.2)

pub number_is : (j k : StreamNo) → number_of j ≡ number_of k → j ≡ k
number_is Outer Outer e = refl
number_is Outer (Inner k) e = cc
number_is (Inner j) Outer e = cc
number_is (Inner j) (Inner k) e = cc

final_shape : (k : StreamNo) (w : What) (r : ℕ) → key_of k w ≡ Finalized r → (x : Exit) × (ok : Bool) × (w ≡ Final r x ok)
final_shape k (Final q x ok) r e = (x, ok, (cc))
final_shape k (Open s p) r e = cc
final_shape k (Acquire s p) r e = cc
final_shape k (Lease s p) r e = cc
final_shape k (Cancel s p) r e = cc
final_shape k (Close s p) r e = cc

pub final_key : (e : Event) (r : ℕ) → HasKey e (Finalized r) → (x : Exit) × (ok : Bool) × (e.what ≡ Final r x ok)
final_key e r (inl h) = final_shape e.by e.what r h
final_key e r (inr h) = cc

close_shape : (k : StreamNo) (w : What) (n s : ℕ) → key_of k w ≡ Closed n s → (number_of k ≡ n) × ((x : Exit) × (w ≡ Close s x))
close_shape k (Close t x) n s e = ((cc), (x, (cc)))
close_shape k (Final q x ok) n s e = cc
close_shape k (Open t p) n s e = cc
close_shape k (Acquire t p) n s e = cc
close_shape k (Lease t p) n s e = cc
close_shape k (Cancel t p) n s e = cc

pub close_key : (e : Event) (k : StreamNo) (s : ℕ) → HasKey e (Closed (number_of k) s) → (e.by ≡ k) × ((x : Exit) × (e.what ≡ Close s x))
close_key e k s (inl h) = let t = close_shape e.by e.what (number_of k) s h in (number_is e.by k t.0, t.1)
close_key e k s (inr h) = cc

begun_shape : (k : StreamNo) (w : What) (n : ℕ) → key_of k w ≡ Begun n → ⊥
begun_shape k (Close t x) n e = cc
begun_shape k (Final q x ok) n e = cc
begun_shape k (Open t p) n e = cc
begun_shape k (Acquire t p) n e = cc
begun_shape k (Lease t p) n e = cc
begun_shape k (Cancel t p) n e = cc

pub begun_key : (e : Event) (k : StreamNo) → HasKey e (Begun (number_of k)) → e.by ≡ k
begun_key e k (inl h) = absurd (begun_shape e.by e.what (number_of k) h)
begun_key e k (inr h) = number_is e.by k (let t : number_of e.by ≡ number_of k = cc in t)

pub has_final : (x : Index) (P : List Event) → Indexes x P → (r : ℕ) (b : Bool) → b ≡ is_some (place_of x (Finalized r)) → (b ≡ true) ↔ IsFinalized P r
has_final x P i r b h = has_exactly x P i (Finalized r) (IsFinalized P r) (λ e m k. let t = final_key e r k in (e.by, t.1, (t.0, (e, m, refl, t.2)))) (λ f. (f.2.1.0, f.2.1.1, inl (ap (key_of f.2.1.0.by) f.2.1.3))) b h

pub has_close : (x : Index) (P : List Event) → Indexes x P → (k : StreamNo) (s : ℕ) (b : Bool) → b ≡ is_some (place_of x (Closed (number_of k) s)) → (b ≡ true) ↔ NotesClose P k s
has_close x P i k s b h = has_exactly x P i (Closed (number_of k) s) (NotesClose P k s) (λ e m q. let t = close_key e k s q in (t.1.0, (e, m, t.0, t.1.1))) (λ f. (f.1.0, f.1.1, inl (ap (key_of f.1.0.by) f.1.3 ∙ ap (λ j. Closed (number_of j) s) f.1.2))) b h

pub has_begun : (x : Index) (P : List Event) → Indexes x P → (k : StreamNo) (b : Bool) → b ≡ is_some (place_of x (Begun (number_of k))) → (b ≡ false) ↔ ((e : Event) → IsAmong e P → e.by ≢ k)
has_begun x P i k b h = ((λ g e m q. has_not x P i (Begun (number_of k)) (sym h ∙ g) e m (inr (ap (λ j. Begun (number_of j)) q))), (λ f. fails b h f))
  where
    fails : (b : Bool) → b ≡ is_some (place_of x (Begun (number_of k))) → ((e : Event) → IsAmong e P → e.by ≢ k) → b ≡ false
    fails false h f = refl
    fails true h f = let t = has_found x P i (Begun (number_of k)) (sym h) in absurd (f t.0 t.1 (begun_key t.0 k t.2))

pub close_test : (x : Index) (P : List Event) → Indexes x P → (k : StreamNo) (s n : ℕ) (b : Bool) → n ≡ number_of k → b ≡ is_some (place_of x (Closed n s)) → (b ≡ true) ↔ NotesClose P k s
close_test x P i k s n b e h = has_close x P i k s b (h ∙ ap (λ m. is_some (place_of x (Closed m s))) e)

-- where the index has a Close, it stands at that place
pub close_at : (x : Index) (P : List Event) → Indexes x P → (k : StreamNo) (s n i : ℕ) → n ≡ number_of k → place_of x (Closed n s) ≡ Some i → (y : Exit) × NotesAt P i k (Close s y)
close_at x P d k s n i e h =
    let t = d.found (Closed n s) i h in
    let c = close_key t.0 k s (subst (λ m. HasKey t.0 (Closed m s)) e t.2) in
    (c.1.0, (t.0, t.1, c.0, c.1.1))

pub close_none : (x : Index) (P : List Event) → Indexes x P → (k : StreamNo) (s n : ℕ) → n ≡ number_of k → place_of x (Closed n s) ≡ None → (m : ℕ) (y : Exit) → NotesAt P m k (Close s y) → ⊥
close_none x P d k s n e h m y a = d.missing (Closed n s) h a.0 (at_among P m a.0 a.1) (inl (ap (key_of a.0.by) a.3 ∙ ap (λ j. Closed (number_of j) s) a.2 ∙ ap (λ j. Closed j s) (sym e)))
