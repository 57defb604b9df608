-- One event more.
use Rattle.std.proofs.Common.{◌≡◌, ℕ, zero, suc, ◌≤◌, Bool, true, false, cond, nat_eq, List, [], ◌∷◌, ◌++◌, ◌⊎◌, inl, inr, refl, sym, ap, ◌∙◌, subst, ⊎_elim, length, arith, None, Some, slice_get}
use Rattle.std.specs.Prelude.{is_some}
use Rattle.std.proofs.lemmas.Bool.{false≢true}
use Rattle.std.proofs.lemmas.Option.{slice_get_within}
use Rattle.chunk_core.specs.Lists.{IsAmong}
use Rattle.chunk_core.proofs.Bools.{both, number, itself, and_true}
use Rattle.chunk_core.proofs.Members.{among_snoc}
use Rattle.res_ledger.specs.declared.event.StreamNo.{StreamNo}
use Rattle.res_ledger.specs.declared.event.What.{What}
use Rattle.res_ledger.specs.declared.event.What.TheVariants.{Open, Acquire, Lease, Cancel, Close, Final}
use Rattle.res_ledger.specs.declared.event.Event.{Event}
use Rattle.ledger_books.specs.declared.index.Key.{Key}
use Rattle.ledger_books.specs.declared.index.Key.TheVariants.{Begun, Opened, Closed, Acquired, Leased, Canceled, Finalized}
use Rattle.ledger_books.specs.declared.index.Index.{Index}
use Rattle.ledger_books.specs.Key.{place_of, same_key}
use Rattle.ledger_books.specs.Keyed.{Indexes, HasKey, IsFirst, Listed, key_of, number_of}
use Rattle.ledger_books.proofs.Placed.{at_among, at_more}

pub same_key_is : (a b : Key) → same_key a b ≡ true → a ≡ b
same_key_is (Begun k) (Begun l) h = ap Begun (number k l h)
same_key_is (Opened k s) (Opened l t) h = let e = both (nat_eq k l) (nat_eq s t) h in ap (λ x. Opened x s) (number k l e.0) ∙ ap (Opened l) (number s t e.1)
same_key_is (Closed k s) (Closed l t) h = let e = both (nat_eq k l) (nat_eq s t) h in ap (λ x. Closed x s) (number k l e.0) ∙ ap (Closed l) (number s t e.1)
same_key_is (Acquired k) (Acquired l) h = ap Acquired (number k l h)
same_key_is (Leased k) (Leased l) h = ap Leased (number k l h)
same_key_is (Canceled k) (Canceled l) h = ap Canceled (number k l h)
same_key_is (Finalized k) (Finalized l) h = ap Finalized (number k l h)
same_key_is a b h = absurd (false≢true h)

pub key_itself : (a : Key) → same_key a a ≡ true
key_itself (Begun k) = itself k
key_itself (Opened k s) = and_true (nat_eq k k) (nat_eq s s) (itself k) (itself s)
key_itself (Closed k s) = and_true (nat_eq k k) (nat_eq s s) (itself k) (itself s)
key_itself (Acquired k) = itself k
key_itself (Leased k) = itself k
key_itself (Canceled k) = itself k
key_itself (Finalized k) = itself k

at_last : (P : List Event) (e : Event) → slice_get (P ++ e ∷ []) (length P) ≡ Some e
at_last [] e = refl
at_last (x ∷ P) e = at_last P e

-- two keys were added
abbrev pub IsAdded : Index → Key → ℕ → Index → Type 0
IsAdded x k i y = (q : Key) → place_of y q ≡ cond (same_key k q) (Some i) (place_of x q)

pub indexes_more : (x y z : Index) (P : List Event) (e : Event) → Indexes x P → IsAdded x (key_of e.by e.what) (length P) y → IsAdded y (Begun (number_of e.by)) (length P) z → Indexes z (P ++ e ∷ [])
indexes_more x y z P e i a b = record { found = λ q n h. first q n (same_key (Begun (number_of e.by)) q) refl (sym (b q) ∙ h) i a; missing = λ q h f m. absent q f m (sym (b q) ∙ h) i a }
  where
    second : (q : Key) (n : ℕ) (c : Bool) → same_key (key_of e.by e.what) q ≡ c → cond c (Some (length P)) (place_of x q) ≡ Some n → Indexes x P → (f : Event) × (slice_get (P ++ e ∷ []) n ≡ Some f) × HasKey f q
    second q n true s h i = let m : length P ≡ n = cc in (e, subst (λ k. slice_get (P ++ e ∷ []) k ≡ Some e) m (at_last P e), inl (same_key_is (key_of e.by e.what) q s))
    second q n false s h i = let t = i.found q n h in (t.0, (at_more P (e ∷ []) n t.0 t.1).0, t.2)

    first : (q : Key) (n : ℕ) (c : Bool) → same_key (Begun (number_of e.by)) q ≡ c → cond c (Some (length P)) (place_of y q) ≡ Some n → Indexes x P → IsAdded x (key_of e.by e.what) (length P) y → (f : Event) × (slice_get (P ++ e ∷ []) n ≡ Some f) × HasKey f q
    first q n true s h i a = let m : length P ≡ n = cc in (e, subst (λ k. slice_get (P ++ e ∷ []) k ≡ Some e) m (at_last P e), inr (same_key_is (Begun (number_of e.by)) q s))
    first q n false s h i a = second q n (same_key (key_of e.by e.what) q) refl (sym (a q) ∙ h) i

    absent_two : (q : Key) (f : Event) → IsAmong f (P ++ e ∷ []) → (c : Bool) → same_key (Begun (number_of e.by)) q ≡ c → (d : Bool) → same_key (key_of e.by e.what) q ≡ d → cond c (Some (length P)) (cond d (Some (length P)) (place_of x q)) ≡ None → Indexes x P → HasKey f q → ⊥
    absent_two q f m true s d t h i k = cc
    absent_two q f m false s true t h i k = cc
    absent_two q f m false s false t h i k = ⊎_elim
        (λ l. i.missing q h f l k)
        (λ g. ⊎_elim
        (λ v. false≢true (sym t ∙ ap (same_key (key_of e.by e.what)) (sym v ∙ ap (λ w. key_of w.by w.what) g) ∙ key_itself (key_of e.by e.what)))
        (λ v. false≢true (sym s ∙ ap (same_key (Begun (number_of e.by))) (sym v ∙ ap (λ w. Begun (number_of w.by)) g) ∙ key_itself (Begun (number_of e.by))))
        k)
        (among_snoc P f e m)

    absent : (q : Key) (f : Event) → IsAmong f (P ++ e ∷ []) → cond (same_key (Begun (number_of e.by)) q) (Some (length P)) (place_of y q) ≡ None → Indexes x P → IsAdded x (key_of e.by e.what) (length P) y → HasKey f q → ⊥
    absent q f m h i a = absent_two q f m (same_key (Begun (number_of e.by)) q) refl (same_key (key_of e.by e.what) q) refl (ap (cond (same_key (Begun (number_of e.by)) q) (Some (length P))) (sym (a q)) ∙ h) i

-- an element of a list with one more
pub at_snoc : {A : Type 0} (xs : List A) (y x : A) (n : ℕ) → slice_get (xs ++ y ∷ []) n ≡ Some x → (slice_get xs n ≡ Some x) ⊎ ((n ≡ length xs) × (x ≡ y))
at_snoc [] y x zero h = let e : y ≡ x = cc in inr (refl, sym e)
at_snoc [] y x (suc n) h = cc
at_snoc (z ∷ xs) y x zero h = inl h
at_snoc (z ∷ xs) y x (suc n) h = ⊎_elim (λ l. inl l) (λ r. inr (ap suc r.0, r.1)) (at_snoc xs y x n h)

at_end : {A : Type 0} (xs : List A) (y : A) → slice_get (xs ++ y ∷ []) (length xs) ≡ Some y
at_end [] y = refl
at_end (x ∷ xs) y = at_end xs y

at_still : {A : Type 0} (xs ys : List A) (n : ℕ) (x : A) → slice_get xs n ≡ Some x → slice_get (xs ++ ys) n ≡ Some x
at_still [] ys n x h = cc
at_still (z ∷ xs) ys zero x h = h
at_still (z ∷ xs) ys (suc n) x h = at_still xs ys n x h

pub listed_none : (p : What → Bool) → Listed p [] []
listed_none p = record { stands = λ n i h. cc; all = λ i e h q. cc; rises = λ m n i j h g l. cc }

pub listed_more : (p : What → Bool) (xs : List ℕ) (P : List Event) (e : Event) (b : Bool) → p e.what ≡ b → Listed p xs P → Listed p (cond b (xs ++ length P ∷ []) xs) (P ++ e ∷ [])
listed_more p xs P e true h l = record {
  stands = λ n i g. ⊎_elim
      (λ f. let t = l.stands n i f in (t.0, at_still P (e ∷ []) i t.0 t.1, t.2))
      (λ f. (e, subst (λ k. slice_get (P ++ e ∷ []) k ≡ Some e) (sym f.1) (at_end P e), h))
      (at_snoc xs (length P) i n g);
  all = λ i f g q. ⊎_elim
      (λ a. let t = l.all i f a q in (t.0, at_still xs (length P ∷ []) t.0 i t.1))
      (λ a. (length xs, at_end xs (length P) ∙ ap Some (sym a.0)))
      (at_snoc P e f i g);
  rises = λ m n i j g f w. ⊎_elim
      (λ a. ⊎_elim
      (λ b. l.rises m n i j a b w)
      (λ b. let t = l.stands m i a in let s = slice_get_within P i t.0 t.1 in let q = b.1 in omega arith)
      (at_snoc xs (length P) j n f))
      (λ a. ⊎_elim
      (λ b. let s = slice_get_within xs n j b in let q = a.0 in absurd (omega arith))
      (λ b. let q = a.0 in let s = b.0 in absurd (omega arith))
      (at_snoc xs (length P) j n f))
      (at_snoc xs (length P) i m g);
}
listed_more p xs P e false h l = record {
  stands = λ n i g. let t = l.stands n i g in (t.0, at_still P (e ∷ []) i t.0 t.1, t.2);
  all = λ i f g q. ⊎_elim (λ a. l.all i f a q) (λ a. absurd (false≢true (sym h ∙ ap (λ w. p w.what) (sym a.1) ∙ q))) (at_snoc P e f i g);
  rises = l.rises;
}

begun_is : (k : StreamNo) (w : What) (n : ℕ) → same_key (key_of k w) (Begun n) ≡ false
begun_is k (Open s p) n = refl
begun_is k (Acquire s p) n = refl
begun_is k (Lease s p) n = refl
begun_is k (Cancel s p) n = refl
begun_is k (Close s p) n = refl
begun_is k (Final s p o) n = refl

-- one key was added, and the stream's first place where it had none
pub indexes_kept : (x y : Index) (P : List Event) (e : Event) → Indexes x P → IsAdded x (key_of e.by e.what) (length P) y → is_some (place_of y (Begun (number_of e.by))) ≡ true → Indexes y (P ++ e ∷ [])
indexes_kept x y P e i a h = record { found = λ q n g. at q n (same_key (key_of e.by e.what) q) refl (sym (a q) ∙ g) i; missing = λ q g f m k. absent q f m (same_key (key_of e.by e.what) q) refl (sym (a q) ∙ g) i (λ z. begun_not q g h z) k }
  where
    at : (q : Key) (n : ℕ) (c : Bool) → same_key (key_of e.by e.what) q ≡ c → cond c (Some (length P)) (place_of x q) ≡ Some n → Indexes x P → (f : Event) × (slice_get (P ++ e ∷ []) n ≡ Some f) × HasKey f q
    at q n true s h i = let m : length P ≡ n = cc in (e, subst (λ k. slice_get (P ++ e ∷ []) k ≡ Some e) m (at_last P e), inl (same_key_is (key_of e.by e.what) q s))
    at q n false s h i = let t = i.found q n h in (t.0, (at_more P (e ∷ []) n t.0 t.1).0, t.2)

    begun_not : (q : Key) → place_of y q ≡ None → is_some (place_of y (Begun (number_of e.by))) ≡ true → Begun (number_of e.by) ≡ q → ⊥
    begun_not q g h z = false≢true (ap is_some (sym g ∙ ap (place_of y) (sym z)) ∙ h)

    absent : (q : Key) (f : Event) → IsAmong f (P ++ e ∷ []) → (c : Bool) → same_key (key_of e.by e.what) q ≡ c → cond c (Some (length P)) (place_of x q) ≡ None → Indexes x P → (Begun (number_of e.by) ≡ q → ⊥) → HasKey f q → ⊥
    absent q f m true s h i z k = cc
    absent q f m false s h i z k = ⊎_elim
        (λ l. i.missing q h f l k)
        (λ g. ⊎_elim
        (λ v. false≢true (sym s ∙ ap (same_key (key_of e.by e.what)) (sym v ∙ ap (λ w. key_of w.by w.what) g) ∙ key_itself (key_of e.by e.what)))
        (λ v. z (ap (λ w. Begun (number_of w.by)) (sym g) ∙ v))
        k)
        (among_snoc P f e m)

begun_still : (x y : Index) (P : List Event) (e : Event) → IsAdded x (key_of e.by e.what) (length P) y → (n : ℕ) → place_of y (Begun n) ≡ place_of x (Begun n)
begun_still x y P e a n = a (Begun n) ∙ ap (λ b. cond b (Some (length P)) (place_of x (Begun n))) (begun_is e.by e.what n)

pub first_kept : (x y : Index) (P : List Event) (e : Event) → Indexes x P → IsAdded x (key_of e.by e.what) (length P) y → IsFirst x P → IsFirst y (P ++ e ∷ [])
first_kept x y P e i a f k n m g h q by =
    let h' : place_of x (Begun (number_of k)) ≡ Some n = sym (begun_still x y P e a (number_of k)) ∙ h in
    ⊎_elim
    (λ l. f k n m g h' l by)
    (λ l. let t = i.found (Begun (number_of k)) n h' in let w = slice_get_within P n t.0 t.1 in let z = l.0 in omega arith)
    (at_snoc P e g m q)

pub first_more : (x y z : Index) (P : List Event) (e : Event) → Indexes x P → IsAdded x (key_of e.by e.what) (length P) y → place_of y (Begun (number_of e.by)) ≡ None → IsAdded y (Begun (number_of e.by)) (length P) z → IsFirst x P → IsFirst z (P ++ e ∷ [])
first_more x y z P e i a none b f k n m g h q by = at (same_key (Begun (number_of e.by)) (Begun (number_of k))) refl (sym (b (Begun (number_of k))) ∙ h)
  where
    at : (c : Bool) → same_key (Begun (number_of e.by)) (Begun (number_of k)) ≡ c → cond c (Some (length P)) (place_of y (Begun (number_of k))) ≡ Some n → n ≤ m
    at true s h =
        let w : length P ≡ n = cc in
        ⊎_elim
        (λ l.
        let j : number_of e.by ≡ number_of k = number (number_of e.by) (number_of k) s in
        let h' : place_of x (Begun (number_of k)) ≡ None = sym (begun_still x y P e a (number_of k)) ∙ ap (λ v. place_of y (Begun v)) (sym j) ∙ none in
        absurd (i.missing (Begun (number_of k)) h' g (at_among P m g l) (inr (ap (λ v. Begun (number_of v)) by))))
        (λ l. let u = l.0 in omega arith)
        (at_snoc P e g m q)
    at false s h = first_kept x y P e i a f k n m g h q by
