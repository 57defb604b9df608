-- One event more in the trees.
use Rattle.std.proofs.Common.{◌≡◌, ◌≢◌, ℕ, Bool, true, false, cond, ◌&&◌, nat_eq, List, [], ◌∷◌, ◌++◌, refl, sym, ap, ◌∙◌, subst, append-nil}
use Rattle.std.specs.List.{flat_map}
use Rattle.std.proofs.lemmas.Grind.{flat_map-append}
use Rattle.chunk_core.proofs.Bools.{number, itself}
use Rattle.res_ledger.specs.declared.event.StreamNo.{StreamNo}
use Rattle.res_ledger.specs.declared.event.What.{What}
use Rattle.res_ledger.specs.declared.event.What.TheVariants.{Open, Acquire}
use Rattle.res_ledger.specs.declared.event.Event.{Event}
use Rattle.res_ledger.specs.Streams.{same_stream}
use Rattle.res_ledger.specs.Own.{own, opens, opens_of, rows, acquires_of}
use Rattle.res_ledger.proofs.Scopes.{own_append}
use Rattle.res_ledger.proofs.Tests.{name, named}
use Rattle.ledger_books.specs.Keyed.{number_of}
use Rattle.ledger_books.proofs.Keys.{number_is}
use Rattle.ledger_audit.specs.Lists.{IsList, adds}
use Rattle.ledger_audit.specs.Trees.{HasTrees, of_scope}
use Rattle.ledger_audit.specs.declared.trees.Trees.{Trees}
use Rattle.ledger_audit.specs.declared.lists.Lists.{Lists}

same_bool : (a b : Bool) → (a ≡ true → b ≡ true) → (b ≡ true → a ≡ true) → a ≡ b
same_bool true true f g = refl
same_bool true false f g = sym (f refl)
same_bool false true f g = g refl
same_bool false false f g = refl

pub numbers_tell : (a b : StreamNo) → nat_eq (number_of a) (number_of b) ≡ same_stream a b
numbers_tell a b = same_bool (nat_eq (number_of a) (number_of b)) (same_stream a b)
    (λ h. subst (λ x. same_stream x b ≡ true) (sym (number_is a b (number (number_of a) (number_of b) h))) (named b))
    (λ h. subst (λ x. nat_eq (number_of x) (number_of b) ≡ true) (sym (name a b h)) (itself (number_of b)))

of_scope_append : (xs ys : List (ℕ × ℕ)) (s : ℕ) → of_scope (xs ++ ys) s ≡ of_scope xs s ++ of_scope ys s
of_scope_append [] ys s = refl
of_scope_append (x ∷ xs) ys s = elim (nat_eq x.1 s) as (λ b. cond b (x.0 ∷ of_scope (xs ++ ys) s) (of_scope (xs ++ ys) s) ≡ cond b (x.0 ∷ of_scope xs s) (of_scope xs s) ++ of_scope ys s) [
  | true ↦ ap (λ l. x.0 ∷ l) (of_scope_append xs ys s)
  | false ↦ of_scope_append xs ys s
]

-- what a stream's list has after one event more
module _ (of : What → List (ℕ × ℕ)) (P : List Event) (e : Event) (k : StreamNo) (s : ℕ) where
  abbrev listed : List What → List ℕ
  listed E = of_scope (flat_map of E) s

  drawn : listed (own k (P ++ e ∷ [])) ≡ listed (own k P) ++ cond (same_stream e.by k) (of_scope (of e.what) s) []
  drawn =
      ap listed (own_append k P (e ∷ []))
      ∙ ap (λ l. of_scope l s) (flat_map-append of (own k P) (own k (e ∷ [])))
      ∙ of_scope_append (flat_map of (own k P)) (flat_map of (own k (e ∷ []))) s
      ∙ ap (λ l. listed (own k P) ++ l) (elim (same_stream e.by k) as (λ b. listed (cond b (e.what ∷ []) []) ≡ cond b (of_scope (of e.what) s) []) [ true ↦ ap (λ l. of_scope l s) (append-nil (of e.what)) | false ↦ refl ])

  -- an event that draws nothing
  pub list_same : of e.what ≡ [] → listed (own k (P ++ e ∷ [])) ≡ listed (own k P)
  list_same h = drawn ∙ ap (λ l. listed (own k P) ++ l) (ap (λ l. cond {A = List ℕ} (same_stream e.by k) (of_scope l s) []) h ∙ elim (same_stream e.by k) as (λ b. cond {A = List ℕ} b [] [] ≡ []) [ true ↦ refl | false ↦ refl ]) ∙ append-nil (listed (own k P))

  -- an event that draws one pair
  pub list_next : (a b : ℕ) → of e.what ≡ (a, b) ∷ [] → listed (own k (P ++ e ∷ [])) ≡ cond (adds (number_of e.by) b (number_of k) s) (listed (own k P) ++ a ∷ []) (listed (own k P))
  list_next a b h =
      drawn ∙ ap (λ l. listed (own k P) ++ cond (same_stream e.by k) (of_scope l s) []) h
      ∙ chosen (same_stream e.by k) (nat_eq b s) (listed (own k P))
      ∙ ap (λ c. cond (c && nat_eq b s) (listed (own k P) ++ a ∷ []) (listed (own k P))) (sym (numbers_tell e.by k))
    where
      chosen : (c d : Bool) (l : List ℕ) → l ++ cond c (cond d (a ∷ []) []) [] ≡ cond (c && d) (l ++ a ∷ []) l
      chosen true true l = refl
      chosen true false l = append-nil l
      chosen false d l = append-nil l

module _ (t : Trees) (P : List Event) (e : Event) (h : HasTrees t P) where
  pub trees_open : (x : Lists) (s p : ℕ) → e.what ≡ Open s p → ((k n : ℕ) (xs : List ℕ) → IsList t.kids k n xs → IsList x k n (cond (adds (number_of e.by) p k n) (xs ++ s ∷ []) xs)) → HasTrees (record { kids = x; rows = t.rows }) (P ++ e ∷ [])
  trees_open x s p w f = record {
    kids = λ k n. subst (IsList x (number_of k) n) (sym (list_next opens_of P e k n s p (ap opens_of w))) (f (number_of k) n (of_scope (opens (own k P)) n) (h.kids k n));
    rows = λ k n. subst (IsList t.rows (number_of k) n) (sym (list_same acquires_of P e k n (ap acquires_of w))) (h.rows k n);
  }

  pub trees_acquire : (x : Lists) (r s : ℕ) → e.what ≡ Acquire r s → ((k n : ℕ) (xs : List ℕ) → IsList t.rows k n xs → IsList x k n (cond (adds (number_of e.by) s k n) (xs ++ r ∷ []) xs)) → HasTrees (record { kids = t.kids; rows = x }) (P ++ e ∷ [])
  trees_acquire x r s w f = record {
    kids = λ k n. subst (IsList t.kids (number_of k) n) (sym (list_same opens_of P e k n (ap opens_of w))) (h.kids k n);
    rows = λ k n. subst (IsList x (number_of k) n) (sym (list_next acquires_of P e k n r s (ap acquires_of w))) (f (number_of k) n (of_scope (rows (own k P)) n) (h.rows k n));
  }

  pub trees_same : opens_of e.what ≡ [] → acquires_of e.what ≡ [] → HasTrees t (P ++ e ∷ [])
  trees_same a b = record {
    kids = λ k n. subst (IsList t.kids (number_of k) n) (sym (list_same opens_of P e k n a)) (h.kids k n);
    rows = λ k n. subst (IsList t.rows (number_of k) n) (sym (list_same acquires_of P e k n b)) (h.rows k n);
  }

pub no_open : (w : What) → ((s p : ℕ) → w ≢ Open s p) → opens_of w ≡ []
no_open (Open s p) n = absurd (n s p refl)
no_open w n = refl

pub no_acquire : (w : What) → ((s p : ℕ) → w ≢ Acquire s p) → acquires_of w ≡ []
no_acquire (Acquire s p) n = absurd (n s p refl)
no_acquire w n = refl
