-- Rows that follow one another.
use Rattle.std.proofs.Common.{◌≡◌, ℕ, zero, suc, ◌+◌, ◌<◌, ◌≤◌, true, false, not, nat_eq, List, [], ◌∷◌, refl, sym, subst, ◌∙◌, ⊎_elim, ne_eqb, arith}
use Rattle.std.specs.List.{range_with_len, list_any as any, list_all as all}
use Rattle.std.proofs.lemmas.Bool.{cases_Bool, false≢true, le-leb, lt-ltb}
use Rattle.chunk_core.specs.declared.code.Span.{Span}
use Rattle.chunk_core.specs.Lists.{IsAmong, are_distinct, has}
use Rattle.chunk_core.proofs.Bools.{and_true, both, each_passes, itself, number}
use Rattle.chunk_core.proofs.Members.{among_cons, among_nil}
use Rattle.pull_nodes.specs.Placed.{is_inside, is_once, is_placed, is_within}
use Rattle.pull_nodes.specs.Shape.{places_of, uses_of}
use Rattle.pull_nodes.specs.declared.node.Node.{Node}

-- a number below the first isn't among them
absent : (x q c : ℕ) → x < q → any (nat_eq x) (range_with_len q c) ≡ false
absent x q zero h = refl
absent x q (suc c) h = let here : nat_eq x q ≡ false = ne_eqb x q (λ e. absurd (omega arith)) in rw here (absent x (q + 1) c (omega arith))

distinct_run : (q c : ℕ) → are_distinct (range_with_len q c) ≡ true
distinct_run q zero = refl
distinct_run q (suc c) = rw (absent q (q + 1) c (omega arith)) (distinct_run (q + 1) c)

within_run : (span : Span) (q c : ℕ) → span.from ≤ q → q + c ≤ span.to → all (is_within span) (range_with_len q c) ≡ true
within_run span q zero low high = refl
within_run span q (suc c) low high =
    and_true (is_within span q) (all (is_within span) (range_with_len (q + 1) c))
    (rw (le-leb span.from q low, lt-ltb q span.to (omega arith)) refl) (within_run span (q + 1) c (omega arith) (omega arith))

-- a number of a list in which none stands twice stands there once
once_among : (us : List ℕ) (p : ℕ) → are_distinct us ≡ true → IsAmong p us → is_once us p ≡ true
once_among [] p d i = absurd (among_nil i)
once_among (u ∷ us) p d i = ⊎_elim here (λ e. rw e (once_among us p parts.1 (later e))) (cases_Bool (nat_eq p u))
  where
    parts : (not (has u us) ≡ true) × (are_distinct us ≡ true)
    parts = both (not (has u us)) (are_distinct us) d

    here : nat_eq p u ≡ true → is_once (u ∷ us) p ≡ true
    here e = rw e (subst (λ q. not (any (nat_eq q) us) ≡ true) (sym (number p u e)) parts.0)

    later : nat_eq p u ≡ false → IsAmong p us
    later e = ⊎_elim (λ same. absurd (false≢true (sym e ∙ subst (λ q. nat_eq p q ≡ true) same (itself p)))) (λ more. more) (among_cons i)

module _ (span : Span) (q c : ℕ) (n : Node) (places : places_of n ≡ range_with_len q c) (uses : uses_of n ≡ range_with_len q c) (inside : is_inside [] n ≡ true) where
  -- a node that acquires such rows, each of which it uses once
  pub placed_run : span.from ≤ q → q + c ≤ span.to → is_placed span n ≡ true
  placed_run low high =
      rw (places, uses, inside, within_run span q c low high, distinct_run q c)
      (rw (each_passes (is_once (range_with_len q c)) (range_with_len q c) (λ p i. once_among (range_with_len q c) p (distinct_run q c) i)) refl)
