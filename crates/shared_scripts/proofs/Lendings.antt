-- The leases of one stream on rows that follow one another, and other lists of numbers.
use Rattle.std.proofs.Common.{◌≡◌, ◌≢◌, ℕ, zero, suc, ◌+◌, ◌<◌, ◌≤◌, ◌⊎◌, true, false, not, cond, eqb, filter, List, [], ◌∷◌, ◌++◌, inl, inr, refl, sym, ap, ◌∙◌, subst, ⊎_elim, arith, ne_eqb, eq-eqb}
use Rattle.chunk_core.specs.Lists.{IsAmong}
use Rattle.chunk_core.specs.Lists.IsAmong.{here, there}
use Rattle.chunk_core.proofs.Members.{among_cons, among_nil}
use Rattle.row_seat.specs.Steps.{without_one}
use Rattle.row_seat.specs.Views.{run, stream_pairs, without, without_pair, without_row}
use Rattle.std.specs.Map.{keys_of}
use Rattle.shared_scripts.specs.Crowds.{lent}

nat_cases : (x y : ℕ) → x ≤ y → (x ≡ y) ⊎ (x < y)
nat_cases x y p = grind arith

pub lent_below : (j m k i r : ℕ) → IsAmong (i, r) (lent j m k) → (i ≡ j) × (m ≤ r) × (r < m + k)
lent_below j m zero i r a = absurd (among_nil a)
lent_below j m (suc k) i r a = ⊎_elim
    (λ e. let x = ap (λ (z : ℕ × ℕ). z.0) e in let y = ap (λ (z : ℕ × ℕ). z.1) e in (x, omega arith, omega arith))
    (λ n. let t = lent_below j (suc m) k i r n in let a = t.1 in let b = t.2 in (t.0, omega arith, omega arith))
    (among_cons a)

pub among_lent : (j m k r : ℕ) → m ≤ r → r < m + k → IsAmong (j, r) (lent j m k)
among_lent j m zero r a b = absurd (omega arith)
among_lent j m (suc k) r a b = ⊎_elim
    (λ e. subst (λ (q : ℕ). let z : ℕ × ℕ = (j, q) in IsAmong z (lent j m (suc k))) e (here (lent j (suc m) k)))
    (λ l. there (j, m) (among_lent j (suc m) k r (omega arith) (omega arith)))
    (nat_cases m r a)

pub lent_snoc : (j m k : ℕ) → lent j m k ++ (j, m + k) ∷ [] ≡ lent j m (suc k)
lent_snoc j m zero = ap (λ (q : ℕ). let z : ℕ × ℕ = (j, q) in z ∷ []) (let e : m + 0 ≡ m = omega arith in e)
lent_snoc j m (suc k) = ap (λ l. (j, m) ∷ l) (ap (λ (q : ℕ). let z : ℕ × ℕ = (j, q) in lent j (suc m) k ++ z ∷ []) (let e : m + suc k ≡ suc m + k = omega arith in e) ∙ lent_snoc j (suc m) k)

lent_stays : (j r m k : ℕ) → r < m → without_pair j r (lent j m k) ≡ lent j m k
lent_stays j r m zero lt = refl
lent_stays j r m (suc k) lt = rw (eq-eqb j j refl) (rw (ne_eqb m r (λ e. omega arith)) (ap (λ l. (j, m) ∷ l) (lent_stays j r (suc m) k (omega arith))))

pub lent_without : (j m k : ℕ) → without_pair j m (lent j m (suc k)) ≡ lent j (suc m) k
lent_without j m k = rw (eq-eqb j j refl) (rw (eq-eqb m m refl) (lent_stays j m (suc m) k (omega arith)))

pub lent_mine : (j m k : ℕ) → stream_pairs j (lent j m k) ≡ lent j m k
lent_mine j m zero = refl
lent_mine j m (suc k) = rw (eq-eqb j j refl) (ap (λ l. (j, m) ∷ l) (lent_mine j (suc m) k))

pub lent_none : (j m k : ℕ) → filter (λ (x : ℕ × ℕ). not (eqb x.0 j)) (lent j m k) ≡ []
lent_none j m zero = refl
lent_none j m (suc k) = rw (eq-eqb j j refl) (lent_none j (suc m) k)

pub run_snoc : (a k : ℕ) → run a k ++ (a + k) ∷ [] ≡ run a (suc k)
run_snoc a zero = ap (λ (q : ℕ). q ∷ []) (let e : a + 0 ≡ a = omega arith in e)
run_snoc a (suc k) = ap (λ l. a ∷ l) (ap (λ (q : ℕ). run (suc a) k ++ q ∷ []) (let e : a + suc k ≡ suc a + k = omega arith in e) ∙ run_snoc (suc a) k)

pub run_without : (a k : ℕ) → without_one a (run a (suc k)) ≡ run (suc a) k
run_without a k = rw (eq-eqb a a refl) refl

pub none_left : (n : ℕ) → without n (n ∷ []) ≡ []
none_left n = rw (eq-eqb n n refl) refl

pub one_kept : (n : ℕ) → filter (λ x. eqb x n) (n ∷ []) ≡ n ∷ []
one_kept n = rw (eq-eqb n n refl) refl

pub without_last : (n : ℕ) (xs : List ℕ) → ¬ (IsAmong n xs) → without n (xs ++ n ∷ []) ≡ xs
without_last n [] out = none_left n
without_last n (x ∷ xs) out = rw (ne_eqb x n (λ e. out (subst (λ z. IsAmong z (x ∷ xs)) e (here xs)))) (ap (λ l. x ∷ l) (without_last n xs (λ m. out (there x m))))

module _ {P : Type 0} where
  pub no_row : (n : ℕ) (p : P) → without_row n ((n, p) ∷ []) ≡ []
  no_row n p = rw (eq-eqb n n refl) refl

  pub keys_nil : (xs : List (ℕ × P)) → keys_of xs ≡ [] → xs ≡ []
  keys_nil [] e = refl
  keys_nil (x ∷ xs) e = absurd (among_nil (subst (λ l. IsAmong x.0 l) e (here (keys_of xs))))
