-- Each Read and each Into stands in the part of a Weak of its place, where no place is used loosely.
use Rattle.std.proofs.Common.{◌≡◌, ℕ, Bool, true, false, ◌&&◌, ◌||◌, not, nat_eq, List, [], ◌∷◌, ◌++◌, refl, sym, subst, ◌∙◌, ⊎_elim}
use Rattle.std.proofs.lemmas.Bool.{false≢true}
use Rattle.std.specs.List.{list_any as any, list_all as all}
use Rattle.std.specs.Prelude.{option_to_list}
use Rattle.pull_nodes.specs.Shape.{used_place, uses_of}
use Rattle.pull_nodes.specs.Placed.{inside_at, is_inside, is_loose, loose_at}
use Rattle.std.proofs.lemmas.List.Folds.{list_any-append}
use Rattle.pull_nodes.specs.declared.node.Node.{Node}
use Rattle.pull_nodes.specs.declared.node.Node.TheVariants.{Read, Weak', Into'}
use Rattle.pull_nodes.proofs.Folds.{side_by_side}
use Rattle.chunk_core.proofs.Bools.{all_at, and_true, both, either, fails, has_in, itself, no, number, or_left, or_right}

rest : (a b c : Bool) → (a || b) ≡ true → (not a && c) ≡ true → b ≡ true
rest true b c h k = cc
rest false b c h k = h

last : (a b c : Bool) → c ≡ true → ((not a && c) ≡ true → b ≡ true) → (a || b) ≡ true
last true b c h f = refl
last false b c h f = f h

-- what the test passes is among the given places
abbrev pub HasNoOther : List ℕ → (ℕ → Bool) → Type 0
HasNoOther ps loose = (p : ℕ) → loose p ≡ true → any (nat_eq p) ps ≡ true

-- the first test passes the lists that have all that the second one passes
abbrev Bounds : (List ℕ → Bool) → (ℕ → Bool) → Type 0
Bounds inside loose = (ps : List ℕ) → (inside ps ≡ true → HasNoOther ps loose) × (HasNoOther ps loose → inside ps ≡ true)

bounds_both : (f f' : List ℕ → Bool) (g g' : ℕ → Bool) → Bounds f g → Bounds f' g' → Bounds (λ ps. f ps && f' ps) (λ p. g p || g' p)
bounds_both f f' g g' b b' ps = (
  λ h p l. ⊎_elim ((b ps).0 (both (f ps) (f' ps) h).0 p) ((b' ps).0 (both (f ps) (f' ps) h).1 p) (either (g p) (g' p) l),
  λ h. and_true (f ps) (f' ps) ((b ps).1 (λ p l. h p (or_left (g p) (g' p) l))) ((b' ps).1 (λ p l. h p (or_right (g p) (g' p) l))),
)

bounds_use : (q : ℕ) → Bounds (λ ps. any (nat_eq q) ps) (λ p. nat_eq p q)
bounds_use q ps = (λ h p l. subst (λ r. any (nat_eq r) ps ≡ true) (sym (number p q l)) h, λ h. h q (itself q))

bounds_own : (n : Node) (f : List ℕ → Bool) (g : ℕ → Bool) → Bounds f g → Bounds (inside_at n f) (loose_at n g)
bounds_own (Read q) f g b ps = bounds_use q ps
bounds_own (Weak' q _ a) f g b ps = (
  λ h p l. rest (nat_eq p q) (any (nat_eq p) ps) (g p) ((b (q ∷ ps)).0 h p (both (not (nat_eq p q)) (g p) l).1) l,
  λ h. (b (q ∷ ps)).1 (λ p l. last (nat_eq p q) (any (nat_eq p) ps) (g p) l (h p)),
)
bounds_own (Into' q _ a) f g b ps = bounds_both (λ qs. any (nat_eq q) qs) f (λ p. nat_eq p q) g (bounds_use q) b ps
bounds_own n f g b ps = b ps

inside_bounds : (n : Node) → Bounds (λ ps. is_inside ps n) (λ p. is_loose p n)
inside_bounds = side_by_side Bounds (λ ps. true) (λ p. false) (λ f g ps. f ps && g ps) (λ f g p. f p || g p) inside_at loose_at (λ ps. (λ h p l. cc, λ f. refl)) (λ f f' g g'. bounds_both f f' g g') bounds_own

among_left : (p : ℕ) (xs ys : List ℕ) → any (nat_eq p) xs ≡ true → any (nat_eq p) (xs ++ ys) ≡ true
among_left p xs ys h = list_any-append (nat_eq p) xs ys ∙ or_left (any (nat_eq p) xs) (any (nat_eq p) ys) h

among_right : (p : ℕ) (xs ys : List ℕ) → any (nat_eq p) ys ≡ true → any (nat_eq p) (xs ++ ys) ≡ true
among_right p xs ys h = list_any-append (nat_eq p) xs ys ∙ or_right (any (nat_eq p) xs) (any (nat_eq p) ys) h

-- the list has what the test passes
abbrev IsListed : (ℕ → Bool) → List ℕ → Type 0
IsListed loose us = (p : ℕ) → loose p ≡ true → any (nat_eq p) us ≡ true

listed_own : (n : Node) (g : ℕ → Bool) (us : List ℕ) → IsListed g us → IsListed (loose_at n g) (option_to_list (used_place n) ++ us)
listed_own (Read q) g us i p l = or_left (nat_eq p q) (any (nat_eq p) us) l
listed_own (Weak' q _ a) g us i p l = i p (both (not (nat_eq p q)) (g p) l).1
listed_own (Into' q _ a) g us i p l = ⊎_elim (or_left (nat_eq p q) (any (nat_eq p) us)) (λ h. or_right (nat_eq p q) (any (nat_eq p) us) (i p h)) (either (nat_eq p q) (g p) l)
listed_own n g us i p l = i p l

-- what is used loosely is used
loose_used : (n : Node) → IsListed (λ p. is_loose p n) (uses_of n)
loose_used =
    side_by_side IsListed (λ p. false) [] (λ f g p. f p || g p) ◌++◌ loose_at (λ m us. option_to_list (used_place m) ++ us)
    (λ p l. cc) (λ f g us vs h i p l. ⊎_elim (λ k. among_left p us vs (h p k)) (λ k. among_right p us vs (i p k)) (either (f p) (g p) l)) listed_own

all_of : (f : ℕ → Bool) (xs : List ℕ) → ((p : ℕ) → f p ≡ true) → all f xs ≡ true
all_of f [] g = refl
all_of f (x ∷ xs) g = and_true (f x) (all f xs) (g x) (all_of f xs g)

alike : (a b : Bool) → (a ≡ true → b ≡ true) → (b ≡ true → a ≡ true) → a ≡ b
alike true b f g = sym (f refl)
alike false true f g = g refl
alike false false f g = refl

pub tied_is_inside : (n : Node) → all (λ p. not (is_loose p n)) (uses_of n) ≡ is_inside [] n
tied_is_inside n =
    alike (all (λ p. not (is_loose p n)) (uses_of n)) (is_inside [] n)
    (λ h. (inside_bounds n []).1 (λ p l. absurd (no (is_loose p n) (all_at (λ q. not (is_loose q n)) p (uses_of n) (has_in p (uses_of n) (loose_used n p l)) h) l)))
    (λ h. all_of (λ q. not (is_loose q n)) (uses_of n) (λ q. fails (is_loose q n) (λ l. false≢true ((inside_bounds n []).0 h q l))))
