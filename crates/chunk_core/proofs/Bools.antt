-- What a test says that passed.
use Rattle.std.proofs.Common.{◌≡◌, ℕ, Bool, true, false, ◌&&◌, ◌||◌, not, nat_eq, List, [], ◌∷◌, ◌⊎◌, inl, inr, refl, sym, subst}
use Rattle.std.proofs.lemmas.Bool.{false≢true}
use Rattle.std.proofs.lemmas.Bool.Decides.{Decides-eqb}
use Rattle.std.specs.List.{list_any as any, list_all as all}
use Rattle.chunk_core.specs.Lists.{IsAmong, has}
use Rattle.chunk_core.specs.Lists.IsAmong.{here, there}

pub both : (a b : Bool) → (a && b) ≡ true → (a ≡ true) × (b ≡ true)
both true b h = (refl, h)
both false b h = absurd (false≢true h)

pub either : (a b : Bool) → (a || b) ≡ true → (a ≡ true) ⊎ (b ≡ true)
either true b h = inl refl
either false b h = inr h

pub no : (a : Bool) → not a ≡ true → a ≡ true → ⊥
no true h e = false≢true h
no false h e = false≢true e

pub or_left : (a b : Bool) → a ≡ true → (a || b) ≡ true
or_left true b h = refl
or_left false b h = absurd (false≢true h)

pub or_right : (a b : Bool) → b ≡ true → (a || b) ≡ true
or_right true b h = refl
or_right false b h = h

pub and_true : (a b : Bool) → a ≡ true → b ≡ true → (a && b) ≡ true
and_true true b h e = e
and_true false b h e = absurd (false≢true h)

-- a test passes or its negation does
pub tested : (a : Bool) → (a ≡ true) ⊎ (not a ≡ true)
tested true = inl refl
tested false = inr refl

-- a test fails where it can't pass
pub fails : (b : Bool) → (b ≡ true → ⊥) → not b ≡ true
fails true n = absurd (n refl)
fails false n = refl

pub not_so : (b : Bool) → not b ≡ true → b ≡ false
not_so true h = absurd (false≢true h)
not_so false h = refl

pub number : (x y : ℕ) → nat_eq x y ≡ true → x ≡ y
number x y h = (Decides-eqb x y).0 h

pub itself : (x : ℕ) → nat_eq x x ≡ true
itself x = (Decides-eqb x x).1 refl

pub all_at : {A : Type 0} (p : A → Bool) (x : A) (xs : List A) → IsAmong x xs → all p xs ≡ true → p x ≡ true
all_at p x xs (here ys) h = (both (p x) (all p ys) h).0
all_at p x xs (there {xs = ys} y m) h = all_at p x ys m (both (p y) (all p ys) h).1

pub each_passes : {A : Type 0} (p : A → Bool) (xs : List A) → ((x : A) → IsAmong x xs → p x ≡ true) → all p xs ≡ true
each_passes p [] h = refl
each_passes p (x ∷ xs) h = and_true (p x) (all p xs) (h x (here xs)) (each_passes p xs (λ y m. h y (there x m)))

pub any_at : {A : Type 0} (p : A → Bool) (x : A) (xs : List A) → IsAmong x xs → p x ≡ true → any p xs ≡ true
any_at p x xs (here ys) h = or_left (p x) (any p ys) h
any_at p x xs (there {xs = ys} y m) h = or_right (p y) (any p ys) (any_at p x ys m h)

pub any_found : {A : Type 0} (p : A → Bool) (xs : List A) → any p xs ≡ true → (x : A) × IsAmong x xs × (p x ≡ true)
any_found p [] h = absurd (false≢true h)
any_found p (x ∷ xs) h = elim (either (p x) (any p xs) h) [
  | inl g ↦ (x, here xs, g)
  | inr g ↦ let f = any_found p xs g in (f.0, there x f.1, f.2)
]

-- a number is in a list where the test finds it
pub has_in : (x : ℕ) (ys : List ℕ) → has x ys ≡ true → IsAmong x ys
has_in x ys h = let f = any_found (nat_eq x) ys h in subst (λ y. IsAmong y ys) (sym (number x f.0 f.2)) f.1

pub in_has : (x : ℕ) (ys : List ℕ) → IsAmong x ys → has x ys ≡ true
in_has x ys m = any_at (nat_eq x) x ys m (itself x)
