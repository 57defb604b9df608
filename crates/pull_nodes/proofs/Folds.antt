-- Folds of a node go side by side.
use Rattle.std.proofs.Common.{ℕ, Option, Some, None}
use Rattle.pull_nodes.specs.Shape.{folded, AndOf, EachPlace}
use Rattle.pull_nodes.specs.declared.node.Node.{Node}
use Rattle.pull_nodes.specs.declared.node.Node.TheVariants.{Nil, Emit, Raise, Read, Weak', Scope', Append', OnFault', Through', Take', Zip', Merge', Into'}

module _ {ℓ ℓ' ℓ'' k} {A : Type ℓ} {B : Type ℓ'} {C : Type ℓ''} (R : A → B → C → Type k)
    (none : A) (none' : B) (none'' : C) (both : A → A → A) (both' : B → B → B) (both'' : C → C → C) (own : Node → A → A) (own' : Node → B → B) (own'' : Node → C → C)
    (at_none : R none none' none'') (at_both : (x y : A) (u v : B) (s t : C) → R x u s → R y v t → R (both x y) (both' u v) (both'' s t))
    (at_own : (n : Node) (x : A) (u : B) (s : C) → R x u s → R (own n x) (own' n u) (own'' n s)) where
  pub all_three : (n : Node) → R (folded none both own n) (folded none' both' own' n) (folded none'' both'' own'' n)
  all_three Nil = at_own Nil _ _ _ at_none
  all_three (Emit l) = at_own (Emit l) _ _ _ at_none
  all_three (Raise c) = at_own (Raise c) _ _ _ at_none
  all_three (Read p) = at_own (Read p) _ _ _ at_none
  all_three (Weak' p x a) = at_own (Weak' p x a) _ _ _ (all_three a)
  all_three (Scope' x a) = at_own (Scope' x a) _ _ _ (all_three a)
  all_three (Append' x a y b) = at_own (Append' x a y b) _ _ _ (at_both _ _ _ _ _ _ (all_three a) (all_three b))
  all_three (OnFault' x a y b) = at_own (OnFault' x a y b) _ _ _ (at_both _ _ _ _ _ _ (all_three a) (all_three b))
  all_three (Through' x a q) = at_own (Through' x a q) _ _ _ (all_three a)
  all_three (Take' n x a) = at_own (Take' n x a) _ _ _ (all_three a)
  all_three (Zip' x a y b) = at_own (Zip' x a y b) _ _ _ (at_both _ _ _ _ _ _ (all_three a) (all_three b))
  all_three (Merge' x a y b) = at_own (Merge' x a y b) _ _ _ (at_both _ _ _ _ _ _ (all_three a) (all_three b))
  all_three (Into' p x a) = at_own (Into' p x a) _ _ _ (all_three a)

module _ {ℓ ℓ' k} {A : Type ℓ} {B : Type ℓ'} (R : A → B → Type k) (none : A) (none' : B) (both : A → A → A) (both' : B → B → B) (own : Node → A → A) (own' : Node → B → B)
    (at_none : R none none') (at_both : (x y : A) (u v : B) → R x u → R y v → R (both x y) (both' u v)) (at_own : (n : Node) (x : A) (u : B) → R x u → R (own n x) (own' n u)) where
  pub side_by_side : (n : Node) → R (folded none both own n) (folded none' both' own' n)
  side_by_side =
      all_three {C = Unit {0}} (λ x u t. R x u) none none' tt both both' (λ s t. tt) own own' (λ n t. tt)
      at_none (λ x y u v s t. at_both x y u v) (λ n x u t. at_own n x u)

-- what two facts tell of each place
module _ (P Q S : ℕ → Type 0) (f : (p : ℕ) → P p → Q p → S p) where
  and_of : (o : Option ℕ) (A B C : Type 0) → (A → B → C) → AndOf P o A → AndOf Q o B → AndOf S o C
  and_of None A B C g x y = g x y
  and_of (Some p) A B C g x y = (f p x.0 y.0, g x.1 y.1)

  pub each_of_two : (own : Node → Option ℕ) (n : Node) → EachPlace own P n → EachPlace own Q n → EachPlace own S n
  each_of_two own =
      all_three (λ A B C. A → B → C) (Unit {0}) (Unit {0}) (Unit {0}) (λ A B. A × B) (λ A B. A × B) (λ A B. A × B)
      (λ m A. AndOf P (own m) A) (λ m A. AndOf Q (own m) A) (λ m A. AndOf S (own m) A)
      (λ x y. tt) (λ A A' B B' C C' g h x y. (g x.0 y.0, h x.1 y.1)) (λ m. and_of (own m))
