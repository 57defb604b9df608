-- Whether each device of a node is acquired in one place and used in one place.
use Rattle.std.specs.Prelude.{ℕ, Bool, true, false, ◌&&◌, ◌||◌, not, cond, nat_eq, nat_le, nat_lt, List, [], ◌∷◌}
use Rattle.std.specs.List.{list_any as any, list_all as all}
use Rattle.chunk_core.specs.declared.code.Span.{Span}
use Rattle.pull_nodes.specs.Shape.{folded, places_of, uses_of}
use Rattle.pull_nodes.specs.declared.node.Node.{Node}
use Rattle.pull_nodes.specs.declared.node.Node.TheVariants.{Read, Weak', Into'}
use Rattle.chunk_core.specs.Lists.{are_distinct}

-- the span has the row
abbrev pub is_within : Span → ℕ → Bool
is_within span p = nat_le span.from p && nat_lt p span.to

-- no number stands in both lists
abbrev pub are_apart : List ℕ → List ℕ → Bool
are_apart ps qs = all (λ p. not (any (nat_eq p) qs)) ps

-- the number stands in the list once
abbrev pub is_once : List ℕ → ℕ → Bool
is_once [] p = false
is_once (q ∷ qs) p = cond (nat_eq p q) (not (any (nat_eq p) qs)) (is_once qs p)

-- a node that reads or writes a place uses it loosely, and a Weak ties what its part uses of its place
abbrev pub loose_at : Node → (ℕ → Bool) → ℕ → Bool
loose_at (Read q) f p = nat_eq p q
loose_at (Weak' q _ a) f p = not (nat_eq p q) && f p
loose_at (Into' q _ a) f p = nat_eq p q || f p
loose_at n f p = f p

-- a Read or an Into of the place stands outside of the part of each Weak of the place
abbrev pub is_loose : ℕ → Node → Bool
is_loose p n = folded (λ q. false) (λ f g q. f q || g q) loose_at n p

-- a place that a node reads or writes has to be among the given ones, and a Weak gives its place to its part
abbrev pub inside_at : Node → (List ℕ → Bool) → List ℕ → Bool
inside_at (Read p) f ps = any (nat_eq p) ps
inside_at (Weak' p _ a) f ps = f (p ∷ ps)
inside_at (Into' p _ a) f ps = any (nat_eq p) ps && f ps
inside_at n f ps = f ps

-- each Read and each Into stands in the part of a Weak of its place, or its place is among the given ones
abbrev pub is_inside : List ℕ → Node → Bool
is_inside ps n = folded (λ qs. true) (λ f g qs. f qs && g qs) inside_at n ps

-- the places are within the span and distinct, each has one Read or Into, and each of these stands in the part of a Weak of its place
abbrev pub is_placed : Span → Node → Bool
is_placed span n =
    all (is_within span) (places_of n)
    && (are_distinct (places_of n) && (all (is_once (uses_of n)) (places_of n) && is_inside [] n))
