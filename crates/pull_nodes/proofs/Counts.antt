-- A node has at least as many nodes as places and scopes.
use Rattle.std.proofs.Common.{ℕ, ◌+◌, ◌≤◌, List, [], ◌++◌, length, length-append, Option, Some, None, arith}
use Rattle.std.specs.Prelude.{option_to_list}
use Rattle.pull_nodes.specs.Shape.{node_count, scope_count, with_scope, listed, places_of, acquired_place}
use Rattle.pull_nodes.specs.declared.node.Node.{Node}
use Rattle.pull_nodes.specs.declared.node.Node.TheVariants.{Scope'}
use Rattle.pull_nodes.proofs.Folds.{side_by_side}

one_more : (o : Option ℕ) (ps : List ℕ) (k : ℕ) → length ps ≤ k → length (option_to_list o ++ ps) ≤ k + 1
one_more None ps k h = omega (arith, h)
one_more (Some p) ps k h = omega (arith, h)

pub listed_le : (own : Node → Option ℕ) (n : Node) → length (listed own n) ≤ node_count n
listed_le own =
    side_by_side (λ ps k. length ps ≤ k) [] 0 ◌++◌ ◌+◌ (λ m ps. option_to_list (own m) ++ ps) (λ m k. k + 1)
    (omega arith) (λ ps qs j k h i. omega (arith, h, i, length-append ps qs)) (λ m ps k. one_more (own m) ps k)

pub places_le : (n : Node) → length (places_of n) ≤ node_count n
places_le = listed_le acquired_place

with_scope_le : (n : Node) (j k : ℕ) → j ≤ k → with_scope n j ≤ k + 1
with_scope_le (Scope' _ a) j k h = omega (arith, h)
with_scope_le n j k h = omega (arith, h)

pub scopes_le : (n : Node) → scope_count n ≤ node_count n
scopes_le = side_by_side (λ j k. j ≤ k) 0 0 ◌+◌ ◌+◌ with_scope (λ m k. k + 1) (omega arith) (λ i j k l h g. omega (arith, h, g)) with_scope_le
