-- What a node consists of.
use Rattle.std.specs.Prelude.{ℕ, ◌+◌, ◌⊎◌, List, [], ◌++◌, Option, Some, None, option_to_list}
use Rattle.pull_nodes.specs.declared.node.Node.{Node}
use Rattle.pull_nodes.specs.declared.node.Node.TheVariants.{Nil, Emit, Raise, Read, Weak', Scope', Append', OnFault', Through', Take', Zip', Merge', Into'}

-- a value of each node: `none` is that of no part, `both` puts those of two parts together, and `own` adds what the node itself is
module _ {ℓ} {A : Type ℓ} (none : A) (both : A → A → A) (own : Node → A → A) where
  abbrev pub folded : Node → A
  folded Nil = own Nil none
  folded (Emit l) = own (Emit l) none
  folded (Raise c) = own (Raise c) none
  folded (Read p) = own (Read p) none
  folded (Weak' p x a) = own (Weak' p x a) (folded a)
  folded (Scope' x a) = own (Scope' x a) (folded a)
  folded (Append' x a y b) = own (Append' x a y b) (both (folded a) (folded b))
  folded (OnFault' x a y b) = own (OnFault' x a y b) (both (folded a) (folded b))
  folded (Through' x a q) = own (Through' x a q) (folded a)
  folded (Take' n x a) = own (Take' n x a) (folded a)
  folded (Zip' x a y b) = own (Zip' x a y b) (both (folded a) (folded b))
  folded (Merge' x a y b) = own (Merge' x a y b) (both (folded a) (folded b))
  folded (Into' p x a) = own (Into' p x a) (folded a)

-- how many nodes it has, with itself
abbrev pub node_count : Node → ℕ
node_count n = folded 0 ◌+◌ (λ m k. k + 1) n

-- one more where the node itself is a Scope
abbrev pub with_scope : Node → ℕ → ℕ
with_scope (Scope' _ a) k = k + 1
with_scope n k = k

-- how many Scope nodes it has
abbrev pub scope_count : Node → ℕ
scope_count n = folded 0 ◌+◌ with_scope n

-- the place that the node itself acquires
abbrev pub acquired_place : Node → Option ℕ
acquired_place (Weak' p _ a) = Some p
acquired_place n = None

-- the place that the node itself reads
abbrev pub read_place : Node → Option ℕ
read_place (Read p) = Some p
read_place n = None

-- the place that the node itself writes
abbrev pub written_place : Node → Option ℕ
written_place (Into' p _ a) = Some p
written_place n = None

-- the place that the node itself reads or writes
abbrev pub used_place : Node → Option ℕ
used_place (Read p) = Some p
used_place (Into' p _ a) = Some p
used_place n = None

-- the places that `own` tells of each of its nodes, from left to right
abbrev pub listed : (Node → Option ℕ) → Node → List ℕ
listed own n = folded [] ◌++◌ (λ m ps. option_to_list (own m) ++ ps) n

-- the places of its Weak nodes
abbrev pub places_of : Node → List ℕ
places_of n = listed acquired_place n

-- the places of its Read nodes
abbrev pub reads_of : Node → List ℕ
reads_of n = listed read_place n

-- the places of its Into nodes
abbrev pub writes_of : Node → List ℕ
writes_of n = listed written_place n

-- the places of its Read and Into nodes
abbrev pub uses_of : Node → List ℕ
uses_of n = listed used_place n

-- the fact, and where there is a place this of it too
abbrev pub AndOf : (ℕ → Type 0) → Option ℕ → Type 0 → Type 0
AndOf P None Q = Q
AndOf P (Some p) Q = P p × Q

-- this holds of each place that `own` tells of its nodes
abbrev pub EachPlace : (Node → Option ℕ) → (ℕ → Type 0) → Node → Type 0
EachPlace own P n = folded (Unit {0}) (λ Q R. Q × R) (λ m Q. AndOf P (own m) Q) n

-- this holds of the place of each of its Read nodes
abbrev pub EachRead : (ℕ → Type 0) → Node → Type 0
EachRead P n = EachPlace read_place P n

-- this holds of the place of each of its Into nodes
abbrev pub EachWrite : (ℕ → Type 0) → Node → Type 0
EachWrite P n = EachPlace written_place P n

-- the fact, or where there is a place this of it
abbrev pub OrOf : (ℕ → Type 0) → Option ℕ → Type 0 → Type 0
OrOf P None Q = Q
OrOf P (Some p) Q = P p ⊎ Q

-- this holds of one of the places that `own` tells of its nodes
abbrev pub SomePlace : (Node → Option ℕ) → (ℕ → Type 0) → Node → Type 0
SomePlace own P n = folded ⊥ ◌⊎◌ (λ m Q. OrOf P (own m) Q) n

-- nothing holds of a Merge, and of another node the fact does
abbrev pub NotMerge : Node → Type 0 → Type 0
NotMerge (Merge' _ a _ b) Q = ⊥
NotMerge n Q = Q

-- it has no Merge node
abbrev pub HasNoMerge : Node → Type 0
HasNoMerge n = folded (Unit {0}) (λ Q R. Q × R) NotMerge n
