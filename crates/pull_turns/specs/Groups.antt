-- Groups: the loads of a pipe that gives groups leave the run group by group, where no step stands above it. A step gets each load whole.
use Rattle.std.specs.Prelude.{◌≡◌, ℕ, ◌<◌, ◌≤◌, ◌^◌, Bool, true, false, List, [], ◌++◌, take, drop, length, Option, Some, None, IfSome, Box}
use Rattle.std.specs.Global.{Global}
use Rattle.chunk_core.specs.declared.load.Load.{Load}
use Rattle.chunk_core.specs.Elements.{Element, LoadKind, elements, kind_of}
use Rattle.pull_nodes.specs.Pipes.{groups_of}
use Rattle.pull_nodes.specs.Shape.{folded}
use Rattle.pull_nodes.specs.declared.node.Node.{Node}
use Rattle.pull_nodes.specs.declared.node.Node.TheVariants as node
use Rattle.pull_nodes.specs.declared.pipe.Pipe.{Pipe}
use Rattle.stream_sides.specs.MergeTurns.{MergeTurns}
use Rattle.pull_turns.specs.Shape.{rest_folded}
use Rattle.pull_turns.specs.declared.rest.Rest.{Rest}
use Rattle.pull_turns.specs.declared.rest.Rest.TheVariants.{Nil, Start, Read, Within', Then', Through', Finishing, Faulty, Groups', Take', Into', Zip', Merge'}
use Rattle.pull_turns.specs.declared.rest.When.{When}
use Rattle.pull_turns.specs.declared.turn.Turn.{Turn}
use Rattle.pull_turns.specs.declared.turn.Turn.TheVariants as turn

-- the elements of the groups that wait
abbrev pub waiting : Option Load → List Element
waiting None = []
waiting (Some l) = elements l

-- the groups that wait have elements
abbrev pub HasElements : Option Load → Type 0
HasElements None = Unit {0}
HasElements (Some l) = 0 < length (elements l)

-- the groups that wait are of this kind
abbrev pub IsOfKind : LoadKind → Option Load → Type 0
IsOfKind k None = Unit {0}
IsOfKind k (Some l) = kind_of l ≡ k

-- the first group of n of a load, or all where there are no more elements; the groups behind it wait
pub record IsFirstGroup (n : ℕ) (l group : Load) (rest : Option Load) : Type 0 where
  pub front : elements group ≡ take n (elements l)
  pub behind : waiting rest ≡ drop n (elements l)
  pub kind : kind_of group ≡ kind_of l
  pub some : HasElements rest
  pub kinds : IsOfKind (kind_of l) rest
  pub few : length (waiting rest) < 2 ^ 64

-- of a load the first group is given, and the others wait; all else is passed on
abbrev pub GroupedOf : ℕ → Option Load → Option Load → Turn → Turn → Type 0
GroupedOf n old new (turn.Chunk l) (turn.Chunk m) = IsFirstGroup n l m new
GroupedOf n old new (turn.Chunk l) turn.Quiet = ⊥
GroupedOf n old new (turn.Chunk l) turn.Done = ⊥
GroupedOf n old new (turn.Chunk l) (turn.Fault c) = ⊥
GroupedOf n old new t u = (new ≡ old) × (u ≡ t)

-- the size of the groups that leave the run one by one: none where a step gets the loads whole
abbrev pub size_above : Bool → Pipe → Option ℕ
size_above true q = None
size_above false q = groups_of q

module _ {F : Type 0} where
  -- round what is left stands a part that gives groups of this size one by one; no group waits
  abbrev pub IsInGroups : Option ℕ → Rest F → Rest F → Type 0
  IsInGroups None x y = y ≡ x
  IsInGroups (Some n) x y = (p : Box (Unit {0}) Global) × (y ≡ Groups' n None p x)

  -- nothing holds of what gives groups, and of another part the fact does
  abbrev pub NotGroups : Rest F → Type 0 → Type 0
  NotGroups (Groups' n f _ a) Q = ⊥
  NotGroups r Q = Q

  -- no part of what is left is grouped
  abbrev pub HasNoGroups : Rest F → Type 0
  HasNoGroups r = rest_folded (Unit {0}) (λ Q R. Q × R) (λ n. Unit {0}) NotGroups r

-- groups of this size, where there are groups, have at most k elements
abbrev pub GroupIsWithin : ℕ → Option ℕ → Type 0
GroupIsWithin k None = ⊥
GroupIsWithin k (Some n) = n ≤ k

-- what a node's own elements ask, where this is asked of its parts
abbrev pub IsGroupedAt : ℕ → Node → Type 0 → Type 0
IsGroupedAt k (node.Emit l) Q = length (elements l) ≤ k
IsGroupedAt k (node.Read p) Q = ⊥
IsGroupedAt k (node.Through' _ a q) Q = GroupIsWithin k (groups_of q)
IsGroupedAt k (node.Take' n _ a) Q = ⊥
IsGroupedAt k (node.Into' p _ a) Q = Unit {0}
IsGroupedAt k (node.Zip' _ a _ b) Q = ⊥
IsGroupedAt k n Q = Q

-- each part of the node that gives elements gives at most k in a chunk, by a pipe that groups or by a load that is no longer
abbrev pub IsGroupedOf : ℕ → Node → Type 0
IsGroupedOf k n = folded (Unit {0}) (λ Q R. Q × R) (IsGroupedAt k) n

-- the chunk has at most k elements
abbrev pub GivesAtMost : ℕ → Turn → Type 0
GivesAtMost k (turn.Chunk l) = length (elements l) ≤ k
GivesAtMost k turn.Quiet = Unit {0}
GivesAtMost k turn.Done = Unit {0}
GivesAtMost k (turn.Fault c) = Unit {0}

-- the turn gave a group of n
abbrev pub GaveGroupOf : Turn → ℕ → Type 0
GaveGroupOf (turn.Chunk l) n = length (elements l) ≡ n
GaveGroupOf turn.Quiet n = ⊥
GaveGroupOf turn.Done n = ⊥
GaveGroupOf (turn.Fault c) n = ⊥

module _ {F : Type 0} where
  -- the same of a part of what is left
  abbrev pub IsRestGroupedAt : ℕ → Rest F → Type 0 → Type 0
  IsRestGroupedAt k (Read p from) Q = ⊥
  IsRestGroupedAt k (Through' _ a q) Q = ⊥
  IsRestGroupedAt k (Finishing q) Q = ⊥
  IsRestGroupedAt k (Groups' n f _ a) Q = n ≤ k
  IsRestGroupedAt k (Take' n _ a) Q = ⊥
  IsRestGroupedAt k (Into' p v _ a) Q = Unit {0}
  IsRestGroupedAt k (Zip' z _ a _ b) Q = ⊥
  IsRestGroupedAt k r Q = Q

  -- the same of what is left
  abbrev pub IsGrouped : ℕ → Rest F → Type 0
  IsGrouped k r = rest_folded (Unit {0}) (λ Q R. Q × R) (IsGroupedOf k) (IsRestGroupedAt k) r

  -- groups of n wait only where Q n; below a step none wait, and in a side of a merge they may wait while the other side is asked
  abbrev pub WaitsOnly : (ℕ → Type 0) → Rest F → Type 0
  WaitsOnly Q (Within' s _ a) = WaitsOnly Q a
  WaitsOnly Q (Then' w _ a b) = WaitsOnly Q a
  WaitsOnly Q (Groups' n f _ a) = IfSome f (λ l. Q n)
  WaitsOnly Q r = Unit {0}

  -- a chunk that comes of groups of n has at most n elements, whatever the other parts may give
  abbrev pub GivesGroup : Rest F → Turn → Type 0
  GivesGroup (Within' s _ a) t = GivesGroup a t
  GivesGroup (Then' w _ a b) t = GivesGroup a t
  GivesGroup (Groups' n f _ a) t = GivesAtMost n t
  GivesGroup r t = Unit {0}

  -- where each part gives at most k elements in a chunk, the turn did and what is left does; groups come one by one, and wait only behind a chunk that is a whole group
  pub record Grouped (old new : Rest F) (t : Turn) : Type 0 where
    pub most : (k : ℕ) → IsGrouped k old → IsGrouped k new × GivesAtMost k t
    pub group : GivesGroup old t
    pub waits : WaitsOnly (GaveGroupOf t) new

  -- of the groups that waited these elements came, and the others wait; below nothing was done
  pub data GaveGroup (xs : List Element) : Rest F → Rest F → Type 0 where
    group : (n : ℕ) (p q : Box (Unit {0}) Global) (a : Rest F) (l : Load) (g : Option Load) → elements l ≡ xs ++ waiting g → GaveGroup xs (Groups' n (Some l) p a) (Groups' n g q a)
    group_within : (c : ℕ) (p q : Box (Unit {0}) Global) (a b : Rest F) → GaveGroup xs a b → GaveGroup xs (Within' c p a) (Within' c q b)
    group_first : (w : When) (p q : Box (Unit {0}) Global) (a b : Rest F) (m : Box Node Global) → GaveGroup xs a b → GaveGroup xs (Then' w p a m) (Then' w q b m)
    group_left : (m n : MergeTurns) (p q u v : Box (Unit {0}) Global) (a b y : Rest F) → GaveGroup xs a b → GaveGroup xs (Merge' m p a q y) (Merge' n u b v y)
    group_right : (m n : MergeTurns) (p q u v : Box (Unit {0}) Global) (x a b : Rest F) → GaveGroup xs a b → GaveGroup xs (Merge' m p x q a) (Merge' n u x v b)
