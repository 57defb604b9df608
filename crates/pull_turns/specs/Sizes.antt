-- In pieces of which size elements come where no pipe is on the way. A pipe may give more than it gets.
use Rattle.std.specs.Prelude.{ℕ, ◌≤◌, max, List, [], length}
use Rattle.chunk_core.specs.Elements.{Element, elements}
use Rattle.pull_nodes.specs.Shape.{folded}
use Rattle.pull_nodes.specs.declared.node.Node.{Node}
use Rattle.pull_nodes.specs.declared.node.Node.TheVariants as node
use Rattle.pull_turns.specs.Shape.{rest_folded}
use Rattle.pull_turns.specs.declared.rest.Rest.{Rest}
use Rattle.pull_turns.specs.declared.rest.Rest.TheVariants.{Nil, Start, Read, Within', Then', Through', Finishing, Faulty, Groups', Take', Into', Zip', Merge'}
use Rattle.pull_turns.specs.declared.runner.Unconsed.{Unconsed}
use Rattle.pull_turns.specs.declared.runner.Unconsed.TheVariants as unconsed
use Rattle.pull_turns.specs.declared.turn.Turn.{Turn}
use Rattle.pull_turns.specs.declared.turn.Turn.TheVariants as turn

-- nothing holds of a pipe, and of another node the fact does
abbrev pub NotPipe : Node → Type 0 → Type 0
NotPipe (node.Through' _ a q) Q = ⊥
NotPipe n Q = Q

-- no pipe is in the node
abbrev pub HasNoPipeOf : Node → Type 0
HasNoPipeOf n = folded (Unit {0}) (λ Q R. Q × R) NotPipe n

-- nothing holds of what is left of a pipe, and of another part the fact does
abbrev pub NotOfPipe : {F : Type 0} → Rest F → Type 0 → Type 0
NotOfPipe (Through' _ a q) Q = ⊥
NotOfPipe (Finishing q) Q = ⊥
NotOfPipe (Faulty c) Q = ⊥
NotOfPipe (Groups' n f _ a) Q = ⊥
NotOfPipe r Q = Q

-- no pipe is in what is left
abbrev pub HasNoPipe : {F : Type 0} → Rest F → Type 0
HasNoPipe r = rest_folded (Unit {0}) (λ Q R. Q × R) HasNoPipeOf NotOfPipe r

-- the most elements of one piece that a node makes itself, or else passes on
abbrev pub widest_at : ℕ → Node → ℕ → ℕ
widest_at n (node.Emit l) k = length (elements l)
widest_at n (node.Read p) k = n
widest_at n (node.Into' p _ a) k = 0
widest_at n m k = k

-- the most elements of one piece of a node, where a read has at most n bytes
abbrev pub widest_of : ℕ → Node → ℕ
widest_of n m = folded 0 max (widest_at n) m

-- the same of a part of what is left
abbrev pub rest_widest_at : {F : Type 0} → ℕ → Rest F → ℕ → ℕ
rest_widest_at n (Read p from) k = n
rest_widest_at n (Groups' j f _ a) k = j
rest_widest_at n (Into' p v _ a) k = 0
rest_widest_at n r k = k

-- the same of what is left
abbrev pub widest : {F : Type 0} → ℕ → Rest F → ℕ
widest n r = rest_folded 0 max (widest_of n) (rest_widest_at n) r

-- the elements that a turn gives
abbrev pub given : Turn → List Element
given (turn.Chunk l) = elements l
given turn.Quiet = []
given turn.Done = []
given (turn.Fault c) = []

-- the elements that come first
abbrev pub given_first : Unconsed → List Element
given_first (unconsed.Chunk l) = elements l
given_first (unconsed.End h) = []
given_first unconsed.Again = []

-- no more elements came than one piece has, and pieces stay as small, still without a pipe
pub record Sized {F : Type 0} (n : ℕ) (old new : Rest F) (xs : List Element) : Type 0 where
  pub plain : HasNoPipe new
  pub piece : length xs ≤ widest n old
  pub pieces : widest n new ≤ widest n old
