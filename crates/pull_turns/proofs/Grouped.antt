-- Which chunks a turn gives of what is grouped.
use Rattle.std.proofs.Common.{ℕ, List, Option, ◌<◌, cond, Bool, true, false, IfSome, arith, Box, Global}
use Rattle.pull_nodes.specs.declared.node.Node.{Node}
use Rattle.pull_nodes.specs.declared.pipe.Pipe.{Pipe}
use Rattle.pull_nodes.specs.declared.pipe.Pipe.TheVariants as pipe
use Rattle.pull_turns.specs.Groups.{GivesAtMost, GivesGroup, Grouped, size_above}
use Rattle.pull_turns.specs.Moves.{IntoTurn, MergeTurn, begins, end_of_sides, side_left, turn_of_first}
use Rattle.stream_sides.specs.Sides.{Sides}
use Rattle.stream_sides.specs.MergeTurns.{MergeTurns}
use Rattle.stream_sides.specs.declared.side.Side.TheVariants.{Left, Right}
use Rattle.pull_turns.specs.declared.rest.Rest.{Rest}
use Rattle.pull_turns.specs.declared.rest.Rest.TheVariants.{Nil, Start, Read, Within', Then', Through', Finishing, Faulty, Groups', Take', Into', Zip', Merge'}
use Rattle.pull_turns.specs.declared.rest.When.{When}
use Rattle.pull_turns.specs.declared.rest.When.TheVariants as when
use Rattle.pull_turns.specs.declared.turn.Turn.{Turn}
use Rattle.pull_turns.specs.declared.turn.Turn.TheVariants as turn

-- the size of groups isn't 0
pub some_size : (whole : Bool) (q : Pipe) → IfSome (size_above whole q) (λ k. 0 < k)
some_size true q = tt
some_size false (pipe.ChunkN n) = omega arith
some_size false q = tt

at_most_none : (k : ℕ) (i j : Bool) → GivesAtMost k (end_of_sides i j)
at_most_none k true true = tt
at_most_none k true false = tt
at_most_none k false j = tt

module _ {F : Type 0} where
  quiet_group : (r : Rest F) → GivesGroup r turn.Quiet
  quiet_group Nil = tt
  quiet_group (Start n) = tt
  quiet_group (Read p from) = tt
  quiet_group (Within' s _ a) = quiet_group a
  quiet_group (Then' v _ a b) = quiet_group a
  quiet_group (Through' _ a q) = tt
  quiet_group (Finishing q) = tt
  quiet_group (Faulty c) = tt
  quiet_group (Groups' n f _ a) = tt
  quiet_group (Take' n _ a) = tt
  quiet_group (Into' p v _ a) = tt
  quiet_group (Zip' z _ a _ b) = tt
  quiet_group (Merge' m _ a _ b) = tt

  pub within_grouped : (c : ℕ) (p q : Box (Unit {0}) Global) (x new : Rest F) (t : Turn) → Grouped x new t → Grouped (Within' c p x) (Within' c q new) t
  within_grouped c p q x new t h = record { most = h.most; group = h.group; waits = h.waits }

  pub then_grouped : (v : When) (p q : Box (Unit {0}) Global) (m : Box Node Global) (x new : Rest F) (t : Turn) → Grouped x new t → Grouped (Then' v p x m) (cond (begins v t) (Start m.value) (Then' v q new m)) (turn_of_first v t)
  then_grouped v p q m x new (turn.Chunk l) h = record { most = λ k i. let j = h.most k i.0 in ((j.0, i.1), j.1); group = h.group; waits = h.waits }
  then_grouped v p q m x new turn.Quiet h = record { most = λ k i. ((((h.most k i.0).0), i.1), tt); group = h.group; waits = h.waits }
  then_grouped when.Done p q m x new turn.Done h = record { most = λ k i. (i.1, tt); group = quiet_group x; waits = tt }
  then_grouped when.Fault p q m x new turn.Done h = record { most = λ k i. ((((h.most k i.0).0), i.1), tt); group = h.group; waits = h.waits }
  then_grouped when.Done p q m x new (turn.Fault c) h = record { most = λ k i. ((((h.most k i.0).0), i.1), tt); group = h.group; waits = h.waits }
  then_grouped when.Fault p q m x new (turn.Fault c) h = record { most = λ k i. (i.1, tt); group = quiet_group x; waits = tt }

  pub into_grouped : (i : ℕ) (v z : Option (List ℕ)) (p q : Box (Unit {0}) Global) (x new : Rest F) (t u : Turn) → IntoTurn t u → Grouped (Into' i v p x) (Into' i z q new) u
  into_grouped i v z p q x new (turn.Chunk l) (turn.Chunk m) w = absurd w
  into_grouped i v z p q x new (turn.Chunk l) turn.Quiet w = record { most = λ k j. (tt, tt); group = tt; waits = tt }
  into_grouped i v z p q x new (turn.Chunk l) turn.Done w = absurd w
  into_grouped i v z p q x new (turn.Chunk l) (turn.Fault c) w = record { most = λ k j. (tt, tt); group = tt; waits = tt }
  into_grouped i v z p q x new turn.Quiet u w = rw w (record { most = λ k j. (tt, tt); group = tt; waits = tt })
  into_grouped i v z p q x new turn.Done u w = rw w (record { most = λ k j. (tt, tt); group = tt; waits = tt })
  into_grouped i v z p q x new (turn.Fault c) u w = rw w (record { most = λ k j. (tt, tt); group = tt; waits = tt })

  pub zip_grouped : (z w : Sides) (p q u v : Box (Unit {0}) Global) (x y x' y' : Rest F) (t : Turn) → Grouped (Zip' z p x q y) (Zip' w u x' v y') t
  zip_grouped z w p q u v x y x' y' t = record { most = λ k i. absurd i; group = tt; waits = tt }

  pub merge_left_grouped : (m k : MergeTurns) (p q u v : Box (Unit {0}) Global) (x new y : Rest F) (t o : Turn) → MergeTurn m Left k t o → Grouped x new t → Grouped (Merge' m p x q y) (Merge' k u (side_left t new) v y) o
  merge_left_grouped m k p q u v x new y (turn.Chunk l) o is h = rw is.1 (record { most = λ j i. let n = h.most j i.0 in ((n.0, i.1), n.1); group = tt; waits = tt })
  merge_left_grouped m k p q u v x new y turn.Quiet o is h = rw is.1 (record { most = λ j i. (((h.most j i.0).0, i.1), tt); group = tt; waits = tt })
  merge_left_grouped m k p q u v x new y turn.Done o is h = rw is.1 (record { most = λ j i. ((tt, i.1), at_most_none j true m.right_ended); group = tt; waits = tt })
  merge_left_grouped m k p q u v x new y (turn.Fault c) o is h = rw is.1 (record { most = λ j i. (((h.most j i.0).0, i.1), tt); group = tt; waits = tt })

  pub merge_right_grouped : (m k : MergeTurns) (p q u v : Box (Unit {0}) Global) (x y new : Rest F) (t o : Turn) → MergeTurn m Right k t o → Grouped y new t → Grouped (Merge' m p x q y) (Merge' k u x v (side_left t new)) o
  merge_right_grouped m k p q u v x y new (turn.Chunk l) o is h = rw is.1 (record { most = λ j i. let n = h.most j i.1 in ((i.0, n.0), n.1); group = tt; waits = tt })
  merge_right_grouped m k p q u v x y new turn.Quiet o is h = rw is.1 (record { most = λ j i. ((i.0, (h.most j i.1).0), tt); group = tt; waits = tt })
  merge_right_grouped m k p q u v x y new turn.Done o is h = rw is.1 (record { most = λ j i. ((i.0, tt), at_most_none j m.left_ended true); group = tt; waits = tt })
  merge_right_grouped m k p q u v x y new (turn.Fault c) o is h = rw is.1 (record { most = λ j i. ((i.0, (h.most j i.1).0), tt); group = tt; waits = tt })
