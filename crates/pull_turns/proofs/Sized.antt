-- The sizes of what a turn gives.
use Rattle.std.proofs.Common.{◌≡◌, Bool, true, false, ℕ, zero, suc, ◌≤◌, List, [], ◌∷◌, ◌++◌, length, length-append, Option, cond, refl, ap, ◌∙◌, arith, Box, Global}
use Rattle.std.proofs.lemmas.List.{length-take, length-map}
use Rattle.chunk_core.specs.declared.code.Code.TheVariants as code
use Rattle.chunk_core.specs.declared.load.Load.{Load}
use Rattle.chunk_core.specs.Elements.{Element, Byte, elements}
use Rattle.pull_turns.specs.Around.{Around}
use Rattle.pull_turns.specs.Moves.{begins, turn_of_first, end_of_sides, giving, load_or_quiet, side_left, IntoTurn, MergeTurn, PieceTurn, ReadsPiece, TakenOf, ZipTurn}
use Rattle.pull_turns.specs.Sizes.{given, widest, HasNoPipe, HasNoPipeOf, Sized}
use Rattle.pull_nodes.specs.Pairs.{pairs_of}
use Rattle.stream_sides.specs.Sides.{Sides}
use Rattle.stream_sides.specs.MergeTurns.{MergeTurns}
use Rattle.stream_sides.specs.declared.side.Side.TheVariants.{Left, Right}
use Rattle.pull_turns.specs.declared.rest.Rest.{Rest}
use Rattle.pull_turns.specs.declared.rest.Rest.TheVariants.{Nil, Start, Read, Then', Take', Into', Zip', Merge'}
use Rattle.pull_turns.specs.declared.rest.When.{When}
use Rattle.pull_turns.specs.declared.rest.When.TheVariants as when
use Rattle.pull_turns.specs.declared.turn.Turn.{Turn}
use Rattle.pull_turns.specs.declared.turn.Turn.TheVariants as turn
use Rattle.pull_nodes.specs.declared.node.Node.{Node}
use Rattle.pull_nodes.specs.declared.node.Node.TheVariants as node

-- no more pairs than one side has elements
no_longer_left : (xs ys : List Element) → length (pairs_of xs ys) ≤ length xs
no_longer_left [] ys = omega arith
no_longer_left (x ∷ xs) [] = omega arith
no_longer_left (x ∷ xs) (y ∷ ys) = omega (arith, no_longer_left xs ys)

no_longer_right : (xs ys : List Element) → length (pairs_of xs ys) ≤ length ys
no_longer_right [] ys = omega arith
no_longer_right (x ∷ xs) [] = omega arith
no_longer_right (x ∷ xs) (y ∷ ys) = omega (arith, no_longer_right xs ys)

given_none : (i j : Bool) → given (end_of_sides i j) ≡ []
given_none true true = refl
given_none true false = refl
given_none false j = refl

module _ {F : Type 0} where
  giving_sized : (k : ℕ) (l : Load) → length (elements l) ≡ k → (n : ℕ) → Sized {F = F} n (Start (node.Emit l)) Nil (given (load_or_quiet k l))
  giving_sized zero l e n = record { plain = tt; piece = omega arith; pieces = omega arith }
  giving_sized (suc k) l e n = record { plain = tt; piece = omega arith; pieces = omega arith }

  pub emit_sized : (n : ℕ) (l : Load) → Sized {F = F} n (Start (node.Emit l)) Nil (given (giving l))
  emit_sized n l = giving_sized (length (elements l)) l refl n

  pub then_sized : (v : When) (n : ℕ) (p q : Box (Unit {0}) Global) (m : Box Node Global) (x new : Rest F) (t : Turn) → HasNoPipeOf m.value → Sized n x new (given t) → Sized n (Then' v p x m) (cond (begins v t) (Start m.value) (Then' v q new m)) (given (turn_of_first v t))
  then_sized v n p q m x new (turn.Chunk l) f h = record { plain = (h.plain, f); piece = omega (arith, h.piece); pieces = omega (arith, h.pieces) }
  then_sized v n p q m x new turn.Quiet f h = record { plain = (h.plain, f); piece = omega (arith, h.piece); pieces = omega (arith, h.pieces) }
  then_sized when.Done n p q m x new turn.Done f h = record { plain = f; piece = omega arith; pieces = omega arith }
  then_sized when.Fault n p q m x new turn.Done f h = record { plain = (h.plain, f); piece = omega (arith, h.piece); pieces = omega (arith, h.pieces) }
  then_sized when.Done n p q m x new (turn.Fault c) f h = record { plain = (h.plain, f); piece = omega (arith, h.piece); pieces = omega (arith, h.pieces) }
  then_sized when.Fault n p q m x new (turn.Fault c) f h = record { plain = f; piece = omega arith; pieces = omega arith }

  pub take_sized : (n k j : ℕ) (p q : _) (x new : Rest F) (t u : Turn) → TakenOf k j t u → Sized n x new (given t) → Sized n (Take' k p x) (Take' j q new) (given u)
  take_sized n k j p q x new (turn.Chunk l) (turn.Chunk m) w h =
      let e = ap (λ (xs : List Element). length xs) w.0 in
      let f = length-take k (elements l) in
      record { plain = h.plain; piece = omega (arith, h.piece, e, f); pieces = h.pieces }
  take_sized n k j p q x new (turn.Chunk l) turn.Quiet w h = absurd w
  take_sized n k j p q x new (turn.Chunk l) turn.Done w h = absurd w
  take_sized n k j p q x new (turn.Chunk l) (turn.Fault c) w h = absurd w
  take_sized n k j p q x new turn.Quiet u w h = record { plain = h.plain; piece = rw w.1 h.piece; pieces = h.pieces }
  take_sized n k j p q x new turn.Done u w h = record { plain = h.plain; piece = rw w.1 h.piece; pieces = h.pieces }
  take_sized n k j p q x new (turn.Fault c) u w h = record { plain = h.plain; piece = rw w.1 h.piece; pieces = h.pieces }

  pub into_sized : (n i : ℕ) (v z : Option (List ℕ)) (p q : _) (x new : Rest F) (t u : Turn) → IntoTurn t u → Sized n x new (given t) → Sized n (Into' i v p x) (Into' i z q new) (given u)
  into_sized n i v z p q x new (turn.Chunk l) (turn.Chunk m) w h = absurd w
  into_sized n i v z p q x new (turn.Chunk l) turn.Quiet w h = record { plain = h.plain; piece = omega arith; pieces = omega arith }
  into_sized n i v z p q x new (turn.Chunk l) turn.Done w h = absurd w
  into_sized n i v z p q x new (turn.Chunk l) (turn.Fault c) w h = record { plain = h.plain; piece = omega arith; pieces = omega arith }
  into_sized n i v z p q x new turn.Quiet u w h = rw w (record { plain = h.plain; piece = omega arith; pieces = omega arith })
  into_sized n i v z p q x new turn.Done u w h = rw w (record { plain = h.plain; piece = omega arith; pieces = omega arith })
  into_sized n i v z p q x new (turn.Fault c) u w h = rw w (record { plain = h.plain; piece = omega arith; pieces = omega arith })

  load_sized : (n k : ℕ) (old new : Rest F) (l : Load) → HasNoPipe new → length (elements l) ≤ widest n old → widest n new ≤ widest n old → Sized n old new (given (load_or_quiet k l))
  load_sized n zero old new l plain piece pieces = record { plain = plain; piece = omega arith; pieces = pieces }
  load_sized n (suc k) old new l plain piece pieces = record { plain = plain; piece = piece; pieces = pieces }

  pub zip_left_sized : (n : ℕ) (z w : Sides) (p q u v : Box (Unit {0}) Global) (x new y : Rest F) (t o : Turn) → z.left ≡ [] → HasNoPipe y → ZipTurn z Left w t o → Sized n x new (given t) → Sized n (Zip' z p x q y) (Zip' w u new v y) (given o)
  zip_left_sized n z w p q u v x new y (turn.Chunk l) o none f (m, pairs, rows, rest, is) h =
      let few = no_longer_left (z.left ++ elements l) z.right in
      rw is (load_sized n (length (elements m)) _ _ m (h.plain, f) (omega (arith, ap length pairs, few, length-append z.left (elements l), ap length none, h.piece)) (omega (arith, h.pieces)))
  zip_left_sized n z w p q u v x new y turn.Quiet o none f is h = rw is.1 (record { plain = (h.plain, f); piece = omega arith; pieces = omega (arith, h.pieces) })
  zip_left_sized n z w p q u v x new y turn.Done o none f is h = rw is.1 (record { plain = (h.plain, f); piece = omega arith; pieces = omega (arith, h.pieces) })
  zip_left_sized n z w p q u v x new y (turn.Fault c) o none f is h = rw is.1 (record { plain = (h.plain, f); piece = omega arith; pieces = omega (arith, h.pieces) })

  pub zip_right_sized : (n : ℕ) (z w : Sides) (p q u v : Box (Unit {0}) Global) (x y new : Rest F) (t o : Turn) → z.right ≡ [] → HasNoPipe x → ZipTurn z Right w t o → Sized n y new (given t) → Sized n (Zip' z p x q y) (Zip' w u x v new) (given o)
  zip_right_sized n z w p q u v x y new (turn.Chunk l) o none f (m, pairs, rows, rest, is) h =
      let few = no_longer_right z.left (z.right ++ elements l) in
      rw is (load_sized n (length (elements m)) _ _ m (f, h.plain) (omega (arith, ap length pairs, few, length-append z.right (elements l), ap length none, h.piece)) (omega (arith, h.pieces)))
  zip_right_sized n z w p q u v x y new turn.Quiet o none f is h = rw is.1 (record { plain = (f, h.plain); piece = omega arith; pieces = omega (arith, h.pieces) })
  zip_right_sized n z w p q u v x y new turn.Done o none f is h = rw is.1 (record { plain = (f, h.plain); piece = omega arith; pieces = omega (arith, h.pieces) })
  zip_right_sized n z w p q u v x y new (turn.Fault c) o none f is h = rw is.1 (record { plain = (f, h.plain); piece = omega arith; pieces = omega (arith, h.pieces) })

  pub merge_left_sized : (n : ℕ) (m k : MergeTurns) (p q u v : Box (Unit {0}) Global) (x new y : Rest F) (t o : Turn) → HasNoPipe y → MergeTurn m Left k t o → Sized n x new (given t) → Sized n (Merge' m p x q y) (Merge' k u (side_left t new) v y) (given o)
  merge_left_sized n m k p q u v x new y (turn.Chunk l) o f is h = rw is.1 (record { plain = (h.plain, f); piece = omega (arith, h.piece); pieces = omega (arith, h.pieces) })
  merge_left_sized n m k p q u v x new y turn.Quiet o f is h = rw is.1 (record { plain = (h.plain, f); piece = omega arith; pieces = omega (arith, h.pieces) })
  merge_left_sized n m k p q u v x new y turn.Done o f is h = rw (is.1, given_none true m.right_ended) (record { plain = (tt, f); piece = omega arith; pieces = omega arith })
  merge_left_sized n m k p q u v x new y (turn.Fault c) o f is h = rw is.1 (record { plain = (h.plain, f); piece = omega arith; pieces = omega (arith, h.pieces) })

  pub merge_right_sized : (n : ℕ) (m k : MergeTurns) (p q u v : Box (Unit {0}) Global) (x y new : Rest F) (t o : Turn) → HasNoPipe x → MergeTurn m Right k t o → Sized n y new (given t) → Sized n (Merge' m p x q y) (Merge' k u x v (side_left t new)) (given o)
  merge_right_sized n m k p q u v x y new (turn.Chunk l) o f is h = rw is.1 (record { plain = (f, h.plain); piece = omega (arith, h.piece); pieces = omega (arith, h.pieces) })
  merge_right_sized n m k p q u v x y new turn.Quiet o f is h = rw is.1 (record { plain = (f, h.plain); piece = omega arith; pieces = omega (arith, h.pieces) })
  merge_right_sized n m k p q u v x y new turn.Done o f is h = rw (is.1, given_none m.left_ended true) (record { plain = (f, tt); piece = omega arith; pieces = omega arith })
  merge_right_sized n m k p q u v x y new (turn.Fault c) o f is h = rw is.1 (record { plain = (f, h.plain); piece = omega arith; pieces = omega (arith, h.pieces) })

  piece_sized : (a b : Around) (n p from to : ℕ) (t : Turn) → PieceTurn a b n p from to t → Sized {F = F} n (Read p from) (Read p to) (given t)
  piece_sized a b n p from to (turn.Chunk l) h =
      let e = ap (λ (xs : List Element). length xs) h.1 ∙ length-map h.0 Byte in
      record { plain = tt; piece = omega (arith, e, h.3); pieces = omega arith }
  piece_sized a b n p from to turn.Quiet h = absurd h
  piece_sized a b n p from to turn.Done h = record { plain = tt; piece = omega arith; pieces = omega arith }
  piece_sized a b n p from to (turn.Fault code.Endless) h = record { plain = tt; piece = omega arith; pieces = omega arith }
  piece_sized a b n p from to (turn.Fault code.Read) h = record { plain = tt; piece = omega arith; pieces = omega arith }
  piece_sized a b n p from to (turn.Fault _) h = absurd h

  pub read_sized : (a b : Around) (n p from to : ℕ) (t : Turn) → ReadsPiece a b n p from to t → Sized {F = F} n (Read p from) (Read p to) (given t)
  read_sized a b n p from to t h = piece_sized a b n p from to t h.piece

-- Several turns.

pub sized_none : {F : Type 0} (n : ℕ) (r : Rest F) → HasNoPipe r → Sized n r r []
sized_none n r f = record { plain = f; piece = omega arith; pieces = omega arith }

pub sized_then : {F : Type 0} (n : ℕ) (a b c : Rest F) (xs : List Element) → Sized n a b [] → Sized n b c xs → Sized n a c xs
sized_then n a b c xs h k = record { plain = k.plain; piece = omega (arith, k.piece, h.pieces); pieces = omega (arith, k.pieces, h.pieces) }
