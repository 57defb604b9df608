-- The work that is left after a turn.
use Rattle.std.proofs.Common.{◌≡◌, Bool, true, false, ℕ, zero, suc, ◌^◌, ◌<◌, ◌≤◌, List, length, Option, Some, None, refl, sym, ap, subst, cond, arith, length-append, Box, Global}
use Rattle.std.proofs.lemmas.List.{length-drop}
use Rattle.chunk_core.specs.declared.code.Code.{Code}
use Rattle.chunk_core.specs.declared.feed.Fed.{Fed}
use Rattle.chunk_core.specs.declared.feed.Fed.TheVariants as fed
use Rattle.chunk_core.specs.declared.load.Load.{Load}
use Rattle.chunk_core.specs.Elements.{Element, LoadKind, elements}
use Rattle.pull_nodes.specs.Shape.{uses_of}
use Rattle.pull_nodes.specs.declared.node.Node.{Node}
use Rattle.pull_nodes.specs.declared.node.Node.TheVariants as node
use Rattle.pull_nodes.specs.declared.pipe.Pipe.{Pipe}
use Rattle.pull_turns.specs.Around.{Around}
use Rattle.pull_turns.specs.Groups.{GroupedOf, HasNoGroups, IsFirstGroup, IsInGroups, waiting}
use Rattle.pull_turns.specs.Moves.{IntoTurn, MergeTurn, PieceTurn, ReadsPiece, TakenOf, ZipTurn, begins, end_of_sides, side_left, turn_of_first}
use Rattle.pull_turns.specs.Passing.{PipeGaveMore, Passes, after_fed, after_pipe, load_or_fault, same_or_faulty, turn_of_fed}
use Rattle.pull_turns.specs.Piping.{PipesFit, StateMeaning}
use Rattle.pull_turns.specs.Turned.{GoesOn}
use Rattle.pull_turns.specs.Work.{Lessens, groups_left, work_left}
use Rattle.pull_turns.specs.declared.piping.After.{After}
use Rattle.pull_turns.specs.declared.piping.After.TheVariants as after
use Rattle.stream_sides.specs.Sides.{Sides}
use Rattle.stream_sides.specs.MergeTurns.{MergeTurns, with_ended}
use Rattle.stream_sides.specs.declared.side.Side.TheVariants.{Left, Right}
use Rattle.pull_turns.specs.declared.rest.Rest.{Rest}
use Rattle.pull_turns.specs.declared.rest.Rest.TheVariants.{Nil, Start, Read, Within', Then', Through', Finishing, Faulty, Groups', Take', Into', Zip', Merge'}
use Rattle.pull_turns.specs.declared.rest.When.{When}
use Rattle.pull_turns.specs.declared.rest.When.TheVariants as when
use Rattle.pull_turns.specs.declared.turn.Turn.{Turn}
use Rattle.pull_turns.specs.declared.turn.Turn.TheVariants as turn

module _ {F : Type 0} (due : F → ℕ) where
  -- where no part is grouped, no group waits
  no_groups_left : (r : Rest F) → HasNoGroups r → groups_left r ≡ 0
  no_groups_left Nil h = refl
  no_groups_left (Start n) h = refl
  no_groups_left (Read p from) h = refl
  no_groups_left (Within' s _ a) h = no_groups_left a h
  no_groups_left (Then' v _ a b) h = omega (arith, no_groups_left a h.0)
  no_groups_left (Through' _ a q) h = no_groups_left a h
  no_groups_left (Finishing q) h = refl
  no_groups_left (Faulty c) h = refl
  no_groups_left (Groups' n f _ a) h = absurd h
  no_groups_left (Take' n _ a) h = no_groups_left a h
  no_groups_left (Into' p v _ a) h = no_groups_left a h
  no_groups_left (Zip' z _ a _ b) h = omega (arith, no_groups_left a h.0, no_groups_left b h.1)
  no_groups_left (Merge' m _ a _ b) h = omega (arith, no_groups_left a h.0, no_groups_left b h.1)

  pub emit_work : (l : Load) (t : Turn) → Lessens due (Start (node.Emit l)) Nil t
  emit_work l t = record { falls = λ g. omega arith }

  pub append_enter_work : (p q r : Box (Unit {0}) Global) (x : Node) (b : Box Node Global) → Lessens due (Start (node.Append' p x q b.value)) (Then' when.Done r (Start x) b) turn.Quiet
  append_enter_work p q r x b = record { falls = λ g. omega (arith, length-append (uses_of x) (uses_of b.value)) }

  pub guard_enter_work : (p q r : Box (Unit {0}) Global) (x : Node) (b : Box Node Global) → Lessens due (Start (node.OnFault' p x q b.value)) (Then' when.Fault r (Start x) b) turn.Quiet
  guard_enter_work p q r x b = record { falls = λ g. omega (arith, length-append (uses_of x) (uses_of b.value)) }

  through_enter_in : (p r : Box (Unit {0}) Global) (x : Node) (pipe : Pipe) (q : F) → work_left due (Through' r (Start x) q) < work_left due (Start (node.Through' p x pipe))
  through_enter_in p r x pipe q = omega arith

  pub through_enter_work : (p r : Box (Unit {0}) Global) (x : Node) (pipe : Pipe) (q : F) (o : Option ℕ) (y : Rest F) → IsInGroups o (Through' r (Start x) q) y → Lessens due (Start (node.Through' p x pipe)) y turn.Quiet
  through_enter_work p r x pipe q None y h = record { falls = λ g. subst (λ z. work_left due z < work_left due (Start (node.Through' p x pipe))) (sym h) (through_enter_in p r x pipe q) }
  through_enter_work p r x pipe q (Some k) y h = record { falls = λ g. subst (λ z. work_left due z < work_left due (Start (node.Through' p x pipe))) (sym h.1) (through_enter_in p r x pipe q) }

  piece_work : (a b : Around) (n p from to : ℕ) (t : Turn) → PieceTurn a b n p from to t → Lessens due (Read p from) (Read p to) t
  piece_work a b n p from to (turn.Chunk l) h = record { falls = λ g. omega (arith, h.2, h.4, h.5) }
  piece_work a b n p from to turn.Quiet h = record { falls = λ g. absurd h }
  piece_work a b n p from to turn.Done h = record { falls = λ g. absurd g }
  piece_work a b n p from to (turn.Fault c) h = record { falls = λ g. absurd g }

  pub read_work : (a b : Around) (n p from to : ℕ) (t : Turn) → ReadsPiece a b n p from to t → Lessens due (Read p from) (Read p to) t
  read_work a b n p from to t h = piece_work a b n p from to t h.piece

  pub within_work : (c : ℕ) (p q : Box (Unit {0}) Global) (x new : Rest F) (t : Turn) → Lessens due x new t → Lessens due (Within' c p x) (Within' c q new) t
  within_work c p q x new t h = record { falls = λ g. omega (arith, h.falls g) }

  pub then_work : (v : When) (p q : Box (Unit {0}) Global) (m : Box Node Global) (x new : Rest F) (t : Turn) → Lessens due x new t → Lessens due (Then' v p x m) (cond (begins v t) (Start m.value) (Then' v q new m)) (turn_of_first v t)
  then_work v p q m x new (turn.Chunk l) h = record { falls = λ g. omega (arith, h.falls tt) }
  then_work v p q m x new turn.Quiet h = record { falls = λ g. omega (arith, h.falls tt) }
  then_work when.Done p q m x new turn.Done h = record { falls = λ g. omega arith }
  then_work when.Fault p q m x new turn.Done h = record { falls = λ g. absurd g }
  then_work when.Done p q m x new (turn.Fault c) h = record { falls = λ g. absurd g }
  then_work when.Fault p q m x new (turn.Fault c) h = record { falls = λ g. omega arith }

  pub take_work : (k j : ℕ) (p q : Box (Unit {0}) Global) (x new : Rest F) (t u : Turn) → TakenOf k j t u → Lessens due x new t → Lessens due (Take' k p x) (Take' j q new) u
  take_work k j p q x new (turn.Chunk l) u w h = record { falls = λ g. omega (arith, h.falls tt) }
  take_work k j p q x new turn.Quiet u w h = record { falls = λ g. omega (arith, h.falls tt) }
  take_work k j p q x new turn.Done u w h = record { falls = λ g. absurd (subst GoesOn w.1 g) }
  take_work k j p q x new (turn.Fault c) u w h = record { falls = λ g. absurd (subst GoesOn w.1 g) }

  pub zip_enter_work : (z : Sides) (p q u v : Box (Unit {0}) Global) (x y : Node) → Lessens due (Start (node.Zip' p x q y)) (Zip' z u (Start x) v (Start y)) turn.Quiet
  zip_enter_work z p q u v x y = record { falls = λ g. omega (arith, length-append (uses_of x) (uses_of y)) }

  pub merge_enter_work : (p q u v : Box (Unit {0}) Global) (x y : Node)
      → Lessens due (Start (node.Merge' p x q y)) (Merge' (record { turn = Left; left_ended = false; right_ended = false }) u (Start x) v (Start y)) turn.Quiet
  merge_enter_work p q u v x y = record { falls = λ g. omega (arith, length-append (uses_of x) (uses_of y)) }

  pub zip_left_work : (z w : Sides) (p q u v : Box (Unit {0}) Global) (x new y : Rest F) (t o : Turn) → ZipTurn z Left w t o → Lessens due x new t → Lessens due (Zip' z p x q y) (Zip' w u new v y) o
  zip_left_work z w p q u v x new y (turn.Chunk l) o is h = record { falls = λ g. omega (arith, h.falls tt) }
  zip_left_work z w p q u v x new y turn.Quiet o is h = record { falls = λ g. omega (arith, h.falls tt) }
  zip_left_work z w p q u v x new y turn.Done o is h = record { falls = λ g. absurd (subst GoesOn is.1 g) }
  zip_left_work z w p q u v x new y (turn.Fault c) o is h = record { falls = λ g. absurd (subst GoesOn is.1 g) }

  pub zip_right_work : (z w : Sides) (p q u v : Box (Unit {0}) Global) (x y new : Rest F) (t o : Turn) → ZipTurn z Right w t o → Lessens due y new t → Lessens due (Zip' z p x q y) (Zip' w u x v new) o
  zip_right_work z w p q u v x y new (turn.Chunk l) o is h = record { falls = λ g. omega (arith, h.falls tt) }
  zip_right_work z w p q u v x y new turn.Quiet o is h = record { falls = λ g. omega (arith, h.falls tt) }
  zip_right_work z w p q u v x y new turn.Done o is h = record { falls = λ g. absurd (subst GoesOn is.1 g) }
  zip_right_work z w p q u v x y new (turn.Fault c) o is h = record { falls = λ g. absurd (subst GoesOn is.1 g) }

  merge_done_left : (m : MergeTurns) (p q u v : Box (Unit {0}) Global) (x y : Rest F) (e : Bool) → m.left_ended ≡ false → m.right_ended ≡ e → Lessens due (Merge' m p x q y) (Merge' (with_ended m Left) u Nil v y) (end_of_sides true e)
  merge_done_left m p q u v x y true i j = record { falls = λ g. absurd g }
  merge_done_left m p q u v x y false i j = record { falls = λ g. rw (i, j) (omega arith) }

  merge_done_right : (m : MergeTurns) (p q u v : Box (Unit {0}) Global) (x y : Rest F) (e : Bool) → m.right_ended ≡ false → m.left_ended ≡ e → Lessens due (Merge' m p x q y) (Merge' (with_ended m Right) u x v Nil) (end_of_sides e true)
  merge_done_right m p q u v x y true i j = record { falls = λ g. absurd g }
  merge_done_right m p q u v x y false i j = record { falls = λ g. rw (i, j) (omega arith) }

  pub merge_left_work : (m k : MergeTurns) (p q u v : Box (Unit {0}) Global) (x new y : Rest F) (t o : Turn) → m.left_ended ≡ false → MergeTurn m Left k t o → Lessens due x new t → Lessens due (Merge' m p x q y) (Merge' k u (side_left t new) v y) o
  merge_left_work m k p q u v x new y (turn.Chunk l) o i is h = record { falls = λ g. rw is.0 (omega (arith, h.falls tt)) }
  merge_left_work m k p q u v x new y turn.Quiet o i is h = record { falls = λ g. rw is.0 (omega (arith, h.falls tt)) }
  merge_left_work m k p q u v x new y turn.Done o i is h = rw (is.0, is.1) (merge_done_left m p q u v x y m.right_ended i refl)
  merge_left_work m k p q u v x new y (turn.Fault c) o i is h = record { falls = λ g. absurd (subst GoesOn is.1 g) }

  pub merge_right_work : (m k : MergeTurns) (p q u v : Box (Unit {0}) Global) (x y new : Rest F) (t o : Turn) → m.right_ended ≡ false → MergeTurn m Right k t o → Lessens due y new t → Lessens due (Merge' m p x q y) (Merge' k u x v (side_left t new)) o
  merge_right_work m k p q u v x y new (turn.Chunk l) o i is h = record { falls = λ g. rw is.0 (omega (arith, h.falls tt)) }
  merge_right_work m k p q u v x y new turn.Quiet o i is h = record { falls = λ g. rw is.0 (omega (arith, h.falls tt)) }
  merge_right_work m k p q u v x y new turn.Done o i is h = rw (is.0, is.1) (merge_done_right m p q u v x y m.left_ended i refl)
  merge_right_work m k p q u v x y new (turn.Fault c) o i is h = record { falls = λ g. absurd (subst GoesOn is.1 g) }

  pub into_enter_work : (i : ℕ) (v : Option (List ℕ)) (p q : Box (Unit {0}) Global) (x : Node) → Lessens due (Start (node.Into' i p x)) (Into' i v q (Start x)) turn.Quiet
  into_enter_work i v p q x = record { falls = λ g. omega arith }

  pub into_work : (i : ℕ) (v z : Option (List ℕ)) (p q : Box (Unit {0}) Global) (x new : Rest F) (t u : Turn) → IntoTurn t u → Lessens due x new t → Lessens due (Into' i v p x) (Into' i z q new) u
  into_work i v z p q x new (turn.Chunk l) u w h = record { falls = λ g. omega (arith, h.falls tt) }
  into_work i v z p q x new turn.Quiet u w h = record { falls = λ g. omega (arith, h.falls tt) }
  into_work i v z p q x new turn.Done u w h = record { falls = λ g. absurd (subst GoesOn w g) }
  into_work i v z p q x new (turn.Fault c) u w h = record { falls = λ g. absurd (subst GoesOn w g) }

  -- what is left falls by a whole byte at least, and a load has fewer elements
  grouping_work : (k : ℕ) (p q : Box (Unit {0}) Global) (x new : Rest F) (o : Option Load) → HasNoGroups x → HasNoGroups new → length (waiting o) < 2 ^ 64 → work_left due new < work_left due x → work_left due (Groups' k o q new) < work_left due (Groups' k None p x)
  grouping_work k p q x new o plain still few h = omega (arith, no_groups_left x plain, no_groups_left new still, few, h)

  pub groups_work : (k : ℕ) (p q : Box (Unit {0}) Global) (x new : Rest F) (o : Option Load) (t u : Turn) → HasNoGroups x → HasNoGroups new → GroupedOf k None o t u → Lessens due x new t → Lessens due (Groups' k None p x) (Groups' k o q new) u
  groups_work k p q x new o (turn.Chunk l) (turn.Chunk m) plain still w h = record { falls = λ g. grouping_work k p q x new o plain still w.few (h.falls tt) }
  groups_work k p q x new o (turn.Chunk l) turn.Quiet plain still w h = record { falls = λ g. absurd w }
  groups_work k p q x new o (turn.Chunk l) turn.Done plain still w h = record { falls = λ g. absurd w }
  groups_work k p q x new o (turn.Chunk l) (turn.Fault c) plain still w h = record { falls = λ g. absurd w }
  groups_work k p q x new o turn.Quiet u plain still w h = record { falls = λ g. rw w.0 (grouping_work k p q x new None plain still (omega arith) (h.falls tt)) }
  groups_work k p q x new o turn.Done u plain still w h = record { falls = λ g. absurd (subst GoesOn w.1 g) }
  groups_work k p q x new o (turn.Fault c) u plain still w h = record { falls = λ g. absurd (subst GoesOn w.1 g) }

  pub waited_work : (k : ℕ) (p q : Box (Unit {0}) Global) (x : Rest F) (l m : Load) (o : Option Load) → 0 < k → 0 < length (elements l) → IsFirstGroup k l m o → Lessens due (Groups' k (Some l) p x) (Groups' k o q x) (turn.Chunk m)
  waited_work k p q x l m o some long w = record { falls = λ g. omega (arith, ap length w.behind, length-drop k (elements l), some, long) }

  module _ (P : StateMeaning F) (dues : (q : F) (k : LoadKind) (ys : List Element) (c : Option Code) → P.comes q k ys c → (length ys ≡ due q) × (due q < 2 ^ 64)) where
    -- A pipe whose input had ended before.

    module _ (q r : F) (fit : PipesFit P (Finishing q)) where
      finishing_by : (u : Turn) (z : After) (f : PipeGaveMore P q r u z) (answer : Fed) → answer ≡ f.answer → Lessens due (Finishing q) (after_pipe (after_fed answer after.Finishing) (Finishing r)) (turn_of_fed answer)
      finishing_by u z f (fed.Out o) e = record {
        falls = λ g.
            let h = rw (← e) at (f.next fit.0 fit.1 fit.2 fit.3) in
            omega (arith, (dues q fit.0 fit.1 fit.2 fit.3).0, (dues r fit.0 h.2 fit.2 h.4).0, ap length h.3, length-append (elements o) h.2, h.1);
      }
      finishing_by u z f fed.End e = record { falls = λ g. absurd g }
      finishing_by u z f (fed.Fault o c) e =
          let h = rw (← e) at (f.next fit.0 fit.1 fit.2 fit.3) in
          by_length (length (elements o)) refl (omega (arith, (dues q fit.0 fit.1 fit.2 fit.3).0, ap length h.1))
        where
          by_length : (k : ℕ) → length (elements o) ≡ k → k ≤ due q → Lessens due (Finishing q) (after_pipe (same_or_faulty k c) (Finishing r)) (load_or_fault k o c)
          by_length zero e le = record { falls = λ g. absurd g }
          by_length (suc k) e le = record { falls = λ g. omega (arith, le) }

      pub finishing_work : (u : Turn) (z : After) → PipeGaveMore P q r u z → Lessens due (Finishing q) (after_pipe z (Finishing r)) u
      finishing_work u z f = rw (f.turn, f.after) (finishing_by u z f f.answer refl)

    module _ (p p' : Box (Unit {0}) Global) (x new : Rest F) (q r : F) (fit : PipesFit P (Through' p x q)) where
      -- a pipe that fails owes nothing
      faulty_work : (o : Load) (c : Code) (k : ℕ) → Lessens due (Through' p x q) (after_pipe (same_or_faulty k c) (Through' p' new r)) (load_or_fault k o c)
      faulty_work o c zero = record { falls = λ g. absurd g }
      faulty_work o c (suc k) = record { falls = λ g. omega arith }

      fed_by : (answer : Fed) → work_left due new < work_left due x → Lessens due (Through' p x q) (after_pipe (after_fed answer after.Same) (Through' p' new r)) (turn_of_fed answer)
      fed_by (fed.Out o) h = record { falls = λ g. omega (arith, h) }
      fed_by fed.End h = record { falls = λ g. absurd g }
      fed_by (fed.Fault o c) h = faulty_work o c (length (elements o))

      ended_by : (u : Turn) (z : After) (f : PipeGaveMore P q r u z) (answer : Fed) → answer ≡ f.answer → Lessens due (Through' p x q) (after_pipe (after_fed answer after.Finishing) (Through' p' new r)) (turn_of_fed answer)
      ended_by u z f (fed.Out o) e = record {
        falls = λ g.
            let h = rw (← e) at (f.first fit.1.1 fit.1.2 fit.1.4).given in
            omega (arith, (dues r fit.1.1.gives h.2 (fit.1.1.all fit.1.2).fault h.4).1);
      }
      ended_by u z f fed.End e = record { falls = λ g. absurd g }
      ended_by u z f (fed.Fault o c) e = faulty_work o c (length (elements o))

      pub through_work : (t u : Turn) (z : After) → Passes P q r t u z → Lessens due x new t → Lessens due (Through' p x q) (after_pipe z (Through' p' new r)) u
      through_work (turn.Chunk l) u z f h = rw (f.turn, f.after) (fed_by f.answer (h.falls tt))
      through_work turn.Quiet u z f h = record { falls = λ g. rw f.2 (let i = h.falls tt in omega (arith, i)) }
      through_work turn.Done u z f h = rw (f.turn, f.after) (ended_by u z f f.answer refl)
      through_work (turn.Fault c) u z f h = record { falls = λ g. absurd (subst GoesOn f.1 g) }
