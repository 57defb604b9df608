-- All that a turn tells, from what the turn of its part told: a lemma for each part, of its answer and of its refusal.
use Rattle.std.proofs.Common.{◌≡◌, inl, inr, ℕ, ◌<◌, ◌≤◌, ◌^◌, Bool, true, false, List, [], length, Option, Some, None, IfSome, Result, Ok, Err, IfOk, OnErr, cond, refl, sym, ap, subst, arith, Box, Global}
use Rattle.std.proofs.lemmas.Bool.Decides.{eqb_tells}
use Rattle.std.proofs.lemmas.List.{length-take, length-drop}
use Rattle.chunk_core.specs.declared.code.Code.{Code}
use Rattle.chunk_core.specs.declared.load.Load.{Load}
use Rattle.chunk_core.specs.Elements.{Element, LoadKind, elements}
use Rattle.chunk_core.specs.Feed.{IsSound}
use Rattle.pull_nodes.specs.declared.node.Node.{Node}
use Rattle.pull_turns.specs.Around.{Around, StaysWell}
use Rattle.pull_turns.specs.Groups.{Grouped, GroupedOf, HasNoGroups, IsFirstGroup}
use Rattle.pull_turns.specs.Moves.{LeavesAtEnd, MergeTurn, ReadsPiece, ReadsPlace, TakenOf, WritesTurn, ZipTurn, begins, side_left, turn_of_first}
use Rattle.pull_turns.specs.Passing.{Passes, PipeGaveMore, after_pipe}
use Rattle.pull_turns.specs.Piping.{StateMeaning}
use Rattle.pull_turns.specs.Rest.{CanStep, IsLive, IsScopeOf, rows_left, scopes_left}
use Rattle.pull_turns.specs.Stepped.{Broken, Stepped}
use Rattle.pull_turns.specs.Turned.{IsLoadOrDone, Turned}
use Rattle.pull_turns.specs.declared.piping.After.{After}
use Rattle.pull_turns.specs.declared.piping.After.TheVariants as after
use Rattle.pull_turns.specs.declared.rest.Rest.{Rest}
use Rattle.pull_turns.specs.declared.rest.Rest.TheVariants.{Nil, Start, Read, Within', Then', Through', Finishing, Faulty, Groups', Take', Into', Zip', Merge'}
use Rattle.pull_turns.specs.declared.rest.When.{When}
use Rattle.pull_turns.specs.declared.turn.Turn.{Turn}
use Rattle.pull_turns.specs.declared.turn.Turn.TheVariants as turn
use Rattle.stream_sides.specs.Sides.{Sides}
use Rattle.stream_sides.specs.MergeTurns.{MergeTurns}
use Rattle.stream_sides.specs.declared.side.Side.TheVariants.{Left, Right}
use Rattle.pull_turns.proofs.Coming.{faulty_step, finishing_step}
use Rattle.pull_turns.proofs.Finished.{through_step}
use Rattle.pull_turns.proofs.Grouped.{into_grouped, merge_left_grouped, merge_right_grouped, then_grouped, within_grouped, zip_grouped}
use Rattle.pull_turns.proofs.Grouping.{groups_step, waited_step}
use Rattle.pull_turns.proofs.Into.{into_scoped, into_step, into_turn}
use Rattle.pull_turns.proofs.Merging.{merge_left_step, merge_right_step}
use Rattle.pull_turns.proofs.Pieces.{read_moved, read_step}
use Rattle.pull_turns.proofs.Scoped.{merge_left_scoped, merge_right_scoped, within_scoped, zip_left_scoped, zip_right_scoped}
use Rattle.pull_turns.proofs.Sized.{into_sized, merge_left_sized, merge_right_sized, read_sized, take_sized, then_sized, zip_left_sized, zip_right_sized}
use Rattle.pull_turns.proofs.Steps.{can_within, nil_step, take_over, take_step, then_step, within_step}
use Rattle.pull_turns.proofs.Telling.{finishing_tells, groups_tells, merge_left_tells, merge_right_tells, take_over_tells, take_tells, then_tells, through_tells, within_tells, zip_left_tells, zip_right_tells}
use Rattle.pull_turns.proofs.TellingActs.{into_tells, read_tells}
use Rattle.pull_turns.proofs.Turns.{moved_part, moved_same}
use Rattle.pull_turns.proofs.Unwritten.{stays_well}
use Rattle.pull_turns.proofs.Work.{finishing_work, groups_work, into_work, merge_left_work, merge_right_work, read_work, take_work, then_work, through_work, waited_work, within_work, zip_left_work, zip_right_work}
use Rattle.pull_turns.proofs.Zipping.{zip_left_step, zip_right_step}

-- an answer by that of the last call
pub on_ok : {T E : Type 0} {A B : T → Type 0} (r : Result T E) → IfOk r A → ((x : T) → A x → B x) → IfOk r B
on_ok (Ok x) h f = f x h
on_ok (Err e) h f = tt

pub on_err : {T E P : Type 0} (r : Result T E) → P → OnErr r P
on_err (Ok x) p = tt
on_err (Err e) p = p

pub by_err : {T E P Q : Type 0} (r : Result T E) → OnErr r P → (P → Q) → OnErr r Q
by_err (Ok x) h f = tt
by_err (Err e) h f = f h

pub both_err : {T E : Type 0} (P Q : Type 0) (r : Result T E) → OnErr r P → OnErr r Q → OnErr r (P × Q)
both_err P Q (Ok x) h k = tt
both_err P Q (Err e) h k = (h, k)

-- no more groups wait behind less than a whole group
group_few : (k : ℕ) (l m : Load) (g : Option Load) → IsFirstGroup k l m g → length (elements m) ≤ k
group_few k l m g h = omega (arith, ap length h.front, length-take k (elements l))

group_whole : (k : ℕ) (l m : Load) (g : Option Load) → IsFirstGroup k l m g → IfSome g (λ r. length (elements m) ≡ k)
group_whole k l m None h = tt
group_whole k l m (Some r) h = omega (arith, ap length h.front, length-take k (elements l), ap length h.behind, length-drop k (elements l), h.some)

some_is_none : (l : Load) → Some l ≡ None → ⊥
some_is_none l e = cc

module _ {F : Type 0} where
  then_whole : (b : Bool) (n : Node) (w : When) (q : Box (Unit {0}) Global) (x : Rest F) (m : Box Node Global) → HasNoGroups x → HasNoGroups (cond b (Start n) (Then' w q x m))
  then_whole true n w q x m h = tt
  then_whole false n w q x m h = (h, tt)

  side_whole : (t : Turn) (x : Rest F) → HasNoGroups x → HasNoGroups (side_left t x)
  side_whole (turn.Chunk l) x h = h
  side_whole turn.Quiet x h = h
  side_whole turn.Done x h = tt
  side_whole (turn.Fault c) x h = h

  through_whole : (z : After) (p : Box (Unit {0}) Global) (x : Rest F) (q : F) → HasNoGroups x → HasNoGroups (after_pipe z (Through' p x q))
  through_whole after.Same p x q h = h
  through_whole after.Finishing p x q h = tt
  through_whole (after.Faulty c) p x q h = tt

  finishing_whole : (z : After) (q : F) → HasNoGroups (after_pipe z (Finishing q))
  finishing_whole after.Same q = tt
  finishing_whole after.Finishing q = tt
  finishing_whole (after.Faulty c) q = tt

  through_grouped : (z : After) (p p' : Box (Unit {0}) Global) (x new : Rest F) (q r : F) (u : Turn) → Grouped (Through' p x q) (after_pipe z (Through' p' new r)) u
  through_grouped after.Same p p' x new q r u = record { most = λ k i. absurd i; group = tt; waits = tt }
  through_grouped after.Finishing p p' x new q r u = record { most = λ k i. absurd i; group = tt; waits = tt }
  through_grouped (after.Faulty c) p p' x new q r u = record { most = λ k i. absurd i; group = tt; waits = tt }

  finishing_grouped : (z : After) (q r : F) (u : Turn) → Grouped (Finishing q) (after_pipe z (Finishing r)) u
  finishing_grouped after.Same q r u = record { most = λ k i. absurd i; group = tt; waits = tt }
  finishing_grouped after.Finishing q r u = record { most = λ k i. absurd i; group = tt; waits = tt }
  finishing_grouped (after.Faulty c) q r u = record { most = λ k i. absurd i; group = tt; waits = tt }

  waited_grouped : (k : ℕ) (f g : Option Load) (p q : Box (Unit {0}) Global) (x y : Rest F) (l m : Load) → IsFirstGroup k l m g → Grouped (Groups' k f p x) (Groups' k g q y) (turn.Chunk m)
  waited_grouped k f g p q x y l m h = record { most = λ j i. (i, omega (arith, i, group_few k l m g h)); group = group_few k l m g h; waits = group_whole k l m g h }

  groups_grouped : (k : ℕ) (g : Option Load) (p q : Box (Unit {0}) Global) (x new : Rest F) (t u : Turn) → GroupedOf k None g t u → Grouped (Groups' k None p x) (Groups' k g q new) u
  groups_grouped k g p q x new (turn.Chunk l) (turn.Chunk m) h = waited_grouped k None g p q x new l m h
  groups_grouped k g p q x new (turn.Chunk l) turn.Quiet h = absurd h
  groups_grouped k g p q x new (turn.Chunk l) turn.Done h = absurd h
  groups_grouped k g p q x new (turn.Chunk l) (turn.Fault c) h = absurd h
  groups_grouped k g p q x new turn.Quiet u h = rw (h.0, h.1) (record { most = λ j i. (i, tt); group = tt; waits = tt })
  groups_grouped k g p q x new turn.Done u h = rw (h.0, h.1) (record { most = λ j i. (i, tt); group = tt; waits = tt })
  groups_grouped k g p q x new (turn.Fault c) u h = rw (h.0, h.1) (record { most = λ j i. (i, tt); group = tt; waits = tt })

module _ {F : Type 0} (P : StateMeaning F) (due : F → ℕ) where
  pub nil_stepped : (a : Around) (s n : ℕ) (above : Bool) → Stepped P due a a s n above Nil Nil turn.Done
  nil_stepped a s n above = record {
    turned = nil_step P a s n;
    work = record { falls = λ g. absurd g };
    sized = λ f. record { plain = tt; piece = omega arith; pieces = omega arith };
    whole = λ e. tt;
    grouped = λ e. record { most = λ k i. (i, tt); group = tt; waits = tt };
    scoped = tt;
    failures = λ w o. tt;
  }

  pub faulty_stepped : (a : Around) (s n : ℕ) (above : Bool) (c : Code) → CanStep P a s (Faulty c) → Stepped P due a a s n above (Faulty c) (Faulty c) (turn.Fault c)
  faulty_stepped a s n above c can = record {
    turned = faulty_step P a s n c can.pipes;
    work = record { falls = λ g. absurd g };
    sized = λ f. absurd f;
    whole = λ e. tt;
    grouped = λ e. record { most = λ k i. (i, tt); group = tt; waits = tt };
    scoped = tt;
    failures = λ w o. tt;
  }

  pub read_stepped : (a b : Around) (s n : ℕ) (above : Bool) (p from to : ℕ) (t : Turn) → CanStep P a s (Read p from) → ReadsPiece a b n p from to t → Stepped P due a b s n above (Read p from) (Read p to) t
  read_stepped a b s n above p from to t can piece = record {
    turned = read_step P a b s n p from to t can.opened can.ready piece;
    work = read_work due a b n p from to t piece;
    sized = λ f. read_sized a b n p from to t piece;
    whole = λ e. tt;
    grouped = λ e. record { most = λ k i. absurd i; group = tt; waits = tt };
    scoped = tt;
    failures = read_tells F a b s n p from to t can.ready piece;
  }

  pub within_stepped : {O : Type 0} (seen : O → Around) (a : Around) (y z : O) (s n c : ℕ) (above : Bool) (p q : Box (Unit {0}) Global) (x new : Rest F) (t : Turn)
      → CanStep P a s (Within' c p x) → LeavesAtEnd seen y c t z → Stepped P due a (seen y) c n above x new t → Stepped P due a (seen z) s n above (Within' c p x) (Within' c q new) t
  within_stepped seen a y z s n c above p q x new t can ends part = record {
    turned = within_step P seen a y z s n c p q x new can t ends part.turned;
    work = within_work due c p q x new t part.work;
    sized = λ f. let h = part.sized f in record { plain = h.plain; piece = h.piece; pieces = h.pieces };
    whole = λ e. part.whole e;
    grouped = λ e. within_grouped c p q x new t (part.grouped e);
    scoped = within_scoped P seen a y z s n c q x new (can_within P a s c p x can) t ends part.turned part.scoped;
    failures = within_tells seen y z c p q x new t ends part.failures;
  }

  pub then_stepped : (a b : Around) (s n : ℕ) (above : Bool) (v : When) (p q : Box (Unit {0}) Global) (m : Box Node Global) (x new : Rest F) (t : Turn)
      → CanStep P a s (Then' v p x m) → Stepped P due a b s n above x new t → Stepped P due a b s n above (Then' v p x m) (cond (begins v t) (Start m.value) (Then' v q new m)) (turn_of_first v t)
  then_stepped a b s n above v p q m x new t can part = record {
    turned = then_step P a b s n p q m x new v t can part.turned;
    work = then_work due v p q m x new t part.work;
    sized = λ plain. then_sized v n p q m x new t plain.1 (part.sized plain.0);
    whole = λ e. then_whole (begins v t) m.value v q new m (part.whole e);
    grouped = λ e. then_grouped v p q m x new t (part.grouped e);
    scoped = (q, new, t, part.scoped, (refl, refl));
    failures = then_tells P a b s n p q m x new v t can part.turned part.failures;
  }

  waited_whole : (a : Around) (s n : ℕ) (above : Bool) (k : ℕ) (p q : Box (Unit {0}) Global) (x : Rest F) (l m : Load) (g : Option Load)
      → CanStep P a s (Groups' k (Some l) p x) → (above ≡ true → HasNoGroups (Groups' k (Some l) p x)) → IsFirstGroup k l m g
      → Stepped P due a a s n above (Groups' k (Some l) p x) (Groups' k g q x) (turn.Chunk m)
  waited_whole a s n above k p q x l m g can plain first = record {
    turned = waited_step P a s n k p q x l m g can first;
    work = waited_work due k p q x l m g can.ready.0 can.ready.1 first;
    sized = λ f. absurd f;
    whole = plain;
    grouped = λ e. waited_grouped k (Some l) g p q x x l m first;
    scoped = λ e. absurd (some_is_none l e);
    failures = λ w o e i. i;
  }

  pub waited_stepped : (a : Around) (s n : ℕ) (above : Bool) (k : ℕ) (p q : Box (Unit {0}) Global) (x : Rest F) (l : Load) (g : Option Load) (t : Turn)
      → CanStep P a s (Groups' k (Some l) p x) → (above ≡ true → HasNoGroups (Groups' k (Some l) p x)) → GroupedOf k None g (turn.Chunk l) t
      → Stepped P due a a s n above (Groups' k (Some l) p x) (Groups' k g q x) t
  waited_stepped a s n above k p q x l g (turn.Chunk m) can plain first = waited_whole a s n above k p q x l m g can plain first
  waited_stepped a s n above k p q x l g turn.Quiet can plain first = absurd first
  waited_stepped a s n above k p q x l g turn.Done can plain first = absurd first
  waited_stepped a s n above k p q x l g (turn.Fault c) can plain first = absurd first

  pub groups_stepped : (a b : Around) (s n : ℕ) (above : Bool) (k : ℕ) (p q : Box (Unit {0}) Global) (x new : Rest F) (g : Option Load) (t u : Turn)
      → CanStep P a s (Groups' k None p x) → (above ≡ true → HasNoGroups (Groups' k None p x)) → GroupedOf k None g t u → Stepped P due a b s n true x new t
      → Stepped P due a b s n above (Groups' k None p x) (Groups' k g q new) u
  groups_stepped a b s n above k p q x new g t u can plain first part = record {
    turned = groups_step P a b s n k p q x new can.ready.0 can.ready.3 (part.whole refl) g t u first part.turned;
    work = groups_work due k p q x new g t u can.ready.3 (part.whole refl) first part.work;
    sized = λ f. absurd f;
    whole = plain;
    grouped = λ e. groups_grouped k g p q x new t u first;
    scoped = λ e. (q, new, t, part.scoped, (g, first, refl));
    failures = groups_tells P a b s n k p q x new g t u first part.failures;
  }

  pub take_over_stepped : (a : Around) (s n : ℕ) (above : Bool) (k : ℕ) (p : Box (Unit {0}) Global) (x : Rest F) → CanStep P a s (Take' k p x) → k ≡ 0
      → Stepped P due a a s n above (Take' k p x) (Take' k p x) turn.Done
  take_over_stepped a s n above k p x can none = record {
    turned = take_over P a s n k p x none;
    work = record { falls = λ g. absurd g };
    sized = λ f. record { plain = f; piece = omega arith; pieces = omega arith };
    whole = λ e. can.ready.1;
    grouped = λ e. record { most = λ j i. absurd i; group = tt; waits = tt };
    scoped = λ some. absurd (omega (arith, some, none));
    failures = take_over_tells P a a s n k p x none;
  }

  pub take_stepped : (a b : Around) (s n : ℕ) (above : Bool) (k m : ℕ) (p q : Box (Unit {0}) Global) (x new : Rest F) (t u : Turn)
      → CanStep P a s (Take' k p x) → 0 < k → TakenOf k m t u → Stepped P due a b s n true x new t → Stepped P due a b s n above (Take' k p x) (Take' m q new) u
  take_stepped a b s n above k m p q x new t u can some taken part = record {
    turned = take_step P a b s n k m p q x new can.ready.1 (part.whole refl) some t u taken part.turned;
    work = take_work due k m p q x new t u taken part.work;
    sized = λ f. take_sized n k m p q x new t u taken (part.sized f);
    whole = λ e. part.whole refl;
    grouped = λ e. record { most = λ j i. absurd i; group = tt; waits = tt };
    scoped = λ i. (q, new, t, part.scoped, (m, taken, refl));
    failures = take_tells P a b s n k p q x new some m t u taken part.turned part.failures;
  }

  pub into_stepped : {O : Type 0} (seen : O → Around) (a : Around) (y z : O) (s n : ℕ) (above : Bool) (p : ℕ) (v g : Option (List ℕ)) (q r : Box (Unit {0}) Global) (x new : Rest F) (t u : Turn)
      → CanStep P a s (Into' p v q x) → WritesTurn seen y z p v g t u → Stepped P due a (seen y) s n true x new t → Stepped P due a (seen z) s n above (Into' p v q x) (Into' p g r new) u
  into_stepped seen a y z s n above p v g q r x new t u can wrote part =
      let turns = into_turn seen y z p v g t u wrote in
      record {
        turned = into_step P seen a y z s n p v g q r x new can can.ready.4 (part.whole refl) t u wrote part.turned;
        work = into_work due p v g q r x new t u turns part.work;
        sized = λ f. into_sized n p v g q r x new t u turns (part.sized f);
        whole = λ e. part.whole refl;
        grouped = λ e. into_grouped p v g q r x new t u turns;
        scoped = into_scoped P seen a y z s n p v g q r x new can can.ready.4 (part.whole refl) t u wrote part.scoped;
        failures = into_tells P seen a y z s n p v g q r x new can t u wrote part.turned part.failures;
      }

  pub zip_left_stepped : (a b : Around) (s n : ℕ) (above : Bool) (z w : Sides) (p q u v : Box (Unit {0}) Global) (x new y : Rest F) (t o : Turn)
      → CanStep P a s (Zip' z p x q y) → z.left ≡ [] → ZipTurn z Left w t o → Stepped P due a b s n true x new t → Stepped P due a b s n above (Zip' z p x q y) (Zip' w u new v y) o
  zip_left_stepped a b s n above z w p q u v x new y t o can none is part = record {
    turned = zip_left_step P a b s n z p q u v x y can new (part.whole refl) w t o none is part.turned;
    work = zip_left_work due z w p q u v x new y t o is part.work;
    sized = λ f. zip_left_sized n z w p q u v x new y t o none f.1 is (part.sized f.0);
    whole = λ e. (part.whole refl, can.ready.4);
    grouped = λ e. zip_grouped z w p q u v x y new y o;
    scoped = zip_left_scoped P a b s z w u v x new y t o none is part.scoped;
    failures = zip_left_tells P a b s n z p q u v x y can new w t o is part.turned part.failures;
  }

  pub zip_right_stepped : (a b : Around) (s n : ℕ) (above : Bool) (z w : Sides) (p q u v : Box (Unit {0}) Global) (x y new : Rest F) (t o : Turn)
      → CanStep P a s (Zip' z p x q y) → 0 < length z.left → z.right ≡ [] → ZipTurn z Right w t o → Stepped P due a b s n true y new t
      → Stepped P due a b s n above (Zip' z p x q y) (Zip' w u x v new) o
  zip_right_stepped a b s n above z w p q u v x y new t o can some none is part = record {
    turned = zip_right_step P a b s n z p q u v x y can new (part.whole refl) w t o (some, none) is part.turned;
    work = zip_right_work due z w p q u v x y new t o is part.work;
    sized = λ f. zip_right_sized n z w p q u v x y new t o none f.0 is (part.sized f.1);
    whole = λ e. (can.ready.3, part.whole refl);
    grouped = λ e. zip_grouped z w p q u v x y x new o;
    scoped = zip_right_scoped P a b s z w u v x y new t o some is part.scoped;
    failures = zip_right_tells P a b s n z p q u v x y can new w t o is part.turned part.failures;
  }

  pub merge_left_stepped : (a b : Around) (s n : ℕ) (above : Bool) (m k : MergeTurns) (p q u v : Box (Unit {0}) Global) (x new y : Rest F) (t o : Turn)
      → CanStep P a s (Merge' m p x q y) → (above ≡ true → HasNoGroups (Merge' m p x q y)) → m.left_ended ≡ false → MergeTurn m Left k t o → Stepped P due a b s n above x new t
      → Stepped P due a b s n above (Merge' m p x q y) (Merge' k u (side_left t new) v y) o
  merge_left_stepped a b s n above m k p q u v x new y t o can plain going is part = record {
    turned = merge_left_step P a b s n m p q u v x y can new going k t o is part.turned;
    work = merge_left_work due m k p q u v x new y t o going is part.work;
    sized = λ f. merge_left_sized n m k p q u v x new y t o f.1 is (part.sized f.0);
    whole = λ e. (side_whole t new (part.whole e), (plain e).1);
    grouped = λ e. merge_left_grouped m k p q u v x new y t o is (part.grouped e);
    scoped = merge_left_scoped P a b s m k u v x new y (side_left t new) t o is refl part.scoped;
    failures = merge_left_tells P a b s n m p q u v x y can new k t o is part.turned part.failures;
  }

  pub merge_right_stepped : (a b : Around) (s n : ℕ) (above : Bool) (m k : MergeTurns) (p q u v : Box (Unit {0}) Global) (x y new : Rest F) (t o : Turn)
      → CanStep P a s (Merge' m p x q y) → (above ≡ true → HasNoGroups (Merge' m p x q y)) → m.right_ended ≡ false → MergeTurn m Right k t o → Stepped P due a b s n above y new t
      → Stepped P due a b s n above (Merge' m p x q y) (Merge' k u x v (side_left t new)) o
  merge_right_stepped a b s n above m k p q u v x y new t o can plain going is part = record {
    turned = merge_right_step P a b s n m p q u v x y can new going k t o is part.turned;
    work = merge_right_work due m k p q u v x y new t o going is part.work;
    sized = λ f. merge_right_sized n m k p q u v x y new t o f.0 is (part.sized f.1);
    whole = λ e. ((plain e).0, side_whole t new (part.whole e));
    grouped = λ e. merge_right_grouped m k p q u v x y new t o is (part.grouped e);
    scoped = merge_right_scoped P a b s m k u v x y new (side_left t new) t o is refl part.scoped;
    failures = merge_right_tells P a b s n m p q u v x y can new k t o is part.turned part.failures;
  }

  module _ (dues : (q : F) (k : LoadKind) (ys : List Element) (c : Option Code) → P.comes q k ys c → (length ys ≡ due q) × (due q < 2 ^ 64)) where
    pub finishing_stepped : (a : Around) (s n : ℕ) (above : Bool) (q r : F) (u : Turn) (z : After) → CanStep P a s (Finishing q) → PipeGaveMore P q r u z → Stepped P due a a s n above (Finishing q) (after_pipe z (Finishing r)) u
    finishing_stepped a s n above q r u z can gave = record {
      turned = finishing_step P a s n q r can.pipes u z gave;
      work = finishing_work due P dues q r can.pipes u z gave;
      sized = λ f. absurd f;
      whole = λ e. finishing_whole z r;
      grouped = λ e. finishing_grouped z q r u;
      scoped = tt;
      failures = finishing_tells P a a s n q r u z;
    }

    pub through_stepped : ((q : F) → IsSound (P.stands q)) → (a b : Around) (s n : ℕ) (above : Bool) (p p' : Box (Unit {0}) Global) (x new : Rest F) (q r : F) (t u : Turn) (z : After)
        → CanStep P a s (Through' p x q) → Passes P q r t u z → Stepped P due a b s n true x new t → Stepped P due a b s n above (Through' p x q) (after_pipe z (Through' p' new r)) u
    through_stepped sound a b s n above p p' x new q r t u z can passes part = record {
      turned = through_step P sound a b s n p p' x new q r can.pipes can.ready.1 (part.whole refl) t u z passes part.turned;
      work = through_work due P dues p p' x new q r can.pipes t u z passes part.work;
      sized = λ f. absurd f;
      whole = λ e. through_whole z p' new r (part.whole refl);
      grouped = λ e. through_grouped z p p' x new q r u;
      scoped = (p', new, t, part.scoped, (r, z, passes, refl));
      failures = through_tells P a b s n p p' x new q r t u z passes part.turned part.failures;
    }

-- no memory was found before anything was done
pub same_broken : {F : Type 0} (a : Around) (x : Rest F) → Broken a a x
same_broken a x = record { unwritten = λ p. (refl, refl, refl, refl); spent = record { events = omega arith; scopes = omega arith; rows = omega arith }; stopped = moved_same a x }

module _ {F : Type 0} (a b : Around) where
  -- no memory was found in a part
  pub part_broken : (x y : Rest F) → ((p : ℕ) → IsLive p x → IsLive p y) → ((c : ℕ) → IsScopeOf c x → IsScopeOf c y) → rows_left x ≤ rows_left y → scopes_left x ≤ scopes_left y → Broken a b x → Broken a b y
  part_broken x y live own rows scopes h = record {
    unwritten = h.unwritten;
    spent = record { events = omega (arith, h.spent.events, rows, scopes); scopes = omega (arith, h.spent.scopes, scopes); rows = omega (arith, h.spent.rows, rows) };
    stopped = moved_part a b x y live own h.stopped;
  }

  pub read_broken : (p from : ℕ) → ReadsPlace a b p → (b.told p).read_faults ≡ (a.told p).read_faults → Broken {F = F} a b (Read p from)
  read_broken p from h well = record {
    unwritten = λ q. elim (eqb_tells q p) [
      | inl m ↦ subst (λ r. StaysWell (a.told r) (b.told r)) (sym m.1) (h.written, h.write_faults, well, h.open_faults)
      | inr m ↦ stays_well (a.told q) (b.told q) (h.keeps.told q m.1)
    ];
    spent = record { events = omega (arith, h.affords.events); scopes = omega (arith, h.affords.scopes); rows = omega (arith, h.affords.rows) };
    stopped = read_moved a b p from h;
  }

  -- no memory was found for what comes of a part's turn
  pub after_broken : (P : StateMeaning F) (s n : ℕ) (x new : Rest F) (t : Turn) → IsLoadOrDone t → Turned P a b s n x new t → Broken a b x
  after_broken P s n x new t gives h = record {
    unwritten = h.writes gives;
    spent = record { events = omega (arith, h.spends.events); scopes = omega (arith, h.spends.scopes); rows = omega (arith, h.spends.rows) };
    stopped = h.moved;
  }

  pub within_broken : (c : ℕ) (p : Box (Unit {0}) Global) (x : Rest F) → Broken a b x → Broken a b (Within' c p x)
  within_broken c p x h = part_broken x (Within' c p x) (λ k i. i) (λ k i. inr i) (omega arith) (omega arith) h

  pub then_broken : (v : When) (p : Box (Unit {0}) Global) (x : Rest F) (m : Box Node Global) → Broken a b x → Broken a b (Then' v p x m)
  then_broken v p x m h = part_broken x (Then' v p x m) (λ k i. inl i) (λ k i. inl i) (omega arith) (omega arith) h

  pub through_broken : (p : Box (Unit {0}) Global) (x : Rest F) (q : F) → Broken a b x → Broken a b (Through' p x q)
  through_broken p x q h = part_broken x (Through' p x q) (λ k i. i) (λ k i. i) (omega arith) (omega arith) h

  pub groups_broken : (k : ℕ) (f : Option Load) (p : Box (Unit {0}) Global) (x : Rest F) → Broken a b x → Broken a b (Groups' k f p x)
  groups_broken k f p x h = part_broken x (Groups' k f p x) (λ k i. i) (λ k i. i) (omega arith) (omega arith) h

  pub take_broken : (k : ℕ) (p : Box (Unit {0}) Global) (x : Rest F) → 0 < k → Broken a b x → Broken a b (Take' k p x)
  take_broken k p x some h = part_broken x (Take' k p x) (λ j i. (some, i)) (λ j i. (some, i)) (omega arith) (omega arith) h

  pub into_broken : (p : ℕ) (v : Option (List ℕ)) (q : Box (Unit {0}) Global) (x : Rest F) → Broken a b x → Broken a b (Into' p v q x)
  into_broken p v q x h = part_broken x (Into' p v q x) (λ j i. inr i) (λ j i. i) (omega arith) (omega arith) h

  pub zip_left_broken : (z : Sides) (p q : Box (Unit {0}) Global) (x y : Rest F) → Broken a b x → Broken a b (Zip' z p x q y)
  zip_left_broken z p q x y h = part_broken x (Zip' z p x q y) (λ j i. inl i) (λ j i. inl i) (omega arith) (omega arith) h

  pub zip_right_broken : (z : Sides) (p q : Box (Unit {0}) Global) (x y : Rest F) → Broken a b y → Broken a b (Zip' z p x q y)
  zip_right_broken z p q x y h = part_broken y (Zip' z p x q y) (λ j i. inr i) (λ j i. inr i) (omega arith) (omega arith) h

  pub merge_left_broken : (m : MergeTurns) (p q : Box (Unit {0}) Global) (x y : Rest F) → Broken a b x → Broken a b (Merge' m p x q y)
  merge_left_broken m p q x y h = part_broken x (Merge' m p x q y) (λ j i. inl i) (λ j i. inl i) (omega arith) (omega arith) h

  pub merge_right_broken : (m : MergeTurns) (p q : Box (Unit {0}) Global) (x y : Rest F) → Broken a b y → Broken a b (Merge' m p x q y)
  merge_right_broken m p q x y h = part_broken y (Merge' m p x q y) (λ j i. inr i) (λ j i. inr i) (omega arith) (omega arith) h
