-- What a turn tells of failures, from what the turn of its part told.
use Rattle.std.proofs.Common.{◌≡◌, inl, inr, ℕ, zero, suc, ◌<◌, Bool, true, false, length, Option, None, cond, refl, sym, ◌∙◌, subst, arith, Box, Global}
use Rattle.chunk_core.specs.declared.code.Code.{Code}
use Rattle.chunk_core.specs.declared.code.Exit.{Exit}
use Rattle.chunk_core.specs.declared.code.Exit.TheVariants.{Succeeded, Errored}
use Rattle.chunk_core.specs.declared.feed.Fed.{Fed}
use Rattle.chunk_core.specs.declared.feed.Fed.TheVariants as fed
use Rattle.chunk_core.specs.declared.load.Load.{Load}
use Rattle.chunk_core.specs.Elements.{elements}
use Rattle.chunk_core.specs.Outcomes.{End, Done, Fault, Cut}
use Rattle.device_port.specs.Device.{DeviceTold}
use Rattle.pull_nodes.specs.Failures.{HasNoFailure}
use Rattle.pull_nodes.specs.declared.node.Node.{Node}
use Rattle.pull_turns.specs.Around.{Around, LeavesScope, gist}
use Rattle.pull_turns.specs.Failures.{RestTells, TellsOn, TurnTells}
use Rattle.pull_turns.specs.Groups.{GroupedOf}
use Rattle.pull_turns.specs.Moves.{LeavesAtEnd, MergeTurn, TakenOf, ZipTurn, begins, end_of_sides, load_or_quiet, side_left, turn_of_first}
use Rattle.pull_turns.specs.Passing.{Passes, after_fed, after_pipe, load_or_fault, same_or_faulty, turn_of_fed}
use Rattle.pull_turns.specs.Piping.{StateMeaning}
use Rattle.pull_turns.specs.Rest.{Begins, CanStep, IsLive, IsReady, NoPlace}
use Rattle.pull_turns.specs.Turned.{Over, TellsAtEnd, Turned}
use Rattle.pull_turns.specs.declared.piping.After.{After}
use Rattle.pull_turns.specs.declared.piping.After.TheVariants as after
use Rattle.pull_turns.specs.declared.rest.Rest.{Rest}
use Rattle.pull_turns.specs.declared.rest.Rest.TheVariants.{Nil, Start, Within', Then', Through', Finishing, Faulty, Groups', Take', Zip', Merge'}
use Rattle.pull_turns.specs.declared.rest.When.{When}
use Rattle.pull_turns.specs.declared.rest.When.TheVariants as when
use Rattle.pull_turns.specs.declared.turn.Turn.{Turn}
use Rattle.pull_turns.specs.declared.turn.Turn.TheVariants as turn
use Rattle.stream_sides.specs.Sides.{Sides}
use Rattle.stream_sides.specs.MergeTurns.{MergeTurns, with_ended}
use Rattle.stream_sides.specs.declared.side.Side.TheVariants.{Left, Right}
use Rattle.pull_turns.proofs.Apart.{apart_across, other_ready}
use Rattle.pull_turns.proofs.Failures.{rest_any, rest_left, tells_stopped, unfailed_fresh}
use Rattle.pull_turns.proofs.Kept.{goes_gist, goes_on}
use Rattle.pull_turns.proofs.Merging.{can_merge_left, can_merge_right}
use Rattle.pull_turns.proofs.Unwritten.{stays_well}
use Rattle.pull_turns.proofs.Zipping.{can_zip_left, can_zip_right}

-- where all that may come is told already
pub tells_none : {F : Type 0} (now : ℕ → DeviceTold) (x new : Rest F) (t : Turn) → ((w : ℕ → DeviceTold) (e : End) → RestTells w x e) → TurnTells now x new t
tells_none now x new (turn.Chunk l) f = λ w o e i. f w e
tells_none now x new turn.Quiet f = λ w o e i. f w e
tells_none now x new turn.Done f = λ w o. f w Done
tells_none now x new (turn.Fault c) f = λ w o. f w (Fault c)

module _ {F : Type 0} {O : Type 0} (seen : O → Around) (y z : O) (c : ℕ) (p q : Box (Unit {0}) Global) (x new : Rest F) where
  over_part : (j : Exit) → LeavesScope (seen y) c j (seen z) → (w : ℕ → DeviceTold) → Over (seen z).told w (Within' c p x) → Over (seen y).told w x
  over_part j l w o = record {
    over = λ k i. o.over k i ∙ l.told k;
    goes = λ k. goes_on ((seen y).told k) ((seen z).told k) (w k) (goes_gist ((seen y).told k) ((seen z).told k) (l.told k)) (o.goes k);
  }

  pub within_tells : (t : Turn) → LeavesAtEnd seen y c t z → TurnTells (seen y).told x new t → TurnTells (seen z).told (Within' c p x) (Within' c q new) t
  within_tells (turn.Chunk l) e h = subst (λ (o : O). TellsOn (seen o).told (Within' c p x) (Within' c q new)) (sym e) (λ w o g i. h w (record { over = o.over; goes = o.goes }) g i)
  within_tells turn.Quiet e h = subst (λ (o : O). TellsOn (seen o).told (Within' c p x) (Within' c q new)) (sym e) (λ w o g i. h w (record { over = o.over; goes = o.goes }) g i)
  within_tells turn.Done e h = λ w o. h w (over_part Succeeded e w o)
  within_tells (turn.Fault d) e h = λ w o. h w (over_part Errored e w o)

module _ {F : Type 0} (P : StateMeaning F) (a b : Around) (s n : ℕ) where
  module _ (p q : Box (Unit {0}) Global) (m : Box Node Global) (x new : Rest F) (t : Turn) (h : Turned P a b s n x new t) where
    first_on : (v : When) → CanStep P a s (Then' v p x m) → TellsOn b.told x new → TellsOn b.told (Then' v p x m) (Then' v q new m)
    first_on v r f = λ w o e.
        let part : (g : End) → RestTells w new g → RestTells w x g = f w (record { over = λ k i never. o.over k (inl i) (elim [ inl j ↦ never j | inr j ↦ r.ready.0 k i j ]); goes = o.goes }) in
        elim [ inl i ↦ inl (part e i.0, i.1) | inr i ↦ inr (i.0, i.1, part i.0 i.2, i.3) ]

    first_over : (v : When) (w : ℕ → DeviceTold) → Over b.told w (Then' v p x m) → Over b.told w x
    first_over v w o = record { over = λ k i. o.over k (inl i); goes = o.goes }

    second_on : (v : When) (e : End) → Begins v e → CanStep P a s (Then' v p x m) → ((w : ℕ → DeviceTold) → Over b.told w x → RestTells w x e) → TellsOn b.told (Then' v p x m) (Start m.value)
    second_on v e begun r f = λ w o g i. inr (e, begun, f w (record { over = λ k j. o.over k (inl j) (λ l. r.ready.0 k j l); goes = o.goes }), i)

    still_unfailed : (v : When) → CanStep P a s (Then' v p x m) → (w : ℕ → DeviceTold) → Over b.told w (Then' v p x m) → HasNoFailure w m.value
    still_unfailed v r w o = unfailed_fresh a w NoPlace s m.value r.ready.2 (λ k i. stays_well (a.told k) (w k) (o.over k (inr i) ∙ h.moved.keeps.told k (λ j. r.ready.0 k j i)))

  pub then_tells : (p q : Box (Unit {0}) Global) (m : Box Node Global) (x new : Rest F) (v : When) (t : Turn) → CanStep P a s (Then' v p x m) → Turned P a b s n x new t → TurnTells b.told x new t
      → TurnTells b.told (Then' v p x m) (cond (begins v t) (Start m.value) (Then' v q new m)) (turn_of_first v t)
  then_tells p q m x new v (turn.Chunk l) r h f = first_on p q m x new (turn.Chunk l) h v r f
  then_tells p q m x new v turn.Quiet r h f = first_on p q m x new turn.Quiet h v r f
  then_tells p q m x new when.Done turn.Done r h f = second_on p q m x new turn.Done h when.Done Done refl r f
  then_tells p q m x new when.Fault turn.Done r h f = λ w o. inl (f w (first_over p q m x new turn.Done h when.Fault w o), still_unfailed p q m x new turn.Done h when.Fault r w o)
  then_tells p q m x new when.Done (turn.Fault c) r h f = λ w o. inl (f w (first_over p q m x new (turn.Fault c) h when.Done w o), still_unfailed p q m x new (turn.Fault c) h when.Done r w o)
  then_tells p q m x new when.Fault (turn.Fault c) r h f = second_on p q m x new (turn.Fault c) h when.Fault (Fault c) tt r f

  -- a pipe
  module _ (p p' : Box (Unit {0}) Global) (x new : Rest F) (q r : F) where
    below_on : (w : ℕ → DeviceTold) → TellsAtEnd b.told w (Through' p x q) (Through' p' new r) → TellsAtEnd b.told w x new
    below_on w o = record { over = o.over; goes = o.goes }

    below_over : (w : ℕ → DeviceTold) → Over b.told w (Through' p x q) → Over b.told w x
    below_over w o = record { over = o.over; goes = o.goes }

    below_left : (z : Rest F) → ((k : ℕ) → IsLive k z → ⊥) → (w : ℕ → DeviceTold) → TellsAtEnd b.told w (Through' p x q) z → Over b.told w x
    below_left z none w o = record { over = λ k i. o.over k i (none k); goes = o.goes }

    -- what is below gave a load
    module _ (l : Load) (h : Turned P a b s n x new (turn.Chunk l)) (f : TellsOn b.told x new) where
      stopped : (w : ℕ → DeviceTold) → Over b.told w x → (e : End) → RestTells w x e
      stopped = tells_stopped b s x new f (h.ready tt) h.live

      fed_out : (k : ℕ) (o : Load) → TurnTells b.told (Through' p x q) (Through' p' new r) (load_or_quiet k o)
      fed_out zero o = λ w d e i. f w (below_on w d) e i
      fed_out (suc k) o = λ w d e i. f w (below_on w d) e i

      fed_fault : (k : ℕ) (o : Load) (c : Code) → TurnTells b.told (Through' p x q) (after_pipe (same_or_faulty k c) (Through' p' new r)) (load_or_fault k o c)
      fed_fault zero o c = λ w d. stopped w (below_over w d) (Fault c)
      fed_fault (suc k) o c = λ w d e i. stopped w (below_left (Faulty c) (λ k j. j) w d) e

      fed_tells : (answer : Fed) → TurnTells b.told (Through' p x q) (after_pipe (after_fed answer after.Same) (Through' p' new r)) (turn_of_fed answer)
      fed_tells (fed.Out o) = fed_out (length (elements o)) o
      fed_tells fed.End = λ w d. stopped w (below_over w d) Done
      fed_tells (fed.Fault o c) = fed_fault (length (elements o)) o c

    -- what is below has ended
    module _ (f : (w : ℕ → DeviceTold) → Over b.told w x → RestTells w x Done) where
      ended : (w : ℕ → DeviceTold) → Over b.told w x → (e : End) → RestTells w x e
      ended w o e = rest_any Done e (λ i. i) w x (f w o)

      ended_out : (k : ℕ) (o : Load) → TurnTells b.told (Through' p x q) (Finishing r) (load_or_quiet k o)
      ended_out zero o = λ w d e i. ended w (below_left (Finishing r) (λ k j. j) w d) e
      ended_out (suc k) o = λ w d e i. ended w (below_left (Finishing r) (λ k j. j) w d) e

      ended_fault : (k : ℕ) (o : Load) (c : Code) → TurnTells b.told (Through' p x q) (after_pipe (same_or_faulty k c) (Through' p' new r)) (load_or_fault k o c)
      ended_fault zero o c = λ w d. ended w (below_over w d) (Fault c)
      ended_fault (suc k) o c = λ w d e i. ended w (below_left (Faulty c) (λ k j. j) w d) e

      ended_tells : (answer : Fed) → TurnTells b.told (Through' p x q) (after_pipe (after_fed answer after.Finishing) (Through' p' new r)) (turn_of_fed answer)
      ended_tells (fed.Out o) = ended_out (length (elements o)) o
      ended_tells fed.End = λ w d. ended w (below_over w d) Done
      ended_tells (fed.Fault o c) = ended_fault (length (elements o)) o c

  pub through_tells : (p p' : Box (Unit {0}) Global) (x new : Rest F) (q r : F) (t u : Turn) (z : After) → Passes P q r t u z → Turned P a b s n x new t → TurnTells b.told x new t
      → TurnTells b.told (Through' p x q) (after_pipe z (Through' p' new r)) u
  through_tells p p' x new q r (turn.Chunk l) u z i h f = rw (i.turn, i.after) (fed_tells p p' x new q r l h f i.answer)
  through_tells p p' x new q r turn.Quiet u z i h f = rw (i.1, i.2) (λ w d e j. f w (below_on p p' x new q r w d) e j)
  through_tells p p' x new q r turn.Done u z i h f = rw (i.turn, i.after) (ended_tells p p' x new q r f i.answer)
  through_tells p p' x new q r (turn.Fault c) u z i h f = rw i.1 (λ w d. f w (below_over p p' x new q r w d))

  pub finishing_tells : (q r : F) (u : Turn) (z : After) → TurnTells b.told (Finishing q) (after_pipe z (Finishing r)) u
  finishing_tells q r u z = tells_none b.told (Finishing q) (after_pipe z (Finishing r)) u (λ w e. tt)

  -- groups
  pub groups_tells : (k : ℕ) (p q : Box (Unit {0}) Global) (x new : Rest F) (g : Option Load) (t u : Turn) → GroupedOf k None g t u → TurnTells b.told x new t → TurnTells b.told (Groups' k None p x) (Groups' k g q new) u
  groups_tells k p q x new g (turn.Chunk l) (turn.Chunk m) i f = λ w o e j. f w (record { over = o.over; goes = o.goes }) e j
  groups_tells k p q x new g (turn.Chunk l) turn.Quiet i f = absurd i
  groups_tells k p q x new g (turn.Chunk l) turn.Done i f = absurd i
  groups_tells k p q x new g (turn.Chunk l) (turn.Fault c) i f = absurd i
  groups_tells k p q x new g turn.Quiet u i f = rw i.1 (λ w o e j. f w (record { over = o.over; goes = o.goes }) e j)
  groups_tells k p q x new g turn.Done u i f = rw i.1 (λ w o. f w (record { over = o.over; goes = o.goes }))
  groups_tells k p q x new g (turn.Fault c) u i f = rw i.1 (λ w o. f w (record { over = o.over; goes = o.goes }))

  -- a taker
  module _ (k : ℕ) (p q : Box (Unit {0}) Global) (x new : Rest F) (some : 0 < k) where
    taken_over : (w : ℕ → DeviceTold) → Over b.told w (Take' k p x) → Over b.told w x
    taken_over w o = record { over = λ i j. o.over i (some, j); goes = o.goes }

    taken_on : (m : ℕ) (w : ℕ → DeviceTold) → TellsAtEnd b.told w (Take' k p x) (Take' m q new) → TellsAtEnd b.told w x new
    taken_on m w o = record { over = λ i j never. o.over i (some, j) (λ l. never l.1); goes = o.goes }

    -- where no more is wanted, what is below is left
    took : (l : Load) → Turned P a b s n x new (turn.Chunk l) → TellsOn b.told x new → (m : ℕ) → TellsOn b.told (Take' k p x) (Take' m q new)
    took l h f zero = λ w o e i more. tells_stopped b s x new f (h.ready tt) h.live w (record { over = λ j c. o.over j (some, c) (λ d. absurd (omega (arith, d.0))); goes = o.goes }) e
    took l h f (suc m) = λ w o e i more. f w (taken_on (suc m) w o) e (i (omega arith))

    pub take_tells : (m : ℕ) (t u : Turn) → TakenOf k m t u → Turned P a b s n x new t → TurnTells b.told x new t → TurnTells b.told (Take' k p x) (Take' m q new) u
    take_tells m (turn.Chunk l) (turn.Chunk j) i h f = took l h f m
    take_tells m (turn.Chunk l) turn.Quiet i h f = absurd i
    take_tells m (turn.Chunk l) turn.Done i h f = absurd i
    take_tells m (turn.Chunk l) (turn.Fault c) i h f = absurd i
    take_tells m turn.Quiet u i h f = rw (i.0, i.1) (λ w o e j more. f w (taken_on k w o) e (j some))
    take_tells m turn.Done u i h f = rw i.1 (λ w o more. f w (taken_over w o))
    take_tells m (turn.Fault c) u i h f = rw i.1 (λ w o more. f w (taken_over w o))

  pub take_over_tells : (k : ℕ) (p : Box (Unit {0}) Global) (x : Rest F) → k ≡ 0 → TurnTells b.told (Take' k p x) (Take' k p x) turn.Done
  take_over_tells k p x none = λ w o some. absurd (omega (arith, some, none))

  -- the other of two sides may be left as it stands
  other_left : (y : Rest F) → IsReady b s y → (w : ℕ → DeviceTold) → ((k : ℕ) → IsLive k y → gist (w k) ≡ gist (b.told k)) → RestTells w y Cut
  other_left y ready w o = rest_left b w s y ready (λ k i. stays_well (b.told k) (w k) (o k i))

  module _ (z : Sides) (p q u v : Box (Unit {0}) Global) (x y : Rest F) (r : CanStep P a s (Zip' z p x q y)) where
    zip_left_on : (new : Rest F) (w : Sides) → TellsOn b.told x new → TellsOn b.told (Zip' z p x q y) (Zip' w u new v y)
    zip_left_on new w f = λ d o e.
        let part : (g : End) → RestTells d new g → RestTells d x g = f d (record { over = λ k i never. o.over k (inl i) (elim [ inl j ↦ never j | inr j ↦ r.ready.0.places k i j ]); goes = o.goes }) in
        elim [ inl i ↦ inl (part e i.0, i.1) | inr i ↦ inr (part Cut i.0, i.1) ]

    zip_right_on : (new : Rest F) (w : Sides) → TellsOn b.told y new → TellsOn b.told (Zip' z p x q y) (Zip' w u x v new)
    zip_right_on new w f = λ d o e.
        let part : (g : End) → RestTells d new g → RestTells d y g = f d (record { over = λ k i never. o.over k (inr i) (elim [ inl j ↦ r.ready.0.places k j i | inr j ↦ never j ]); goes = o.goes }) in
        elim [ inl i ↦ inl (i.0, part Cut i.1) | inr i ↦ inr (i.0, part e i.1) ]

    zip_left_loads : (new : Rest F) (w : Sides) (k : ℕ) (m : Load) → TellsOn b.told x new → TurnTells b.told (Zip' z p x q y) (Zip' w u new v y) (load_or_quiet k m)
    zip_left_loads new w zero m f = zip_left_on new w f
    zip_left_loads new w (suc k) m f = zip_left_on new w f

    zip_right_loads : (new : Rest F) (w : Sides) (k : ℕ) (m : Load) → TellsOn b.told y new → TurnTells b.told (Zip' z p x q y) (Zip' w u x v new) (load_or_quiet k m)
    zip_right_loads new w zero m f = zip_right_on new w f
    zip_right_loads new w (suc k) m f = zip_right_on new w f

    zip_left_ends : (new : Rest F) (t : Turn) (e : End) → Turned P a b s n x new t → ((w : ℕ → DeviceTold) → Over b.told w x → RestTells w x e) → (d : ℕ → DeviceTold) → Over b.told d (Zip' z p x q y) → RestTells d (Zip' z p x q y) e
    zip_left_ends new t e h f = λ d o.
        inl (f d (record { over = λ k i. o.over k (inl i); goes = o.goes }), other_left y (other_ready P a b s n x new y t (can_zip_left P a b s n z p q u v x y r) h r.ready.0 r.ready.2) d (λ k i. o.over k (inr i)))

    zip_right_ends : (new : Rest F) (t : Turn) (e : End) → Turned P a b s n y new t → ((w : ℕ → DeviceTold) → Over b.told w y → RestTells w y e) → (d : ℕ → DeviceTold) → Over b.told d (Zip' z p x q y) → RestTells d (Zip' z p x q y) e
    zip_right_ends new t e h f = λ d o.
        inr (other_left x (other_ready P a b s n y new x t (can_zip_right P a b s n z p q u v x y r) h (apart_across a x y r.ready.0) r.ready.1) d (λ k i. o.over k (inl i)), f d (record { over = λ k i. o.over k (inr i); goes = o.goes }))

    pub zip_left_tells : (new : Rest F) (w : Sides) (t o : Turn) → ZipTurn z Left w t o → Turned P a b s n x new t → TurnTells b.told x new t → TurnTells b.told (Zip' z p x q y) (Zip' w u new v y) o
    zip_left_tells new w (turn.Chunk l) o (m, pairs, rows, rest, is) h f = subst (λ i. TurnTells b.told (Zip' z p x q y) (Zip' w u new v y) i) (sym is) (zip_left_loads new w (length (elements m)) m f)
    zip_left_tells new w turn.Quiet o (same, is) h f = subst (λ i. TurnTells b.told (Zip' z p x q y) (Zip' w u new v y) i) (sym is) (zip_left_on new w f)
    zip_left_tells new w turn.Done o (same, is) h f = subst (λ i. TurnTells b.told (Zip' z p x q y) (Zip' w u new v y) i) (sym is) (zip_left_ends new turn.Done Done h f)
    zip_left_tells new w (turn.Fault c) o (same, is) h f = subst (λ i. TurnTells b.told (Zip' z p x q y) (Zip' w u new v y) i) (sym is) (zip_left_ends new (turn.Fault c) (Fault c) h f)

    pub zip_right_tells : (new : Rest F) (w : Sides) (t o : Turn) → ZipTurn z Right w t o → Turned P a b s n y new t → TurnTells b.told y new t → TurnTells b.told (Zip' z p x q y) (Zip' w u x v new) o
    zip_right_tells new w (turn.Chunk l) o (m, pairs, rows, rest, is) h f = subst (λ i. TurnTells b.told (Zip' z p x q y) (Zip' w u x v new) i) (sym is) (zip_right_loads new w (length (elements m)) m f)
    zip_right_tells new w turn.Quiet o (same, is) h f = subst (λ i. TurnTells b.told (Zip' z p x q y) (Zip' w u x v new) i) (sym is) (zip_right_on new w f)
    zip_right_tells new w turn.Done o (same, is) h f = subst (λ i. TurnTells b.told (Zip' z p x q y) (Zip' w u x v new) i) (sym is) (zip_right_ends new turn.Done Done h f)
    zip_right_tells new w (turn.Fault c) o (same, is) h f = subst (λ i. TurnTells b.told (Zip' z p x q y) (Zip' w u x v new) i) (sym is) (zip_right_ends new (turn.Fault c) (Fault c) h f)

  module _ (m : MergeTurns) (p q u v : Box (Unit {0}) Global) (x y : Rest F) (r : CanStep P a s (Merge' m p x q y)) where
    merge_left_on : (new : Rest F) (k : MergeTurns) → TellsOn b.told x new → TellsOn b.told (Merge' m p x q y) (Merge' k u new v y)
    merge_left_on new k f = λ d o e.
        let part : (g : End) → RestTells d new g → RestTells d x g = f d (record { over = λ i j never. o.over i (inl j) (elim [ inl l ↦ never l | inr l ↦ r.ready.0.places i j l ]); goes = o.goes }) in
        elim [ inl i ↦ inl (part e i.0, i.1) | inr i ↦ inr (part Cut i.0, i.1) ]

    merge_right_on : (new : Rest F) (k : MergeTurns) → TellsOn b.told y new → TellsOn b.told (Merge' m p x q y) (Merge' k u x v new)
    merge_right_on new k f = λ d o e.
        let part : (g : End) → RestTells d new g → RestTells d y g = f d (record { over = λ i j never. o.over i (inr j) (elim [ inl l ↦ r.ready.0.places i l j | inr l ↦ never l ]); goes = o.goes }) in
        elim [ inl i ↦ inl (i.0, part Cut i.1) | inr i ↦ inr (i.0, part e i.1) ]

    merge_left_ends : (new : Rest F) (t : Turn) (e : End) → Turned P a b s n x new t → ((w : ℕ → DeviceTold) → Over b.told w x → RestTells w x e) → (d : ℕ → DeviceTold) → Over b.told d (Merge' m p x q y) → RestTells d (Merge' m p x q y) e
    merge_left_ends new t e h f = λ d o.
        inl (f d (record { over = λ k i. o.over k (inl i); goes = o.goes }), other_left y (other_ready P a b s n x new y t (can_merge_left P a b s n m p q u v x y r) h r.ready.0 r.ready.2) d (λ k i. o.over k (inr i)))

    merge_right_ends : (new : Rest F) (t : Turn) (e : End) → Turned P a b s n y new t → ((w : ℕ → DeviceTold) → Over b.told w y → RestTells w y e) → (d : ℕ → DeviceTold) → Over b.told d (Merge' m p x q y) → RestTells d (Merge' m p x q y) e
    merge_right_ends new t e h f = λ d o.
        inr (other_left x (other_ready P a b s n y new x t (can_merge_right P a b s n m p q u v x y r) h (apart_across a x y r.ready.0) r.ready.1) d (λ k i. o.over k (inl i)), f d (record { over = λ k i. o.over k (inr i); goes = o.goes }))

    -- one side has ended: with it the whole, or the other side goes on
    merge_left_done : (new : Rest F) (k : MergeTurns) (i j : Bool) → Turned P a b s n x new turn.Done → ((w : ℕ → DeviceTold) → Over b.told w x → RestTells w x Done) → TurnTells b.told (Merge' m p x q y) (Merge' k u Nil v y) (end_of_sides i j)
    merge_left_done new k true true h f = merge_left_ends new turn.Done Done h f
    merge_left_done new k true false h f = λ d o e. elim [ inl i ↦ inl (gone d o e, i.1) | inr i ↦ inr (gone d o Cut, i.1) ]
      where
        gone : (d : ℕ → DeviceTold) → TellsAtEnd b.told d (Merge' m p x q y) (Merge' k u Nil v y) → (e : End) → RestTells d x e
        gone d o e = rest_any Done e (λ i. i) d x (f d (record { over = λ i j. o.over i (inl j) (elim [ inl l ↦ absurd l | inr l ↦ r.ready.0.places i j l ]); goes = o.goes }))
    merge_left_done new k false j h f = λ d o e. elim [ inl i ↦ inl (gone d o e, i.1) | inr i ↦ inr (gone d o Cut, i.1) ]
      where
        gone : (d : ℕ → DeviceTold) → TellsAtEnd b.told d (Merge' m p x q y) (Merge' k u Nil v y) → (e : End) → RestTells d x e
        gone d o e = rest_any Done e (λ i. i) d x (f d (record { over = λ i j. o.over i (inl j) (elim [ inl l ↦ absurd l | inr l ↦ r.ready.0.places i j l ]); goes = o.goes }))

    merge_right_done : (new : Rest F) (k : MergeTurns) (i j : Bool) → Turned P a b s n y new turn.Done → ((w : ℕ → DeviceTold) → Over b.told w y → RestTells w y Done) → TurnTells b.told (Merge' m p x q y) (Merge' k u x v Nil) (end_of_sides i j)
    merge_right_done new k true true h f = merge_right_ends new turn.Done Done h f
    merge_right_done new k true false h f = λ d o e. elim [ inl i ↦ inl (i.0, gone d o Cut) | inr i ↦ inr (i.0, gone d o e) ]
      where
        gone : (d : ℕ → DeviceTold) → TellsAtEnd b.told d (Merge' m p x q y) (Merge' k u x v Nil) → (e : End) → RestTells d y e
        gone d o e = rest_any Done e (λ i. i) d y (f d (record { over = λ i j. o.over i (inr j) (elim [ inl l ↦ r.ready.0.places i l j | inr l ↦ absurd l ]); goes = o.goes }))
    merge_right_done new k false j h f = λ d o e. elim [ inl i ↦ inl (i.0, gone d o Cut) | inr i ↦ inr (i.0, gone d o e) ]
      where
        gone : (d : ℕ → DeviceTold) → TellsAtEnd b.told d (Merge' m p x q y) (Merge' k u x v Nil) → (e : End) → RestTells d y e
        gone d o e = rest_any Done e (λ i. i) d y (f d (record { over = λ i j. o.over i (inr j) (elim [ inl l ↦ r.ready.0.places i l j | inr l ↦ absurd l ]); goes = o.goes }))

    pub merge_left_tells : (new : Rest F) (k : MergeTurns) (t o : Turn) → MergeTurn m Left k t o → Turned P a b s n x new t → TurnTells b.told x new t → TurnTells b.told (Merge' m p x q y) (Merge' k u (side_left t new) v y) o
    merge_left_tells new k (turn.Chunk l) o (next, is) h f = subst (λ i. TurnTells b.told (Merge' m p x q y) (Merge' k u new v y) i) (sym is) (merge_left_on new k f)
    merge_left_tells new k turn.Quiet o (next, is) h f = subst (λ i. TurnTells b.told (Merge' m p x q y) (Merge' k u new v y) i) (sym is) (merge_left_on new k f)
    merge_left_tells new k turn.Done o (next, is) h f = subst (λ i. TurnTells b.told (Merge' m p x q y) (Merge' k u Nil v y) i) (sym is) (merge_left_done new k (with_ended m Left).left_ended (with_ended m Left).right_ended h f)
    merge_left_tells new k (turn.Fault c) o (next, is) h f = subst (λ i. TurnTells b.told (Merge' m p x q y) (Merge' k u new v y) i) (sym is) (merge_left_ends new (turn.Fault c) (Fault c) h f)

    pub merge_right_tells : (new : Rest F) (k : MergeTurns) (t o : Turn) → MergeTurn m Right k t o → Turned P a b s n y new t → TurnTells b.told y new t → TurnTells b.told (Merge' m p x q y) (Merge' k u x v (side_left t new)) o
    merge_right_tells new k (turn.Chunk l) o (next, is) h f = subst (λ i. TurnTells b.told (Merge' m p x q y) (Merge' k u x v new) i) (sym is) (merge_right_on new k f)
    merge_right_tells new k turn.Quiet o (next, is) h f = subst (λ i. TurnTells b.told (Merge' m p x q y) (Merge' k u x v new) i) (sym is) (merge_right_on new k f)
    merge_right_tells new k turn.Done o (next, is) h f = subst (λ i. TurnTells b.told (Merge' m p x q y) (Merge' k u x v Nil) i) (sym is) (merge_right_done new k (with_ended m Right).left_ended (with_ended m Right).right_ended h f)
    merge_right_tells new k (turn.Fault c) o (next, is) h f = subst (λ i. TurnTells b.told (Merge' m p x q y) (Merge' k u x v new) i) (sym is) (merge_right_ends new (turn.Fault c) (Fault c) h f)
