-- A turn of two sides that are merged, from the turn of the side that was asked.
use Rattle.std.proofs.Common.{◌≡◌, inl, inr, ℕ, ◌+◌, ◌<◌, ◌≤◌, Bool, true, false, List, [], ◌∷◌, ◌++◌, refl, sym, ◌∙◌, ap, subst, arith, Box, Global}
use Rattle.std.proofs.lemmas.Bool.{false≢true}
use Rattle.chunk_core.specs.declared.code.Code.{Code}
use Rattle.chunk_core.specs.declared.load.Load.{Load}
use Rattle.chunk_core.specs.Elements.{Element, LoadKind, elements}
use Rattle.chunk_core.specs.Outcomes.{Cut, Done, End, Fault}
use Rattle.device_port.specs.Device.{DeviceTold}
use Rattle.pull_nodes.specs.Runs.{Exactly, OrLeft}
use Rattle.pull_turns.specs.Around.{Around}
use Rattle.pull_turns.specs.Groups.GaveGroup.{group_left, group_right}
use Rattle.pull_turns.specs.Moves.{MergeTurn, end_of_sides, side_left}
use Rattle.pull_turns.specs.Piping.{HasKind, StateMeaning}
use Rattle.pull_turns.specs.Rest.{AreApart, CanStep, IsReady, IsLive, IsRunOfRest, IsScopeOf, WritesNoMore, left, rows_left, scopes_left}
use Rattle.pull_turns.specs.Turned.{Gave, GivesKind, GoesOn, HasCause, IsLoadOrDone, Leads, Moved, Over, TellsAtEnd, Turned}
use Rattle.pull_turns.specs.Turned.HasFinished.{merge_left, merge_right}
use Rattle.pull_turns.specs.declared.rest.Rest.{Rest}
use Rattle.pull_turns.specs.declared.rest.Rest.TheVariants.{Nil, Merge'}
use Rattle.pull_turns.specs.declared.turn.Turn.{Turn}
use Rattle.pull_turns.specs.declared.turn.Turn.TheVariants as turn
use Rattle.stream_sides.specs.MergeTurns.{IsGoing, MergeTurns, with_ended}
use Rattle.stream_sides.specs.Sides.{other}
use Rattle.stream_sides.specs.declared.side.Side.TheVariants.{Left, Right}
use Rattle.pull_turns.proofs.Apart.{apart_across, other_ready, other_spared, still_apart}
use Rattle.pull_turns.proofs.Leads.{by_left, can_stop, left_earlier}
use Rattle.pull_turns.proofs.Merges.{by_merged_left, by_merged_right, merged_ends, merged_stops}
use Rattle.pull_turns.proofs.Steps.{opened_in}
use Rattle.pull_turns.proofs.Turns.{caused_whole, cause_none, cause_part, chunk_goes_on, moved_part, quiet_goes_on, by_three}
use Rattle.pull_turns.proofs.Unwritten.{writes_no_more, stays_well}

-- nothing is left
abbrev none_of : (F : Type 0) → Rest F
none_of F = Nil

-- what is left of a side that came to its end has the run of it alone
nothing_left : {F : Type 0} (P : StateMeaning F) (d : ℕ → DeviceTold) (r : Rest F) → IsRunOfRest P d r [] Done → Leads [] (IsRunOfRest P d (none_of F)) (IsRunOfRest P d r)
nothing_left P d r h = record { gives = by }
  where
    none : (xs ys : List Element) → xs ++ ys ≡ [] → xs ≡ []
    none [] ys e = refl
    none (x ∷ xs) ys e = cc

    by : (ys : List Element) (e : End) → OrLeft (Unit {0}) (Exactly [] Done) ys e → IsRunOfRest P d r ys e
    by ys e (inl (list, end)) = subst (λ g. IsRunOfRest P d r ys g) (sym end) (subst (λ xs. IsRunOfRest P d r xs Done) (sym list) h)
    by ys e (inr (cut, inl (list, idle))) = subst (λ g. IsRunOfRest P d r ys g) (sym cut) (subst (λ xs. IsRunOfRest P d r xs Cut) (sym list) (left_earlier P d r [] [] Done h))
    by ys e (inr (cut, inr (more, g, is))) = subst (λ g. IsRunOfRest P d r ys g) (sym cut) (subst (λ xs. IsRunOfRest P d r xs Cut) (sym (none ys more is.0)) (left_earlier P d r [] [] Done h))

module _ {F : Type 0} (P : StateMeaning F) (a b : Around) (s n : ℕ) (m : MergeTurns) (p q u v : Box (Unit {0}) Global) (x y : Rest F) (r : CanStep P a s (Merge' m p x q y)) where
  pub can_merge_left : CanStep P a s x
  can_merge_left = record { ready = r.ready.1; pipes = r.pipes.0; nested = r.nested; opened = r.opened; events = omega (arith, r.events); scopes = omega (arith, r.scopes); rows = omega (arith, r.rows) }

  pub can_merge_right : CanStep P a s y
  can_merge_right = record { ready = r.ready.2; pipes = r.pipes.1; nested = r.nested; opened = r.opened; events = omega (arith, r.events); scopes = omega (arith, r.scopes); rows = omega (arith, r.rows) }

  module _ (new : Rest F) (is_going : m.left_ended ≡ false) where
    over_whole_left : (d : ℕ → DeviceTold) → Over b.told d (Merge' m p x q y) → Over b.told d x
    over_whole_left d o = record { over = λ k i. o.over k (inl i); goes = o.goes }

    -- the other side may be left as it stands
    left_other_stops : (t : Turn) → Turned P a b s n x new t → (d : ℕ → DeviceTold) → Over b.told d (Merge' m p x q y) → IsRunOfRest P d y [] Cut
    left_other_stops t h d o =
        can_stop P d y (writes_no_more b d s y (other_ready P a b s n x new y t (can_merge_left) h r.ready.0 r.ready.2) (λ k i. stays_well (b.told k) (d k) (o.over k (inr i))))

    -- a turn that goes on, after which the other side is next
    left_goes_on : (t : Turn) → GoesOn t → ((k : LoadKind) → HasKind P k (Merge' m p x q y) → GivesKind P k (Merge' (record m { turn = other Left }) u new v y) t) → Turned P a b s n x new t → Gave P b.told (Merge' m p x q y) (Merge' (record m { turn = other Left }) u new v y) t → Turned P a b s n (Merge' m p x q y) (Merge' (record m { turn = other Left }) u new v y) t
    left_goes_on t g kinds h gave =
        let can = can_merge_left in
        let other_side = other_ready P a b s n x new y t can h r.ready.0 r.ready.2 in
        record {
          moved = moved_part a b x (Merge' m p x q y) (λ k i. inl i) (λ c i. inl i) h.moved;
          once = h.once;
          writes = h.writes;
          live = λ k. elim [ inl i ↦ inl (h.live k i) | inr i ↦ inr i ];
          fewer = omega (arith, h.fewer);
          spends = record { events = omega (arith, h.spends.events); scopes = omega (arith, h.spends.scopes); rows = omega (arith, h.spends.rows) };
          ready = λ _. (still_apart P a b s n x new y t can h r.ready.0 r.ready.2 g, h.ready g, other_side, r.ready.3, (λ i. absurd (false≢true (sym is_going ∙ i))), r.ready.5);
          scopes = λ _ c. elim [
            | inl j ↦ elim (h.scopes g c j) [ inl k ↦ inl (inl k.0, k.1) | inr k ↦ inr (opened_in a b s (λ e. IsScopeOf e x) (λ e. IsScopeOf e (Merge' m p x q y)) c (λ e i. inl i) k) ]
            | inr j ↦ inl (inr j, (h.moved.keeps.stays c (other_spared P a b s n x new y t can h r.ready.0 r.ready.2 c j)).within)
          ];
          pipes = λ _. (h.pipes g, r.pipes.1);
          kinds = kinds;
          caused = caused_whole P a.told b.told x new (Merge' m p x q y) (Merge' (record m { turn = other Left }) u new v y) t (λ l. omega (arith, l)) (λ k j. inl j) (λ f. merge_left m (record m { turn = other Left }) p q u v x new y f) (λ xs f. group_left m (record m { turn = other Left }) p q u v x new y f) h.caused;
          cause = cause_part a.told b.told x (Merge' m p x q y) t (λ k i. inl i) h.cause;
          gave = gave;
        }

    ends_left_part : (d : ℕ → DeviceTold) → TellsAtEnd b.told d (Merge' m p x q y) (Merge' (record m { turn = other Left }) u new v y) → TellsAtEnd b.told d x new
    ends_left_part d e = record { over = λ k i never. e.over k (inl i) (elim [ inl j ↦ never j | inr j ↦ r.ready.0.places k i j ]); goes = e.goes }

    -- the side has ended, and the other goes on
    left_ended : m.right_ended ≡ false → Turned P a b s n x new turn.Done → Turned P a b s n (Merge' m p x q y) (Merge' (with_ended m Left) u Nil v y) turn.Quiet
    left_ended other_going h =
        let can = can_merge_left in
        let other_side = other_ready P a b s n x new y turn.Done can h r.ready.0 r.ready.2 in
        record {
          moved = moved_part a b x (Merge' m p x q y) (λ k i. inl i) (λ c i. inl i) h.moved;
          once = h.once;
          writes = λ i. absurd i;
          live = λ k. elim [ inl i ↦ absurd i | inr i ↦ inr i ];
          fewer = rw (is_going, other_going) (omega arith);
          spends = record { events = omega (arith, h.spends.events); scopes = omega (arith, h.spends.scopes); rows = omega (arith, h.spends.rows) };
          ready = λ _. (record { places = λ k i j. absurd i; scopes = λ c d i j. absurd i }, tt, other_side, inr other_going, (λ i. refl), r.ready.5);
          scopes = λ _ c. elim [ inl j ↦ absurd j | inr j ↦ inl (inr j, (h.moved.keeps.stays c (other_spared P a b s n x new y turn.Done can h r.ready.0 r.ready.2 c j)).within) ];
          pipes = λ _. (tt, r.pipes.1);
          kinds = λ k i. (tt, i.1);
          caused = inl (rw (is_going, other_going) (omega arith));
          cause = cause_none a.told b.told (Merge' m p x q y) turn.Quiet quiet_goes_on;
          gave = λ d e. by_left (by_merged_left [] (IsRunOfRest P d x) (IsRunOfRest P d (none_of F)) (IsRunOfRest P d y) (WritesNoMore d x) (Unit {0}) (WritesNoMore d y) (nothing_left P d x (h.gave d (over_ended_left d e))) (λ i. can_stop P d (none_of F) tt)) (λ i. merged_stops (IsRunOfRest P d (none_of F)) (IsRunOfRest P d y) (Unit {0}) (WritesNoMore d y) (can_stop P d (none_of F) tt) (can_stop P d y i.1));
        }
      where
        over_ended_left : (d : ℕ → DeviceTold) → TellsAtEnd b.told d (Merge' m p x q y) (Merge' (with_ended m Left) u Nil v y) → Over b.told d x
        over_ended_left d e = record { over = λ k i. e.over k (inl i) (elim [ inl j ↦ absurd j | inr j ↦ r.ready.0.places k i j ]); goes = e.goes }

    -- the side ends, and with it the whole
    left_ends_whole : (k : MergeTurns) (z : Rest F) (t : Turn) → (GoesOn t → ⊥) → ((c : LoadKind) → GivesKind P c (Merge' k u z v y) t) → (IsLoadOrDone t → IsLoadOrDone t) → Turned P a b s n x new t → left (Merge' k u z v y) ≤ left (Merge' m p x q y)
        → rows_left z ≤ rows_left new → scopes_left z ≤ scopes_left new → ((i : ℕ) → IsLive i z → IsLive i new) → Gave P b.told (Merge' m p x q y) (Merge' k u z v y) t → Turned P a b s n (Merge' m p x q y) (Merge' k u z v y) t
    left_ends_whole k z t never kinds same h fewer rows rooms live gave = record {
      moved = moved_part a b x (Merge' m p x q y) (λ k i. inl i) (λ c i. inl i) h.moved;
      once = h.once;
      writes = h.writes;
      live = λ i. elim [ inl j ↦ inl (h.live i (live i j)) | inr j ↦ inr (j) ];
      fewer = fewer;
      spends = record { events = omega (arith, rows, rooms, h.spends.events); scopes = omega (arith, rooms, h.spends.scopes); rows = omega (arith, rows, h.spends.rows) };
      ready = λ i. absurd (never i);
      scopes = λ i. absurd (never i);
      pipes = λ i. absurd (never i);
      kinds = λ c i. kinds c;
      caused = by_three P a.told b.told (Merge' m p x q y) (Merge' k u z v y) t (λ i. absurd (never i));
      cause = cause_part a.told b.told x (Merge' m p x q y) t (λ k i. inl i) h.cause;
      gave = gave;
    }

    pub merge_left_step : (k : MergeTurns) (t o : Turn) → MergeTurn m Left k t o → Turned P a b s n x new t → Turned P a b s n (Merge' m p x q y) (Merge' k u (side_left t new) v y) o
    merge_left_step k (turn.Chunk l) o (next, is) h = subst (λ i. Turned P a b s n (Merge' m p x q y) (Merge' k u new v y) i) (sym is) (subst (λ c. Turned P a b s n (Merge' m p x q y) (Merge' c u new v y) (turn.Chunk l)) (sym next)
        (left_goes_on (turn.Chunk l) tt (λ c i. let j = h.kinds c i.0 in (j.0, (j.1, i.1))) h (h.gave.0, λ d e. by_left (by_merged_left (elements l) (IsRunOfRest P d x) (IsRunOfRest P d new) (IsRunOfRest P d y) (WritesNoMore d x) (WritesNoMore d new) (WritesNoMore d y) (h.gave.1 d (ends_left_part d e)) (λ i. can_stop P d new i)) (λ i. merged_stops (IsRunOfRest P d new) (IsRunOfRest P d y) (WritesNoMore d new) (WritesNoMore d y) (can_stop P d new i.0) (can_stop P d y i.1)))))
    merge_left_step k turn.Quiet o (next, is) h = subst (λ i. Turned P a b s n (Merge' m p x q y) (Merge' k u new v y) i) (sym is) (subst (λ c. Turned P a b s n (Merge' m p x q y) (Merge' c u new v y) turn.Quiet) (sym next)
        (left_goes_on turn.Quiet tt (λ c i. (h.kinds c i.0, i.1)) h (λ d e. by_left (by_merged_left [] (IsRunOfRest P d x) (IsRunOfRest P d new) (IsRunOfRest P d y) (WritesNoMore d x) (WritesNoMore d new) (WritesNoMore d y) (h.gave d (ends_left_part d e)) (λ i. can_stop P d new i)) (λ i. merged_stops (IsRunOfRest P d new) (IsRunOfRest P d y) (WritesNoMore d new) (WritesNoMore d y) (can_stop P d new i.0) (can_stop P d y i.1)))))
    merge_left_step k turn.Done o (next, is) h = subst (λ i. Turned P a b s n (Merge' m p x q y) (Merge' k u Nil v y) i) (sym is) (subst (λ c. Turned P a b s n (Merge' m p x q y) (Merge' c u Nil v y) (end_of_sides (with_ended m Left).left_ended (with_ended m Left).right_ended)) (sym next) (by m.right_ended refl))
      where
        by : (o : Bool) → m.right_ended ≡ o → Turned P a b s n (Merge' m p x q y) (Merge' (with_ended m Left) u Nil v y) (end_of_sides true m.right_ended)
        by false e = subst (λ i. Turned P a b s n (Merge' m p x q y) (Merge' (with_ended m Left) u Nil v y) (end_of_sides true i)) (sym e) (left_ended e h)
        by true e = subst (λ i. Turned P a b s n (Merge' m p x q y) (Merge' (with_ended m Left) u Nil v y) (end_of_sides true i)) (sym e)
            (left_ends_whole (with_ended m Left) Nil turn.Done (λ i. i) (λ c. tt) (λ i. i) h (rw (is_going, e) (omega arith)) (omega arith) (omega arith) (λ i j. absurd j)
            (λ d o. inl (merged_ends (IsRunOfRest P d x) (IsRunOfRest P d y) (WritesNoMore d x) (WritesNoMore d y) Done Done Done (h.gave d (over_whole_left d o)) (subst (λ c. IsRunOfRest P d c [] Done) (sym (r.ready.5 e)) (inl (refl, refl))) (refl, refl))))
    merge_left_step k (turn.Fault c) o (next, is) h = subst (λ i. Turned P a b s n (Merge' m p x q y) (Merge' k u new v y) i) (sym is) (subst (λ j. Turned P a b s n (Merge' m p x q y) (Merge' j u new v y) (turn.Fault c)) (sym next)
        (left_ends_whole m new (turn.Fault c) (λ i. i) (λ j. tt) (λ i. i) h (omega (arith, h.fewer)) (omega arith) (omega arith) (λ i j. j) (λ d o. inl (merged_ends (IsRunOfRest P d x) (IsRunOfRest P d y) (WritesNoMore d x) (WritesNoMore d y) (Fault c) Cut (Fault c) (h.gave d (over_whole_left d o)) (left_other_stops (turn.Fault c) h d o) (inl refl)))))

  module _ (new : Rest F) (is_going : m.right_ended ≡ false) where
    over_whole_right : (d : ℕ → DeviceTold) → Over b.told d (Merge' m p x q y) → Over b.told d y
    over_whole_right d o = record { over = λ k i. o.over k (inr i); goes = o.goes }

    -- the other side may be left as it stands
    right_other_stops : (t : Turn) → Turned P a b s n y new t → (d : ℕ → DeviceTold) → Over b.told d (Merge' m p x q y) → IsRunOfRest P d x [] Cut
    right_other_stops t h d o =
        can_stop P d x (writes_no_more b d s x (other_ready P a b s n y new x t (can_merge_right) h (apart_across a x y r.ready.0) r.ready.1) (λ k i. stays_well (b.told k) (d k) (o.over k (inl i))))

    -- a turn that goes on, after which the other side is next
    right_goes_on : (t : Turn) → GoesOn t → ((k : LoadKind) → HasKind P k (Merge' m p x q y) → GivesKind P k (Merge' (record m { turn = other Right }) u x v new) t) → Turned P a b s n y new t → Gave P b.told (Merge' m p x q y) (Merge' (record m { turn = other Right }) u x v new) t → Turned P a b s n (Merge' m p x q y) (Merge' (record m { turn = other Right }) u x v new) t
    right_goes_on t g kinds h gave =
        let can = can_merge_right in
        let other_side = other_ready P a b s n y new x t can h (apart_across a x y r.ready.0) r.ready.1 in
        record {
          moved = moved_part a b y (Merge' m p x q y) (λ k i. inr i) (λ c i. inr i) h.moved;
          once = h.once;
          writes = h.writes;
          live = λ k. elim [ inl i ↦ inl i | inr i ↦ inr (h.live k i) ];
          fewer = omega (arith, h.fewer);
          spends = record { events = omega (arith, h.spends.events); scopes = omega (arith, h.spends.scopes); rows = omega (arith, h.spends.rows) };
          ready = λ _. (apart_across b new x (still_apart P a b s n y new x t can h (apart_across a x y r.ready.0) r.ready.1 g), other_side, h.ready g, r.ready.3, r.ready.4, (λ i. absurd (false≢true (sym is_going ∙ i))));
          scopes = λ _ c. elim [
            | inl j ↦ inl (inl j, (h.moved.keeps.stays c (other_spared P a b s n y new x t can h (apart_across a x y r.ready.0) r.ready.1 c j)).within)
            | inr j ↦ elim (h.scopes g c j) [ inl k ↦ inl (inr k.0, k.1) | inr k ↦ inr (opened_in a b s (λ e. IsScopeOf e y) (λ e. IsScopeOf e (Merge' m p x q y)) c (λ e i. inr i) k) ]
          ];
          pipes = λ _. (r.pipes.0, h.pipes g);
          kinds = kinds;
          caused = caused_whole P a.told b.told y new (Merge' m p x q y) (Merge' (record m { turn = other Right }) u x v new) t (λ l. omega (arith, l)) (λ k j. inr j) (λ f. merge_right m (record m { turn = other Right }) p q u v x y new f) (λ xs f. group_right m (record m { turn = other Right }) p q u v x y new f) h.caused;
          cause = cause_part a.told b.told y (Merge' m p x q y) t (λ k i. inr i) h.cause;
          gave = gave;
        }

    ends_right_part : (d : ℕ → DeviceTold) → TellsAtEnd b.told d (Merge' m p x q y) (Merge' (record m { turn = other Right }) u x v new) → TellsAtEnd b.told d y new
    ends_right_part d e = record { over = λ k i never. e.over k (inr i) (elim [ inl j ↦ r.ready.0.places k j i | inr j ↦ never j ]); goes = e.goes }

    -- the side has ended, and the other goes on
    right_ended : m.left_ended ≡ false → Turned P a b s n y new turn.Done → Turned P a b s n (Merge' m p x q y) (Merge' (with_ended m Right) u x v Nil) turn.Quiet
    right_ended other_going h =
        let can = can_merge_right in
        let other_side = other_ready P a b s n y new x turn.Done can h (apart_across a x y r.ready.0) r.ready.1 in
        record {
          moved = moved_part a b y (Merge' m p x q y) (λ k i. inr i) (λ c i. inr i) h.moved;
          once = h.once;
          writes = λ i. absurd i;
          live = λ k. elim [ inl i ↦ inl i | inr i ↦ absurd i ];
          fewer = rw (is_going, other_going) (omega arith);
          spends = record { events = omega (arith, h.spends.events); scopes = omega (arith, h.spends.scopes); rows = omega (arith, h.spends.rows) };
          ready = λ _. (record { places = λ k i j. absurd j; scopes = λ c d i j. absurd j }, other_side, tt, inl other_going, r.ready.4, (λ i. refl));
          scopes = λ _ c. elim [ inl j ↦ inl (inl j, (h.moved.keeps.stays c (other_spared P a b s n y new x turn.Done can h (apart_across a x y r.ready.0) r.ready.1 c j)).within) | inr j ↦ absurd j ];
          pipes = λ _. (r.pipes.0, tt);
          kinds = λ k i. (i.0, tt);
          caused = inl (rw (is_going, other_going) (omega arith));
          cause = cause_none a.told b.told (Merge' m p x q y) turn.Quiet quiet_goes_on;
          gave = λ d e. by_left (by_merged_right [] (IsRunOfRest P d x) (IsRunOfRest P d y) (IsRunOfRest P d (none_of F)) (WritesNoMore d x) (WritesNoMore d y) (Unit {0}) (nothing_left P d y (h.gave d (over_ended_right d e))) (λ i. can_stop P d (none_of F) tt)) (λ i. merged_stops (IsRunOfRest P d x) (IsRunOfRest P d (none_of F)) (WritesNoMore d x) (Unit {0}) (can_stop P d x i.0) (can_stop P d (none_of F) tt));
        }
      where
        over_ended_right : (d : ℕ → DeviceTold) → TellsAtEnd b.told d (Merge' m p x q y) (Merge' (with_ended m Right) u x v Nil) → Over b.told d y
        over_ended_right d e = record { over = λ k i. e.over k (inr i) (elim [ inl j ↦ r.ready.0.places k j i | inr j ↦ absurd j ]); goes = e.goes }

    -- the side ends, and with it the whole
    right_ends_whole : (k : MergeTurns) (z : Rest F) (t : Turn) → (GoesOn t → ⊥) → ((c : LoadKind) → GivesKind P c (Merge' k u x v z) t) → (IsLoadOrDone t → IsLoadOrDone t) → Turned P a b s n y new t → left (Merge' k u x v z) ≤ left (Merge' m p x q y)
        → rows_left z ≤ rows_left new → scopes_left z ≤ scopes_left new → ((i : ℕ) → IsLive i z → IsLive i new) → Gave P b.told (Merge' m p x q y) (Merge' k u x v z) t → Turned P a b s n (Merge' m p x q y) (Merge' k u x v z) t
    right_ends_whole k z t never kinds same h fewer rows rooms live gave = record {
      moved = moved_part a b y (Merge' m p x q y) (λ k i. inr i) (λ c i. inr i) h.moved;
      once = h.once;
      writes = h.writes;
      live = λ i. elim [ inl j ↦ inl (j) | inr j ↦ inr (h.live i (live i j)) ];
      fewer = fewer;
      spends = record { events = omega (arith, rows, rooms, h.spends.events); scopes = omega (arith, rooms, h.spends.scopes); rows = omega (arith, rows, h.spends.rows) };
      ready = λ i. absurd (never i);
      scopes = λ i. absurd (never i);
      pipes = λ i. absurd (never i);
      kinds = λ c i. kinds c;
      caused = by_three P a.told b.told (Merge' m p x q y) (Merge' k u x v z) t (λ i. absurd (never i));
      cause = cause_part a.told b.told y (Merge' m p x q y) t (λ k i. inr i) h.cause;
      gave = gave;
    }

    pub merge_right_step : (k : MergeTurns) (t o : Turn) → MergeTurn m Right k t o → Turned P a b s n y new t → Turned P a b s n (Merge' m p x q y) (Merge' k u x v (side_left t new)) o
    merge_right_step k (turn.Chunk l) o (next, is) h = subst (λ i. Turned P a b s n (Merge' m p x q y) (Merge' k u x v new) i) (sym is) (subst (λ c. Turned P a b s n (Merge' m p x q y) (Merge' c u x v new) (turn.Chunk l)) (sym next)
        (right_goes_on (turn.Chunk l) tt (λ c i. let j = h.kinds c i.1 in (j.0, (i.0, j.1))) h (h.gave.0, λ d e. by_left (by_merged_right (elements l) (IsRunOfRest P d x) (IsRunOfRest P d y) (IsRunOfRest P d new) (WritesNoMore d x) (WritesNoMore d y) (WritesNoMore d new) (h.gave.1 d (ends_right_part d e)) (λ i. can_stop P d new i)) (λ i. merged_stops (IsRunOfRest P d x) (IsRunOfRest P d new) (WritesNoMore d x) (WritesNoMore d new) (can_stop P d x i.0) (can_stop P d new i.1)))))
    merge_right_step k turn.Quiet o (next, is) h = subst (λ i. Turned P a b s n (Merge' m p x q y) (Merge' k u x v new) i) (sym is) (subst (λ c. Turned P a b s n (Merge' m p x q y) (Merge' c u x v new) turn.Quiet) (sym next)
        (right_goes_on turn.Quiet tt (λ c i. (i.0, h.kinds c i.1)) h (λ d e. by_left (by_merged_right [] (IsRunOfRest P d x) (IsRunOfRest P d y) (IsRunOfRest P d new) (WritesNoMore d x) (WritesNoMore d y) (WritesNoMore d new) (h.gave d (ends_right_part d e)) (λ i. can_stop P d new i)) (λ i. merged_stops (IsRunOfRest P d x) (IsRunOfRest P d new) (WritesNoMore d x) (WritesNoMore d new) (can_stop P d x i.0) (can_stop P d new i.1)))))
    merge_right_step k turn.Done o (next, is) h = subst (λ i. Turned P a b s n (Merge' m p x q y) (Merge' k u x v Nil) i) (sym is) (subst (λ c. Turned P a b s n (Merge' m p x q y) (Merge' c u x v Nil) (end_of_sides (with_ended m Right).left_ended (with_ended m Right).right_ended)) (sym next) (by m.left_ended refl))
      where
        by : (o : Bool) → m.left_ended ≡ o → Turned P a b s n (Merge' m p x q y) (Merge' (with_ended m Right) u x v Nil) (end_of_sides m.left_ended true)
        by false e = subst (λ i. Turned P a b s n (Merge' m p x q y) (Merge' (with_ended m Right) u x v Nil) (end_of_sides i true)) (sym e) (right_ended e h)
        by true e = subst (λ i. Turned P a b s n (Merge' m p x q y) (Merge' (with_ended m Right) u x v Nil) (end_of_sides i true)) (sym e)
            (right_ends_whole (with_ended m Right) Nil turn.Done (λ i. i) (λ c. tt) (λ i. i) h (rw (is_going, e) (omega arith)) (omega arith) (omega arith) (λ i j. absurd j)
            (λ d o. inl (merged_ends (IsRunOfRest P d x) (IsRunOfRest P d y) (WritesNoMore d x) (WritesNoMore d y) Done Done Done (subst (λ c. IsRunOfRest P d c [] Done) (sym (r.ready.4 e)) (inl (refl, refl))) (h.gave d (over_whole_right d o)) (refl, refl))))
    merge_right_step k (turn.Fault c) o (next, is) h = subst (λ i. Turned P a b s n (Merge' m p x q y) (Merge' k u x v new) i) (sym is) (subst (λ j. Turned P a b s n (Merge' m p x q y) (Merge' j u x v new) (turn.Fault c)) (sym next)
        (right_ends_whole m new (turn.Fault c) (λ i. i) (λ j. tt) (λ i. i) h (omega (arith, h.fewer)) (omega arith) (omega arith) (λ i j. j) (λ d o. inl (merged_ends (IsRunOfRest P d x) (IsRunOfRest P d y) (WritesNoMore d x) (WritesNoMore d y) Cut (Fault c) (Fault c) (right_other_stops (turn.Fault c) h d o) (h.gave d (over_whole_right d o)) (inr refl)))))

-- what was touched of a side
pub merge_left_moved : {F : Type 0} (a b : Around) (m : MergeTurns) (p q : Box (Unit {0}) Global) (x y : Rest F) → Moved a b x → Moved a b (Merge' m p x q y)
merge_left_moved a b m p q x y h = moved_part a b x (Merge' m p x q y) (λ k i. inl i) (λ c i. inl i) h

pub merge_right_moved : {F : Type 0} (a b : Around) (m : MergeTurns) (p q : Box (Unit {0}) Global) (x y : Rest F) → Moved a b y → Moved a b (Merge' m p x q y)
merge_right_moved a b m p q x y h = moved_part a b y (Merge' m p x q y) (λ k i. inr i) (λ c i. inr i) h
