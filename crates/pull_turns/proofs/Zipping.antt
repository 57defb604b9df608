-- A turn of two sides whose lines are paired, from the turn of the side that was asked.
use Rattle.std.proofs.Common.{◌≡◌, inl, inr, ℕ, zero, suc, ◌+◌, ◌<◌, List, [], ◌∷◌, ◌++◌, length, refl, sym, ◌∙◌, ap, subst, arith, Box, Global}
use Rattle.chunk_core.specs.declared.code.Code.{Code}
use Rattle.chunk_core.specs.declared.load.Load.{Load}
use Rattle.chunk_core.specs.Elements.{Element, LoadKind, elements, kind_of}
use Rattle.chunk_core.specs.Elements.LoadKind.{Lines, Rows}
use Rattle.chunk_core.specs.Outcomes.{Cut, Done, End, Fault}
use Rattle.device_port.specs.Device.{DeviceTold}
use Rattle.pull_nodes.specs.Runs.{Zipped}
use Rattle.pull_turns.specs.Around.{Around}
use Rattle.pull_turns.specs.Groups.{HasNoGroups}
use Rattle.pull_turns.specs.Moves.{GivesLines, ZipTurn, load_or_quiet}
use Rattle.pull_turns.specs.Piping.{Behind, HasKind, StateMeaning}
use Rattle.pull_turns.specs.Rest.{CanStep, IsRunOfRest, IsScopeOf, WritesNoMore}
use Rattle.pull_turns.specs.Turned.{Gave, GivesKind, GoesOn, HasCause, IsLoadOrDone, Leads, Moved, Over, TellsAtEnd, Turned}
use Rattle.pull_turns.specs.Turned.HasFinished.{zip_left, zip_right}
use Rattle.pull_turns.specs.declared.rest.Rest.{Rest}
use Rattle.pull_turns.specs.declared.rest.Rest.TheVariants.{Zip'}
use Rattle.pull_turns.specs.declared.turn.Turn.{Turn}
use Rattle.pull_turns.specs.declared.turn.Turn.TheVariants as turn
use Rattle.stream_sides.specs.Sides.{IsNeeded, Sides, paired, unpaired, with_more}
use Rattle.stream_sides.specs.declared.side.Side.TheVariants.{Left, Right}
use Rattle.pull_turns.proofs.Apart.{apart_across, other_ready, other_spared, still_apart}
use Rattle.pull_turns.proofs.Leads.{by_left, can_stop}
use Rattle.pull_turns.proofs.Lists.{no_length}
use Rattle.pull_turns.proofs.Steps.{opened_in}
use Rattle.pull_turns.proofs.Turns.{by_three, caused_part, cause_none, cause_part, chunk_goes_on, moved_part, one_of_three, quiet_goes_on}
use Rattle.pull_turns.proofs.Unwritten.{writes_no_more, stays_well}
use Rattle.pull_turns.proofs.Zips.{by_zipped_left, by_zipped_right, by_zipped_same, zipped_left_ends, zipped_right_ends, zipped_stops}

-- after a turn that goes on the side gives lines on
lines_on : {F : Type 0} (P : StateMeaning F) (new : Rest F) (t : Turn) → GoesOn t → GivesKind P Lines new t → HasKind P Lines new
lines_on P new (turn.Chunk l) g h = h.1
lines_on P new turn.Quiet g h = h
lines_on P new turn.Done g h = absurd g
lines_on P new (turn.Fault c) g h = absurd g

-- a turn of a side that may give lines alone gives lines
pub gives_lines : {F : Type 0} (P : StateMeaning F) (a b : Around) (s n : ℕ) (x new : Rest F) (t : Turn) → HasKind P Lines x → Turned P a b s n x new t → GivesLines t
gives_lines P a b s n x new (turn.Chunk l) k h = (h.kinds Lines k).0
gives_lines P a b s n x new turn.Quiet k h = tt
gives_lines P a b s n x new turn.Done k h = tt
gives_lines P a b s n x new (turn.Fault c) k h = tt

module _ {F : Type 0} (P : StateMeaning F) (a b : Around) (s n : ℕ) (z : Sides) (p q u v : Box (Unit {0}) Global) (x y : Rest F) (r : CanStep P a s (Zip' z p x q y)) where
  pub can_zip_left : CanStep P a s x
  can_zip_left = record { ready = r.ready.1; pipes = r.pipes.0.0; nested = r.nested; opened = r.opened; events = omega (arith, r.events); scopes = omega (arith, r.scopes); rows = omega (arith, r.rows) }

  pub can_zip_right : CanStep P a s y
  can_zip_right = record { ready = r.ready.2; pipes = r.pipes.0.1; nested = r.nested; opened = r.opened; events = omega (arith, r.events); scopes = omega (arith, r.scopes); rows = omega (arith, r.rows) }

  module _ (new : Rest F) (still : HasNoGroups new) where
    ends_left : (d : ℕ → DeviceTold) (w : Sides) → TellsAtEnd b.told d (Zip' z p x q y) (Zip' w u new v y) → TellsAtEnd b.told d x new
    ends_left d w e = record { over = λ k i never. e.over k (inl i) (elim [ inl j ↦ never j | inr j ↦ r.ready.0.places k i j ]); goes = e.goes }

    over_left : (d : ℕ → DeviceTold) → Over b.told d (Zip' z p x q y) → Over b.told d x
    over_left d o = record { over = λ k i. o.over k (inl i); goes = o.goes }

    -- a turn of the left side is one of the whole, but for what comes of it
    left_asked : (w : Sides) (t o : Turn) → (GoesOn o → GoesOn t) → (IsLoadOrDone o → IsLoadOrDone t) → HasCause a.told b.told x o → ((k : LoadKind) → k ≡ Rows → GivesKind P k (Zip' w u new v y) o)
        → Turned P a b s n x new t → Gave P b.told (Zip' z p x q y) (Zip' w u new v y) o → Turned P a b s n (Zip' z p x q y) (Zip' w u new v y) o
    left_asked w t o on gives cause kinds h gave =
        let can = can_zip_left in
        let other = other_ready P a b s n x new y t can h r.ready.0 r.ready.2 in
        record {
          moved = moved_part a b x (Zip' z p x q y) (λ k i. inl i) (λ c i. inl i) h.moved;
          once = h.once;
          writes = λ i. h.writes (gives i);
          live = λ k. elim [ inl i ↦ inl (h.live k i) | inr i ↦ inr i ];
          fewer = omega (arith, h.fewer);
          spends = record { events = omega (arith, h.spends.events); scopes = omega (arith, h.spends.scopes); rows = omega (arith, h.spends.rows) };
          ready = λ i. (still_apart P a b s n x new y t can h r.ready.0 r.ready.2 (on i), h.ready (on i), other, still, r.ready.4);
          scopes = λ i c. elim [
            | inl j ↦ elim (h.scopes (on i) c j) [ inl k ↦ inl (inl k.0, k.1) | inr k ↦ inr (opened_in a b s (λ e. IsScopeOf e x) (λ e. IsScopeOf e (Zip' z p x q y)) c (λ e g. inl g) k) ]
            | inr j ↦ inl (inr j, (h.moved.keeps.stays c (other_spared P a b s n x new y t can h r.ready.0 r.ready.2 c j)).within)
          ];
          pipes = λ i. ((h.pipes (on i), r.pipes.0.1), lines_on P new t (on i) (h.kinds Lines r.pipes.1), r.pipes.2);
          kinds = kinds;
          caused = by_three P a.told b.told (Zip' z p x q y) (Zip' w u new v y) o
              (λ i. caused_part P a.told b.told x new (Zip' z p x q y) (Zip' w u new v y) (λ l. omega (arith, l)) (λ k j. inl j) (λ e. zip_left z w p q u v x new y e) (one_of_three P a.told b.told x new t r.ready.3 h.caused (on i)));
          cause = cause_part a.told b.told x (Zip' z p x q y) o (λ k i. inl i) cause;
          gave = gave;
        }

    -- the other side may be left as it stands
    left_stops : (t : Turn) → Turned P a b s n x new t → (d : ℕ → DeviceTold) → Over b.told d (Zip' z p x q y) → IsRunOfRest P d y [] Cut
    left_stops t h d o =
        can_stop P d y (writes_no_more b d s y (other_ready P a b s n x new y t (can_zip_left) h r.ready.0 r.ready.2) (λ k i. stays_well (b.told k) (d k) (o.over k (inr i))))

    pub zip_left_step : (w : Sides) (t o : Turn) → z.left ≡ [] → ZipTurn z Left w t o → Turned P a b s n x new t → Turned P a b s n (Zip' z p x q y) (Zip' w u new v y) o
    zip_left_step w (turn.Chunk l) o asked (m, pairs, rows, rest, is) h = subst (λ i. Turned P a b s n (Zip' z p x q y) (Zip' w u new v y) i) (sym is) (by_count (length (elements m)) refl)
      where
        lead : (d : ℕ → DeviceTold) → TellsAtEnd b.told d (Zip' z p x q y) (Zip' w u new v y) → Leads (elements m) (IsRunOfRest P d (Zip' w u new v y)) (IsRunOfRest P d (Zip' z p x q y))
        lead d e =
            let lead = h.gave.1 d (ends_left d w e) in
            let first = by_zipped_left z.left z.right (elements l) (IsRunOfRest P d x) (IsRunOfRest P d new) (IsRunOfRest P d y) lead in
            by_left
            (subst (λ (c : Sides). Leads (elements m) (Zipped (Behind c.left (IsRunOfRest P d new)) (Behind c.right (IsRunOfRest P d y))) (Zipped (Behind z.left (IsRunOfRest P d x)) (Behind z.right (IsRunOfRest P d y)))) (sym rest)
            (subst (λ (xs : List Element). Leads xs (Zipped (Behind (unpaired (with_more z Left (elements l))).left (IsRunOfRest P d new)) (Behind (unpaired (with_more z Left (elements l))).right (IsRunOfRest P d y))) (Zipped (Behind z.left (IsRunOfRest P d x)) (Behind z.right (IsRunOfRest P d y)))) (sym pairs) first))
            (λ i. zipped_stops w.left w.right (IsRunOfRest P d new) (IsRunOfRest P d y) (can_stop P d new i.0) (can_stop P d y i.1))

        by_count : (k : ℕ) → length (elements m) ≡ k → Turned P a b s n (Zip' z p x q y) (Zip' w u new v y) (load_or_quiet k m)
        by_count zero e = left_asked w (turn.Chunk l) turn.Quiet (λ i. tt) (λ i. absurd i) (cause_none a.told b.told x turn.Quiet quiet_goes_on) (λ k i. i) h
            (λ d i. subst (λ (xs : List Element). Leads xs (IsRunOfRest P d (Zip' w u new v y)) (IsRunOfRest P d (Zip' z p x q y))) (no_length (elements m) e) (lead d i))
        by_count (suc k) e = left_asked w (turn.Chunk l) (turn.Chunk m) (λ i. i) (λ i. i) (cause_none a.told b.told x (turn.Chunk m) (chunk_goes_on m)) (λ k i. (rows ∙ sym i, i)) h
            (omega (arith, e), lead)
    zip_left_step w turn.Quiet o asked (same, is) h = subst (λ i. Turned P a b s n (Zip' z p x q y) (Zip' w u new v y) i) (sym is) (subst (λ c. Turned P a b s n (Zip' z p x q y) (Zip' c u new v y) turn.Quiet) (sym same)
        (left_asked z turn.Quiet turn.Quiet (λ i. i) (λ i. i) h.cause (λ k i. i) h (λ d e. by_left (by_zipped_same z.left z.right (IsRunOfRest P d x) (IsRunOfRest P d new) (IsRunOfRest P d y) (IsRunOfRest P d y) (h.gave d (ends_left d z e)) (record { gives = λ ys g i. i })) (λ i. zipped_stops z.left z.right (IsRunOfRest P d new) (IsRunOfRest P d y) (can_stop P d new i.0) (can_stop P d y i.1)))))
    zip_left_step w turn.Done o asked (same, is) h = subst (λ i. Turned P a b s n (Zip' z p x q y) (Zip' w u new v y) i) (sym is) (subst (λ c. Turned P a b s n (Zip' z p x q y) (Zip' c u new v y) turn.Done) (sym same)
        (left_asked z turn.Done turn.Done (λ i. i) (λ i. i) h.cause (λ k i. tt) h (λ d o. inl (zipped_left_ends z.left z.right (IsRunOfRest P d x) (IsRunOfRest P d y) Done asked (h.gave d (over_left d o)) (left_stops turn.Done h d o)))))
    zip_left_step w (turn.Fault c) o asked (same, is) h = subst (λ i. Turned P a b s n (Zip' z p x q y) (Zip' w u new v y) i) (sym is) (subst (λ j. Turned P a b s n (Zip' z p x q y) (Zip' j u new v y) (turn.Fault c)) (sym same)
        (left_asked z (turn.Fault c) (turn.Fault c) (λ i. i) (λ i. i) h.cause (λ k i. tt) h (λ d o. inl (zipped_left_ends z.left z.right (IsRunOfRest P d x) (IsRunOfRest P d y) (Fault c) asked (h.gave d (over_left d o)) (left_stops (turn.Fault c) h d o)))))

  module _ (new : Rest F) (still : HasNoGroups new) where
    ends_right : (d : ℕ → DeviceTold) (w : Sides) → TellsAtEnd b.told d (Zip' z p x q y) (Zip' w u x v new) → TellsAtEnd b.told d y new
    ends_right d w e = record { over = λ k i never. e.over k (inr i) (elim [ inl j ↦ r.ready.0.places k j i | inr j ↦ never j ]); goes = e.goes }

    over_right : (d : ℕ → DeviceTold) → Over b.told d (Zip' z p x q y) → Over b.told d y
    over_right d o = record { over = λ k i. o.over k (inr i); goes = o.goes }

    -- a turn of the right side is one of the whole, but for what comes of it
    right_asked : (w : Sides) (t o : Turn) → (GoesOn o → GoesOn t) → (IsLoadOrDone o → IsLoadOrDone t) → HasCause a.told b.told y o → ((k : LoadKind) → k ≡ Rows → GivesKind P k (Zip' w u x v new) o)
        → Turned P a b s n y new t → Gave P b.told (Zip' z p x q y) (Zip' w u x v new) o → Turned P a b s n (Zip' z p x q y) (Zip' w u x v new) o
    right_asked w t o on gives cause kinds h gave =
        let can = can_zip_right in
        let other = other_ready P a b s n y new x t can h (apart_across a x y r.ready.0) r.ready.1 in
        record {
          moved = moved_part a b y (Zip' z p x q y) (λ k i. inr i) (λ c i. inr i) h.moved;
          once = h.once;
          writes = λ i. h.writes (gives i);
          live = λ k. elim [ inl i ↦ inl i | inr i ↦ inr (h.live k i) ];
          fewer = omega (arith, h.fewer);
          spends = record { events = omega (arith, h.spends.events); scopes = omega (arith, h.spends.scopes); rows = omega (arith, h.spends.rows) };
          ready = λ i. (apart_across b new x (still_apart P a b s n y new x t can h (apart_across a x y r.ready.0) r.ready.1 (on i)), other, h.ready (on i), r.ready.3, still);
          scopes = λ i c. elim [
            | inl j ↦ inl (inl j, (h.moved.keeps.stays c (other_spared P a b s n y new x t can h (apart_across a x y r.ready.0) r.ready.1 c j)).within)
            | inr j ↦ elim (h.scopes (on i) c j) [ inl k ↦ inl (inr k.0, k.1) | inr k ↦ inr (opened_in a b s (λ e. IsScopeOf e y) (λ e. IsScopeOf e (Zip' z p x q y)) c (λ e g. inr g) k) ]
          ];
          pipes = λ i. ((r.pipes.0.0, h.pipes (on i)), r.pipes.1, lines_on P new t (on i) (h.kinds Lines r.pipes.2));
          kinds = kinds;
          caused = by_three P a.told b.told (Zip' z p x q y) (Zip' w u x v new) o
              (λ i. caused_part P a.told b.told y new (Zip' z p x q y) (Zip' w u x v new) (λ l. omega (arith, l)) (λ k j. inr j) (λ e. zip_right z w p q u v x y new e) (one_of_three P a.told b.told y new t r.ready.4 h.caused (on i)));
          cause = cause_part a.told b.told y (Zip' z p x q y) o (λ k i. inr i) cause;
          gave = gave;
        }

    -- the other side may be left as it stands
    right_stops : (t : Turn) → Turned P a b s n y new t → (d : ℕ → DeviceTold) → Over b.told d (Zip' z p x q y) → IsRunOfRest P d x [] Cut
    right_stops t h d o =
        can_stop P d x (writes_no_more b d s x (other_ready P a b s n y new x t (can_zip_right) h (apart_across a x y r.ready.0) r.ready.1) (λ k i. stays_well (b.told k) (d k) (o.over k (inl i))))

    pub zip_right_step : (w : Sides) (t o : Turn) → (0 < length z.left) × (z.right ≡ []) → ZipTurn z Right w t o → Turned P a b s n y new t → Turned P a b s n (Zip' z p x q y) (Zip' w u x v new) o
    zip_right_step w (turn.Chunk l) o asked (m, pairs, rows, rest, is) h = subst (λ i. Turned P a b s n (Zip' z p x q y) (Zip' w u x v new) i) (sym is) (by_count (length (elements m)) refl)
      where
        lead : (d : ℕ → DeviceTold) → TellsAtEnd b.told d (Zip' z p x q y) (Zip' w u x v new) → Leads (elements m) (IsRunOfRest P d (Zip' w u x v new)) (IsRunOfRest P d (Zip' z p x q y))
        lead d e =
            let lead = h.gave.1 d (ends_right d w e) in
            let first = by_zipped_right z.left z.right (elements l) (IsRunOfRest P d x) (IsRunOfRest P d y) (IsRunOfRest P d new) lead in
            by_left
            (subst (λ (c : Sides). Leads (elements m) (Zipped (Behind c.left (IsRunOfRest P d x)) (Behind c.right (IsRunOfRest P d new))) (Zipped (Behind z.left (IsRunOfRest P d x)) (Behind z.right (IsRunOfRest P d y)))) (sym rest)
            (subst (λ (xs : List Element). Leads xs (Zipped (Behind (unpaired (with_more z Right (elements l))).left (IsRunOfRest P d x)) (Behind (unpaired (with_more z Right (elements l))).right (IsRunOfRest P d new))) (Zipped (Behind z.left (IsRunOfRest P d x)) (Behind z.right (IsRunOfRest P d y)))) (sym pairs) first))
            (λ i. zipped_stops w.left w.right (IsRunOfRest P d x) (IsRunOfRest P d new) (can_stop P d x i.0) (can_stop P d new i.1))

        by_count : (k : ℕ) → length (elements m) ≡ k → Turned P a b s n (Zip' z p x q y) (Zip' w u x v new) (load_or_quiet k m)
        by_count zero e = right_asked w (turn.Chunk l) turn.Quiet (λ i. tt) (λ i. absurd i) (cause_none a.told b.told y turn.Quiet quiet_goes_on) (λ k i. i) h
            (λ d i. subst (λ (xs : List Element). Leads xs (IsRunOfRest P d (Zip' w u x v new)) (IsRunOfRest P d (Zip' z p x q y))) (no_length (elements m) e) (lead d i))
        by_count (suc k) e = right_asked w (turn.Chunk l) (turn.Chunk m) (λ i. i) (λ i. i) (cause_none a.told b.told y (turn.Chunk m) (chunk_goes_on m)) (λ k i. (rows ∙ sym i, i)) h
            (omega (arith, e), lead)
    zip_right_step w turn.Quiet o asked (same, is) h = subst (λ i. Turned P a b s n (Zip' z p x q y) (Zip' w u x v new) i) (sym is) (subst (λ c. Turned P a b s n (Zip' z p x q y) (Zip' c u x v new) turn.Quiet) (sym same)
        (right_asked z turn.Quiet turn.Quiet (λ i. i) (λ i. i) h.cause (λ k i. i) h (λ d e. by_left (by_zipped_same z.left z.right (IsRunOfRest P d x) (IsRunOfRest P d x) (IsRunOfRest P d y) (IsRunOfRest P d new) (record { gives = λ ys g i. i }) (h.gave d (ends_right d z e))) (λ i. zipped_stops z.left z.right (IsRunOfRest P d x) (IsRunOfRest P d new) (can_stop P d x i.0) (can_stop P d new i.1)))))
    zip_right_step w turn.Done o asked (same, is) h = subst (λ i. Turned P a b s n (Zip' z p x q y) (Zip' w u x v new) i) (sym is) (subst (λ c. Turned P a b s n (Zip' z p x q y) (Zip' c u x v new) turn.Done) (sym same)
        (right_asked z turn.Done turn.Done (λ i. i) (λ i. i) h.cause (λ k i. tt) h (λ d o. inl (zipped_right_ends z.left z.right (IsRunOfRest P d x) (IsRunOfRest P d y) Done asked.0 asked.1 (right_stops turn.Done h d o) (h.gave d (over_right d o))))))
    zip_right_step w (turn.Fault c) o asked (same, is) h = subst (λ i. Turned P a b s n (Zip' z p x q y) (Zip' w u x v new) i) (sym is) (subst (λ j. Turned P a b s n (Zip' z p x q y) (Zip' j u x v new) (turn.Fault c)) (sym same)
        (right_asked z (turn.Fault c) (turn.Fault c) (λ i. i) (λ i. i) h.cause (λ k i. tt) h (λ d o. inl (zipped_right_ends z.left z.right (IsRunOfRest P d x) (IsRunOfRest P d y) (Fault c) asked.0 asked.1 (right_stops (turn.Fault c) h d o) (h.gave d (over_right d o))))))

-- what was touched of a side
pub zip_left_moved : {F : Type 0} (a b : Around) (z : Sides) (p q : Box (Unit {0}) Global) (x y : Rest F) → Moved a b x → Moved a b (Zip' z p x q y)
zip_left_moved a b z p q x y h = moved_part a b x (Zip' z p x q y) (λ k i. inl i) (λ c i. inl i) h

pub zip_right_moved : {F : Type 0} (a b : Around) (z : Sides) (p q : Box (Unit {0}) Global) (x y : Rest F) → Moved a b y → Moved a b (Zip' z p x q y)
zip_right_moved a b z p q x y h = moved_part a b y (Zip' z p x q y) (λ k i. inr i) (λ c i. inr i) h

-- the right side is needed where some of the left side waits
some_of : (xs : List Element) → (xs ≡ [] → ⊥) → 0 < length xs
some_of [] h = absurd (h refl)
some_of (x ∷ xs) h = omega arith

pub needs_right : (z : Sides) → IsNeeded z Right → 0 < length z.left
needs_right z h = some_of z.left (λ i. let e : Right ≡ Left = h.1 i in cc)
