-- A turn of what is left from the turn of its part.
use Rattle.std.proofs.Common.{◌≡◌, inl, inr, ℕ, ◌-◌, ◌<◌, ◌≤◌, List, [], length, Option, refl, sym, ◌∙◌, ap, subst, arith, Box, Global, cond}
use Rattle.std.proofs.lemmas.List.{length-take}
use Rattle.chunk_core.specs.declared.code.Code.{Code}
use Rattle.chunk_core.specs.declared.code.Exit.{Exit}
use Rattle.chunk_core.specs.declared.code.Exit.TheVariants.{Succeeded, Errored}
use Rattle.chunk_core.specs.Elements.{LoadKind, elements}
use Rattle.chunk_core.specs.declared.load.Load.{Load}
use Rattle.chunk_core.specs.Outcomes.{End, Done, Fault, Cut}
use Rattle.device_port.specs.Device.{DeviceTold}
use Rattle.pull_nodes.specs.Runs.{IsIdle}
use Rattle.pull_nodes.specs.declared.node.Node.{Node}
use Rattle.pull_turns.specs.Around.{Around, LeavesScope, LiesAsBefore, StaysOpen}
use Rattle.pull_turns.specs.Groups.{HasNoGroups}
use Rattle.pull_turns.specs.Groups.GaveGroup.{group_within, group_first}
use Rattle.pull_turns.specs.Piping.{StateMeaning, HasKind}
use Rattle.pull_turns.specs.Rest.{Begins, CanStep, IsLive, IsReady, IsRunOfRest, IsScopeOf, NoPlace}
use Rattle.pull_turns.specs.Turned.HasFinished.{within, first, taken}
use Rattle.pull_turns.specs.Turned.{IsLoadOrDone, IsOpenedIn, TellsAtEnd, Over, Moved, Turned, Gave, GivesKind, GoesOn, HasCause}
use Rattle.pull_turns.specs.Moves.{begins, turn_of_first, TakenOf, LeavesAtEnd}
use Rattle.pull_turns.specs.declared.rest.Rest.{Rest}
use Rattle.pull_turns.specs.declared.rest.Rest.TheVariants.{Nil, Start, Within', Then', Through', Take', Into'}
use Rattle.pull_turns.specs.declared.rest.When.{When}
use Rattle.pull_turns.specs.declared.rest.When.TheVariants as when
use Rattle.pull_turns.specs.declared.turn.Turn.{Turn}
use Rattle.pull_turns.specs.declared.turn.Turn.TheVariants as turn
use Rattle.pull_turns.proofs.Leads.{by_left, by_first, by_second, by_taken, by_taken_none, taken_stops, stopped, can_stop}
use Rattle.pull_turns.proofs.Kept.{goes_on, goes_gist, keeps_on, fresh_kept, own_spared, scope_inside, spares_around}
use Rattle.pull_turns.proofs.Unwritten.{idle_fresh, writes_no_more, stays_well, well_then, written_same}
use Rattle.pull_turns.proofs.Turns.{moved_part, moved_none, once_on, cause_on, chunk_goes_on, quiet_goes_on, done_is_no_fault, by_three, cause_none, cause_part, caused_part, caused_whole, one_of_three, turned_same}

cut_is_not_done : Cut ≡ Done → ⊥
cut_is_not_done e = cc

fault_is_not_done : (c : Code) → Fault c ≡ Done → ⊥
fault_is_not_done c e = cc

cut_begins_none : (v : When) → Begins v Cut → ⊥
cut_begins_none when.Done e = cut_is_not_done e
cut_begins_none when.Fault e = e

-- what was touched below a take that still wants something
pub taken_moved : {F : Type 0} (a b : Around) (k : ℕ) (p : Box (Unit {0}) Global) (x : Rest F) → 0 < k → Moved a b x → Moved a b (Take' k p x)
taken_moved a b k p x some h = moved_part a b x (Take' k p x) (λ r i. (some, i)) (λ c i. (some, i)) h

-- a scope that was opened in one of these was opened in one of those
pub opened_in : (a b : Around) (s : ℕ) (Own More : ℕ → Type 0) (c : ℕ) → ((e : ℕ) → Own e → More e) → IsOpenedIn a b s Own c → IsOpenedIn a b s More c
opened_in a b s Own More c f h = record { fresh = h.fresh; inside = λ k w. elim (h.inside k w) [ inl e ↦ inl e | inr (e, i, v) ↦ inr (e, elim i [ inl j ↦ inl j | inr j ↦ inr (f e j) ], v) ] }

module _ {F : Type 0} (P : StateMeaning F) where
  pub nil_step : (a : Around) (s n : ℕ) → Turned P a a s n Nil Nil turn.Done
  nil_step a s n = turned_same P a s n _ _ _ (λ p i. i) (omega arith) (omega arith) (omega arith) (λ c i. i) (λ g. absurd g) (λ g. absurd g) (λ k h. tt) (λ g. absurd g)
      (cause_none a.told a.told _ _ done_is_no_fault) (λ w o. inl (refl, refl))

  pub can_first : (a : Around) (s : ℕ) (v : When) (p b : _) (x : Rest F) → CanStep P a s (Then' v p x b) → CanStep P a s x
  can_first a s v p b x h = record { ready = h.ready.1; pipes = h.pipes.0; nested = h.nested; opened = h.opened; events = omega (arith, h.events); scopes = omega (arith, h.scopes); rows = omega (arith, h.rows) }

  pub can_taken : (a : Around) (s n : ℕ) (p : _) (x : Rest F) → 0 < n → CanStep P a s (Take' n p x) → CanStep P a s x
  can_taken a s n p x some h = record { ready = h.ready.0 some; pipes = h.pipes; nested = h.nested; opened = h.opened; events = h.events; scopes = h.scopes; rows = h.rows }

  pub can_written : (a : Around) (s i : ℕ) (v : Option (List ℕ)) (p : _) (x : Rest F) → CanStep P a s (Into' i v p x) → CanStep P a s x
  can_written a s i v p x h = record { ready = h.ready.3; pipes = h.pipes; nested = h.nested; opened = h.opened; events = h.events; scopes = h.scopes; rows = h.rows }

  pub can_within : (a : Around) (s c : ℕ) (p : _) (x : Rest F) → CanStep P a s (Within' c p x) → CanStep P a c x
  can_within a s c p x h = record { ready = h.ready.3; pipes = h.pipes; nested = h.nested; opened = h.ready.2; events = h.events; scopes = h.scopes; rows = h.rows }

  pub can_below : (a : Around) (s : ℕ) (p q : _) (x : Rest F) → CanStep P a s (Through' p x q) → CanStep P a s x
  can_below a s p q x h = record { ready = h.ready.0; pipes = h.pipes.0; nested = h.nested; opened = h.opened; events = h.events; scopes = h.scopes; rows = h.rows }

  module _ (a b : Around) (s n : ℕ) (p q : Box (Unit {0}) Global) (m : Box Node Global) (x new : Rest F) where
    ends_first : (v : When) → CanStep P a s (Then' v p x m) → (w : ℕ → DeviceTold) → TellsAtEnd b.told w (Then' v p x m) (Then' v q new m) → TellsAtEnd b.told w x new
    ends_first v r w e = record { over = λ k i never. e.over k (inl i) (elim [ inl j ↦ never j | inr j ↦ r.ready.0 k i j ]); goes = e.goes }

    -- the first part runs on
    runs_on : (v : When) (t : Turn) → CanStep P a s (Then' v p x m) → Turned P a b s n x new t → ((k : LoadKind) → HasKind P k (Then' v p x m) → GivesKind P k (Then' v q new m) t)
        → Gave P b.told (Then' v p x m) (Then' v q new m) t → Turned P a b s n (Then' v p x m) (Then' v q new m) t
    runs_on v t r h kinds g = record {
      moved = moved_part a b x (Then' v p x m) (λ k i. inl i) (λ c i. inl i) h.moved;
      once = h.once;
      writes = h.writes;
      live = λ k. elim [ inl i ↦ inl (h.live k i) | inr i ↦ inr i ];
      fewer = omega (arith, h.fewer);
      spends = record { events = omega (arith, h.spends.events); scopes = omega (arith, h.spends.scopes); rows = omega (arith, h.spends.rows) };
      ready = λ i. (λ k l j. r.ready.0 k (h.live k l) j, h.ready i, fresh_kept a b (λ k. IsLive k x) (λ c. IsScopeOf c x) s m.value (spares_around a (λ c. IsScopeOf c x) r.nested) h.moved.keeps (λ k i j. r.ready.0 k j i) (own_spared a r.nested s x r.opened r.ready.1) r.ready.2);
      scopes = λ g c. elim [
        | inl i ↦ elim (h.scopes g c i) [ inl k ↦ inl (inl k.0, k.1) | inr k ↦ inr (opened_in a b s (λ e. IsScopeOf e x) (λ e. IsScopeOf e (Then' v p x m)) c (λ e f. inl f) k) ]
        | inr i ↦ absurd i
      ];
      pipes = λ i. (h.pipes i, r.pipes.1);
      kinds = kinds;
      caused = caused_whole P a.told b.told x new (Then' v p x m) (Then' v q new m) t (λ l. omega (arith, l)) (λ k j. inl j) (λ f. first v p q x new m f) (λ xs f. group_first v p q x new m f) h.caused;
      cause = cause_part a.told b.told x (Then' v p x m) t (λ k i. inl i) h.cause;
      gave = g;
    }

    -- the second part is all that is left
    begins_second : (v : When) (t : Turn) (e : End) → Begins v e → CanStep P a s (Then' v p x m) → Turned P a b s n x new t → ((w : ℕ → DeviceTold) → Over b.told w x → IsRunOfRest P w x [] e)
        → Turned P a b s n (Then' v p x m) (Start m.value) turn.Quiet
    begins_second v t e begun r h end = record {
      moved = moved_part a b x (Then' v p x m) (λ k i. inl i) (λ c i. inl i) h.moved;
      once = h.once;
      writes = λ i. absurd i;
      live = λ k i. inr i;
      fewer = omega arith;
      spends = record { events = omega (arith, h.spends.events); scopes = omega (arith, h.spends.scopes); rows = omega (arith, h.spends.rows) };
      ready = λ i. fresh_kept a b (λ k. IsLive k x) (λ c. IsScopeOf c x) s m.value (spares_around a (λ c. IsScopeOf c x) r.nested) h.moved.keeps (λ k i j. r.ready.0 k j i) (own_spared a r.nested s x r.opened r.ready.1) r.ready.2;
      scopes = λ i c j. absurd j;
      pipes = λ i. r.pipes.1;
      kinds = λ k i. i.1;
      caused = inl (omega arith);
      cause = cause_none a.told b.told _ _ quiet_goes_on;
      gave = λ w o. by_second e begun (end w (record { over = λ k i. o.over k (inl i) (λ j. r.ready.0 k i j); goes = o.goes }));
    }

    -- the second part, which never ran, did nothing
    still_idle : (v : When) (t : Turn) → CanStep P a s (Then' v p x m) → Turned P a b s n x new t → (w : ℕ → DeviceTold) → Over b.told w (Then' v p x m) → IsIdle w m.value
    still_idle v t r h w o = idle_fresh a w NoPlace s m.value r.ready.2 (λ k i. written_same (b.told k) (w k) (o.over k (inr i)) ∙ written_same (a.told k) (b.told k) (h.moved.keeps.told k (λ j. r.ready.0 k j i)))

    -- the first part ends, and with it the whole
    ends_whole : (v : When) (t : Turn) (e : End) → (Begins v e → ⊥) → CanStep P a s (Then' v p x m) → Turned P a b s n x new t → ((w : ℕ → DeviceTold) → Over b.told w x → IsRunOfRest P w x [] e)
        → (w : ℕ → DeviceTold) → Over b.told w (Then' v p x m) → IsRunOfRest P w (Then' v p x m) [] e
    ends_whole v t e never r h end w o = inl (inl (end w (record { over = λ k i. o.over k (inl i); goes = o.goes }), never, still_idle v t r h w o))

    pub then_step : (v : When) (t : Turn) → CanStep P a s (Then' v p x m) → Turned P a b s n x new t → Turned P a b s n (Then' v p x m) (cond (begins v t) (Start m.value) (Then' v q new m)) (turn_of_first v t)
    then_step v (turn.Chunk l) r h = runs_on v (turn.Chunk l) r h (λ k i. let j = h.kinds k i.0 in (j.0, (j.1, i.1)))
        (h.gave.0, λ w e. by_left (by_first (h.gave.1 w (ends_first v r w e))) (λ i. ([], Cut, inl (can_stop P w new i.0, cut_begins_none v, i.1))))
    then_step v turn.Quiet r h = runs_on v turn.Quiet r h (λ k i. (h.kinds k i.0, i.1))
        (λ w e. by_left (by_first (h.gave w (ends_first v r w e))) (λ i. ([], Cut, inl (can_stop P w new i.0, cut_begins_none v, i.1))))
    then_step when.Done turn.Done r h = begins_second when.Done turn.Done Done refl r h h.gave
    then_step when.Fault turn.Done r h = runs_on when.Fault turn.Done r h (λ k i. tt) (ends_whole when.Fault turn.Done Done (λ i. i) r h h.gave)
    then_step when.Done (turn.Fault c) r h = runs_on when.Done (turn.Fault c) r h (λ k i. tt) (ends_whole when.Done (turn.Fault c) (Fault c) (fault_is_not_done c) r h h.gave)
    then_step when.Fault (turn.Fault c) r h = begins_second when.Fault (turn.Fault c) (Fault c) tt r h h.gave

  module _ {O : Type 0} (seen : O → Around) (a : Around) (y z : O) (s n c : ℕ) (p q : Box (Unit {0}) Global) (x new : Rest F) (r : CanStep P a s (Within' c p x)) where
    mine_stays : (b : Around) → Moved a b x → StaysOpen a c b
    mine_stays b m = m.keeps.stays c (own_spared a r.nested c x r.ready.2 r.ready.3)

    still_ready : (b : Around) → Moved a b x → IsReady b c new → IsReady b s (Within' c q new)
    still_ready b m i =
        let stays = mine_stays b m in
        let outer : StaysOpen a s b = m.keeps.stays s (r.opened, λ d j w. (scope_inside a r.nested s d (Within' c p x) r.ready (inr j)).1 w) in
        ((stays.within s).1 r.ready.0, λ w. r.ready.1 ((outer.within c).0 w), stays.opened, i)

    -- the scope is open on
    stays : (t : Turn) → z ≡ y → Turned P a (seen y) c n x new t → ((k : LoadKind) → HasKind P k x → GivesKind P k (Within' c q new) t) → Gave P (seen y).told (Within' c p x) (Within' c q new) t → Turned P a (seen z) s n (Within' c p x) (Within' c q new) t
    stays t e h kinds g = subst (λ (o : O). Turned P a (seen o) s n (Within' c p x) (Within' c q new) t) (sym e) (record {
      moved = moved_part a (seen y) x (Within' c p x) (λ k i. i) (λ d i. inr i) h.moved;
      once = h.once;
      writes = h.writes;
      live = h.live;
      fewer = omega (arith, h.fewer);
      spends = record { events = h.spends.events; scopes = h.spends.scopes; rows = h.spends.rows };
      ready = λ i. still_ready (seen y) h.moved (h.ready i);
      scopes = λ i d. elim [
        | inl j ↦ inl (inl j, subst (λ k. LiesAsBefore a k (seen y)) (sym j) (mine_stays (seen y) h.moved).within)
        | inr j ↦ elim (h.scopes i d j) [
          | inl k ↦ inl (inr k.0, k.1)
          | inr k ↦ inr (record { fresh = k.fresh; inside = λ l w. elim (k.inside l w) [ inl e ↦ inl e | inr m ↦ inr (m.0, inr m.1, m.2) ] })
        ]
      ];
      pipes = λ i. h.pipes i;
      kinds = kinds;
      caused = caused_whole P a.told (seen y).told x new (Within' c p x) (Within' c q new) t (λ l. omega (arith, l)) (λ k j. j) (λ f. within c p q x new f) (λ xs f. group_within c p q x new f) h.caused;
      cause = cause_part a.told (seen y).told x (Within' c p x) t (λ k i. i) h.cause;
      gave = g;
    })

    -- the scope is closed
    ends : (t : Turn) (j : Exit) → (GoesOn t → ⊥) → LeavesScope (seen y) c j (seen z) → Turned P a (seen y) c n x new t → ((k : LoadKind) → HasKind P k x → GivesKind P k (Within' c q new) t) → Gave P (seen z).told (Within' c p x) (Within' c q new) t
        → Turned P a (seen z) s n (Within' c p x) (Within' c q new) t
    ends t j never l h kinds g =
        let first : Moved a (seen y) (Within' c p x) = moved_part a (seen y) x (Within' c p x) (λ k i. i) (λ d i. inr i) h.moved in
        let second : Moved (seen y) (seen z) (Within' c p x) = moved_none (seen y) (seen z) (λ d. d ≡ c) (Within' c p x) (λ d i. inl i) l.keeps in
        record {
          moved = record {
            keeps = keeps_on a (seen y) (seen z) (λ k. IsLive k x) (λ d. IsScopeOf d (Within' c p x)) first.keeps second.keeps;
            goes = λ k. goes_on (a.told k) ((seen y).told k) ((seen z).told k) (first.goes k) (second.goes k);
          };
          once = once_on a.told (seen y).told (seen z).told n h.once l.told;
          writes = λ i k. well_then (a.told k) ((seen y).told k) ((seen z).told k) (h.writes i k) (stays_well ((seen y).told k) ((seen z).told k) (l.told k));
          live = h.live;
          fewer = omega (arith, h.fewer);
          spends = record { events = omega (arith, h.spends.events, l.affords.events); scopes = omega (arith, h.spends.scopes, l.affords.scopes); rows = omega (arith, h.spends.rows, l.affords.rows) };
          ready = λ i. absurd (never i);
          scopes = λ i. absurd (never i);
          pipes = λ i. absurd (never i);
          kinds = kinds;
          caused = by_three P a.told (seen z).told (Within' c p x) (Within' c q new) t (λ i. absurd (never i));
          cause = cause_on a.told (seen y).told (seen z).told x (Within' c p x) t (λ k i. i) l.told h.cause;
          gave = g;
        }

    -- what is over at the end was over before the scope was closed
    over_part : (j : Exit) → LeavesScope (seen y) c j (seen z) → (w : ℕ → DeviceTold) → Over (seen z).told w (Within' c p x) → Over (seen y).told w x
    over_part j l w o = record {
      over = λ k i. o.over k i ∙ l.told k;
      goes = λ k. goes_on ((seen y).told k) ((seen z).told k) (w k) (goes_gist ((seen y).told k) ((seen z).told k) (l.told k)) (o.goes k);
    }

    pub within_step : (t : Turn) → LeavesAtEnd seen y c t z → Turned P a (seen y) c n x new t → Turned P a (seen z) s n (Within' c p x) (Within' c q new) t
    within_step (turn.Chunk l) e h = stays (turn.Chunk l) e h h.kinds (h.gave.0, λ w k. by_left (h.gave.1 w (record { over = k.over; goes = k.goes })) (stopped P w new))
    within_step turn.Quiet e h = stays turn.Quiet e h h.kinds (λ w k. by_left (h.gave w (record { over = k.over; goes = k.goes })) (stopped P w new))
    within_step turn.Done e h = ends turn.Done Succeeded (λ i. i) e h (λ k i. tt) (λ w o. inl (h.gave w (over_part Succeeded e w o)))
    within_step (turn.Fault d) e h = ends (turn.Fault d) Errored (λ i. i) e h (λ k i. tt) (λ w o. inl (h.gave w (over_part Errored e w o)))

  -- a taker is left with m elements to take
  module _ (a b : Around) (s n k m : ℕ) (p q : Box (Unit {0}) Global) (x new : Rest F) (plain : HasNoGroups x) (still : HasNoGroups new) (some : 0 < k) where
    ends_taken : (w : ℕ → DeviceTold) (j : ℕ) → TellsAtEnd b.told w (Take' k p x) (Take' j q new) → TellsAtEnd b.told w x new
    ends_taken w j e = record { over = λ r i never. e.over r (some, i) (λ l. never l.1); goes = e.goes }

    over_taken : (w : ℕ → DeviceTold) → Over b.told w (Take' k p x) → Over b.told w x
    over_taken w o = record { over = λ r i. o.over r (some, i); goes = o.goes }

    taking : (t u : Turn) → (GoesOn u → GoesOn t) → (IsLoadOrDone u → IsLoadOrDone t) → HasCause a.told b.told x u → ((k : LoadKind) → HasKind P k x → GivesKind P k (Take' m q new) u) → Turned P a b s n x new t → Gave P b.told (Take' k p x) (Take' m q new) u → Turned P a b s n (Take' k p x) (Take' m q new) u
    taking t u f gives c kinds h g = record {
      moved = taken_moved a b k p x some h.moved;
      once = h.once;
      writes = λ i. h.writes (gives i);
      live = λ r i. (some, h.live r i.1);
      fewer = omega (arith, h.fewer);
      spends = record { events = h.spends.events; scopes = h.spends.scopes; rows = h.spends.rows };
      ready = λ i. (λ more. h.ready (f i), still);
      scopes = λ i c j. elim (h.scopes (f i) c j.1) [
        | inl l ↦ inl ((some, l.0), l.1)
        | inr l ↦ inr (opened_in a b s (λ e. IsScopeOf e x) (λ e. IsScopeOf e (Take' k p x)) c (λ e g. (some, g)) l)
      ];
      pipes = λ i. h.pipes (f i);
      kinds = kinds;
      caused = by_three P a.told b.told (Take' k p x) (Take' m q new) u
          (λ i. caused_part P a.told b.told x new (Take' k p x) (Take' m q new) (λ l. omega (arith, l)) (λ r j. (some, j)) (λ e. taken k m p q x new e) (one_of_three P a.told b.told x new t plain h.caused (f i)));
      cause = cause_part a.told b.told x (Take' k p x) u (λ r i. (some, i)) c;
      gave = g;
    }

  module _ (a b : Around) (s n k m : ℕ) (p q : Box (Unit {0}) Global) (x new : Rest F) (plain : HasNoGroups x) (still : HasNoGroups new) (some : 0 < k) where
    -- where no more is wanted, what is below is left
    left_below : (w : ℕ → DeviceTold) (l : Load) → Turned P a b s n x new (turn.Chunk l) → m ≡ k - length (elements l) → TellsAtEnd b.told w (Take' k p x) (Take' m q new) → k ≤ length (elements l) → IsRunOfRest P w new [] Cut
    left_below w l h is o all =
        can_stop P w new (writes_no_more b w s new (h.ready tt) (λ r i. stays_well (b.told r) (w r) (o.over r (some, h.live r i) (λ j. absurd (omega (arith, j.0, is, all))))))

    pub take_step : (t u : Turn) → TakenOf k m t u → Turned P a b s n x new t → Turned P a b s n (Take' k p x) (Take' m q new) u
    take_step (turn.Chunk l) (turn.Chunk j) e h =
        let long : 0 < length (elements j) = omega (arith, ap length e.0, length-take k (elements l), h.gave.0, some) in
        taking a b s n k m p q x new plain still some (turn.Chunk l) (turn.Chunk j) (λ i. i) (λ i. i) (cause_none a.told b.told x (turn.Chunk j) (chunk_goes_on j))
        (λ i c. let d = h.kinds i c in (e.2 ∙ d.0, d.1)) h (
          long,
          λ w o.
              let stop = left_below w l h e.1 o in
              let below = h.gave.1 w (ends_taken a b s n k m p q x new plain still some w m o) in
              rw (e.0, e.1) (by_left (by_taken k some stop below) (λ i. taken_stops (k - length (elements l)) (λ j. can_stop P w new (i j)))),
        )
    take_step (turn.Chunk l) turn.Quiet e h = absurd e
    take_step (turn.Chunk l) turn.Done e h = absurd e
    take_step (turn.Chunk l) (turn.Fault c) e h = absurd e
    take_step turn.Quiet u e h = rw (e.0, e.1) (taking a b s n k k p q x new plain still some turn.Quiet turn.Quiet (λ i. i) (λ i. i) h.cause h.kinds h (λ w o. by_left (by_taken_none k (h.gave w (ends_taken a b s n k k p q x new plain still some w k o))) (λ i. taken_stops k (λ j. can_stop P w new (i j)))))
    take_step turn.Done u e h = rw (e.0, e.1) (taking a b s n k k p q x new plain still some turn.Done turn.Done (λ i. i) (λ i. i) h.cause (λ i c. tt) h (λ w o. inl (inr (some, ([], Done, h.gave w (over_taken a b s n k k p q x new plain still some w o), inr (some, refl, refl))))))
    take_step (turn.Fault c) u e h = rw (e.0, e.1) (taking a b s n k k p q x new plain still some (turn.Fault c) (turn.Fault c) (λ i. i) (λ i. i) h.cause (λ i d. tt) h (λ w o. inl (inr (some, ([], Fault c, h.gave w (over_taken a b s n k k p q x new plain still some w o), inr (some, refl, refl))))))

  pub take_over : (a : Around) (s n k : ℕ) (p : _) (x : Rest F) → k ≡ 0 → Turned P a a s n (Take' k p x) (Take' k p x) turn.Done
  take_over a s n k p x z = turned_same P a s n _ _ _ (λ q i. i) (omega arith) (omega arith) (omega arith) (λ c i. i) (λ g. absurd g) (λ g. absurd g) (λ j h. tt) (λ g. absurd g)
      (cause_none a.told a.told _ _ done_is_no_fault)
      (λ w o. inl (inl (z, refl, refl)))
