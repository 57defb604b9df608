-- A turn of what is written to a device.
use Rattle.std.proofs.Common.{◌≡◌, inl, inr, ℕ, ◌+◌, ◌<◌, List, [], ◌++◌, Option, take, drop, refl, sym, ◌∙◌, ap, subst, arith, append-nil, Box, Global}
use Rattle.std.proofs.lemmas.List.{take-append-drop}
use Rattle.std.proofs.lemmas.Bool.Decides.{eqb_tells}
use Rattle.std.specs.Prelude.{option_map}
use Rattle.chunk_core.specs.declared.code.Code.{Code}
use Rattle.chunk_core.specs.declared.code.Code.TheVariants as code
use Rattle.chunk_core.specs.declared.load.Load.{Load}
use Rattle.chunk_core.specs.Elements.{LoadKind, elements, rendering_of}
use Rattle.chunk_core.specs.Outcomes.{End, Done, Fault, Cut}
use Rattle.device_port.specs.Device.{DeviceTold, Place}
use Rattle.pull_turns.specs.Around.{Around, Goes, IsSpared, Writes, gist}
use Rattle.pull_turns.specs.Groups.{HasNoGroups}
use Rattle.pull_turns.specs.Moves.{CanWrite, IntoTurn, WritesTurn}
use Rattle.pull_turns.specs.Piping.{StateMeaning}
use Rattle.pull_turns.specs.Rest.{CanStep, HasWritten, IsHeldBy, IsLive, IsReady, IsRunOfRest, IsScopeOf}
use Rattle.pull_turns.specs.Scoped.{Scoped}
use Rattle.pull_turns.specs.Turned.{Gave, GivesKind, GoesOn, HasCause, IsCausedBy, IsLoadOrDone, IsQuiet, Moved, Over, ReadsOnce, Spends, TellsAtEnd, TurnIsCaused, Turned}
use Rattle.pull_turns.specs.Turned.HasFinished.{written}
use Rattle.pull_turns.specs.declared.rest.Rest.{Rest}
use Rattle.pull_turns.specs.declared.rest.Rest.TheVariants.{Into'}
use Rattle.pull_turns.specs.declared.turn.Turn.{Turn}
use Rattle.pull_turns.specs.declared.turn.Turn.TheVariants as turn
use Rattle.pull_turns.proofs.Kept.{all_spared, goes_on, goes_gist, held_kept, keeps_on, own_spared, ready_kept, scope_open, spares_all, spares_around}
use Rattle.pull_turns.proofs.Leads.{by_left, can_stop, stopped}
use Rattle.pull_turns.proofs.Pieces.{read_held}
use Rattle.pull_turns.proofs.Scoped.{closed_same, scoped_kept}
use Rattle.pull_turns.proofs.Turns.{by_three, cause_none, cause_part, caused_part, moved_part, moved_place, once_before, one_of_three, quiet_goes_on}
use Rattle.pull_turns.proofs.Unwritten.{writes_no_more, stays_well, written_same}
use Rattle.pull_turns.proofs.Written.{none_behind, some_written, written_ends, written_fails, written_lead}

-- the turn is one of what is written
pub into_turn : {O : Type 0} (seen : O → Around) (y z : O) (p : ℕ) (v g : Option (List ℕ)) (t u : Turn) → WritesTurn seen y z p v g t u → IntoTurn t u
into_turn seen y z p v g (turn.Chunk l) (turn.Chunk m) h = h
into_turn seen y z p v g (turn.Chunk l) turn.Quiet h = tt
into_turn seen y z p v g (turn.Chunk l) turn.Done h = h
into_turn seen y z p v g (turn.Chunk l) (turn.Fault c) h = h.0
into_turn seen y z p v g turn.Quiet u h = h.2
into_turn seen y z p v g turn.Done u h = h.2
into_turn seen y z p v g (turn.Fault c) u h = h.2

write_is_no_open : turn.Fault code.Write ≡ turn.Fault code.Open → ⊥
write_is_no_open e = cc

write_is_no_read : turn.Fault code.Write ≡ turn.Fault code.Read → ⊥
write_is_no_read e = cc

quiet_is_no_chunk : (l : Load) → turn.Quiet ≡ turn.Chunk l → ⊥
quiet_is_no_chunk l e = cc

done_is_no_chunk : (l : Load) → turn.Done ≡ turn.Chunk l → ⊥
done_is_no_chunk l e = cc

fault_is_no_chunk : (c : Code) (l : Load) → turn.Fault c ≡ turn.Chunk l → ⊥
fault_is_no_chunk c l e = cc

-- what a write leaves of the devices
module _ (m b : Around) (p : ℕ) (text : List ℕ) (faults : ℕ) (h : Writes m p text faults b) where
  other : (q : ℕ) → (q ≡ p → ⊥) → gist (b.told q) ≡ gist (m.told q)
  other q n = h.keeps.told q n

  field : (f : DeviceTold → ℕ) → f (b.told p) ≡ f (m.told p) → ((q : ℕ) → (q ≡ p → ⊥) → f (b.told q) ≡ f (m.told q)) → (q : ℕ) → f (b.told q) ≡ f (m.told q)
  field f e o q = elim (eqb_tells q p) [ inl i ↦ subst (λ r. f (b.told r) ≡ f (m.told r)) (sym i.1) e | inr i ↦ o q i.1 ]

  pub at_same : (q : ℕ) → (b.told q).at ≡ (m.told q).at
  at_same q = field (λ d. d.at) (ap (λ (d : DeviceTold). d.at) h.told) (λ q n. ap (λ (d : DeviceTold). d.at) (other q n)) q

  pub reads_same : (q : ℕ) → (b.told q).read_faults ≡ (m.told q).read_faults
  reads_same q = field (λ d. d.read_faults) (ap (λ (d : DeviceTold). d.read_faults) h.told) (λ q n. ap (λ (d : DeviceTold). d.read_faults) (other q n)) q

  pub goes_written : Goes (m.told p) (b.told p)
  goes_written =
      let at : (b.told p).at ≡ (m.told p).at = ap (λ (d : DeviceTold). d.at) h.told in
      record {
        content = ap (λ (d : DeviceTold). d.content) h.told;
        place = ap (λ (d : DeviceTold). d.place) h.told;
        at = omega (arith, at);
        within = λ w. omega (arith, at, w);
        opens = λ o. (ap (λ (d : DeviceTold). d.opens) h.told ∙ o, ap (λ (d : DeviceTold). d.open_faults) h.told);
      }

module _ {F : Type 0} (P : StateMeaning F) (a m b : Around) (s n p : ℕ) (v g : Option (List ℕ)) (q r : Box (Unit {0}) Global) (x new : Rest F) (can : CanStep P a s (Into' p v q x)) (plain : HasNoGroups x) (still : HasNoGroups new) where
  mine_spared : IsSpared a (λ c. IsScopeOf c x) s
  mine_spared = own_spared a can.nested s x can.opened can.ready.3

  -- the device is held on, whatever the part did
  part_held : (t : Turn) → Turned P a m s n x new t → IsHeldBy m s p
  part_held t k = held_kept a m (λ c. IsLive c x) (λ c. IsScopeOf c x) s p (spares_around a (λ c. IsScopeOf c x) can.nested) k.moved.keeps can.ready.2 mine_spared can.ready.1

  -- the part gave a load, and this was written after it
  module _ (l : Load) (k : Turned P a m s n x new (turn.Chunk l)) (text : List ℕ) (faults : ℕ) (h : Writes m p text faults b) where
    -- the device is as it was before the part's turn
    untouched : gist (m.told p) ≡ gist (a.told p)
    untouched = k.moved.keeps.told p can.ready.2

    pub stands : (b.told p).written ≡ option_map (λ w. w ++ text) v
    stands = ap (λ (d : DeviceTold). d.written) h.told ∙ ap (λ o. option_map (λ w. w ++ text) o) (written_same (a.told p) (m.told p) untouched ∙ can.ready.0.written)

    pub fails : (b.told p).write_faults ≡ faults
    fails =
        let now : (b.told p).write_faults ≡ (m.told p).write_faults + faults = ap (λ (d : DeviceTold). d.write_faults) h.told in
        let then : (m.told p).write_faults ≡ (a.told p).write_faults = ap (λ (d : DeviceTold). d.write_faults) untouched in
        let none : (a.told p).write_faults ≡ 0 = can.ready.0.faults in
        omega (arith, now, then, none)

    moved : Moved a b (Into' p v q x)
    moved =
        let first : Moved a m (Into' p v q x) = moved_part a m x (Into' p v q x) (λ i j. inr j) (λ c i. i) k.moved in
        let second : Moved m b (Into' p v q x) = moved_place m b p (Into' p v q x) (inl refl) h.keeps (goes_written m b p text faults h) in
        record { keeps = keeps_on a m b (λ i. IsLive i (Into' p v q x)) (λ c. IsScopeOf c (Into' p v q x)) first.keeps second.keeps; goes = λ i. goes_on (a.told i) (m.told i) (b.told i) (first.goes i) (second.goes i) }

    -- the part is left where it stands, or goes on so
    ends_part : (w : ℕ → DeviceTold) → TellsAtEnd b.told w (Into' p v q x) (Into' p g r new) → TellsAtEnd m.told w x new
    ends_part w e = record {
      over = λ i live never. e.over i (inr live) (elim [ inl j ↦ can.ready.2 (subst (λ c. IsLive c x) j live) | inr j ↦ never j ]) ∙ other m b p text faults h i (λ j. can.ready.2 (subst (λ c. IsLive c x) j live));
      goes = λ i. goes_on (m.told i) (b.told i) (w i) (later i) (e.goes i);
    }
      where
        later : (i : ℕ) → Goes (m.told i) (b.told i)
        later i = elim (eqb_tells i p) [ inl j ↦ subst (λ c. Goes (m.told c) (b.told c)) (sym j.1) (goes_written m b p text faults h) | inr j ↦ goes_gist (m.told i) (b.told i) (other m b p text faults h i j.1) ]

    -- a turn of the whole, but for what comes of it
    turned : (u : Turn) → (GoesOn u → IsReady b s (Into' p g r new)) → (IsLoadOrDone u → ⊥) → IsCausedBy P a.told b.told (Into' p v q x) (Into' p g r new) u
        → ((j : LoadKind) → GivesKind P j (Into' p g r new) u) → HasCause a.told b.told (Into' p v q x) u → Gave P b.told (Into' p v q x) (Into' p g r new) u
        → Turned P a b s n (Into' p v q x) (Into' p g r new) u
    turned u ready never caused kinds cause gave = record {
      moved = moved;
      once = once_before a.told m.told b.told n k.once (at_same m b p text faults h) (reads_same m b p text faults h);
      writes = λ i. absurd (never i);
      live = λ i. elim [ inl j ↦ inl j | inr j ↦ inr (k.live i j) ];
      fewer = omega (arith, k.fewer);
      spends = record {
        events = omega (arith, k.spends.events, h.affords.events);
        scopes = omega (arith, k.spends.scopes, h.affords.scopes);
        rows = omega (arith, k.spends.rows, h.affords.rows);
      };
      ready = ready;
      scopes = λ i c j. elim (k.scopes tt c j) [
        | inl o ↦ inl (o.0, λ d. (λ w. (o.1 d).0 ((h.scopes.within c d).0 w), λ w. (h.scopes.within c d).1 ((o.1 d).1 w)))
        | inr o ↦ inr (record { fresh = λ d is w. o.fresh d is ((h.scopes.within d c).0 w); inside = λ d w. o.inside d ((h.scopes.within c d).0 w) })
      ];
      pipes = λ i. k.pipes tt;
      kinds = λ j i. kinds j;
      caused = caused;
      cause = cause;
      gave = gave;
    }

  -- the whole text was written
  pub wrote_step : (l : Load) → Turned P a m s n x new (turn.Chunk l) → Writes m p (rendering_of (elements l)) 0 b → g ≡ (b.told p).written → Turned P a b s n (Into' p v q x) (Into' p g r new) turn.Quiet
  wrote_step l k h e =
      let text = rendering_of (elements l) in
      turned l k text 0 h turn.Quiet (λ i. ready) (λ i. i) caused (λ j. tt) (cause_none a.told b.told _ _ quiet_goes_on)
      (λ w o. by_left (written_lead v g (w p) (elements l) (IsRunOfRest P w new) (IsRunOfRest P w x) (e ∙ stands l k text 0 h) (k.gave.1 w (ends_part l k text 0 h w o)))
      (λ i. some_written g (w p) (IsRunOfRest P w new) i.0 i.1 (can_stop P w new i.2)))
    where
      still_open : m.opened s
      still_open = (k.moved.keeps.stays s mine_spared).opened

      held : IsHeldBy b s p
      held = read_held m b s p h.keeps still_open (h.scopes.holds p) (part_held (turn.Chunk l) k)

      mode : (b.told p).place ≡ (a.told p).place
      mode = ap (λ (d : DeviceTold). d.place) h.told ∙ ap (λ (d : DeviceTold). d.place) (untouched l k (rendering_of (elements l)) 0 h)

      ready : IsReady b s (Into' p g r new)
      ready = (
        record { mode = ap (λ (c : Place). c.mode) mode ∙ can.ready.0.mode; written = sym e; faults = fails l k (rendering_of (elements l)) 0 h },
        held,
        λ i. can.ready.2 (k.live p i),
        ready_kept m b (λ c. c ≡ p) (λ c. ⊥) (spares_all m) h.keeps s new (λ c i j. can.ready.2 (k.live p (subst (λ d. IsLive d new) j i))) (all_spared m s still_open)
            (λ c i. all_spared m c (scope_open m s c new (k.ready tt) i)) (k.ready tt),
        still,
      )

      caused : TurnIsCaused P a.told b.told (Into' p v q x) (Into' p g r new)
      caused = elim (one_of_three P a.told m.told x new (turn.Chunk l) plain k.caused tt) [
        | inl i ↦ inl (omega (arith, i))
        | inr i ↦ inr (elim i [
          | inl j ↦ inl (j.0, inr j.1, omega (arith, j.2, at_same m b p (rendering_of (elements l)) 0 h j.0))
          | inr j ↦ inr (written p v g q r x new j)
        ])
      ]

  -- a front of the text was written, and then a write failed
  pub failed_step : (l : Load) (front : ℕ) → Turned P a m s n x new (turn.Chunk l) → Writes m p (take front (rendering_of (elements l))) 1 b → Turned P a b s n (Into' p v q x) (Into' p g r new) (turn.Fault code.Write)
  failed_step l front k h =
      let text = rendering_of (elements l) in
      turned l k (take front text) 1 h (turn.Fault code.Write) (λ i. absurd i) (λ i. i) tt (λ j. tt)
      (record { open_fault = λ e. absurd (write_is_no_open e); read_fault = λ e. absurd (write_is_no_read e); write_fault = λ e. (p, inl refl, omega (arith, fails l k (take front text) 1 h, can.ready.0.faults)) })
      (λ w o.
      let is = o.over p (inl refl) in
      inl (written_fails v (w p) (elements l) (take front text) (IsRunOfRest P w x) (stopped_below w o) (ap (λ (d : DeviceTold). d.write_faults) is ∙ fails l k (take front text) 1 h)
      (drop front text, sym (take-append-drop front text)) (written_same (b.told p) (w p) is ∙ stands l k (take front text) 1 h)))
    where
      -- the load was all that came of what is below
      stopped_below : (w : ℕ → DeviceTold) → Over b.told w (Into' p v q x) → IsRunOfRest P w x (elements l) Cut
      stopped_below w o =
          let back : (i : ℕ) → IsLive i x → gist (w i) ≡ gist (m.told i) =
          λ i live. o.over i (inr live) ∙ other m b p (take front (rendering_of (elements l))) 1 h i (λ j. can.ready.2 (subst (λ c. IsLive c x) j live)) in
          let ends : TellsAtEnd m.told w x new = record {
            over = λ i live never. back i live;
            goes = λ i. goes_on (m.told i) (b.told i) (w i) (later i) (o.goes i);
          } in
          let none = writes_no_more m w s new (k.ready tt) (λ i j. stays_well (m.told i) (w i) (back i (k.live i j))) in
          subst (λ zs. IsRunOfRest P w x zs Cut) (append-nil (elements l)) ((k.gave.1 w ends).gives [] Cut (can_stop P w new none))
        where
          later : (i : ℕ) → Goes (m.told i) (b.told i)
          later i = elim (eqb_tells i p) [
            | inl j ↦ subst (λ c. Goes (m.told c) (b.told c)) (sym j.1) (goes_written m b p (take front (rendering_of (elements l))) 1 h)
            | inr j ↦ goes_gist (m.told i) (b.told i) (other m b p (take front (rendering_of (elements l))) 1 h i j.1)
          ]

  -- nothing was written, and the turn is that of the part
  module _ (t : Turn) (k : Turned P a m s n x new t) (gives : Gave P m.told (Into' p v q x) (Into' p v r new) t) where
    held : IsHeldBy m s p
    held = part_held t k

    still_written : HasWritten (m.told p) v
    still_written =
        let same = k.moved.keeps.told p can.ready.2 in
        record {
          mode = ap (λ (d : DeviceTold). d.place.mode) same ∙ can.ready.0.mode;
          written = ap (λ (d : DeviceTold). d.written) same ∙ can.ready.0.written;
          faults = ap (λ (d : DeviceTold). d.write_faults) same ∙ can.ready.0.faults;
        }

    pub passed : ((l : Load) → t ≡ turn.Chunk l → ⊥) → Turned P a m s n (Into' p v q x) (Into' p v r new) t
    passed never = record {
      moved = moved_part a m x (Into' p v q x) (λ i j. inr j) (λ c i. i) k.moved;
      once = k.once;
      writes = k.writes;
      live = λ i. elim [ inl j ↦ inl j | inr j ↦ inr (k.live i j) ];
      fewer = omega (arith, k.fewer);
      spends = record { events = k.spends.events; scopes = k.spends.scopes; rows = k.spends.rows };
      ready = λ i. (still_written, held, λ j. can.ready.2 (k.live p j), k.ready i, still);
      scopes = k.scopes;
      pipes = λ i. k.pipes i;
      kinds = λ j i. kind_of_none t never j;
      caused = by_three P a.told m.told (Into' p v q x) (Into' p v r new) t
          (λ i. caused_part P a.told m.told x new (Into' p v q x) (Into' p v r new) (λ j. omega (arith, j)) (λ c j. inr j) (λ j. written p v v q r x new j) (one_of_three P a.told m.told x new t plain k.caused i));
      cause = cause_part a.told m.told x (Into' p v q x) t (λ c j. inr j) k.cause;
      gave = gives;
    }
      where
        kind_of_none : (t : Turn) → ((l : Load) → t ≡ turn.Chunk l → ⊥) → (j : LoadKind) → GivesKind P j (Into' p v r new) t
        kind_of_none (turn.Chunk l) never j = absurd (never l refl)
        kind_of_none turn.Quiet never j = tt
        kind_of_none turn.Done never j = tt
        kind_of_none (turn.Fault c) never j = tt

  -- what stands below is over, and the device stands as it did
  over_part : (w : ℕ → DeviceTold) → Over m.told w (Into' p v q x) → Over m.told w x
  over_part w o = record { over = λ i j. o.over i (inr j); goes = o.goes }

  pub quiet_step : Turned P a m s n x new turn.Quiet → Turned P a m s n (Into' p v q x) (Into' p v r new) turn.Quiet
  quiet_step k = passed turn.Quiet k
      (λ w e. by_left (written_lead v v (w p) [] (IsRunOfRest P w new) (IsRunOfRest P w x) (sym (none_behind v)) (k.gave w (ends w e))) (λ i. some_written v (w p) (IsRunOfRest P w new) i.0 i.1 (can_stop P w new i.2)))
      (λ l e. quiet_is_no_chunk l e)
    where
      ends : (w : ℕ → DeviceTold) → TellsAtEnd m.told w (Into' p v q x) (Into' p v r new) → TellsAtEnd m.told w x new
      ends w e = record { over = λ i live never. e.over i (inr live) (elim [ inl j ↦ can.ready.2 (subst (λ c. IsLive c x) j live) | inr j ↦ never j ]); goes = e.goes }

  end_step : (t : Turn) (end : End) → Turned P a m s n x new t → ((w : ℕ → DeviceTold) → Over m.told w x → IsRunOfRest P w x [] end) → (w : ℕ → DeviceTold) → Over m.told w (Into' p v q x) → IsRunOfRest P w (Into' p v q x) [] end
  end_step t end k run w o =
      let same = k.moved.keeps.told p can.ready.2 in
      let is = o.over p (inl refl) in
      inl (written_ends v (w p) (IsRunOfRest P w x) end (written_same (m.told p) (w p) is ∙ (written_same (a.told p) (m.told p) same ∙ can.ready.0.written))
      (ap (λ (d : DeviceTold). d.write_faults) is ∙ (ap (λ (d : DeviceTold). d.write_faults) same ∙ can.ready.0.faults)) (run w (over_part w o)))

  pub done_step : Turned P a m s n x new turn.Done → Turned P a m s n (Into' p v q x) (Into' p v r new) turn.Done
  done_step k = passed turn.Done k (end_step turn.Done Done k k.gave) (λ l e. done_is_no_chunk l e)

  pub fault_step : (c : Code) → Turned P a m s n x new (turn.Fault c) → Turned P a m s n (Into' p v q x) (Into' p v r new) (turn.Fault c)
  fault_step c k = passed (turn.Fault c) k (end_step (turn.Fault c) (Fault c) k k.gave) (λ l e. fault_is_no_chunk c l e)

module _ {F : Type 0} (P : StateMeaning F) {O : Type 0} (seen : O → Around) (a : Around) (y z : O) (s n p : ℕ) (v g : Option (List ℕ)) (q r : Box (Unit {0}) Global) (x new : Rest F) (can : CanStep P a s (Into' p v q x)) (plain : HasNoGroups x) (still : HasNoGroups new) where
  -- nothing was written
  kept : (t u : Turn) → z ≡ y → g ≡ v → u ≡ t → Turned P a (seen y) s n (Into' p v q x) (Into' p v r new) t → Turned P a (seen z) s n (Into' p v q x) (Into' p g r new) u
  kept t u e f i h = rw (e, f, i) h

  pub into_step : (t u : Turn) → WritesTurn seen y z p v g t u → Turned P a (seen y) s n x new t → Turned P a (seen z) s n (Into' p v q x) (Into' p g r new) u
  into_step (turn.Chunk l) (turn.Chunk k) w h = absurd w
  into_step (turn.Chunk l) turn.Quiet w h = wrote_step P a (seen y) (seen z) s n p v g q r x new can plain still l h w.0 w.1
  into_step (turn.Chunk l) turn.Done w h = absurd w
  into_step (turn.Chunk l) (turn.Fault c) w h =
      rw w.0 (failed_step P a (seen y) (seen z) s n p v g q r x new can plain still l w.2.0 h w.2.1)
  into_step turn.Quiet u w h = kept turn.Quiet u w.0 w.1 w.2 (quiet_step P a (seen y) (seen y) s n p v g q r x new can plain still h)
  into_step turn.Done u w h = kept turn.Done u w.0 w.1 w.2 (done_step P a (seen y) (seen y) s n p v g q r x new can plain still h)
  into_step (turn.Fault c) u w h = kept (turn.Fault c) u w.0 w.1 w.2 (fault_step P a (seen y) (seen y) s n p v g q r x new can plain still c h)

  pub into_scoped : (t u : Turn) → WritesTurn seen y z p v g t u → Scoped P a (seen y) s x new t → Scoped P a (seen z) s (Into' p v q x) (Into' p g r new) u
  into_scoped (turn.Chunk l) (turn.Chunk k) w h = absurd w
  into_scoped (turn.Chunk l) turn.Quiet w h = (r, new, turn.Chunk l, scoped_kept P a (seen y) (seen z) (closed_same (seen y) (seen z) w.0.scopes) s x new (turn.Chunk l) (λ i. i) h, (g, tt, refl))
  into_scoped (turn.Chunk l) turn.Done w h = absurd w
  into_scoped (turn.Chunk l) (turn.Fault c) w h = (r, new, turn.Chunk l, scoped_kept P a (seen y) (seen z) (closed_same (seen y) (seen z) w.2.1.scopes) s x new (turn.Chunk l) (λ i. i) h, (g, w.0, refl))
  into_scoped turn.Quiet u w h = (r, new, turn.Quiet, subst (λ (o : O). Scoped P a (seen o) s x new turn.Quiet) (sym w.0) h, (g, w.2, refl))
  into_scoped turn.Done u w h = (r, new, turn.Done, subst (λ (o : O). Scoped P a (seen o) s x new turn.Done) (sym w.0) h, (g, w.2, refl))
  into_scoped (turn.Fault c) u w h = (r, new, turn.Fault c, subst (λ (o : O). Scoped P a (seen o) s x new (turn.Fault c)) (sym w.0) h, (g, w.2, refl))

-- what was touched below
pub into_moved : {F : Type 0} (a b : Around) (p : ℕ) (v : Option (List ℕ)) (q : Box (Unit {0}) Global) (x : Rest F) → Moved a b x → Moved a b (Into' p v q x)
into_moved a b p v q x h = moved_part a b x (Into' p v q x) (λ i j. inr j) (λ c i. i) h

-- a load that came from below may be written
pub can_write : {F : Type 0} (P : StateMeaning F) (a m : Around) (s n p : ℕ) (v : Option (List ℕ)) (q : Box (Unit {0}) Global) (x new : Rest F) → CanStep P a s (Into' p v q x) → (t : Turn) → Turned P a m s n x new t → CanWrite m p t
can_write P a m s n p v q x new can (turn.Chunk l) k =
    let around = spares_around a (λ c. IsScopeOf c x) can.nested in
    let held = held_kept a m (λ c. IsLive c x) (λ c. IsScopeOf c x) s p around k.moved.keeps can.ready.2 (own_spared a can.nested s x can.opened can.ready.3) can.ready.1 in
    let same = k.moved.keeps.told p can.ready.2 in
    let none : (m.told p).write_faults ≡ 0 = ap (λ (d : DeviceTold). d.write_faults) same ∙ can.ready.0.faults in
    ((held.0, held.3), ap (λ (d : DeviceTold). d.place.mode) same ∙ can.ready.0.mode, omega (arith, none))
can_write P a m s n p v q x new can turn.Quiet k = tt
can_write P a m s n p v q x new can turn.Done k = tt
can_write P a m s n p v q x new can (turn.Fault c) k = tt
