-- The parts of a turn.
use Rattle.std.proofs.Common.{◌≡◌, inl, inr, ℕ, ◌<◌, ◌≤◌, refl, sym, ◌∙◌, ap, subst, arith, List}
use Rattle.std.proofs.lemmas.Bool.Decides.{eqb_tells}
use Rattle.chunk_core.specs.declared.code.Code.{Code}
use Rattle.chunk_core.specs.declared.code.Code.TheVariants as code
use Rattle.chunk_core.specs.declared.load.Load.{Load}
use Rattle.chunk_core.specs.Elements.{Element, LoadKind}
use Rattle.device_port.specs.Device.{DeviceTold}
use Rattle.pull_turns.specs.Around.{Around, Goes, Keeps, KeepsBut, gist}
use Rattle.pull_turns.specs.Groups.{GaveGroup, HasNoGroups}
use Rattle.pull_turns.specs.Groups.GaveGroup.{group, group_within, group_first, group_left, group_right}
use Rattle.pull_turns.specs.Piping.{StateMeaning, HasKind, PipesFit}
use Rattle.pull_turns.specs.Rest.{IsLive, IsReady, IsScopeOf, left, rows_left, scopes_left}
use Rattle.pull_turns.specs.Turned.{HasFinished, Moved, ReadsOnce, HasCause, Turned, Gave, GivesKind, GoesOn, TurnIsCaused, IsCausedBy}
use Rattle.pull_turns.specs.declared.rest.Rest.{Rest}
use Rattle.pull_turns.specs.declared.turn.Turn.{Turn}
use Rattle.pull_turns.specs.declared.turn.Turn.TheVariants as turn
use Rattle.pull_turns.proofs.Kept.{goes_same, goes_gist, keeps_same, keeps_more}

pub moved_same : {F : Type 0} (a : Around) (r : Rest F) → Moved a a r
moved_same a r = record { keeps = keeps_same a (λ p. IsLive p r) (λ c. IsScopeOf c r); goes = λ p. goes_same (a.told p) }

-- where no device was touched, and only these scopes were closed
pub moved_none : {F : Type 0} (a b : Around) (C : ℕ → Type 0) (r : Rest F) → ((c : ℕ) → C c → IsScopeOf c r) → Keeps a (λ q. ⊥) C b → Moved a b r
moved_none a b C r f k = record { keeps = keeps_more a b (λ q. ⊥) (λ p. IsLive p r) C (λ c. IsScopeOf c r) (λ q i. absurd i) f k; goes = λ p. goes_gist (a.told p) (b.told p) (k.told p (λ i. i)) }

-- where one device was touched
pub moved_place : {F : Type 0} (a b : Around) (p : ℕ) (r : Rest F) → IsLive p r → KeepsBut a p b → Goes (a.told p) (b.told p) → Moved a b r
moved_place a b p r l k g = record {
  keeps = keeps_more a b (λ q. q ≡ p) (λ q. IsLive q r) (λ c. ⊥) (λ c. IsScopeOf c r) (λ q e. subst (λ n. IsLive n r) (sym e) l) (λ c i. absurd i) k;
  goes = λ q. elim (eqb_tells q p) [ inl m ↦ subst (λ n. Goes (a.told n) (b.told n)) (sym m.1) g | inr m ↦ goes_gist (a.told q) (b.told q) (k.told q m.1) ];
}

-- what a part touched
pub moved_part : {F : Type 0} (a b : Around) (x y : Rest F) → ((p : ℕ) → IsLive p x → IsLive p y) → ((c : ℕ) → IsScopeOf c x → IsScopeOf c y) → Moved a b x → Moved a b y
moved_part a b x y f g h = record { keeps = keeps_more a b (λ p. IsLive p x) (λ p. IsLive p y) (λ c. IsScopeOf c x) (λ c. IsScopeOf c y) f g h.keeps; goes = h.goes }

pub once_same : (a b : ℕ → DeviceTold) (n : ℕ) → ((q : ℕ) → (b q).at ≡ (a q).at) → ((q : ℕ) → (b q).read_faults ≡ (a q).read_faults) → ReadsOnce a b n
once_same a b n f g = record { place = 0; others = λ q m. (f q, g q); read = inl (omega (arith, f 0), g 0) }

pub quiet_goes_on : (c : Code) → turn.Quiet ≡ turn.Fault c → ⊥
quiet_goes_on c e = cc

pub chunk_goes_on : (l : Load) (c : Code) → turn.Chunk l ≡ turn.Fault c → ⊥
chunk_goes_on l c e = cc

pub done_is_no_fault : (c : Code) → turn.Done ≡ turn.Fault c → ⊥
done_is_no_fault c e = cc

pub cause_none : {F : Type 0} (a b : ℕ → DeviceTold) (r : Rest F) (t : Turn) → ((c : Code) → t ≡ turn.Fault c → ⊥) → HasCause a b r t
cause_none a b r t never = record { open_fault = λ e. absurd (never code.Open e); read_fault = λ e. absurd (never code.Read e); write_fault = λ e. absurd (never code.Write e) }

pub cause_part : {F : Type 0} (a b : ℕ → DeviceTold) (x y : Rest F) (t : Turn) → ((p : ℕ) → IsLive p x → IsLive p y) → HasCause a b x t → HasCause a b y t
cause_part a b x y t f h = record {
  open_fault = λ e. let c = h.open_fault e in (c.0, f c.0 c.1, c.2);
  read_fault = λ e. let c = h.read_fault e in (c.0, f c.0 c.1, c.2);
  write_fault = λ e. let c = h.write_fault e in (c.0, f c.0 c.1, c.2);
}

-- nothing was read after it
pub once_before : (a b c : ℕ → DeviceTold) (n : ℕ) → ReadsOnce a b n → ((q : ℕ) → (c q).at ≡ (b q).at) → ((q : ℕ) → (c q).read_faults ≡ (b q).read_faults) → ReadsOnce a c n
once_before a b c n h at faults = record {
  place = h.place;
  others = λ q m. (at q ∙ (h.others q m).0, faults q ∙ (h.others q m).1);
  read = elim h.read [ inl i ↦ inl (omega (arith, at h.place, i.0), faults h.place ∙ i.1) | inr i ↦ inr (at h.place ∙ i.0, faults h.place ∙ i.1) ];
}

-- the devices told the same of it before
pub once_on : (a b c : ℕ → DeviceTold) (n : ℕ) → ReadsOnce a b n → ((q : ℕ) → gist (c q) ≡ gist (b q)) → ReadsOnce a c n
once_on a b c n h same = once_before a b c n h (λ q. ap (λ (d : DeviceTold). d.at) (same q)) (λ q. ap (λ (d : DeviceTold). d.read_faults) (same q))

pub cause_on : {F : Type 0} (a b c : ℕ → DeviceTold) (x y : Rest F) (t : Turn) → ((p : ℕ) → IsLive p x → IsLive p y) → ((q : ℕ) → gist (c q) ≡ gist (b q)) → HasCause a b x t → HasCause a c y t
cause_on a b c x y t f same h = record {
  open_fault = λ e. let i = h.open_fault e in (i.0, f i.0 i.1, omega (arith, i.2, ap (λ (d : DeviceTold). d.open_faults) (same i.0)));
  read_fault = λ e. let i = h.read_fault e in (i.0, f i.0 i.1, omega (arith, i.2, ap (λ (d : DeviceTold). d.read_faults) (same i.0)));
  write_fault = λ e. let i = h.write_fault e in (i.0, f i.0 i.1, omega (arith, i.2, ap (λ (d : DeviceTold). d.write_faults) (same i.0)));
}

-- one of the three causes is one of each turn
pub by_three : {F : Type 0} (P : StateMeaning F) (a b : ℕ → DeviceTold) (old new : Rest F) (t : Turn) → (GoesOn t → TurnIsCaused P a b old new) → IsCausedBy P a b old new t
by_three P a b old new (turn.Chunk l) f = inl (f tt)
by_three P a b old new turn.Quiet f = f tt
by_three P a b old new turn.Done f = tt
by_three P a b old new (turn.Fault c) f = tt

-- where no part is grouped, no group waits
no_group : {F : Type 0} (xs : List Element) (x new : Rest F) → HasNoGroups x → GaveGroup xs x new → ⊥
no_group xs _ _ none (group n p q a l g e) = none
no_group xs _ _ none (group_within c p q a b h) = no_group xs a b none h
no_group xs _ _ none (group_first w p q a b m h) = no_group xs a b none.0 h
no_group xs _ _ none (group_left m n p q u v a b y h) = no_group xs a b none.0 h
no_group xs _ _ none (group_right m n p q u v x a b h) = no_group xs a b none.1 h

-- where no part is grouped, a turn that goes on has one of the three causes
pub one_of_three : {F : Type 0} (P : StateMeaning F) (a b : ℕ → DeviceTold) (x new : Rest F) (t : Turn) → HasNoGroups x → IsCausedBy P a b x new t → GoesOn t → TurnIsCaused P a b x new
one_of_three P a b x new (turn.Chunk l) none h g = elim h [ inl i ↦ i | inr i ↦ absurd (no_group _ x new none i) ]
one_of_three P a b x new turn.Quiet none h g = h
one_of_three P a b x new turn.Done none h g = absurd g
one_of_three P a b x new (turn.Fault c) none h g = absurd g

-- a turn that touches nothing
pub turned_by : {F : Type 0} (P : StateMeaning F) (a : Around) (s n : ℕ) (old new : Rest F) (t : Turn) → ((p : ℕ) → IsLive p new → IsLive p old) → left new ≤ left old
    → rows_left new ≤ rows_left old → scopes_left new ≤ scopes_left old → ((c : ℕ) → IsScopeOf c new → IsScopeOf c old) → (GoesOn t → IsReady a s new) → (GoesOn t → PipesFit P new)
    → ((k : LoadKind) → HasKind P k old → GivesKind P k new t) → IsCausedBy P a.told a.told old new t
    → HasCause a.told a.told old t → Gave P a.told old new t → Turned P a a s n old new t
turned_by P a s n old new t live fewer rows rooms scopes ready pipes kinds caused cause gave = record {
  moved = moved_same a old;
  once = once_same a.told a.told n (λ q. refl) (λ q. refl);
  writes = λ i p. (refl, refl, refl, refl);
  live = live;
  fewer = fewer;
  spends = record { events = omega (arith, rows, rooms); scopes = omega (arith, rooms); rows = omega (arith, rows) };
  ready = ready;
  scopes = λ g c i. inl (scopes c i, λ k. (λ w. w, λ w. w));
  pipes = pipes;
  kinds = kinds;
  caused = caused;
  cause = cause;
  gave = gave;
}

-- the same by one of the three causes
pub turned_same : {F : Type 0} (P : StateMeaning F) (a : Around) (s n : ℕ) (old new : Rest F) (t : Turn) → ((p : ℕ) → IsLive p new → IsLive p old) → left new ≤ left old
    → rows_left new ≤ rows_left old → scopes_left new ≤ scopes_left old → ((c : ℕ) → IsScopeOf c new → IsScopeOf c old) → (GoesOn t → IsReady a s new) → (GoesOn t → PipesFit P new)
    → ((k : LoadKind) → HasKind P k old → GivesKind P k new t) → (GoesOn t → TurnIsCaused P a.told a.told old new)
    → HasCause a.told a.told old t → Gave P a.told old new t → Turned P a a s n old new t
turned_same P a s n old new t live fewer rows rooms scopes ready pipes kinds caused cause gave =
    turned_by P a s n old new t live fewer rows rooms scopes ready pipes kinds (by_three P a.told a.told old new t caused) cause gave

-- what caused a turn of a part caused the turn of the whole
pub caused_part : {F : Type 0} (P : StateMeaning F) (a b : ℕ → DeviceTold) (x new y z : Rest F) → (left new < left x → left z < left y) → ((p : ℕ) → IsLive p x → IsLive p y)
    → (HasFinished P x new → HasFinished P y z) → TurnIsCaused P a b x new → TurnIsCaused P a b y z
caused_part P a b x new y z f g h = elim [
  | inl i ↦ inl (f i)
  | inr i ↦ inr (elim i [ inl j ↦ inl (j.0, g j.0 j.1, j.2) | inr j ↦ inr (h j) ])
]

-- the same of each turn
pub caused_whole : {F : Type 0} (P : StateMeaning F) (a b : ℕ → DeviceTold) (x new y z : Rest F) (t : Turn) → (left new < left x → left z < left y) → ((p : ℕ) → IsLive p x → IsLive p y)
    → (HasFinished P x new → HasFinished P y z) → ((xs : List Element) → GaveGroup xs x new → GaveGroup xs y z) → IsCausedBy P a b x new t → IsCausedBy P a b y z t
caused_whole P a b x new y z (turn.Chunk l) f g h k i = elim i [ inl j ↦ inl (caused_part P a b x new y z f g h j) | inr j ↦ inr (k _ j) ]
caused_whole P a b x new y z turn.Quiet f g h k i = caused_part P a b x new y z f g h i
caused_whole P a b x new y z turn.Done f g h k i = tt
caused_whole P a b x new y z (turn.Fault c) f g h k i = tt
