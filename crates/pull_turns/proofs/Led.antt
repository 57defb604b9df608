-- Several turns, by one turn more.
use Rattle.std.proofs.Common.{◌≡◌, subst, ℕ, Bool, true, false, List, ◌++◌, [], ◌∷◌, refl, sym, ◌∙◌, arith, append_assoc, append-nil, flat_map, ◌+◌, add-one}
use Rattle.std.proofs.lemmas.Grind.{flat_map-append}
use Rattle.chunk_core.specs.declared.code.Code.{Code}
use Rattle.chunk_core.specs.declared.code.Exit.{Exit}
use Rattle.chunk_core.specs.declared.code.Exit.TheVariants.{Succeeded, Errored}
use Rattle.chunk_core.specs.declared.load.Load.{Load}
use Rattle.chunk_core.specs.Elements.{Element, LoadKind, elements}
use Rattle.chunk_core.specs.Outcomes.{Cut, Done, End, Fault}
use Rattle.device_port.specs.Device.{DeviceTold}
use Rattle.pull_turns.specs.Around.{Affords, Around, IsNested, OpenAreHeld, LeavesScope, AllStayWell, StaysWell, gist}
use Rattle.pull_turns.specs.Failures.{IsToldRunOfRest, TellsOn, TurnTells}
use Rattle.pull_turns.specs.Groups.{Grouped}
use Rattle.pull_turns.specs.Piping.{StateMeaning, HasKind}
use Rattle.pull_turns.specs.Rest.{IsRunOfRest, IsLive, IsReady, CanStep}
use Rattle.pull_turns.specs.Turned.{Leads, TellsAtEnd, Over, Moved, Turned, Gave, GoesOn, Spends}
use Rattle.pull_turns.specs.Moves.{LeavesAtEnd}
use Rattle.pull_turns.specs.Scoped.{ClosesAtEnd, Scoped}
use Rattle.pull_turns.specs.Led.{CanBeCut, GoesOnFor, IsShut, Led, TouchesOnly, Turns, loads_of}
use Rattle.pull_turns.specs.declared.rest.Rest.{Rest}
use Rattle.pull_turns.specs.declared.turn.Turn.{Turn}
use Rattle.pull_turns.specs.declared.turn.Turn.TheVariants as turn
use Rattle.pull_turns.proofs.Failures.{rest_left}
use Rattle.pull_turns.proofs.Leads.{can_stop, left_earlier}
use Rattle.pull_turns.proofs.Kept.{goes_same, goes_on, goes_gist, own_spared}
use Rattle.pull_turns.proofs.Scoped.{scoped_on}
use Rattle.pull_turns.proofs.Turns.{by_three, once_on, cause_on}
use Rattle.pull_turns.proofs.Unwritten.{writes_no_more, stays_well, well_then}

closed_by : (x : Bool) → (x ≡ true → ⊥) → x ≡ false
closed_by true never = absurd (never refl)
closed_by false never = refl

pub shut_so : (a : Around) → OpenAreHeld a → ((k : ℕ) → a.opened k → ⊥) → IsShut a
shut_so a tidy never = record { scopes = never; devices = λ p. closed_by (a.told p).is_open (λ e. let held = tidy p e in never held.0 held.2) }

pub tells_same : {F : Type 0} (now : ℕ → DeviceTold) (r : Rest F) → TouchesOnly now now r
tells_same now r = record { goes = λ p. goes_same (now p); others = λ p n. refl }

pub tells_gist : {F : Type 0} (a b : ℕ → DeviceTold) (r : Rest F) → ((p : ℕ) → gist (b p) ≡ gist (a p)) → TouchesOnly a b r
tells_gist a b r same = record { goes = λ p. goes_gist (a p) (b p) (same p); others = λ p n. same p }

pub tells_on : {F : Type 0} (a b c : ℕ → DeviceTold) (start old : Rest F) → ((p : ℕ) → IsLive p old → IsLive p start) → TouchesOnly a b start → TouchesOnly b c old → TouchesOnly a c start
tells_on a b c start old l h i = record {
  goes = λ p. goes_on (a p) (b p) (c p) (h.goes p) (i.goes p);
  others = λ p n. i.others p (λ j. n (l p j)) ∙ h.others p n;
}

pub moved_tells : {F : Type 0} (a b : Around) (r : Rest F) → Moved a b r → TouchesOnly a.told b.told r
moved_tells a b r m = record { goes = m.goes; others = m.keeps.told }

-- the scope in which it runs stays open
pub stays_open : {F : Type 0} (a b : Around) (s : ℕ) (r : Rest F) → IsNested a → a.opened s → IsReady a s r → Moved a b r → b.opened s
stays_open a b s r nested o h m = (m.keeps.stays s (own_spared a nested s r o h)).opened

can_on : {F : Type 0} (P : StateMeaning F) (a b : Around) (n : ℕ) (old new : Rest F) (t : Turn) → IsNested b → CanStep P a 0 old → Turned P a b 0 n old new t → GoesOn t → CanStep P b 0 new
can_on P a b n old new t nested c h g = record {
  ready = h.ready g;
  pipes = h.pipes g;
  nested = nested;
  opened = stays_open a b 0 old c.nested c.opened c.ready h.moved;
  events = omega (arith, c.events, h.spends.events);
  scopes = omega (arith, c.scopes, h.spends.scopes);
  rows = omega (arith, c.rows, h.spends.rows);
}

-- what closing a scope gives back is no use of room
spends_on : {F : Type 0} (a b c : Around) (old new : Rest F) → Spends a b old new → Affords b c → Spends a c old new
spends_on a b c old new h l = record { events = omega (arith, h.events, l.events); scopes = omega (arith, h.scopes, l.scopes); rows = omega (arith, h.rows, l.rows) }

pub spends_then : {F : Type 0} (a b c : Around) (old mid new : Rest F) → Spends a b old mid → Spends b c mid new → Spends a c old new
spends_then a b c old mid new h i = record { events = omega (arith, h.events, i.events); scopes = omega (arith, h.scopes, i.scopes); rows = omega (arith, h.rows, i.rows) }

pub spends_none : {F : Type 0} (a : Around) (r : Rest F) → Spends a a r r
spends_none a r = record { events = omega arith; scopes = omega arith; rows = omega arith }

module _ {F : Type 0} (P : StateMeaning F) {O : Type 0} (seen : O → Around) (a : Around) (y z : O) (n : ℕ) (old new : Rest F) (c : CanStep P a 0 old) (tidy : OpenAreHeld (seen z)) (nested : IsNested (seen z)) where
  runs : (t : Turn) → z ≡ y → GoesOn t → ClosesAtEnd (seen y) 0 t → Grouped old new t → Scoped P a (seen y) 0 old new t → TurnTells (seen y).told old new t → Turned P a (seen y) 0 n old new t → Turns P a (seen z) n old new t
  runs t e g k q r f h = subst (λ (o : O). Turns P a (seen o) n old new t) (sym e) (record {
    tells = moved_tells a (seen y) old h.moved;
    once = h.once;
    writes = h.writes;
    live = h.live;
    fewer = h.fewer;
    spends = h.spends;
    can = can_on P a (seen y) n old new t (subst (λ (o : O). IsNested (seen o)) e nested) c h;
    shut = λ i. absurd (i g);
    closed = k;
    scoped = r;
    failures = f;
    kinds = h.kinds;
    caused = h.caused;
    grouped = q;
    cause = h.cause;
    gave = h.gave;
  })

  still_open : (t : Turn) → Turned P a (seen y) 0 n old new t → (seen y).opened 0
  still_open t h = stays_open a (seen y) 0 old c.nested c.opened c.ready h.moved

  over_before : (x : Exit) → LeavesScope (seen y) 0 x (seen z) → (w : ℕ → DeviceTold) → Over (seen z).told w old → Over (seen y).told w old
  over_before x l w o = record {
    over = λ k i. o.over k i ∙ l.told k;
    goes = λ k. goes_on ((seen y).told k) ((seen z).told k) (w k) (goes_gist ((seen y).told k) ((seen z).told k) (l.told k)) (o.goes k);
  }

  ends : (t : Turn) (x : Exit) → (GoesOn t → ⊥) → LeavesScope (seen y) 0 x (seen z) → ClosesAtEnd (seen z) 0 t → Grouped old new t → Scoped P a (seen z) 0 old new t → TurnTells (seen z).told old new t → Turned P a (seen y) 0 n old new t → Gave P (seen z).told old new t → Turns P a (seen z) n old new t
  ends t x never e k q r f h g = record {
    tells = tells_on a.told (seen y).told (seen z).told old old (λ p i. i) (moved_tells a (seen y) old h.moved) (tells_gist (seen y).told (seen z).told old e.told);
    once = once_on a.told (seen y).told (seen z).told n h.once e.told;
    writes = λ i k. well_then (a.told k) ((seen y).told k) ((seen z).told k) (h.writes i k) (stays_well ((seen y).told k) ((seen z).told k) (e.told k));
    live = h.live;
    fewer = h.fewer;
    spends = spends_on a (seen y) (seen z) old new h.spends e.affords;
    can = λ i. absurd (never i);
    shut = λ i. shut_so (seen z) tidy (e.root refl);
    closed = k;
    scoped = r;
    failures = f;
    kinds = h.kinds;
    caused = by_three P a.told (seen z).told old new t (λ i. absurd (never i));
    grouped = q;
    cause = cause_on a.told (seen y).told (seen z).told old old t (λ p i. i) e.told h.cause;
    gave = g;
  }

  pub turns_end : (t : Turn) → LeavesAtEnd seen y 0 t z → Grouped old new t → Scoped P a (seen y) 0 old new t → TurnTells (seen y).told old new t → Turned P a (seen y) 0 n old new t → Turns P a (seen z) n old new t
  turns_end (turn.Chunk l) e q r f h = runs (turn.Chunk l) e tt tt q r f h
  turns_end turn.Quiet e q r f h = runs turn.Quiet e tt tt q r f h
  turns_end turn.Done e q r f h = ends turn.Done Succeeded (λ i. i) e e.closed q (scoped_on P a (seen y) (seen z) 0 Succeeded e (still_open turn.Done h) 0 old new turn.Done (λ i. i) r) (λ w i. f w (over_before Succeeded e w i)) h (λ w i. h.gave w (over_before Succeeded e w i))
  turns_end (turn.Fault d) e q r f h = ends (turn.Fault d) Errored (λ i. i) e e.closed q (scoped_on P a (seen y) (seen z) 0 Errored e (still_open (turn.Fault d) h) 0 old new (turn.Fault d) (λ i. i) r) (λ w i. f w (over_before Errored e w i)) h (λ w i. h.gave w (over_before Errored e w i))

pub led_start : {F : Type 0} (P : StateMeaning F) (now : ℕ → DeviceTold) (r : Rest F) → Led P now now r r []
led_start P now r = record { tells = tells_same now r; live = λ p l. l; kinds = λ k i. i; grouped = λ k i. i; lead = λ w e. record { gives = λ ys g h. h }; failures = λ w o e i. i }

-- what holds at the end held of the turn before
ends_before : {F : Type 0} (before now w : ℕ → DeviceTold) (start old new : Rest F) → TouchesOnly before now old → ((p : ℕ) → IsLive p new → IsLive p old) → TellsAtEnd now w start new → TellsAtEnd before w start old
ends_before before now w start old new h l e = record {
  over = λ p i n. e.over p i (λ m. n (l p m)) ∙ h.others p n;
  goes = λ p. goes_on (before p) (now p) (w p) (h.goes p) (e.goes p);
}

joined : {F : Type 0} (P : StateMeaning F) (xs ys : List Element) (w : ℕ → DeviceTold) (start old new : Rest F) → Leads xs (IsRunOfRest P w old) (IsRunOfRest P w start) → Leads ys (IsRunOfRest P w new) (IsRunOfRest P w old) → Leads (xs ++ ys) (IsRunOfRest P w new) (IsRunOfRest P w start)
joined P xs ys w start old new f g = record { gives = λ zs e h. rw append_assoc (f.gives (ys ++ zs) e (g.gives zs e h)) }

-- what came in a first stretch, and behind it what came in a second
pub led_then : {F : Type 0} (P : StateMeaning F) (first mid last : ℕ → DeviceTold) (start old new : Rest F) (xs ys : List Element) → Led P first mid start old xs → Led P mid last old new ys → Led P first last start new (xs ++ ys)
led_then P first mid last start old new xs ys h k = record {
  tells = tells_on first mid last start old h.live h.tells k.tells;
  live = λ p m. h.live p (k.live p m);
  kinds = λ j i. k.kinds j (h.kinds j i);
  grouped = λ j i. k.grouped j (h.grouped j i);
  lead = λ w e.
      joined P xs ys w start old new (h.lead w (ends_before mid last w start old new k.tells k.live e)) (k.lead w (record { over = λ p m n. e.over p (h.live p m) n; goes = e.goes }));
  failures = λ w o e i. h.failures w (ends_before mid last w start old new k.tells k.live o) e (k.failures w (record { over = λ p m n. o.over p (h.live p m) n; goes = o.goes }) e i);
}

-- what came, and then the end of what was left
pub led_ends : {F : Type 0} (P : StateMeaning F) (first mid last : ℕ → DeviceTold) (start old : Rest F) (xs : List Element) (e : End) → Led P first mid start old xs → TouchesOnly mid last old
    → ((w : ℕ → DeviceTold) → Over last w old → IsToldRunOfRest P w old [] e) → (w : ℕ → DeviceTold) → Over last w start → IsToldRunOfRest P w start xs e
led_ends P first mid last start old xs e h k f w o =
    let before : TellsAtEnd mid w start old = record {
      over = λ p i m. o.over p i ∙ k.others p m;
      goes = λ p. goes_on (mid p) (last p) (w p) (k.goes p) (o.goes p);
    } in
    let end = f w (record { over = λ p i. o.over p (h.live p i); goes = o.goes }) in
    (subst (λ (ys : List Element). IsRunOfRest P w start ys e) (append-nil xs) ((h.lead w before).gives [] e end.0), h.failures w before e end.1)

module _ {F : Type 0} (P : StateMeaning F) (first : ℕ → DeviceTold) (before now : Around) (n : ℕ) (start old new : Rest F) (xs : List Element) (h : Led P first before.told start old xs) where
  led_on : (t : Turn) (ys : List Element) → Turns P before now n old new t → ((k : LoadKind) → HasKind P k old → HasKind P k new) → ((w : ℕ → DeviceTold) → TellsAtEnd now.told w old new → Leads ys (IsRunOfRest P w new) (IsRunOfRest P w old)) → TellsOn now.told old new
      → Led P first now.told start new (xs ++ ys)
  led_on t ys k i f g = led_then P first before.told now.told start old new xs ys h (record { tells = k.tells; live = k.live; kinds = i; grouped = λ j g. (k.grouped.most j g).0; lead = f; failures = g })

  pub led_chunk : (l : Load) → Turns P before now n old new (turn.Chunk l) → Led P first now.told start new (xs ++ elements l)
  led_chunk l k = led_on (turn.Chunk l) (elements l) k (λ j i. (k.kinds j i).1) k.gave.1 k.failures

  pub led_quiet : Turns P before now n old new turn.Quiet → Led P first now.told start new xs
  led_quiet k = subst (λ (ys : List Element). Led P first now.told start new ys) (append-nil xs) (led_on turn.Quiet [] k k.kinds k.gave k.failures)

  pub led_tells : (t : Turn) → Turns P before now n old new t → TouchesOnly first now.told start
  led_tells t k = tells_on first before.told now.told start old h.live h.tells k.tells

  pub led_done : Turns P before now n old new turn.Done → (w : ℕ → DeviceTold) → Over now.told w start → IsToldRunOfRest P w start xs Done
  led_done k = led_ends P first before.told now.told start old xs Done h k.tells (λ w o. (k.gave w o, k.failures w o))

  pub led_fault : (c : Code) → Turns P before now n old new (turn.Fault c) → (w : ℕ → DeviceTold) → Over now.told w start → IsToldRunOfRest P w start xs (Fault c)
  led_fault c k = led_ends P first before.told now.told start old xs (Fault c) h k.tells (λ w o. (k.gave w o, k.failures w o))

pub led_pushed : {F : Type 0} (P : StateMeaning F) (first : ℕ → DeviceTold) (before now : Around) (n : ℕ) (start old new : Rest F) (ls : List Load) (l : Load) → Led P first before.told start old (flat_map elements ls)
    → Turns P before now n old new (turn.Chunk l) → Led P first now.told start new (flat_map elements (ls ++ l ∷ []))
led_pushed P first before now n start old new ls l h k = rw (flat_map-append elements ls (l ∷ []), append-nil) (led_chunk P first before now n start old new (flat_map elements ls) h l k)

-- one turn more, that goes on
pub goes_on_more : {F : Type 0} (P : StateMeaning F) {O : Type 0} (seen : O → Around) (n k : ℕ) (a b c : O) (start old new : Rest F) (ls more : List Load) (t : Turn)
    → GoesOnFor P seen n k a start b old ls → Turns P (seen b) (seen c) n old new t → GoesOn t → more ≡ ls ++ loads_of t → GoesOnFor P seen n (k + 1) a start c new more
goes_on_more P seen n k a b c start old new ls more t h i g e = rw add-one (b, old, ls, t, h, i, g, e)

pub over_now : {F : Type 0} (now : ℕ → DeviceTold) (r : Rest F) → Over now now r
over_now now r = record { over = λ p l. refl; goes = λ p. goes_same (now p) }

-- where nothing was written and nothing failed since, what was left may be left
pub cut_unwritten : {F : Type 0} (P : StateMeaning F) (before now : Around) (s : ℕ) (old : Rest F) → CanStep P before s old → AllStayWell before.told now.told → CanBeCut P now.told old
cut_unwritten P before now s old can none w o = (can_stop P w old (writes_no_more before w s old can.ready well), rest_left before w s old can.ready well)
  where
    well : (p : ℕ) → IsLive p old → StaysWell (before.told p) (w p)
    well p i = well_then (before.told p) (now.told p) (w p) (none p) (stays_well (now.told p) (w p) (o.over p i))

-- after turns that gave xs, what was left before them may be left with nothing
pub led_short : {F : Type 0} (P : StateMeaning F) (before now : Around) (s : ℕ) (start rest : Rest F) (xs : List Element) → CanStep P now s rest → Led P before.told now.told start rest xs → CanBeCut P now.told start
led_short P before now s start rest xs can led w o =
    let ends : TellsAtEnd now.told w start rest = record { over = λ p i n. o.over p i; goes = o.goes } in
    let below = cut_unwritten P now now s rest can (λ p. (refl, refl, refl, refl)) w (record { over = λ p i. o.over p (led.live p i); goes = o.goes }) in
    (left_earlier P w start [] (xs ++ []) Cut ((led.lead w ends).gives [] Cut below.0), led.failures w ends Cut below.1)

-- the same after turns, none of which was the end
pub led_cut : {F : Type 0} (P : StateMeaning F) (first before now : Around) (start old : Rest F) (xs : List Element) → Led P first.told before.told start old xs → TouchesOnly before.told now.told old → CanBeCut P now.told old
    → (w : ℕ → DeviceTold) → Over now.told w start → IsToldRunOfRest P w start xs Cut
led_cut P first before now start old xs h k f = led_ends P first.told before.told now.told start old xs Cut h k f
