-- The tests of ends are exact.
use Rattle.std.proofs.Common.{◌≡◌, ◌⊎◌, ℕ, ◌<◌, ◌≤◌, Bool, true, false, ◌&&◌, ◌||◌, not, nat_eq, nat_le, nat_lt, List, length, Some, None, refl, sym, ap, ◌∙◌, subst}
use Rattle.std.specs.Prelude.{is_some, if◌then◌else◌}
use Rattle.std.proofs.lemmas.Bool.{false≢true}
use Rattle.std.specs.Bool.{Decides}
use Rattle.std.specs.List.{list_any as any, list_all as all}
use Rattle.chunk_core.specs.Lists.{IsAmong}
use Rattle.chunk_core.specs.declared.code.Exit.{Exit}
use Rattle.chunk_core.specs.declared.code.How.{How}
use Rattle.chunk_core.specs.declared.code.How.TheVariants as how
use Rattle.res_ledger.specs.declared.event.StreamNo.{StreamNo}
use Rattle.res_ledger.specs.declared.event.StreamNo.TheVariants.{Inner, Outer}
use Rattle.res_ledger.specs.declared.event.Event.{Event}
use Rattle.res_ledger.specs.declared.event.What.{What}
use Rattle.res_ledger.specs.declared.event.What.TheVariants.{Close}
use Rattle.res_ledger.specs.Ledger.{NotesClose}
use Rattle.res_ledger.specs.Streams.{same_stream}
use Rattle.device_port.specs.Device.{DeviceTold, Place}
use Rattle.run_rules.specs.declared.end.EndOf.{EndOf}
use Rattle.run_rules.specs.Devices.{came_back}
use Rattle.run_rules.specs.Ends.{ClosesBefore, EndIsCaused, EndStops, EndStopsInTime, FaultStops, HasBegun, HasCauseToHalt, IsLast, IsShown, IsSilenced, IsStopped, MayStop, SilenceStops, act_count, last_stream}
use Rattle.run_rules.specs.Facts.{Acts, HasLeft, IsFailure, IsOver, acts, at, first_numbers, has_left, is_fault, is_halted, is_memory, holds_number, is_over, is_place, is_root_close}
use Rattle.run_rules.specs.Work.{RunRecord, Work, most_of, places_by, runs_in_turn, until_by}
use Rattle.run_laws.specs.EndTests.{closes_before, end_stops, end_stops_in_time, fault_stops, has_begun, has_cause_to_halt, is_caused, is_last, is_memory_known, is_root_closed, is_shown, is_silenced, is_stopped, may_stop, silence_stops, stops_by_end, stops_by_failure, stops_by_halt, stops_when_silenced}
use Rattle.run_laws.specs.Laws.{StopsByEnd, StopsByFailure, StopsWhenSilenced}
use Rattle.run_laws.proofs.Deciding.{Decides-to, acts_so, after_so, all_so, always, and_so, any_so, at_below, at_most, each_some_so, fault_so, first_so, flag, found_so, halted_so, if_so, if_some_so, inner_so, left_so, less, memory_so, not_so, number_so, or_so, over_so, root_so, same_number, same_place, same_stream_so, some_so}

-- Why a stream may be halted.

pub may_stop_so : (work : Work) (j k : StreamNo) → Decides (may_stop work j k) (MayStop work j k)
may_stop_so work (Inner j) (Inner k) = if_so (runs_in_turn work) (nat_le j k) (flag (runs_in_turn work)) (at_most j k)
may_stop_so work (Inner j) Outer = always
may_stop_so work Outer k = always

pub silenced_so : (work : Work) (c : RunRecord) → Decides (is_silenced work c) (IsSilenced work c)
silenced_so work c = or_so (is_some c.cut) (holds_number (most_of work) (length c.frames)) (some_so c.cut) (number_so (most_of work) (length c.frames))

pub silence_stops_so : (work : Work) (c : RunRecord) (k : StreamNo) → Decides (silence_stops work c k) (SilenceStops work c k)
silence_stops_so work c k = and_so (is_silenced work c) (elim (last_stream c) [ Some j ↦ may_stop work (Inner j) k | None ↦ true ]) (silenced_so work c) (if_some_so (last_stream c) (λ j. may_stop work (Inner j) k) (λ j. MayStop work (Inner j) k) (λ j. may_stop_so work (Inner j) k))

told_some : (b : Bool) (x : Exit) → is_some (if b then Some x else None) ≡ b
told_some true x = refl
told_some false x = refl

root_close_so : (w : What) → Decides (is_root_close w) ((x : Exit) × (w ≡ Close 0 x))
root_close_so (Close s x) =
    let t = told_some (nat_eq s 0) x in let d = same_number s 0 in
    (λ h. (x, ap (λ n. Close n x) (d.0 (sym t ∙ h))), λ p. let e = p.1 in let q : s ≡ 0 = cc in t ∙ d.1 q)
root_close_so w = (λ h. absurd (false≢true h), λ p. let e = p.1 in let z : ⊥ = cc in absurd z)

pub closes_before_so : (L : List Event) (j k : StreamNo) → Decides (closes_before L j k) (ClosesBefore L j k)
closes_before_so L j k = Decides-to (closes_before L j k) (λ f P Q e x is by what. f P Q e is x by what) (λ f P Q e is x by what. f P Q e x is by what)
    (after_so (λ P e. not (same_stream e.by k && is_root_close e.what) || is_root_closed P j) (λ P e. (x : Exit) → e.by ≡ k → e.what ≡ Close 0 x → NotesClose P j 0)
    (λ P e. Decides-to (not (same_stream e.by k && is_root_close e.what) || is_root_closed P j) (λ f x by what. f (by, (x, what))) (λ f c. f c.1.0 c.0 c.1.1)
    (if_so (same_stream e.by k && is_root_close e.what) (is_root_closed P j) (and_so (same_stream e.by k) (is_root_close e.what) (same_stream_so e.by k) (root_close_so e.what)) (root_so P j))) L)

pub fault_stops_so : (work : Work) (c : RunRecord) (k : StreamNo) → Decides (fault_stops work c k) (FaultStops work c k)
fault_stops_so work c k = Decides-to (fault_stops work c k) (λ f. (f.0, f.1, f.2.0, f.2.1.0, f.2.1.1)) (λ f. (f.0, f.1, (f.2, (f.3, f.4))))
    (any_so (λ e. is_fault e.how && (may_stop work e.who k && closes_before c.events e.who k)) (λ e. IsFailure e.how × (MayStop work e.who k × ClosesBefore c.events e.who k))
    (λ e. and_so (is_fault e.how) (may_stop work e.who k && closes_before c.events e.who k) (fault_so e.how) (and_so (may_stop work e.who k) (closes_before c.events e.who k) (may_stop_so work e.who k) (closes_before_so c.events e.who k))) c.ends)

pub end_stops_so : (work : Work) (c : RunRecord) (k : StreamNo) → Decides (end_stops work c k) (EndStops work c k)
end_stops_so work c k = Decides-to (end_stops work c k) (λ f. (f.0, f.1, f.2.0, f.2.1)) (λ f. (f.0, f.1, (f.2, f.3)))
    (found_so (until_by work k) (λ j. has_left j c.events && may_stop work (Inner j) k) (λ j. HasLeft j c.events × MayStop work (Inner j) k) (λ j. and_so (has_left j c.events) (may_stop work (Inner j) k) (left_so j c.events) (may_stop_so work (Inner j) k)))

pub end_stops_in_time_so : (work : Work) (c : RunRecord) (k : StreamNo) → Decides (end_stops_in_time work c k) (EndStopsInTime work c k)
end_stops_in_time_so work c k = Decides-to (end_stops_in_time work c k) (λ f. (f.0, f.1, f.2.0, f.2.1.0, f.2.1.1)) (λ f. (f.0, f.1, (f.2, (f.3, f.4))))
    (found_so (until_by work k) (λ j. has_left j c.events && (may_stop work (Inner j) k && closes_before c.events (Inner j) k)) (λ j. HasLeft j c.events × (MayStop work (Inner j) k × ClosesBefore c.events (Inner j) k))
    (λ j. and_so (has_left j c.events) (may_stop work (Inner j) k && closes_before c.events (Inner j) k) (left_so j c.events) (and_so (may_stop work (Inner j) k) (closes_before c.events (Inner j) k) (may_stop_so work (Inner j) k) (closes_before_so c.events (Inner j) k))))

pub cause_so : (work : Work) (c : RunRecord) (k : StreamNo) → Decides (has_cause_to_halt work c k) (HasCauseToHalt work c k)
cause_so work c k =
    or_so (silence_stops work c k) (c.memory || (fault_stops work c k || end_stops_in_time work c k)) (silence_stops_so work c k)
    (or_so c.memory (fault_stops work c k || end_stops_in_time work c k) (flag c.memory) (or_so (fault_stops work c k) (end_stops_in_time work c k) (fault_stops_so work c k) (end_stops_in_time_so work c k)))

-- Why a stream may fail.

abbrev Shows : List DeviceTold → List Place → (DeviceTold → ℕ) → Type 0
Shows ds ps n = (d : DeviceTold) × IsAmong d ds × IsAmong d.place ps × (0 < n d)

shows_so : (ds : List DeviceTold) (ps : List Place) (n : DeviceTold → ℕ) → Decides (any (λ d. any (is_place d.place) ps && nat_lt 0 (n d)) ds) (Shows ds ps n)
shows_so ds ps n = Decides-to (any (λ d. any (is_place d.place) ps && nat_lt 0 (n d)) ds) (λ f. (f.0, f.1, f.2.0, f.2.1)) (λ f. (f.0, f.1, (f.2, f.3)))
    (any_so (λ d. any (is_place d.place) ps && nat_lt 0 (n d)) (λ d. IsAmong d.place ps × (0 < n d)) (λ d. and_so (any (is_place d.place) ps) (nat_lt 0 (n d)) (placed d) (less 0 (n d))) ds)
  where
    placed : (d : DeviceTold) → Decides (any (is_place d.place) ps) (IsAmong d.place ps)
    placed d = Decides-to (any (is_place d.place) ps) (λ f. subst (λ p. IsAmong p ps) (sym f.2) f.1) (λ m. (d.place, m, refl)) (any_so (is_place d.place) (λ p. d.place ≡ p) (λ p. same_place d.place p) ps)

pub shown_so : (ds : List DeviceTold) (ps : List Place) (h : How) → Decides (is_shown ds ps h) (IsShown ds ps h)
shown_so ds ps (how.Fault c) = if_some_so (act_count c) (λ n. any (λ d. any (is_place d.place) ps && nat_lt 0 (n d)) ds) (Shows ds ps) (shows_so ds ps)
shown_so ds ps how.Done = always
shown_so ds ps how.Halted = always
shown_so ds ps how.Memory = always

-- The ends.

pub begun_so : (e : EndOf) (L : List Event) → Decides (has_begun e L) (HasBegun e L)
begun_so e L = or_so (is_over e.how) (acts e.who L || same_stream e.who Outer) (over_so e.how) (or_so (acts e.who L) (same_stream e.who Outer) (acts_so e.who L) (same_stream_so e.who Outer))

pub caused_so : (work : Work) (c : RunRecord) (e : EndOf) → Decides (is_caused work c e) (EndIsCaused work c e)
caused_so work c e =
    let devices : List DeviceTold = came_back c.depot_old c.depot_new in
    let places : List Place = places_by work e.who in
    Decides-to (is_caused work c e) (λ t. record { halted = t.0; fault = t.1.0; root = t.1.1 }) (λ r. (r.halted, (r.fault, r.root)))
    (and_so (not (is_halted e.how) || has_cause_to_halt work c e.who) (is_shown devices places e.how && (not (has_begun e c.events) || is_root_closed c.events e.who))
    (if_so (is_halted e.how) (has_cause_to_halt work c e.who) (halted_so e.how) (cause_so work c e.who))
    (and_so (is_shown devices places e.how) (not (has_begun e c.events) || is_root_closed c.events e.who) (shown_so devices places e.how) (if_so (has_begun e c.events) (is_root_closed c.events e.who) (begun_so e c.events) (root_so c.events e.who))))

pub memory_known_so : (c : RunRecord) → Decides (is_memory_known c) ((e : EndOf) → IsAmong e c.ends → e.how ≡ how.Memory → c.memory ≡ true)
memory_known_so c = Decides-to (is_memory_known c) (λ f e m is. f (e, m, is)) (λ f x. f x.0 x.1 x.2)
    (if_so (any (λ e. is_memory e.how) c.ends) c.memory (any_so (λ e. is_memory e.how) (λ e. e.how ≡ how.Memory) (λ e. memory_so e.how) c.ends) (flag c.memory))

-- Stopping.

pub last_so : (j : ℕ) (L : List Event) → Decides (is_last j L) (IsLast j L)
last_so j L = Decides-to (is_last j L) (λ f k a. f a.0 a.1 k a.2) (λ f e m k by. f k (e, m, by))
    (all_so (λ e. elim e.by [ Inner k ↦ nat_le k j | Outer ↦ true ]) (λ e. (k : ℕ) → e.by ≡ Inner k → k ≤ j) (λ e. inner_so e.by (λ k. nat_le k j) (λ k. k ≤ j) (λ k. at_most k j)) L)

pub stops_by_failure_so : (c : RunRecord) → Decides (stops_by_failure c) (StopsByFailure c)
stops_by_failure_so c = Decides-to (stops_by_failure c) (λ f e j m who h. f e m h j who) (λ f e m h j who. f e j m who h)
    (all_so (λ e. not (is_fault e.how || is_memory e.how) || elim e.who [ Inner j ↦ is_last j c.events | Outer ↦ true ]) (λ e. IsFailure e.how ⊎ (e.how ≡ how.Memory) → (j : ℕ) → e.who ≡ Inner j → IsLast j c.events)
    (λ e. if_so (is_fault e.how || is_memory e.how) (elim e.who [ Inner j ↦ is_last j c.events | Outer ↦ true ]) (or_so (is_fault e.how) (is_memory e.how) (fault_so e.how) (memory_so e.how)) (inner_so e.who (λ j. is_last j c.events) (λ j. IsLast j c.events) (λ j. last_so j c.events)))
    c.ends)

pub stops_when_silenced_so : (work : Work) (c : RunRecord) → Decides (stops_when_silenced work c) (StopsWhenSilenced work c)
stops_when_silenced_so work c = if_so (is_silenced work c) (elim (last_stream c) [ Some j ↦ is_last j c.events | None ↦ true ]) (silenced_so work c) (if_some_so (last_stream c) (λ j. is_last j c.events) (λ j. IsLast j c.events) (λ j. last_so j c.events))

pub stops_by_end_so : (work : Work) (c : RunRecord) (k : ℕ) → Decides (stops_by_end work c k) (StopsByEnd work c k)
stops_by_end_so work c k = Decides-to (stops_by_end work c k) (λ f j is l h. f j is (l, h)) (λ f j is b. f j is b.0 b.1)
    (each_some_so (until_by work (Inner k)) (λ j. not (nat_lt j k && has_left j c.events) || not (acts (Inner k) c.events)) (λ j. (j < k) × HasLeft j c.events → ¬ (Acts (Inner k) c.events))
    (λ j. if_so (nat_lt j k && has_left j c.events) (not (acts (Inner k) c.events)) (and_so (nat_lt j k) (has_left j c.events) (less j k) (left_so j c.events)) (not_so (acts (Inner k) c.events) (acts_so (Inner k) c.events))))

-- only a stream that is there has one whose end stops it
until_below : (work : Work) (k j : ℕ) → until_by work (Inner k) ≡ Some j → k < length work.streams
until_below work k j e = (elim (at work.streams k) as (λ o. at work.streams k ≡ o → (elim o [ Some s ↦ s.until | None ↦ None ]) ≡ Some j → k < length work.streams) [
  | Some s ↦ λ is n. at_below work.streams k s is
  | None ↦ λ is n. let x : ⊥ = cc in absurd x
]) refl e

-- no stream begins behind one that was halted where one is open at a time or before it began, unless the end of another stopped that
abbrev pub StopsByHalt : Work → RunRecord → EndOf → Type 0
StopsByHalt work c e = (k : ℕ) → e.who ≡ Inner k → e.how ≡ how.Halted → (runs_in_turn work ≡ true) ⊎ ¬ (Acts (Inner k) c.events) → EndStops work c (Inner k) ⊎ IsLast k c.events

pub stops_by_halt_so : (work : Work) (c : RunRecord) (e : EndOf) → Decides (stops_by_halt work c e) (StopsByHalt work c e)
stops_by_halt_so work c e =
    inner_so e.who (λ k. not (is_halted e.how) || (not (runs_in_turn work || not (acts (Inner k) c.events)) || (end_stops work c (Inner k) || is_last k c.events)))
    (λ k. e.how ≡ how.Halted → (runs_in_turn work ≡ true) ⊎ ¬ (Acts (Inner k) c.events) → EndStops work c (Inner k) ⊎ IsLast k c.events)
    (λ k. if_so (is_halted e.how) (not (runs_in_turn work || not (acts (Inner k) c.events)) || (end_stops work c (Inner k) || is_last k c.events)) (halted_so e.how)
    (if_so (runs_in_turn work || not (acts (Inner k) c.events)) (end_stops work c (Inner k) || is_last k c.events)
    (or_so (runs_in_turn work) (not (acts (Inner k) c.events)) (flag (runs_in_turn work)) (not_so (acts (Inner k) c.events) (acts_so (Inner k) c.events)))
    (or_so (end_stops work c (Inner k)) (is_last k c.events) (end_stops_so work c (Inner k)) (last_so k c.events))))

pub stopped_so : (work : Work) (c : RunRecord) → Decides (is_stopped work c) (IsStopped work c)
stopped_so work c =
    let in_turn : Bool = stops_by_failure c && (stops_when_silenced work c && all (stops_by_end work c) (first_numbers (length work.streams))) in
    let unwanted : Bool = not (holds_number (most_of work) 0) || all (λ e. same_stream e.by Outer) c.events in
    Decides-to (is_stopped work c)
    (λ t. record {
      failed = λ r. (t.0 r).0;
      silenced = λ r. (t.0 r).1.0;
      ended = λ r j k is. (t.0 r).1.1 k (until_below work k j is) j is;
      halted = λ e k m. t.1.0 e m k;
      nobody = t.1.1;
    })
    (λ s. (λ r. (s.failed r, (s.silenced r, λ k l j is. s.ended r j k is)), (λ e m k. s.halted e k m, s.nobody)))
    (and_so (not (runs_in_turn work) || in_turn) (all (stops_by_halt work c) c.ends && unwanted)
    (if_so (runs_in_turn work) in_turn (flag (runs_in_turn work))
    (and_so (stops_by_failure c) (stops_when_silenced work c && all (stops_by_end work c) (first_numbers (length work.streams))) (stops_by_failure_so c)
    (and_so (stops_when_silenced work c) (all (stops_by_end work c) (first_numbers (length work.streams))) (stops_when_silenced_so work c) (first_so (stops_by_end work c) (StopsByEnd work c) (stops_by_end_so work c) (length work.streams)))))
    (and_so (all (stops_by_halt work c) c.ends) unwanted (all_so (stops_by_halt work c) (StopsByHalt work c) (stops_by_halt_so work c) c.ends)
    (if_so (holds_number (most_of work) 0) (all (λ e. same_stream e.by Outer) c.events) (number_so (most_of work) 0) (all_so (λ e. same_stream e.by Outer) (λ e. e.by ≡ Outer) (λ e. same_stream_so e.by Outer) c.events))))

-- any number of frames may be printed
pub unbounded : {P : Type 0} {n : ℕ} → None ≡ Some n → P
unbounded e = let x : ⊥ = cc in absurd x

-- a stream that was halted didn't end by itself
pub unfinished : IsOver how.Halted → ⊥
unfinished o = false≢true ((over_so how.Halted).1 o)
