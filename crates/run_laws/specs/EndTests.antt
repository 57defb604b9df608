-- Tests of why streams ended as they did, and that nothing begins after a stop. They compute on a run that is written out.
use Rattle.std.specs.Prelude.{ℕ, zero, suc, ◌+◌, Bool, true, false, ◌&&◌, ◌||◌, not, nat_eq, nat_le, nat_lt, Option, Some, None, is_some, if◌then◌else◌, List, [], ◌∷◌, filter, length}
use Rattle.std.specs.List.{list_any as any, list_all as all}
use Rattle.chunk_core.specs.Lists.{has}
use Rattle.chunk_core.specs.Outcomes.{exit_of}
use Rattle.chunk_core.specs.Texts.{Frame}
use Rattle.chunk_core.specs.declared.code.Exit.{Exit}
use Rattle.chunk_core.specs.declared.code.Exit.TheVariants.{Succeeded, Errored, Canceled}
use Rattle.chunk_core.specs.declared.code.How.{How}
use Rattle.chunk_core.specs.declared.code.How.TheVariants as how
use Rattle.res_ledger.specs.declared.event.StreamNo.{StreamNo}
use Rattle.res_ledger.specs.declared.event.StreamNo.TheVariants.{Outer, Inner}
use Rattle.res_ledger.specs.declared.event.What.{What}
use Rattle.res_ledger.specs.declared.event.What.TheVariants.{Cancel, Close}
use Rattle.res_ledger.specs.declared.event.Event.{Event}
use Rattle.res_ledger.specs.Judge.{each_after, is_leased}
use Rattle.res_ledger.specs.Order.{same_exit}
use Rattle.res_ledger.specs.Own.{closes, own}
use Rattle.res_ledger.specs.Streams.{by_stream, same_stream}
use Rattle.res_ledger.specs.Whole.{is_cancel}
use Rattle.device_port.specs.Device.{DeviceTold, Place}
use Rattle.run_rules.specs.declared.end.EndOf.{EndOf}
use Rattle.run_rules.specs.Devices.{came_back}
use Rattle.run_rules.specs.Ends.{act_count, last_stream}
use Rattle.run_rules.specs.Facts.{acts, first_numbers, has_left, holds_number, is_fault, is_halted, is_memory, is_over, is_place, is_root_close, leased_stream, root_exit}
use Rattle.run_rules.specs.Work.{Opener, RunRecord, Work, begun_frames, most_of, places_by, runs_in_turn, until_by}

-- Why a stream may be halted.

-- what j does may stop k
abbrev pub may_stop : Work → StreamNo → StreamNo → Bool
may_stop work (Inner j) (Inner k) = not (runs_in_turn work) || nat_le j k
may_stop work j k = true

-- no more is printed
abbrev pub is_silenced : Work → RunRecord → Bool
is_silenced work c = is_some c.cut || holds_number (most_of work) (length c.frames)

-- no more is printed, which may stop k
abbrev pub silence_stops : Work → RunRecord → StreamNo → Bool
silence_stops work c k = is_silenced work c && elim (last_stream c) [ Some j ↦ may_stop work (Inner j) k | None ↦ true ]

-- k closed its root
abbrev pub is_root_closed : List Event → StreamNo → Bool
is_root_closed L k = has 0 (closes (own k L))

-- wherever k closed its root, j had closed its own before
abbrev pub closes_before : List Event → StreamNo → StreamNo → Bool
closes_before L j k = each_after (λ P e. not (same_stream e.by k && is_root_close e.what) || is_root_closed P j) [] L

-- a stream failed that may stop k, before k closed its root
abbrev pub fault_stops : Work → RunRecord → StreamNo → Bool
fault_stops work c k = any (λ e. is_fault e.how && (may_stop work e.who k && closes_before c.events e.who k)) c.ends

-- the stream has ended whose end stops k
abbrev pub end_stops : Work → RunRecord → StreamNo → Bool
end_stops work c k = elim (until_by work k) [ Some j ↦ has_left j c.events && may_stop work (Inner j) k | None ↦ false ]

-- it had ended before k closed its root
abbrev pub end_stops_in_time : Work → RunRecord → StreamNo → Bool
end_stops_in_time work c k = elim (until_by work k) [ Some j ↦ has_left j c.events && (may_stop work (Inner j) k && closes_before c.events (Inner j) k) | None ↦ false ]

-- there is a cause to halt k
abbrev pub has_cause_to_halt : Work → RunRecord → StreamNo → Bool
has_cause_to_halt work c k = silence_stops work c k || (c.memory || (fault_stops work c k || end_stops_in_time work c k))

-- Why a stream may fail.

-- a fault of an act is shown by a device that was made in the run for one of the places
abbrev pub is_shown : List DeviceTold → List Place → How → Bool
is_shown ds ps (how.Fault c) = elim (act_count c) [ Some n ↦ any (λ d. any (is_place d.place) ps && nat_lt 0 (n d)) ds | None ↦ true ]
is_shown ds ps h = true

-- The ends.

-- the stream ended by itself or noted something, or it is the outer one
abbrev pub has_begun : EndOf → List Event → Bool
has_begun e L = is_over e.how || (acts e.who L || same_stream e.who Outer)

-- the end comes by its cause, and a stream that has begun closed its root
abbrev pub is_caused : Work → RunRecord → EndOf → Bool
is_caused work c e =
    (not (is_halted e.how) || has_cause_to_halt work c e.who) && (is_shown (came_back c.depot_old c.depot_new) (places_by work e.who) e.how && (not (has_begun e c.events) || is_root_closed c.events e.who))

-- where an end says so, memory was wanting
abbrev pub is_memory_known : RunRecord → Bool
is_memory_known c = not (any (λ e. is_memory e.how) c.ends) || c.memory

-- where memory was wanting, an end says so, or a stream was halted though frames could be printed; that a run of it goes on is not tested
abbrev pub is_memory_told : Work → RunRecord → Bool
is_memory_told work c = not c.memory || any (λ e. is_memory e.how || (is_halted e.how && (not (same_stream e.who Outer) && not (is_silenced work c)))) c.ends

-- Stopping.

-- no stream above j has an event
abbrev pub is_last : ℕ → List Event → Bool
is_last j L = all (λ e. elim e.by [ Inner k ↦ nat_le k j | Outer ↦ true ]) L

-- no stream begins behind one that failed or found no memory
abbrev pub stops_by_failure : RunRecord → Bool
stops_by_failure c = all (λ e. not (is_fault e.how || is_memory e.how) || elim e.who [ Inner j ↦ is_last j c.events | Outer ↦ true ]) c.ends

-- no stream begins behind the one that printed last, where no more is printed
abbrev pub stops_when_silenced : Work → RunRecord → Bool
stops_when_silenced work c = not (is_silenced work c) || elim (last_stream c) [ Some j ↦ is_last j c.events | None ↦ true ]

-- stream k doesn't begin where the stream before it has ended whose end stops it
abbrev pub stops_by_end : Work → RunRecord → ℕ → Bool
stops_by_end work c k = elim (until_by work (Inner k)) [ Some j ↦ not (nat_lt j k && has_left j c.events) || not (acts (Inner k) c.events) | None ↦ true ]

-- no stream begins behind one that was halted where one is open at a time or before it began, unless the end of another stopped that
abbrev pub stops_by_halt : Work → RunRecord → EndOf → Bool
stops_by_halt work c e =
    elim e.who [ Inner k ↦ not (is_halted e.how) || (not (runs_in_turn work || not (acts (Inner k) c.events)) || (end_stops work c (Inner k) || is_last k c.events)) | Outer ↦ true ]

-- nothing begins after a stop, where one stream is open at a time; and no stream begins where nothing may be printed
abbrev pub is_stopped : Work → RunRecord → Bool
is_stopped work c =
    (not (runs_in_turn work) || (stops_by_failure c && (stops_when_silenced work c && all (stops_by_end work c) (first_numbers (length work.streams))))) && (all (stops_by_halt work c) c.ends && (not (holds_number (most_of work) 0) || all (λ e. same_stream e.by Outer) c.events))

-- Whose turn it was, and which streams were open then.

-- the root is closed, and not as one that is stopped
abbrev pub is_unstopped_close : What → Bool
is_unstopped_close w = elim (root_exit w) [ Some x ↦ not (same_exit x Canceled) | None ↦ false ]

-- the outer stream leased for k, and not for the one behind it
abbrev pub is_last_leased : List Event → ℕ → Bool
is_last_leased L k = is_leased L k && not (is_leased L (k + 1))

-- the event shows that stream k had its turn
abbrev pub is_turn : List Event → ℕ → Event → Bool
is_turn L k e = same_stream e.by (Inner k) || (holds_number (leased_stream e.what) (k + 1) || (same_stream e.by Outer && (is_unstopped_close e.what && is_last_leased L k)))

-- the number before passes, if there is one
abbrev pub passes_before : (ℕ → Bool) → ℕ → Bool
passes_before p zero = true
passes_before p (suc k) = p k

-- the outer stream closed its root, and not as one that is stopped
abbrev pub is_unstopped : List Event → Bool
is_unstopped L = any (λ e. same_stream e.by Outer && is_unstopped_close e.what) L

-- each stream that had its turn passes
abbrev pub each_turn : (ℕ → Bool) → List Event → Bool
each_turn p L =
    all (λ e. elim e.by [ Inner k ↦ p k | Outer ↦ true ]) L
    && (all (λ e. elim (leased_stream e.what) [ Some j ↦ passes_before p j | None ↦ true ]) L && (not (is_unstopped L) || all (λ e. elim (leased_stream e.what) [ Some k ↦ not (is_last_leased L k) || p k | None ↦ true ]) L))

-- the events up to the first Cancel of the lease of stream i
abbrev pub until_left : ℕ → List Event → List Event
until_left i [] = []
until_left i (e ∷ L) = e ∷ (if is_cancel i e.what then [] else until_left i L)

-- stream i hadn't left when k had its turn
abbrev pub was_in : List Event → ℕ → ℕ → Bool
was_in L k i = any (is_turn L k) (until_left i L)

-- a frame of stream i stands behind one of stream k
abbrev pub prints_behind : ℕ → ℕ → List Frame → Bool
prints_behind k i [] = false
prints_behind k i (g ∷ F) = (nat_eq g.stream k && any (λ f. nat_eq f.stream i) F) || prints_behind k i F

-- the end of stream i stopped those that hadn't begun
abbrev pub has_stopped_all : Work → RunRecord → ℕ → Bool
has_stopped_all work c i = any (λ e. same_stream e.who (Inner i) && (is_fault e.how || (is_memory e.how || (is_halted e.how && not (end_stops work c (Inner i)))))) c.ends

-- stream k began, and stream i printed behind it or its end stops k
abbrev pub outlasts_begin : Work → RunRecord → ℕ → ℕ → Bool
outlasts_begin work c k i = acts (Inner k) c.events && (prints_behind k i (begun_frames c) || (holds_number (until_by work (Inner k)) i && has_left i c.events))

-- as the record shows it, stream i was open when k had its turn
abbrev pub was_open : Work → RunRecord → ℕ → ℕ → Bool
was_open work c k i = was_in c.events k i || (has_stopped_all work c i || ((is_silenced work c && holds_number (last_stream c) i) || outlasts_begin work c k i))

-- fewer than `width` of the streams before k were
abbrev pub had_room : ℕ → Work → RunRecord → ℕ → Bool
had_room width work c k = nat_lt (length (filter (was_open work c k) (first_numbers k))) width

-- no stream above j had its turn
abbrev pub is_last_turn : ℕ → List Event → Bool
is_last_turn j L = each_turn (λ k. nat_le k j) L

-- the stream began, or the end of another stopped that, or none had its turn behind it
abbrev pub passes_last : Work → RunRecord → EndOf → Bool
passes_last work c e = elim e.who [ Inner k ↦ acts (Inner k) c.events || (end_stops work c (Inner k) || is_last_turn k c.events) | Outer ↦ true ]

-- each stream had its turn in room that was there, and none behind one that wasn't begun
abbrev pub take_turns : ℕ → Work → RunRecord → Bool
take_turns width work c = each_turn (had_room width work c) c.events && all (passes_last work c) c.ends

-- where there is an outer stream
abbrev pub begin_in_room : Option Opener → Work → RunRecord → Bool
begin_in_room None work c = true
begin_in_room (Some o) work c = take_turns o.max_open work c

-- Exits.

-- a stream beside an outer one may have ended by itself and be reported as halted
abbrev pub is_exit_hidden : Work → RunRecord → EndOf → Bool
is_exit_hidden work c e = is_some work.opener && (not (same_stream e.who Outer) && (is_halted e.how && (is_silenced work c || c.memory)))

-- the exit of a Close, where that of the stream's end is x
abbrev pub closes_with : StreamNo → Exit → ℕ → Exit → Bool
closes_with k x zero y = same_exit y x
closes_with k x (suc s) y = elim k [ Outer ↦ same_exit y Succeeded | Inner j ↦ true ]

-- what the stream noted of exits, where that of its end is x
abbrev pub tells_exit : StreamNo → Exit → What → Bool
tells_exit k x (Close s y) = closes_with k x s y
tells_exit k x (Cancel j y) = elim k [ Outer ↦ same_exit y Canceled | Inner i ↦ same_exit y x ]
tells_exit k x w = true

abbrev pub tell_exit : RunRecord → StreamNo → Exit → Bool
tell_exit c k x = all (λ e. tells_exit k x e.what) (by_stream k c.events)

-- what a stream noted of exits tells of one end, which is the one that is reported unless that is hidden; that a run has this end is not tested
abbrev pub has_one_exit : Work → RunRecord → EndOf → Bool
has_one_exit work c e = tell_exit c e.who (exit_of e.how) || (is_exit_hidden work c e && (tell_exit c e.who Succeeded || (tell_exit c e.who Errored || tell_exit c e.who Canceled)))
