-- The tests of what stood open when a stream had its turn, and of want of memory, are exact; and ends that pass the tests.
use Rattle.std.proofs.Common.{◌≡◌, ◌≢◌, ◌⊎◌, ℕ, ◌≤◌, Bool, true, ◌&&◌, ◌||◌, not, nat_eq, List, [], ◌∷◌, ◌++◌, map, length, filter, Option, Some, None, inl, inr, refl, sym, ap, ◌∙◌, subst, ⊎_elim, arith}
use Rattle.std.specs.Bool.{Decides}
use Rattle.std.specs.List.{list_any as any, list_all as all}
use Rattle.chunk_core.specs.Elements.{rendering_of}
use Rattle.chunk_core.specs.Elements.Element.{Byte}
use Rattle.chunk_core.specs.Lists.{IsAmong}
use Rattle.chunk_core.specs.Texts.{Frame}
use Rattle.chunk_core.specs.declared.code.How.TheVariants as how
use Rattle.chunk_core.specs.Outcomes.{Cut}
use Rattle.chunk_core.proofs.Bools.{and_true, any_at, any_found, both, either, or_left, or_right}
use Rattle.chunk_core.proofs.Distinct.{distinct_filter}
use Rattle.chunk_core.proofs.Filters.{among_filter, filter_among}
use Rattle.res_ledger.specs.declared.event.StreamNo.{StreamNo}
use Rattle.res_ledger.specs.declared.event.StreamNo.TheVariants.{Inner, Outer}
use Rattle.res_ledger.specs.Streams.{same_stream}
use Rattle.res_ledger.proofs.Permuted.{among_range, distinct_within, range_among, range_distinct}
use Rattle.device_port.specs.Device.{DeviceTold}
use Rattle.run_rules.specs.declared.end.EndOf.{EndOf}
use Rattle.run_rules.specs.Ends.{BeginInRoom, EndIsCaused, EndStops, HadRoom, HasStoppedAll, HaveEnds, IsLastTurn, IsSilenced, OutlastsBegin, PrintsBehind, WasOpen, last_stream}
use Rattle.run_rules.specs.Facts.{Acts, IsFailure, acts, first_numbers, has_left, holds_number, is_fault, is_halted, is_memory}
use Rattle.run_rules.specs.Memory.{IsWanting}
use Rattle.run_rules.specs.Opening.{HasOuterEnd}
use Rattle.run_rules.specs.Outputs.{payloads_by}
use Rattle.run_rules.specs.Work.{Opener, RunRecord, Stream, Values, Work, begun_frames, names_of, until_by}
use Rattle.run_laws.specs.EndTests.{begin_in_room, each_turn, end_stops, had_room, has_stopped_all, is_caused, is_last_turn, is_memory_known, is_memory_told, is_silenced, is_stopped, outlasts_begin, passes_last, prints_behind, take_turns, was_in, was_open}
use Rattle.run_laws.specs.Laws.{work_of}
use Rattle.run_laws.proofs.Deciding.{Decides-to, acts_so, all_so, always, and_so, any_so, each_so, fault_so, halted_so, if_so, inner_so, left_so, less, memory_so, not_so, number_so, or_so, same_number, same_stream_so}
use Rattle.run_laws.proofs.EndsTested.{caused_so, end_stops_so, memory_known_so, silenced_so, stopped_so}
use Rattle.run_laws.proofs.TurnsTested.{each_turn_so, last_turn_so, unless_so, was_in_so}

-- Which streams were open when another one had its turn.

behind_found : (k i : ℕ) (F : List Frame) → prints_behind k i F ≡ true → PrintsBehind F k i
behind_found k i [] h = let n : ⊥ = cc in absurd n
behind_found k i (g ∷ F) h = ⊎_elim
    (λ t.
    let b = both (nat_eq g.stream k) (any (λ f. nat_eq f.stream i) F) t in
    let f = any_found (λ (x : Frame). nat_eq x.stream i) F b.1 in
    ([], F, f.0, g, refl, (same_number g.stream k).0 b.0, f.1, (same_number f.0.stream i).0 f.2))
    (λ t. let p = behind_found k i F t in (g ∷ p.0, p.1, p.2, p.3, ap (λ l. g ∷ l) p.4, p.5, p.6, p.7))
    (either (nat_eq g.stream k && any (λ f. nat_eq f.stream i) F) (prints_behind k i F) h)

behind_at : (k i : ℕ) (A B : List Frame) (f g : Frame) → g.stream ≡ k → IsAmong f B → f.stream ≡ i → prints_behind k i (A ++ g ∷ B) ≡ true
behind_at k i [] B f g by m is =
    or_left (nat_eq g.stream k && any (λ x. nat_eq x.stream i) B) (prints_behind k i B) (and_true (nat_eq g.stream k) (any (λ x. nat_eq x.stream i) B) ((same_number g.stream k).1 by) (any_at (λ (x : Frame). nat_eq x.stream i) f B m ((same_number f.stream i).1 is)))
behind_at k i (a ∷ A) B f g by m is = or_right (nat_eq a.stream k && any (λ x. nat_eq x.stream i) (A ++ g ∷ B)) (prints_behind k i (A ++ g ∷ B)) (behind_at k i A B f g by m is)

pub behind_so : (k i : ℕ) (F : List Frame) → Decides (prints_behind k i F) (PrintsBehind F k i)
behind_so k i F = (behind_found k i F, λ p. subst (λ l. prints_behind k i l ≡ true) (sym p.4) (behind_at k i p.0 p.1 p.2 p.3 p.5 p.6 p.7))

pub stopped_all_so : (work : Work) (c : RunRecord) (i : ℕ) → Decides (has_stopped_all work c i) (HasStoppedAll work c i)
stopped_all_so work c i =
    let halts : EndOf → Bool = λ e. is_halted e.how && not (end_stops work c (Inner i)) in
    Decides-to (has_stopped_all work c i) (λ f. (f.0, f.1, f.2.0, f.2.1)) (λ f. (f.0, f.1, (f.2, f.3)))
    (any_so (λ e. same_stream e.who (Inner i) && (is_fault e.how || (is_memory e.how || halts e))) (λ e. (e.who ≡ Inner i) × (IsFailure e.how ⊎ (e.how ≡ how.Memory) ⊎ ((e.how ≡ how.Halted) × ¬ (EndStops work c (Inner i)))))
    (λ e. and_so (same_stream e.who (Inner i)) (is_fault e.how || (is_memory e.how || halts e)) (same_stream_so e.who (Inner i))
    (or_so (is_fault e.how) (is_memory e.how || halts e) (fault_so e.how)
    (or_so (is_memory e.how) (halts e) (memory_so e.how) (and_so (is_halted e.how) (not (end_stops work c (Inner i))) (halted_so e.how) (not_so (end_stops work c (Inner i)) (end_stops_so work c (Inner i)))))))
    c.ends)

outlasts_so : (work : Work) (c : RunRecord) (k i : ℕ) → Decides (outlasts_begin work c k i) (OutlastsBegin work c k i)
outlasts_so work c k i =
    let until : Bool = holds_number (until_by work (Inner k)) i && has_left i c.events in
    and_so (acts (Inner k) c.events) (prints_behind k i (begun_frames c) || until) (acts_so (Inner k) c.events)
    (or_so (prints_behind k i (begun_frames c)) until (behind_so k i (begun_frames c))
    (and_so (holds_number (until_by work (Inner k)) i) (has_left i c.events) (number_so (until_by work (Inner k)) i) (left_so i c.events)))

pub was_open_so : (work : Work) (c : RunRecord) (k i : ℕ) → Decides (was_open work c k i) (WasOpen work c k i)
was_open_so work c k i =
    let last : Bool = is_silenced work c && holds_number (last_stream c) i in
    or_so (was_in c.events k i) (has_stopped_all work c i || (last || outlasts_begin work c k i)) (was_in_so c.events k i)
    (or_so (has_stopped_all work c i) (last || outlasts_begin work c k i) (stopped_all_so work c i)
    (or_so last (outlasts_begin work c k i)
    (and_so (is_silenced work c) (holds_number (last_stream c) i) (silenced_so work c) (number_so (last_stream c) i))
    (outlasts_so work c k i)))

-- those that were open, from below
abbrev others_of : Work → RunRecord → ℕ → List ℕ
others_of work c k = filter (was_open work c k) (first_numbers k)

pub had_room_so : (width : ℕ) (work : Work) (c : RunRecord) (k : ℕ) → Decides (had_room width work c k) (HadRoom width work c k)
had_room_so width work c k = Decides-to (had_room width work c k)
    (λ l. (others_of work c k, l, λ i b w. filter_among (was_open work c k) i (first_numbers k) (range_among 0 k i (omega arith) (omega (arith, b))) ((was_open_so work c k i).1 w)))
    (λ h.
    let few : length (others_of work c k) ≤ length h.0 = distinct_within (others_of work c k) h.0 (distinct_filter (was_open work c k) (first_numbers k) (range_distinct 0 k))
    (λ i m. let f = among_filter (was_open work c k) i (first_numbers k) m in h.2 i (let b = (among_range 0 k i f.0).1 in omega (arith, b)) ((was_open_so work c k i).0 f.1)) in
    let less = h.1 in omega (arith, few, less))
    (less (length (others_of work c k)) width)

-- behind each stream that wasn't begun
abbrev pub PassesLast : Work → RunRecord → EndOf → Type 0
PassesLast work c e = (k : ℕ) → e.who ≡ Inner k → ¬ (Acts (Inner k) c.events) → EndStops work c (Inner k) ⊎ IsLastTurn k c.events

pub passes_last_so : (work : Work) (c : RunRecord) (e : EndOf) → Decides (passes_last work c e) (PassesLast work c e)
passes_last_so work c e =
    inner_so e.who (λ k. acts (Inner k) c.events || (end_stops work c (Inner k) || is_last_turn k c.events)) (λ k. ¬ (Acts (Inner k) c.events) → EndStops work c (Inner k) ⊎ IsLastTurn k c.events)
    (λ k. unless_so (acts (Inner k) c.events) (end_stops work c (Inner k) || is_last_turn k c.events) (acts_so (Inner k) c.events)
    (or_so (end_stops work c (Inner k)) (is_last_turn k c.events) (end_stops_so work c (Inner k)) (last_turn_so k c.events)))

pub begin_in_room_so : (o : Option Opener) (work : Work) (c : RunRecord) → Decides (begin_in_room o work c) (BeginInRoom o work c)
begin_in_room_so None work c = always
begin_in_room_so (Some o) work c = Decides-to (take_turns o.max_open work c) (λ t. record { room = t.0; passed = λ e k m. t.1 e m k }) (λ t. (t.room, λ e m k. t.passed e k m))
    (and_so (each_turn (had_room o.max_open work c) c.events) (all (passes_last work c) c.ends)
    (each_turn_so (had_room o.max_open work c) (HadRoom o.max_open work c) (had_room_so o.max_open work c) c.events)
    (all_so (passes_last work c) (PassesLast work c) (passes_last_so work c) c.ends))

-- Want of memory.

-- bytes render as they are
bytes_render : (b : List ℕ) → rendering_of (map Byte b) ≡ b
bytes_render [] = refl
bytes_render (x ∷ b) = ap (λ l. x ∷ l) (bytes_render b)

pieces_render : (ps : List (List ℕ)) → map rendering_of (map (λ b. map Byte b) ps) ≡ ps
pieces_render [] = refl
pieces_render (p ∷ ps) = ap (λ l. rendering_of (map Byte p) ∷ l) (pieces_render ps) ∙ ap (λ x. x ∷ ps) (bytes_render p)

-- a stream that isn't the outer one has a number
numbered : (s : StreamNo) → s ≢ Outer → (k : ℕ) × (s ≡ Inner k)
numbered (Inner k) n = (k, refl)
numbered Outer n = absurd (n refl)

-- the stream was halted though frames could be printed
abbrev MayLose : Work → RunRecord → EndOf → Type 0
MayLose work c e = (e.how ≡ how.Halted) × ((e.who ≢ Outer) × ¬ (IsSilenced work c))

-- an end says that memory was wanting, or a piece may have been lost for it
abbrev MayWant : Work → RunRecord → Type 0
MayWant work c = (e : EndOf) × IsAmong e c.ends × ((e.how ≡ how.Memory) ⊎ MayLose work c e)

may_want_so : (work : Work) (c : RunRecord) → Decides (is_memory_told work c) (c.memory ≡ true → MayWant work c)
may_want_so work c =
    let loses : EndOf → Bool = λ e. is_halted e.how && (not (same_stream e.who Outer) && not (is_silenced work c)) in
    if_so c.memory (any (λ e. is_memory e.how || loses e) c.ends) (λ e. e, λ e. e)
    (any_so (λ e. is_memory e.how || loses e) (λ e. (e.how ≡ how.Memory) ⊎ MayLose work c e)
    (λ e. or_so (is_memory e.how) (loses e) (memory_so e.how)
    (and_so (is_halted e.how) (not (same_stream e.who Outer) && not (is_silenced work c)) (halted_so e.how)
    (and_so (not (same_stream e.who Outer)) (not (is_silenced work c)) (not_so (same_stream e.who Outer) (same_stream_so e.who Outer)) (not_so (is_silenced work c) (silenced_so work c)))))
    c.ends)

not_outer : (s : StreamNo) (k : ℕ) → s ≡ Inner k → s ≢ Outer
not_outer s k e o = let q : Inner k ≡ Outer = sym e ∙ o in cc

-- where memory was wanting, the test passes
pub memory_passes : (work : Work) (c : RunRecord) (v : Values) (w : ℕ → DeviceTold) → (c.memory ≡ true → IsWanting work c v w) → is_memory_told work c ≡ true
memory_passes work c v w h = (may_want_so work c).1 (λ m. let i = h m in (i.0, i.1, ⊎_elim (λ e. inl e) (λ p. inr (p.halted, (not_outer i.0.who p.stream p.who, p.printing))) i.2))

-- streams that may give anything may have lost anything
pub memory_told_so : (o : Option Opener) (ss : List Stream) (c : RunRecord) (v : Values) (w : ℕ → DeviceTold) → Decides (is_memory_told (work_of o ss) c) (c.memory ≡ true → IsWanting (work_of o ss) c v w)
memory_told_so o ss c v w = (
  λ t m. let i = (may_want_so (work_of o ss) c).0 t m in (
    i.0,
    i.1,
    ⊎_elim
        (λ e. inl e)
        (λ p.
        let n = numbered i.0.who p.1.0 in
        let payloads : List (List ℕ) = payloads_by n.0 c.frames ++ (0 ∷ []) ∷ [] in
        inr (record { halted = p.0; printing = p.1.1; stream = n.0; who = n.1; payload = 0 ∷ []; some = omega arith; pieces = map (λ b. map Byte b) payloads; run = ([], Cut, tt); goes_on = sym (pieces_render payloads) }))
        i.2,
  ),
  λ h. memory_passes (work_of o ss) c v w h,
)

-- the ends, where the tests pass and streams began in room that was there
pub ends_in_room : (work : Work) (c : RunRecord) (w : ℕ → DeviceTold) → map (λ (e : EndOf). e.who) c.ends ≡ names_of work → all (is_caused work c) c.ends ≡ true → HasOuterEnd work.opener work.listing (length work.streams) c w c.ends → is_stopped work c ≡ true → BeginInRoom work.opener work c → is_memory_known c ≡ true → HaveEnds work c w
ends_in_room work c w named caused outer stopped room known = record {
  named = named;
  caused = (each_so (is_caused work c) (EndIsCaused work c) (caused_so work c) c.ends).0 caused;
  outer = outer;
  stopped = (stopped_so work c).0 stopped;
  begins = room;
  memory = (memory_known_so c).0 known;
}

-- the ends, where the tests pass
pub ends_by : (work : Work) (c : RunRecord) (w : ℕ → DeviceTold) → map (λ (e : EndOf). e.who) c.ends ≡ names_of work → all (is_caused work c) c.ends ≡ true → HasOuterEnd work.opener work.listing (length work.streams) c w c.ends → is_stopped work c ≡ true → begin_in_room work.opener work c ≡ true → is_memory_known c ≡ true → HaveEnds work c w
ends_by work c w named caused outer stopped room known = ends_in_room work c w named caused outer stopped ((begin_in_room_so work.opener work c).0 room) known
