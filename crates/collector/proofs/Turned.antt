-- The turn of the next stream begins.
use Rattle.std.proofs.Common.{◌≡◌, ◌⊎◌, ℕ, suc, ◌+◌, ◌<◌, ◌≤◌, List, [], ◌∷◌, ◌++◌, map, length, Option, inl, inr, refl, sym, ◌∙◌, ap, subst, ⊎_elim, arith}
use Rattle.std.proofs.lemmas.Bool.{cases_eq}
use Rattle.chunk_core.specs.Lists.{IsAmong}
use Rattle.chunk_core.specs.Lists.IsAmong.{here, there}
use Rattle.chunk_core.specs.declared.code.How.{How}
use Rattle.chunk_core.proofs.Filters.{among_append}
use Rattle.chunk_core.proofs.Members.{among_cons, among_nil}
use Rattle.device_port.specs.Depot.{DepotTold}
use Rattle.device_port.specs.Device.{DeviceTold}
use Rattle.device_port.specs.Sink.{SinkTold}
use Rattle.join_report.proofs.Learning.{unknown_is}
use Rattle.join_report.specs.Stopping.{IsUnknown, view_of}
use Rattle.join_tale.specs.Keeping.{HadTurn, HasRoom, IsTale}
use Rattle.join_tale.specs.Steps.{AreFewOpen}
use Rattle.join_tale.specs.Tales as tales
use Rattle.join_tale.specs.Tales.{IsKnown, IsOpen}
use Rattle.join_tale.proofs.Turns.{houses, pulls}
use Rattle.join_tree.specs.Guests.{Guest}
use Rattle.join_tree.specs.Progress.{Follow, Progress, telling_out}
use Rattle.join_tree.specs.Turns.{StoodIn}
use Rattle.join_tree.proofs.Queue.{follow_length}
use Rattle.join_tree.proofs.Retold.{main_tells_out}
use Rattle.outer_source.specs.declared.source.OuterSource.{OuterSource}
use Rattle.pipeline_desc.specs.Meant.{PlanMeant}
use Rattle.res_ledger.proofs.Mapped.{among_map, map_among}
use Rattle.scope_tree.specs.Calls.{Seen}
use Rattle.scope_tree.specs.Trees.{seen}
use Rattle.stream_jobs.specs.Running.{Origin}
use Rattle.dealt_streams.specs.Parts.{fate_of}
use Rattle.dealt_streams.specs.Turns.{KeepsTurns}
use Rattle.dealt_streams.specs.Works.{plan_bounds}
use Rattle.collector.specs.declared.collector.Collector.{Collector}
use Rattle.collector.specs.declared.waiting.Waiting.{Waiting}
use Rattle.collector.specs.Collecting.{IsCollecting, Moment}
use Rattle.collector.specs.Members.{Members}
use Rattle.collector.specs.Streams.{guest_of}
use Rattle.collector.specs.Trees.{KeepsTree, waiting_of}
use Rattle.collector.proofs.Lists.{map_length}
use Rattle.collector.proofs.Placed.{fails_on, placed_same}
use Rattle.collector.proofs.Streams.{jobs_number, streams_retold}
use Rattle.collector.proofs.Telling.{tale_turns}
use Rattle.collector.proofs.Turns.{IsReady}

-- the leases that wait are of streams from the next one on
waits_above : (next : ℕ) (ws : List (ℕ × List ℕ)) (leased : ℕ) → Follow next ws leased → (j : ℕ) → IsAmong j (map (λ w. w.0) ws) → next ≤ j
waits_above next [] leased f j m = absurd (among_nil m)
waits_above next (w ∷ ws) leased f j m = ⊎_elim
    (λ e. let n = f.0 in omega (arith, e, n))
    (λ n. let l = waits_above (suc next) ws leased f.1 j n in omega (arith, l))
    (among_cons m)

-- the main tree, where it is told anew which streams are out
pub tree_told : {V : Type 0} (told : V → DeviceTold) (p : PlanMeant) {waits : ℕ} {b : Seen V} {outer : Option How} {given : OuterSource} {ws : List Waiting} {dealt : ℕ} {progress : Progress V} → KeepsTree p told waits b outer given ws dealt progress → (out : List ℕ) → ((j : ℕ) → IsAmong j b.seat.out → IsAmong j out)
    → KeepsTree p told waits b outer given ws dealt (telling_out progress out)
tree_told told p {b = b} {progress = progress} kt out more = record {
  main = main_tells_out b progress out kt.main more;
  leased_is = kt.leased_is;
  next_is = kt.next_is;
  root_is = kt.root_is;
  waits_are = kt.waits_are;
  rows = kt.rows;
  few = kt.few;
  some = kt.some;
  empty = kt.empty;
  splits = kt.splits;
  spare = kt.spare;
  noted = kt.noted;
}

module _ {S V F D T : Type 0} {M : Members S V F D T} {p : PlanMeant} {d0 : DepotTold} {s0 : SinkTold} {m : Moment S V F D T} (k : IsCollecting M p d0 s0 m) where
  abbrev c : Collector S V F D T
  c = m.collector

  abbrev b : Seen V
  b = seen M.view c.tree

  -- whose turn it was is told otherwise
  abbrev told_anew : (out : List ℕ) → ((j : ℕ) → IsAmong j b.seat.out → IsAmong j out) → (ps : List ℕ) (room : ℕ → List ℕ) → IsTale (plan_bounds p) (record k.tale { pulled = ps; room = room }) → KeepsTurns (telling_out k.progress out) (record k.tale { pulled = ps; room = room }) → IsCollecting M p d0 s0 m
  told_anew out more ps room is turns = record {
    sound = k.sound;
    few_faults = k.few_faults;
    fits_desk = k.fits_desk;
    its_parts = k.its_parts;
    moves = k.moves;
    parts = k.parts;
    parts_are = k.parts_are;
    progress = telling_out k.progress out;
    tale = record k.tale { pulled = ps; room = room };
    moved = k.moved;
    tree = tree_told M.told p k.tree out more;
    lines = k.lines;
    next = k.next;
    amid = k.amid;
    begun = k.begun;
    begun_is = k.begun_is;
    stands = k.stands;
    streams = streams_retold M c.hub c.stops.board m.desk b m.jobs c.left.items m.receiver k.parts k.progress k.tale k.streams out k.progress.ahead k.progress.last ps room;
    turns = turns;
    places = placed_same (plan_bounds p) b b k.progress (telling_out k.progress out) k.tale (record k.tale { pulled = ps; room = room }) (λ e i. i) (λ y i. i) (fails_on k.tale (record k.tale { pulled = ps; room = room }) (λ f i. i) (λ j h i. i)) k.places refl refl;
    telling = tale_turns p c.outer c.report c.stops (length m.jobs) s0 m.sink (map fate_of k.parts) k.tale k.telling ps room is;
    room = k.room;
  }

  -- a stream whose seat is out is open
  pub out_open : (j : ℕ) → IsAmong j b.seat.out → IsOpen k.tale j
  out_open j o =
      let g = k.streams.out.all j o in
      let w = among_map guest_of g.0 k.streams.origins g.1 in
      let is : w.0.stream ≡ j = ap (λ (x : Guest). x.stream) w.2 ∙ g.2 in
      (k.streams.opens j).0 (subst (λ i. IsAmong i (map (λ (v : Origin V F). v.stream) k.streams.origins)) is (origin_in w.0 k.streams.origins w.1))
    where
      origin_in : (w : Origin V F) (ws : List (Origin V F)) → IsAmong w ws → IsAmong w.stream (map (λ (v : Origin V F). v.stream) ws)
      origin_in w ws n = map_among (λ (v : Origin V F). v.stream) w ws n

  -- one that stood in a turn is told to be of one that had it
  stood_had : (i j : ℕ) → StoodIn k.progress i j → HadTurn k.tale i
  stood_had i j s = ⊎_elim
      (λ n. inl ((k.streams.begun i).1 (n.0, n.1, n.2)))
      (λ y. ⊎_elim (λ a. inr (k.turns.pulled i (inl (k.turns.ahead i a.0 a.1)))) (λ e. inr (k.turns.pulled i (inr e.0))) y)
      s

  few_open : length m.jobs < p.max_open → AreFewOpen p.max_open k.tale
  few_open few = (
    map (λ (z : Origin V F). z.stream) k.streams.origins,
    (let z = map_length (λ (z : Origin V F). z.stream) k.streams.origins in
        let n = jobs_number M c.hub c.stops.board m.desk b m.jobs c.left.items m.receiver k.parts k.progress k.tale k.streams in
        omega (arith, z, n, few)),
    λ i h. (k.streams.opens i).1 h,
  )

  -- where fewer streams are open than may be, the next one has room
  pub house_step : length m.jobs < p.max_open → (h : IsCollecting M p d0 s0 m) × HasRoom (plan_bounds p) h.tale
  house_step few =
      let r = houses (plan_bounds p) k.tale k.telling.is_tale (few_open few) in (
        told_anew k.progress.out k.tree.main.outs.out_is k.tale.pulled r.0 r.1.is_tale (record {
          pulled = k.turns.pulled;
          ahead = k.turns.ahead;
          room = λ i j l s. subst (λ xs. IsAmong j xs) (sym (r.1.same i (stood_had i j s))) (k.turns.room i j l s);
        }),
        r.1.has,
      )

  dealt_count : k.progress.next ≡ length k.tale.fates
  dealt_count = k.tree.next_is ∙ sym (ap (λ (fs : List tales.Fate). length fs) k.telling.fates_are ∙ map_length fate_of k.parts)

  waits_count : k.progress.leased ≡ length k.tale.fates + length m.waiting
  waits_count =
      let f = follow_length k.progress.next k.progress.waits k.progress.leased k.tree.main.order in
      let w = ap (λ (xs : List (ℕ × List ℕ)). length xs) k.tree.waits_are in
      let n = map_length waiting_of m.waiting in
      let d = dealt_count in
      omega (arith, f, w, n, d)

  -- the outer stream, which is open, is pulled in the turn of the stream that waits, while nothing is known of the whole run
  pub pull_step : length m.waiting ≡ 1 → HasRoom (plan_bounds p) k.tale → ¬ (IsKnown k.tale 0) → (h : IsCollecting M p d0 s0 m) × IsReady h.progress h.tale
  pull_step one has unknown =
      let n = length k.tale.fates in
      let next : (i : ℕ) → suc i ≡ k.progress.leased → i ≡ n = λ i e. (let w = waits_count in omega (arith, w, e, one)) in (
        told_anew b.seat.out (λ j o. o) (n ∷ k.tale.pulled) k.tale.room (pulls (plan_bounds p) k.tale k.telling.is_tale unknown has) (record {
          pulled = λ i w. there n (k.turns.pulled i w);
          ahead = k.turns.ahead;
          room = k.turns.room;
        }),
        record {
          pulled = λ i e. subst (λ x. IsAmong x (n ∷ k.tale.pulled)) (sym (next i e)) (here k.tale.pulled);
          room = λ i j e l s. ⊎_elim
              (λ o. subst (λ x. IsAmong j (k.tale.room x)) (sym (next i e)) (has.1 j (out_open j o)))
              (λ w. absurd (let a = waits_above k.progress.next k.progress.waits k.progress.leased k.tree.main.order j w in let q = next i e in let d = dealt_count in omega (arith, a, q, d, l)))
              (among_append j b.seat.out (map (λ w. w.0) k.progress.waits) s);
        },
      )

  -- before the first stream the outer one is pulled in nobody's turn
  pub first_step : length m.waiting ≡ 0 → length k.parts ≡ 0 → IsReady k.progress k.tale
  first_step none zero_dealt =
      let no : (i : ℕ) → suc i ≡ k.progress.leased → ⊥ = λ i e. (let w = waits_count in let d = dealt_count in let t = k.tree.next_is in omega (arith, w, d, t, e, none, zero_dealt)) in
      record { pulled = λ i e. absurd (no i e); room = λ i j e l s. absurd (no i e) }

module _ {S V F D T : Type 0} {M : Members S V F D T} {p : PlanMeant} {d0 : DepotTold} {s0 : SinkTold} {m : Moment S V F D T} (k : IsCollecting M p d0 s0 m) where
  -- the outer stream, which is open, is pulled, while nothing is known of the whole run
  pub turn_step : length m.waiting ≤ 1 → length m.jobs + length m.waiting ≤ p.max_open → (length m.waiting ≡ 0 → m.collector.next ≡ 0) → IsUnknown (view_of m.collector.stops) 0 → (h : IsCollecting M p d0 s0 m) × IsReady h.progress h.tale
  turn_step low few first free = ⊎_elim
      (λ e. (k, first_step k e (sym k.next ∙ first e)))
      (λ ne.
      let one : length m.waiting ≡ 1 = omega (arith, low, ne) in
      let h = house_step k (omega (arith, few, one)) in
      pull_step h.0 one h.1 (unknown_is h.0.tale m.collector.stops 0 h.0.telling.known free))
      (cases_eq (length m.waiting) 0)
