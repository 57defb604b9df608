-- What each stream did.
use Rattle.std.proofs.Common.{◌≡◌, ℕ, suc, ◌+◌, ◌<◌, ◌≤◌, ◌^◌, List, [], ◌++◌, inl, inr, map, length, Some, option_map, slice_get, refl, sym, ◌∙◌, ap, subst, arith, length-append}
use Rattle.std.proofs.lemmas.Grind.{flat_map-append}
use Rattle.channel_bounded.specs.Ends.{ReceiverSeen}
use Rattle.chunk_core.specs.Elements.{elements, elements_of, rendering_of}
use Rattle.chunk_core.specs.Lists.{IsAmong}
use Rattle.chunk_core.specs.Tables.{Values}
use Rattle.chunk_core.specs.declared.code.How.{How}
use Rattle.chunk_core.specs.declared.code.How.TheVariants as how
use Rattle.chunk_core.proofs.Filters.{among_right}
use Rattle.device_port.specs.Device.{DeviceTold}
use Rattle.device_port.specs.Depot.{DepotTold}
use Rattle.join_tale.specs.Tales as tales
use Rattle.join_tale.specs.Tales.{Tale}
use Rattle.join_tree.specs.Settled.{Settles}
use Rattle.pipeline_desc.specs.Meant.{PlanMeant, listed_stream, setting_at, stream_at, stream_limit}
use Rattle.pipeline_desc.specs.Nodes.{IsStreamNode, scopes_in}
use Rattle.pipeline_desc.specs.Places.{first_row, outer_rows, row_count}
use Rattle.pipeline_desc.specs.Sound.{IsSoundList, IsSoundPlan}
use Rattle.pipeline_desc.specs.Steps.{steps_behind}
use Rattle.pipeline_desc.specs.declared.listing.ListSpec.{ListSpec}
use Rattle.pipeline_desc.specs.declared.stream.StreamSpec.{StreamSpec}
use Rattle.pipeline_desc.proofs.NodeLaws.{shape_described, shape_listed, told_of}
use Rattle.plan_work.specs.Plans.{PlanRuns, specs_of, stream_of}
use Rattle.plan_work.specs.Seen.{below, visible}
use Rattle.pull_nodes.specs.Failures.{IsToldRun}
use Rattle.pull_nodes.proofs.Failures.{tells_agrees}
use Rattle.pull_nodes.specs.Shape.{places_of, scope_count}
use Rattle.pull_nodes.specs.declared.node.Node.{Node}
use Rattle.pull_turns.specs.Led.{end_of}
use Rattle.pull_turns.specs.Piping.{StateMeaning}
use Rattle.res_ledger.specs.declared.event.Event.{Event}
use Rattle.row_seat.specs.declared.view.View.{View}
use Rattle.run_rules.specs.Facts.{at}
use Rattle.run_rules.specs.Outputs.{IsReported}
use Rattle.scope_tree.specs.Calls.{Seen}
use Rattle.scope_tree.specs.declared.branch.Spent.{Spent}
use Rattle.stream_jobs.specs.Running.{Origin}
use Rattle.stream_parts.proofs.PartsMade.{places_count}
use Rattle.job_runs.specs.Rows.{EndsAs, from_row, to_row}
use Rattle.job_runs.specs.Runs.{RunsJob}
use Rattle.joined_runs.specs.Shares.{IsShare}
use Rattle.joined_runs.specs.Together.{HasRun}
use Rattle.joined_runs.proofs.OuterFaults.{if_there}
use Rattle.joined_runs.proofs.PlanCovered.{stream_holds}
use Rattle.joined_runs.proofs.PlanRows.{by_sort, spec_shape}
use Rattle.collected.specs.Collected.{IsCollected}
use Rattle.dealt_streams.specs.Kept.Gone.{Came}
use Rattle.dealt_streams.specs.Moves.{contents_in, contents_of, lines_in, lines_of, tried_in, tried_of}
use Rattle.dealt_streams.specs.Parts.{IsMadeOf}
use Rattle.dealt_streams.specs.Parts.Part.{Begun}
use Rattle.dealt_streams.specs.declared.leftover.Leftover.{Leftover}
use Rattle.collected.proofs.Core.{W, lent_ends, part_home}
use Rattle.collected.proofs.HeldRows.{without}
use Rattle.collected.proofs.PlanPlaces.{behind_outer, next_row, some_same, spec_same}
use Rattle.collected.proofs.Received.{in_pieces, loads_got}
use Rattle.collected.proofs.Rested.{MadeSo, Rested, job_of, lent_of, rest_of}
use Rattle.collected.proofs.RunsAgree.{Agrees, run_agrees}
use Rattle.collected.proofs.Shelves.{finished_so, lents_in, none_covered}
use Rattle.collected.proofs.Standing.{IsBack, MadeAt, first_so, home_of, is_back, is_begun, made, made_so, zs}
use Rattle.collected.proofs.Valued.{first_values, values_by}

reported_so : (h : How) → IsReported (end_of h) h
reported_so how.Done = refl
reported_so (how.Fault c) = refl
reported_so how.Halted = inl refl
reported_so how.Memory = inr refl

module _ {S V F : Type 0} (view : S → View V) (told : V → DeviceTold) (P : Values → StateMeaning F) (says : (v : Values) → (P v).values ≡ v) (p : PlanMeant) (limits : IsSoundPlan p) (d0 now : DepotTold) (outer : How) (b : Seen V) (left : List (Leftover V)) (receiver : ReceiverSeen) (tale : Tale)
    (h : IsCollected view told P p d0 now outer b left receiver tale) (L : List Event) (s : Settles p.max_open (stream_limit p) b h.progress L) where
  abbrev pub W' : ℕ → DeviceTold
  W' = W view told P p limits d0 now outer b left receiver tale h L s

  abbrev pub lines' : List (List ℕ)
  lines' = lines_of h.moves

  -- the values of the tables
  abbrev pub values : Values
  values = values_by W' (contents_of h.moves)

  module _ (k : ℕ) (n : Node) (ds : List V) (w : Origin V F) (e : at h.parts k ≡ Some (Begun n ds w)) where
    at_it : MadeAt told p h.moves k n ds w
    at_it = made_so view told P p d0 now outer b left receiver tale h k n ds w e

    pub spec : StreamSpec
    spec = at_it.spec

    lines_split : lines_of at_it.before ++ lines_of at_it.rest ≡ lines'
    lines_split = sym (flat_map-append lines_in at_it.before at_it.rest) ∙ ap lines_of at_it.split

    contents_split : contents_of at_it.before ++ contents_of at_it.rest ≡ contents_of h.moves
    contents_split = sym (ap contents_in (flat_map-append tried_in at_it.before at_it.rest) ∙ flat_map-append (λ x. x.contents) (tried_of at_it.before) (tried_of at_it.rest)) ∙ ap contents_of at_it.split

    pub spec_is : slice_get (specs_of p lines') k ≡ Some spec
    unfolding spec
    spec_is = sym (spec_same p lines' (without view told P p limits d0 now outer b left receiver tale h) (lines_of at_it.before) (lines_of at_it.rest) lines_split k at_it.below) ∙ at_it.spec_is

    is_made : IsMadeOf told p (contents_of at_it.before) (lines_of at_it.before) k n ds w
    is_made = at_it.made

    pub c : IsBack view told P p d0 now outer b left receiver tale h k n ds w
    c = is_back view told P p d0 now outer b left receiver tale h k n ds w e

    abbrev pub made' : (j : ℕ) (m : Node) (es : List V) (v : Origin V F) → at h.parts j ≡ Some (Begun m es v) → MadeSo told p j m es v
    made' = made view told P p d0 now outer b left receiver tale h

    abbrev pub site : Seen V
    site = (made' w.stream n ds w c.back.begun).made.site

    pub j : RunsJob told view (P w.start.tables).values n ds w.stream site.seat.floor w.leased c.e
    j = job_of view told P p h.parts h.progress receiver tale made' c.x n ds w c.e c.back

    first : from_row n ≡ first_row p k
    first = first_so view told P p d0 now outer b left receiver tale h k n ds w e

    -- its node, as that of the stream with this number
    shaped : IsStreamNode (first_row p k) spec n
    shaped = (spec_shape p lines' k spec spec_is).node n is_made.node

    -- what doesn't depend on the file that a stream of the list reads is the same whichever it reads
    shape_same : {A : Type 0} (f : StreamSpec → A) → ((l : ListSpec) (line : List ℕ) → f (listed_stream l []) ≡ f (listed_stream l line)) → (z : StreamSpec) → stream_at p [] k ≡ Some z → f z ≡ f spec
    shape_same f any z is =
        by_sort p lines' k spec spec_is
        (λ there. ap f (some_same z spec (sym is ∙ shape_described p [] k spec there)))
        (λ l line behind listed same. ap f (some_same z (listed_stream l []) (sym is ∙ shape_listed p [] k l behind listed)) ∙ (any l line ∙ ap f same))

    count : length (places_of n) ≡ row_count spec
    count = let node = is_made.node [] in places_count p [] k node.0 node.1 n is_made.places ∙ shape_same row_count (λ l line. refl) node.0 node.1

    behind : to_row n ≡ first_row p k + row_count spec
    behind = omega (arith, first, count)

    next : first_row p (suc k) ≡ first_row p k + row_count spec
    next = next_row p lines' k spec spec_is

    home_is : home_of view told P p d0 now outer b left receiver tale h k ≡ j.home
    unfolding j
    home_is = ap (λ (z : Rested V). z.home) c.is

    -- its rows have the devices of its run
    pub agrees : (r : ℕ) → first_row p k ≤ r → r < first_row p k + row_count spec → W' r ≡ j.home r
    agrees r low high = part_home view told P p limits d0 now outer b left receiver tale h L s k (Begun n ds w) e r low (omega (arith, high, next)) ∙ ap (λ (f : ℕ → DeviceTold). f r) home_is

    pub at_most : (r : ℕ) → first_row p k ≤ r → r < first_row p k + row_count spec → (W' r).at ≤ 2 ^ 40
    at_most r low high = subst (λ (d : DeviceTold). d.at ≤ 2 ^ 40) (sym (agrees r low high)) (j.visited.within r (omega (arith, first, low), omega (arith, behind, high)))

    lent_so : (x : Spent V) → IsAmong x j.visited.lent → EndsAs W' x
    unfolding j
    lent_so x m =
        lent_ends view told P p limits d0 now outer b left receiver tale h L s x
        (among_right x b.shelf (lent_of told (zs view told P p d0 now outer b left receiver tale h)) (lents_in told (outer_rows p) b L (zs view told P p d0 now outer b left receiver tale h) (rest_of view told P p h.parts h.progress receiver tale made' c.x (Came n ds w c.e) c.back) x c.among m))

    few_steps : (z : StreamSpec) → stream_at p [] k ≡ Some z → length (z.steps ++ steps_behind z.second) ≤ 16
    few_steps z is =
        let same = shape_same (λ x. length (x.steps ++ steps_behind x.second)) (λ l line. refl) z is in
        by_sort p lines' k spec spec_is
        (λ there. let few = (limits.streams k spec there).few in omega (arith, same, few))
        (λ l line behind listed is_so.
        let sound = if_there (IsSoundList (setting_at p.tables p.groups (length p.streams) (length p.streams)) (length p.streams)) p.list l listed limits.list in
        let few = sound.few in
        let both = length-append l.steps (steps_behind (listed_stream l line).second) in
        let of_list = ap (λ (x : StreamSpec). length (x.steps ++ steps_behind x.second)) is_so in
        omega (arith, same, few, both, of_list))

    scopes_are : scope_count n ≡ scopes_in spec
    scopes_are =
        let node = is_made.node [] in
        let told' = told_of p k node.0 n node.1 (few_steps node.0 node.1) node.2 in
        some_same (scope_count n) (scopes_in node.0) (sym told'.scopes ∙ ap (option_map scopes_in) node.1) ∙ shape_same scopes_in (λ l line. refl) node.0 node.1

    pub share : IsShare k (first_row p k) (first_row p k + row_count spec) (scopes_in spec) W' c.e.how L
    share =
        let v = j.visited in
        let seat_same = sym c.back.seat_is ∙ v.seat_is in
        subst (λ q. IsShare q (first_row p k) (first_row p k + row_count spec) (scopes_in spec) W' c.e.how L) is_made.stream
        (subst (λ q. IsShare w.stream (first_row p k) (first_row p k + row_count spec) q W' c.e.how L) scopes_are
        (subst (λ q. IsShare w.stream (first_row p k) q (scope_count n) W' c.e.how L) behind
        (subst (λ q. IsShare w.stream q (to_row n) (scope_count n) W' c.e.how L) first
        (v.share W' b.seat L (finished_so view told P p limits d0 now outer b left receiver tale h L s c.back.back v.last c.back.taken_in seat_same) s.whole
        (none_covered view told P p limits d0 now outer b left receiver tale h L s (from_row n) (to_row n) (let o = behind_outer p k in omega (arith, o, first)))
        (λ r i. let l = i.0 in let u = i.1 in agrees r (omega (arith, l, first)) (omega (arith, u, behind))) lent_so))))

    run_so : PlanRuns p k values W' (elements_of j.loads) (end_of c.e.how)
    run_so =
        let holds = stream_holds (Agrees j.home W') (first_row p k) spec n (λ r l u. sym (agrees r l u)) shaped in
        let tables = is_made.tables ∙ first_values W' (contents_of at_it.before) (contents_of at_it.rest) (contents_of h.moves) (visible p k) contents_split is_made.read in
        let run = subst (λ v. IsToldRun v j.home n (elements_of j.loads) (end_of c.e.how)) (says w.start.tables ∙ tables) j.run in
        (n, is_made.node, (run_agrees j.home W' (below (visible p k) values) n holds.acquired holds.used holds.written (elements_of j.loads) (end_of c.e.how) run.0, tells_agrees j.home W' n holds.acquired holds.used (end_of c.e.how) run.1))

    pub come : tales.Came tale k c.e.how
    come = subst (λ q. tales.Came tale q c.e.how) is_made.stream c.back.came

    received : tales.loads_received k tale ≡ map rendering_of (map elements j.loads)
    received =
        subst (λ q. tales.loads_received q tale ≡ map rendering_of (map elements j.loads)) is_made.stream
        (loads_got w.stream tale receiver.got j.loads j.texts c.e.how h.streams.got j.texts_are (c.back.got ∙ j.sent))

    -- it ran
    pub has_run : HasRun (PlanRuns p k values W') W' tale L k (first_row p k) (stream_of spec)
    has_run = record {
      how = c.e.how;
      begun = is_begun view told P p d0 now outer b left receiver tale h k n ds w e;
      came = come;
      share = share;
      pieces = map elements j.loads;
      received = received;
      end = end_of c.e.how;
      run = subst (λ ys. PlanRuns p k values W' ys (end_of c.e.how)) (in_pieces j.loads) run_so;
      reported = reported_so c.e.how;
    }
