-- Each stream of the plan was begun and ran, or was never begun.
use Rattle.std.proofs.Common.{◌≡◌, ◌≢◌, ◌⊎◌, ℕ, suc, ◌+◌, ◌<◌, ◌≤◌, ◌^◌, List, inl, inr, length, Option, Some, None, slice_get, refl, sym, ◌∙◌, ap, subst, ⊎_elim, arith}
use Rattle.std.proofs.lemmas.Bool.{cases_lt}
use Rattle.std.specs.Prelude.{option_to_list}
use Rattle.channel_bounded.specs.Ends.{ReceiverSeen}
use Rattle.chunk_core.specs.Tables.{Values}
use Rattle.chunk_core.specs.declared.code.How.{How}
use Rattle.device_port.specs.Device.{Place, DeviceTold}
use Rattle.device_port.specs.Depot.{DepotTold}
use Rattle.join_tale.specs.Tales as tales
use Rattle.join_tale.specs.Tales.{Tale}
use Rattle.join_tree.specs.Settled.{Settles}
use Rattle.pipeline_desc.specs.Meant.{PlanMeant, stream_limit}
use Rattle.pipeline_desc.specs.Places.{first_row, outer_rows, row_count}
use Rattle.pipeline_desc.specs.Sound.{IsSoundPlan}
use Rattle.pipeline_desc.specs.declared.listing.ListSpec.{ListSpec}
use Rattle.pipeline_desc.specs.declared.stream.StreamSpec.{StreamSpec}
use Rattle.plan_work.specs.Plans.{PlanRuns, opener_of, specs_of, stream_of, streams_of}
use Rattle.pull_nodes.specs.declared.node.Node.{Node}
use Rattle.pull_turns.specs.Piping.{StateMeaning}
use Rattle.res_ledger.specs.declared.event.Event.{Event}
use Rattle.row_seat.specs.declared.view.View.{View}
use Rattle.run_rules.specs.Facts.{at}
use Rattle.run_rules.specs.Homes.{IsUntouched}
use Rattle.run_rules.specs.Work.{Stream, first_row_of}
use Rattle.scope_tree.specs.Calls.{Seen}
use Rattle.stream_jobs.specs.Running.{Origin}
use Rattle.join_tale.specs.Records.{bare}
use Rattle.joined_runs.specs.Shares.{IsShare}
use Rattle.joined_runs.specs.Together.{HasNotRun, HasRun}
use Rattle.joined_runs.proofs.MadeRows.{at_below, at_some}
use Rattle.joined_runs.proofs.PlanRows.{at_below as spec_place, outer_count, plan_row, spec_at}
use Rattle.joined_runs.proofs.StreamRows.{row_here}
use Rattle.collected.specs.Collected.{IsCollected}
use Rattle.dealt_streams.specs.Moves.{lines_of}
use Rattle.dealt_streams.specs.Parts.{Part}
use Rattle.dealt_streams.specs.Parts.Part.{Begun, Skipped, Unmade}
use Rattle.dealt_streams.specs.declared.leftover.Leftover.{Leftover}
use Rattle.collected.proofs.Core.{W, behind_bare, part_home, rows}
use Rattle.collected.proofs.Each.{at_most, has_run, spec, spec_is, values}
use Rattle.collected.proofs.ListEnded.{list_so}
use Rattle.collected.proofs.Passed.{begun_before, begun_still, longer}
use Rattle.collected.proofs.PlanPlaces.{list_there, next_row, plan_rows, rows_below, some_same}
use Rattle.collected.proofs.Rows.{bare_idle}
use Rattle.collected.proofs.Standing.{begun_at}

skipped_not : {V F : Type 0} (n : Node) (ds : List V) (w : Origin V F) → Skipped ≢ Begun n ds w
skipped_not n ds w e = cc

unmade_not : {V F : Type 0} (es : List V) (n : Node) (ds : List V) (w : Origin V F) → Unmade es ≢ Begun n ds w
unmade_not es n ds w e = cc

module _ {S V F : Type 0} (view : S → View V) (told : V → DeviceTold) (P : Values → StateMeaning F) (says : (v : Values) → (P v).values ≡ v) (p : PlanMeant) (limits : IsSoundPlan p) (d0 now : DepotTold) (outer : How) (b : Seen V) (left : List (Leftover V)) (receiver : ReceiverSeen) (tale : Tale)
    (h : IsCollected view told P p d0 now outer b left receiver tale) (L : List Event) (s : Settles p.max_open (stream_limit p) b h.progress L) where
  abbrev W' : ℕ → DeviceTold
  W' = W view told P p limits d0 now outer b left receiver tale h L s

  abbrev all' : List Place
  all' = rows view told P p limits d0 now outer b left receiver tale h L s

  abbrev lines' : List (List ℕ)
  lines' = lines_of h.moves

  abbrev values' : Values
  values' = values view told P says p limits d0 now outer b left receiver tale h L s

  module _ (k : ℕ) (z : StreamSpec) (is : slice_get (specs_of p lines') k ≡ Some z) where
    -- so it is told of stream k, where the tale goes on and the ledger is the same
    abbrev pub IsTold : ℕ → List Event → Type 0
    IsTold more E = HasRun (PlanRuns p k values' W') W' (longer tale more) E k (first_row p k) (stream_of z) ⊎ HasNotRun W' (longer tale more) k (first_row p k) (stream_of z)

    -- a stream that wasn't begun
    not_run : (more : ℕ) → (¬ (tales.IsBegun tale k)) → ((r : ℕ) → first_row p k ≤ r → r < first_row p (suc k) → IsUntouched (W' r)) → HasNotRun W' (longer tale more) k (first_row p k) (stream_of z)
    not_run more not idle = record { unbegun = λ e. not (begun_before tale more k e); untouched = λ r l u. idle r l (let n = next_row p lines' k z is in omega (arith, u, n)) }

    not_begun : (x : Part V F) → at h.parts k ≡ Some x → ((n : Node) (ds : List V) (w : Origin V F) → x ≢ Begun n ds w) → ¬ (tales.IsBegun tale k)
    not_begun x e not i = let y = begun_at view told P p d0 now outer b left receiver tale h k i in not y.0 y.1 y.2 (some_same x (Begun y.0 y.1 y.2) (sym e ∙ y.3))

    module _ (n : Node) (ds : List V) (w : Origin V F) (e : at h.parts k ≡ Some (Begun n ds w)) where
      spec_same : spec view told P says p limits d0 now outer b left receiver tale h L s k n ds w e ≡ z
      spec_same = some_same (spec view told P says p limits d0 now outer b left receiver tale h L s k n ds w e) z (sym (spec_is view told P says p limits d0 now outer b left receiver tale h L s k n ds w e) ∙ is)

      run_longer : (more : ℕ) (E : List Event) → E ≡ L → HasRun (PlanRuns p k values' W') W' (longer tale more) E k (first_row p k) (stream_of z)
      run_longer more E same =
          let a = spec view told P says p limits d0 now outer b left receiver tale h L s k n ds w e in
          let q = has_run view told P says p limits d0 now outer b left receiver tale h L s k n ds w e in
          subst (λ (x : StreamSpec). HasRun (PlanRuns p k values' W') W' (longer tale more) E k (first_row p k) (stream_of x)) spec_same (record {
            how = q.how;
            begun = begun_still tale more k q.begun;
            came = q.came;
            share = subst (λ M. IsShare k (first_row p k) (first_row p k + length (stream_of a).places) (stream_of a).scopes W' q.how M) (sym same) q.share;
            pieces = q.pieces;
            received = q.received;
            end = q.end;
            run = q.run;
            reported = q.reported;
          })

    of_part : (more : ℕ) (E : List Event) → E ≡ L → (x : Part V F) → at h.parts k ≡ Some x → IsTold more E
    of_part more E same (Begun n ds w) e = inl (run_longer n ds w e more E same)
    of_part more E same Skipped e = inr (not_run more (not_begun Skipped e skipped_not) (part_home view told P p limits d0 now outer b left receiver tale h L s k Skipped e))
    of_part more E same (Unmade ds) e = inr (not_run more (not_begun (Unmade ds) e (unmade_not ds)) (part_home view told P p limits d0 now outer b left receiver tale h L s k (Unmade ds) e))

    -- it was begun and ran, or was never begun
    each_so : (more : ℕ) (E : List Event) → E ≡ L → IsTold more E
    each_so more E same =
        ⊎_elim
        (λ (l : k < length h.parts). let x = at_some h.parts k l in of_part more E same x.0 x.1)
        (λ (l : length h.parts ≤ k). inr (not_run more (λ e. let x = begun_at view told P p d0 now outer b left receiver tale h k e in absurd (let m = at_below h.parts k (Begun x.0 x.1 x.2) x.3 in omega (arith, l, m))) (λ r low high.
        let u = rows_below p lines' k z is in
        subst IsUntouched (sym (behind_bare view told P p limits d0 now outer b left receiver tale h L s k r l low)) (bare_idle all' d0.files r (omega (arith, high, u))))))
        (cases_lt k (length h.parts))

    -- no device of it was read beyond its limit
    at_most_so : (r : ℕ) → first_row p k ≤ r → r < first_row p k + row_count z → (W' r).at ≤ 2 ^ 40
    at_most_so r low high = ⊎_elim (λ q. of_begun (begun_at view told P p d0 now outer b left receiver tale h k (begun_before tale 0 k q.begun))) (λ q. let u = (q.untouched r low high).at in omega (arith, u)) (each_so 0 L refl)
      where
        of_begun : ((n : Node) × (ds : List V) × (w : Origin V F) × (at h.parts k ≡ Some (Begun n ds w))) → (W' r).at ≤ 2 ^ 40
        of_begun (n, ds, w, e) = at_most view told P says p limits d0 now outer b left receiver tale h L s k n ds w e r low (subst (λ (x : StreamSpec). r < first_row p k + row_count x) (sym (spec_same n ds w e)) high)

  -- The same of the streams of its work.

  pub each_run : (more : ℕ) (E : List Event) → E ≡ L → (k : ℕ) (z : Stream) → at (streams_of p lines') k ≡ Some z → HasRun (PlanRuns p k values' W') W' (longer tale more) E k (first_row_of (bare (Some (opener_of p lines')) (streams_of p lines')) k) z
      ⊎ HasNotRun W' (longer tale more) k (first_row_of (bare (Some (opener_of p lines')) (streams_of p lines')) k) z
  each_run more E same k z is =
      let y = spec_at (specs_of p lines') k z is in
      let l = spec_place (specs_of p lines') k y.0 y.1 in
      subst (λ (x : Stream). HasRun (PlanRuns p k values' W') W' (longer tale more) E k (first_row_of (bare (Some (opener_of p lines')) (streams_of p lines')) k) x ⊎ HasNotRun W' (longer tale more) k (first_row_of (bare (Some (opener_of p lines')) (streams_of p lines')) k) x) y.2
      (subst (λ f. HasRun (PlanRuns p k values' W') W' (longer tale more) E k f (stream_of y.0) ⊎ HasNotRun W' (longer tale more) k f (stream_of y.0)) (plan_row p lines' k (omega (arith, l)))
      (each_so k y.0 y.1 more E same))

  of_list : (r : ℕ) → length p.tables ≤ r → r < outer_rows p → (o : Option ListSpec) → p.list ≡ o → (W' r).at ≤ 2 ^ 40
  of_list r low high None e = absurd (let none = ap (λ (o : Option ListSpec). length p.tables + length (option_to_list o)) e in omega (arith, low, high, none))
  of_list r low high (Some l) e =
      let one = (list_there p lines' l e).1 in
      let row : length p.tables ≡ r = omega (arith, low, high, one) in
      subst (λ k. (W' k).at ≤ 2 ^ 40) row (list_so view told P p limits d0 now outer b left receiver tale h L s l e).within

  -- no device behind those of the tables was read beyond its limit
  pub within : (r : ℕ) → length p.tables ≤ r → r < length (plan_rows p lines') → (W' r).at ≤ 2 ^ 40
  within r low high =
      let count = outer_count p lines' in
      ⊎_elim
      (λ (l : r < outer_rows p). of_list r low l p.list refl)
      (λ (l : outer_rows p ≤ r).
      let x = row_here (opener_of p lines') (streams_of p lines') r (omega (arith, l, count)) high in
      let y = spec_at (specs_of p lines') x.number x.stream x.is in
      let m = spec_place (specs_of p lines') x.number y.0 y.1 in
      let f = plan_row p lines' x.number (omega (arith, m)) in
      let from = x.low in
      let to = x.high in
      let places = ap (λ (z : Stream). length z.places) y.2 in
      at_most_so x.number y.0 y.1 r (omega (arith, f, from)) (omega (arith, f, to, places)))
      (cases_lt r (outer_rows p))
