-- The outer stream and the streams that it gave ran together.
use Rattle.std.proofs.Common.{◌≡◌, ℕ, ◌+◌, ◌<◌, ◌≤◌, Bool, List, length, Option, Some, None, IfSome, refl, sym, ◌∙◌, subst, ⊎_elim, arith}
use Rattle.std.proofs.lemmas.Bool.{cases_lt}
use Rattle.std.proofs.lemmas.List.{length-map}
use Rattle.channel_bounded.specs.Ends.{ReceiverSeen}
use Rattle.chunk_core.specs.Lists.{IsAmong}
use Rattle.chunk_core.specs.Tables.{Values}
use Rattle.chunk_core.specs.Texts.{IsRestOf}
use Rattle.chunk_core.specs.declared.code.How.{How}
use Rattle.chunk_core.specs.declared.code.How.TheVariants as how
use Rattle.csv_pipes.specs.Dictionaries.{table_value}
use Rattle.device_port.specs.Device.{DeviceTold, to_read}
use Rattle.device_port.specs.Depot.{DepotTold}
use Rattle.join_tale.specs.Bounds.{Bounds}
use Rattle.join_tale.specs.Keeping.{IsOuterStopped, IsTale}
use Rattle.join_tale.specs.Tales.{Tale}
use Rattle.join_tree.specs.Given.{given}
use Rattle.join_tree.specs.Settled.{Settles}
use Rattle.outer_tables.specs.Outcomes.{values_in}
use Rattle.outer_tables.specs.declared.not_read.NotRead.{NotRead}
use Rattle.outer_tables.specs.declared.not_read.NotRead.TheVariants as why
use Rattle.pipeline_desc.specs.Meant.{PlanMeant, stream_limit}
use Rattle.pipeline_desc.specs.Places.{outer_rows}
use Rattle.pipeline_desc.specs.Sound.{IsSoundPlan}
use Rattle.pipeline_desc.specs.declared.table.TableSpec.{TableSpec}
use Rattle.plan_work.specs.Listed.{ListRuns}
use Rattle.plan_work.specs.Plans.{PlanRuns, opener_of, streams_of}
use Rattle.pull_turns.specs.Piping.{StateMeaning}
use Rattle.res_ledger.specs.declared.event.Event.{Event}
use Rattle.res_ledger.specs.declared.event.What.TheVariants.{Lease}
use Rattle.row_seat.specs.declared.view.View.{View}
use Rattle.run_rules.specs.Devices.{KeepsToWhatIsThere}
use Rattle.run_rules.specs.Homes.{HaveValues}
use Rattle.run_rules.specs.Opening.{OuterHasRun}
use Rattle.run_rules.specs.Work.{Opener, RunRecord, Stream, opener_places}
use Rattle.scope_tree.specs.Calls.{Seen}
use Rattle.stream_parts.specs.Retire.{Returns}
use Rattle.joined_runs.specs.Devices.{MadeComeBack}
use Rattle.joined_runs.specs.Shares.{AreTablesKept, IsJoinedLedger}
use Rattle.joined_runs.specs.Together.{RunsTogether}
use Rattle.joined_runs.proofs.PlanBounds.{bounds_are}
use Rattle.joined_runs.proofs.PlanRows.{outer_count}
use Rattle.collected.specs.Collected.{IsCollected, IsRunOf, all_left}
use Rattle.collected.specs.Laws.{CollectedRuns}
use Rattle.dealt_streams.specs.Moves.{contents_of, lines_of, tried_of}
use Rattle.dealt_streams.specs.Standing.{EndsRead, IsStoppedBy, all_given, plan_parts}
use Rattle.dealt_streams.specs.Works.{plan_bounds}
use Rattle.dealt_streams.specs.declared.leftover.Leftover.{Leftover}
use Rattle.collected.proofs.AllGiven.{all_lease}
use Rattle.collected.proofs.Alone.{places_alone}
use Rattle.collected.proofs.Core.{W, came, may_go, order'}
use Rattle.collected.proofs.Each.{values}
use Rattle.collected.proofs.HeldRows.{acquired_below, count, count_few, leased_below}
use Rattle.collected.proofs.Opened.{all_lawful}
use Rattle.collected.proofs.OuterEnded.{order, outer_run}
use Rattle.collected.proofs.PartsRead.{rows_valued}
use Rattle.collected.proofs.Passed.{done_or, longer_tale}
use Rattle.collected.proofs.PlanPlaces.{plan_rows}
use Rattle.collected.proofs.Recorded.{dealt_leased, long, more, recorded, streams_count}
use Rattle.collected.proofs.Settling.{given_noted, joined_ledger}
use Rattle.collected.proofs.StreamsRun.{each_run, within}
use Rattle.collected.proofs.ToldRows.{kept, tables_out, tried_valued}
use Rattle.collected.proofs.Valued.{told_by}

some_how : (g h : How) → Some g ≡ Some h → g ≡ h
some_how g h e = cc

-- an outer stream that couldn't read all tables isn't done
stopped_not_done : (w : NotRead) (memory : Bool) → IsStoppedBy w memory how.Done → ⊥
stopped_not_done (why.Fault f) memory e = let q : how.Done ≡ how.Fault f = e in cc
stopped_not_done why.Memory memory e = let q : how.Done ≡ how.Memory = e.0 in cc

module _ {S V F : Type 0} (view : S → View V) (told : V → DeviceTold) (P : Values → StateMeaning F) (says : (v : Values) → (P v).values ≡ v) (p : PlanMeant) (limits : IsSoundPlan p) (d0 now : DepotTold) (outer : How) (b : Seen V) (left : List (Leftover V)) (receiver : ReceiverSeen) (tale : Tale)
    (h : IsCollected view told P p d0 now outer b left receiver tale) (L : List Event) (s : Settles p.max_open (stream_limit p) b h.progress L) where
  abbrev W' : ℕ → DeviceTold
  W' = W view told P p limits d0 now outer b left receiver tale h L s

  abbrev lines' : List (List ℕ)
  lines' = lines_of h.moves

  abbrev op : Opener
  op = opener_of p lines'

  abbrev streams : List Stream
  streams = streams_of p lines'

  abbrev n' : ℕ
  n' = count view told P p limits d0 now outer b left receiver tale h

  abbrev values' : Values
  values' = values view told P says p limits d0 now outer b left receiver tale h L s

  abbrev more' : ℕ
  more' = more view told P says p limits d0 now outer b left receiver tale h L s

  abbrev long' : Tale
  long' = long view told P says p limits d0 now outer b left receiver tale h L s

  n_is : length streams ≡ n'
  n_is = streams_count view told P says p limits d0 now outer b left receiver tale h L s

  rows_are : length (opener_places op) ≡ outer_rows p
  rows_are = outer_count p lines'

  -- where the outer stream is done each stream was dealt with
  done_all : outer ≡ how.Done → n' ≤ length h.parts
  done_all e = by_lack h.stands.lack refl
    where
      all_dealt : given b.seat ≡ all_given p lines' → length h.parts < n' → ⊥
      all_dealt gave l =
          let a = all_lease op n' (length h.parts) l in
          let noted = given_noted p.max_open (stream_limit p) b h.progress L s (Lease (length h.parts) a.0) (subst (λ E. IsAmong (Lease (length h.parts) a.0) E) (sym gave) a.1) in
          let below = s.told.outer (Lease (length h.parts) a.0) noted in
          let d = dealt_leased view told P says p limits d0 now outer b left receiver tale h L s in
          omega (arith, below, d)

      by_lack : (o : Option NotRead) → h.stands.lack ≡ o → n' ≤ length h.parts
      by_lack None q = ⊎_elim (λ (l : length h.parts < n'). absurd (all_dealt (subst (λ x. EndsRead p lines' (given b.seat) x) e (h.stands.ended q)) l)) (λ (l : n' ≤ length h.parts). l) (cases_lt (length h.parts) n')
      by_lack (Some w) q = let u = (h.stands.unread w q).1 in absurd (stopped_not_done w tale.memory (subst (λ x. IsStoppedBy w tale.memory x) (some_how u.0 outer (sym u.1) ∙ e) u.2))

  stopped : 0 < more' → IsOuterStopped tale
  stopped l = ⊎_elim (λ d. absurd (let a = done_all d in omega (arith, l, a))) (λ n. (outer, h.outer_is, n)) (done_or outer)

  is_tale : IsTale (plan_bounds p) long'
  is_tale = longer_tale (plan_bounds p) tale more' h.is_tale stopped

  account : IsJoinedLedger op n' outer L
  account =
      joined_ledger p.max_open (stream_limit p) b h.progress L s (outer_rows p) (acquired_below view told P p limits d0 now outer b left receiver tale h L s) op n' (order view told P p limits d0 now outer b left receiver tale h L s) (leased_below view told P p limits d0 now outer b left receiver tale h) outer
      (count_few view told P p limits d0 now outer b left receiver tale h) refl (sym rows_are) h.root

  module _ (lawful : (d : V) → KeepsToWhatIsThere (told d)) (last : DepotTold) (c : RunRecord) (again : Returns now last (all_left told b.shelf left)) (r : IsRunOf p n' outer tale L d0 last c) where
    back : MadeComeBack d0 last (plan_rows p lines') W'
    back = came view told P p limits d0 now outer b left receiver tale h L s (places_alone view told P p limits d0 now outer b left receiver tale h) (all_lawful told lawful b.shelf left) last again

    -- the values of the tables that were read are those of their devices
    valued : HaveValues (Some op) W' values'
    valued t key l = told_by W' (contents_of h.moves) t key of_contents
      where
        of_contents : t < length (contents_of h.moves) → IfSome (W' t).content (λ bytes. values_in (contents_of h.moves) t key ≡ table_value bytes key)
        of_contents m =
            let z : 0 + t ≡ t = omega arith in
            subst (λ k. IfSome (W' k).content (λ bytes. values_in (contents_of h.moves) t key ≡ table_value bytes key)) z
            (rows_valued p.tables op c W' (length p.tables) (plan_rows p lines') 0 (plan_parts p) (tried_of h.moves) h.stands.lack h.stands.tried (order' view told P p limits d0 now outer b left receiver tale h L s)
            (tables_out view told P p limits d0 now outer b left receiver tale h L s last back c r.depot_old r.depot_new r.events) (tried_valued view told P p limits d0 now outer b left receiver tale h L s) t key m)

    tables_within : (q : ℕ) → length op.tables ≤ q → length p.tables ≤ q
    tables_within q l = let count = length-map p.tables (λ (t : TableSpec). to_read t.path) in omega (arith, l, count)

    pub together : RunsTogether op streams (PlanRuns p) ListRuns c
    together = record {
      home = W';
      values = values';
      outer = outer;
      tale = long';
      devices = subst (λ x. MadeComeBack x c.depot_new (plan_rows p lines') W') (sym r.depot_old) (subst (λ x. MadeComeBack d0 x (plan_rows p lines') W') (sym r.depot_new) back);
      valued = valued;
      within = λ q low high. within view told P says p limits d0 now outer b left receiver tale h L s q (tables_within q low) high;
      account = subst (λ E. IsJoinedLedger op (length streams) outer E) (sym r.events) (subst (λ k. IsJoinedLedger op k outer L) (sym n_is) account);
      tables = subst (λ E. AreTablesKept (length (opener_places op)) W' E) (sym r.events) (subst (λ k. AreTablesKept k W' L) (sym rows_are) (kept view told P p limits d0 now outer b left receiver tale h L s));
      came = subst (λ k. OuterHasRun op ListRuns k c W' outer) (sym n_is) (outer_run view told P p limits d0 now outer b left receiver tale h L s last back c r.depot_old r.depot_new r.events);
      is_tale = subst (λ (x : Bounds). IsTale x long') (sym (bounds_are p lines')) is_tale;
      settled = h.settled;
      recorded = recorded view told P says p limits d0 now outer b left receiver tale h L s last c r;
      outer_is = h.outer_is;
      each = each_run view told P says p limits d0 now outer b left receiver tale h L s more' c.events r.events;
      rest = subst (λ f. IsRestOf f c.rest) (sym r.cut) r.rest;
    }

-- what a collector leaves that has come to its end
pub collected_runs : {S V F : Type 0} (view : S → View V) (told : V → DeviceTold) (P : Values → StateMeaning F) → ((v : Values) → (P v).values ≡ v) → CollectedRuns view told P
collected_runs view told P says = record {
  may_go = λ p d0 now outer b left receiver tale L limits h s. may_go view told P p limits d0 now outer b left receiver tale h L s;
  runs = λ p d0 now last outer b left receiver tale L c limits lawful h s again r. together view told P says p limits d0 now outer b left receiver tale h L s lawful last c again r;
}
