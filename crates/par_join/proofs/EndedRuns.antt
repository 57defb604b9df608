-- What running a plan has done once its collector has come to its end and all devices went back.
use Rattle.std.proofs.Common.{◌≡◌, ℕ, ◌+◌, ◌≤◌, cond, max, List, [], ◌∷◌, ◌++◌, map, length, take, is_some, refl, sym, ◌∙◌, ap, subst, arith}
use Rattle.chunk_core.specs.Lists.{IsAmong}
use Rattle.chunk_core.specs.Lists.IsAmong.{here}
use Rattle.chunk_core.specs.Tables.{Values}
use Rattle.chunk_core.specs.Texts.{frames_text}
use Rattle.chunk_core.proofs.Members.{among_nil}
use Rattle.collected.proofs.Assembled.{collected_runs}
use Rattle.par_join.proofs.Bridged.{IsAtEnd, at_end, no_origins}
use Rattle.collected.specs.Collected.{IsRunOf, all_left}
use Rattle.collector.specs.Collecting.{IsCollecting, between}
use Rattle.collector.specs.Members.{members}
use Rattle.collector.specs.Streams.{guest_of}
use Rattle.collector.specs.declared.collector.Collector.{Collector}
use Rattle.device_port.specs.Device.{DeviceTold}
use Rattle.device_port.specs.Depot.{DepotTold}
use Rattle.device_port.specs.Sink.{SinkTold, with_bytes}
use Rattle.join_report.specs.Accounts.{names_below}
use Rattle.join_report.specs.Reports.{count_of}
use Rattle.join_tale.specs.Tales.{frames_of}
use Rattle.join_tree.specs.Settled.{Settles}
use Rattle.joined_runs.proofs.PlansTogether.{plan_together}
use Rattle.dealt_streams.specs.Moves.{Move, lines_of}
use Rattle.pipeline_desc.specs.Meant.{PlanMeant, stream_limit}
use Rattle.pipeline_desc.specs.Sound.{IsSoundPlan}
use Rattle.pull_turns.specs.Piping.{StateMeaning}
use Rattle.res_ledger.specs.declared.event.Event.{Event}
use Rattle.res_ledger.specs.declared.event.StreamNo.TheVariants.{Outer}
use Rattle.row_seat.specs.declared.view.View.{View}
use Rattle.run_rules.specs.Devices.{KeepsToWhatIsThere}
use Rattle.run_rules.specs.Work.{RunRecord}
use Rattle.run_rules.specs.declared.end.EndOf.{EndOf}
use Rattle.scope_tree.specs.Trees.{seen}
use Rattle.stream_parts.specs.Retire.{MayReturnAll, Returns}
use Rattle.cat_run.specs.Cat.{run_record_of}
use Rattle.par_join.specs.Plans.{RunsPlan}
use Rattle.cat_run.specs.declared.outcome.Outcome.{Outcome}

nothing_among : {A : Type 0} (xs : List A) → ((x : A) → IsAmong x xs → ⊥) → xs ≡ []
nothing_among [] n = refl
nothing_among (x ∷ xs) n = absurd (n x (here xs))

module _ {S V F D T : Type 0} (view : S → View V) (told : V → DeviceTold) (fits : S → D → Type 0) (values : T → Values) (P : Values → StateMeaning F) (says : (v : Values) → (P v).values ≡ v) (p : PlanMeant) (limits : IsSoundPlan p) (d0 : DepotTold) (s0 : SinkTold) (depot : DepotTold) (sink : SinkTold) (d : D) (c : Collector S V F D T)
    (i : IsCollecting (members view told fits values P) p d0 s0 (between 1 depot sink d c)) (none_waits : c.waiting.items ≡ []) (none_open : c.jobs.items ≡ []) where
  abbrev pub it : IsAtEnd view told fits values P p d0 s0 depot sink d c i none_waits none_open
  it = at_end view told fits values P p d0 s0 depot sink d c i none_waits none_open

  -- no seat is out
  pub none_out : (seen view c.tree).seat.out ≡ []
  none_out =
      let o = no_origins view told fits values P p d0 s0 depot sink d c i none_waits none_open i.streams.origins i.streams.jobs_are in
      nothing_among (seen view c.tree).seat.out (λ j m. let g = i.streams.out.all j m in among_nil (subst (λ ws. IsAmong g.0 (map guest_of ws)) o g.1))

  -- How many streams there were.

  abbrev pub lines : List (List ℕ)
  lines = lines_of it.collected.moves

  abbrev pub streams : ℕ
  streams = max (length p.streams) c.outer_stream.outer.leased

  streams_are : streams ≡ length p.streams + length lines
  streams_are =
      let l = i.stands.lines_are in
      let same : length lines ≡ length (lines_of i.moves) = ap (λ (ms : List (Move V F)). length (lines_of ms)) it.moves_are in
      omega (arith, l, same)

  -- the report tells of each of them
  pub few_streams : streams ≤ count_of c.report
  few_streams =
      let few = i.tree.main.few in
      let leased = i.tree.leased_is in
      let count = i.telling.report_is.unwritten in
      omega (arith, few, leased, count)

  module _ (L : List Event) (s : Settles p.max_open (stream_limit p) (seen view c.tree) it.collected.progress L) where
    -- all devices that are left may go back
    pub may_go : MayReturnAll depot (all_left told (seen view c.tree).shelf c.left.items)
    may_go = (collected_runs view told P says).may_go p d0 depot it.outer (seen view c.tree) c.left.items c.receiver i.tale L limits it.collected s

    module _ (lawful : (d : V) → KeepsToWhatIsThere (told d)) (last : DepotTold) (again : Returns depot last (all_left told (seen view c.tree).shelf c.left.items)) (o : Outcome) (ledger : o.ledger ≡ L) (failed : o.sink_failed ≡ c.report.sink_failed) (memory : o.memory ≡ c.report.memory)
        (names : map (λ (e : EndOf). e.who) o.ends ≡ Outer ∷ names_below streams) (hows : map (λ (e : EndOf). e.how) o.ends ≡ it.outer ∷ take streams c.report.streams.hows) where
      abbrev record_is : RunRecord
      record_is = run_record_of d0 last (frames_of i.tale.front) i.tale.cut i.telling.wrote.rest o

      its_run : IsRunOf p (length p.streams + length lines) it.outer i.tale L d0 last record_is
      its_run = record {
        depot_old = refl;
        depot_new = refl;
        events = ledger;
        frames = refl;
        cut = refl;
        rest = i.telling.wrote.cut;
        memory = memory ∙ i.telling.report_is.memory;
        report = c.report;
        report_is = i.telling.report_is;
        names = names ∙ ap (λ n. Outer ∷ names_below n) streams_are;
        hows = hows ∙ ap (λ n. it.outer ∷ take n c.report.streams.hows) streams_are;
      }

      broke : is_some i.tale.cut ≡ o.sink_failed
      broke = sym i.telling.report_is.sink_failed ∙ sym failed

      some_end : (es : List EndOf) → es ≡ [] → map (λ e. e.who) es ≡ Outer ∷ names_below streams → ⊥
      some_end [] e n = cc
      some_end (x ∷ es) e n = cc

      -- the plan was run
      pub runs_plan : RunsPlan p d0 last s0 sink o
      runs_plan = record {
        lines = lines;
        frames = frames_of i.tale.front;
        cut = i.tale.cut;
        rest = i.telling.wrote.rest;
        broke = broke;
        performs = plan_together p lines limits record_is
            ((collected_runs view told P says).runs p d0 depot last it.outer (seen view c.tree) c.left.items c.receiver i.tale L record_is limits lawful it.collected s again its_run);
        wrote = i.telling.wrote.wrote ∙ ap (λ b. record (with_bytes s0 (frames_text (frames_of i.tale.front) ++ i.telling.wrote.rest)) { faults = cond b (s0.faults + 1) s0.faults }) broke;
        begun = λ e. absurd (some_end o.ends e names);
      }
