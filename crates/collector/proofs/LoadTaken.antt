-- A load that came is taken, and the collector goes on.
use Rattle.std.proofs.Common.{◌≡◌, ℕ, ◌<◌, List, [], ◌∷◌, ◌++◌, ◌-◌, ◌^◌, false, map, length, Option, Some, None, refl, sym, ◌∙◌, ap, subst, inl, inr, ⊎_elim, arith}
use Rattle.std.proofs.lemmas.List.{map-append}
use Rattle.chunk_core.specs.Elements.{elements, rendering_of}
use Rattle.chunk_core.specs.declared.load.Load.{Load}
use Rattle.chunk_core.proofs.Each.{each_right}
use Rattle.channel_bounded.specs.Ends.{HubSeen, ReceiverSeen}
use Rattle.channel_bounded.specs.declared.message.Msg.{Msg}
use Rattle.device_port.specs.Depot.{DepotTold}
use Rattle.device_port.specs.Sink.{SinkTold}
use Rattle.interrupt_ctx.specs.Ends.{BoardSeen}
use Rattle.interrupt_ctx.specs.declared.why.Stop.{Stop}
use Rattle.interrupt_ctx.specs.declared.why.Why.{Why}
use Rattle.join_report.specs.Calls.{Writes, WritesLoad}
use Rattle.join_report.specs.Calls.Writes.{late, some, last, sink, memory}
use Rattle.join_report.specs.Reports.{HasStream, IsReport}
use Rattle.join_report.specs.Stopping.{Interrupts, IsSeated, TellsKnown, view_of}
use Rattle.join_report.specs.declared.report.Report.{Report}
use Rattle.join_report.specs.declared.stops.Stops.{Stops}
use Rattle.join_report.proofs.Learning.{learns_known}
use Rattle.join_report.proofs.Steps.{learns}
use Rattle.join_tale.specs.Steps.{learned}
use Rattle.join_tale.specs.Tales as tales
use Rattle.join_tale.specs.Tales.{HasCome, IsBegun, IsOpen, Tale}
use Rattle.join_tree.specs.Progress.{Progress}
use Rattle.pipeline_desc.specs.Meant.{PlanMeant, stream_limit}
use Rattle.run_rules.specs.Facts.{at}
use Rattle.scope_tree.specs.Calls.{Seen}
use Rattle.scope_tree.specs.Trees.{seen}
use Rattle.stream_jobs.specs.declared.job.Job.{Job}
use Rattle.stream_jobs.specs.Messages.{IsFullMessage, load_message}
use Rattle.stream_jobs.specs.Running.{Origin}
use Rattle.frames.proofs.Rendered.{rendering_some}
use Rattle.collector.specs.declared.collector.Collector.{Collector}
use Rattle.dealt_streams.specs.declared.leftover.Leftover.{Leftover}
use Rattle.dealt_streams.specs.Kept.{AreKept, Gone, IsKept, told_message}
use Rattle.dealt_streams.specs.Works.{plan_bounds}
use Rattle.collector.specs.Collecting.{IsCollecting, Moment}
use Rattle.collector.specs.Members.{Members}
use Rattle.collector.proofs.Turns.{turns_same}
use Rattle.collector.specs.Streams.{KeepsStreams}
use Rattle.dealt_streams.specs.Kept.Gone.{Came, Missed}
use Rattle.dealt_streams.specs.Parts.{Part}
use Rattle.collector.specs.Receiving.{HasGot}
use Rattle.collector.proofs.Loads.{LoadGoes, SameEnds, goes_on, goes_on_stopped, wrote_none}
use Rattle.res_ledger.proofs.Mapped.{among_map}
use Rattle.collector.proofs.Placed.{fails_on, placed_calm, placed_set}
use Rattle.collector.proofs.Steps.{retold}
use Rattle.collector.proofs.Turning.{job_at}
use Rattle.collector.proofs.Opening.{is_open}
use Rattle.collector.proofs.OneStream.{of_rest}

-- a receiver that got m too
abbrev pub grown : ReceiverSeen → Msg → ReceiverSeen
grown had m = record had { got = had.got ++ m ∷ [] }

pub got_map : (had : List Msg) (m : Msg) (ms : List tales.Message) → map told_message had ≡ ms → map told_message (had ++ m ∷ []) ≡ ms ++ told_message m ∷ []
got_map had m ms e = map-append told_message had (m ∷ []) ∙ ap (λ xs. xs ++ told_message m ∷ []) e

pub same_set : {most : Option ℕ} {t : Tale} {k : ℕ} {l : Load} {old new : SinkTold} {answer : Option Why} {u : Tale} → Writes most t k l old new answer u → (u.set ≡ t.set) × (u.seen ≡ t.seen)
same_set (late a b) = (refl, refl)
same_set (some a b c) = (refl, refl)
same_set (last a b c) = (refl, refl)
same_set (sink a b) = (refl, refl)
same_set (memory a b c) = (refl, refl)

module _ {S V F D T : Type 0} (M : Members S V F D T) where
  module _ (parts : List (Part V F)) (progress : Progress V) (had : ReceiverSeen) (m : Msg) (t v : Tale) (same : SameEnds t v) (o : IsOpen t m.stream) where
    back_stays : (x : Leftover V) (g : Gone S V F) → IsKept M.view M.told M.stands parts progress had t x g → IsKept M.view M.told M.stands parts progress (grown had m) v x g
    back_stays x (Came n ds w e) h = record {
      begun = h.begun;
      ends = h.ends;
      came = same.came w.stream e.how h.came;
      got = of_rest had.got m w.stream (λ q. o.1 (subst (λ k. HasCome t k) (sym q) (e.how, h.came))) ∙ h.got;
      closed = h.closed;
      back = h.back;
      taken_in = h.taken_in;
      seat_is = h.seat_is;
      shelf_is = h.shelf_is;
      unopened_is = h.unopened_is;
    }
    back_stays x (Missed k ds) h = h

    kept_stays : (xs : List (Leftover V)) (gs : List (Gone S V F)) → AreKept M.view M.told M.stands parts progress had t xs gs → AreKept M.view M.told M.stands parts progress (grown had m) v xs gs
    kept_stays [] [] h = tt
    kept_stays [] (g ∷ gs) h = absurd h
    kept_stays (x ∷ xs) [] h = absurd h
    kept_stays (x ∷ xs) (g ∷ gs) h = (back_stays x g h.0, kept_stays xs gs h.1)

    begun_on : (k : ℕ) → IsBegun t k → IsBegun v k
    begun_on k b = subst (λ fs. at fs k ≡ Some tales.Fate.Begun) (sym same.fates) b

    begun_back : (k : ℕ) → IsBegun v k → IsBegun t k
    begun_back k b = subst (λ fs. at fs k ≡ Some tales.Fate.Begun) same.fates b

    come_on : (k : ℕ) → HasCome t k → HasCome v k
    come_on k h = (h.0, same.came k h.0 h.1)

    come_back : (k : ℕ) → HasCome v k → HasCome t k
    come_back k h = (h.0, same.back k h.0 h.1)

    pub streams_on : (hub : HubSeen) (board : BoardSeen) (d : D) (b : Seen V) (js : List (Job S V F V D T)) (left : List (Leftover V)) → (v.front ++ v.late ≡ (t.front ++ t.late) ++ told_message m ∷ [])
        → KeepsStreams M hub board d b js left had parts progress t → KeepsStreams M hub board d b js left (grown had m) parts progress v
    streams_on hub board d b js left got s = record {
      origins = s.origins;
      jobs_are = s.jobs_are;
      out = s.out;
      opens = λ k. (λ a. let q = (s.opens k).0 a in (begun_on k q.0, λ c. q.1 (come_back k c)), λ q. (s.opens k).1 (begun_back k q.0, λ c. q.1 (come_on k c)));
      begun = λ k. (λ q. (s.begun k).0 (begun_back k q), λ q. begun_on k ((s.begun k).1 q));
      gone = s.gone;
      kept = kept_stays left s.gone s.kept;
      apart = s.apart;
      numbers = λ k. (λ a. ⊎_elim (λ c. inl (come_on k c)) (λ u. inr (subst (λ fs. at fs k ≡ Some tales.Fate.Unmade) (sym same.fates) u)) ((s.numbers k).0 a), λ q. (s.numbers k).1 (⊎_elim (λ c. inl (come_back k c)) (λ u. inr (subst (λ fs. at fs k ≡ Some tales.Fate.Unmade) same.fates u)) q));
      given = s.given;
      home = s.home;
      hub_is = s.hub_is;
      got = got_map had.got m (t.front ++ t.late) s.got ∙ sym got;
      made = λ k. (λ a. begun_on k ((s.made k).0 a), λ q. (s.made k).1 (begun_back k q));
      closed = λ k sent a. come_on k (s.closed k sent a);
    }

module _ {S V F D T : Type 0} {M : Members S V F D T} {p : PlanMeant} {d0 : DepotTold} {s0 : SinkTold} {o : Moment S V F D T} (i : IsCollecting M p d0 s0 o) (k : ℕ) (l : Load) (r : ReceiverSeen) (h : HasGot o.receiver (load_message k l) r) where
  abbrev m : Msg
  m = load_message k l

  abbrev c : Collector S V F D T
  c = o.collector

  pub open_load : IsOpen i.tale k
  open_load = is_open M c.hub c.stops.board o.desk (seen M.view c.tree) o.jobs c.left.items o.receiver i.parts i.progress i.tale i.streams i.telling.fates_are m r h

  -- the collector behind it
  with_load : (v : Tale) (report : Report) (stops : Stops) (now : SinkTold) → LoadGoes (plan_bounds p) i.tale v k (rendering_of (elements l)) s0 now → IsReport p.take (stream_limit p) v report → TellsKnown v stops → IsSeated stops → stops.board ≡ c.stops.board → (view_of stops).out ≡ (view_of c.stops).out
      → IsCollecting M p d0 s0 (record o { receiver = r; sink = now; collector = record c { report = report; stops = stops } })
  with_load v report stops now g is known seated board out = subst (λ x. IsCollecting M p d0 s0 (record o { receiver = x; sink = now; collector = record c { report = report; stops = stops } })) (sym h.is)
      (retold i o.jobs (grown o.receiver m) now o.desk c.jobs report stops v g.same.memory i.fits_desk
      (subst (λ b. KeepsStreams M c.hub b o.desk (seen M.view c.tree) o.jobs c.left.items (grown o.receiver m) i.parts i.progress v) (sym board) (streams_on M i.parts i.progress o.receiver m i.tale v g.same open_load c.hub c.stops.board o.desk (seen M.view c.tree) o.jobs c.left.items g.got i.streams))
      (record {
        is_tale = g.is_tale;
        fates_are = g.same.fates ∙ i.telling.fates_are;
        outer_is = g.same.outer ∙ i.telling.outer_is;
        report_is = is;
        known = known;
        seated = seated;
        seats = out ∙ i.telling.seats;
        contexts = ap (λ (b : BoardSeen). b.contexts) board ∙ i.telling.contexts;
        wrote = g.wrote;
      })
      (turns_same i.progress i.tale v g.same.pulled g.same.room i.turns)
      (placed_set (plan_bounds p) (seen M.view c.tree) (seen M.view c.tree) i.progress i.progress i.tale v (λ e n. n) (λ y n. n) (fails_on i.tale v (λ f e. g.same.outer ∙ e) g.same.came) i.places g.set.0 g.obeyed g.set.1
      (placed_calm (plan_bounds p) (seen M.view c.tree) i.progress v g.set.0 g.set.2)) refl refl)

  pub full_elements : 0 < length (elements l)
  full_elements = (each_right IsFullMessage o.receiver.got (m ∷ h.rest) h.sees.1).0

  full : 0 < length (rendering_of (elements l))
  full = rendering_some (elements l) full_elements

  -- its number is that of a stream that there may be
  pub number_below : k < stream_limit p
  number_below =
      let a = among_map (λ (w : Origin V F). w.stream) k i.streams.origins ((i.streams.opens k).1 open_load) in
      let j = job_at M c.hub c.stops.board o.desk i.parts o.jobs i.streams.origins a.0 i.streams.jobs_are a.1 in
      let number = j.2.job.sender in
      let is = a.2 in
      let context = j.2.place.context in
      let contexts = i.telling.contexts in
      omega (arith, number, is, context, contexts)

  pub has_stream : HasStream c.report k
  has_stream = let n = i.telling.report_is.unwritten in let b = number_below in omega (arith, n, b)

  pub some_context : 0 < c.stops.board.contexts
  some_context = let e = i.telling.contexts in omega (arith, e)

  -- while frames are written no write failed
  pub room_while : c.report.ceased ≡ false → o.sink.faults < 2 ^ 64 - 1
  room_while ceased =
      let quiet = i.telling.is_tale.frames.quiet (sym i.telling.report_is.ceased ∙ ceased) in
      subst (λ n. n < 2 ^ 64 - 1) (sym (ap (λ (s : SinkTold). s.faults) (wrote_none s0 o.sink i.tale quiet.1 i.telling.wrote))) i.few_faults

  module _ (now : SinkTold) (report : Report) (answer : Option Why) (writes : WritesLoad k l c.report report o.sink now answer) where
    abbrev goes : (u : Tale) × Writes p.take i.tale k l o.sink now answer u × IsReport p.take (stream_limit p) u report
    goes = writes p.take (stream_limit p) i.tale i.telling.report_is open_load

    pub load_taken : answer ≡ None → IsCollecting M p d0 s0 (record o { receiver = r; sink = now; collector = record c { report = report } })
    load_taken e =
        let w = subst (λ a. Writes p.take i.tale k l o.sink now a goes.0) e goes.1 in
        let same = same_set goes.1 in
        with_load goes.0 report c.stops now (goes_on (plan_bounds p) i.tale k l s0 o.sink now i.telling.is_tale open_load full i.telling.wrote goes.0 w) goes.2 (record { set = same.0 ∙ i.telling.known.set; seen = same.1 ∙ i.telling.known.seen }) i.telling.seated refl refl

    pub load_stopped : (w : Why) (x : Stop) (stops : Stops) → answer ≡ Some w → x.why ≡ w → Interrupts c.stops stops 0 x → IsSeated stops → IsCollecting M p d0 s0 (record o { receiver = r; sink = now; collector = record c { report = report; stops = stops } })
    load_stopped w x stops e told (vs, cs, marks, learned_so) seated =
        let wr = subst (λ a. Writes p.take i.tale k l o.sink now a goes.0) e goes.1 in
        let same = same_set goes.1 in
        let known : TellsKnown goes.0 c.stops = record { set = same.0 ∙ i.telling.known.set; seen = same.1 ∙ i.telling.known.seen } in
        with_load (learned goes.0 vs cs) report stops now (goes_on_stopped (plan_bounds p) i.tale k l s0 o.sink now i.telling.is_tale open_load full i.telling.wrote goes.0 w x vs cs wr told marks) (learns p.take (stream_limit p) goes.0 report goes.2 vs cs) (learns_known goes.0 c.stops stops vs cs known learned_so) seated learned_so.board learned_so.out
