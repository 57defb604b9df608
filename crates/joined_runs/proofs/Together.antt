-- Streams that ran side by side did their work.
use Rattle.std.proofs.Common.{◌≡◌, ℕ, ◌<◌, true, false, List, [], inr, length, Some, refl, sym, ◌∙◌, subst, ⊎_elim, arith}
use Rattle.std.proofs.lemmas.Bool.{false≢true, false_from_ne_true}
use Rattle.std.specs.List.{list_any as any}
use Rattle.chunk_core.specs.Elements.{Element, rendering_of}
use Rattle.chunk_core.specs.Lists.{IsAmong}
use Rattle.chunk_core.specs.Lists.IsAmong.{here, there}
use Rattle.chunk_core.specs.Outcomes.{End, Cut, Done, Fault, Outcomes}
use Rattle.chunk_core.specs.Tables.{Values}
use Rattle.chunk_core.specs.Texts.{payloads_of}
use Rattle.chunk_core.specs.declared.code.Code.{Code}
use Rattle.chunk_core.specs.declared.code.How.{How}
use Rattle.chunk_core.specs.declared.code.How.TheVariants as how
use Rattle.chunk_core.proofs.Bools.{any_found}
use Rattle.chunk_core.proofs.Each.{among_each, each_among}
use Rattle.res_ledger.specs.declared.event.StreamNo.{StreamNo}
use Rattle.res_ledger.specs.declared.event.StreamNo.TheVariants.{Inner, Outer}
use Rattle.device_port.specs.Device.{DeviceTold, faults_of}
use Rattle.run_rules.specs.declared.end.EndOf.{EndOf}
use Rattle.run_rules.specs.Facts.{at, first_numbers, is_fault}
use Rattle.run_rules.specs.Homes.{AreLeftAlone}
use Rattle.run_rules.specs.Opening.{IsOuterEnd}
use Rattle.run_rules.specs.Outputs.{IsReported, elements_in_pieces}
use Rattle.run_rules.specs.Run.{Performs}
use Rattle.run_rules.specs.Wholeness.{AreUnfailed, IsWholeRun, NothingFailed}
use Rattle.run_rules.specs.Work.{Opener, RunRecord, Stream, Work, names_from}
use Rattle.join_tale.specs.Ended.{Ended}
use Rattle.join_tale.specs.Records.{EndedSo}
use Rattle.join_tale.specs.Tales.{Came, loads_of}
use Rattle.join_tale.proofs.Undisturbed.{undisturbed_is_done}
use Rattle.plan_work.specs.Joined.{joined, places_in}
use Rattle.joined_runs.specs.Together.{RunsTogether}
use Rattle.joined_runs.proofs.Covered.{AreCovered, CoversList, RefusesTables}
use Rattle.joined_runs.proofs.JoinedRules.{AreSharesKept, keeps_rules, name_among, rows_kept}
use Rattle.joined_runs.proofs.MadeRows.{accounted, at_below, at_some, faultless, homes}
use Rattle.res_ledger.proofs.Mapped.{among_map}
use Rattle.res_ledger.proofs.Permuted.{among_range, range_among}
use Rattle.joined_runs.proofs.RowAccounts.{AreRowsKept, clean}
use Rattle.joined_runs.proofs.SharesKept.{shares_kept}
use Rattle.joined_runs.proofs.StreamEnds.{fault_run, no_fault_undone, outer_so, reported_done, stream_ends, stream_exits, stream_of_end}
use Rattle.joined_runs.proofs.StreamOutputs.{Ran, ended_as, follows, never_came, outputs_law, plain_work, stream_outputs, stream_wants, whole_printed}
use Rattle.joined_runs.proofs.StreamRows.{inside}
use Rattle.joined_runs.proofs.OuterFaults.{list_whole, outer_well}

fault_not_done : (f : Code) → Fault f ≡ Done → ⊥
fault_not_done f e = cc

fault_not_cut : (f : Code) → Fault f ≡ Cut → ⊥
fault_not_cut f e = cc

done_not_cut : Done ≡ Cut → ⊥
done_not_cut e = cc

done_not_halted : how.Done ≡ how.Halted → ⊥
done_not_halted e = cc

done_not_memory : how.Done ≡ how.Memory → ⊥
done_not_memory e = cc

module _ (opener : Opener) (refuses : RefusesTables opener) (ss : List Stream) (runs ideal : ℕ → Values → (ℕ → DeviceTold) → Outcomes) (listing ideal_listing : DeviceTold → Outcomes) (c : RunRecord) (r : RunsTogether opener ss runs listing c) (covers : AreCovered opener ss runs ideal r.values r.home) (covers_list : CoversList opener listing ideal_listing r.home) where
  abbrev work : Work
  work = joined opener ss runs ideal listing ideal_listing

  abbrev count : ℕ
  count = length (places_in opener ss)

  shares : AreSharesKept opener ss r.home c.events
  shares = shares_kept opener ss runs listing c r

  kept : AreRowsKept count r.home c.events
  kept = rows_kept opener ss runs ideal listing ideal_listing r.home r.outer c.events r.account r.tables shares

  -- nothing was done on the devices of a stream that noted nothing
  left_alone : AreLeftAlone work c r.home
  left_alone k q s is quiet l u = ⊎_elim (λ x. let n = x.share.closed.1 in absurd (quiet (n.0, n.1, n.2))) (λ x. x.untouched q l u) (r.each k s is)

  module _ (remembered : c.memory ≡ false) (n : NothingFailed work c r.values r.home) where
    calm : (q : ℕ) → q < count → faults_of (r.home q) ≡ 0
    calm = faultless (places_in opener ss) c.depot_old c.depot_new r.home r.devices n.devices

    -- the ideal runs of stream k end by themselves
    ideal_done : (k : ℕ) → k < length ss → (u : ℕ → DeviceTold) (zs : List Element) (g : End) → AreUnfailed u r.home → ideal k r.values u zs g → g ≡ Done
    ideal_done k l = among_each (λ k. (u : ℕ → DeviceTold) (zs : List Element) (g : End) → AreUnfailed u r.home → ideal k r.values u zs g → g ≡ Done) k (first_numbers (length ss)) n.ideal (range_among 0 (length ss) k (omega arith) (omega (arith, l)))

    -- no stream failed, and not the outer one
    no_fault : (q : StreamNo) (h : How) → EndedSo r.tale q h → is_fault h ≡ true → ⊥
    no_fault Outer (how.Fault f) e t = outer_well opener ss listing ideal_listing c r.home r.devices calm covers_list f n.tables n.list (subst (λ h. IsOuterEnd opener listing (length ss) c r.home h) (outer_so opener ss runs ideal listing ideal_listing c r (how.Fault f) e) r.came.end)
    no_fault (Inner k) (how.Fault f) e t =
        let s = stream_of_end opener ss runs ideal listing ideal_listing c r k (how.Fault f) e in
        ⊎_elim
        (λ x.
        let i = inside opener ss k s.0 s.1 in
        fault_not_done f ((covers k s.0 s.1).whole (elements_in_pieces x.pieces) (Fault f) (fault_run opener ss runs ideal listing ideal_listing c r k s.0 x f e) (fault_not_cut f) (λ q l m. calm q (omega (arith, m, i))) (ideal_done k (at_below ss k s.0 s.1))).0)
        (λ u. no_fault_undone opener ss runs ideal listing ideal_listing c r k s.0 u f e)
        (r.each k s.0 s.1)
    no_fault q h e t = absurd (false≢true t)

    faultless_ends : any (λ (e : EndOf). is_fault e.how) c.ends ≡ false
    faultless_ends = false_from_ne_true (any (λ (e : EndOf). is_fault e.how) c.ends) (λ t. let f = any_found (λ (e : EndOf). is_fault e.how) c.ends t in no_fault f.0.who f.0.how (r.recorded.told f.0 f.1) f.2)

    done : (e : EndOf) → IsAmong e c.ends → e.how ≡ how.Done
    done e i = undisturbed_is_done (plain_work opener ss runs ideal listing ideal_listing c r) c (follows opener ss runs ideal listing ideal_listing c r) (record { written = n.written; memory = remembered; most = n.most; until = n.until; faultless = faultless_ends }) e i

    -- a stream that is done and was printed whole gave an ideal run
    ran_whole : (k : ℕ) (s : Stream) → at ss k ≡ Some s → (x : Ran opener ss runs ideal listing ideal_listing c r k s) → Came r.tale k how.Done → loads_of k r.tale.late ≡ [] → (zs : List Element) × ideal k r.values r.home zs Done × (payloads_of k c.frames ≡ rendering_of zs)
    ran_whole k s is x came none =
        let i = inside opener ss k s is in
        let end : x.end ≡ Done = reported_done x.end (subst (λ h. IsReported x.end h) (ended_as opener ss runs ideal listing ideal_listing c r k s x how.Done came) x.reported) in
        let z = (covers k s is).whole (elements_in_pieces x.pieces) Done (subst (λ g. runs k r.values r.home (elements_in_pieces x.pieces) g) end x.run) done_not_cut (λ q a b. calm q (omega (arith, b, i))) (ideal_done k (at_below ss k s is)) in
        let printed : payloads_of k c.frames ≡ rendering_of (elements_in_pieces x.pieces) = whole_printed opener ss runs ideal listing ideal_listing c r k s x none in
        (z.1.0, z.1.1, printed ∙ z.1.2)

    -- stream k is done
    stream_done : (k : ℕ) → k < length ss → Ended r.tale k how.Done
    stream_done k l =
        let x = among_map (λ (e : EndOf). e.who) (Inner k) c.ends (subst (λ names. IsAmong (Inner k) names) (sym r.recorded.named) (there Outer (name_among 0 k k ss (omega arith) l))) in
        subst (λ h. Ended r.tale k h) (done x.0 x.1) (subst (λ q. EndedSo r.tale q x.0.how) x.2 (r.recorded.told x.0 x.1))

    -- what was printed of stream k renders an ideal run
    whole_output : (k : ℕ) → k < length ss → (zs : List Element) × ideal k r.values r.home zs Done × (payloads_of k c.frames ≡ rendering_of zs)
    whole_output k l =
        let s = at_some ss k l in
        ⊎_elim
        (λ w. ⊎_elim (λ x. ran_whole k s.0 s.1 x w.0 w.1) (λ u. absurd (never_came opener ss runs ideal listing ideal_listing c r k s.0 u how.Done w.0)) (r.each k s.0 s.1))
        (λ cut. absurd (⊎_elim (λ e. done_not_halted e) (λ e. done_not_memory e) cut))
        ((outputs_law opener ss runs ideal listing ideal_listing c r).ended r.tale k how.Done r.is_tale (stream_done k l))

    -- the outer stream is done
    outer_done : r.outer ≡ how.Done
    outer_done =
        let x = among_map (λ (e : EndOf). e.who) Outer c.ends (subst (λ names. IsAmong Outer names) (sym r.recorded.named) (here (names_from 0 ss))) in
        outer_so opener ss runs ideal listing ideal_listing c r how.Done (subst (λ h. r.tale.outer ≡ Some h) (done x.0 x.1) (subst (λ q. EndedSo r.tale q x.0.how) x.2 (r.recorded.told x.0 x.1)))

    whole_run : IsWholeRun work c r.values r.home
    whole_run = record {
      done = each_among (λ (e : EndOf). e.how ≡ how.Done) c.ends done;
      clean = clean count r.home c.events kept (λ q l. let f : faults_of (r.home q) ≡ 0 = calm q l in omega (arith, f));
      listed = list_whole opener ss listing ideal_listing c r.home r.devices calm covers_list (subst (λ h. IsOuterEnd opener listing (length ss) c r.home h) outer_done r.came.end);
      output = each_among (λ k. (zs : List Element) × ideal k r.values r.home zs Done × (payloads_of k c.frames ≡ rendering_of zs)) (first_numbers (length ss)) (λ k i. let b = (among_range 0 (length ss) k i).1 in whole_output k (omega (arith, b)));
    }

  -- the work was done
  pub together_performs : Performs work c
  together_performs = record {
    devices = accounted (places_in opener ss) c.depot_old c.depot_new r.home r.devices c.events kept;
    ledger = keeps_rules opener ss runs ideal listing ideal_listing r.home r.outer c.events r.account r.tables shares;
    ran = inr (record {
      values = r.values;
      home = r.home;
      rows = homes (places_in opener ss) c.depot_old c.depot_new r.home r.devices c.events kept work c r.values refl refl refl refl r.valued left_alone;
      outputs = stream_outputs opener ss runs ideal listing ideal_listing c r covers;
      ends = stream_ends opener ss runs ideal listing ideal_listing c r refuses covers covers_list;
      exits = stream_exits opener ss runs ideal listing ideal_listing c r covers;
      wanting = stream_wants opener ss runs ideal listing ideal_listing c r covers;
      completeness = whole_run;
    });
  }
