-- The record of a run tells its tale.
use Rattle.std.proofs.Common.{◌≡◌, ◌⊎◌, ℕ, zero, suc, ◌+◌, ◌-◌, ◌<◌, ◌≤◌, true, List, [], ◌∷◌, inl, inr, map, length, take, Some, None, refl, sym, ◌∙◌, ap, subst, ⊎_elim, arith}
use Rattle.std.proofs.lemmas.List.{length-map}
use Rattle.std.specs.Prelude.{slice_index_or}
use Rattle.std.specs.List.{range_with_len}
use Rattle.channel_bounded.specs.Ends.{ReceiverSeen}
use Rattle.chunk_core.specs.Lists.{IsAmong}
use Rattle.chunk_core.specs.Tables.{Values}
use Rattle.chunk_core.specs.declared.code.Exit.{Exit}
use Rattle.chunk_core.specs.declared.code.How.{How}
use Rattle.chunk_core.specs.declared.code.How.TheVariants as how
use Rattle.chunk_core.proofs.Bools.{any_at, any_found, itself}
use Rattle.chunk_core.proofs.Members.{among_cons, among_nil}
use Rattle.device_port.specs.Device.{DeviceTold}
use Rattle.device_port.specs.Depot.{DepotTold}
use Rattle.interrupt_ctx.specs.declared.why.Stop.{Stop}
use Rattle.join_report.specs.Accounts.{names_below}
use Rattle.join_report.specs.Reports.{how_of}
use Rattle.join_report.proofs.Listing.{names_agree}
use Rattle.join_report.proofs.Steps.{reports_ends}
use Rattle.join_tale.specs.Bounds.{Bounds}
use Rattle.join_tale.specs.Ended.{Ended}
use Rattle.join_tale.specs.Records.{EndedSo, IsRecordOf, bare}
use Rattle.join_tale.specs.Tales as tales
use Rattle.join_tale.specs.Tales.{HasCome, Tale}
use Rattle.join_tree.specs.Progress.{Follow}
use Rattle.join_tree.specs.Settled.{Settles}
use Rattle.pipeline_desc.specs.Meant.{PlanMeant, stream_limit}
use Rattle.pipeline_desc.specs.Sound.{IsSoundPlan}
use Rattle.plan_work.specs.Plans.{opener_of, specs_of, stream_of, streams_of}
use Rattle.pull_turns.specs.Piping.{StateMeaning}
use Rattle.res_ledger.specs.declared.event.Event.{Event}
use Rattle.res_ledger.specs.declared.event.StreamNo.{StreamNo}
use Rattle.res_ledger.specs.declared.event.StreamNo.TheVariants.{Inner, Outer}
use Rattle.res_ledger.specs.declared.event.What.TheVariants.{Cancel}
use Rattle.res_ledger.specs.Ledger.{IsStamped, NotesCancel, NotesClose}
use Rattle.res_ledger.specs.Streams.{by_stream}
use Rattle.res_ledger.specs.Whole.{is_cancel}
use Rattle.res_ledger.proofs.Ledgers.{by_in, by_out}
use Rattle.row_seat.specs.declared.view.View.{View}
use Rattle.run_rules.specs.Ends.{HadTurn, WasIn}
use Rattle.run_rules.specs.Facts.{at, has_left}
use Rattle.run_rules.specs.Work.{RunRecord}
use Rattle.run_rules.specs.declared.end.EndOf.{EndOf}
use Rattle.scope_tree.specs.Calls.{Seen}
use Rattle.stop_places.specs.Places.{ClosedWithin, ClosesBehind}
use Rattle.tree_families.specs.Families.{Split}
use Rattle.joined_runs.proofs.PlanBounds.{bounds_are}
use Rattle.collected.specs.Collected.{IsCollected, IsRunOf}
use Rattle.dealt_streams.specs.Moves.{lines_of}
use Rattle.dealt_streams.specs.declared.leftover.Leftover.{Leftover}
use Rattle.dealt_streams.specs.Parts.{fate_of}
use Rattle.dealt_streams.specs.Places.{ClosedAs}
use Rattle.collected.proofs.Each.{share}
use Rattle.collected.proofs.HeldRows.{count, count_few, leased_below, without}
use Rattle.collected.proofs.Passed.{begun_before, begun_still, failed_still, longer, longer_count, longer_report}
use Rattle.collected.proofs.Placed.{closed_within, closes_as}
use Rattle.collected.proofs.PlanPlaces.{no_lines}
use Rattle.collected.proofs.Standing.{begun_at, come_begun}

-- Ends.

-- an end stands with its name and with how it is reported
zipped : (es : List EndOf) (ks : List StreamNo) (hs : List How) → map (λ e. e.who) es ≡ ks → map (λ e. e.how) es ≡ hs → (e : EndOf) → IsAmong e es → (i : ℕ) × (at ks i ≡ Some e.who) × (at hs i ≡ Some e.how)
zipped es ks hs a c e m = subst (λ l. (i : ℕ) × (at l i ≡ Some e.who) × (at hs i ≡ Some e.how)) a (subst (λ l. (i : ℕ) × (at (map (λ e. e.who) es) i ≡ Some e.who) × (at l i ≡ Some e.how)) c (found es m))
  where
    found : (es : List EndOf) → IsAmong e es → (i : ℕ) × (at (map (λ e. e.who) es) i ≡ Some e.who) × (at (map (λ e. e.how) es) i ≡ Some e.how)
    found [] m = absurd (among_nil m)
    found (x ∷ es) m = ⊎_elim (λ s. (0, ap (λ (y : EndOf). Some y.who) (sym s), ap (λ (y : EndOf). Some y.how) (sym s))) (λ i. let f = found es i in (suc f.0, f.1, f.2)) (among_cons m)

name_at : (i n k : ℕ) (x : StreamNo) → at (map Inner (range_with_len i n)) k ≡ Some x → (x ≡ Inner (i + k)) × (k < n)
name_at i zero k x e = absurd (let f : None ≡ Some x = e in cc)
name_at i (suc n) zero x e = let z : i + 0 ≡ i = omega arith in let s : Inner i ≡ x = cc in (sym s ∙ ap Inner (sym z), omega arith)
name_at i (suc n) (suc k) x e = let r = name_at (i + 1) n k x e in let l = r.1 in let z : i + 1 + k ≡ i + suc k = omega arith in (r.0 ∙ ap Inner z, omega (arith, l))

index_at : (hs : List How) (k : ℕ) (h : How) → at hs k ≡ Some h → slice_index_or hs k how.Halted ≡ h
index_at [] k h e = cc
index_at (x ∷ hs) zero h e = let s : x ≡ h = cc in s
index_at (x ∷ hs) (suc k) h e = index_at hs k h e

-- what stands among the first ones stands there
at_taken : (n : ℕ) (hs : List How) (k : ℕ) (h : How) → at (take n hs) k ≡ Some h → at hs k ≡ Some h
at_taken zero hs k h e = cc
at_taken (suc n) [] k h e = cc
at_taken (suc n) (x ∷ hs) zero h e = e
at_taken (suc n) (x ∷ hs) (suc k) h e = at_taken n hs k h e

outer_name : (n : ℕ) (i : ℕ) (x : StreamNo) → at (Outer ∷ names_below n) i ≡ Some x → ((i ≡ 0) × (x ≡ Outer)) ⊎ ((k : ℕ) × (i ≡ suc k) × (x ≡ Inner k) × (k < n))
outer_name n zero x e = let s : Outer ≡ x = cc in inl (refl, sym s)
outer_name n (suc k) x e = let r = name_at 0 n k x e in let z : 0 + k ≡ k = omega arith in inr (k, refl, r.0 ∙ ap Inner z, r.1)

inner_number : (j k : ℕ) → Inner j ≡ Inner k → j ≡ k
inner_number j k e = cc

module _ {S V F : Type 0} (view : S → View V) (told : V → DeviceTold) (P : Values → StateMeaning F) (says : (v : Values) → (P v).values ≡ v) (p : PlanMeant) (limits : IsSoundPlan p) (d0 now : DepotTold) (outer : How) (b : Seen V) (left : List (Leftover V)) (receiver : ReceiverSeen) (tale : Tale)
    (h : IsCollected view told P p d0 now outer b left receiver tale) (L : List Event) (s : Settles p.max_open (stream_limit p) b h.progress L) where
  -- Which streams noted something.

  pub began : (e : Event) (k : ℕ) → IsAmong e L → e.by ≡ Inner k → tales.IsBegun tale k
  began e k m by =
      ⊎_elim
      (λ o. absurd (let f : Outer ≡ Inner k = sym o ∙ by in cc))
      (λ y.
      let r = s.told.back y.0 y.1 in
      let same : r.0 ≡ k = inner_number r.0 k (sym r.1 ∙ (sym y.2 ∙ by)) in
      subst (λ j. tales.IsBegun tale j) same ((h.streams.begun r.0).1 r.2))
      (s.told.whose e m)

  -- a stream that has come back left
  pub left_so : (k : ℕ) → HasCome tale k → has_left k L ≡ true
  left_so k come =
      let begun = come_begun view told P p d0 now outer b left receiver tale h k come in
      let x = (h.streams.begun k).0 begun in
      let older = s.older x.0 x.1 in
      let is = x.2 in
      let d = s.dealt in
      let leased = s.told.leases k (omega (arith, older, is, d)) in
      let c = s.ledger.canceled k (Outer, leased.0, leased.1) in
      by_whom c.0 c.1 x
    where
      cancels : (e : Event) (x : Exit) → e.what ≡ Cancel k x → is_cancel k e.what ≡ true
      cancels e x w = ap (is_cancel k) w ∙ itself k

      by_whom : (who : StreamNo) → NotesCancel L who k → (m : Split) × IsAmong m h.progress.splits × (m.stream ≡ k) → has_left k L ≡ true
      by_whom Outer n x = absurd (s.told.skipped k n.0 n.1 x)
      by_whom (Inner j) n x =
          let e = n.1.0 in
          let g = begun_at view told P p d0 now outer b left receiver tale h j (began e j n.1.1 n.1.2) in
          let l = (share view told P says p limits d0 now outer b left receiver tale h L s j g.0 g.1 g.2 g.3).leaves e k n.0 n.1.1 n.1.2 n.1.3 in
          any_at (λ (y : Event). is_cancel k y.what) e (by_stream (Inner k) L) (by_out (Inner k) L e n.1.1 (n.1.2 ∙ ap Inner (sym l.0))) (cancels e n.0 n.1.3)

  left_come : (k : ℕ) → has_left k L ≡ true → HasCome tale k
  left_come k e =
      let f = any_found (λ (y : Event). is_cancel k y.what) (by_stream (Inner k) L) e in
      let i = by_in (Inner k) L f.0 f.1 in
      h.streams.come k (began f.0 k i.0 i.1)

  -- Where the Closes of the roots stand.

  -- a stream whose tree came back closed its root
  back_closed : (k : ℕ) (y : Seen V) → IsAmong y h.progress.back → y.seat.by ≡ Inner k → NotesClose L (Inner k) 0
  back_closed k y m by =
      let r = s.told.back y m in
      let same : r.0 ≡ k = inner_number r.0 k (sym r.1 ∙ by) in
      let g = begun_at view told P p d0 now outer b left receiver tale h k (subst (λ j. tales.IsBegun tale j) same ((h.streams.begun r.0).1 r.2)) in
      (share view told P says p limits d0 now outer b left receiver tale h L s k g.0 g.1 g.2 g.3).closed

  pub obeyed_behind : (k : StreamNo) (w : Stop) → IsAmong (k, w) tale.obeyed → ClosesBehind L k w.at
  obeyed_behind k w m = closes_as p.max_open (stream_limit p) b h.progress L s (λ n. w.at ≤ n) k (h.places.obeyed k w m)

  pub within_so : (at : ℕ) (k : StreamNo) → ClosedAs b h.progress (λ n. n < at) k → ClosedWithin L k at
  within_so at k c = closed_within p.max_open (stream_limit p) b h.progress L s back_closed at k c

  -- How many streams there are.

  abbrev n' : ℕ
  n' = count view told P p limits d0 now outer b left receiver tale h

  abbrev pub lines' : List (List ℕ)
  lines' = lines_of h.moves

  -- those that were dealt with were leased for
  pub dealt_leased : length h.parts ≡ h.progress.leased
  dealt_leased = sym h.next ∙ subst (λ ws. Follow h.progress.next ws h.progress.leased) h.waits h.main.order

  pub streams_count : length (streams_of p lines') ≡ n'
  streams_count = length-map (specs_of p lines') stream_of ∙ no_lines p lines' (without view told P p limits d0 now outer b left receiver tale h)

  abbrev pub more : ℕ
  more = n' - length h.parts

  abbrev pub long : Tale
  long = longer tale more

  all_fates : length long.fates ≡ n'
  all_fates =
      let f = ap (λ (l : List tales.Fate). length l) h.fates_are in
      let m = length-map h.parts fate_of in
      let d = dealt_leased in
      let few = leased_below view told P p limits d0 now outer b left receiver tale h in
      let g = longer_count tale more in
      omega (arith, f, m, d, few, g)

  module _ (last : DepotTold) (c : RunRecord) (r : IsRunOf p n' outer tale L d0 last c) where
    ended_at : (k : ℕ) → k < n' → Ended long k (how_of r.report k)
    ended_at k l =
        let few = count_few view told P p limits d0 now outer b left receiver tale h in
        reports_ends p.take (stream_limit p) long r.report (longer_report p.take (stream_limit p) tale r.report more r.report_is) (λ j i. h.streams.come j (begun_before tale more j i)) k (omega (arith, l, few)) (let f = all_fates in omega (arith, l, f))

    -- the ends of the streams
    abbrev hows : List How
    hows = take n' r.report.streams.hows

    told_end : (e : EndOf) → IsAmong e c.ends → EndedSo long e.who e.how
    told_end e m =
        let z = zipped c.ends (Outer ∷ names_below n') (outer ∷ hows) r.names r.hows e m in
        ⊎_elim
        (λ o.
        let is : at (outer ∷ hows) 0 ≡ Some e.how = subst (λ i. at (outer ∷ hows) i ≡ Some e.how) o.0 z.2 in
        subst (λ w. EndedSo long w e.how) (sym o.1) (h.outer_is ∙ is))
        (λ i.
        let is : at hows i.0 ≡ Some e.how = subst (λ q. at (outer ∷ hows) q ≡ Some e.how) i.1 z.2 in
        subst (λ w. EndedSo long w e.how) (sym i.2) (subst (λ q. Ended long i.0 q) (index_at r.report.streams.hows i.0 e.how (at_taken n' r.report.streams.hows i.0 e.how is)) (ended_at i.0 i.3)))
        (outer_name n' z.0 e.who z.1)

    pub recorded : IsRecordOf (bare (Some (opener_of p lines')) (streams_of p lines')) long c
    recorded = record {
      frames = r.frames;
      cut = r.cut;
      memory = r.memory;
      opener = refl;
      named = r.names ∙ ap (λ l. Outer ∷ l) (ap names_below (sym streams_count) ∙ names_agree (streams_of p lines'));
      told = told_end;
      count = let f = all_fates in let m = streams_count in omega (arith, f, m);
      begun = λ e k m by. begun_still tale more k (began e k (subst (λ E. IsAmong e E) r.events m) by);
      left = λ j e. left_come j (subst (λ E. has_left j E ≡ true) r.events e);
      leaves = λ j d. subst (λ E. has_left j E ≡ true) (sym r.events) (left_so j d);
      turns = λ k t. ⊎_elim (λ m. inl (begun_still tale more k ((h.streams.begun k).1 m))) (λ w. inr (h.turns.pulled k w)) (s.turns k (subst (λ E. HadTurn E k) r.events t));
      room = λ k i l w. h.turns.room k i l (s.stood k i l (subst (λ E. WasIn E k i) r.events w));
      stamped = subst (λ E. IsStamped E) (sym r.events) s.ledger.stamped;
      behind = λ k w m. subst (λ E. ClosesBehind E k w.at) (sym r.events) (obeyed_behind k w m);
      failed = λ context w m is. let f = h.places.failed context w m is in (f.0, failed_still tale more f.0 f.1, subst (λ E. ClosedWithin E f.0 w.at) (sym r.events) (within_so w.at f.0 f.2));
      ended = λ context w m is. let f = h.places.ended context w m is in (f.0, f.1, f.2, ap (λ (z : Bounds). z.until f.0) (bounds_are p lines') ∙ f.3, subst (λ E. ClosedWithin E (Inner f.1) w.at) (sym r.events) (within_so w.at (Inner f.1) f.4));
    }
