-- What was printed of streams that ran side by side.
use Rattle.std.proofs.Common.{◌≡◌, ℕ, suc, ◌+◌, ◌<◌, true, false, cond, if◌then◌else◌, nat_eq, filter, List, [], ◌∷◌, ◌++◌, inl, inr, map, flat_map, drop, length, Option, Some, None, refl, sym, ◌∙◌, ap, subst, ⊎_elim, arith, append-nil, append_assoc}
use Rattle.chunk_core.specs.Elements.{Element, rendering_of}
use Rattle.chunk_core.specs.Lists.{IsAmong}
use Rattle.chunk_core.specs.Lists.IsAmong.{here, there}
use Rattle.chunk_core.specs.Outcomes.{Cut, Outcomes}
use Rattle.chunk_core.specs.Tables.{Values}
use Rattle.chunk_core.specs.Texts.{Frame, IsRestOf, payloads_of}
use Rattle.chunk_core.specs.declared.code.How.{How}
use Rattle.chunk_core.specs.declared.code.How.TheVariants as how
use Rattle.res_ledger.specs.declared.event.StreamNo.TheVariants.{Inner, Outer}
use Rattle.device_port.specs.Device.{DeviceTold}
use Rattle.run_rules.specs.declared.end.EndOf.{EndOf}
use Rattle.run_rules.specs.Ends.{IsSilenced}
use Rattle.run_rules.specs.Facts.{at}
use Rattle.run_rules.specs.Memory.{IsWanting, LostPiece}
use Rattle.run_rules.specs.Outputs.{AreOutputs, HaveOutputs, StartsRunOf, IsOutput, IsReported, IsRest, elements_in_pieces, payloads_by}
use Rattle.run_rules.specs.Work.{Opener, RunRecord, Stream, Work, names_from, first_row_of}
use Rattle.join_tale.specs.Bounds.{Bounds, bounds_of}
use Rattle.join_tale.specs.Ended.{Ended}
use Rattle.join_tale.specs.Keeping.{LacksForLoad}
use Rattle.join_tale.specs.Laws.{OutputsFollow}
use Rattle.join_tale.specs.Records.{EndedSo, Follows, bare}
use Rattle.join_tale.specs.Tales.{Body, Came, IsBegun, Message, frames_in, frames_of, load_of, loads_in, loads_of}
use Rattle.join_tale.specs.Tales.Body.{End, Load}
use Rattle.join_tale.proofs.Endings.{come_begun, outputs_follow}
use Rattle.join_tale.proofs.Parts.{loads_first}
use Rattle.join_tale.proofs.Stopping.{record_follows, wants_for}
use Rattle.plan_work.specs.Joined.{joined}
use Rattle.joined_runs.specs.Together.{HasNotRun, HasRun, RunsTogether}
use Rattle.joined_runs.proofs.Covered.{AreCovered}
use Rattle.joined_runs.proofs.MadeRows.{at_below, at_some}
use Rattle.joined_runs.proofs.Parted.{elements_both, loads_none, map_parts, rendered}

one_more : (k : ℕ) (ms : List Message) → payloads_by k (frames_of ms) ≡ loads_of k ms → (n : ℕ) (b : Body) → payloads_by k (frames_in (record { stream = n; body = b }) ++ frames_of ms) ≡ loads_in k (record { stream = n; body = b }) ++ loads_of k ms
one_more k ms rest n (Load x) =
    elim (nat_eq n k) as (λ t. map (λ (f : Frame). f.payload) (cond t (record { stream = n; payload = x } ∷ filter (λ f. nat_eq f.stream k) (frames_of ms)) (filter (λ f. nat_eq f.stream k) (frames_of ms))) ≡ (if t then x ∷ [] else []) ++ loads_of k ms) [
      | true ↦ ap (λ xs. x ∷ xs) rest
      | false ↦ rest
    ]
one_more k ms rest n (End h) = elim (nat_eq n k) as (λ t. payloads_by k (frames_of ms) ≡ (if t then [] else []) ++ loads_of k ms) [ true ↦ rest | false ↦ rest ]

-- the payloads of the frames of stream k are its loads
frames_loads : (k : ℕ) (ms : List Message) → payloads_by k (frames_of ms) ≡ loads_of k ms
frames_loads k [] = refl
frames_loads k (m ∷ ms) = one_more k ms (frames_loads k ms) m.stream m.body

-- the loads one after another
abbrev together : List (List ℕ) → List ℕ
together loads = flat_map (λ x. x) loads

module _ (work : Work) (v : Values) (w : ℕ → DeviceTold) (F : List Frame) where
  -- the outputs of streams by their ends, of which these are the names
  pub outputs_from : (j : ℕ) (ss : List Stream) (es : List EndOf) → map (λ e. e.who) es ≡ names_from j ss
      → ((k i : ℕ) (s : Stream) (e : EndOf) → k ≡ j + i → at ss i ≡ Some s → IsAmong e es → e.who ≡ Inner k → IsOutput work v w F k e.how) → AreOutputs work v w F j ss es
  outputs_from j [] [] n h = refl
  outputs_from j [] (e ∷ es) n h = cc
  outputs_from j (s ∷ ss) [] n h = cc
  outputs_from j (s ∷ ss) (e ∷ es) n h =
      let who : e.who ≡ Inner j = cc in
      let rest : map (λ (x : EndOf). x.who) es ≡ names_from (suc j) ss = cc in
      let next : suc j ≡ j + 1 = omega arith in (
        h j 0 s e (omega arith) refl (here es) who,
        outputs_from (j + 1) ss es (subst (λ q. map (λ (x : EndOf). x.who) es ≡ names_from q ss) next rest) (λ k i t x is stands m by. h k (suc i) t x (omega (arith, is)) stands (there e m) by),
      )

module _ (opener : Opener) (ss : List Stream) (runs ideal : ℕ → Values → (ℕ → DeviceTold) → Outcomes) (listing ideal_listing : DeviceTold → Outcomes) (c : RunRecord) (r : RunsTogether opener ss runs listing c) where
  abbrev pub work : Work
  work = joined opener ss runs ideal listing ideal_listing

  -- the work, of which it isn't said what its streams give
  abbrev pub plain_work : Work
  plain_work = bare (Some opener) ss

  -- what its tale goes by
  abbrev pub bounds : Bounds
  bounds = bounds_of opener ss

  pub outputs_law : OutputsFollow bounds
  outputs_law = outputs_follow bounds

  pub follows : Follows plain_work c
  follows = record_follows opener ss r.tale c r.is_tale r.recorded r.settled

  -- stream k was begun, or it was not
  abbrev pub Ran : ℕ → Stream → Type 0
  Ran k s = HasRun (runs k r.values r.home) r.home r.tale c.events k (first_row_of (bare (Some opener) ss) k) s

  abbrev pub NotRan : ℕ → Stream → Type 0
  NotRan k s = HasNotRun r.home r.tale k (first_row_of (bare (Some opener) ss) k) s

  -- a stream that was begun is one of the streams
  pub begun_below : (k : ℕ) → IsBegun r.tale k → k < length ss
  begun_below k b = let l = at_below r.tale.fates k _ b in let n = r.recorded.count in omega (arith, l, n)

  -- of a stream that wasn't begun no end came
  pub never_came : (k : ℕ) (s : Stream) → NotRan k s → (h : How) → Came r.tale k h → ⊥
  never_came k s u h m = u.unbegun (come_begun bounds r.tale k r.is_tale h m)

  -- so it was left
  pub left_undone : (k : ℕ) (s : Stream) → NotRan k s → (h : How) → Ended r.tale k h → IsReported Cut h
  left_undone k s u h e = ⊎_elim (λ w. absurd (never_came k s u h w.0)) (λ x. x) (outputs_law.ended r.tale k h r.is_tale e)

  -- a stream whose end came ended so
  pub ended_as : (k : ℕ) (s : Stream) (x : Ran k s) (h : How) → Came r.tale k h → x.how ≡ h
  ended_as k s x h m = r.is_tale.ends.once k x.how h x.came m

  printed_loads : (k : ℕ) → payloads_of k c.frames ≡ together (loads_of k r.tale.front)
  printed_loads k = ap (payloads_of k) r.recorded.frames ∙ outputs_law.payloads k r.tale.front

  -- the frames of stream k are its loads that came while frames were written
  framed : (k : ℕ) → payloads_by k c.frames ≡ loads_of k r.tale.front
  framed k = ap (payloads_by k) r.recorded.frames ∙ frames_loads k r.tale.front

  -- where no load came too late, all pieces were
  all_came : (k : ℕ) (s : Stream) (x : Ran k s) → loads_of k r.tale.late ≡ [] → loads_of k r.tale.front ≡ map rendering_of x.pieces
  all_came k s x none = sym (append-nil (loads_of k r.tale.front)) ∙ (ap (λ l. loads_of k r.tale.front ++ l) (sym none) ∙ x.received)

  -- where no load came too late, all pieces were printed
  pub whole_printed : (k : ℕ) (s : Stream) (x : Ran k s) → loads_of k r.tale.late ≡ [] → payloads_of k c.frames ≡ rendering_of (elements_in_pieces x.pieces)
  whole_printed k s x none = printed_loads k ∙ (ap together (all_came k s x none) ∙ rendered x.pieces)

  -- a front of the pieces is one of the run
  module _ (covers : AreCovered opener ss runs ideal r.values r.home) where
    front_run : (k : ℕ) (s : Stream) → (x : Ran k s) (ps qs : List (List Element)) → x.pieces ≡ ps ++ qs → StartsRunOf (runs k r.values r.home) (elements_in_pieces ps)
    front_run k s x ps qs e = (elements_in_pieces qs, x.end, subst (λ l. runs k r.values r.home l x.end) (ap elements_in_pieces e ∙ elements_both ps qs) x.run)

    ran_output : (k : ℕ) (s : Stream) → Ran k s → (h : How) → Ended r.tale k h → IsOutput work r.values r.home c.frames k h
    ran_output k s x h e =
        ⊎_elim
        (λ w. record { pieces = x.pieces; end = x.end; run = inl x.run; printed = framed k ∙ all_came k s x w.1; reported = subst (λ z. IsReported x.end z) (ended_as k s x h w.0) x.reported })
        (λ cut.
        let p = map_parts rendering_of x.pieces (loads_of k r.tale.front) (loads_of k r.tale.late) (sym x.received) in
        record { pieces = p.0; end = Cut; run = inr (refl, front_run k s x p.0 p.1 p.2); printed = framed k ∙ sym p.3; reported = cut })
        (outputs_law.ended r.tale k h r.is_tale e)

    unbegun_output : (k : ℕ) (s : Stream) → at ss k ≡ Some s → NotRan k s → (h : How) → Ended r.tale k h → IsOutput work r.values r.home c.frames k h
    unbegun_output k s is u h e = record {
      pieces = [];
      end = Cut;
      run = inl ((covers k s is).idle u.untouched);
      printed = framed k ∙ loads_none k r.tale.front (λ m i q. u.unbegun (subst (λ j. IsBegun r.tale j) q (r.is_tale.frames.ours m (inl i)).0));
      reported = left_undone k s u h e;
    }

    output_of : (k : ℕ) (s : Stream) → at ss k ≡ Some s → (h : How) → Ended r.tale k h → IsOutput work r.values r.home c.frames k h
    output_of k s is h e = ⊎_elim (λ x. ran_output k s x h e) (λ u. unbegun_output k s is u h e) (r.each k s is)

    -- the frame whose write failed goes on with a run of its stream
    rest_of : (o : Option Frame) → c.cut ≡ o → IsRestOf o c.rest → IsRest work r.values r.home c.frames o c.rest
    rest_of None e h = h
    rest_of (Some f) e h =
        let q = outputs_law.cut r.tale f r.is_tale (sym r.recorded.cut ∙ e) in
        let l = begun_below f.stream q.0 in
        let s = at_some ss f.stream l in
        let front = loads_of f.stream r.tale.front in
        ⊎_elim
        (λ x.
        let loads : map rendering_of x.pieces ≡ (front ++ f.payload ∷ []) ++ q.2.0 = sym x.received ∙ (ap (λ l. front ++ l) q.2.1 ∙ sym (append_assoc front (f.payload ∷ []) q.2.0)) in
        let p = map_parts rendering_of x.pieces (front ++ f.payload ∷ []) q.2.0 loads in
        record {
          stream = l;
          some = q.1;
          more = h.0;
          front = h.1;
          text = h.2;
          pieces = p.0;
          run = front_run f.stream s.0 x p.0 p.1 p.2;
          goes_on = ap (λ l. l ++ f.payload ∷ []) (framed f.stream) ∙ sym p.3;
        })
        (λ u. absurd (u.unbegun q.0))
        (r.each f.stream s.0 s.1)

    outputs_by : (es : List EndOf) → c.ends ≡ es → map (λ e. e.who) es ≡ Outer ∷ names_from 0 ss → AreOutputs work r.values r.home c.frames 0 ss (drop 1 es)
    outputs_by [] is names = cc
    outputs_by (e ∷ es) is names =
        let rest : map (λ (x : EndOf). x.who) es ≡ names_from 0 ss = cc in
        outputs_from work r.values r.home c.frames 0 ss es rest (λ k i s x same stands m who.
        let number : i ≡ k = omega (arith, same) in
        output_of k s (subst (λ n. at ss n ≡ Some s) number stands) x.how (subst (λ q. EndedSo r.tale q x.how) who (r.recorded.told x (subst (λ l. IsAmong x l) (sym is) (there e m)))))

    pub stream_outputs : HaveOutputs work c r.values r.home
    stream_outputs = record { numbers = follows.numbers; few = follows.few; in_turn = follows.in_turn; outputs = outputs_by c.ends refl r.recorded.named; rest = rest_of c.cut refl r.rest }

    -- a load of stream k that memory was wanting for goes on with a run of it
    lost_piece : (e : EndOf) → e.how ≡ how.Halted → ¬ (IsSilenced plain_work c) → (k : ℕ) → e.who ≡ Inner k → LacksForLoad bounds r.tale k → LostPiece work c r.values r.home e
    lost_piece e halted printing k who l =
        let b = r.is_tale.frames.ours (load_of k l.load) (inr (subst (λ ms. IsAmong (load_of k l.load) ms) (sym l.late) (here l.others))) in
        let s = at_some ss k (begun_below k b.0) in
        let front = loads_of k r.tale.front in
        let rest = loads_of k l.others in
        ⊎_elim
        (λ x.
        let late : loads_of k r.tale.late ≡ l.load ∷ rest = ap (loads_of k) l.late ∙ loads_first k l.load l.others in
        let loads : map rendering_of x.pieces ≡ (front ++ l.load ∷ []) ++ rest = sym x.received ∙ (ap (λ y. front ++ y) late ∙ sym (append_assoc front (l.load ∷ []) rest)) in
        let p = map_parts rendering_of x.pieces (front ++ l.load ∷ []) rest loads in
        record {
          halted = halted;
          printing = printing;
          stream = k;
          who = who;
          payload = l.load;
          some = b.1;
          pieces = p.0;
          run = front_run k s.0 x p.0 p.1 p.2;
          goes_on = ap (λ y. y ++ l.load ∷ []) (framed k) ∙ sym p.3;
        })
        (λ u. absurd (u.unbegun b.0))
        (r.each k s.0 s.1)

    pub stream_wants : c.memory ≡ true → IsWanting work c r.values r.home
    stream_wants m =
        let h = wants_for opener ss r.tale c r.is_tale r.recorded m in
        (h.0, h.1, ⊎_elim (λ z. inl z) (λ z. inr (lost_piece h.0 z.0 z.1 z.2.0 z.2.1 z.2.2)) h.2)
