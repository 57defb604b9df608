-- Each call with one thing wrong is refused.
use Rattle.std.proofs.Common.{◌≡◌, ◌≢◌, ◌<◌, ◌≤◌, ℕ, ◌+◌, Bool, true, false, not, if◌then◌else◌, List, [], ◌∷◌, ◌++◌, map, take, length, filter, flat_map, nat_eq, cond, Option, Some, None, IfSome, is_some, refl, sym, ap, ◌∙◌, subst, inl, inr, arith, ⊎_elim, append-nil, length-append}
use Rattle.std.specs.Prelude.{codes, decimal}
use Rattle.std.specs.Fmt.{digits}
use Rattle.std.specs.List.{list_any as any}
use Rattle.std.proofs.lemmas.Bool.{false≢true}
use Rattle.std.proofs.lemmas.Grind.{flat_map-append}
use Rattle.std.proofs.lemmas.List.{take_all}
use Rattle.std.proofs.lemmas.List.Sorted.{length_permutation}
use Rattle.chunk_core.specs.Texts.{Frame, frame_text, frames_text, payloads_of}
use Rattle.chunk_core.specs.Lists.{IsAmong}
use Rattle.chunk_core.specs.Elements.{Element, Byte, element_text, rendering_of}
use Rattle.chunk_core.specs.Outcomes.{End, Done, Fault, Cut, Outcomes, exit_of}
use Rattle.chunk_core.specs.declared.code.Exit.TheVariants.{Succeeded, Errored, Canceled}
use Rattle.chunk_core.specs.declared.code.How.{How}
use Rattle.chunk_core.specs.declared.code.How.TheVariants as how
use Rattle.device_port.specs.Device.{DeviceTold}
use Rattle.pull_nodes.specs.Runs.{FirstBytes, OrLeft, Reads}
use Rattle.run_rules.specs.Ends.{HasCauseToHalt}
use Rattle.run_rules.specs.Exits.{HasOneExit, IsExitHidden}
use Rattle.run_rules.specs.Facts.{IsFailure, is_fault}
use Rattle.run_rules.specs.Homes.{IsUntouched}
use Rattle.run_rules.specs.Outputs.{IsReported, IsRest, RunsOrLeft, elements_in_pieces, payloads_by}
use Rattle.run_rules.specs.Run.{IsUnmade, Ran}
use Rattle.run_rules.specs.Work.{RunRecord, Values}
use Rattle.res_ledger.specs.declared.event.StreamNo.TheVariants.{Inner}
use Rattle.res_ledger.proofs.Judged.{legal_found, complete_found}
use Rattle.res_ledger.proofs.Ordering.{ordered_complete}
use Rattle.run_rules.specs.declared.end.EndOf.{EndOf}
use Rattle.device_port.specs.Sink.{SinkTold, BreaksOff}
use Rattle.run_rules.specs.Texts.{tail_text}
use Rattle.pipeline_desc.specs.declared.refusal.Refusal.{Refusal}
use Rattle.flume_cli.specs.declared.status.Status.{Status}
use Rattle.flume_cli.specs.declared.status.Status.TheVariants as status
use Rattle.flume_cli.specs.Status.{Causes, status_done, status_of, status_number, line_of}
use Rattle.cat_run.specs.Cat.{cat_work, FileRuns}
use Rattle.flume_cli.specs.Headline.{Call, run_of_call, RunsStreams, SaysTail, TellsWork}
use Rattle.headline_laws.specs.Calls.{a}
use Rattle.headline_laws.proofs.Asked.{work_of}
use Rattle.headline_laws.specs.Refused.{end_never_met, failed_read_forgotten, invented_output, cut_output, row_of_no_plan, event_of_no_stream, lease_of_no_stream, kept_device, failure_not_told, halted_without_a_cause, call_with_row_without_a_final, call_with_final_before_close, closed_twice, left_open, fault_without_a_fault, failed_close_not_told, done_told_as_errored, fault_told_as_succeeded, halt_told_as_succeeded, final_unlike_its_close, device_told_otherwise, silent_call}
use Rattle.chunk_core.proofs.Members.{among_cons, among_nil}
use Rattle.chunk_core.proofs.Bools.{any_at}

-- the test of a choice that came out otherwise
pub peel : (b : Bool) (x y s : Status) → (x ≡ s → ⊥) → s ≡ (if b then x else y) → (b ≡ false) × (s ≡ y)
peel true x y s n e = absurd (n (sym e))
peel false x y s n e = (refl, e)

-- statuses of two numbers
pub differ : (s t : Status) → status_number s ≢ status_number t → s ≡ t → ⊥
differ s t n e = n (ap status_number e)

-- what status 0 tells of its causes
pub record Good (k : Causes) : Type 0 where
  pub words : k.words ≡ true
  pub refused : k.refused ≡ None
  pub unwritten : k.unwritten ≡ false
  pub memory : k.memory ≡ false
  pub faulty : k.faulty ≡ false

-- no refusal was told, so what was done decides
pub status_if_taken : (s : Status) → status_number s ≢ 3 → (k : Causes) (refused : Option Refusal) → s ≡ elim refused [ Some refusal ↦ status.Refused refusal | None ↦ status_done k ] → (refused ≡ None) × (s ≡ status_done k)
status_if_taken s n k (Some refusal) e = absurd (n (ap status_number e))
status_if_taken s n k None e = (refl, e)

not_not : (b : Bool) → not b ≡ false → b ≡ true
not_not true h = refl
not_not false h = absurd (false≢true (sym h))

pub good : (k : Causes) → status.Good ≡ status_of k → Good k
good k e =
    let w = peel k.early _ _ status.Good (differ _ _ (omega arith)) e in
    let p = peel (not k.words) _ _ status.Good (differ _ _ (omega arith)) w.1 in
    let o = peel k.unread _ _ status.Good (differ _ _ (omega arith)) p.1 in
    let d = status_if_taken status.Good (omega arith) k k.refused o.1 in
    let q = peel k.unwritten _ _ status.Good (differ _ _ (omega arith)) d.1 in
    let r = peel k.memory _ _ status.Good (differ _ _ (omega arith)) q.1 in
    let t = peel k.faulty _ _ status.Good (differ _ _ (omega arith)) r.1 in
    record { words = not_not k.words p.0; refused = d.0; unwritten = q.0; memory = r.0; faulty = t.0 }

-- the stream ran, where there are ends
pub ran_with_ends : (c : Call) (k : Causes) (t : TellsWork (cat_work a) c k) → c.ends ≢ [] → Ran (cat_work a) (run_of_call c t.frames t.cut t.rest t.wanted)
ran_with_ends c k t some = ⊎_elim (λ (u : IsUnmade (run_of_call c t.frames t.cut t.rest t.wanted)). absurd (some u.ends)) (λ r. r) t.performs.ran

pub an_end : (e : EndOf) (es : List EndOf) → (e ∷ es) ≢ []
an_end e es q = cc

-- no write of a frame failed and memory wasn't wanting in the work, and all of the tail was said
pub record Went (broke wanted : Bool) (said tail : List ℕ) : Type 0 where
  pub broke_is : broke ≡ false
  pub wanted_is : wanted ≡ false
  pub said_is : said ≡ tail

-- so it is at status 0
pub went : (k : Causes) → Good k → (said tail : List ℕ) (broke wanted : Bool) → SaysTail k said tail status.Good broke wanted → Went broke wanted said tail
went k g said tail true wanted h = absurd (false≢true (sym g.unwritten ∙ h.0))
went k g said tail false true h = absurd (false≢true (sym g.memory ∙ h.1))
went k g said tail false false h = record { broke_is = refl; wanted_is = refl; said_is = h }

none_some : {A : Type 0} {x : A} → None ≢ Some x
none_some e = cc

not_there : {A : Type 0} (o : Option A) → is_some o ≡ false → o ≡ None
not_there None h = refl
not_there (Some x) h = absurd (false≢true (sym h))

-- no end is a failure, where a test says so
none_failed : (es : List EndOf) → any (λ e. is_fault e.how) es ≡ false → (e : EndOf) → IsAmong e es → IsFailure e.how → ⊥
none_failed es h e m f = false≢true (sym h ∙ any_at (λ (x : EndOf). is_fault x.how) e es m (ap is_fault f.1))

-- a stream of cat that didn't fail has no cause to halt, where no write of a frame failed and memory wasn't wanting
pub no_cause : (c : RunRecord) → is_some c.cut ≡ false → c.memory ≡ false → any (λ e. is_fault e.how) c.ends ≡ false → HasCauseToHalt (cat_work a) c (Inner 0) → ⊥
no_cause c whole there f (inl x) = ⊎_elim (λ n. n (not_there c.cut whole)) (λ e. none_some e) x.0
no_cause c whole there f (inr (inl x)) = false≢true (sym there ∙ x)
no_cause c whole there f (inr (inr (inl x))) = none_failed c.ends f x.0 x.1 x.2
no_cause c whole there f (inr (inr (inr x))) = none_some x.1

abbrev number : How → ℕ
number how.Done = 0
number how.Halted = 1
number (how.Fault c) = 2
number how.Memory = 3

abbrev place : End → ℕ
place Done = 0
place (Fault c) = 1
place Cut = 2

-- an end that is reported as done is Done
done : (e : End) → IsReported e how.Done → e ≡ Done
done Done r = refl
done (Fault c) r = let h = ap number r in absurd (omega (arith, h))
done Cut (inl r) = let h = ap number r in absurd (omega (arith, h))
done Cut (inr r) = let h = ap number r in absurd (omega (arith, h))

-- what is done was not left
ended_run : (A : Outcomes) (ys : List Element) (e : End) → e ≡ Done → RunsOrLeft A ys e → A ys e
ended_run A ys e q (inl x) = x
ended_run A ys e q (inr x) = let h = ap place (sym q ∙ x.0) in absurd (omega (arith, h))

-- a run that is done opened its device
opened : (d : DeviceTold) (ys : List Element) (e : End) → e ≡ Done → FileRuns d ys e → d.opens ≡ 1
opened d ys e q (inl (inl x), t) = x.0
opened d ys e q (inl (inr x), t) = let h = ap place (sym q ∙ x.3) in absurd (omega (arith, h))
opened d ys e q (inr x, t) = let h = ap place (sym q ∙ x.0) in absurd (omega (arith, h))

pub invented_output_refused : ¬ (RunsStreams invented_output)
invented_output_refused h =
    let g = good h.causes h.status.status in
    let r = ran_with_ends invented_output h.causes (work_of invented_output h refl (an_end _ [])) (an_end _ []) in
    let o = opened (r.home 0) (elements_in_pieces r.outputs.outputs.0.pieces) r.outputs.outputs.0.end (done r.outputs.outputs.0.end r.outputs.outputs.0.reported) (ended_run (FileRuns (r.home 0)) (elements_in_pieces r.outputs.outputs.0.pieces) r.outputs.outputs.0.end (done r.outputs.outputs.0.end r.outputs.outputs.0.reported) r.outputs.outputs.0.run) in
    ⊎_elim among_nil (λ (x : IsUntouched (r.home 0)). let z = x.opens in omega (arith, o, z)) r.rows.at_home.2

pub row_of_no_plan_refused : ¬ (RunsStreams row_of_no_plan)
row_of_no_plan_refused h = let l = (work_of row_of_no_plan h refl (an_end _ [])).performs.devices.rows.1.0 in omega (arith, l)

pub event_of_no_stream_refused : ¬ (RunsStreams event_of_no_stream)
event_of_no_stream_refused h = let o = (work_of event_of_no_stream h refl (an_end _ [])).performs.ledger.ours.1.1.1.0 in ⊎_elim (λ (e : Inner 5 ≡ Inner 0). let x : ⊥ = cc in x) among_nil (among_cons o.by)

pub lease_of_no_stream_refused : ¬ (RunsStreams lease_of_no_stream)
lease_of_no_stream_refused h = let l = ((work_of lease_of_no_stream h refl (an_end _ [])).performs.ledger.ours.0.leases 3 0 refl).1 in omega (arith, l)

pub kept_device_refused : ¬ (RunsStreams kept_device)
kept_device_refused h = let e = length_permutation _ _ (work_of kept_device h refl (an_end _ [])).performs.devices.once in omega (arith, e)

pub failure_not_told_refused : ¬ (RunsStreams failure_not_told)
failure_not_told_refused h = let g = good h.causes h.status.status in false≢true (sym g.unwritten ∙ h.status.unwritten)

pub halted_without_a_cause_refused : ¬ (RunsStreams halted_without_a_cause)
halted_without_a_cause_refused h =
    let g = good h.causes h.status.status in
    let t = work_of halted_without_a_cause h refl (an_end _ []) in
    let w = went h.causes g t.text.said _ (is_some t.cut) t.wanted t.text.tail in
    let r = ran_with_ends halted_without_a_cause h.causes t (an_end _ []) in
    no_cause (run_of_call halted_without_a_cause t.frames t.cut t.rest t.wanted) w.broke_is w.wanted_is refl (r.ends.caused.0.halted refl)

-- the payloads stand in the text of their frames
holds : (k : ℕ) (p : List ℕ) → length p ≤ length (frame_text k p)
holds k p =
    let x = length-append (decimal k) (32 ∷ [] ++ (decimal (length p) ++ (10 ∷ [] ++ (p ++ 10 ∷ [])))) in
    let y = length-append (decimal (length p)) (10 ∷ [] ++ (p ++ 10 ∷ [])) in
    let z = length-append p (10 ∷ []) in
    omega (arith, x, y, z)

within_by : (k : ℕ) (f : Frame) (fs : List Frame) (b : Bool) → length (payloads_of k fs) ≤ length (frames_text fs)
    → length (flat_map (λ (g : Frame). g.payload) (cond b (f ∷ filter (λ (g : Frame). nat_eq g.stream k) fs) (filter (λ (g : Frame). nat_eq g.stream k) fs))) ≤ length (frame_text f.stream f.payload ++ frames_text fs)
within_by k f fs true h = omega (arith, h, holds f.stream f.payload, length-append f.payload (payloads_of k fs), length-append (frame_text f.stream f.payload) (frames_text fs))
within_by k f fs false h = omega (arith, h, length-append (frame_text f.stream f.payload) (frames_text fs))

within : (k : ℕ) (F : List Frame) → length (payloads_of k F) ≤ length (frames_text F)
within k [] = omega arith
within k (f ∷ fs) = within_by k f fs (nat_eq f.stream k) (within k fs)

-- What was printed of a stream, from its pieces.

pieces_rendered : (pieces : List (List Element)) → flat_map (λ p. p) (map rendering_of pieces) ≡ rendering_of (elements_in_pieces pieces)
pieces_rendered [] = refl
pieces_rendered (p ∷ pieces) = ap (λ b. rendering_of p ++ b) (pieces_rendered pieces) ∙ sym (flat_map-append element_text p (elements_in_pieces pieces))

payloads_joined : (F : List Frame) → flat_map (λ (f : Frame). f.payload) F ≡ flat_map (λ p. p) (map (λ (f : Frame). f.payload) F)
payloads_joined [] = refl
payloads_joined (f ∷ F) = ap (λ b. f.payload ++ b) (payloads_joined F)

pub printed_as : (k : ℕ) (F : List Frame) (pieces : List (List Element)) → payloads_by k F ≡ map rendering_of pieces → payloads_of k F ≡ rendering_of (elements_in_pieces pieces)
printed_as k F pieces e = payloads_joined (filter (λ (f : Frame). nat_eq f.stream k) F) ∙ (ap (λ ps. flat_map (λ p. p) ps) e ∙ pieces_rendered pieces)

-- and with a payload that was to be printed next
pub goes_on_as : (k : ℕ) (F : List Frame) (payload : List ℕ) (pieces : List (List Element)) → payloads_by k F ++ payload ∷ [] ≡ map rendering_of pieces → payloads_of k F ++ payload ≡ rendering_of (elements_in_pieces pieces)
goes_on_as k F payload pieces e =
    ap (λ b. b ++ payload) (payloads_joined (filter (λ (f : Frame). nat_eq f.stream k) F))
    ∙ (sym (flat_map-append (λ (p : List ℕ). p) (payloads_by k F) (payload ∷ []) ∙ ap (λ b. flat_map (λ p. p) (payloads_by k F) ++ b) (append-nil payload)) ∙ (ap (λ ps. flat_map (λ p. p) ps) e ∙ pieces_rendered pieces))

-- a content that was read to its end
read_whole : (c : List ℕ) (d : DeviceTold) → d.content ≡ Some c → (ys : List Element) (e : End) → e ≡ Done → Reads d ys e → ys ≡ map Byte c
read_whole c d is ys e q r =
    let done = subst (λ (g : End). Reads d ys g) q r in
    let given : ys ≡ map Byte (take d.at c) = subst (λ o. FirstBytes o d.at ys) is done.0 in
    let at : d.at ≡ length c = subst (λ o. IfSome o (λ b. d.at ≡ length b)) is done.1.3 in
    given ∙ ap (λ xs. map Byte xs) (take_all d.at c (omega (arith, at)))

read_left : (c : List ℕ) (d : DeviceTold) → d.content ≡ Some c → (ys : List Element) (e : End) → e ≡ Done → OrLeft (Unit {0}) (Reads d) ys e → ys ≡ map Byte c
read_left c d is ys e q (inl x) = read_whole c d is ys e q x
read_left c d is ys e q (inr x) = let h = ap place (sym q ∙ x.0) in absurd (omega (arith, h))

given_whole : (c : List ℕ) (d : DeviceTold) → d.content ≡ Some c → (ys : List Element) (e : End) → e ≡ Done → FileRuns d ys e → ys ≡ map Byte c
given_whole c d is ys e q (inl (inl x), t) = read_left c d is ys e q x.2
given_whole c d is ys e q (inl (inr x), t) = let h = ap place (sym q ∙ x.3) in absurd (omega (arith, h))
given_whole c d is ys e q (inr x, t) = let h = ap place (sym q ∙ x.0) in absurd (omega (arith, h))

abbrev pub bytes_of : Option (List ℕ) → List ℕ
bytes_of None = []
bytes_of (Some b) = b

too_short : (text frames rest said tail : List ℕ) → text ≡ frames ++ (rest ++ said) → rest ≡ [] → said ≡ tail → length text < 12 + length tail → 12 ≤ length frames → ⊥
too_short text frames rest said tail e p q l m =
    let n = ap (λ x. length x) e in let u = ap (λ x. length x) p in let v = ap (λ x. length x) q in
    omega (arith, n, u, v, l, m, length-append frames (rest ++ said), length-append rest said)

-- nothing was written behind the whole frames
pub rest_none : (v : Values) (w : ℕ → DeviceTold) (F : List Frame) (rest : List ℕ) (cut : Option Frame) → is_some cut ≡ false → IsRest (cat_work a) v w F cut rest → rest ≡ []
rest_none v w F rest None e h = h
rest_none v w F rest (Some f) e h = absurd (false≢true (sym e))

tail_is_long : length (bytes_of cut_output.out_new.written) < 12 + length (tail_text cut_output.ends cut_output.events)
unfolding digits
tail_is_long = omega arith

pub cut_output_refused : ¬ (RunsStreams cut_output)
cut_output_refused h =
    let g = good h.causes h.status.status in
    let t = work_of cut_output h refl (an_end _ []) in
    let w = went h.causes g t.text.said _ (is_some t.cut) t.wanted t.text.tail in
    let r = ran_with_ends cut_output h.causes t (an_end _ []) in
    let o = r.outputs.outputs.0 in
    let ys = given_whole (codes "hello world\n") (r.home 0) r.rows.at_home.1 (elements_in_pieces o.pieces) o.end (done o.end o.reported) (ended_run (FileRuns (r.home 0)) (elements_in_pieces o.pieces) o.end (done o.end o.reported) o.run) in
    let n : length (payloads_of 0 (work_of cut_output h refl (an_end _ [])).frames) ≡ 12 = ap (λ x. length x) (printed_as 0 t.frames o.pieces o.printed ∙ ap (λ x. rendering_of x) ys) in
    let f : 12 ≤ length (frames_text (work_of cut_output h refl (an_end _ [])).frames) = omega (arith, n, within 0 (work_of cut_output h refl (an_end _ [])).frames) in
    too_short _ (frames_text (work_of cut_output h refl (an_end _ [])).frames) (work_of cut_output h refl (an_end _ [])).rest (work_of cut_output h refl (an_end _ [])).text.said _ (ap (λ x. bytes_of x) (work_of cut_output h refl (an_end _ [])).text.written) (rest_none r.values r.home t.frames t.rest t.cut w.broke_is r.outputs.rest) w.said_is tail_is_long f

pub row_without_a_final_refused : ¬ (RunsStreams call_with_row_without_a_final)
row_without_a_final_refused h = let l = (work_of call_with_row_without_a_final h refl (an_end _ [])).performs.ledger in false≢true (complete_found call_with_row_without_a_final.events l.legal l.complete)

pub final_before_close_refused : ¬ (RunsStreams call_with_final_before_close)
final_before_close_refused h = false≢true (legal_found call_with_final_before_close.events (work_of call_with_final_before_close h refl (an_end _ [])).performs.ledger.legal)

-- The exits.

not_errored : Succeeded ≢ Errored
not_errored e = cc

not_canceled : Succeeded ≢ Canceled
not_canceled e = cc

-- cat reports how it ended, and its Close, the second event, has the exit of that
exit_told : (c : RunRecord) (v : Values) (w : ℕ → DeviceTold) (e : EndOf) → (x : HasOneExit (cat_work a) c v w e) → exit_of x.how ≡ exit_of e.how
exit_told c v w e x = ap exit_of (⊎_elim (λ s. s) (λ (h : IsExitHidden (cat_work a) c e). absurd (h.beside refl)) x.same)

pub done_told_as_errored_refused : ¬ (RunsStreams done_told_as_errored)
done_told_as_errored_refused h =
    let r = ran_with_ends done_told_as_errored h.causes (work_of done_told_as_errored h refl (an_end _ [])) (an_end _ []) in
    not_errored (sym (r.exits.0.told.1.0 ∙ exit_told _ _ _ _ r.exits.0))

pub fault_told_as_succeeded_refused : ¬ (RunsStreams fault_told_as_succeeded)
fault_told_as_succeeded_refused h =
    let r = ran_with_ends fault_told_as_succeeded h.causes (work_of fault_told_as_succeeded h refl (an_end _ [])) (an_end _ []) in
    not_errored (r.exits.0.told.1.0 ∙ exit_told _ _ _ _ r.exits.0)

pub halt_told_as_succeeded_refused : ¬ (RunsStreams halt_told_as_succeeded)
halt_told_as_succeeded_refused h =
    let r = ran_with_ends halt_told_as_succeeded h.causes (work_of halt_told_as_succeeded h refl (an_end _ [])) (an_end _ []) in
    not_canceled (r.exits.0.told.1.0 ∙ exit_told _ _ _ _ r.exits.0)

pub final_unlike_its_close_refused : ¬ (RunsStreams final_unlike_its_close)
final_unlike_its_close_refused h = false≢true (ordered_complete final_unlike_its_close.events (work_of final_unlike_its_close h refl (an_end _ [])).performs.ledger.ordered)

pub device_told_otherwise_refused : ¬ (RunsStreams device_told_otherwise)
device_told_otherwise_refused h = let e = ((work_of device_told_otherwise h refl (an_end _ [])).performs.devices.exits Errored).0 in omega (arith, e)

pub closed_twice_refused : ¬ (RunsStreams closed_twice)
closed_twice_refused h = let e = (work_of closed_twice h refl (an_end _ [])).performs.devices.shut.0.closes in omega (arith, e)

pub left_open_refused : ¬ (RunsStreams left_open)
left_open_refused h = let e = (work_of left_open h refl (an_end _ [])).performs.devices.shut.0.closes in omega (arith, e)

-- a run that is done met the end, and no read failed
read_met : (d : DeviceTold) (ys : List Element) (e : End) → e ≡ Done → OrLeft (Unit {0}) (Reads d) ys e → (d.ended ≡ true) × (d.read_faults ≡ 0)
read_met d ys e q (inl x) = let r = subst (λ (g : End). Reads d ys g) q x in (r.1.0, r.1.2)
read_met d ys e q (inr x) = let h = ap place (sym q ∙ x.0) in absurd (omega (arith, h))

met : (d : DeviceTold) (ys : List Element) (e : End) → e ≡ Done → FileRuns d ys e → (d.ended ≡ true) × (d.read_faults ≡ 0)
met d ys e q (inl (inl x), t) = read_met d ys e q x.2
met d ys e q (inl (inr x), t) = let h = ap place (sym q ∙ x.3) in absurd (omega (arith, h))
met d ys e q (inr x, t) = let h = ap place (sym q ∙ x.0) in absurd (omega (arith, h))

pub failed_read_forgotten_refused : ¬ (RunsStreams failed_read_forgotten)
failed_read_forgotten_refused h =
    let g = good h.causes h.status.status in
    let r = ran_with_ends failed_read_forgotten h.causes (work_of failed_read_forgotten h refl (an_end _ [])) (an_end _ []) in
    let o = r.outputs.outputs.0 in
    let m = met (r.home 0) (elements_in_pieces o.pieces) o.end (done o.end o.reported) (ended_run (FileRuns (r.home 0)) (elements_in_pieces o.pieces) o.end (done o.end o.reported) o.run) in
    let n = opened (r.home 0) (elements_in_pieces o.pieces) o.end (done o.end o.reported) (ended_run (FileRuns (r.home 0)) (elements_in_pieces o.pieces) o.end (done o.end o.reported) o.run) in
    ⊎_elim
    (λ b. ⊎_elim (λ e. let f = ap (λ (d : DeviceTold). d.read_faults) e in let z = m.1 in omega (arith, f, z)) among_nil (among_cons b))
    (λ (x : IsUntouched (r.home 0)). let z = x.opens in omega (arith, n, z))
    r.rows.at_home.2

pub end_never_met_refused : ¬ (RunsStreams end_never_met)
end_never_met_refused h =
    let g = good h.causes h.status.status in
    let r = ran_with_ends end_never_met h.causes (work_of end_never_met h refl (an_end _ [])) (an_end _ []) in
    let o = r.outputs.outputs.0 in
    let m = met (r.home 0) (elements_in_pieces o.pieces) o.end (done o.end o.reported) (ended_run (FileRuns (r.home 0)) (elements_in_pieces o.pieces) o.end (done o.end o.reported) o.run) in
    let n = opened (r.home 0) (elements_in_pieces o.pieces) o.end (done o.end o.reported) (ended_run (FileRuns (r.home 0)) (elements_in_pieces o.pieces) o.end (done o.end o.reported) o.run) in
    ⊎_elim
    (λ b. ⊎_elim (λ e. false≢true (ap (λ (d : DeviceTold). d.ended) (sym e) ∙ m.0)) among_nil (among_cons b))
    (λ (x : IsUntouched (r.home 0)). let z = x.opens in omega (arith, n, z))
    r.rows.at_home.2

pub fault_without_a_fault_refused : ¬ (RunsStreams fault_without_a_fault)
fault_without_a_fault_refused h =
    let r = ran_with_ends fault_without_a_fault h.causes (work_of fault_without_a_fault h refl (an_end _ [])) (an_end _ []) in
    let f = r.ends.caused.0.fault in
    ⊎_elim (λ e. let q = ap (λ (d : DeviceTold). d.read_faults) e in let l = f.3 in omega (arith, q, l)) among_nil (among_cons f.1)

pub failed_close_not_told_refused : ¬ (RunsStreams failed_close_not_told)
failed_close_not_told_refused h = let e = (work_of failed_close_not_told h refl (an_end _ [])).performs.devices.failed.0 in omega (arith, e)

pub silent_call_refused : ¬ (RunsStreams silent_call)
silent_call_refused h =
    ⊎_elim
    (λ e. let n = ap (λ (s : SinkTold). length (bytes_of s.written)) e in omega (arith, n))
    (λ (b : BreaksOff silent_call.err_old silent_call.err_new (line_of status.BadWords)). let n = ap (λ (s : SinkTold). s.faults) b.told in omega (arith, n))
    h.status.line
