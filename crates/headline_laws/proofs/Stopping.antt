-- Calls that do more than they may are refused.
use Rattle.std.proofs.Common.{◌≡◌, ◌≢◌, ◌<◌, ◌≤◌, ◌+◌, ◌*◌, ℕ, Bool, true, false, nat_lt, List, [], ◌∷◌, ◌++◌, map, take, length, is_some, option_map, Option, Some, None, inl, inr, refl, sym, ap, ◌∙◌, subst, arith, append-nil, append_assoc, length-append, length-take}
use Rattle.std.specs.Prelude.{codes, decimal}
use Rattle.std.specs.Fmt.{digits}
use Rattle.std.specs.List.{AllByRecursion}
use Rattle.std.proofs.lemmas.Bool.{false≢true}
use Rattle.std.proofs.lemmas.Fmt.{decimal_digit}
use Rattle.std.proofs.lemmas.List.{length-map}
use Rattle.chunk_core.specs.Elements.{Element, Byte, rendering_of}
use Rattle.chunk_core.specs.Outcomes.{End, Outcomes}
use Rattle.chunk_core.specs.Texts.{Frame, frame_text, frames_text, payloads_of}
use Rattle.chunk_core.specs.declared.code.How.{How}
use Rattle.chunk_core.specs.declared.code.How.TheVariants as how
use Rattle.res_ledger.specs.declared.event.StreamNo.TheVariants.{Inner}
use Rattle.device_port.specs.Depot.{DepotTold, content_at}
use Rattle.device_port.specs.Device.{DeviceTold}
use Rattle.pull_nodes.specs.Runs.{FirstBytes, OpensThen, OrLeft, Reads}
use Rattle.run_rules.specs.Outputs.{AreOutputs, IsCutFrame, IsRest, RunsOrLeft, StartsRunOf, elements_in_pieces}
use Rattle.run_rules.specs.Run.{Ran}
use Rattle.run_rules.specs.Texts.{tail_text}
use Rattle.cat_run.specs.Cat.{FileRuns, cat_work}
use Rattle.flume_cli.specs.Status.{Causes}
use Rattle.flume_cli.specs.declared.status.Status.TheVariants as status
use Rattle.flume_cli.specs.Headline.{Call, run_of_call, RunsStreams, SaysTail, TellsWork}
use Rattle.chunk_core.proofs.Each.{each_left}
use Rattle.cat_run.specs.Alone.{IsByte}
use Rattle.cat_run.proofs.CatRuns.{file_bytes}
use Rattle.cat_run.proofs.Pieces.{bytes_length}
use Rattle.headline_laws.specs.Calls.{a}
use Rattle.headline_laws.specs.Surplus.{halted_by_the_tail, halted_for_memory, idle_devices, invented_scopes, larger_frame, made_without_words, memory_at_the_end, opened_again, writes_on}
use Rattle.headline_laws.proofs.Asked.{frames_of, idle_of, work_of}
use Rattle.headline_laws.proofs.Refusing.{an_end, bytes_of, goes_on_as, good, no_cause, printed_as, ran_with_ends, rest_none, went}

-- two devices more than there are rows
pub idle_devices_refused : ¬ (RunsStreams idle_devices)
idle_devices_refused h = let l = (work_of idle_devices h refl (an_end _ [])).performs.devices.few.1.0 in omega (arith, l)

-- two devices for one row
pub opened_again_refused : ¬ (RunsStreams opened_again)
opened_again_refused h = let l = (work_of opened_again h refl (an_end _ [])).performs.devices.few.0 in omega (arith, l)

pub invented_scopes_refused : ¬ (RunsStreams invented_scopes)
invented_scopes_refused h = let l = (work_of invented_scopes h refl (an_end _ [])).performs.ledger.scopes.0 in omega (arith, l)

-- What is written begins with a frame of stream 0, if with anything.

abbrev first_of : List ℕ → ℕ
first_of [] = 0
first_of (b ∷ bs) = b

first_digit : (p zs : List ℕ) → first_of (frame_text 0 p ++ zs) ≡ 48
unfolding digits
first_digit p zs = refl

begins : (k : ℕ) (p zs : List ℕ) → k < 1 → first_of (frame_text k p ++ zs) ≡ 48
begins k p zs l = let e : 0 ≡ k = omega (arith, l) in subst (λ j. first_of (frame_text j p ++ zs) ≡ 48) e (first_digit p zs)

begins_alone : (k : ℕ) (p : List ℕ) → k < 1 → first_of (frame_text k p) ≡ 48
begins_alone k p l = subst (λ x. first_of x ≡ 48) (append-nil (frame_text k p)) (begins k p [] l)

front : (rest more : List ℕ) (k : ℕ) (b : List ℕ) → k < 1 → rest ++ more ≡ frame_text k b → 0 < length rest → first_of rest ≡ 48
front [] more k b l e s = absurd (omega (arith, s))
front (r ∷ rs) more k b l e s = ap first_of e ∙ begins_alone k b l

from : (F : List Frame) (rest t : List ℕ) → AllByRecursion (λ (f : Frame). (f.stream < 1) × (0 < length f.payload)) F → (0 < length rest → first_of rest ≡ 48) → 0 < length t → t ≡ frames_text F ++ (rest ++ []) → first_of t ≡ 48
from [] rest t n r s e = let u : t ≡ rest = e ∙ append-nil rest in ap first_of u ∙ r (subst (λ x. 0 < length x) u s)
from (f ∷ fs) rest t n r s e =
    ap first_of (e ∙ append_assoc (frame_text f.stream f.payload) (frames_text fs) (rest ++ [])) ∙ begins f.stream f.payload (frames_text fs ++ (rest ++ [])) n.0.0

module _ (h : RunsStreams writes_on) where
  abbrev t : TellsWork (cat_work a) writes_on h.causes
  t = work_of writes_on h refl (an_end _ [])

  abbrev r : Ran (cat_work a) (run_of_call writes_on t.frames t.cut t.rest t.wanted)
  r = ran_with_ends writes_on h.causes t (an_end _ [])

  abbrev tail : List ℕ
  tail = tail_text writes_on.ends writes_on.events

  -- where no write of a frame failed, nothing gave the stream a cause to halt but want of memory
  behind_none : (cut : Option Frame) (wanted : Bool) → t.cut ≡ cut → t.wanted ≡ wanted → ⊥
  behind_none (Some f) wanted e m =
      let said = subst (λ o. SaysTail h.causes t.text.said tail status.NotWritten (is_some o) t.wanted) e t.text.tail in
      let rest : IsCutFrame (cat_work a) r.values r.home t.frames f t.rest = subst (λ o. IsRest (cat_work a) r.values r.home t.frames o t.rest) e r.outputs.rest in
      let text : codes "end 0 halted\n" ≡ frames_text t.frames ++ (t.rest ++ []) = ap bytes_of t.text.written ∙ ap (λ x. frames_text t.frames ++ (t.rest ++ x)) said.1 in
      let first = from t.frames t.rest (codes "end 0 halted\n") r.outputs.numbers (λ s. front t.rest rest.more f.stream f.payload rest.stream rest.text s) (omega arith) text in
      omega (arith, first)
  behind_none None true e m =
      let said = subst (λ o. SaysTail h.causes t.text.said tail status.NotWritten (is_some o) t.wanted) e t.text.tail in
      let wanting = subst (λ w. SaysTail h.causes t.text.said tail status.NotWritten false w) m said in
      false≢true (sym wanting.0 ∙ h.status.unwritten)
  behind_none None false e m =
      no_cause (run_of_call writes_on t.frames t.cut t.rest t.wanted) (subst (λ (o : Option Frame). is_some o ≡ false) (sym e) refl) m refl (r.ends.caused.0.halted refl)

pub writes_on_refused : ¬ (RunsStreams writes_on)
writes_on_refused h = behind_none h ((work_of writes_on h refl (an_end _ [])).cut) ((work_of writes_on h refl (an_end _ [])).wanted) refl refl

-- How long the frames are of what a file gives.

left_length : (n : ℕ) (R : Outcomes) → ((ys : List Element) (e : End) → R ys e → length ys ≤ n) → (ys : List Element) (e : End) → OrLeft (Unit {0}) R ys e → length ys ≤ n
left_length n R h ys e (inl r) = h ys e r
left_length n R h ys e (inr (c, inl none)) = let l = ap (λ (xs : List Element). length xs) none.0 in omega (arith, l)
left_length n R h ys e (inr (c, inr (more, g, r))) = let l = h (ys ++ more) g r in let a = length-append ys more in omega (arith, l, a)

first_length : (c : List ℕ) (n : ℕ) (o : Option (List ℕ)) → o ≡ Some c → (ys : List Element) → FirstBytes o n ys → length ys ≤ length c
first_length c n o is ys h =
    let given : ys ≡ map Byte (take n c) = subst (λ x. FirstBytes x n ys) is h in
    let l = ap (λ (xs : List Element). length xs) given in
    let m = length-map (take n c) Byte in
    let t = length-take n c in
    omega (arith, l, m, t)

opens_length : (c : List ℕ) (d : DeviceTold) → d.content ≡ Some c → (ys : List Element) (e : End) → OpensThen d (OrLeft (Unit {0}) (Reads d)) (Unit {0}) ys e → length ys ≤ length c
opens_length c d is ys e (inl r) = left_length (length c) (Reads d) (λ xs g h. first_length c d.at d.content is xs h.0) ys e r.2
opens_length c d is ys e (inr r) = let l = ap (λ (xs : List Element). length xs) r.2 in omega (arith, l)

-- no more is rendered than the file has
rendered : (c : List ℕ) (d : DeviceTold) → d.content ≡ Some c → (ys : List Element) (e : End) → FileRuns d ys e → length (rendering_of ys) ≤ length c
rendered c d is ys e r =
    let l = left_length (length c) (OpensThen d (OrLeft (Unit {0}) (Reads d)) (Unit {0})) (opens_length c d is) ys e r.0 in
    let n = bytes_length ys (file_bytes d ys e r) in
    omega (arith, l, n)

-- nor is of what comes first in a run
rendered_first : (c : List ℕ) (d : DeviceTold) → d.content ≡ Some c → (ys : List Element) → StartsRunOf (FileRuns d) ys → length (rendering_of ys) ≤ length c
rendered_first c d is ys r =
    let l = left_length (length c) (OpensThen d (OrLeft (Unit {0}) (Reads d)) (Unit {0})) (opens_length c d is) (ys ++ r.0) r.1 r.2.0 in
    let a = length-append ys r.0 in
    let n = bytes_length ys (each_left IsByte ys r.0 (file_bytes d (ys ++ r.0) r.1 r.2)) in
    omega (arith, l, a, n)

rendered_or_left : (c : List ℕ) (d : DeviceTold) → d.content ≡ Some c → (ys : List Element) (e : End) → RunsOrLeft (FileRuns d) ys e → length (rendering_of ys) ≤ length c
rendered_or_left c d is ys e (inl r) = rendered c d is ys e r
rendered_or_left c d is ys e (inr r) = rendered_first c d is ys r.1

payloads_behind : (k : ℕ) (p : List ℕ) (fs : List Frame) → 0 ≡ k → payloads_of 0 (record { stream = k; payload = p } ∷ fs) ≡ p ++ payloads_of 0 fs
payloads_behind k p fs e = subst (λ j. payloads_of 0 (record { stream = j; payload = p } ∷ fs) ≡ p ++ payloads_of 0 fs) e refl

frame_length : (k : ℕ) (p : List ℕ) → 0 ≡ k → length p < 10 → length (frame_text k p) ≡ length p + 5
frame_length k p e l = subst (λ j. length (frame_text j p) ≡ length p + 5) e (
    let a = length-append (decimal 0) (32 ∷ [] ++ (decimal (length p) ++ (10 ∷ [] ++ (p ++ 10 ∷ [])))) in
    let b = length-append (decimal (length p)) (10 ∷ [] ++ (p ++ 10 ∷ [])) in
    let c = length-append p (10 ∷ []) in
    let d = ap (λ (xs : List ℕ). length xs) (decimal_digit (length p) l) in
    let z = ap (λ (xs : List ℕ). length xs) (decimal_digit 0 (omega arith)) in
    omega (arith, a, b, c, d, z))

-- the frames of a short output aren't long
frames_length : (F : List Frame) → AllByRecursion (λ (f : Frame). (f.stream < 1) × (0 < length f.payload)) F → length (payloads_of 0 F) < 10 → length (frames_text F) ≤ 6 * length (payloads_of 0 F)
frames_length [] n short = omega arith
frames_length (f ∷ fs) n short =
    let z : 0 ≡ f.stream = let l = n.0.0 in omega (arith, l) in
    let p = ap (λ (xs : List ℕ). length xs) (payloads_behind f.stream f.payload fs z) in
    let q = length-append f.payload (payloads_of 0 fs) in
    let s = n.0.1 in
    let l = frame_length f.stream f.payload z (omega (arith, p, q, short)) in
    let t = length-append (frame_text f.stream f.payload) (frames_text fs) in
    let r = frames_length fs n.1 (omega (arith, p, q, short)) in
    omega (arith, p, q, s, l, t, r)

-- what may be printed of the file, where its stream ran
module _ (c : Call) (k : Causes) (t : TellsWork (cat_work a) c k) (some : c.ends ≢ []) (h : How) (one : c.ends ≡ record { who = Inner 0; how = h } ∷ []) (content : content_at c.depot_old.files a ≡ Some (codes "hello\n")) where
  abbrev run : Ran (cat_work a) (run_of_call c t.frames t.cut t.rest t.wanted)
  run = ran_with_ends c k t some

  printed_few : length (payloads_of 0 t.frames) ≤ 6
  printed_few =
      let o = (subst (λ es. AreOutputs (cat_work a) run.values run.home t.frames 0 (cat_work a).streams es) one run.outputs.outputs).0 in
      let l = rendered_or_left (codes "hello\n") (run.home 0) (run.rows.at_home.1 ∙ content) (elements_in_pieces o.pieces) o.end o.run in
      let p = ap (λ (xs : List ℕ). length xs) (printed_as 0 t.frames o.pieces o.printed) in
      omega (arith, l, p)

-- at status 5 nothing stands behind the frames, so there are no more bytes than these few frames have
module _ (c : Call) (h : RunsStreams c) (t : TellsWork (cat_work a) c h.causes) (is : c.status ≡ status.Memory) (calm : nat_lt c.out_old.faults c.out_new.faults ≡ false) where
  nothing_said : (cut : Option Frame) (wanted : Bool) → SaysTail h.causes t.text.said (tail_text c.ends c.events) status.Memory (is_some cut) wanted → (is_some cut ≡ false) × (t.text.said ≡ [])
  nothing_said (Some f) wanted s = absurd (false≢true (sym calm ∙ (sym h.status.unwritten ∙ s.0)))
  nothing_said None true s = (refl, s.2)
  nothing_said None false s = (refl, s)

abbrev size_of : Option (List ℕ) → ℕ
size_of None = 0
size_of (Some bytes) = length bytes

-- a call of cat that ended with status 5 and printed this
too_long : (c : Call) (h : RunsStreams c) (t : TellsWork (cat_work a) c h.causes) (r : Ran (cat_work a) (run_of_call c t.frames t.cut t.rest t.wanted)) → c.status ≡ status.Memory → c.out_old.written ≡ Some [] → nat_lt c.out_old.faults c.out_new.faults ≡ false
    → length (payloads_of 0 t.frames) ≤ 6 → size_of c.out_new.written ≤ 36
too_long c h t r is none calm few =
    let s = nothing_said c h t is calm t.cut t.wanted (subst (λ x. SaysTail h.causes t.text.said (tail_text c.ends c.events) x (is_some t.cut) t.wanted) is t.text.tail) in
    let rest = rest_none r.values r.home t.frames t.rest t.cut s.0 r.outputs.rest in
    let w = ap size_of (t.text.written ∙ ap (λ (o : Option (List ℕ)). option_map (λ xs. xs ++ (frames_text t.frames ++ (t.rest ++ t.text.said))) o) none) in
    let a1 = length-append (frames_text t.frames) (t.rest ++ t.text.said) in
    let a2 = length-append t.rest t.text.said in
    let l1 = ap (λ (xs : List ℕ). length xs) rest in
    let l2 = ap (λ (xs : List ℕ). length xs) s.1 in
    let f = frames_length t.frames r.outputs.numbers (omega (arith, few)) in
    omega (arith, w, a1, a2, l1, l2, f, few)

pub memory_at_the_end_refused : ¬ (RunsStreams memory_at_the_end)
memory_at_the_end_refused h =
    let t = work_of memory_at_the_end h refl (an_end _ []) in
    let r = ran_with_ends memory_at_the_end h.causes t (an_end _ []) in
    let l = too_long memory_at_the_end h t r refl refl refl (printed_few memory_at_the_end h.causes t (an_end _ []) how.Done refl refl) in omega (arith, l)

pub halted_for_memory_refused : ¬ (RunsStreams halted_for_memory)
halted_for_memory_refused h =
    let t = work_of halted_for_memory h refl (an_end _ []) in
    let r = ran_with_ends halted_for_memory h.causes t (an_end _ []) in
    let l = too_long halted_for_memory h t r refl refl refl (printed_few halted_for_memory h.causes t (an_end _ []) how.Halted refl refl) in omega (arith, l)

-- The third byte of a short frame tells its length.

abbrev third_of : List ℕ → ℕ
third_of (x ∷ y ∷ z ∷ zs) = z
third_of zs = 0

third_digit : (p zs : List ℕ) → length p < 10 → third_of (frame_text 0 p ++ zs) ≡ 48 + length p
unfolding digits
third_digit p zs l = subst (λ s. third_of ((48 ∷ [] ++ (32 ∷ [] ++ (s ++ (10 ∷ [] ++ (p ++ 10 ∷ []))))) ++ zs) ≡ 48 + length p) (sym (decimal_digit (length p) l)) refl

third_by : (k : ℕ) (p zs : List ℕ) → 0 ≡ k → length p < 10 → third_of (frame_text k p ++ zs) ≡ 48 + length p
third_by k p zs e l = subst (λ j. third_of (frame_text j p ++ zs) ≡ 48 + length p) e (third_digit p zs l)

-- frames and the front of one more, which together render no more than six bytes, are no frame of six bytes
six_bytes : (F : List Frame) (f : Frame) (rest more : List ℕ) → AllByRecursion (λ (g : Frame). (g.stream < 1) × (0 < length g.payload)) F → 0 ≡ f.stream → 0 < length f.payload → 0 < length more → rest ++ more ≡ frame_text f.stream f.payload
    → length (payloads_of 0 F) + length f.payload ≤ 6 → codes "0 6\nhello\n\n" ≡ frames_text F ++ (rest ++ []) → ⊥
six_bytes [] f rest more n z some front text few is =
    let l = ap (λ (xs : List ℕ). length xs) (is ∙ append-nil rest) in
    let m = ap (λ (xs : List ℕ). length xs) text in
    let a = length-append rest more in
    let b = frame_length f.stream f.payload z (omega (arith, few)) in
    omega (arith, l, m, a, b, front, few)
six_bytes (g ∷ gs) f rest more n z some front text few is =
    let y : 0 ≡ g.stream = let l = n.0.0 in omega (arith, l) in
    let p = ap (λ (xs : List ℕ). length xs) (payloads_behind g.stream g.payload gs y) in
    let q = length-append g.payload (payloads_of 0 gs) in
    let short : length g.payload < 6 = omega (arith, p, q, few, some) in
    let third = ap third_of (is ∙ append_assoc (frame_text g.stream g.payload) (frames_text gs) (rest ++ [])) ∙ third_by g.stream g.payload (frames_text gs ++ (rest ++ [])) y (omega (arith, short)) in
    omega (arith, third, short)

module _ (h : RunsStreams halted_by_the_tail) where
  abbrev tells : TellsWork (cat_work a) halted_by_the_tail h.causes
  tells = work_of halted_by_the_tail h refl (an_end _ [])

  abbrev ran_here : Ran (cat_work a) (run_of_call halted_by_the_tail tells.frames tells.cut tells.rest tells.wanted)
  ran_here = ran_with_ends halted_by_the_tail h.causes tells (an_end _ [])

  abbrev whole_tail : List ℕ
  whole_tail = tail_text halted_by_the_tail.ends halted_by_the_tail.events

  by_tail : (cut : Option Frame) (wanted : Bool) → tells.cut ≡ cut → tells.wanted ≡ wanted → ⊥
  by_tail (Some f) wanted e m =
      let said = subst (λ o. SaysTail h.causes tells.text.said whole_tail status.NotWritten (is_some o) tells.wanted) e tells.text.tail in
      let rest : IsCutFrame (cat_work a) ran_here.values ran_here.home tells.frames f tells.rest = subst (λ o. IsRest (cat_work a) ran_here.values ran_here.home tells.frames o tells.rest) e ran_here.outputs.rest in
      let z : 0 ≡ f.stream = let l = rest.stream in omega (arith, l) in
      let text : codes "0 6\nhello\n\n" ≡ frames_text tells.frames ++ (tells.rest ++ []) = ap bytes_of tells.text.written ∙ ap (λ x. frames_text tells.frames ++ (tells.rest ++ x)) said.1 in
      let few : length (payloads_of f.stream tells.frames ++ f.payload) ≤ 6 = (let l = rendered_first (codes "hello\n") (ran_here.home 0) ran_here.rows.at_home.1 (elements_in_pieces rest.pieces) rest.run in let p = ap (λ (xs : List ℕ). length xs) (goes_on_as f.stream tells.frames f.payload rest.pieces rest.goes_on) in omega (arith, l, p)) in
      let few_0 : length (payloads_of 0 tells.frames ++ f.payload) ≤ 6 = subst (λ j. length (payloads_of j tells.frames ++ f.payload) ≤ 6) (sym z) few in
      let s = length-append (payloads_of 0 tells.frames) f.payload in
      six_bytes tells.frames f tells.rest rest.more ran_here.outputs.numbers z rest.some rest.front rest.text (omega (arith, few_0, s)) text
  by_tail None true e m =
      let said = subst (λ o. SaysTail h.causes tells.text.said whole_tail status.NotWritten (is_some o) tells.wanted) e tells.text.tail in
      let wanting = subst (λ w. SaysTail h.causes tells.text.said whole_tail status.NotWritten false w) m said in
      false≢true (sym wanting.0 ∙ h.status.unwritten)
  by_tail None false e m = no_cause (run_of_call halted_by_the_tail tells.frames tells.cut tells.rest tells.wanted) (subst (λ (o : Option Frame). is_some o ≡ false) (sym e) refl) m refl (ran_here.ends.caused.0.halted refl)

pub halted_by_the_tail_refused : ¬ (RunsStreams halted_by_the_tail)
halted_by_the_tail_refused h = by_tail h ((work_of halted_by_the_tail h refl (an_end _ [])).cut) ((work_of halted_by_the_tail h refl (an_end _ [])).wanted) refl refl

-- What is asked of the frames.

-- a frame of six bytes isn't the first of frames of at most four
small_first : (F : List Frame) (zs : List ℕ) → AllByRecursion (λ (f : Frame). (f.stream < 1) × (0 < length f.payload)) F → AllByRecursion (λ (f : Frame). length f.payload ≤ 4) F → third_of zs ≢ 54 → third_of (frames_text F ++ zs) ≢ 54
small_first [] zs n s other e = other e
small_first (f ∷ fs) zs n s other e =
    let y : 0 ≡ f.stream = let l = n.0.0 in omega (arith, l) in
    let l = s.0 in
    let third = ap third_of (append_assoc (frame_text f.stream f.payload) (frames_text fs) zs) ∙ third_by f.stream f.payload (frames_text fs ++ zs) y (omega (arith, l)) in
    omega (arith, third, e, l)

tail_begins : third_of (tail_text larger_frame.ends larger_frame.events) ≡ 100
unfolding digits
tail_begins = refl

pub larger_frame_refused : ¬ (RunsStreams larger_frame)
larger_frame_refused h =
    let g = good h.causes h.status.status in
    let d = frames_of larger_frame h refl (an_end _ []) in
    let t = d.0 in
    let w = went h.causes g t.text.said _ (is_some t.cut) t.wanted t.text.tail in
    let r = ran_with_ends larger_frame h.causes t (an_end _ []) in
    let rest = rest_none r.values r.home t.frames t.rest t.cut w.broke_is r.outputs.rest in
    let behind : third_of (t.rest ++ t.text.said) ≡ 100 = ap (λ xs. third_of (xs ++ t.text.said)) rest ∙ (ap third_of w.said_is ∙ tail_begins) in
    small_first t.frames (t.rest ++ t.text.said) r.outputs.numbers d.1.fits (λ e. omega (arith, e, behind)) (sym (ap third_of (ap bytes_of t.text.written)))

pub made_without_words_refused : ¬ (RunsStreams made_without_words)
made_without_words_refused h = let e = ap (λ (t : DepotTold). length t.made) (idle_of made_without_words h refl).depot in omega (arith, e)
