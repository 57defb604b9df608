-- Each call of run with one thing wrong is refused.
use Rattle.std.proofs.Common.{◌≡◌, ◌≢◌, ◌<◌, ℕ, Bool, true, false, nat_le, not, List, [], length, take, Option, Some, None, Ok, Err, refl, sym, ◌∙◌, ap, subst, ⊎_elim, arith, inl, inr, ◌⊎◌, IfSome, if◌then◌else◌}
use Rattle.std.specs.Prelude.{unwrap_or}
use Rattle.std.specs.Fmt.{digits}
use Rattle.std.proofs.lemmas.Bool.{false≢true, lt-leb, ltb-false}
use Rattle.std.proofs.lemmas.List.{length-drop}
use Rattle.device_port.specs.Depot.{DepotTold}
use Rattle.device_port.specs.Source.{SourceTold}
use Rattle.device_port.specs.Sink.{SinkTold, BreaksOff}
use Rattle.pipeline_desc.specs.Meant.{PlanMeant}
use Rattle.pipeline_desc.specs.Limits.{most_bytes}
use Rattle.pipeline_desc.specs.Plans.{plan_of}
use Rattle.pipeline_desc.specs.Reading.{Reading}
use Rattle.pipeline_desc.specs.Worked.{plan_by_default}
use Rattle.pipeline_desc.specs.declared.refusal.Refusal.{Refusal}
use Rattle.flume_cli.specs.declared.status.Status.{Status}
use Rattle.flume_cli.specs.declared.status.Status.TheVariants as status
use Rattle.flume_cli.specs.Input.{IsInput, TakesSome}
use Rattle.flume_cli.specs.Status.{Causes, line_of, status_done, status_number, status_of}
use Rattle.flume_cli.specs.Headline.{Call, DidNothing, DoesPlan, RunsInput, RunsStreams, StopsBefore}
use Rattle.headline_laws.specs.Described.{clash, clash_refusal, drained, end_not_read, made_though_refused, never_read, read_by_cat, next_stream_refused, read_on, refusal_printed, refused_though_good, stream_left_out, unread_but_refused, unread_without_a_fault}
use Rattle.headline_laws.proofs.Asked.{done_of, nothing_read}
use Rattle.headline_laws.proofs.Describing.{clash_means, nothing_means}
use Rattle.headline_laws.proofs.Refusing.{bytes_of, differ, good, peel, status_if_taken}

-- What a status tells of its causes.

-- the bytes that a source has left
abbrev bytes_left : SourceTold → List ℕ
bytes_left s = unwrap_or s.left []

-- the status of what was done, from its causes one by one
abbrev done_by : Bool → Bool → Bool → Bool → Status
done_by u m f n = status_done (record { early = false; words = true; unread = false; refused = None; unwritten = u; memory = m; faulty = f; unclean = n })

-- what was done is told neither by 3 nor by 6
not_done : (s : Status) → (status_number s ≡ 3) ⊎ (status_number s ≡ 6) → (u m f n : Bool) → s ≡ done_by u m f n → ⊥
not_done s is true m f n e = let g = ap status_number e in ⊎_elim (λ (h : status_number s ≡ 3). omega (arith, g, h)) (λ (h : status_number s ≡ 6). omega (arith, g, h)) is
not_done s is false true f n e = let g = ap status_number e in ⊎_elim (λ (h : status_number s ≡ 3). omega (arith, g, h)) (λ (h : status_number s ≡ 6). omega (arith, g, h)) is
not_done s is false false true n e = let g = ap status_number e in ⊎_elim (λ (h : status_number s ≡ 3). omega (arith, g, h)) (λ (h : status_number s ≡ 6). omega (arith, g, h)) is
not_done s is false false false true e = let g = ap status_number e in ⊎_elim (λ (h : status_number s ≡ 3). omega (arith, g, h)) (λ (h : status_number s ≡ 6). omega (arith, g, h)) is
not_done s is false false false false e = let g = ap status_number e in ⊎_elim (λ (h : status_number s ≡ 3). omega (arith, g, h)) (λ (h : status_number s ≡ 6). omega (arith, g, h)) is

-- the refusal of a status, where it has one
abbrev refusal_told : Status → Option Refusal
refusal_told (status.Refused refusal) = Some refusal
refusal_told s = None

-- a refusal that is told is a cause
refused_by : (refusal : Refusal) (k : Causes) (cause : Option Refusal) → status.Refused refusal ≡ elim cause [ Some r ↦ status.Refused r | None ↦ status_done k ] → cause ≡ Some refusal
refused_by refusal k (Some r) e = sym (ap refusal_told e)
refused_by refusal k None e = absurd (not_done (status.Refused refusal) (inl refl) k.unwritten k.memory k.faulty k.unclean e)

refused_is : (refusal : Refusal) (k : Causes) → status.Refused refusal ≡ status_of k → k.refused ≡ Some refusal
refused_is refusal k e =
    let w = peel k.early _ _ (status.Refused refusal) (differ _ _ (omega arith)) e in
    let p = peel (not k.words) _ _ (status.Refused refusal) (differ _ _ (omega arith)) w.1 in
    let o = peel k.unread _ _ (status.Refused refusal) (differ _ _ (omega arith)) p.1 in
    refused_by refusal k k.refused o.1

-- status 6 tells of a read that failed
unread_is : (k : Causes) → status.Unread ≡ status_of k → k.unread ≡ false → ⊥
unread_is k e read =
    let w = peel k.early _ _ status.Unread (differ _ _ (omega arith)) e in
    let p = peel (not k.words) _ _ status.Unread (differ _ _ (omega arith)) w.1 in
    let q : status.Unread ≡ elim k.refused [ Some r ↦ status.Refused r | None ↦ status_done k ] = p.1 ∙ ap (λ b. if b then status.Unread else elim k.refused [ Some r ↦ status.Refused r | None ↦ status_done k ]) read in
    let t = status_if_taken status.Unread (omega arith) k k.refused q in
    not_done status.Unread (inr refl) k.unwritten k.memory k.faulty k.unclean t.1

-- What was done.

none_some : {A : Type 0} {x : A} → None ≢ Some x
none_some e = cc

-- a description that is known was read whole, where a refusal is told
known_bytes : (c : Call) (left : List ℕ) → c.source_old.left ≡ Some left → (bytes : List ℕ) → IsInput c.source_old c.source_new bytes → bytes ≡ take 1048577 left
known_bytes c left is bytes i = subst (λ o. IfSome o (λ xs. bytes ≡ take 1048577 xs)) is i.given

-- what was done for a description that is known, where it wasn't stopped before
pub done_for : (c : Call) (k : Causes) (left : List ℕ) (means : Reading PlanMeant) → c.source_old.left ≡ Some left → plan_of (take 1048577 left) ≡ means → RunsInput c k None → DoesPlan c k None means
done_for c k left means is m r = subst (λ q. DoesPlan c k None q) (ap plan_of (known_bytes c left is r.bytes r.input) ∙ m) r.plan

-- nothing was done, where a description is refused
pub nothing_done : (c : Call) (k : Causes) (left : List ℕ) (refusal : Refusal) → c.source_old.left ≡ Some left → plan_of (take 1048577 left) ≡ Err refusal → StopsBefore c k ⊎ RunsInput c k None → DidNothing c
nothing_done c k left refusal is m d = ⊎_elim (λ (x : StopsBefore c k). x.nothing) (λ (x : RunsInput c k None). (done_for c k left (Err refusal) is m x).1) d

-- the cause of a refusal is the description's
cause_of : (c : Call) (k : Causes) (left : List ℕ) (refusal : Refusal) (told : Refusal) → c.source_old.left ≡ Some left → plan_of (take 1048577 left) ≡ Err refusal → k.refused ≡ Some told → StopsBefore c k ⊎ RunsInput c k None → told ≡ refusal
cause_of c k left refusal told is m r d =
    ⊎_elim
    (λ (x : StopsBefore c k). absurd (none_some (sym x.refused ∙ r)))
    (λ (x : RunsInput c k None). some_is (sym r ∙ (done_for c k left (Err refusal) is m x).0))
    d
  where
    some_is : Some told ≡ Some refusal → told ≡ refusal
    some_is e = ap (λ o. unwrap_or o told) e

-- The calls.

pub next_stream_refused_refused : ¬ (RunsStreams next_stream_refused)
next_stream_refused_refused h =
    let told = cause_of next_stream_refused h.causes clash (clash_refusal 0) (clash_refusal 1) refl clash_means (refused_is (clash_refusal 1) h.causes h.status.status) (done_of next_stream_refused h refl (omega arith)) in
    let e = ap (λ (r : Refusal). unwrap_or r.stream 0) told in omega (arith, e)

line_of_clash : length (line_of (status.Refused (clash_refusal 0))) ≡ 45
unfolding digits
line_of_clash = refl

pub stream_left_out_refused : ¬ (RunsStreams stream_left_out)
stream_left_out_refused h =
    ⊎_elim
    (λ e. let n = ap (λ (s : SinkTold). length (bytes_of s.written)) e in let l = line_of_clash in omega (arith, n, l))
    (λ (b : BreaksOff stream_left_out.err_old stream_left_out.err_new (line_of (status.Refused (clash_refusal 0)))). let n = ap (λ (s : SinkTold). s.faults) b.told in omega (arith, n))
    h.status.line

pub unread_without_a_fault_refused : ¬ (RunsStreams unread_without_a_fault)
unread_without_a_fault_refused h = unread_is h.causes h.status.status h.status.unread

pub read_on_refused : ¬ (RunsStreams read_on)
read_on_refused h =
    ⊎_elim
    (λ (x : StopsBefore read_on h.causes). let e = ap (λ (s : SourceTold). s.faults) (subst (λ b. TakesSome b read_on.source_old read_on.source_new) h.status.unread x.taken).told in omega (arith, e))
    (λ (x : RunsInput read_on h.causes None). let e = ap (λ (s : SourceTold). s.faults) x.input.told in omega (arith, e))
    (done_of read_on h refl (omega arith))

pub unread_but_refused_refused : ¬ (RunsStreams unread_but_refused)
unread_but_refused_refused h =
    let w = peel h.causes.early _ _ (status.Refused (clash_refusal 0)) (differ _ _ (omega arith)) h.status.status in
    let p = peel (not h.causes.words) _ _ (status.Refused (clash_refusal 0)) (differ _ _ (omega arith)) w.1 in
    let o = peel h.causes.unread _ _ (status.Refused (clash_refusal 0)) (differ _ _ (omega arith)) p.1 in
    false≢true (sym o.0 ∙ h.status.unread)

pub refused_though_good_refused : ¬ (RunsStreams refused_though_good)
refused_though_good_refused h =
    let told = refused_is (clash_refusal 0) h.causes h.status.status in
    ⊎_elim
    (λ (x : StopsBefore refused_though_good h.causes). none_some (sym x.refused ∙ told))
    (λ (x : RunsInput refused_though_good h.causes None). none_some (sym (done_for refused_though_good h.causes [] (Ok (plan_by_default [])) refl nothing_means x).0 ∙ told))
    (done_of refused_though_good h refl (omega arith))

pub never_read_refused : ¬ (RunsStreams never_read)
never_read_refused h =
    let d = nothing_done never_read h.causes clash (clash_refusal 0) refl clash_means (done_of never_read h refl (omega arith)) in
    let e = ap (λ (s : SinkTold). length (bytes_of s.written)) d.out in omega (arith, e)

pub drained_refused : (bytes : List ℕ) → 1048577 < length bytes → ¬ (RunsStreams (drained bytes))
drained_refused bytes long h =
    ⊎_elim
    (λ (x : StopsBefore (drained bytes) h.causes). let e = ap (λ (s : SourceTold). length (bytes_left s)) x.taken.told in let d = length-drop x.taken.count bytes in let f = x.taken.few in omega (arith, e, d, f, long))
    (λ (x : RunsInput (drained bytes) h.causes None). let e = ap (λ (s : SourceTold). s.faults) x.input.told in omega (arith, e))
    (done_of (drained bytes) h refl (omega arith))

pub made_though_refused_refused : ¬ (RunsStreams made_though_refused)
made_though_refused_refused h =
    let d = nothing_done made_though_refused h.causes clash (clash_refusal 0) refl clash_means (done_of made_though_refused h refl (omega arith)) in
    let e = ap (λ (t : DepotTold). length t.made) d.depot in omega (arith, e)

pub refusal_printed_refused : ¬ (RunsStreams refusal_printed)
refusal_printed_refused h =
    let d = nothing_done refusal_printed h.causes clash (clash_refusal 0) refl clash_means (done_of refusal_printed h refl (omega arith)) in
    let e = ap (λ (s : SinkTold). length (bytes_of s.written)) d.out in omega (arith, e)

pub read_by_cat_refused : ¬ (RunsStreams read_by_cat)
read_by_cat_refused h = let e = ap (λ (s : SourceTold). length (bytes_left s)) (nothing_read read_by_cat h refl).kept in omega (arith, e)

-- a description that is too long is refused
long_refused : (c : Call) (k : Causes) (bytes : List ℕ) → 1048576 < length bytes → DoesPlan c k None (plan_of bytes) → k.refused ≢ None
long_refused c k bytes long d none =
    let e : nat_le (length bytes) most_bytes ≡ false = lt-leb (length bytes) most_bytes long in
    let q = rw e at d in
    none_some (sym none ∙ q.0)

pub end_not_read_refused : ¬ (RunsStreams end_not_read)
end_not_read_refused h =
    let g = good h.causes h.status.status in
    ⊎_elim
    (λ (x : StopsBefore end_not_read h.causes). ⊎_elim (λ u. false≢true (sym h.status.unread ∙ u)) (λ m. false≢true (sym g.memory ∙ m)) x.cause)
    (λ (x : RunsInput end_not_read h.causes None).
    let long = ltb-false (length x.bytes) 1048577 (sym (ap (λ (s : SourceTold). s.ended) x.input.told)) in
    long_refused end_not_read h.causes x.bytes (omega (arith, long)) x.plan g.refused)
    (done_of end_not_read h refl (omega arith))
