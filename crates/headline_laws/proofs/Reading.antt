-- The source of a description is read whole.
use Rattle.std.proofs.Common.{◌≡◌, ◌≢◌, ◌⊎◌, Option, ℕ, true, false, nat_lt, length, Some, None, inl, inr, refl, ap, ◌∙◌, subst, ⊎_elim, arith}
use Rattle.std.proofs.lemmas.Bool.{both_ways, cases_Bool, ltb-false}
use Rattle.device_port.specs.Source.{SourceTold, without_front}
use Rattle.device_port.specs.Sink.{SinkTold}
use Rattle.command_words.specs.declared.asked.Asked.TheVariants.{Run}
use Rattle.flume_cli.specs.Input.{most_input}
use Rattle.flume_cli.specs.Status.{Causes, status_number, status_of}
use Rattle.command_words.specs.Words.{command_of}
use Rattle.flume_cli.specs.Headline.{Call, RunsInput, RunsStreams, StopsBefore, is_meant}
use Rattle.flume_cli.proofs.Parts.{runs_streams}
use Rattle.flume_cli.proofs.Telling.{kept}
use Rattle.headline_laws.specs.Whole.{DescriptionsAreReadWhole, IsReadWhole}
use Rattle.headline_laws.proofs.Asked.{done_if, not_early}

-- the status of a run that stopped before
stopped_as : (k : Causes) → k.early ≡ false → k.words ≡ true → k.refused ≡ None → k.unwritten ≡ false → (k.unread ≡ true) ⊎ (k.memory ≡ true) → (status_number (status_of k) ≡ 5) ⊎ (status_number (status_of k) ≡ 6)
stopped_as k e w r u cause =
    ⊎_elim
    (λ (x : k.unread ≡ true). inr (rw (e, w, x) refl))
    (λ (x : k.unread ≡ false). let m : k.memory ≡ true = ⊎_elim (λ y. absurd (both_ways k.unread x y)) (λ m. m) cause in inl (rw (e, w, x, r, u, m) refl))
    (cases_Bool k.unread)

-- as many bytes were read as are read at most
read_enough : (c : Call) (n : ℕ) → n ≡ most_input → c.source_new ≡ record (without_front n c.source_old) { ended = nat_lt n most_input } → IsReadWhole c
read_enough c n e is = inr (subst (λ k. c.source_new ≡ record (without_front k c.source_old) { ended = nat_lt k most_input }) e is)

runs_whole : (c : Call) (most : Option ℕ) → RunsStreams c → command_of c.words ≡ Some (Run most) → status_number c.status ≢ 5 → status_number c.status ≢ 6 → IsReadWhole c
runs_whole c most h asks no5 no6 =
    let k = h.causes in
    let e = not_early c.status k.early _ no5 h.status.status in
    ⊎_elim
    (λ (x : StopsBefore c k).
    let calm = h.status.unwritten ∙ kept c.out_old.faults c.out_new.faults (ap (λ (s : SinkTold). s.faults) x.nothing.out) in
    let told = ap status_number h.status.status in
    absurd (⊎_elim (λ n. no5 (told ∙ n)) (λ n. no6 (told ∙ n)) (stopped_as k e (h.status.words ∙ ap is_meant asks) x.refused calm x.cause)))
    (λ (x : RunsInput c k most).
    ⊎_elim
    (λ short. inl (ap (λ (s : SourceTold). s.ended) x.input.told ∙ short))
    (λ long. let many = ltb-false (length x.bytes) most_input long in let few = x.input.few in read_enough c (length x.bytes) (omega (arith, many, few)) x.input.told)
    (cases_Bool (nat_lt (length x.bytes) most_input)))
    (done_if c k (Some (Run most)) asks e h.does)

pub read_whole : DescriptionsAreReadWhole
read_whole c most h asks no5 no6 = runs_whole c most (runs_streams c (Some (Run most)) asks refl h) asks no5 no6
