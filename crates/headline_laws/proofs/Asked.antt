-- What the words of the calls ask for, and what is done for it.
use Rattle.std.proofs.Common.{◌≡◌, ◌≢◌, ℕ, Bool, true, false, List, [], ◌∷◌, Option, Some, None, refl, sym, ap, subst}
use Rattle.std.specs.Prelude.{codes, if◌then◌else◌}
use Rattle.clap.proofs.OnLiterals.{clap_on_literals}
use Rattle.command_words.specs.Words.{command_of}
use Rattle.command_words.specs.declared.asked.Asked.{Asked}
use Rattle.command_words.specs.declared.asked.Asked.TheVariants.{Cat, Run}
use Rattle.cat_run.specs.Cat.{cat_work}
use Rattle.flume_cli.specs.declared.status.Status.{Status}
use Rattle.flume_cli.specs.declared.status.Status.TheVariants as status
use Rattle.flume_cli.specs.Status.{Causes, status_number}
use Rattle.flume_cli.specs.Headline.{Call, DidNothing, Does, HasStatus, Headline, KeepsSource, ReadsNothing, RunsStreams, TellsWork, asked_of, is_meant}
use Rattle.flume_cli.proofs.Calling.{done_for, source_for}
use Rattle.flume_cli.proofs.Parts.{asks_audit, runs_streams}
use Rattle.headline_laws.specs.Calls.{a}

cat_asks : command_of (codes "cat" ∷ a ∷ []) ≡ Some (Cat 4096 a)
unfolding clap_on_literals
cat_asks = refl

pub run_asks : command_of (codes "run" ∷ []) ≡ Some (Run None)
unfolding clap_on_literals
run_asks = refl

chunk_asks : command_of (codes "cat" ∷ codes "--chunk" ∷ codes "4" ∷ a ∷ []) ≡ Some (Cat 4 a)
unfolding clap_on_literals
chunk_asks = refl

-- both mean something
pub cat_means : true ≡ is_meant (command_of (codes "cat" ∷ a ∷ []))
cat_means = sym (ap is_meant cat_asks)

pub run_means : true ≡ is_meant (command_of (codes "run" ∷ []))
run_means = sym (ap is_meant run_asks)

-- what was done, where there was memory to read the words
pub done_if : (c : Call) (k : Causes) (asked : Option Asked) → command_of c.words ≡ asked → k.early ≡ false → Does c k (asked_of c k) → Does c k asked
done_if c k asked is e d = subst (λ q. Does c k q) is (subst (λ b. Does c k (if b then None else command_of c.words)) e d)

pub asks_as : (words given : List (List ℕ)) (asked : Option Asked) → words ≡ given → command_of given ≡ asked → command_of words ≡ asked
asks_as words given asked e is = subst (λ ws. command_of ws ≡ asked) (sym e) is

-- a call of other words than those of an audit is refused where it is as no call is that runs streams
pub refuses : (c : Call) (asked : Option Asked) → command_of c.words ≡ asked → asks_audit asked ≡ false → ¬ (RunsStreams c) → ¬ (Headline c)
refuses c asked is other n h = n (runs_streams c asked is other h)

pub refuses_cat : (c : Call) → c.words ≡ (codes "cat" ∷ a ∷ []) → ¬ (RunsStreams c) → ¬ (Headline c)
refuses_cat c words n = refuses c (Some (Cat 4096 a)) (asks_as _ _ _ words cat_asks) refl n

pub refuses_run : (c : Call) → c.words ≡ (codes "run" ∷ []) → ¬ (RunsStreams c) → ¬ (Headline c)
refuses_run c words n = refuses c (Some (Run None)) (asks_as _ _ _ words run_asks) refl n

pub refuses_chunk : (c : Call) → c.words ≡ (codes "cat" ∷ codes "--chunk" ∷ codes "4" ∷ a ∷ []) → ¬ (RunsStreams c) → ¬ (Headline c)
refuses_chunk c words n = refuses c (Some (Cat 4 a)) (asks_as _ _ _ words chunk_asks) refl n

-- nothing was done where there was no memory to read the words
pub unless_early : (c : Call) (k : Causes) (b : Bool) → c.ends ≢ [] → Does c k (if b then None else command_of c.words) → b ≡ false
unless_early c k true some d = absurd (some d.ends)
unless_early c k false some d = refl

pub not_early : (s : Status) (b : Bool) (t : Status) → status_number s ≢ 5 → s ≡ (if b then status.Memory else t) → b ≡ false
not_early s true t n e = absurd (n (ap status_number e))
not_early s false t n e = refl

-- what was done for cat, where there are ends
pub work_of : (c : Call) (h : RunsStreams c) → c.words ≡ (codes "cat" ∷ a ∷ []) → c.ends ≢ [] → TellsWork (cat_work a) c h.causes
work_of c h words some = (done_if c h.causes (Some (Cat 4096 a)) (asks_as _ _ _ words cat_asks) (unless_early c h.causes h.causes.early some h.does) h.does).0

pub frames_of : (c : Call) (h : RunsStreams c) → c.words ≡ (codes "cat" ∷ codes "--chunk" ∷ codes "4" ∷ a ∷ []) → c.ends ≢ [] → Does c h.causes (Some (Cat 4 a))
frames_of c h words some = done_if c h.causes (Some (Cat 4 a)) (asks_as _ _ _ words chunk_asks) (unless_early c h.causes h.causes.early some h.does) h.does

-- nothing was done for words that mean nothing
pub idle_of : (c : Call) (h : RunsStreams c) → command_of c.words ≡ None → DidNothing c
idle_of c h is = go h.causes.early h.does
  where
    go : (b : Bool) → Does c h.causes (if b then None else command_of c.words) → DidNothing c
    go true d = d
    go false d = subst (λ q. Does c h.causes q) is d

-- what was done for run, where the status isn't that of want of memory
pub done_of : (c : Call) (h : RunsStreams c) → c.words ≡ (codes "run" ∷ []) → status_number c.status ≢ 5 → Does c h.causes (Some (Run None))
done_of c h words n = done_if c h.causes (Some (Run None)) (asks_as _ _ _ words run_asks) (not_early c.status h.causes.early _ n h.status.status) h.does

-- cat reads nothing
pub nothing_read : (c : Call) (h : RunsStreams c) → c.words ≡ (codes "cat" ∷ a ∷ []) → ReadsNothing c h.causes
nothing_read c h words = go h.causes.early h.source
  where
    go : (b : Bool) → KeepsSource c h.causes (if b then None else command_of c.words) → ReadsNothing c h.causes
    go true s = s
    go false s = subst (λ q. KeepsSource c h.causes q) (asks_as _ _ _ words cat_asks) s

-- a call of cat and one of run, from their parts
pub cat_holds : (c : Call) (k : Causes) → c.words ≡ (codes "cat" ∷ a ∷ []) → k.early ≡ false → HasStatus c k → ReadsNothing c k → Does c k (Some (Cat 4096 a)) → RunsStreams c
cat_holds c k words e s source does =
    let is = asks_as _ _ _ words cat_asks in
    record { causes = k; status = s; source = source_for c k (Some (Cat 4096 a)) e is source; does = done_for c k (Some (Cat 4096 a)) e is does }

pub run_holds : (c : Call) (k : Causes) → c.words ≡ (codes "run" ∷ []) → k.early ≡ false → HasStatus c k → Does c k (Some (Run None)) → RunsStreams c
run_holds c k words e s does =
    let is = asks_as _ _ _ words run_asks in
    record { causes = k; status = s; source = source_for c k (Some (Run None)) e is tt; does = done_for c k (Some (Run None)) e is does }
