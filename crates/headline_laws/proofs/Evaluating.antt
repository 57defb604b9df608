-- Calls of eval: what each prints in which nothing failed, and that calls with one thing wrong are refused.
use Rattle.std.proofs.Common.{◌≡◌, ◌⊎◌, ℕ, ◌+◌, Bool, true, false, List, [], ◌∷◌, ◌++◌, Option, Some, None, is_some, inl, inr, refl, sym, ap, ◌∙◌, subst, ⊎_elim, arith, Ok, zero, suc}
use Rattle.std.specs.Prelude.{codes}
use Rattle.std.specs.Fmt.{digits}
use Rattle.std.proofs.lemmas.Bool.{false≢true}
use Rattle.clap.proofs.OnLiterals.{clap_on_literals}
use Rattle.chunk_core.specs.Texts.{Frame, IsRestOf, frames_text}
use Rattle.chunk_core.specs.declared.code.How.{How}
use Rattle.chunk_core.specs.declared.code.How.TheVariants as how
use Rattle.command_words.specs.Words.{command_of}
use Rattle.command_words.specs.declared.asked.Asked.TheVariants.{Eval}
use Rattle.device_port.specs.Sink.{with_bytes}
use Rattle.pipeline_desc.specs.declared.refusal.Refusal.{Refusal}
use Rattle.pipeline_desc.specs.declared.step.Step.{Step}
use Rattle.pipeline_desc.specs.declared.step.Step.TheVariants as step
use Rattle.pull_nodes.specs.Lines.{ended_lines, open_line, without_pairs}
use Rattle.pull_nodes.specs.declared.pipe.Pipe.TheVariants as pipe
use Rattle.run_rules.specs.declared.end.EndOf.{EndOf}
use Rattle.run_rules.specs.Run.{IsUnmade}
use Rattle.run_rules.specs.Texts.{tail_text}
use Rattle.run_rules.specs.Work.{RunRecord}
use Rattle.step_words.specs.Words.{steps_of}
use Rattle.eval_rules.specs.Answers.{answer_to, how_of}
use Rattle.eval_rules.specs.Evaluation.{HasRun, PrintsAnswer}
use Rattle.flume_cli.specs.declared.status.Status.{Status}
use Rattle.flume_cli.specs.declared.status.Status.TheVariants as status
use Rattle.flume_cli.specs.Status.{Causes, status_number, status_of}
use Rattle.flume_cli.specs.Headline.{Call, DoesChain, Headline, RunsStreams, SaysBegun, SaysTail, TellsEvaluation, run_of_call}
use Rattle.flume_cli.proofs.Parts.{runs_streams}
use Rattle.headline_laws.specs.Calls.{a}
use Rattle.headline_laws.specs.Evaluated.{EvaluationsAnswer, HandsPrintTheSame, IsAnswer, IsCalm, evaluated_and_open, evaluation_halted, group_lost, groups_joined, groups_swapped, two_groups, two_lines}
use Rattle.headline_laws.proofs.Asked.{asks_as, done_if, refuses, unless_early}
use Rattle.headline_laws.proofs.Refusing.{an_end}

abbrev IsLow : ℕ → Type 0
IsLow n = (n ≡ 0) ⊎ (n ≡ 1)

high : (n : ℕ) → IsLow (n + 2) → ⊥
high n (inl e) = omega (arith, e)
high n (inr e) = omega (arith, e)

-- what the statuses 0 and 1 tell of their causes
pub record Calm (k : Causes) : Type 0 where
  pub early : k.early ≡ false
  pub words : k.words ≡ true
  pub unwritten : k.unwritten ≡ false
  pub memory : k.memory ≡ false

abbrev cause : Bool → Bool → Bool → Option Refusal → Bool → Bool → Bool → Bool → Causes
cause e w u r o m f n = record { early = e; words = w; unread = u; refused = r; unwritten = o; memory = m; faulty = f; unclean = n }

calm_by : (e w u : Bool) (r : Option Refusal) (o m f n : Bool) → IsLow (status_number (status_of (cause e w u r o m f n))) → Calm (cause e w u r o m f n)
calm_by true w u r o m f n l = absurd (high 3 l)
calm_by false false u r o m f n l = absurd (high 0 l)
calm_by false true true r o m f n l = absurd (high 4 l)
calm_by false true false (Some x) o m f n l = absurd (high 1 l)
calm_by false true false None true m f n l = absurd (high 2 l)
calm_by false true false None false true f n l = absurd (high 3 l)
calm_by false true false None false false f n l = record { early = refl; words = refl; unwritten = refl; memory = refl }

calm_of : (k : Causes) (s : Status) → s ≡ status_of k → IsLow (status_number s) → Calm k
calm_of k s is l = calm_by k.early k.words k.unread k.refused k.unwritten k.memory k.faulty k.unclean (subst (λ x. IsLow (status_number x)) is l)

said_all : (said tail : List ℕ) (s : Status) → IsLow (status_number s) → SaysBegun said tail s → said ≡ tail
said_all said tail status.Good l h = h
said_all said tail status.Faulty l h = h
said_all said tail status.Broken l h = h
said_all said tail status.BadWords l h = h
said_all said tail (status.Refused r) l h = h
said_all said tail status.NotWritten l h = absurd (high 2 l)
said_all said tail status.Memory l h = absurd (high 3 l)
said_all said tail status.Unread l h = h
said_all said tail status.Unclean l h = h
said_all said tail (status.LedgerRefused r) l h = h
said_all said tail status.LedgerUnread l h = h

pub record Whole (cut : Option Frame) (wanted : Bool) (said tail : List ℕ) : Type 0 where
  pub cut_is : cut ≡ None
  pub wanted_is : wanted ≡ false
  pub said_is : said ≡ tail

whole_by : (k : Causes) → Calm k → (said tail : List ℕ) (s : Status) → IsLow (status_number s) → (cut : Option Frame) (wanted : Bool) → SaysTail k said tail s (is_some cut) wanted → Whole cut wanted said tail
whole_by k g said tail s l (Some f) wanted h = absurd (false≢true (sym g.unwritten ∙ h.0))
whole_by k g said tail s l None true h = absurd (false≢true (sym g.memory ∙ h.1))
whole_by k g said tail s l None false h = record { cut_is = refl; wanted_is = refl; said_is = said_all said tail s l h }

-- a call that told of an evaluation, in which nothing failed
module _ (c : Call) (k : Causes) (g : Calm k) (path : List ℕ) (steps : List Step) (n : ℕ) (bytes : List ℕ) (calm : IsCalm path bytes c) (t : TellsEvaluation path steps n c k) where
  w : Whole t.cut t.wanted t.text.said (tail_text c.ends c.events)
  w = whole_by k g t.text.said (tail_text c.ends c.events) c.status calm.status t.cut t.wanted t.text.tail

  abbrev did : RunRecord
  did = run_of_call c t.frames t.cut t.rest t.wanted

  ran : HasRun path steps n did
  ran = ⊎_elim (λ (u : IsUnmade did). absurd (false≢true (sym w.wanted_is ∙ u.memory))) (λ r. r) t.performs.ran

  prints : PrintsAnswer steps n bytes did
  prints = ran.completeness bytes calm.content (record { memory = w.wanted_is; written = w.cut_is; devices = calm.devices })

  nothing_left : t.rest ≡ []
  nothing_left = subst (λ f. IsRestOf f t.rest) w.cut_is ran.rest

  answers : IsAnswer steps n bytes c
  answers = record {
    printed = t.text.written
        ∙ ap (λ b. (with_bytes c.out_old b).written) (ap (λ (fs : List Frame). frames_text fs ++ (t.rest ++ t.text.said)) prints.frames
        ∙ (ap (λ r. frames_text (answer_to steps n bytes).frames ++ (r ++ t.text.said)) nothing_left ∙ ap (λ s. frames_text (answer_to steps n bytes).frames ++ s) w.said_is));
    ends = prints.ends;
  }

pub answer_of_call : EvaluationsAnswer
answer_of_call c jobs n path word bytes steps h asks chain calm =
    let r = runs_streams c (Some (Eval jobs n path word)) asks refl h in
    let g = calm_of r.causes c.status r.status.status calm.status in
    let does = subst (λ m. DoesChain path n m c r.causes) chain (done_if c r.causes (Some (Eval jobs n path word)) asks g.early r.does) in
    answers c r.causes g path steps n bytes calm does

pub the_same : HandsPrintTheSame
the_same c d i j n path word bytes steps h g asks_c asks_d chain calm_c calm_d =
    let x = answer_of_call c i n path word bytes steps h asks_c chain calm_c in
    let y = answer_of_call d j n path word bytes steps g asks_d chain calm_d in
    ((answer_to steps n bytes).frames, x.printed, y.printed, x.ends ∙ sym y.ends)

-- Calls that are refused.

pub eval_asks : command_of two_groups.words ≡ Some (Eval 4 1 a (codes "lines"))
unfolding clap_on_literals
eval_asks = refl

abbrev pub splitting : List Step
splitting = step.Pipe pipe.Lines ∷ []

pub chain_is : steps_of (codes "lines") ≡ Ok splitting
chain_is = refl

abbrev pub answer_frames : List Frame
answer_frames = record { stream = 0; payload = codes "x\n" } ∷ record { stream = 0; payload = codes "y\n" } ∷ []

pub answer_is : (answer_to splitting 1 two_lines).frames ≡ answer_frames
unfolding without_pairs ended_lines open_line
answer_is = refl

pub answer_ends : how_of (answer_to splitting 1 two_lines).end ≡ how.Done
unfolding without_pairs ended_lines open_line
answer_ends = refl

-- a call of these words over that file prints the answer
answered : (c : Call) → c.words ≡ two_groups.words → IsCalm a two_lines c → Headline c → IsAnswer splitting 1 two_lines c
answered c words calm h = answer_of_call c 4 1 a (codes "lines") two_lines splitting h (asks_as _ _ _ words eval_asks) chain_is calm

abbrev bytes_in : Option (List ℕ) → List ℕ
bytes_in None = []
bytes_in (Some b) = b

abbrev nth : ℕ → List ℕ → ℕ
nth n [] = 0
nth zero (b ∷ bs) = b
nth (suc n) (b ∷ bs) = nth n bs

-- what is printed before the ledger
printed_text : (c : Call) → IsAnswer splitting 1 two_lines c → c.out_new.written ≡ (with_bytes c.out_old (frames_text answer_frames ++ tail_text c.ends c.events)).written
printed_text c x = subst (λ fs. c.out_new.written ≡ (with_bytes c.out_old (frames_text fs ++ tail_text c.ends c.events)).written) answer_is x.printed

pub swapped_refused : ¬ (Headline groups_swapped)
unfolding digits
swapped_refused h =
    let x = answered groups_swapped refl (record { status = inl refl; devices = (refl, tt); content = refl }) h in
    let no : 121 ≡ 120 = ap (λ o. nth 4 (bytes_in o)) (printed_text groups_swapped x) in
    omega (arith, no)

pub lost_refused : ¬ (Headline group_lost)
unfolding digits
lost_refused h =
    let x = answered group_lost refl (record { status = inl refl; devices = (refl, tt); content = refl }) h in
    let no = ap (λ o. nth 7 (bytes_in o)) (printed_text group_lost x) in
    let differs : 101 ≡ 48 = no in
    omega (arith, differs)

pub joined_refused : ¬ (Headline groups_joined)
unfolding digits
joined_refused h =
    let x = answered groups_joined refl (record { status = inl refl; devices = (refl, tt); content = refl }) h in
    let no : 52 ≡ 50 = ap (λ o. nth 2 (bytes_in o)) (printed_text groups_joined x) in
    omega (arith, no)

abbrev first_how : List EndOf → How
first_how [] = how.Done
first_how (e ∷ es) = e.how

pub halted_refused : ¬ (Headline evaluation_halted)
halted_refused h =
    let x = answered evaluation_halted refl (record { status = inl refl; devices = (refl, tt); content = refl }) h in
    let no : how.Halted ≡ how.Done = ap first_how x.ends ∙ answer_ends in
    cc

refuses_eval : (c : Call) → c.words ≡ two_groups.words → ¬ (RunsStreams c) → ¬ (Headline c)
refuses_eval c words n = refuses c (Some (Eval 4 1 a (codes "lines"))) (asks_as _ _ _ words eval_asks) refl n

pub open_refused : ¬ (Headline evaluated_and_open)
open_refused = refuses_eval evaluated_and_open refl (λ h.
    let t = subst (λ m. DoesChain a 1 m evaluated_and_open h.causes) chain_is
    (done_if evaluated_and_open h.causes (Some (Eval 4 1 a (codes "lines"))) eval_asks (unless_early evaluated_and_open h.causes h.causes.early (an_end _ _) h.does) h.does) in
    false≢true (sym t.performs.devices.shut.0.shut))
