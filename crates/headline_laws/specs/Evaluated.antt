-- Calls of eval: what every one prints in which nothing failed, and some that are written out.
use Rattle.std.specs.Prelude.{◌≡◌, ◌⊎◌, ℕ, true, List, [], ◌∷◌, ◌++◌, Some, Ok, codes}
use Rattle.std.specs.List.{AllByRecursion}
use Rattle.chunk_core.specs.Texts.{Frame, frames_text}
use Rattle.chunk_core.specs.declared.code.Exit.TheVariants.{Succeeded}
use Rattle.chunk_core.specs.declared.code.How.{How}
use Rattle.chunk_core.specs.declared.code.How.TheVariants as how
use Rattle.device_port.specs.Depot.{content_at}
use Rattle.device_port.specs.Device.{DeviceTold, faults_of}
use Rattle.device_port.specs.Sink.{with_bytes}
use Rattle.run_rules.specs.Devices.{came_back}
use Rattle.run_rules.specs.Texts.{tail_text}
use Rattle.command_words.specs.Words.{command_of}
use Rattle.command_words.specs.declared.asked.Asked.TheVariants.{Eval}
use Rattle.pipeline_desc.specs.declared.step.Step.{Step}
use Rattle.step_words.specs.Words.{steps_of}
use Rattle.eval_rules.specs.Answers.{answer_to, how_of}
use Rattle.flume_cli.specs.declared.status.Status.TheVariants as status
use Rattle.flume_cli.specs.Status.{status_number}
use Rattle.flume_cli.specs.Headline.{Call, Headline}
use Rattle.headline_laws.specs.Calls.{a, closed_device, depot_after, depot_before, end_of_0, no_input, one_row_ledger, output_of}

-- the call ended with status 0 or 1 and no device failed; the file had these bytes
pub record IsCalm (path bytes : List ℕ) (c : Call) : Type 0 where
  pub status : (status_number c.status ≡ 0) ⊎ (status_number c.status ≡ 1)
  pub devices : AllByRecursion (λ d. faults_of d ≡ 0) (came_back c.depot_old c.depot_new)
  pub content : content_at c.depot_old.files path ≡ Some bytes

-- these frames were printed, and behind them the tail
abbrev pub PrintsFrames : List Frame → Call → Type 0
PrintsFrames frames c = c.out_new.written ≡ (with_bytes c.out_old (frames_text frames ++ tail_text c.ends c.events)).written

-- the answer of one thread was printed, and the one end is its end
pub record IsAnswer (steps : List Step) (n : ℕ) (bytes : List ℕ) (c : Call) : Type 0 where
  pub printed : PrintsFrames (answer_to steps n bytes).frames c
  pub ends : c.ends ≡ end_of_0 (how_of (answer_to steps n bytes).end) ∷ []

-- so each call of eval does in which nothing failed
abbrev pub EvaluationsAnswer : Type 0
EvaluationsAnswer = (c : Call) (jobs n : ℕ) (path word bytes : List ℕ) (steps : List Step) → Headline c → command_of c.words ≡ Some (Eval jobs n path word) → steps_of word ≡ Ok steps → IsCalm path bytes c → IsAnswer steps n bytes c

-- two of them print the same frames and ends, however many hands each has
abbrev pub HandsPrintTheSame : Type 0
HandsPrintTheSame = (c d : Call) (i j n : ℕ) (path word bytes : List ℕ) (steps : List Step) → Headline c → Headline d → command_of c.words ≡ Some (Eval i n path word) → command_of d.words ≡ Some (Eval j n path word) → steps_of word ≡ Ok steps → IsCalm path bytes c → IsCalm path bytes d
    → (frames : List Frame) × PrintsFrames frames c × PrintsFrames frames d × (c.ends ≡ d.ends)

-- eval --group 1 a lines, of a file of the lines `x` and `y`: the device, what was printed before the ledger, the status and the end
abbrev pub two_lines : List ℕ
two_lines = codes "x\ny\n"

abbrev pub lines_device : DeviceTold
lines_device = closed_device two_lines 4 true Succeeded 0 0

abbrev pub eval_call : DeviceTold → List ℕ → How → Call
eval_call d text h = record {
  words = codes "eval" ∷ codes "--group" ∷ codes "1" ∷ a ∷ codes "lines" ∷ [];
  source_old = no_input;
  source_new = no_input;
  depot_old = depot_before two_lines;
  depot_new = depot_after two_lines (d ∷ []);
  out_old = output_of [] 0;
  out_new = output_of (text ++ codes "ledger 3\n0 acquire 0 0\n0 close 0 succeeded\n0 final 0 succeeded ok\n") 0;
  err_old = output_of [] 0;
  err_new = output_of [] 0;
  status = status.Good;
  ends = end_of_0 h ∷ [];
  events = one_row_ledger Succeeded true;
}

-- each line is a group
abbrev pub two_groups : Call
two_groups = eval_call lines_device (codes "0 2\nx\n\n0 2\ny\n\nend 0 done\n") how.Done

-- With one thing wrong.

-- the second group came first
abbrev pub groups_swapped : Call
groups_swapped = eval_call lines_device (codes "0 2\ny\n\n0 2\nx\n\nend 0 done\n") how.Done

-- the second group is lost
abbrev pub group_lost : Call
group_lost = eval_call lines_device (codes "0 2\nx\n\nend 0 done\n") how.Done

-- both lines are one group
abbrev pub groups_joined : Call
groups_joined = eval_call lines_device (codes "0 4\nx\ny\n\nend 0 done\n") how.Done

-- it was halted, and nothing failed
abbrev pub evaluation_halted : Call
evaluation_halted = eval_call lines_device (codes "0 2\nx\n\n0 2\ny\n\nend 0 halted\n") how.Halted

-- the device came back open
abbrev pub evaluated_and_open : Call
evaluated_and_open = eval_call (record lines_device { is_open = true }) (codes "0 2\nx\n\n0 2\ny\n\nend 0 done\n") how.Done
