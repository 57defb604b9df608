-- A call that doesn't tell of a read which failed is refused.
use Rattle.std.proofs.Common.{◌≡◌, ◌+◌, false, [], refl, ap, ◌∙◌, subst, ⊎_elim, arith}
use Rattle.std.specs.Prelude.{codes}
use Rattle.chunk_core.specs.Lists.IsAmong.{here}
use Rattle.chunk_core.specs.declared.code.Exit.TheVariants.{Canceled}
use Rattle.chunk_core.specs.declared.code.How.TheVariants as how
use Rattle.device_port.specs.Device.{DeviceTold}
use Rattle.run_rules.specs.Outputs.{IsReported}
use Rattle.flume_cli.specs.Headline.{RunsStreams}
use Rattle.run_laws.proofs.Housed.{moved}
use Rattle.run_laws.proofs.Untold.{below_one, memory_is_no_fault, memory_is_not_halted, unfailed}
use Rattle.headline_laws.specs.Calls.{closed_device}
use Rattle.headline_laws.specs.Surplus.{failed_read_told_as_memory}
use Rattle.headline_laws.proofs.Asked.{work_of}
use Rattle.headline_laws.proofs.Refusing.{an_end, ran_with_ends}

-- the device of which a read failed
abbrev cut_off : DeviceTold
cut_off = closed_device (codes "hello\n") 2 false Canceled 1 0

-- the run that the end tells of is one over this device, and wanting memory is told only where nothing of it failed
pub failed_read_told_as_memory_refused : ¬ (RunsStreams failed_read_told_as_memory)
failed_read_told_as_memory_refused h =
    let r = ran_with_ends failed_read_told_as_memory h.causes (work_of failed_read_told_as_memory h refl (an_end _ [])) (an_end _ []) in
    let exit = r.exits.0 in
    let same : exit.how ≡ how.Memory = ⊎_elim (λ e. e) (λ z. absurd (memory_is_not_halted z.halted)) exit.same in
    let run = exit.ran 0 refl in
    let at = r.rows.housed cut_off (here []) in
    let home : cut_off ≡ r.home 0 = moved r.home cut_off at.0 0 at.2 (below_one at.0 at.1) in
    let none = ap (λ (x : DeviceTold). x.open_faults + x.read_faults) home ∙ unfailed (r.home 0) run.1 how.Memory (subst (λ x. IsReported run.1 x) same run.3) memory_is_no_fault run.2.1 in
    omega (arith, none)
