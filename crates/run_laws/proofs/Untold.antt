-- Each run that doesn't tell of a failure is refused.
use Rattle.std.proofs.Common.{◌≡◌, ℕ, ◌+◌, ◌<◌, ◌≤◌, List, [], ◌∷◌, refl, ap, ◌∙◌, subst, ⊎_elim, arith}
use Rattle.std.specs.List.{AllByRecursion}
use Rattle.chunk_core.specs.Lists.IsAmong.{here}
use Rattle.chunk_core.specs.Outcomes.{End, Outcomes}
use Rattle.chunk_core.specs.declared.code.Code.{Code}
use Rattle.chunk_core.specs.declared.code.Code.TheVariants as code
use Rattle.chunk_core.specs.declared.code.How.{How}
use Rattle.chunk_core.specs.declared.code.How.TheVariants as how
use Rattle.device_port.specs.Device.{DeviceTold}
use Rattle.pull_nodes.specs.Failures.{FileTells}
use Rattle.pull_nodes.specs.Runs.{Reads, Taken}
use Rattle.pull_nodes.specs.declared.pipe.Pipe.TheVariants as pipe
use Rattle.run_rules.specs.Exits.{HasOneExit}
use Rattle.run_rules.specs.Homes.{IsBack}
use Rattle.run_rules.specs.Outputs.{IsReported}
use Rattle.run_rules.specs.Run.{IsUnmade, Performs, Ran}
use Rattle.run_rules.specs.Work.{RunRecord}
use Rattle.run_laws.specs.Streams.{InFile, Leaves, ThroughPipe}
use Rattle.run_laws.specs.Untold.{AreUntold, failed_open_told_as_memory, failed_read_told_as_memory, read_again_behind_a_failure, taker_reads_on, telling_work, cut_off_device, unread_device}
use Rattle.run_laws.specs.Files.{path_a}
use Rattle.run_laws.specs.Written.{ends_of, missing_device}
use Rattle.run_laws.proofs.Housed.{moved}

-- an end that is no fault tells of no failure
pub unfailed : (d : DeviceTold) (e : End) (h : How) → IsReported e h → ((c : Code) → h ≡ how.Fault c → ⊥) → FileTells d e → d.open_faults + d.read_faults ≡ 0
unfailed d e h told never = ⊎_elim
    (λ i. ⊎_elim (λ j. omega (arith, i.0, j.0)) (λ j. absurd (never code.Read (subst (λ x. IsReported x h) j.1 told))) i.1)
    (λ i. absurd (never code.Open (subst (λ x. IsReported x h) i.1 told)))

pub below_one : (r : ℕ) → r < 1 → r ≡ 0
below_one r l = omega (arith, l)

module _ (A : DeviceTold → Outcomes) (c : RunRecord) (h : How) (d : DeviceTold) where
  -- a run of one stream that ended so, which is no fault and isn't halted, has no device that failed
  none_failed : Ran (telling_work A) c → c.ends ≡ ends_of how.Done (h ∷ []) → IsBack c d → ((g : Code) → h ≡ how.Fault g → ⊥) → (h ≡ how.Halted → ⊥) → d.open_faults + d.read_faults ≡ 0
  none_failed r ends back unfaulted unhalted =
      let exits = subst (λ es. AllByRecursion (HasOneExit (telling_work A) c r.values r.home) es) ends r.exits in
      let exit = exits.1.0 in
      let same : exit.how ≡ h = ⊎_elim (λ e. e) (λ z. absurd (unhalted z.halted)) exit.same in
      let run = exit.ran 0 refl in
      let at = r.rows.housed d back in
      let home : d ≡ r.home 0 = moved r.home d at.0 0 at.2 (below_one at.0 at.1) in
      ap (λ (x : DeviceTold). x.open_faults + x.read_faults) home ∙ unfailed (r.home 0) run.1 h (subst (λ x. IsReported run.1 x) same run.3) unfaulted run.2.1

  refuses : (c.ends ≡ [] → ⊥) → c.ends ≡ ends_of how.Done (h ∷ []) → IsBack c d → ((g : Code) → h ≡ how.Fault g → ⊥) → (h ≡ how.Halted → ⊥) → 1 ≤ d.open_faults + d.read_faults → ¬ (Performs (telling_work A) c)
  refuses some ends back unfaulted unhalted failed p =
      let none : d.open_faults + d.read_faults ≡ 0 = ⊎_elim (λ (u : IsUnmade c). absurd (some u.ends)) (λ r. none_failed r ends back unfaulted unhalted) p.ran in
      omega (arith, none, failed)

pub memory_is_no_fault : (g : Code) → how.Memory ≡ how.Fault g → ⊥
memory_is_no_fault g e = cc

pub memory_is_not_halted : how.Memory ≡ how.Halted → ⊥
memory_is_not_halted e = cc

done_is_no_fault : (g : Code) → how.Done ≡ how.Fault g → ⊥
done_is_no_fault g e = cc

done_is_not_halted : how.Done ≡ how.Halted → ⊥
done_is_not_halted e = cc

no_nil : {A : Type 0} (x : A) (xs : List A) → x ∷ xs ≡ [] → ⊥
no_nil x xs e = cc

-- at least one
some : (n : ℕ) → 0 < n → 1 ≤ n
some n l = omega (arith, l)

pub untold : AreUntold
untold = record {
  memory = refuses (λ d. InFile d (Reads d)) failed_read_told_as_memory how.Memory (unread_device 1 how.Memory) (no_nil _ _) refl (here _) memory_is_no_fault memory_is_not_halted (some 1 (omega arith));
  again = refuses (λ d. InFile d (Reads d)) read_again_behind_a_failure how.Memory (unread_device 2 how.Memory) (no_nil _ _) refl (here _) memory_is_no_fault memory_is_not_halted (some 2 (omega arith));
  opening = refuses (λ d. InFile d (Reads d)) failed_open_told_as_memory how.Memory (missing_device 0 path_a) (no_nil _ _) refl (here _) memory_is_no_fault memory_is_not_halted (some 1 (omega arith));
  reads_on = refuses (λ d. InFile d (Taken 2 (Leaves (ThroughPipe (Leaves (Reads d)) pipe.Lines)))) taker_reads_on how.Done cut_off_device (no_nil _ _) refl (here _) done_is_no_fault done_is_not_halted (some 1 (omega arith));
}
