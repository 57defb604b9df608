-- The faults of steps are none of a device.
use Rattle.std.proofs.Common.{◌≡◌, ℕ, Bool, true, false, nat_le, if◌then◌else◌, List, [], ◌∷◌, map, take, length, Option, Some, None, refl, sym}
use Rattle.chunk_core.specs.Elements.{Byte, Element, rendering_of}
use Rattle.chunk_core.specs.Feed.{Given}
use Rattle.chunk_core.specs.Outcomes.{Cut, Done, End, Fault}
use Rattle.chunk_core.specs.Tables.{no_values}
use Rattle.chunk_core.specs.declared.code.Code.{Code}
use Rattle.chunk_core.specs.declared.code.Code.TheVariants as code
use Rattle.chain_pipes.specs.Over.{Came, came, over, through}
use Rattle.device_port.specs.Device.{DeviceTold}
use Rattle.eval_rules.specs.Answers.{group_over}
use Rattle.joined_runs.proofs.Reading.{IsCountedBy, counted_as, fault_cut, fault_done, fault_is}
use Rattle.pipeline_desc.specs.declared.step.Step.{Step}
use Rattle.pipeline_desc.specs.declared.step.Step.TheVariants as step
use Rattle.pull_nodes.specs.Laws.{IsNoDeviceFault}
use Rattle.pull_nodes.specs.Pipes.{all_of, part_of}
use Rattle.pull_nodes.specs.Runs.{end_by_fault}
use Rattle.pull_nodes.proofs.PipeLaws.{lawful_pipe}

module _ (X : (DeviceTold → ℕ) → Type 0) where
  -- where it is a fault, no act of a device is named
  abbrev pub IsMild : End → Type 0
  IsMild e = (c : Code) → e ≡ Fault c → IsCountedBy X c

  of_own : (c : Code) → IsNoDeviceFault (Some c) → IsCountedBy X c
  of_own code.Open n = absurd (n.opening refl)
  of_own code.Read n = absurd (n.reading refl)
  of_own code.Write n = absurd (n.writing refl)
  of_own c n = tt

  one_mild : (k : Code) → IsNoDeviceFault (Some k) → IsMild (Fault k)
  one_mild k n c is = counted_as X c k (fault_is c k (sym is)) (of_own k n)

  pub done_mild : IsMild Done
  done_mild c is = absurd (fault_done c (sym is))

  cut_mild : IsMild Cut
  cut_mild c is = absurd (fault_cut c (sym is))

  end_mild : (o : Option Code) → IsNoDeviceFault o → IsMild (end_by_fault o Done)
  end_mild None n = done_mild
  end_mild (Some k) n = one_mild k n

  through_mild : (o : Option Code) (part all : Given) (e : End) → IsNoDeviceFault o → IsNoDeviceFault all.fault → IsMild e → IsMild (through o part all e).end
  through_mild (Some k) part all e own ends m = one_mild k own
  through_mild None part all Done own ends m = end_mild all.fault ends
  through_mild None part all (Fault k) own ends m = m
  through_mild None part all Cut own ends m = cut_mild

  if_mild : (b : Bool) (x y : Came) → IsMild x.end → IsMild y.end → IsMild (if b then x else y).end
  if_mild true x y p q = p
  if_mild false x y p q = q

  over_mild : (steps : List Step) (xs : List Element) (e : End) → IsMild e → IsMild (over steps xs e).end
  over_mild [] xs e m = m
  over_mild (step.Take n ∷ ss) xs e m =
      let x : Came = if nat_le n (length xs) then came (take n xs) Done else came xs e in over_mild ss x.list x.end (if_mild (nat_le n (length xs)) (came (take n xs) Done) (came xs e) done_mild m)
  over_mild (step.Pipe p ∷ ss) xs e m =
      let own = (lawful_pipe no_values p).own xs in
      let x : Came = through (part_of no_values p xs).fault (part_of no_values p xs) (all_of no_values p xs) e in
      over_mild ss x.list x.end (through_mild (part_of no_values p xs).fault (part_of no_values p xs) (all_of no_values p xs) e own.0 own.1 m)

  -- a group's fault
  pub group_mild : (steps : List Step) (group : List Element) → IsMild (group_over steps group).end
  group_mild steps group = over_mild steps (map Byte (rendering_of group)) Done done_mild
