use Rattle.std.proofs.Common.{[], ◌∷◌, arith, ap, length, length-append, subst, sym, ⊎_elim}
use Rattle.chunk_core.specs.Lists.{IsAmong}
use Rattle.chunk_core.proofs.Members.{among_snoc}
use Rattle.device_port.specs.MemDepot.{depot_told}
use Rattle.device_port.specs.Records.{record_told}
use Rattle.pull_stepper.specs.Sites.{IsUnused}
use Rattle.pull_stepper.proofs.Beginning.{fresh_unused}
use Rattle.worked_nodes.proofs.runs.devices.Goals as goal

pub loop-place-preserved : goal.loop-place-preserved
loop-place-preserved c =
    let i = c.loop-place.invariant in let device = c.in_ok-device.device in let pushed = c.in_ok-push.ensures.ok in
    record {
      count = omega (arith, i.count, ap length pushed, length-append c.loop-place.devices (c.new.result ∷ []));
      unused = λ d m.
          ⊎_elim (i.unused d) (λ e. subst (λ y. IsUnused (record_told y.device.facts)) (sym e) (subst (λ y. IsUnused (record_told y.facts)) (sym c.new.ensures) (fresh_unused (depot_told c.loop-place.depot) _ (record_told device.facts) c.in_ok-device.ensures.made.device)))
          (among_snoc c.loop-place.devices d c.new.result (subst (λ l. IsAmong d l) pushed m));
    }
