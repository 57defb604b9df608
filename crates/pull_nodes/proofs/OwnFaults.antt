-- No pipe has a fault of a device.
use Rattle.std.proofs.Common.{List, sym, subst}
use Rattle.chunk_core.specs.Elements.{Element}
use Rattle.chunk_core.specs.Feed.{Meaning}
use Rattle.pull_nodes.specs.Laws.{IsNoDeviceFault}
use Rattle.pull_nodes.specs.Pipes.{IsMeaningOver}
use Rattle.chunk_core.specs.Tables.{Values}
use Rattle.pull_nodes.specs.declared.pipe.Pipe.{Pipe}
use Rattle.pull_nodes.proofs.Meanings.{is_meaning_over}
use Rattle.pull_nodes.proofs.PipeLaws.{lawful_pipe}

-- no fault that a pipe has is one of a device
pub own_faults : (t : Values) (p : Pipe) (m : Meaning) → IsMeaningOver t p m → (xs : List Element) → IsNoDeviceFault (m.part xs).fault × IsNoDeviceFault (m.all xs).fault
own_faults t p m h xs =
    let P : Meaning → Type 0 = λ n. IsNoDeviceFault (n.part xs).fault × IsNoDeviceFault (n.all xs).fault in
    subst P (sym (is_meaning_over t p m h).0) ((lawful_pipe t p).own xs)
