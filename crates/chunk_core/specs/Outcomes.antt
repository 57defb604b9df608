-- What a stream gives, and how it ends.
use Rattle.std.specs.Prelude.{List}
use Rattle.chunk_core.specs.declared.code.Code.{Code}
use Rattle.chunk_core.specs.declared.code.Exit.{Exit}
use Rattle.chunk_core.specs.declared.code.Exit.TheVariants.{Succeeded, Errored, Canceled}
use Rattle.chunk_core.specs.declared.code.How.{How}
use Rattle.chunk_core.specs.declared.code.How.TheVariants as how
use Rattle.chunk_core.specs.Elements.{Element}

-- the end of a stream's elements: all were given, it failed, or it was left early
pub data End : Type 0 where
  Done : End
  Fault : Code → End
  Cut : End

-- the lists of elements and the ends that a stream may have
abbrev pub Outcomes : Type 1
Outcomes = List Element → End → Type 0

-- what the finalizers of a stream are told where it ended so
abbrev pub exit_of : How → Exit
exit_of how.Done = Succeeded
exit_of (how.Fault c) = Errored
exit_of how.Halted = Canceled
exit_of how.Memory = Canceled
