-- How work may end.
use Rattle.chunk_core.specs.declared.code.How.{How}
use Rattle.chunk_core.specs.declared.code.How.TheVariants as how

-- it was done, or it failed
abbrev pub IsDoneOrFault : How → Type 0
IsDoneOrFault how.Done = Unit {0}
IsDoneOrFault (how.Fault c) = Unit {0}
IsDoneOrFault how.Halted = ⊥
IsDoneOrFault how.Memory = ⊥
