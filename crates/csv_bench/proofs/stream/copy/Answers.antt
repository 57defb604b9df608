use Rattle.std.proofs.Common.{[], inl, refl}
use Rattle.std.specs.Arc.{arc_value}
use Rattle.std.specs.FinMap.{get}
use Rattle.chunk_core.specs.Elements.LoadKind.{Bytes, Rows}
use Rattle.chunk_core.specs.Tables.{Values}
use Rattle.pull_nodes.specs.Pipes.{meaning, meaning_over}
use Rattle.pull_nodes.specs.declared.pipe.Pipe.TheVariants as pipe
use Rattle.csv_bench.proofs.stream.copy.Goals as goal

pub gather-requires : goal.gather-requires
gather-requires g c = ([], c.in_ok-csv.ensures (meaning pipe.Csv Bytes Rows) refl)

pub batches-init : goal.batches-init
batches-init g c =
    let v : Values = λ t key. get (arc_value c.in_ok-new.field-0) key in
    let m = meaning_over v (pipe.Lookup 0 0) Rows Rows in
    (inl (c.in_ok-gather.ensures c.if-not-branch.false), (m, [], c.in_ok-lookup.ensures v 0 m (λ key. refl) refl, refl))
