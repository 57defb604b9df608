use Rattle.std.proofs.Common.{◌≡◌, ℕ, ◌<◌, true, drop, Some}
use Rattle.std.specs.Prelude.{slice_get}
use Rattle.pipeline_desc.specs.Outputs.{alone_from, is_alone, outputs_alone}
use Rattle.pipeline_desc.specs.Places.{all_places}
use Rattle.pipeline_desc.specs.declared.stream.StreamSpec.{StreamSpec}
use Rattle.pipeline_desc.proofs.outputs.check_outputs.Given as goal

abbrev pub invariant-loop-k : goal.invariant-loop-k
invariant-loop-k l = record {
  read : outputs_alone l.tables l.list l.streams ≡ alone_from (all_places l.tables l.list l.streams) l.k (drop l.k l.streams);
  alone : (i : ℕ) (s : StreamSpec) → i < l.k → slice_get l.streams i ≡ Some s → is_alone (all_places l.tables l.list l.streams) s.to ≡ true;
}
