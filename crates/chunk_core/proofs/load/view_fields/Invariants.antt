use Rattle.std.proofs.Common.{◌≡◌, map, take}
use Rattle.chunk_core.proofs.load.view_fields.Given as goal

abbrev pub invariant-loop-field : goal.invariant-loop-field
invariant-loop-field l = map (λ f. f.now) l.fields.items ≡ take l.field-index l.row
