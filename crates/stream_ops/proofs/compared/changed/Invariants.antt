use Rattle.std.proofs.Common.{◌≡◌, map, take}
use Rattle.std.specs.Prelude.{option_map}
use Rattle.std.specs.List.{last_or}
use Rattle.stream_ops.specs.Changed.{changed_behind}
use Rattle.stream_ops.proofs.compared.changed.Given as goal

abbrev pub invariant-loop-item : goal.invariant-loop-item
invariant-loop-item g l = let before = option_map (λ y. g.T.Compared.element y.now) l.fn.before in
    record {
      kept : map g.T.Compared.element l.kept.items ≡ changed_behind before (map g.T.Compared.element (take l.item-index l.items));
      last : option_map (λ y. g.T.Compared.element y.now) l.last ≡ last_or before (map g.T.Compared.element (take l.item-index l.items));
    }
