use Rattle.std.proofs.Common.{ap, ◌∙◌}
use Rattle.std.specs.Prelude.{option_map}
use Rattle.stream_ops.proofs.Differing.{change_in, change_out, change_last}
use Rattle.stream_ops.proofs.compared.changed.Goals as goal
use Rattle.stream_ops.proofs.compared.changed.Goals.{then-is_new+in_ok-push_copy, else-is_new}

pub loop-item-preserved : goal.loop-item-preserved
loop-item-preserved g c =
    let el = g.T.Compared.element in
    let before = option_map (λ y. el y.now) c.args.before in
    let last = option_map (λ y. el y.now) c.loop-item.last in
    let items = c.args.items.now in
    let i = c.loop-item.item-index in
    let x = c.item-item.result in
    let old = c.loop-item.kept.items in
    let new = c.if-is_new.kept.items in
    record {
      kept = elim c.if-is_new.branch [
        | then-is_new+in_ok-push_copy w ↦
            change_in el before items i x c.loop-item-test.true c.item-item.is last old new c.is_new.result c.loop-item.invariant.kept c.loop-item.invariant.last c.is_new.ensures
            w.if-is_new.true (ap (λ v. v.items) w.kept-is ∙ w.in_ok-push_copy.ensures)
        | else-is_new w ↦
            change_out el before items i x c.loop-item-test.true c.item-item.is last old new c.is_new.result c.loop-item.invariant.kept c.loop-item.invariant.last c.is_new.ensures
            w.if-is_new.false (ap (λ v. v.items) w.kept-is)
      ];
      last = change_last el before items i x c.loop-item-test.true c.item-item.is;
    }
