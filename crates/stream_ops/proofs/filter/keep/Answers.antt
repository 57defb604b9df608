use Rattle.std.proofs.Common.{sym, ap, ◌∙◌}
use Rattle.pull_nodes.specs.Filter.{contains}
use Rattle.stream_ops.proofs.Matches.{kept_in, kept_out}
use Rattle.stream_ops.proofs.filter.keep.Goals as goal
use Rattle.stream_ops.proofs.filter.keep.Goals.{then-is_match+in_ok-push_copy, else-is_match}

pub loop-line-preserved : goal.loop-line-preserved
loop-line-preserved c =
    elim c.if-is_match.branch [
      | then-is_match+in_ok-push_copy w ↦
          kept_in (contains c.args.finder.now) c.args.lines.now c.loop-line.line-index c.line-item.result c.loop-line.kept.items c.if-is_match.kept.items
          c.loop-line-test.true c.line-item.is c.loop-line.invariant
          (sym c.is_match.ensures ∙ w.if-is_match.true) (ap (λ v. v.items) w.kept-is ∙ w.in_ok-push_copy.ensures)
      | else-is_match w ↦
          kept_out (contains c.args.finder.now) c.args.lines.now c.loop-line.line-index c.line-item.result c.loop-line.kept.items c.if-is_match.kept.items
          c.loop-line-test.true c.line-item.is c.loop-line.invariant
          (sym c.is_match.ensures ∙ w.if-is_match.false) (ap (λ v. v.items) w.kept-is)
    ]
