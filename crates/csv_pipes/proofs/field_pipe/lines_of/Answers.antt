use Rattle.std.proofs.Common.{◌++◌, ◌∷◌, [], map, refl, ap, sym, ◌∙◌}
use Rattle.std.specs.Prelude.{option_map}
use Rattle.pull_nodes.specs.Field.{field_line}
use Rattle.chunk_core.specs.Elements.{Line}
use Rattle.csv_pipes.proofs.MadeRows.{made_all, made_more, made_lacks}
use Rattle.csv_pipes.proofs.field_pipe.lines_of.Goals as goal

pub loop-row-preserved : goal.loop-row-preserved
loop-row-preserved c =
    made_more (field_line c.args.field) c.args.rows.now c.loop-row.row-index (map Line c.loop-row.lines.items) c.loop-row.invariant c.row-item.result c.loop-row-test.true c.row-item.is
    Line c.loop-row.lines.items c.push.new.self.items c.in-Some.line.now refl
    (ap (option_map Line) (sym c.in-Some.ensures))
    (c.in_ok-push.ensures.items ∙ ap (λ l. c.loop-row.lines.items ++ l ∷ []) (c.in_ok-line.ensures ∙ c.as_slice.ensures))

pub returns-in_default : goal.returns-in_default
returns-in_default c =
    made_lacks (field_line c.args.field) c.args.rows.now c.loop-row.row-index (map Line c.loop-row.lines.items) c.loop-row.invariant c.row-item.result c.loop-row-test.true c.row-item.is
    (ap (option_map Line) (sym c.in_default.ensures))

pub returns : goal.returns
returns c = made_all (field_line c.args.field) c.args.rows.now c.loop-row.row-index (map Line c.loop-row.lines.items) c.loop-row.invariant c.loop-row-test.false
