use Rattle.std.proofs.Common.{◌∙◌, ap, map, sym, slice_get}
use Rattle.chunk_core.specs.Elements.{elements, Line, Row}
use Rattle.stream_ops.specs.Changed.{changed_behind, lines_in, rows_in}
use Rattle.stream_ops.proofs.Differing.{given_changed, line_before, row_before}
use Rattle.stream_ops.proofs.changes.changes_of.Goals as goal

pub returns-in_ok-kept-in-Lines-clause-list : goal.returns-in_ok-kept-in-Lines-clause-list
returns-in_ok-kept-in-Lines-clause-list c =
    let last = slice_get (elements c.args.last.now) 0 in
    let lines = c.as_slice.result.now in
    given_changed Line c.first_line.result (slice_get (lines_in c.args.last.now) 0) lines c.in_ok-kept-in-Lines.kept last
    c.first_line.ensures c.in_ok-kept-in-Lines.ensures (line_before c.args.last.now lines) ∙ ap (changed_behind last) (ap (map Line) c.as_slice.ensures ∙ sym (ap elements c.in-Lines.is))

pub returns-in_ok-kept-in-Rows-clause-list : goal.returns-in_ok-kept-in-Rows-clause-list
returns-in_ok-kept-in-Rows-clause-list c =
    let last = slice_get (elements c.args.last.now) 0 in
    let rows = c.as_slice-in-Rows.result.now in
    given_changed Row c.first_row.result (slice_get (rows_in c.args.last.now) 0) rows c.in_ok-kept-in-Rows.kept last
    c.first_row.ensures c.in_ok-kept-in-Rows.ensures (row_before c.args.last.now rows) ∙ ap (changed_behind last) (ap (map Row) c.as_slice-in-Rows.ensures ∙ sym (ap elements c.in-Rows.is))
