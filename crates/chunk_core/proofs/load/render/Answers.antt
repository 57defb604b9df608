use Rattle.std.proofs.Common.{◌≡◌, ◌∙◌, subst, IfOk}
use Rattle.chunk_core.proofs.Rendering.{bytes_rendering, lines_rendering, rows_rendering}
use Rattle.chunk_core.proofs.load.render.Goals as goal

pub returns-in-Bytes : goal.returns-in-Bytes
returns-in-Bytes c = rw c.in-Bytes.is (subst (λ ys. IfOk c.copy_of.result (λ text. text ≡ ys)) (c.as_slice.ensures ∙ bytes_rendering c.in-Bytes.bytes) c.copy_of.ensures)

pub returns-in-Lines : goal.returns-in-Lines
returns-in-Lines c = rw c.in-Lines.is (subst (λ ys. IfOk c.lines_text.result (λ text. text ≡ ys)) (rw c.as_slice-in-Lines.ensures (lines_rendering c.in-Lines.lines)) c.lines_text.ensures)

pub returns-in-Rows : goal.returns-in-Rows
returns-in-Rows c = rw c.in-Rows.is (subst (λ ys. IfOk c.rows_text.result (λ text. text ≡ ys)) (rw c.as_slice-in-Rows.ensures (rows_rendering c.in-Rows.rows)) c.rows_text.ensures)
