-- The text of bytes and of lines.
use Rattle.std.proofs.Common.{[], ◌∷◌, ◌++◌, ◌∙◌, ap}
use Rattle.std.specs.List.{flat_map}
use Rattle.chunk_core.proofs.Rendering.{bytes_rendering, lines_rendering}
use Rattle.load_texts.proofs.text.push_text.Goals as goal

pub returns-in_ok-extend_from_slice-in-Bytes : goal.returns-in_ok-extend_from_slice-in-Bytes
returns-in_ok-extend_from_slice-in-Bytes c = rw c.in-Bytes.is (c.in_ok-extend_from_slice-in-Bytes.ensures.items ∙ ap (λ t. c.args.text.now.items ++ t) (c.as_slice.ensures ∙ bytes_rendering c.in-Bytes.bytes))

pub returns-in_ok-push_lines-in-Lines : goal.returns-in_ok-push_lines-in-Lines
returns-in_ok-push_lines-in-Lines c = rw c.in-Lines.is (c.in_ok-push_lines-in-Lines.ensures ∙ ap (λ t. c.args.text.now.items ++ t) (ap (λ ls. flat_map (λ line. line ++ 10 ∷ []) ls) c.as_slice-in-Lines.ensures ∙ lines_rendering c.in-Lines.lines))
