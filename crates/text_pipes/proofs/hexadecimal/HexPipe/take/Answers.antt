use Rattle.std.proofs.Common.{◌++◌, ◌-◌, ◌∙◌, [], ◌∷◌, ap, arith}
use Rattle.std.proofs.lemmas.List.{take-append-drop}
use Rattle.pull_nodes.specs.Hex.{hex_lines}
use Rattle.text_pipes.proofs.HexLines.{whole_lines, whole_rest}
use Rattle.text_pipes.proofs.hexadecimal.HexPipe.take.Goals as goal

pub group_line-requires : goal.group_line-requires
group_line-requires c =
    omega (arith, c.requires, c.as_slice.ensures.len, c.in_ok-extend_from_slice-2.ensures.len, c.split_at.ensures.front_len, c.len-wanted.ensures)

pub returns-clause-lines : goal.returns-clause-lines
returns-clause-lines c =
    let line = c.in_ok-group_line.field-0 in
    let more = c.split_at.result.1.now in
    whole_lines c.args.self.now.held.items c.args.bytes.now c.split_at.result.0.now more c.as_slice.result.now
    ((λ i. c.split_at.ensures.front i ++ c.split_at.ensures.back i) ∙ take-append-drop (16 - c.len-wanted.result) c.args.bytes.now)
    (c.as_slice.ensures.value ∙ c.in_ok-extend_from_slice-2.ensures.items)
    (omega (arith, c.requires, c.as_slice.ensures.len, c.in_ok-extend_from_slice-2.ensures.len, c.split_at.ensures.front_len, c.len-wanted.ensures))
    line c.push_groups.new.lines.items c.in_ok-group_line.ensures
    (c.in_ok-rest.ensures.lines ∙ ap (λ l. l ++ hex_lines more) (c.in_ok-push.ensures.items ∙ ap (λ l. l ++ line ∷ []) c.in_ok-lines.ensures.items))

pub returns-clause-held : goal.returns-clause-held
returns-clause-held c =
    c.in_ok-extend_from_slice-3.ensures.items
    ∙ (ap (λ l. l ++ c.in_ok-rest.rest.now) c.clear.ensures.items
    ∙ (c.in_ok-rest.ensures.rest
    ∙ whole_rest c.args.self.now.held.items c.args.bytes.now c.split_at.result.0.now c.split_at.result.1.now c.as_slice.result.now
    ((λ i. c.split_at.ensures.front i ++ c.split_at.ensures.back i) ∙ take-append-drop (16 - c.len-wanted.result) c.args.bytes.now)
    (c.as_slice.ensures.value ∙ c.in_ok-extend_from_slice-2.ensures.items)
    (omega (arith, c.requires, c.as_slice.ensures.len, c.in_ok-extend_from_slice-2.ensures.len, c.split_at.ensures.front_len, c.len-wanted.ensures))))
