use Rattle.std.proofs.Common.{◌∙◌, ap, arith}
use Rattle.text_pipes.proofs.HexLines.{encoded_is}
use Rattle.text_pipes.proofs.hexadecimal.line_of.Goals as goal

pub returns : goal.returns
returns c =
    c.of_vec.ensures ∙ (ap (λ v. v.items) c.into_bytes.ensures.value
    ∙ (c.in_ok-encode.ensures ∙ encoded_is c.args.bytes.now (λ k. let fits = c.type_inv.bytes k in omega arith)))
