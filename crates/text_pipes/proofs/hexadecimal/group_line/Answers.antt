use Rattle.std.proofs.Common.{◌≡◌, ◌∙◌, IfOk, subst, arith}
use Rattle.text_pipes.proofs.HexLines.{encoded_is}
use Rattle.text_pipes.proofs.hexadecimal.group_line.Goals as goal

pub returns : goal.returns
returns c =
    subst (λ l. IfOk c.line.result (λ line. line ≡ l))
    (c.in-Ok.ensures.written ∙ encoded_is c.args.group.now (λ k. let fits = c.type_inv.group k in omega arith)) c.line.ensures
