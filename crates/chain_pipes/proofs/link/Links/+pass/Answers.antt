use Rattle.std.proofs.Common.{Box, Global}
use Rattle.std.proofs.lemmas.Result.{IfOk-weaker}
use Rattle.chain_pipes.proofs.Linked.{may_pass_first, may_pass_rest, through_both, through_none}
use Rattle.chain_pipes.proofs.link.Links.+pass.Goals as goal

pub pass-requires : goal.pass-requires
pass-requires g t c =
    let p : Box (Unit {0}) Global = record { ptr = c.in-Then.rest.ptr; alloc = c.in-Then.rest.alloc; value = tt } in
    may_pass_first g.F.Feed.stands _ p _ _ (rw c.in-Then.is at c.requires)
