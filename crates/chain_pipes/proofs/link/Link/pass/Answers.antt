use Rattle.std.proofs.lemmas.Result.{IfOk-weaker}
use Rattle.chain_pipes.proofs.Linked.{through_pipe, through_taker}
use Rattle.chain_pipes.proofs.link.Link.pass.Goals as goal

pub returns-in-Pipe : goal.returns-in-Pipe
returns-in-Pipe g c = rw c.in-Pipe.is (IfOk-weaker c.pipe.result _ _ (λ r passes. through_pipe g.F.Feed.stands _ _ c.args.batch r passes) c.pipe.ensures)

pub returns-in-Take : goal.returns-in-Take
returns-in-Take g c = rw c.in-Take.is (IfOk-weaker c.take.result _ _ (λ r passes. through_taker g.F.Feed.stands _ _ c.args.batch r passes) c.take.ensures)
