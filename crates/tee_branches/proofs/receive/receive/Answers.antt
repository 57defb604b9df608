-- The end of the topic came.
use Rattle.tee_branches.proofs.Ending.{end_comes}
use Rattle.tee_branches.proofs.receive.receive.Goals as goal

pub returns-in-Some-End-clause-stands : goal.returns-in-Some-End-clause-stands
returns-in-Some-End-clause-stands g c = λ m v said f.
    end_comes g.F.Feed.stands g.F.Feed.comes c.args.number m v c.args.pipe c.args.source.now c.next.new.self c.in-Some-End.field-0 c.in-Some-End.how c.behind.result said c.in-Some-End.ensures.got c.in-Some-End.field-0-is c.behind.ensures f
