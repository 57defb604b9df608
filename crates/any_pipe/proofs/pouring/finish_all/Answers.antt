use Rattle.chunk_core.specs.declared.feed.Fed.TheVariants as fed
use Rattle.any_pipe.proofs.Ending.{answered, failed, goes_on}
use Rattle.any_pipe.proofs.pouring.finish_all.Goals as goal

pub answers-preserved : goal.answers-preserved
answers-preserved g c m xs s =
    let before = c.args.given.items in
    let given = c.answers.given.items in
    let Comes = g.F.Feed.comes c.finish.new.self in
    let first = rw c.in-Out.is at c.in_ok-out.ensures.first in
    let next = rw c.in-Out.is at c.in_ok-out.ensures.next in
    goes_on m xs before given c.push.new.self.items c.in-Out.out (g.F.Feed.stands c.finish.new.self m xs) Comes
    (answered m xs before given (g.F.Feed.stands c.answers.pipe m xs) (g.F.Feed.comes c.answers.pipe) Comes (fed.Out c.in-Out.out) (first m xs) next (c.answers.invariant m xs s))
    c.in_ok-push-in-Out.ensures.items

pub returns-in-Fault : goal.returns-in-Fault
returns-in-Fault g c m xs s =
    let before = c.args.given.items in
    let given = c.answers.given.items in
    let Comes = g.F.Feed.comes c.finish.new.self in
    let first = rw c.in-Fault.is at c.in_ok-out.ensures.first in
    let next = rw c.in-Fault.is at c.in_ok-out.ensures.next in
    failed m xs before given c.push-in-Fault.new.self.items c.in-Fault.out c.in-Fault.code Comes
    (answered m xs before given (g.F.Feed.stands c.answers.pipe m xs) (g.F.Feed.comes c.answers.pipe) Comes (fed.Fault c.in-Fault.out c.in-Fault.code) (first m xs) next (c.answers.invariant m xs s))
    c.in_ok-push-in-Fault.ensures.items
