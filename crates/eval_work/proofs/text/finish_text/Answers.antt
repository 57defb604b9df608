-- Each answer before the last has some text.
use Rattle.std.proofs.Common.{arith}
use Rattle.eval_work.proofs.Texts.{end_came, fault_came, load_came, none_came, some_came}
use Rattle.eval_work.proofs.text.finish_text.Goals as goal

pub answers-init : goal.answers-init
answers-init g c m xs s = none_came m xs c.args.text.items (g.F.Feed.stands c.args.pipe.now m xs) (g.F.Feed.comes c.args.pipe.now) s

pub answers-smaller : goal.answers-smaller
answers-smaller g c =
    let r = c.requires in
    let e = c.in_ok-answer.ensures in
    let more = rw c.in-More.is at c.in_ok-push_answer.ensures in
    let l = some_came r.0 r.1 c.args.text.items c.answers.text.items c.push_answer.new.text.items (g.F.Feed.stands c.answers.pipe r.0 r.1) (g.F.Feed.stands c.finish.new.self r.0 r.1) (g.F.Feed.comes c.answers.pipe) (g.F.Feed.comes c.finish.new.self) (c.answers.invariant r.0 r.1 r.2) c.in_ok-answer.answer more (e.first r.0 r.1) e.next in
    let a = c.answers.text.ok.0 in let b = c.push_answer.new.text.ok.0 in let small = c.push_answer.new.text.small in
    omega (arith, l, a, b, small)

pub answers-preserved : goal.answers-preserved
answers-preserved g c m xs s =
    let e = c.in_ok-answer.ensures in
    let more = rw c.in-More.is at c.in_ok-push_answer.ensures in
    load_came m xs c.args.text.items c.answers.text.items c.push_answer.new.text.items (g.F.Feed.stands c.answers.pipe m xs) (g.F.Feed.stands c.finish.new.self m xs) (g.F.Feed.comes c.answers.pipe) (g.F.Feed.comes c.finish.new.self) (c.answers.invariant m xs s) c.in_ok-answer.answer more (e.first m xs) e.next

pub returns-in-End : goal.returns-in-End
returns-in-End g c m xs s =
    let e = c.in_ok-answer.ensures in
    let more = rw c.in-End.is at c.in_ok-push_answer.ensures in
    end_came m xs c.args.text.items c.answers.text.items c.push_answer.new.text.items (g.F.Feed.stands c.answers.pipe m xs) (g.F.Feed.stands c.finish.new.self m xs) (g.F.Feed.comes c.answers.pipe) (g.F.Feed.comes c.finish.new.self) (c.answers.invariant m xs s) c.in_ok-answer.answer more (e.first m xs) e.next

pub returns-in-Fault : goal.returns-in-Fault
returns-in-Fault g c m xs s =
    let e = c.in_ok-answer.ensures in
    let more = rw c.in-Fault.is at c.in_ok-push_answer.ensures in
    fault_came m xs c.args.text.items c.answers.text.items c.push_answer.new.text.items (g.F.Feed.stands c.answers.pipe m xs) (g.F.Feed.stands c.finish.new.self m xs) (g.F.Feed.comes c.answers.pipe) (g.F.Feed.comes c.finish.new.self) (c.answers.invariant m xs s) c.in_ok-answer.answer c.in-Fault.code more (e.first m xs) e.next
