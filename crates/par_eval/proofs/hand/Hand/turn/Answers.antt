use Rattle.std.proofs.Common.{◌≡◌, Option, true, sym, ap, ◌∙◌, subst}
use Rattle.channel_bounded.specs.Ends.{HubSeen}
use Rattle.par_eval.specs.Hands.{Answers, HandSeen, MaySendNext, received, said}
use Rattle.par_eval.specs.Messages.{paired}
use Rattle.par_eval.specs.declared.outbox.Outbox.{Outbox}
use Rattle.par_eval.proofs.Answering.{answers_same, end_answers, end_hand, load_answers, load_hand, may_next, seen, same_answers, sends_answers}
use Rattle.par_eval.proofs.hand.Hand.turn.Goals as goal

pub send-requires-clause-may : goal.send-requires-clause-may
send-requires-clause-may g c =
    let i = c.self.inside in
    may_next g.A.May.may i.number i.tasks i.outbox i.over c.in-Some.body c.results.result.now.capacity c.self.invariant
    (subst (λ (h : HandSeen). MaySendNext g.A.May.may h) (sym c.self.view_is) c.requires.may_send)
    (sym c.take.ensures.value ∙ c.in-Some.is)
    (ap (λ (h : HubSeen). h.capacity) c.results.ensures.hub ∙ c.results.ensures.sized.results)

pub returns-in-Some-clause-answers : goal.returns-in-Some-clause-answers
returns-in-Some-clause-answers g c = λ a.
    let i = c.self.inside in
    sends_answers (g.W.Work.result_of c.args.work.now) i.number i.tasks i.over (paired g.A.May.may) c.results.result.now.capacity c.in-Some.body i.outbox c.take.new.self c.send.new.self c.send.result
    (sym c.take.ensures.value ∙ c.in-Some.is) c.send.ensures.sends
    (subst (λ (h : HandSeen). Answers (g.W.Work.result_of c.args.work.now) h) (sym c.self.view_is) a)

pub invariant_of-self-in-End : goal.invariant_of-self-in-End
invariant_of-self-in-End g c =
    let i = c.self.inside in end_hand i.number i.tasks c.try_recv.new.self i.outbox c.in-Some-try_recv.m c.self.invariant (sym c.take.ensures.value ∙ c.in_default.is) c.in-Some-try_recv.ensures.got c.in-End.field-0 c.in-End.is c.take.new.self (c.take.ensures.after ∙ sym (sym c.take.ensures.value ∙ c.in_default.is))

pub invariant_of-self-in-Load : goal.invariant_of-self-in-Load
invariant_of-self-in-Load g c =
    let i = c.self.inside in load_hand i.number i.tasks c.try_recv.new.self i.outbox c.in-Some-try_recv.m c.self.invariant (sym c.take.ensures.value ∙ c.in_default.is) c.in-Some-try_recv.ensures.got c.in-Load.load c.result_for-out.result c.in-Load.is

pub returns-in-None-clause-answers : goal.returns-in-None-clause-answers
returns-in-None-clause-answers g c = λ a.
    let i = c.self.inside in
    same_answers (g.W.Work.result_of c.args.work.now) i.number i.tasks c.try_recv.new.self i.over i.outbox c.take.new.self c.in-None.ensures.same (c.take.ensures.after ∙ sym (sym c.take.ensures.value ∙ c.in_default.is))
    (subst (λ (h : HandSeen). Answers (g.W.Work.result_of c.args.work.now) h) (sym c.self.view_is) a)

pub returns-in-End-clause-answers : goal.returns-in-End-clause-answers
returns-in-End-clause-answers g c = λ a.
    let i = c.self.inside in
    end_answers i.number i.tasks c.try_recv.new.self i.outbox c.in-Some-try_recv.m c.self.invariant (sym c.take.ensures.value ∙ c.in_default.is) c.in-Some-try_recv.ensures.got c.in-End.field-0 c.in-End.is (g.W.Work.result_of c.args.work.now) i.over true c.take.new.self (c.take.ensures.after ∙ sym (sym c.take.ensures.value ∙ c.in_default.is))
    (subst (λ (h : HandSeen). Answers (g.W.Work.result_of c.args.work.now) h) (sym c.self.view_is) a)

pub returns-in-Load-clause-answers : goal.returns-in-Load-clause-answers
returns-in-Load-clause-answers g c = λ a.
    let i = c.self.inside in
    load_answers i.number i.tasks c.try_recv.new.self i.outbox c.in-Some-try_recv.m c.self.invariant (sym c.take.ensures.value ∙ c.in_default.is) c.in-Some-try_recv.ensures.got c.in-Load.load c.result_for-out.result c.in-Load.is (g.W.Work.result_of c.args.work.now) i.over c.result_for-out.ensures
    (subst (λ (h : HandSeen). Answers (g.W.Work.result_of c.args.work.now) h) (sym c.self.view_is) a)
