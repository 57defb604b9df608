use Rattle.std.proofs.Common.{◌+◌, [], ◌∷◌, ◌++◌, refl, sym, subst, arith}
use Rattle.topic_hub.proofs.Begun.{Begun, begun_all, begun_more}
use Rattle.topic_hub.proofs.hub.topic.Goals as goal

pub loop-i-preserved : goal.loop-i-preserved
loop-i-preserved g c =
    subst (λ l. Begun c.args.capacity (c.loop-i.i + 1) l c.push-in-loop-i.new.self.items) (sym c.in_ok-push.ensures.items)
    (subst (λ l. Begun c.args.capacity (c.loop-i.i + 1) (c.loop-i.queues.items ++ c.in_ok-queue.queue ∷ []) l) (sym c.in_ok-push-2.ensures.items)
    (begun_more c.args.capacity c.loop-i.i c.loop-i.queues.items c.loop-i.places.items c.in_ok-queue.queue c.in_ok-queue.receiver c.loop-i.invariant c.in_ok-queue.ensures.capacity c.in_ok-queue.ensures.receiver))

pub returns : goal.returns
returns g c = let test = c.loop-i-test.false in let end = c.loop-i.auto.i-end in
    begun_all c.args.subs c.args.capacity c.loop-i.i c.loop-i.queues.items _ c.loop-i.invariant (omega arith) c.requires.subs.1 refl refl
