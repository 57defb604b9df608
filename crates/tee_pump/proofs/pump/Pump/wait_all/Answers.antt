-- What comes is printed, and what is pending is sent, until each end is told.
use Rattle.std.proofs.Common.{refl, sym, ap, ◌∙◌, subst}
use Rattle.topic_hub.specs.Topics.{IsOf, KeepsTopic, PublisherSeen, due}
use Rattle.tee_pump.specs.Publishing.{ArePending}
use Rattle.tee_pump.specs.declared.pump.Pump.{Pump}
use Rattle.tee_pump.proofs.Printing.{goes_same, goes_then}
use Rattle.tee_pump.proofs.Published.{keeps_then, may_push, pushed_pending}
use Rattle.tee_pump.proofs.Served.{serving_same}
use Rattle.tee_pump.proofs.pump.Pump.wait_all.Goals as goal

pub tries-init : goal.tries-init
tries-init g c = record {
  serving = λ ms reader start h. h;
  on = goes_same c.args.self.now.printer c.args.self.now.printer refl;
  keeps = record { topic = λ q h. h; subscribers = λ s h. h };
  due_is = λ i. refl;
  pending = c.requires.pending;
}

pub serve-came-requires : goal.serve-came-requires
serve-came-requires g c = let r = c.requires.serving in record { serving = (r.0, r.1, r.2, c.tries.invariant.serving r.0 r.1 r.2 r.3) }

pub push-requires-clause-topic : goal.push-requires-clause-topic
push-requires-clause-topic g c = subst (IsOf c.args.site.now.topic.now) (sym c.serve-came.ensures.same) (c.tries.invariant.keeps.topic c.args.site.now.topic.now c.requires.topic)

pub push-requires-clause-may : goal.push-requires-clause-may
push-requires-clause-may g c = may_push c.args.site.now.topic.now c.serve-came.new.self.publisher (subst ArePending (sym c.serve-came.ensures.same) c.tries.invariant.pending)

pub tries-preserved-in-true : goal.tries-preserved-in-true
tries-preserved-in-true g c =
    let p0 = c.serve-came.new.self in
    let q : Pump g.row.F.Denot = record { publisher = c.push.new.self; printer = p0.printer; seat = p0.seat; hired = p0.hired; ends = p0.ends } in
    record {
      serving = λ ms reader start h. serving_same g.F.Feed.stands g.F.Feed.comes (record { topic = c.args.site.now.topic.now; hub = c.args.site.now.hub.now; board = c.args.site.now.board.now }) ms reader start (g.K.Sink.told c.serve-came.new.out) c.serve-came.new.self q refl refl refl refl (c.serve-came.ensures.serving ms reader start (c.tries.invariant.serving ms reader start h));
      on = goes_then c.args.self.now.printer c.tries.self.printer c.serve-came.new.self.printer c.tries.invariant.on c.serve-came.ensures.goes_on;
      keeps = keeps_then c.args.self.now.publisher c.serve-came.new.self.publisher c.push.new.self (subst (KeepsTopic c.args.self.now.publisher) (sym c.serve-came.ensures.same) c.tries.invariant.keeps) c.push.ensures.keeps;
      due_is = λ i. c.push.ensures.pushes.same_due i ∙ (ap (λ (x : PublisherSeen). due x i) c.serve-came.ensures.same ∙ c.tries.invariant.due_is i);
      pending = pushed_pending c.args.site.now.topic.now c.serve-came.new.self.publisher c.push.new.self c.push.result c.push.ensures.pushes (subst ArePending (sym c.serve-came.ensures.same) c.tries.invariant.pending);
    }

pub tries-preserved : goal.tries-preserved
tries-preserved g c =
    let p0 = c.serve-came.new.self in
    let q : Pump g.row.F.Denot = record { publisher = c.push.new.self; printer = p0.printer; seat = p0.seat; hired = p0.hired; ends = p0.ends } in
    record {
      serving = λ ms reader start h. serving_same g.F.Feed.stands g.F.Feed.comes (record { topic = c.args.site.now.topic.now; hub = c.args.site.now.hub.now; board = c.args.site.now.board.now }) ms reader start (g.K.Sink.told c.serve-came.new.out) c.serve-came.new.self q refl refl refl refl (c.serve-came.ensures.serving ms reader start (c.tries.invariant.serving ms reader start h));
      on = goes_then c.args.self.now.printer c.tries.self.printer c.serve-came.new.self.printer c.tries.invariant.on c.serve-came.ensures.goes_on;
      keeps = keeps_then c.args.self.now.publisher c.serve-came.new.self.publisher c.push.new.self (subst (KeepsTopic c.args.self.now.publisher) (sym c.serve-came.ensures.same) c.tries.invariant.keeps) c.push.ensures.keeps;
      due_is = λ i. c.push.ensures.pushes.same_due i ∙ (ap (λ (x : PublisherSeen). due x i) c.serve-came.ensures.same ∙ c.tries.invariant.due_is i);
      pending = pushed_pending c.args.site.now.topic.now c.serve-came.new.self.publisher c.push.new.self c.push.result c.push.ensures.pushes (subst ArePending (sym c.serve-came.ensures.same) c.tries.invariant.pending);
    }
