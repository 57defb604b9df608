-- The branches begin, one after another.
use Rattle.std.proofs.Common.{◌++◌, ◌∷◌, [], length, sym, ap, ◌∙◌, subst, arith}
use Rattle.tee_pump.specs.Branches.{AreHiredFirst}
use Rattle.tee_pump.proofs.Places.{all_taken, at_taken, none_at, one_longer, one_taken}
use Rattle.tee_pump.proofs.Ready.{branch_ready, hired_more}
use Rattle.tee_pump.proofs.serving.begin_all.Goals as goal

pub loop-branch-init : goal.loop-branch-init
loop-branch-init g c = record {
  left = ([], c.from-left.ensures.0, sym (ap length c.requires.empty));
  room = c.requires.capacity;
  hired = λ ms a i m h p q. absurd (none_at c.args.room.items i h c.requires.empty q);
}

pub begin-requires-clause-ready : goal.begin-requires-clause-ready
begin-requires-clause-ready g c κs within =
    let r = c.requires.branches in
    let t = c.loop-branch.invariant.left in
    let e = ap (λ l. t.0 ++ l) (sym c.in-Some.ensures.items) ∙ t.1 in
    branch_ready g.F.Feed.stands g.F.Feed.comes (record { topic = c.args.site.now.topic.now; hub = c.args.site.now.hub.now; board = c.args.site.now.board.now }) r.0 c.args.branches.items (length t.0) c.in-Some.branch r.1 (at_taken c.args.branches.items t.0 c.pop_front.new.self.items c.in-Some.branch e)

pub loop-branch-preserved : goal.loop-branch-preserved
loop-branch-preserved g c =
    let inv = c.loop-branch.invariant in
    let t = inv.left in
    let e = ap (λ l. t.0 ++ l) (sym c.in-Some.ensures.items) ∙ t.1 in
    let pushed = c.push_reserved.ensures.items in
    let longer = one_longer t.0 c.in-Some.branch in
    let more = ap length pushed ∙ one_longer c.loop-branch.hired.items c.begin.result in
    let count = t.2 in
    let cap = c.push_reserved.ensures.capacity in
    let room = inv.room in
    let at = at_taken c.args.branches.items t.0 c.pop_front.new.self.items c.in-Some.branch e in
    record {
      left = (t.0 ++ c.in-Some.branch ∷ [], one_taken c.args.branches.items t.0 c.pop_front.new.self.items c.in-Some.branch e, omega (arith, longer, more, count));
      room = omega (arith, cap, room);
      hired = λ ms a. subst (AreHiredFirst g.F.Feed.stands g.F.Feed.comes (record { topic = c.args.site.now.topic.now; hub = c.args.site.now.hub.now; board = c.args.site.now.board.now }) ms) (sym pushed)
          (hired_more g.F.Feed.stands g.F.Feed.comes (record { topic = c.args.site.now.topic.now; hub = c.args.site.now.hub.now; board = c.args.site.now.board.now }) ms c.loop-branch.hired.items c.in-Some.branch c.begin.result (length t.0) (sym count) (inv.hired ms a) (λ m p. a.each (length t.0) m c.in-Some.branch p at) c.begin.ensures);
    }

pub returns : goal.returns
returns g c = λ ms a.
    let inv = c.loop-branch.invariant in
    let t = inv.left in
    let ok = c.loop-branch.left.ok.0 in
    let none = c.in_default.ensures.cases in
    let all = all_taken c.args.branches.items t.0 c.loop-branch.left.items t.1 (let z = none.0 in omega (arith, z, ok)) in
    let count = t.2 in
    let same = a.count in
    record { count = omega (arith, all, count, same); each = inv.hired ms a }
