-- The branches are made, one after another.
use Rattle.std.proofs.Common.{◌++◌, ◌∷◌, [], length, refl, sym, ap, ◌∙◌, subst, arith}
use Rattle.chunk_core.specs.Totals.{IsAt}
use Rattle.tee_pump.specs.Branches.{SharedSeen}
use Rattle.tee_pump.specs.Making.{HasSplit}
use Rattle.tee_pump.proofs.Crewing.{AreBranchesFirst, branches_all, branches_more}
use Rattle.tee_pump.proofs.Places.{all_taken, at_below, at_taken, none_at, one_longer, one_taken}
use Rattle.tee_pump.proofs.crew.make_branches.Goals as goal

pub loop-pipe-init : goal.loop-pipe-init
loop-pipe-init g c =
    let s : SharedSeen = record { topic = c.args.shared.now.topic; hub = c.args.shared.now.hub; board = c.args.shared.now.board } in
    let empty = sym (ap length c.requires.empty) in
    record {
      left = ([], c.from-left.ensures.0, empty);
      room = c.requires.capacity;
      split = subst (λ n. HasSplit s (length c.args.pipes.items) n c.args.ends.now.publisher c.args.ends.now.receiver c.args.ends.now.seat) empty c.requires.ends;
      branches = λ i m f b p q of. absurd (none_at c.args.room.items i b c.requires.empty q);
    }

pub make_branch-requires : goal.make_branch-requires
make_branch-requires g c =
    let inv = c.loop-pipe.invariant in
    let t = inv.left in
    let e = ap (λ l. t.0 ++ l) (sym c.in-Some.ensures.items) ∙ t.1 in
    let b = at_below c.args.pipes.items (length t.0) c.in-Some.pipe (at_taken c.args.pipes.items t.0 c.pop_front.new.self.items c.in-Some.pipe e) in
    let count = t.2 in
    record { room = (length c.args.pipes.items, length c.loop-pipe.made.items, omega (arith, b, count), inv.split) }

pub loop-pipe-preserved : goal.loop-pipe-preserved
loop-pipe-preserved g c =
    let s : SharedSeen = record { topic = c.args.shared.now.topic; hub = c.args.shared.now.hub; board = c.args.shared.now.board } in
    let inv = c.loop-pipe.invariant in
    let t = inv.left in
    let pipes = c.args.pipes.items in
    let made = c.loop-pipe.made.items in
    let e = ap (λ l. t.0 ++ l) (sym c.in-Some.ensures.items) ∙ t.1 in
    let here = subst (λ k. IsAt pipes k c.in-Some.pipe) t.2 (at_taken pipes t.0 c.pop_front.new.self.items c.in-Some.pipe e) in
    let below = at_below pipes (length made) c.in-Some.pipe here in
    let pushed = c.push_reserved.ensures.items in
    let longer = one_longer t.0 c.in-Some.pipe in
    let more = ap length pushed ∙ one_longer made c.make_branch.result in
    let count = t.2 in
    let cap = c.push_reserved.ensures.capacity in
    let room = inv.room in
    record {
      left = (t.0 ++ c.in-Some.pipe ∷ [], one_taken pipes t.0 c.pop_front.new.self.items c.in-Some.pipe e, omega (arith, longer, more, count));
      room = omega (arith, cap, room);
      split = subst (λ k. HasSplit s (length pipes) k c.make_branch.new.ends.publisher c.make_branch.new.ends.receiver c.make_branch.new.ends.seat) (sym more) (c.make_branch.ensures.split (length pipes) (length made) below inv.split);
      branches = subst (AreBranchesFirst g.F.Feed.stands g.F.Feed.comes s pipes) (sym pushed)
          (branches_more g.F.Feed.stands g.F.Feed.comes s pipes made (length made) c.in-Some.pipe c.make_branch.result refl inv.branches here (λ m of. c.make_branch.ensures.branch (length pipes) (length made) m below inv.split of));
    }

pub returns-clause-split : goal.returns-clause-split
returns-clause-split g c =
    let s : SharedSeen = record { topic = c.args.shared.now.topic; hub = c.args.shared.now.hub; board = c.args.shared.now.board } in
    let inv = c.loop-pipe.invariant in
    let t = inv.left in
    let ok = c.loop-pipe.left.ok.0 in
    let none = c.in_default.ensures.cases in
    let all = all_taken c.args.pipes.items t.0 c.loop-pipe.left.items t.1 (let z = none.0 in omega (arith, z, ok)) in
    subst (λ k. HasSplit s (length c.args.pipes.items) k c.loop-pipe.ends.publisher c.loop-pipe.ends.receiver c.loop-pipe.ends.seat) (sym t.2 ∙ all) inv.split

pub returns-clause-branches : goal.returns-clause-branches
returns-clause-branches g c = λ ms a.
    let s : SharedSeen = record { topic = c.args.shared.now.topic; hub = c.args.shared.now.hub; board = c.args.shared.now.board } in
    let inv = c.loop-pipe.invariant in
    let t = inv.left in
    let ok = c.loop-pipe.left.ok.0 in
    let none = c.in_default.ensures.cases in
    let all = all_taken c.args.pipes.items t.0 c.loop-pipe.left.items t.1 (let z = none.0 in omega (arith, z, ok)) in
    branches_all g.F.Feed.stands g.F.Feed.comes s c.args.pipes.items c.loop-pipe.made.items ms (sym t.2 ∙ all) inv.branches a
