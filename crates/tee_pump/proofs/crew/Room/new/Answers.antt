-- The crew of the branches that were made.
use Rattle.std.proofs.Common.{length, sym, subst, arith}
use Rattle.tee_pump.specs.Branches.{SharedSeen}
use Rattle.tee_pump.specs.Making.{HasSplit}
use Rattle.tee_pump.specs.declared.crew.Crew.{Crew}
use Rattle.tee_pump.proofs.Crewing.{crew_of}
use Rattle.tee_pump.proofs.crew.Room.new.Goals as goal

pub returns : goal.returns
returns g c = λ ms a.
    let s : SharedSeen = record { topic = c.in_ok-shared.shared.topic; hub = c.in_ok-shared.shared.hub; board = c.in_ok-shared.shared.board } in
    let e = c.make_branches-branches.new.ends in
    let crew : Crew g.row.F.Denot = record { publisher = e.publisher; printer = c.in_ok-printer.printer; seat = e.seat; branches = c.make_branches-branches.result; hired = c.in_ok-hired.hired; ends = c.in_ok-told.told } in
    let ok = c.args.pipes.ok.0 in
    let len = c.len-count.ensures in
    let r = c.requires.0 in
    let hired = c.in_ok-hired.ensures.capacity in
    let told = c.in_ok-told.ensures.capacity in
    let parts = c.in_ok-printer.ensures.parts in
    crew_of g.F.Feed.stands g.F.Feed.comes s ms c.args.pipes.items crew c.len-count.result a (omega (arith, r))
    (subst (λ x. HasSplit s (length c.args.pipes.items) (length c.args.pipes.items) e.publisher x e.seat) (sym parts.0) c.make_branches-branches.ensures.split) (c.make_branches-branches.ensures.branches ms a) c.in_ok-printer.ensures.prints (omega (arith, ok, len)) parts.1
    c.in_ok-hired.ensures.items c.in_ok-told.ensures.items (omega (arith, ok, len, hired)) (omega (arith, ok, len, told))
