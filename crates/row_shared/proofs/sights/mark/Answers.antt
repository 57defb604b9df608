use Rattle.std.proofs.Common.{[]}
use Rattle.row_seat.specs.Fronts.{sight_of}
use Rattle.row_seat.specs.Rule.{view_of}
use Rattle.row_shared.proofs.Marking.{marked_here}
use Rattle.row_shared.proofs.sights.mark.Goals as goal

pub mark_off-mark-requires-clause-saw : goal.mark_off-mark-requires-clause-saw
mark_off-mark-requires-clause-saw g c = let t = c.args.pass.now.me.0.token in let x = sight_of (view_of t []) c.see-front.result in (x, marked_here t x c.see-front.new.pass.me c.see-front.ensures.told.0)

pub returns-clause-mark : goal.returns-clause-mark
returns-clause-mark g c = let t = c.args.pass.now.me.0.token in let x = sight_of (view_of t []) c.see-front.result in c.mark_off-mark.ensures.mark x (marked_here t x c.see-front.new.pass.me c.see-front.ensures.told.0)
