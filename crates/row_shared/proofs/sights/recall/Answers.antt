use Rattle.std.proofs.Common.{ap, ◌∙◌}
use Rattle.row_shared.specs.Places.{Seated}
use Rattle.row_shared.proofs.Marking.{marked_here, recalled_told}
use Rattle.row_shared.proofs.sights.recall.Goals as goal

pub look_back-requires-clause-live : goal.look_back-requires-clause-live
look_back-requires-clause-live g c = let x = c.requires.mark in ap (λ (m : Seated g.row.P.Denot). m.0.token.live) (c.take_in.ensures.marked x.0 x.1) ∙ c.requires.idle.1

pub look_back-requires-clause-marked : goal.look_back-requires-clause-marked
look_back-requires-clause-marked g c = let x = c.requires.mark in (x.0, marked_here c.args.pass.now.me.0.token x.0 c.take_in.new.pass.me (c.take_in.ensures.marked x.0 x.1))

pub returns-clause-seat : goal.returns-clause-seat
returns-clause-seat g c = let x = c.requires.mark in (recalled_told c.args.pass.now.me.0.token x.0 c.take_in.new.pass.me c.look_back.new.pass.me (c.take_in.ensures.marked x.0 x.1) c.look_back.ensures.told).0

pub returns-clause-behind : goal.returns-clause-behind
returns-clause-behind g c = λ x e. (recalled_told c.args.pass.now.me.0.token x c.take_in.new.pass.me c.look_back.new.pass.me (c.take_in.ensures.marked x e) c.look_back.ensures.told).1
