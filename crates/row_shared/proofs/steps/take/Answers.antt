use Rattle.std.proofs.Common.{ap, ◌∙◌}
use Rattle.std.specs.Prelude.{None, Some}
use Rattle.row_seat.specs.declared.token.Token.{Token}
use Rattle.row_seat.specs.Steps.{took}
use Rattle.row_shared.specs.Places.{Seated, holding}
use Rattle.row_shared.proofs.Called.{held_is, taken_row}
use Rattle.row_shared.proofs.steps.take.Goals as goal

pub turn_slot-requires-clause-held : goal.turn_slot-requires-clause-held
turn_slot-requires-clause-held g c = let l = c.fetch.ensures.told in (Some l.0, held_is (took c.args.pass.now.me.0.token c.args.row) c.args.row (Some l.0) c.fetch.new.pass.me l.1)

pub give_back-requires-clause-row : goal.give_back-requires-clause-row
give_back-requires-clause-row g c = let l = c.fetch.ensures.told in let row = c.args.row in let t = c.args.pass.now.me.0.token in
    let e = c.turn_slot.ensures.is ∙ ap (λ (z : Token g.row.P.Denot). holding z row None) (ap (λ (m : Seated g.row.P.Denot). m.0.token) l.1) in taken_row t row None c.turn_slot.new.pass.me e c.requires.row.0
