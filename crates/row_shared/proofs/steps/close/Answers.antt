use Rattle.std.proofs.Common.{ℕ, sym, ap, ◌∙◌, subst}
use Rattle.std.specs.Prelude.{Some}
use Rattle.chunk_core.specs.Lists.{IsAmong}
use Rattle.res_ledger.specs.declared.event.What.TheVariants.{Lease}
use Rattle.res_ledger.specs.Ledger.{Notes}
use Rattle.row_seat.specs.declared.token.Token.{Token}
use Rattle.row_shared.specs.Places.{Seated, holding}
use Rattle.row_shared.proofs.Called.{held_is, shut_told}
use Rattle.row_shared.proofs.steps.close.Goals as goal

pub turn_slot-requires-clause-held : goal.turn_slot-requires-clause-held
turn_slot-requires-clause-held g c = let l = c.lift.ensures.told in (l.0, held_is c.args.pass.now.me.0.token c.args.row l.0 c.lift.new.pass.me l.1)

pub shut-found-requires-clause-seat : goal.shut-found-requires-clause-seat
shut-found-requires-clause-seat g c = let t = c.args.pass.now.me.0.token in let l = c.lift.ensures.told in let row = c.args.row in
    let e = c.turn_slot.ensures.is ∙ ap (λ (z : Token g.row.P.Denot). holding z row (Some c.args.pay)) (ap (λ (m : Seated g.row.P.Denot). m.0.token) l.1) in
    (ap (λ (m : Seated g.row.P.Denot). m.0.token.live) e ∙ c.requires.idle.1, (c.args.pay, held_is t row (Some c.args.pay) c.turn_slot.new.pass.me e))

pub returns-then-found-eq-FREE-clause-told : goal.returns-then-found-eq-FREE-clause-told
returns-then-found-eq-FREE-clause-told g c = let l = c.lift.ensures.told in let row = c.args.row in
    let e = c.turn_slot.ensures.is ∙ ap (λ (z : Token g.row.P.Denot). holding z row (Some c.args.pay)) (ap (λ (m : Seated g.row.P.Denot). m.0.token) l.1) in
    (shut_told c.args.pass.now.me.0.token row c.args.table.now.table_id.slots c.shut-found.result c.args.pay c.turn_slot.new.pass.me c.shut-found.new.pass.me e c.shut-found.ensures.told).0 c.if-found-eq-FREE.true

pub returns-else-found-eq-FREE-clause-told : goal.returns-else-found-eq-FREE-clause-told
returns-else-found-eq-FREE-clause-told g c = let l = c.lift.ensures.told in let row = c.args.row in
    let e = c.turn_slot.ensures.is ∙ ap (λ (z : Token g.row.P.Denot). holding z row (Some c.args.pay)) (ap (λ (m : Seated g.row.P.Denot). m.0.token) l.1) in
    (shut_told c.args.pass.now.me.0.token row c.args.table.now.table_id.slots c.shut-found.result c.args.pay c.turn_slot.new.pass.me c.shut-found.new.pass.me e c.shut-found.ensures.told).1 c.if-found-eq-FREE.false

pub shut-found-requires-clause-named : goal.shut-found-requires-clause-named
shut-found-requires-clause-named g c = let l = c.lift.ensures.told in let row = c.args.row in
    let e = c.turn_slot.ensures.is ∙ ap (λ (z : Token g.row.P.Denot). holding z row (Some c.args.pay)) (ap (λ (m : Seated g.row.P.Denot). m.0.token) l.1) in
    subst (λ (z : Token g.row.P.Denot). (j : ℕ) → IsAmong (j, row) z.pairs → (s : ℕ) × Notes z.events z.by (Lease j s)) (sym (ap (λ (m : Seated g.row.P.Denot). m.0.token) e)) c.requires.named
