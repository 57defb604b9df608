use Rattle.std.proofs.Common.{◌↔◌, ℕ, true, sym, ap, ◌∙◌, subst}
use Rattle.chunk_core.specs.Lists.{IsAmong}
use Rattle.chunk_core.specs.declared.code.Exit.TheVariants.{Succeeded}
use Rattle.res_ledger.specs.declared.event.What.TheVariants.{Acquire, Close, Final}
use Rattle.row_seat.specs.declared.view.View.{View}
use Rattle.row_seat.specs.Views.{MayNote, CanPlace, CanClose, CanTake, CanFinish, IsFreshStamp, took}
use Rattle.row_seat.specs.PlainSeats.{shown_lent}
use Rattle.worked_values.proofs.Life.{first, written, mine, was_noted, was_written, was_mine, may_acquire, may_place, may_write, may_close, can_close, can_take, may_final, can_finish, given_eight, is_life}
use Rattle.worked_values.proofs.seat_lives.whole_life.Goals as goal

pub note-requires-clause-event : goal.note-requires-clause-event
note-requires-clause-event c = subst (λ (v : View ℕ). MayNote v (Acquire 0 0)) (sym c.in_ok-seat.ensures.0) may_acquire

pub place-requires-clause-row : goal.place-requires-clause-row
place-requires-clause-row c = let is1 = was_noted _ _ first c.note.result (Acquire 0 0) c.in_ok-seat.ensures.0 c.note.ensures.view in
    subst (λ (v : View ℕ). CanPlace v 0) (sym is1) (may_place c.note.result)

pub pay_mut-requires : goal.pay_mut-requires
pay_mut-requires c = let is1 = was_noted _ _ first c.note.result (Acquire 0 0) c.in_ok-seat.ensures.0 c.note.ensures.view in
    record { row = may_write c.note.result _ _ is1 c.place.ensures.view }

pub note-requires-2-clause-event : goal.note-requires-2-clause-event
note-requires-2-clause-event c = let is1 = was_noted _ _ first c.note.result (Acquire 0 0) c.in_ok-seat.ensures.0 c.note.ensures.view in
    let is3 = was_written c.note.result _ _ _ is1 c.place.ensures.view (shown_lent c.place.new.self 0 8) in
    subst (λ (v : View ℕ). MayNote v (Close 0 Succeeded)) (sym is3) (may_close c.note.result)

pub close-requires-clause-row : goal.close-requires-clause-row
close-requires-clause-row c = let is1 = was_noted _ _ first c.note.result (Acquire 0 0) c.in_ok-seat.ensures.0 c.note.ensures.view in
    let is3 = was_written c.note.result _ _ _ is1 c.place.ensures.view (shown_lent c.place.new.self 0 8) in
    let is4 = was_noted _ _ (written c.note.result) c.note-2.result (Close 0 Succeeded) is3 c.note-2.ensures.view in
    subst (λ (v : View ℕ). CanClose v 0) (sym is4) (can_close c.note.result c.note-2.result)

pub take-pay-requires-clause-row : goal.take-pay-requires-clause-row
take-pay-requires-clause-row c = let is1 = was_noted _ _ first c.note.result (Acquire 0 0) c.in_ok-seat.ensures.0 c.note.ensures.view in
    let is3 = was_written c.note.result _ _ _ is1 c.place.ensures.view (shown_lent c.place.new.self 0 8) in
    let is4 = was_noted _ _ (written c.note.result) c.note-2.result (Close 0 Succeeded) is3 c.note-2.ensures.view in
    let is5 = was_mine c.note.result c.note-2.result c.close.result _ _ is4 c.close.ensures.view in
    subst (λ (v : View ℕ). CanTake v 0) (sym is5) (can_take c.note.result c.note-2.result)

pub note-requires-3-clause-event : goal.note-requires-3-clause-event
note-requires-3-clause-event c = let is1 = was_noted _ _ first c.note.result (Acquire 0 0) c.in_ok-seat.ensures.0 c.note.ensures.view in
    let is3 = was_written c.note.result _ _ _ is1 c.place.ensures.view (shown_lent c.place.new.self 0 8) in
    let is4 = was_noted _ _ (written c.note.result) c.note-2.result (Close 0 Succeeded) is3 c.note-2.ensures.view in
    let is5 = was_mine c.note.result c.note-2.result c.close.result _ _ is4 c.close.ensures.view in
    let is6 = c.take-pay.ensures.view ∙ ap (λ (v : View ℕ). took v 0) is5 in
    subst (λ (v : View ℕ). MayNote v (Final 0 Succeeded true)) (sym is6) (may_final c.note.result c.note-2.result)

pub finish-ledger-requires-clause-can : goal.finish-ledger-requires-clause-can
finish-ledger-requires-clause-can c = let is1 = was_noted _ _ first c.note.result (Acquire 0 0) c.in_ok-seat.ensures.0 c.note.ensures.view in
    let is3 = was_written c.note.result _ _ _ is1 c.place.ensures.view (shown_lent c.place.new.self 0 8) in
    let is4 = was_noted _ _ (written c.note.result) c.note-2.result (Close 0 Succeeded) is3 c.note-2.ensures.view in
    let is5 = was_mine c.note.result c.note-2.result c.close.result _ _ is4 c.close.ensures.view in
    let is6 = c.take-pay.ensures.view ∙ ap (λ (v : View ℕ). took v 0) is5 in
    let is7 = was_noted _ _ (took (mine c.note.result c.note-2.result) 0) c.note-3.result (Final 0 Succeeded true) is6 c.note-3.ensures.view in
    subst (λ (v : View ℕ). CanFinish v) (sym is7) (can_finish c.note.result c.note-2.result c.note-3.result)

pub returns-clause-pay : goal.returns-clause-pay
returns-clause-pay c = let is1 = was_noted _ _ first c.note.result (Acquire 0 0) c.in_ok-seat.ensures.0 c.note.ensures.view in
    let is3 = was_written c.note.result _ _ _ is1 c.place.ensures.view (shown_lent c.place.new.self 0 8) in
    let is4 = was_noted _ _ (written c.note.result) c.note-2.result (Close 0 Succeeded) is3 c.note-2.ensures.view in
    let is5 = was_mine c.note.result c.note-2.result c.close.result _ _ is4 c.close.ensures.view in
    given_eight c.note.result c.note-2.result c.take-pay.result (subst (λ (v : View ℕ). IsAmong (0, c.take-pay.result) v.given) is5 c.take-pay.ensures.pay)

pub returns-clause-events : goal.returns-clause-events
returns-clause-events c = let is1 = was_noted _ _ first c.note.result (Acquire 0 0) c.in_ok-seat.ensures.0 c.note.ensures.view in
    let is3 = was_written c.note.result _ _ _ is1 c.place.ensures.view (shown_lent c.place.new.self 0 8) in
    let is4 = was_noted _ _ (written c.note.result) c.note-2.result (Close 0 Succeeded) is3 c.note-2.ensures.view in
    let is5 = was_mine c.note.result c.note-2.result c.close.result _ _ is4 c.close.ensures.view in
    let is6 = c.take-pay.ensures.view ∙ ap (λ (v : View ℕ). took v 0) is5 in
    let is7 = was_noted _ _ (took (mine c.note.result c.note-2.result) 0) c.note-3.result (Final 0 Succeeded true) is6 c.note-3.ensures.view in
    is_life c.finish-ledger.result c.note.result c.note-2.result c.note-3.result c.finish-ledger.ensures.stamped (λ x. subst (λ (v : View ℕ). IsAmong x c.finish-ledger.result ↔ IsAmong x v.events) is7 (c.finish-ledger.ensures.whole x))
    (subst (λ (v : View ℕ). IsFreshStamp v c.note-2.result) is3 c.note-2.ensures.stamp) (subst (λ (v : View ℕ). IsFreshStamp v c.note-3.result) is6 c.note-3.ensures.stamp)
