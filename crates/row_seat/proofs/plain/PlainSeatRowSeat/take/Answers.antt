use Rattle.std.proofs.Common.{◌≡◌, slice_set, refl, sym, ap, ◌∙◌, subst, arith}
use Rattle.std.proofs.lemmas.List.{length-set}
use Rattle.chunk_core.specs.Lists.{IsAmong}
use Rattle.row_seat.specs.declared.token.Token.{Token}
use Rattle.row_seat.specs.Rule.{view_of}
use Rattle.row_seat.specs.Steps.{took}
use Rattle.row_seat.proofs.Ends.{given_one}
use Rattle.row_seat.proofs.Moves.{some_is, some_none}
use Rattle.row_seat.proofs.Sitting.{handed_row, has_place, others_put, sits_put, slot_read, take_table, taken_slot}
use Rattle.row_seat.proofs.plain.PlainSeatRowSeat.take.Goals as goal

pub index_mut-requires : goal.index_mut-requires
index_mut-requires g c = let h = c.requires.fits in let b = (has_place h c.args.row (handed_row h c.args.row c.requires.row.0)).1 in omega arith

pub unreachable-requires : goal.unreachable-requires
unreachable-requires g c = let h = c.requires.fits in let row = c.args.row in let can = c.requires.row in let x = taken_slot h row can.0 can.1 in
    some_none x.0 (sym x.2 ∙ (sym (slot_read h row c.index_mut.result.now (handed_row h row can.0) c.index_mut.ensures.value) ∙ (sym c.take.ensures.value ∙ c.in-None.is)))

pub returns : goal.returns
returns g c = let s = c.args.self.now in let d = c.args.desk.now in let h = c.requires.fits in let row = c.args.row in let can = c.requires.row in let w = took s.token row in
    let x = taken_slot h row can.0 can.1 in
    let is = some_is x.0 c.in-Some.pay (sym x.2 ∙ (sym (slot_read h row c.index_mut.result.now (handed_row h row can.0) c.index_mut.ensures.value) ∙ (sym c.take.ensures.value ∙ c.in-Some.is))) in
    let pay = subst (λ p. IsAmong (row, p) s.token.given) is x.1 in
    let views : c.put.result ≡ slice_set d.views s.id w = c.put.ensures ∙ ap (λ t. slice_set d.views s.id t) c.step.ensures in
    let t = take_table h row can.0 in let many = length-set d.slots.items row c.take.new.self in record {
      view = ap (λ (t : Token g.row.P.Denot). view_of t s.hands.items) c.step.ensures;
      pay = pay;
      only = λ q m. given_one h.table.rule h.seated row q c.in-Some.pay m pay;
      fits = sits_put h w views (rw c.take.ensures.after t) many refl c.step.ensures h.seated.live h.by h.held h.hold (λ m. let l = h.whole m in omega arith);
      others = others_put h w views (rw c.take.ensures.after t) many;
    }
