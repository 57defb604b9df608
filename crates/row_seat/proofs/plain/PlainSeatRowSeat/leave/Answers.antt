use Rattle.std.proofs.Common.{◌≡◌, ◌≢◌, ◌-◌, slice_set, refl, ap, ◌∙◌, arith}
use Rattle.std.specs.Prelude.{slice_index, Some}
use Rattle.row_seat.specs.declared.token.Token.{Token}
use Rattle.row_seat.specs.Rule.{view_of}
use Rattle.row_seat.specs.Steps.{gone, handed_over}
use Rattle.row_seat.proofs.Sitting.{has_place, last_slot, last_table, leased_row, leave_table, others_put, sits_put, slot_read, word_read}
use Rattle.row_seat.proofs.Stayed.{leave_cause}
use Rattle.row_seat.proofs.Tells.{told_last}
use Rattle.row_seat.proofs.plain.PlainSeatRowSeat.leave.Goals as goal

pub index-requires : goal.index-requires
index-requires g c = let h = c.requires.fits in let b = (has_place h c.args.row (leased_row h c.args.stream c.args.row c.requires.row.0).0).0 in omega arith

pub overflow_sub-rest : goal.overflow_sub-rest
overflow_sub-rest g c = let h = c.requires.fits in let row = c.args.row in let b = leased_row h c.args.stream row c.requires.row.0 in let b1 = b.1 in
    let e = word_read h row c.index.result.now b.0 c.index.ensures in omega arith

pub index_mut-requires : goal.index_mut-requires
index_mut-requires g c = let h = c.requires.fits in let b = (has_place h c.args.row (leased_row h c.args.stream c.args.row c.requires.row.0).0).0 in omega arith

pub index-requires-then-rest-eq-HANDED : goal.index-requires-then-rest-eq-HANDED
index-requires-then-rest-eq-HANDED g c = let h = c.requires.fits in let b = (has_place h c.args.row (leased_row h c.args.stream c.args.row c.requires.row.0).0).1 in omega arith

pub returns-then-rest-eq-HANDED : goal.returns-then-rest-eq-HANDED
returns-then-rest-eq-HANDED g c = let s = c.args.self.now in let d = c.args.desk.now in let h = c.requires.fits in let row = c.args.row in let j = c.args.stream in let can = c.requires.row in let v = s.token in
    let x = c.index.result.now in let b = leased_row h j row can.0 in let b1 = b.1 in let last : x - 4 ≡ 3 = c.if-rest-eq-HANDED.true in
    let e = word_read h row x b.0 c.index.ensures in let seven : slice_index d.words.items row ≡ 7 = omega arith in
    let p = last_slot h row seven in
    let y : c.index-then-rest-eq-HANDED.result.now ≡ Some p.0 = slot_read h row c.index-then-rest-eq-HANDED.result.now b.0 c.index-then-rest-eq-HANDED.ensures ∙ p.1 in
    let w = handed_over (gone v j row) row p.0 in
    let t = last_table h j row x can e p.0 last p.1 in
    let is : c.step-then-rest-eq-HANDED.result ≡ w = rw (c.step-then-rest-eq-HANDED.ensures, c.step.ensures, y) refl in
    let views : c.put.result ≡ slice_set d.views s.id w = c.put.ensures ∙ ap (λ t. slice_set d.views s.id t) is in record {
      view = (p.0, ap (λ (t : Token g.row.P.Denot). view_of t s.hands.items) is, told_last h.table.rule h.seated j row p.0 s.hands.items h.held can.0 seven p.1);
      fits = sits_put h w views t refl refl is h.seated.live h.by h.held h.hold h.whole;
      others = others_put h w views t refl;
    }

pub returns-else-rest-eq-HANDED : goal.returns-else-rest-eq-HANDED
returns-else-rest-eq-HANDED g c = let s = c.args.self.now in let d = c.args.desk.now in let h = c.requires.fits in let row = c.args.row in let j = c.args.stream in let can = c.requires.row in let v = s.token in
    let x = c.index.result.now in let b = leased_row h j row can.0 in let more : x - 4 ≢ 3 = c.if-rest-eq-HANDED.false in
    let e = word_read h row x b.0 c.index.ensures in
    let w = gone v j row in
    let t = leave_table h j row x can e more in
    let views : c.put-else-rest-eq-HANDED.result ≡ slice_set d.views s.id w = c.put-else-rest-eq-HANDED.ensures ∙ ap (λ t. slice_set d.views s.id t) c.step.ensures in record {
      view = (ap (λ (t : Token g.row.P.Denot). view_of t s.hands.items) c.step.ensures, λ m. leave_cause h.table.rule h.seated m j row can.0 (λ seven. more (omega (e, seven, arith))) s.hands.items h.held);
      fits = sits_put h w views t refl refl c.step.ensures h.seated.live h.by h.held h.hold h.whole;
      others = others_put h w views t refl;
    }
