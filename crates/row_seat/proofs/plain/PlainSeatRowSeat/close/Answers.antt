use Rattle.std.proofs.Common.{◌≡◌, ◌≢◌, ◌+◌, slice_set, refl, ap, ◌∙◌, arith}
use Rattle.std.specs.Prelude.{Some}
use Rattle.std.proofs.lemmas.List.{length-set}
use Rattle.row_seat.specs.declared.token.Token.{Token}
use Rattle.std.specs.Map.{keys_of}
use Rattle.row_seat.specs.Rule.{view_of}
use Rattle.row_seat.specs.Steps.{handed_over, shut, without_one}
use Rattle.row_seat.proofs.Ends.{close_cause}
use Rattle.row_seat.proofs.Hands.{rows_without}
use Rattle.row_seat.proofs.Sitting.{has_place, in_hand, leased_row, open_row, others_put, sits_put, stays_table, word_read, word_small, yours_table}
use Rattle.row_seat.proofs.plain.PlainSeatRowSeat.close.Goals as goal

pub index-requires : goal.index-requires
index-requires g c = let h = c.requires.fits in let b = (has_place h c.args.row (open_row h c.args.row c.requires.row.0)).0 in omega arith

pub index_mut-requires : goal.index_mut-requires
index_mut-requires g c = let h = c.requires.fits in let b = (has_place h c.args.row (open_row h c.args.row c.requires.row.0)).0 in omega arith

pub index_mut-requires-then-word-eq-HANDED : goal.index_mut-requires-then-word-eq-HANDED
index_mut-requires-then-word-eq-HANDED g c = let h = c.requires.fits in let b = (has_place h c.args.row (open_row h c.args.row c.requires.row.0)).1 in omega arith

pub index_mut-requires-else-word-eq-HANDED : goal.index_mut-requires-else-word-eq-HANDED
index_mut-requires-else-word-eq-HANDED g c = let h = c.requires.fits in let b = (has_place h c.args.row (open_row h c.args.row c.requires.row.0)).1 in omega arith

pub overflow_add-word : goal.overflow_add-word
overflow_add-word g c = let h = c.requires.fits in let row = c.args.row in let mine = c.requires.row.0 in
    let e = word_read h row c.index.result.now (open_row h row mine) c.index.ensures in let l = word_small h row mine in omega arith

pub returns-then-word-eq-HANDED : goal.returns-then-word-eq-HANDED
returns-then-word-eq-HANDED g c =
    let s = c.args.self.now in let d = c.args.desk.now in let h = c.requires.fits in let row = c.args.row in let can = c.requires.row in let v = s.token in
    let out = c.take_out-pay.ensures in let p = c.take_out-pay.result in let hands = c.take_out-pay.new.hands.items in
    let x = c.index.result.now in let e = word_read h row x (open_row h row can.0) c.index.ensures in let last : x + 2 ≡ 3 = c.if-word-eq-HANDED.true in
    let w = handed_over (shut v row p) row p in
    let t = yours_table h row x p can e last in
    let is : c.step-then-word-eq-HANDED.result ≡ w = rw (c.step-then-word-eq-HANDED.ensures, c.step.ensures) refl in
    let views : c.put.result ≡ slice_set d.views s.id w = c.put.ensures ∙ ap (λ t. slice_set d.views s.id t) is in let less = out.less in let room = out.room in let many = length-set d.slots.items row (Some p) in record {
      view = (p, out.pay, ap (λ (t : Token g.row.P.Denot). view_of t hands) is ∙ ap (λ l. view_of w l) out.rest, λ q. let k = (leased_row h q.0 row q.1).1 in omega arith);
      fits = sits_put h w views t many refl is h.seated.live h.by (ap keys_of out.rest ∙ (rows_without row s.hands.items ∙ ap (λ l. without_one row l) h.held)) (let m = h.hold in omega arith) (λ m. let q = h.whole m in omega arith);
      others = others_put h w views t many;
    }

pub returns-else-word-eq-HANDED : goal.returns-else-word-eq-HANDED
returns-else-word-eq-HANDED g c =
    let s = c.args.self.now in let d = c.args.desk.now in let h = c.requires.fits in let row = c.args.row in let can = c.requires.row in let v = s.token in
    let out = c.take_out-pay.ensures in let p = c.take_out-pay.result in let hands = c.take_out-pay.new.hands.items in
    let x = c.index.result.now in let e = word_read h row x (open_row h row can.0) c.index.ensures in let more : x + 2 ≢ 3 = c.if-word-eq-HANDED.false in
    let w = shut v row p in
    let t = stays_table h row x p can e more in
    let views : c.put-else-word-eq-HANDED.result ≡ slice_set d.views s.id w = c.put-else-word-eq-HANDED.ensures ∙ ap (λ t. slice_set d.views s.id t) c.step.ensures in let less = out.less in let room = out.room in let many = length-set d.slots.items row (Some p) in record {
      view = (p, out.pay, ap (λ (t : Token g.row.P.Denot). view_of t hands) c.step.ensures ∙ ap (λ l. view_of w l) out.rest, close_cause h.table.rule h.seated row (in_hand h row can.0) (λ q. more (omega (e, q, arith))) can.2);
      fits = sits_put h w views t many refl c.step.ensures h.seated.live h.by (ap keys_of out.rest ∙ (rows_without row s.hands.items ∙ ap (λ l. without_one row l) h.held)) (let m = h.hold in omega arith) (λ m. let q = h.whole m in omega arith);
      others = others_put h w views t many;
    }
