use Rattle.std.proofs.Common.{◌≡◌, slice_set, refl, ap, ◌∙◌, arith}
use Rattle.row_seat.specs.declared.token.Token.{Token}
use Rattle.row_seat.specs.Rule.{view_of}
use Rattle.row_seat.specs.Steps.{leased}
use Rattle.row_seat.proofs.Sitting.{has_place, lease_table, open_row, others_put, sits_put, word_read, word_small}
use Rattle.row_seat.proofs.plain.PlainSeatRowSeat.lease.Goals as goal

pub index_mut-requires : goal.index_mut-requires
index_mut-requires g c = let h = c.requires.fits in let b = (has_place h c.args.row (open_row h c.args.row c.requires.row.1)).0 in omega arith

pub overflow_add-index_mut : goal.overflow_add-index_mut
overflow_add-index_mut g c = let h = c.requires.fits in let row = c.args.row in let mine = c.requires.row.1 in
    let e = word_read h row c.index_mut.result.now (open_row h row mine) c.index_mut.ensures.value in let l = word_small h row mine in omega arith

pub returns : goal.returns
returns g c = let s = c.args.self.now in let d = c.args.desk.now in let h = c.requires.fits in let can = c.requires.row in let row = c.args.row in let j = c.args.stream in
    let x = c.index_mut.result.now in let w = leased s.token j row in
    let t = lease_table h j row x c.ranges.stream.fits can (word_read h row x (open_row h row can.1) c.index_mut.ensures.value) in
    let views : c.put.result ≡ slice_set d.views s.id w = c.put.ensures ∙ ap (λ t. slice_set d.views s.id t) c.step.ensures in record {
      view = ap (λ (t : Token g.row.P.Denot). view_of t s.hands.items) c.step.ensures;
      fits = sits_put h w views t refl refl c.step.ensures h.seated.live h.by h.held h.hold h.whole;
      others = others_put h w views t refl;
    }
