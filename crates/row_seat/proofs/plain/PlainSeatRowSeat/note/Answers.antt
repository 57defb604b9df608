use Rattle.std.proofs.Common.{◌≡◌, length, slice_set, refl, sym, ap, ◌∙◌, subst, arith}
use Rattle.std.specs.Prelude.{vec_capacity}
use Rattle.res_ledger.specs.declared.event.Event.{Event}
use Rattle.row_seat.specs.PlainSeats.{IsTable}
use Rattle.row_seat.specs.Steps.{noted}
use Rattle.row_seat.proofs.Sitting.{fresh_stamp, others_put, room_left, sits_put, tick_table}
use Rattle.row_seat.proofs.plain.PlainSeatRowSeat.note.Goals as goal

pub push_reserved-requires : goal.push_reserved-requires
push_reserved-requires g c = let l = room_left c.requires.fits c.requires.room in let e = c.args.desk.now.events.ok.0 in omega arith

pub returns : goal.returns
returns g c = let s = c.args.self.now in let d = c.args.desk.now in let h = c.requires.fits in let v = s.token in
    let e : Event = record { stamp = length d.events.items; by = v.by; what = c.args.what } in let w = noted v e in
    let at : c.len-stamp.result ≡ length d.events.items = c.len-stamp.ensures ∙ d.events.ok.0 in
    let is : c.step.result ≡ w = rw (c.step.ensures, at, h.by) refl in
    let views : c.put.result ≡ slice_set d.views s.id w = c.put.ensures ∙ ap (λ t. slice_set d.views s.id t) is in
    let new = c.push_reserved.new.self in
    let t : IsTable d.slots.items d.words.items new.items (vec_capacity new) (slice_set d.views s.id w) =
    subst (λ n. IsTable d.slots.items d.words.items new.items n (slice_set d.views s.id w)) (sym c.push_reserved.ensures.capacity) (rw (c.push_reserved.ensures.items, at, h.by) (tick_table h c.args.what c.requires.event c.requires.room)) in record {
      view = rw (c.step.ensures, h.by) refl;
      stamp = rw at (fresh_stamp h);
      fits = sits_put h w views t refl refl is h.seated.live h.by h.held h.hold h.whole;
      others = others_put h w views t refl;
    }
