use Rattle.std.proofs.Common.{◌-◌, ◌≤◌, refl, sym, ap, ◌∙◌, arith}
use Rattle.chunk_core.proofs.Filters.{bool_not}
use Rattle.std.specs.Map.{keys_of}
use Rattle.row_seat.specs.Rule.{view_of}
use Rattle.row_seat.specs.Steps.{split_main, split_off}
use Rattle.row_seat.proofs.Times.{run_length}
use Rattle.row_shared.specs.Places.{Seated}
use Rattle.row_shared.proofs.Itself.{main_itself, off_itself}
use Rattle.row_shared.proofs.Pairs.{main_inside, off_inside}
use Rattle.row_shared.proofs.Sitting.{fits_put}
use Rattle.row_shared.proofs.seat.SharedSeatRowSeat.split.Goals.{then-rows, else-rows}
use Rattle.row_shared.proofs.seat.SharedSeatRowSeat.split.Goals as goal

pub returns-clause-ok : goal.returns-clause-ok
returns-clause-ok g c = let s = c.args.self.now in let d = c.args.desk.now in let h = c.requires.fits in let can = c.requires.can in let j = c.args.stream in let from = c.args.rows.from in let to = c.args.rows.to in let n = c.args.events in let t = s.pass.me.0.token in
    let e = c.split-pass.ensures in
    let count : to - from ≤ c.if-rows.count = elim c.if-rows.branch [ then-rows w ↦ let a = w.if-rows in let b = w.count-is in grind arith | else-rows w ↦ let a = w.if-rows in let b = w.count-is in grind arith ] in
    let hands = c.in_ok-hands.ensures in let pages = c.in_ok-pages.ensures in (
      ap (λ (m : Seated g.row.P.Denot). view_of m.0.token s.hands.items) e.main,
      rw (e.other, hands.items) refl,
      fits_put d (split_off t j from to n) (e.table.1 ∙ h.table.0, h.table.1, h.table.2) e.other refl refl (λ m. absurd (bool_not (sym m))) (off_inside _ t h.inside j from to n can.3) (off_itself t j from to n) (ap keys_of hands.items) pages.items (λ m. absurd (bool_not (sym m)))
          (λ m. let r = run_length from (to - from) in let a = hands.len in let b = hands.capacity in omega arith) (λ m. absurd (bool_not (sym m))) (λ m. let b = pages.capacity in omega arith),
    )

pub returns-clause-fits : goal.returns-clause-fits
returns-clause-fits g c = let s = c.args.self.now in let d = c.args.desk.now in let h = c.requires.fits in let can = c.requires.can in let j = c.args.stream in let from = c.args.rows.from in let to = c.args.rows.to in let n = c.args.events in let t = s.pass.me.0.token in
    let e = c.split-pass.ensures in
    fits_put d (split_main t j from to n) (e.table.0 ∙ h.table.0, h.table.1, h.table.2) e.main h.calm.1 h.by h.first (main_inside _ t h.inside j from to n) (main_itself t h.itself j from to n can.0 can.1 can.2 can.3) h.held h.noted h.whole
    (λ m. absurd (bool_not (sym can.0 ∙ m))) h.pages (λ m. absurd (bool_not (sym can.0 ∙ m)))
