use Rattle.std.proofs.Common.{◌++◌, ◌∷◌, [], refl, ap, ◌∙◌, subst, arith}
use Rattle.std.proofs.lemmas.List.{length_push}
use Rattle.res_ledger.specs.declared.event.Event.{Event}
use Rattle.row_seat.specs.Rule.{IsInside}
use Rattle.row_seat.specs.Steps.{noted}
use Rattle.row_shared.proofs.Itself.{noted_itself}
use Rattle.row_shared.proofs.Sitting.{fits_put}
use Rattle.row_shared.proofs.seat.SharedSeatRowSeat.note.Goals as goal

pub returns-clause-fits : goal.returns-clause-fits
returns-clause-fits g c = let s = c.args.self.now in let h = c.requires.fits in let t = s.pass.me.0.token in let e : Event = record { stamp = c.tick-stamp.result; by = t.by; what = c.args.what } in let w = noted t e in
    let told = c.tick-stamp.ensures.told.0 in let more = c.push_reserved.ensures in let cap = more.capacity in let room = c.requires.room in let len = length_push t.events e in
    fits_put c.args.desk.now w (c.tick-stamp.ensures.table ∙ h.table.0, h.table.1, h.table.2) told.0 h.calm.1 h.by h.first (subst (λ a. IsInside a.shared.table_id.slots w) c.deref.ensures told.1) (noted_itself t h.itself e s.hands.items refl c.requires.event)
    h.held (more.items ∙ (ap (λ l. l ++ record { stamp = c.tick-stamp.result; by = s.by; what = c.args.what } ∷ []) h.noted ∙ ap (λ k. t.events ++ record { stamp = c.tick-stamp.result; by = k; what = c.args.what } ∷ []) h.by)) h.whole h.hold
    (λ m. let a = h.pages m in omega arith) (λ m. let a = h.leaves m in omega arith)
