use Rattle.std.proofs.Common.{ℕ, ◌++◌, [], ◌∷◌, ap, ◌∙◌, subst, arith}
use Rattle.std.proofs.lemmas.List.{map_push}
use Rattle.std.specs.Map.{keys_of}
use Rattle.row_seat.specs.Rule.{IsInside}
use Rattle.row_seat.specs.Steps.{placed}
use Rattle.row_seat.proofs.Members.{length_without}
use Rattle.row_shared.proofs.Itself.{placed_itself}
use Rattle.row_shared.proofs.Sitting.{fits_put}
use Rattle.row_shared.proofs.seat.SharedSeatRowSeat.place.Goals as goal

pub returns-clause-fits : goal.returns-clause-fits
returns-clause-fits g c = let s = c.args.self.now in let h = c.requires.fits in let row = c.args.row in let t = s.pass.me.0.token in let w = placed t row in let told = c.place.ensures.told.0 in let more = c.push_reserved.ensures in
    let cap = more.capacity in let len = more.len in
    fits_put c.args.desk.now w (c.place.ensures.table ∙ h.table.0, h.table.1, h.table.2) told.0 h.calm.1 h.by h.first (subst (λ a. IsInside a.shared.table_id.slots w) c.deref.ensures told.1) (placed_itself t h.itself row)
    (ap keys_of more.items ∙ (map_push (λ (x : ℕ × g.row.P.Denot). x.0) s.hands.items (row, c.args.pay) ∙ ap (λ l. l ++ row ∷ []) h.held)) h.noted
    (λ m. let a = h.whole m in omega arith) (λ m. let a = h.hold m in let l = length_without row t.empty c.requires.row.0 in omega arith) h.pages h.leaves
