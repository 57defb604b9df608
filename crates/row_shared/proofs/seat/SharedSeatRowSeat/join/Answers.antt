use Rattle.std.proofs.Common.{◌≡◌, ◌+◌, ◌≤◌, ◌++◌, length, sym, ap, ◌∙◌, subst, arith, length-append}
use Rattle.std.specs.Arc.{arc_value}
use Rattle.chunk_core.proofs.Filters.{bool_not}
use Rattle.row_seat.specs.Rule.{IsInside}
use Rattle.row_seat.specs.Steps.{joined}
use Rattle.row_shared.proofs.Calls.{comes_back}
use Rattle.row_shared.proofs.Itself.{joined_itself}
use Rattle.row_shared.proofs.Sitting.{fits_put}
use Rattle.row_shared.proofs.seat.SharedSeatRowSeat.join.Goals as goal

pub join-requires-clause-two : goal.join-requires-clause-two
join-requires-clause-two g c = let f = c.requires.fits in comes_back c.args.desk.now f.0 f.1 c.requires.can

pub unreachable-requires : goal.unreachable-requires
unreachable-requires g c = let s = c.args.self.now in let o = c.args.other in let d = c.args.desk.now in let f = c.requires.fits in let can = c.requires.can in let v = s.pass.me.0.token in let w = o.pass.me.0.token in
    let few : length (v.events ++ w.events) + (v.spare + w.spare) ≤ (arc_value d.table).shared.key.events = subst (λ a. length (v.events ++ w.events) + (v.spare + w.spare) ≤ a.shared.key.events) c.deref.ensures c.join.ensures.told.1 in
    let room = f.0.pages can.0 in let full = c.in-Err.ensures.full in let l = length-append v.events w.events in
    let a : length s.events.items ≡ length v.events = ap length f.0.noted in let b : length o.events.items ≡ length w.events = ap length f.1.noted in let p = s.events.ok.0 in let q = o.events.ok.0 in omega arith

pub returns-clause-fits : goal.returns-clause-fits
returns-clause-fits g c = let s = c.args.self.now in let o = c.args.other in let d = c.args.desk.now in let f = c.requires.fits in let h = f.0 in let can = c.requires.can in let v = s.pass.me.0.token in let w = joined v o.pass.me.0.token in
    let told = c.join.ensures.told.0 in let more = c.in-Ok.ensures in
    fits_put d w (c.join.ensures.table ∙ h.table.0, h.table.1, h.table.2) told.0 h.calm.1 h.by h.first (subst (λ a. IsInside a.shared.table_id.slots w) c.deref.ensures told.1) (joined_itself v h.itself o.pass.me.0.token can.0 (comes_back c.args.desk.now h f.1 can)) h.held
    (more.items ∙ (ap (λ l. l ++ o.events.items) h.noted ∙ ap (λ l. v.events ++ l) f.1.noted)) h.whole (λ m. absurd (bool_not (sym can.0 ∙ m))) (λ m. let a = h.pages m in let b = more.capacity in omega arith) (λ m. absurd (bool_not (sym can.0 ∙ m)))
