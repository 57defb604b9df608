use Rattle.std.proofs.Common.{ap, sym, subst, ◌∙◌, ◌+◌, ◌≤◌}
use Rattle.res_ledger.specs.declared.event.What.TheVariants.{Lease}
use Rattle.row_seat.specs.Views.{MayNote, noted}
use Rattle.seat_bench.specs.Rows.{IsLent}
use Rattle.seat_bench.proofs.Rowing.{can_lease, event, is_lent, main_still, may_lease}
use Rattle.seat_bench.proofs.rows.lend_row.Goals as goal

pub lease-requires-clause-row : goal.lease-requires-clause-row
lease-requires-clause-row g c = let i = c.requires.open in can_lease _ c.args.row i.0 i.1 i.2 c.requires.main 0

pub note-requires-clause-room : goal.note-requires-clause-room
note-requires-clause-room g c = let i = c.requires.open in subst (λ v. 1 ≤ v.spare) (sym c.lease.ensures.view) (may_lease _ c.args.row i.0 i.1 i.2 c.requires.main 0).1

pub note-requires-clause-event : goal.note-requires-clause-event
note-requires-clause-event g c = let i = c.requires.open in subst (λ v. MayNote v (Lease c.args.row (c.args.row + 1))) (sym c.lease.ensures.view) (may_lease _ c.args.row i.0 i.1 i.2 c.requires.main 0).0

pub returns-clause-lent : goal.returns-clause-lent
returns-clause-lent g c = λ to lt i. let r = c.args.row in
    let e = c.note.ensures.view ∙ ap (λ v. noted v (event v c.note.result (Lease r (r + 1)))) c.lease.ensures.view in
    subst (λ v. IsLent v r to) (sym e) (is_lent _ r to lt i c.requires.main c.note.result)

pub returns-clause-main : goal.returns-clause-main
returns-clause-main g c = let r = c.args.row in
    let e = c.note.ensures.view ∙ ap (λ v. noted v (event v c.note.result (Lease r (r + 1)))) c.lease.ensures.view in main_still _ _ (ap (λ v. v.main) e) (ap (λ v. v.by) e)
