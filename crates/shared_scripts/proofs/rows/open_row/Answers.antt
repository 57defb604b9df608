use Rattle.std.proofs.Common.{◌+◌, ◌≤◌, sym, ap, ◌∙◌, subst}
use Rattle.res_ledger.specs.declared.event.What.TheVariants.{Acquire}
use Rattle.row_seat.specs.Views.{CanPlace, MayNote, placed}
use Rattle.shared_scripts.specs.Rows.{with_note}
use Rattle.shared_scripts.proofs.RowSteps.{can_place, may_acquire, may_open}
use Rattle.shared_scripts.proofs.rows.open_row.Goals as goal

pub note-requires-clause-room : goal.note-requires-clause-room
note-requires-clause-room g c = (may_open (g.S.RowSeat.view c.args.seat.now) c.args.row c.requires.can 0 0).1

pub note-requires-clause-event : goal.note-requires-clause-event
note-requires-clause-event g c = (may_open (g.S.RowSeat.view c.args.seat.now) c.args.row c.requires.can 0 0).0

pub note-requires-2-clause-room : goal.note-requires-2-clause-room
note-requires-2-clause-room g c = subst (λ v. 1 ≤ v.spare) (sym c.note.ensures.view) (may_acquire (g.S.RowSeat.view c.args.seat.now) c.args.row c.requires.can c.note.result 0).1

pub note-requires-2-clause-event : goal.note-requires-2-clause-event
note-requires-2-clause-event g c = subst (λ v. MayNote v (Acquire c.args.row (c.args.row + 1))) (sym c.note.ensures.view) (may_acquire (g.S.RowSeat.view c.args.seat.now) c.args.row c.requires.can c.note.result 0).0

pub place-requires-clause-row : goal.place-requires-clause-row
place-requires-clause-row g c = let r = c.args.row in
    let e = c.note-2.ensures.view ∙ ap (λ v. with_note v c.note-2.result (Acquire r (r + 1))) c.note.ensures.view in
    subst (λ v. CanPlace v r) (sym e) (can_place (g.S.RowSeat.view c.args.seat.now) r c.requires.can c.note.result c.note-2.result)

pub returns-clause-opens : goal.returns-clause-opens
returns-clause-opens g c = let r = c.args.row in
    let e = c.note-2.ensures.view ∙ ap (λ v. with_note v c.note-2.result (Acquire r (r + 1))) c.note.ensures.view in
    (c.note.result, c.note-2.result, c.place.ensures.view ∙ ap (λ v. placed v r c.args.pay) e)

pub returns-clause-others : goal.returns-clause-others
returns-clause-others g c = λ o ne f. let a = c.note.ensures.others o ne f in
    let e = ap (λ v. v.by) c.note.ensures.view in
    let b = c.note-2.ensures.others o (λ q. ne (q ∙ e)) a in
    c.place.ensures.others o (λ q. ne (q ∙ (ap (λ v. v.by) c.note-2.ensures.view ∙ e))) b
