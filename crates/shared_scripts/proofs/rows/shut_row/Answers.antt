use Rattle.std.proofs.Common.{◌+◌, inl, inr, sym, ap, ◌∙◌, subst}
use Rattle.row_seat.specs.declared.view.Left.TheVariants.{Stays, Yours}
use Rattle.row_seat.specs.Views.{CanClose, ClosesRow}
use Rattle.shared_scripts.proofs.RowSteps.{can_close, close_takes, may_close}
use Rattle.shared_scripts.proofs.rows.shut_row.Goals as goal

pub note-requires-clause-room : goal.note-requires-clause-room
note-requires-clause-room g c = (may_close (g.S.RowSeat.view c.args.seat.now) c.args.row c.requires.can 0).1

pub note-requires-clause-event : goal.note-requires-clause-event
note-requires-clause-event g c = (may_close (g.S.RowSeat.view c.args.seat.now) c.args.row c.requires.can 0).0

pub close-requires-clause-row : goal.close-requires-clause-row
close-requires-clause-row g c = subst (λ v. CanClose v c.args.row) (sym c.note.ensures.view) (can_close (g.S.RowSeat.view c.args.seat.now) c.args.row c.requires.can c.note.result)

pub finalize-requires-clause-row : goal.finalize-requires-clause-row
finalize-requires-clause-row g c = let r = c.args.row in let u = g.S.RowSeat.view c.close.new.self in
    (close_takes (g.S.RowSeat.view c.args.seat.now) r c.requires.can c.note.result u (subst (λ v. ClosesRow v r Yours u) c.note.ensures.view c.in-Yours.ensures.view)).0

pub finalize-requires-clause-room : goal.finalize-requires-clause-room
finalize-requires-clause-room g c = let r = c.args.row in let u = g.S.RowSeat.view c.close.new.self in
    (close_takes (g.S.RowSeat.view c.args.seat.now) r c.requires.can c.note.result u (subst (λ v. ClosesRow v r Yours u) c.note.ensures.view c.in-Yours.ensures.view)).1

pub returns-in-Stays-clause-shuts : goal.returns-in-Stays-clause-shuts
returns-in-Stays-clause-shuts g c = let r = c.args.row in let w = g.S.RowSeat.view c.close.new.self in
    (c.note.result, inl (subst (λ v. ClosesRow v r Stays w) c.note.ensures.view c.in-Stays.ensures.view))

pub returns-in-Yours-clause-shuts : goal.returns-in-Yours-clause-shuts
returns-in-Yours-clause-shuts g c = let r = c.args.row in let u = g.S.RowSeat.view c.close.new.self in let f = c.finalize.ensures.pay in
    (c.note.result, inr (u, subst (λ v. ClosesRow v r Yours u) c.note.ensures.view c.in-Yours.ensures.view, (f.2, f.5)))

pub returns-in-Stays-clause-others : goal.returns-in-Stays-clause-others
returns-in-Stays-clause-others g c = λ o ne f. c.close.ensures.others o (λ q. ne (q ∙ ap (λ v. v.by) c.note.ensures.view)) (c.note.ensures.others o ne f)

pub returns-in-Yours-clause-others : goal.returns-in-Yours-clause-others
returns-in-Yours-clause-others g c = λ o ne f. let e = ap (λ v. v.by) c.note.ensures.view in
    let a = c.close.ensures.others o (λ q. ne (q ∙ e)) (c.note.ensures.others o ne f) in
    c.finalize.ensures.others o (λ q. ne (q ∙ (ap (λ v. v.by) c.in-Yours.ensures.view.2 ∙ e))) a
