use Rattle.std.proofs.Common.{◌≡◌, ◌+◌, [], sym, ap, ◌∙◌, subst}
use Rattle.res_ledger.specs.declared.event.What.TheVariants.{Open}
use Rattle.row_seat.specs.Views.{MayNote, noted}
use Rattle.shared_scripts.proofs.Scoping.{at_first, may_open, none_yet, noted_more}
use Rattle.shared_scripts.proofs.notes.note_scopes.Goals as goal

pub loop-i-init : goal.loop-i-init
loop-i-init g c = let v = g.S.RowSeat.view c.args.seat.now in (c.requires.fits, ([], at_first v c.requires.start, none_yet v.by), λ o ne f. f)

pub loop-i-preserved : goal.loop-i-preserved
loop-i-preserved g c = let v = g.S.RowSeat.view c.args.seat.now in let inv = c.loop-i.invariant in let t = inv.1 in let e = t.1 in let i = c.loop-i.i in (
  c.note.ensures.fits,
  noted_more v t.0 i t.2 (g.S.RowSeat.view c.note.new.self) c.note.result (subst (λ u. g.S.RowSeat.view c.note.new.self ≡ noted u (record { stamp = c.note.result; by = u.by; what = Open (i + 1) 0 })) e c.note.ensures.view),
  λ o ne f. c.note.ensures.others o (λ q. ne (q ∙ ap (λ u. u.by) e)) (inv.2 o ne f),
)

pub note-requires-clause-event : goal.note-requires-clause-event
note-requires-clause-event g c = let v = g.S.RowSeat.view c.args.seat.now in let t = c.loop-i.invariant.1 in subst (λ u. MayNote u (Open (c.loop-i.i + 1) 0)) (sym t.1) (may_open v t.0 c.loop-i.i t.2)
