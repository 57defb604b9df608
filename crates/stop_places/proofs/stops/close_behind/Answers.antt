use Rattle.std.proofs.Common.{sym, ap, ◌∙◌, subst}
use Rattle.row_seat.specs.Fronts.{StandsBehind}
use Rattle.row_seat.specs.declared.front.Sight.{Sight}
use Rattle.row_seat.specs.declared.view.View.{View}
use Rattle.stop_places.proofs.Order.{note_behind}
use Rattle.stop_places.proofs.stops.close_behind.Goals as goal

pub recall-requires-clause-marked : goal.recall-requires-clause-marked
recall-requires-clause-marked g c = let s = c.args.seat.now in
    g.met.S.MarksFront.mark_stays s c.args.mark (g.S.RowSeat.view s).by c.args.desk.now c.note-stamp.new.desk c.requires.fits c.note-stamp.ensures.others c.requires.marked

pub recall-requires-clause-name : goal.recall-requires-clause-name
recall-requires-clause-name g c = ap (λ (x : Sight). x.by) c.requires.sight ∙ sym (ap (λ (v : View _). v.by) c.note-stamp.ensures.view)

pub returns-clause-behind : goal.returns-clause-behind
returns-clause-behind g c = let x = g.S.MarksFront.sight c.args.mark in
    note_behind (g.S.RowSeat.view c.args.seat.now) x c.note-stamp.result c.args.what c.requires.sight (subst (λ (v : View _). StandsBehind x v.events) c.note-stamp.ensures.view c.recall.ensures.behind)
