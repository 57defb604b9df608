use Rattle.std.proofs.Common.{◌≡◌, refl}
use Rattle.chunk_core.proofs.Members.{among_last}
use Rattle.scope_tree.specs.declared.branch.Spent.{Spent}
use Rattle.scope_tree.specs.Released.{finalized}
use Rattle.scope_tree.proofs.finalize.finalize.Goals as goal

pub note-requires-clause-event : goal.note-requires-clause-event
note-requires-clause-event g c = rw c.take-pay.ensures.view (among_last _ _, c.requires.row.0)

pub returns-clause-ended : goal.returns-clause-ended
returns-clause-ended g c =
    let v = g.S.RowSeat.view c.args.seat.now in
    let y : Spent _ = record { row = c.args.row; pay = c.finish-ok.new.self; exit = c.args.exit; ok = c.finish-ok.result } in
    let e : g.S.RowSeat.view c.note.new.self ≡ finalized c.args.exit v y c.note.result = rw (c.note.ensures.view, c.take-pay.ensures.view) refl in (
      y,
      c.note.result,
      refl,
      c.push_reserved.ensures.items,
      record {
        pay = c.take-pay.result;
        given = c.take-pay.ensures.pay;
        only = c.take-pay.ensures.only;
        exit = refl;
        finish = c.finish-ok.ensures;
        fresh = rw c.take-pay.ensures.view at c.note.ensures.stamp;
      },
      e,
    )
