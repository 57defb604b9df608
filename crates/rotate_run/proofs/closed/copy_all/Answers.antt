-- What was copied is closed as it ended.
use Rattle.std.proofs.Common.{◌∙◌, false, subst}
use Rattle.scope_tree.specs.Calls.{ClosesScope}
use Rattle.pull_stepper.specs.Held.{FinishesDevice}
use Rattle.hot_swap.specs.Swaps.{EndsAll}
use Rattle.rotate_files.specs.Visible.{files_of, held_file, room_of, seen_files}
use Rattle.rotate_files.proofs.Rotated.{copies_rotate, rotating_leaseless, rotating_unleased}
use Rattle.rotate_run.proofs.closed.copy_all.Goals as goal

pub copy-copied-requires-clause-begun : goal.copy-copied-requires-clause-begun
copy-copied-requires-clause-begun g c =
    let t = c.requires.device in
    let r = c.begin-rotation in (
      t.0,
      t.1,
      false,
      r.ensures.copying t.0 (g.D.Depot.told c.args.depot.now) c.args.prefix.now c.args.bytes t.1 c.requires.some.1 t.3 t.2,
    )

pub end-seat-requires-clause-holding : goal.end-seat-requires-clause-holding
end-seat-requires-clause-holding g c =
    let t = c.requires.device in
    let r = c.begin-rotation in
    let k = c.copy-copied in
    let q = r.ensures.copying t.0 (g.D.Depot.told c.args.depot.now) c.args.prefix.now c.args.bytes t.1 c.requires.some.1 t.3 t.2 in
    (copies_rotate g.D.Dev.Device.told t.0 c.args.prefix.now c.args.bytes t.1 (seen_files g.S.RowSeat.view k.new.rotation) (held_file k.new.rotation) (g.D.Depot.told k.new.depot) (files_of k.new.rotation) (room_of k.new.rotation) k.result (k.ensures.copies t.0 t.1 false q)).5.holding

pub returns-clause-finish : goal.returns-clause-finish
returns-clause-finish g c =
    let t = c.requires.device in
    let r = c.begin-rotation in
    let k = c.copy-copied in
    let a = seen_files g.S.RowSeat.view k.new.rotation in
    let h = held_file k.new.rotation in
    let q = r.ensures.copying t.0 (g.D.Depot.told c.args.depot.now) c.args.prefix.now c.args.bytes t.1 c.requires.some.1 t.3 t.2 in
    let s = copies_rotate g.D.Dev.Device.told t.0 c.args.prefix.now c.args.bytes t.1 a h (g.D.Depot.told k.new.depot) (files_of k.new.rotation) (room_of k.new.rotation) k.result (k.ensures.copies t.0 t.1 false q) in
    c.end-seat.ensures.finish (s.5.alone.main ∙ s.5.others.main) (s.5.alone.out ∙ s.5.others.out) (rotating_leaseless g.D.Dev.Device.told t.0 c.args.prefix.now c.args.bytes a h s)

pub returns-clause-closes : goal.returns-clause-closes
returns-clause-closes g c = λ old path device now.
    let r = c.begin-rotation in
    let k = c.copy-copied in
    let a = seen_files g.S.RowSeat.view k.new.rotation in
    let h = held_file k.new.rotation in
    let q = r.ensures.copying old (g.D.Depot.told c.args.depot.now) c.args.prefix.now c.args.bytes path c.requires.some.1 now device in
    let copies = k.ensures.copies old path false q in
    let s = copies_rotate g.D.Dev.Device.told old c.args.prefix.now c.args.bytes path a h (g.D.Depot.told k.new.depot) (files_of k.new.rotation) (room_of k.new.rotation) k.result copies in
    let e = c.end-seat.ensures in
    let w = c.how_it_ended-how.ensures in
    record {
      tree = a;
      held = h;
      files = files_of k.new.rotation;
      left = room_of k.new.rotation;
      copied = k.result;
      copies = copies;
      how = w.how;
      device = w.unopened;
      ends = subst (λ x. EndsAll (FinishesDevice g.D.Dev.Device.told) a h x (record a { seat = g.S.RowSeat.view c.end-seat.result.0; shelf = c.end-seat.result.1 })) c.exit.ensures (e.ends (rotating_unleased g.D.Dev.Device.told old c.args.prefix.now c.args.bytes a h s));
      closes = subst (λ x. ClosesScope (FinishesDevice g.D.Dev.Device.told) a 0 x (record a { seat = g.S.RowSeat.view c.end-seat.result.0; shelf = c.end-seat.result.1 })) c.exit.ensures e.closes;
      root = e.root;
    }
