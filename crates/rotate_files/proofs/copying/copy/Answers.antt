-- Each read gives bytes to files, or is the last.
use Rattle.std.proofs.Common.{false}
use Rattle.hot_swap.specs.Swaps.{held, seen_tree}
use Rattle.rotate_files.proofs.Reading.{fewer_left, given_on, read_end, read_fault, read_grows, read_some, source_readable, source_there, step_with, stopped_on}
use Rattle.rotate_files.proofs.copying.copy.Goals as goal

pub read_row-requires-clause-row : goal.read_row-requires-clause-row
read_row-requires-clause-row g c =
    let t = c.requires.begun in
    let p = c.copying.invariant.along t.0 t.1 t.2 t.3 in
    source_there g.D.Dev.Device.told t.0 c.args.prefix.now c.args.bytes t.1 (seen_tree g.S.RowSeat.view c.copying.rotation.files) (held c.copying.rotation.files) (g.D.Depot.told c.copying.depot) c.copying.rotation.count c.copying.rotation.left p.0 p.1

pub read_row-requires-clause-device : goal.read_row-requires-clause-device
read_row-requires-clause-device g c d m =
    let t = c.requires.begun in
    let p = c.copying.invariant.along t.0 t.1 t.2 t.3 in
    source_readable g.D.Dev.Device.told t.0 c.args.prefix.now c.args.bytes t.1 (seen_tree g.S.RowSeat.view c.copying.rotation.files) (held c.copying.rotation.files) (g.D.Depot.told c.copying.depot) c.copying.rotation.count c.copying.rotation.left p.0 p.1 d m

pub returns-in-Err-clause-copies : goal.returns-in-Err-clause-copies
returns-in-Err-clause-copies g c = λ old path ended q.
    let p = c.copying.invariant.along old path ended q in
    let e = c.in-Err.ensures in (
      p.0,
      read_fault g.D.Dev.Device.told old c.args.prefix.now c.args.bytes path (seen_tree g.S.RowSeat.view c.copying.rotation.files) (held c.copying.rotation.files) (g.D.Depot.told c.copying.depot) c.copying.rotation.count c.copying.rotation.left p.0 p.1
          (seen_tree g.S.RowSeat.view c.read_row.new.files) (held c.read_row.new.files) c.read_row.new.buf _ e.reads e.held e.reads.read,
    )

pub returns-then-count-eq0-clause-copies : goal.returns-then-count-eq0-clause-copies
returns-then-count-eq0-clause-copies g c = λ old path ended q.
    let p = c.copying.invariant.along old path ended q in
    let e = c.in-Ok.ensures in
    read_end g.D.Dev.Device.told old c.args.prefix.now c.args.bytes path (seen_tree g.S.RowSeat.view c.copying.rotation.files) (held c.copying.rotation.files) (g.D.Depot.told c.copying.depot) c.copying.rotation.count c.copying.rotation.left p.0 p.1
    (seen_tree g.S.RowSeat.view c.read_row.new.files) (held c.read_row.new.files) c.read_row.new.buf _ e.reads e.held c.in-Ok.count e.reads.read c.if-count-eq0.true

pub give-requires-clause-rotation : goal.give-requires-clause-rotation
give-requires-clause-rotation g c =
    let t = c.requires.begun in
    let p = c.copying.invariant.along t.0 t.1 t.2 t.3 in
    let e = c.in-Ok.ensures in (
      t.0,
      t.1,
      p.1.given,
      e.reads.after,
      step_with g.D.Dev.Device.told t.0 c.args.prefix.now c.args.bytes t.1 (seen_tree g.S.RowSeat.view c.copying.rotation.files) (held c.copying.rotation.files) (g.D.Depot.told c.copying.depot) c.copying.rotation.count c.copying.rotation.left p.0 p.1
          (seen_tree g.S.RowSeat.view c.read_row.new.files) (held c.read_row.new.files) c.read_row.new.buf _ e.reads e.held,
    )

pub returns-in_err-give-clause-copies : goal.returns-in_err-give-clause-copies
returns-in_err-give-clause-copies g c = λ old path ended q.
    let p = c.copying.invariant.along old path ended q in
    let e = c.in-Ok.ensures in
    let step = step_with g.D.Dev.Device.told old c.args.prefix.now c.args.bytes path (seen_tree g.S.RowSeat.view c.copying.rotation.files) (held c.copying.rotation.files) (g.D.Depot.told c.copying.depot) c.copying.rotation.count c.copying.rotation.left p.0 p.1
    (seen_tree g.S.RowSeat.view c.read_row.new.files) (held c.read_row.new.files) c.read_row.new.buf _ e.reads e.held in
    stopped_on g.D.Dev.Device.told old c.args.prefix.now c.args.bytes path (seen_tree g.S.RowSeat.view c.copying.rotation.files) (held c.copying.rotation.files) (g.D.Depot.told c.copying.depot) c.copying.rotation.count c.copying.rotation.left p.0 p.1
    (seen_tree g.S.RowSeat.view c.read_row.new.files) (held c.read_row.new.files) c.read_row.new.buf _ e.reads e.held c.in-Ok.count e.reads.read c.from_residual.result (seen_tree g.S.RowSeat.view c.give.new.rotation.files) (held c.give.new.rotation.files) (g.D.Depot.told c.give.new.depot) c.give.new.rotation.count c.give.new.rotation.left
    c.in_err-give.field-0.0 (read_some c.in-Ok.count c.if-count-eq0.false) (c.in_err-give.ensures.gives old path p.1.given e.reads.after step) c.from_residual.ensures.1

pub copying-preserved : goal.copying-preserved
copying-preserved g c =
    let i = c.copying.invariant in
    let e = c.in-Ok.ensures in
    let f = c.in_ok-give.ensures in
    record {
      fits = f.fits;
      left = f.left;
      along = λ old path ended q.
          let p = i.along old path ended q in
          let step = step_with g.D.Dev.Device.told old c.args.prefix.now c.args.bytes path (seen_tree g.S.RowSeat.view c.copying.rotation.files) (held c.copying.rotation.files) (g.D.Depot.told c.copying.depot) c.copying.rotation.count c.copying.rotation.left p.0 p.1
          (seen_tree g.S.RowSeat.view c.read_row.new.files) (held c.read_row.new.files) c.read_row.new.buf _ e.reads e.held in (
            false,
            given_on g.D.Dev.Device.told old c.args.prefix.now c.args.bytes path (seen_tree g.S.RowSeat.view c.copying.rotation.files) (held c.copying.rotation.files) (g.D.Depot.told c.copying.depot) c.copying.rotation.count c.copying.rotation.left p.0 p.1
                (seen_tree g.S.RowSeat.view c.read_row.new.files) (held c.read_row.new.files) c.read_row.new.buf _ e.reads e.held c.in-Ok.count e.reads.read (seen_tree g.S.RowSeat.view c.give.new.rotation.files) (held c.give.new.rotation.files) (g.D.Depot.told c.give.new.depot) c.give.new.rotation.count c.give.new.rotation.left
                (read_some c.in-Ok.count c.if-count-eq0.false) f.left (f.gives old path p.1.given e.reads.after step),
          );
    }

-- the bytes that the files may take are fewer by those that were read
pub copying-smaller : goal.copying-smaller
copying-smaller g c =
    let t = c.requires.begun in
    let p = c.copying.invariant.along t.0 t.1 t.2 t.3 in
    let e = c.in-Ok.ensures in
    let f = c.in_ok-give.ensures in
    let step = step_with g.D.Dev.Device.told t.0 c.args.prefix.now c.args.bytes t.1 (seen_tree g.S.RowSeat.view c.copying.rotation.files) (held c.copying.rotation.files) (g.D.Depot.told c.copying.depot) c.copying.rotation.count c.copying.rotation.left p.0 p.1
    (seen_tree g.S.RowSeat.view c.read_row.new.files) (held c.read_row.new.files) c.read_row.new.buf _ e.reads e.held in
    let later = f.gives t.0 t.1 p.1.given e.reads.after step in
    let up = read_grows p.1.given c.read_row.new.buf c.in-Ok.count (read_some c.in-Ok.count c.if-count-eq0.false) e.reads.read.count in
    fewer_left c.args.bytes _ _ c.copying.rotation.left c.give.new.rotation.left c.copying.rotation.count c.give.new.rotation.count p.1.step.count later.count later.rotating.few up
