use Rattle.std.proofs.Common.{◌≡◌, ◌<◌, ◌≤◌, length, take, sym, arith}
use Rattle.std.proofs.lemmas.List.{length-take}
use Rattle.hot_swap.specs.Swaps.{held, seen_tree}
use Rattle.rotate_files.proofs.Writes.{any_broke, any_row, any_writable, any_wrote}
use Rattle.rotate_files.proofs.rotation.write_last.Goals as goal

pub write_row-requires-clause-row : goal.write_row-requires-clause-row
write_row-requires-clause-row g c =
    let r = c.requires.rotation in
    let t = r.3 in
    any_row g.V.Device.told t.0 r.0 r.1 t.1 (seen_tree g.S.RowSeat.view c.args.rotation.now.files) (held c.args.rotation.now.files) r.2 c.args.rotation.now.left t.2 t.3 c.requires.left c.args.rotation.now.count t.4

pub write_row-requires-clause-device : goal.write_row-requires-clause-device
write_row-requires-clause-device g c d m =
    let r = c.requires.rotation in
    let t = r.3 in
    any_writable g.V.Device.told t.0 r.0 r.1 t.1 (seen_tree g.S.RowSeat.view c.args.rotation.now.files) (held c.args.rotation.now.files) r.2 c.args.rotation.now.left t.2 t.3 c.requires.left c.args.rotation.now.count t.4 d m

pub returns-in-Ok-clause-gives : goal.returns-in-Ok-clause-gives
returns-in-Ok-clause-gives g c = λ old prefix n path now given src q.
    let size = length-take c.min-count.result c.args.piece.now in
    let m = c.min-count.ensures in
    let k : c.min-count.result ≡ length (take c.min-count.result c.args.piece.now) = omega (arith, size, m) in
    let l : length (take c.min-count.result c.args.piece.now) ≤ c.args.rotation.now.left = omega (arith, size, m) in
    any_wrote g.V.Device.told old prefix n path (seen_tree g.S.RowSeat.view c.args.rotation.now.files) (held c.args.rotation.now.files) now c.args.rotation.now.left given src c.requires.left c.args.rotation.now.count c.in-Ok.field-0
    (seen_tree g.S.RowSeat.view c.write_row.new.files) (held c.write_row.new.files) (take c.min-count.result c.args.piece.now) c.min-count.result k l q c.in-Ok.ensures.writes c.in-Ok.ensures.held

pub returns-in-Err-clause-gives : goal.returns-in-Err-clause-gives
returns-in-Err-clause-gives g c = λ old prefix n path now given src q.
    let size = length-take c.min-count.result c.args.piece.now in
    let m = c.min-count.ensures in
    let one = c.requires.left in
    let some = c.requires.some in
    let s : 0 < length (take c.min-count.result c.args.piece.now) = omega (arith, size, m, one, some) in
    let l : length (take c.min-count.result c.args.piece.now) ≤ c.args.rotation.now.left = omega (arith, size, m) in
    any_broke g.V.Device.told old prefix n path (seen_tree g.S.RowSeat.view c.args.rotation.now.files) (held c.args.rotation.now.files) now c.args.rotation.now.left given src c.requires.left (Unit {0}) c.args.rotation.now.count c.in-Err.field-0
    (seen_tree g.S.RowSeat.view c.write_row.new.files) (held c.write_row.new.files) c.args.piece.now c.min-count.result s l q c.in-Err.ensures.writes c.in-Err.ensures.held
