use Rattle.std.proofs.Common.{◌≡◌, sym, subst, arith}
use Rattle.hot_swap.specs.Swaps.{held, seen_tree}
use Rattle.rotate_files.specs.Rotating.{IsInStep}
use Rattle.rotate_files.proofs.Gives.{stops_at_once}
use Rattle.rotate_files.proofs.rotation.give_some.Goals as goal

pub returns-in_err-next_file-clause-gives : goal.returns-in_err-next_file-clause-gives
returns-in_err-next_file-clause-gives g c = λ old path given src q.
    let z : c.args.rotation.now.left ≡ 0 = omega arith in
    let p = subst (λ l. IsInStep g.D.Dev.Device.told old c.args.prefix.now c.args.bytes path (seen_tree g.S.RowSeat.view c.args.rotation.now.files) (held c.args.rotation.now.files) (g.D.Depot.told c.args.depot.now) c.args.rotation.now.count l given src) z q in
    stops_at_once g.D.Dev.Device.told old c.args.prefix.now c.args.bytes path (seen_tree g.S.RowSeat.view c.next_file.new.rotation.files) (held c.next_file.new.rotation.files) (g.D.Depot.told c.next_file.new.depot) given src c.from_residual.result c.next_file.new.rotation.count c.next_file.new.rotation.left c.args.piece.now c.in_err-next_file.field-0.0 c.requires.some.0
    (c.in_err-next_file.ensures.next old path given src p).1 c.from_residual.ensures.1

pub write_last-requires-2-clause-rotation : goal.write_last-requires-2-clause-rotation
write_last-requires-2-clause-rotation g c =
    let t = c.requires.rotation in
    let z : c.args.rotation.now.left ≡ 0 = omega arith in
    let p = subst (λ l. IsInStep g.D.Dev.Device.told t.0 c.args.prefix.now c.args.bytes t.1 (seen_tree g.S.RowSeat.view c.args.rotation.now.files) (held c.args.rotation.now.files) (g.D.Depot.told c.args.depot.now) c.args.rotation.now.count l t.2 t.3) z t.4 in (
      c.args.prefix.now,
      c.args.bytes,
      g.D.Depot.told c.next_file.new.depot,
      (
        t.0,
        t.1,
        t.2,
        t.3,
        subst (λ l. IsInStep g.D.Dev.Device.told t.0 c.args.prefix.now c.args.bytes t.1 (seen_tree g.S.RowSeat.view c.next_file.new.rotation.files) (held c.next_file.new.rotation.files) (g.D.Depot.told c.next_file.new.depot) c.next_file.new.rotation.count l t.2 t.3) (sym c.in_ok-next_file.ensures.left.0)
            (c.in_ok-next_file.ensures.next t.0 t.1 t.2 t.3 p),
      ),
    )

pub returns-clause-gives : goal.returns-clause-gives
returns-clause-gives g c = λ old path given src q.
    let z : c.args.rotation.now.left ≡ 0 = omega arith in
    let p = subst (λ l. IsInStep g.D.Dev.Device.told old c.args.prefix.now c.args.bytes path (seen_tree g.S.RowSeat.view c.args.rotation.now.files) (held c.args.rotation.now.files) (g.D.Depot.told c.args.depot.now) c.args.rotation.now.count l given src) z q in
    c.write_last-2.ensures.gives old c.args.prefix.now c.args.bytes path (g.D.Depot.told c.next_file.new.depot) given src
    (subst (λ l. IsInStep g.D.Dev.Device.told old c.args.prefix.now c.args.bytes path (seen_tree g.S.RowSeat.view c.next_file.new.rotation.files) (held c.next_file.new.rotation.files) (g.D.Depot.told c.next_file.new.depot) c.next_file.new.rotation.count l given src) (sym c.in_ok-next_file.ensures.left.0)
    (c.in_ok-next_file.ensures.next old path given src p))
