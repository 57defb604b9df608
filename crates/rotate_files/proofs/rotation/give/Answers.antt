use Rattle.std.proofs.Common.{◌≡◌, ◌++◌, take, sym, subst, arith, append-nil}
use Rattle.hot_swap.specs.Swaps.{held, seen_tree}
use Rattle.rotate_files.specs.Rotating.{IsInStep}
use Rattle.rotate_files.proofs.Gives.{given_all, given_more, stops_behind}
use Rattle.rotate_files.proofs.rotation.give.Goals as goal

pub loop-at-init : goal.loop-at-init
loop-at-init g c = record {
  within = omega arith;
  fits = c.requires.fits;
  left = c.requires.left;
  along = λ old path given src q. subst (λ x. IsInStep g.D.Dev.Device.told old c.args.prefix.now c.args.bytes path (seen_tree g.S.RowSeat.view c.args.rotation.now.files) (held c.args.rotation.now.files) (g.D.Depot.told c.args.depot.now) c.args.rotation.now.count c.args.rotation.now.left x src) (sym (append-nil given)) q;
}

pub give_some-requires-clause-rotation : goal.give_some-requires-clause-rotation
give_some-requires-clause-rotation g c =
    let t = c.requires.rotation in
    (t.0, t.1, t.2 ++ take c.loop-at.at c.args.piece.now, t.3, c.loop-at.invariant.along t.0 t.1 t.2 t.3 t.4)

pub returns-in_err-at-clause-gives : goal.returns-in_err-at-clause-gives
returns-in_err-at-clause-gives g c = λ old path given src q.
    stops_behind g.D.Dev.Device.told old c.args.prefix.now c.args.bytes path (seen_tree g.S.RowSeat.view c.give_some.new.rotation.files) (held c.give_some.new.rotation.files) (g.D.Depot.told c.give_some.new.depot) given src c.from_residual.result c.give_some.new.rotation.count c.give_some.new.rotation.left c.loop-at.at c.args.piece.now c.in_err-at.field-0.0
    (c.in_err-at.ensures.gives old path (given ++ take c.loop-at.at c.args.piece.now) src (c.loop-at.invariant.along old path given src q)) c.from_residual.ensures.1

pub loop-at-preserved : goal.loop-at-preserved
loop-at-preserved g c =
    let i = c.loop-at.invariant in
    let e = c.in_ok-at.ensures in
    record {
      within = omega (arith, e.count.1);
      fits = e.fits;
      left = e.left (let l = i.left in omega (arith, l));
      along = λ old path given src q.
          given_more g.D.Dev.Device.told old c.args.prefix.now c.args.bytes path (seen_tree g.S.RowSeat.view c.give_some.new.rotation.files) (held c.give_some.new.rotation.files) (g.D.Depot.told c.give_some.new.depot) given src c.give_some.new.rotation.count c.give_some.new.rotation.left c.loop-at.at c.in_ok-at.field-0 c.args.piece.now
          e.count.1 (e.gives old path (given ++ take c.loop-at.at c.args.piece.now) src (i.along old path given src q));
    }

pub returns-clause-gives : goal.returns-clause-gives
returns-clause-gives g c = λ old path given src q.
    given_all g.D.Dev.Device.told old c.args.prefix.now c.args.bytes path (seen_tree g.S.RowSeat.view c.loop-at.rotation.files) (held c.loop-at.rotation.files) (g.D.Depot.told c.loop-at.depot) given src c.loop-at.rotation.count c.loop-at.rotation.left c.loop-at.at c.args.piece.now (omega arith) (c.loop-at.invariant.along old path given src q)
