-- A fresh seat has room for the node; where it can't be begun, the root is closed.
use Rattle.std.proofs.Common.{◌≡◌, [], ◌∙◌, ap, refl, sym, subst, inr, arith}
use Rattle.chunk_core.specs.Outcomes.{Cut}
use Rattle.chunk_core.specs.declared.code.How.TheVariants as how
use Rattle.pull_turns.specs.Piping.{standing}
use Rattle.pull_stepper.specs.Sites.{told_at}
use Rattle.pull_stepper.specs.Stepping.{site_of}
use Rattle.scope_tree.specs.Trees.{Fits, seen}
use Rattle.tree_laws.proofs.Alone.{first_at_start}
use Rattle.lone_stream.specs.Nodes.{LeavesNode}
use Rattle.lone_stream.proofs.NodeRuns.{node_unmade, unbegun_run}
use Rattle.lone_stream.proofs.StreamRuns.{room_seen}
use Rattle.lone_stream.proofs.run.begin.Goals as goal

pub new-tree-requires : goal.new-tree-requires
new-tree-requires g c = let r = c.requires.room in record { start = first_at_start (g.S.RowSeat.view c.args.room.seat) r.0 _ _ _ r.1.seat (omega arith) }

pub new-requires-clause-room : goal.new-requires-clause-room
new-requires-clause-room g c = let r = c.requires.room in (room_seen r.0 c.args.node g.S.RowSeat.view c.args.room r.1 (seen g.S.RowSeat.view c.new-tree.result) c.new-tree.ensures.seen c.requires.first).1

pub close-requires-clause-fits : goal.close-requires-clause-fits
close-requires-clause-fits g c =
    subst (λ t. Fits g.S.RowSeat.view g.S.RowSeat.fits t c.args.desk.now) (let e : c.new-tree.result ≡ c.in-Err.unmade.tree = sym c.in-Err.ensures.unmade.0 in e) (c.new-tree.ensures.fits c.args.desk.now c.requires.fits)

pub take_apart-requires-clause-leaves : goal.take_apart-requires-clause-leaves
take_apart-requires-clause-leaves g c =
    let r = c.requires.room in
    let view = g.S.RowSeat.view in
    let told = g.V.Device.told in
    let a = seen view c.new-tree.result in
    let u = c.in-Err.ensures.unmade in
    let e = c.close.ensures in
    let f = room_seen r.0 c.args.node view c.args.room r.1 a c.new-tree.ensures.seen c.requires.first in (
      r.0,
      c.args.node,
      c.args.devices,
      told_at told (site_of c.args.node a c.args.devices),
      a,
      f.0,
      rw (e.how, e.unopened ∙ u.1) (node_unmade told c.args.node c.args.devices c.args.chunk a (seen view c.close.result.tree) f.0.shelf f.1 e.fits.sound.used e.owed c.requires.supplied _ (ap (seen view) u.0) e.closes e.room e.free),
    )

pub returns-in-Ok-clause-begun : goal.returns-in-Ok-clause-begun
returns-in-Ok-clause-begun g c = λ who room.
    let view = g.S.RowSeat.view in
    let f = room_seen who c.args.node view c.args.room room (seen view c.new-tree.result) c.new-tree.ensures.seen c.requires.first in
    record {
      tree = seen view c.new-tree.result;
      tables = g.F.PipeState.values c.new-tables.result;
      is = c.in-Ok.ensures.begun;
      none = ap g.F.PipeState.values c.new-tables.ensures ∙ c.requires.values;
      fresh = f.0;
      room = f.1;
      supplied = c.requires.supplied;
      some = c.requires.chunk;
    }

pub returns-in-Ok-clause-works : goal.returns-in-Ok-clause-works
returns-in-Ok-clause-works g c = c.in-Ok.ensures.fits c.args.desk.now (c.new-tree.ensures.fits c.args.desk.now c.requires.fits)

pub returns-in-Err-clause-unbegun : goal.returns-in-Err-clause-unbegun
returns-in-Err-clause-unbegun g c = λ who room.
    let view = g.S.RowSeat.view in
    let told = g.V.Device.told in
    let a = seen view c.new-tree.result in
    let u = c.in-Err.ensures.unmade in
    let e = c.close.ensures in
    let f = room_seen who c.args.node view c.args.room room a c.new-tree.ensures.seen c.requires.first in
    let home = told_at told (site_of c.args.node a c.args.devices) in
    let left : LeavesNode told c.args.node c.args.devices home a (seen view c.close.result.tree) how.Memory c.args.devices = node_unmade told c.args.node c.args.devices c.args.chunk a (seen view c.close.result.tree) f.0.shelf f.1 e.fits.sound.used e.owed c.requires.supplied _ (ap (seen view) u.0) e.closes e.room e.free in
    let is = c.take_apart.ensures.how ∙ e.how in (
      is,
      record {
        home = home;
        end = Cut;
        run = unbegun_run told c.args.node c.args.devices c.args.chunk a (seen view c.close.result.tree) f.0.shelf f.1 e.fits.sound.used e.owed (standing g.F.Feed.stands g.F.Feed.comes) (g.F.PipeState.values c.new-tables.result) (ap g.F.PipeState.values c.new-tables.ensures ∙ c.requires.values) c.requires.chunk c.requires.supplied;
        reported = inr is;
        comes = c.take_apart.ensures.comes who c.args.node c.args.devices home a f.0 (rw (e.how, e.unopened ∙ u.1) left);
      },
    )
