-- The root is closed as the outer stream ended.
use Rattle.std.proofs.Common.{subst}
use Rattle.join_tree.specs.Mains.{IsMain}
use Rattle.join_tree.specs.Progress.{closing_root}
use Rattle.pull_stepper.specs.Held.{FinishesDevice}
use Rattle.scope_tree.specs.Trees.{seen}
use Rattle.collector.proofs.collector.Collector.close.Goals as goal

pub returns-clause-closes : goal.returns-clause-closes
returns-clause-closes g c =
    let e = c.close_outer.ensures in
    record {
      main = λ width n q m root. subst (λ x. IsMain (FinishesDevice g.V.Device.told) width n (seen g.S.RowSeat.view c.close_outer.new.tree) (closing_root q x)) c.exit.ensures (e.main width n q m root);
      guests = e.guests;
      rows = e.rows;
      gives = e.gives;
      events = e.events;
      called = e.called;
    }
