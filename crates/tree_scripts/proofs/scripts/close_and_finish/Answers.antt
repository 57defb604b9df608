use Rattle.std.proofs.Common.{[], ap, ◌∙◌}
use Rattle.res_ledger.specs.Ledger.{stamped}
use Rattle.scope_tree.specs.Trees.{seen}
use Rattle.scope_tree.specs.Trace.{trace}
use Rattle.scope_tree.proofs.Use.{closed_by}
use Rattle.tree_scripts.specs.Waiting.{noted_by}
use Rattle.tree_scripts.proofs.Finished.{ledger_stamped, no_leases}
use Rattle.tree_scripts.proofs.Waits.{close_alone}
use Rattle.tree_scripts.proofs.scripts.close_and_finish.Goals as goal

pub finish_alone-requires-clause-leases : goal.finish_alone-requires-clause-leases
finish_alone-requires-clause-leases g c = c.close.ensures.leases.only [] (no_leases (g.S.RowSeat.view c.args.tree.seat) c.requires.alone.pairs c.requires.alone.kept)

pub returns : goal.returns
returns g c =
    let v = g.S.RowSeat.view c.close.new.self.seat in let k = c.close.ensures.closes in let e = c.finish_alone.ensures in
    record {
      last = seen g.S.RowSeat.view c.close.new.self;
      closes = k;
      shelf_is = e.shelf;
      ledger = ledger_stamped v c.finish_alone.result.0 e.ledger (close_alone k c.requires.alone).events e.rising ∙ ap (λ b. stamped 0 (noted_by b (trace v))) (closed_by k);
    }
