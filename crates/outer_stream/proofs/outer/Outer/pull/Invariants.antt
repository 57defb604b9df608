use Rattle.std.proofs.Common.{◌-◌, ℕ, length}
use Rattle.join_tree.specs.Progress.{Progress}
use Rattle.res_ledger.specs.declared.event.StreamNo.TheVariants.{Outer as outer_name}
use Rattle.row_seat.specs.Views.{OthersFit}
use Rattle.scope_tree.specs.Trees.{Fits, seen}
use Rattle.outer_stream.specs.Pulls.{Goes, IsOpenAt}
use Rattle.outer_stream.proofs.outer.Outer.pull.Given as goal

-- parts were begun
abbrev pub invariant-loop-self : goal.invariant-loop-self
invariant-loop-self g l =
    let told = g.D.Dev.Device.told in let view = g.S.RowSeat.view in record {
      goes : (n width N : ℕ) (q : Progress g.row.D-Dev.Denot) → IsOpenAt told l.parts l.tables n width N q l.fn.self (seen view l.fn.tree) → Goes told l.parts l.tables n width N q l.fn.self l.self (g.D.Depot.told l.fn.depot) (g.D.Depot.told l.depot) (seen view l.fn.tree) (seen view l.tree);
      fits : Fits view g.S.RowSeat.fits l.tree l.desk;
      others : OthersFit view g.S.RowSeat.fits outer_name l.fn.desk l.desk;
    }

abbrev pub decreases-loop-self : goal.decreases-loop-self
decreases-loop-self g l = length l.parts - l.self.part
