use Rattle.std.proofs.Common.{map, take}
use Rattle.row_seat.specs.Views.{OthersFit}
use Rattle.scope_tree.specs.Trees.{Fits, seen}
use Rattle.pull_stepper.specs.Held.{FinishesDevice}
use Rattle.outer_tables.proofs.Reading.{AreReadSoFar}
use Rattle.outer_tables.proofs.tables.read_tables.Given as goal

-- the tables before this one were read
abbrev pub invariant-loop-i : goal.invariant-loop-i
invariant-loop-i g l =
    let told = g.D.Dev.Device.told in let view = g.S.RowSeat.view in record {
      read : AreReadSoFar told (FinishesDevice told) l.scope l.first (take l.i (map (λ t. t.path) l.tables)) (g.D.Depot.told l.fn.depot) (g.D.Depot.told l.depot) (seen view l.fn.tree) (seen view l.tree) l.fn.dicts l.dicts;
      fits : Fits view g.S.RowSeat.fits l.tree l.desk;
      others : OthersFit view g.S.RowSeat.fits (seen view l.fn.tree).seat.by l.fn.desk l.desk;
    }
