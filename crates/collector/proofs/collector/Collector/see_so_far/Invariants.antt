use Rattle.std.specs.Prelude.{◌≡◌}
use Rattle.row_seat.specs.Views.{OthersFit}
use Rattle.scope_tree.specs.Trees.{Fits, seen}
use Rattle.collector.specs.declared.collector.Collector.{Collector}
use Rattle.collector.proofs.collector.Collector.see_so_far.Given as goal

-- the main tree is as it was, and fits the desk
abbrev pub invariant-looks : goal.invariant-looks
invariant-looks g l =
    let view = g.S.RowSeat.view in
    let agrees = g.S.RowSeat.fits in
    record {
      seen_is : seen view l.self.tree ≡ seen view l.initial.self.tree;
      same : l.self ≡ record l.initial.self { tree = l.self.tree };
      fits : Fits view agrees l.self.tree l.desk;
      others : OthersFit view agrees (seen view l.initial.self.tree).seat.by l.initial.desk l.desk;
    }
