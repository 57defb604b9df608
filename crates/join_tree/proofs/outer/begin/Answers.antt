use Rattle.std.proofs.Common.{ap, refl, ◌∙◌}
use Rattle.scope_tree.specs.Trees.{seen}
use Rattle.join_tree.proofs.Growing.{main_begins}
use Rattle.join_tree.proofs.Given.{start_gives}
use Rattle.join_tree.proofs.outer.begin.Goals as goal

pub returns-clause-main : goal.returns-clause-main
returns-clause-main g c width n =
    let s = c.requires.start in
    let e = c.new.ensures in
    main_begins (seen g.S.RowSeat.view c.new.result) (g.S.RowSeat.view c.args.seat) s.1 s.0 c.args.room.scopes c.args.room.rows e.seen s.3 s.2 c.args.room.one e.root

pub returns-clause-gives : goal.returns-clause-gives
returns-clause-gives g c = start_gives (seen g.S.RowSeat.view c.new.result).seat _ (ap (λ x. x.seat) c.new.ensures.seen ∙ c.requires.start.3) refl
