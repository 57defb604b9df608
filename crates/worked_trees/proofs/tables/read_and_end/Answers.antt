-- The main tree, as far as each call leaves it.
use Rattle.std.proofs.Common.{◌+◌, ◌<◌, length, refl, sym, ap, ◌∙◌, subst, arith}
use Rattle.chunk_core.specs.Lists.{IsAmong}
use Rattle.chunk_core.proofs.Members.{among_nil}
use Rattle.join_tree.specs.Progress.{closing_root, none_done, reading}
use Rattle.pull_stepper.proofs.Firsts.{among_run}
use Rattle.outer_tables.specs.Rows.{acquires}
use Rattle.worked_trees.proofs.tables.read_and_end.Goals as goal

pub read_tables-read-requires-clause-main : goal.read_tables-read-requires-clause-main
read_tables-read-requires-clause-main g c = let none = none_done g.row.D-Dev.Denot in (1, 0, none, c.begin-tree.ensures.main 1 0, refl)

pub read_tables-read-requires-clause-rows : goal.read_tables-read-requires-clause-rows
read_tables-read-requires-clause-rows g c r h =
    let n = length c.args.tables.now in
    subst (λ l. IsAmong (0 + r) l) (sym (ap (λ v. v.empty) (c.begin-tree.ensures.seat ∙ c.requires.start))) (among_run (0 + r) 0 n (omega arith) (let e : 0 + r < 0 + n = omega (h, arith) in e))

pub close_outer-requires-clause-main : goal.close_outer-requires-clause-main
close_outer-requires-clause-main g c =
    let none = none_done g.row.D-Dev.Denot in let reads = c.read_tables-read.ensures.reads in
    (1, 0, reading none (acquires 0 0 (length reads.tries.devices)), reads.main 1 0 none (c.begin-tree.ensures.main 1 0) refl (λ z. refl) (λ q t m. absurd (among_nil m)), refl)

pub settle-ledger-requires-clause-main : goal.settle-ledger-requires-clause-main
settle-ledger-requires-clause-main g c =
    let none = none_done g.row.D-Dev.Denot in let reads = c.read_tables-read.ensures.reads in
    let p = reading none (acquires 0 0 (length reads.tries.devices)) in
    (1, 0, closing_root p c.match-read.exit, c.match-read.exit, c.close_outer.ensures.main 1 0 p (reads.main 1 0 none (c.begin-tree.ensures.main 1 0) refl (λ z. refl) (λ q t m. absurd (among_nil m))) refl, refl, refl)

pub returns : goal.returns
returns g c =
    let none = none_done g.row.D-Dev.Denot in let reads = c.read_tables-read.ensures.reads in
    let p = reading none (acquires 0 0 (length reads.tries.devices)) in
    let s = c.settle-ledger.ensures.settles 1 0 (closing_root p c.match-read.exit) c.match-read.exit (c.close_outer.ensures.main 1 0 p (reads.main 1 0 none (c.begin-tree.ensures.main 1 0) refl (λ z. refl) (λ q t m. absurd (among_nil m))) refl) refl in
    s.whole
