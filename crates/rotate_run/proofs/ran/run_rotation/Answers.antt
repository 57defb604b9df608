-- The room is enough, and what was closed is told.
use Rattle.std.proofs.Common.{◌∙◌, ◌-◌, ◌^◌, ap, arith, subst, sym}
use Rattle.res_ledger.specs.declared.event.StreamNo.TheVariants.{Inner}
use Rattle.row_seat.specs.PlainSeats.{shown}
use Rattle.row_seat.specs.Views.{IsLedgerOf}
use Rattle.scope_tree.specs.Trees.{seen}
use Rattle.tree_laws.proofs.Alone.{first_at_start}
use Rattle.rotate_run.proofs.Rooms.{unused_tree}
use Rattle.rotate_run.proofs.ran.run_rotation.Goals as goal

pub new-tree-requires : goal.new-tree-requires
new-tree-requires g c = record { start = first_at_start (shown c.args.room.seat) (Inner 0) 1025 4099 (2 ^ 32 - 1) c.requires.room.seat (omega arith) }

pub rotate_over-closed-requires-clause-unused : goal.rotate_over-closed-requires-clause-unused
rotate_over-closed-requires-clause-unused g c =
    let t = c.new-tree.ensures in
    let r = c.requires.room in
    unused_tree (seen shown c.new-tree.result) 1025 4099 (2 ^ 32 - 1) (ap (λ x. x.seat) t.seen ∙ r.seat) (omega arith) (omega arith) (ap (λ x. x.shelf) t.seen) t.root t.used.0 t.owed (ap (λ x. x.scopes) t.seen ∙ r.scopes) (ap (λ x. x.rows) t.seen ∙ r.rows)

pub returns : goal.returns
returns g c = λ old path device now. record {
  seat = shown c.rotate_over-closed.result.seat;
  how = c.rotate_over-closed.result.how;
  closes = c.rotate_over-closed.ensures.closes old path device now;
  ledger = subst (λ l. IsLedgerOf (shown c.rotate_over-closed.result.seat) l) (sym c.outcome_of.ensures.ledger) c.finish-ledger.ensures;
  ends = c.outcome_of.ensures.ends;
  sink = c.outcome_of.ensures.sink;
  memory = c.outcome_of.ensures.memory;
}
