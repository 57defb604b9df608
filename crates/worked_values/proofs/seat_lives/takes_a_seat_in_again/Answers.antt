use Rattle.std.proofs.Common.{ℕ, sym, subst}
use Rattle.res_ledger.specs.Ledger.{IsUsable}
use Rattle.row_seat.specs.declared.view.View.{View}
use Rattle.row_seat.specs.Views.{CanSplit}
use Rattle.worked_values.proofs.Life.{may_split, root_usable}
use Rattle.worked_values.proofs.seat_lives.takes_a_seat_in_again.Goals as goal

pub hand_out-requires-clause-can : goal.hand_out-requires-clause-can
hand_out-requires-clause-can c = subst (λ (v : View ℕ). CanSplit v 1 1 2 1) (sym c.in_ok-seat.ensures.0) may_split

pub hand_out-requires-clause-scope : goal.hand_out-requires-clause-scope
hand_out-requires-clause-scope c = subst (λ (v : View ℕ). IsUsable v.events v.by 0) (sym c.in_ok-seat.ensures.0) root_usable
