use Rattle.std.proofs.Common.{inl, inr, ⊎_elim}
use Rattle.tree_laws.proofs.Along.{called_after}
use Rattle.tree_laws.proofs.Joined.{joined_finished}
use Rattle.tree_laws.proofs.Kept.{closed_rows_end, kept_canceled}
use Rattle.tree_laws.proofs.laws.sub_trees.Goals as goal

pub returns : goal.returns
returns g c = record {
  noted = record {
    own = λ a b Cs m h e i. ⊎_elim (λ o. inl o) (λ k. inr k.0) ((called_after h).own m e i);
    leaseless = λ a b Cs m h e i. ⊎_elim (λ o. inl o) (λ k. inr k.1) ((called_after h).own m e i);
    canceled = λ a b Cs j m h k e i. kept_canceled j m h k e i;
  };
  joined = λ a b d e x Cs Ds L none first can apart is then ledger. joined_finished L none first can apart is then ledger;
  rows = λ t sound main closed r s n. closed_rows_end g.S.RowSeat.view t sound main closed r s n;
}
