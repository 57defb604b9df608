use Rattle.tree_laws.proofs.Alone.{alone_can_finish, alone_whole, calls_alone}
use Rattle.tree_laws.proofs.laws.calls_stay_alone.Goals as goal

pub returns : goal.returns
returns g c = record {
  alone = calls_alone;
  finish = alone_can_finish;
  whole = λ a b L start calls alone root ledger. alone_whole L start calls alone root ledger;
}
