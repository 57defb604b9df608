use Rattle.tree_laws.proofs.Ends.{called_complete, called_events, called_in_order, called_whole, one_lease_whole}
use Rattle.tree_laws.proofs.laws.ledger_is_whole.Goals as goal

pub returns : goal.returns
returns g c = record {
  events = λ a b Cs u L start calls end. called_events u L start calls end;
  order = λ a b Cs u L start calls end covered. called_in_order u L start calls end covered;
  complete = λ a b Cs u L start calls end root. called_complete u L start calls end root;
  whole = λ a b Cs u L start calls end root covered. called_whole u L start calls end root covered;
  one_lease = λ a b d e f h s j T x u L start first may lease then may' cancel last end root. one_lease_whole u L start first may lease then may' cancel last end root;
}
