use Rattle.run_laws.proofs.OneStream.{ungiven_right, unbegun_right}
use Rattle.run_laws.proofs.worked.one_stream.Goals as goal

pub returns : goal.returns
returns c = record {
  is_ungiven = ungiven_right;
  is_unbegun = unbegun_right;
}
