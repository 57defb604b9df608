use Rattle.run_laws.proofs.FiveFiles.{five_right}
use Rattle.run_laws.proofs.worked.several_files.Goals as goal

pub returns : goal.returns
returns c = record {
  is_five = five_right;
}
