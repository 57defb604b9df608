use Rattle.node_laws.proofs.LongLines.{tells}
use Rattle.node_laws.proofs.laws.tells_long_lines.Goals as goal

pub returns : goal.returns
returns c xs = tells xs
