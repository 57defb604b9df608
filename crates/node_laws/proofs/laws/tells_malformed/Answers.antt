use Rattle.pull_nodes.specs.Utf8.{utf8_rest}
use Rattle.pull_nodes.proofs.Malformed.{malformed_is}
use Rattle.pull_nodes.proofs.Utf8Cuts.{rest-none}
use Rattle.node_laws.proofs.laws.tells_malformed.Goals as goal

pub returns : goal.returns
returns c xs = malformed_is (utf8_rest xs) (rest-none xs)
