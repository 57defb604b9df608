-- What pipes give before they get anything.
use Rattle.std.proofs.Common.{◌≡◌, []}
use Rattle.pull_nodes.specs.Pipes.{part_of}
use Rattle.chunk_core.specs.Tables.{Values}
use Rattle.pull_nodes.specs.declared.pipe.Pipe.{Pipe}
use Rattle.pull_nodes.proofs.PipeLaws.{lawful_pipe}

-- a pipe gives nothing of nothing before the end
pub part_of-nil : (t : Values) (p : Pipe) → (part_of t p []).list ≡ []
part_of-nil t p = (lawful_pipe t p).empty
