use Rattle.std.proofs.Common.{◌<◌, arith, length}
use Rattle.std.proofs.lemmas.Grind.{common_steps}
use Rattle.chunk_core.specs.Elements.{elements}
use Rattle.stream_ops.proofs.Groupings.{groups_finish}
use Rattle.stream_ops.proofs.chunk_n.ChunkNPipeFeed.finish.Goals as goal

pub returns-clause-first : goal.returns-clause-first
returns-clause-first c m xs h =
    let some : 0 < length (elements c.in_ok-rest.rest) = grind (arith, common_steps) in
    groups_finish c.args.self.now c.take_rest.new.self c.in_ok-rest.rest c.in_ok-rest.ensures.rest c.in_ok-rest.ensures.kind c.in_ok-rest.ensures.none some m xs h
