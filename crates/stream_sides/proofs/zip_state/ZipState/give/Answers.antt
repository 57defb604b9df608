use Rattle.std.proofs.Common.{◌≡◌, map, rules}
use Rattle.chunk_core.specs.Elements.{Row, elements}
use Rattle.stream_sides.specs.Sides.{paired, unpaired, with_more}
use Rattle.stream_sides.proofs.Feeding.{adds_pairs}
use Rattle.stream_sides.proofs.zip_state.ZipState.give.Goals as goal

pub returns-clause-whole : goal.returns-clause-whole
returns-clause-whole c =
    let more = elements c.args.load in
    let pairs : map Row c.in_ok-given.given ≡ paired (with_more c.args.self.now c.args.side more) = search rules in
    let rest : c.keep.new.self ≡ unpaired (with_more c.args.self.now c.args.side more) = search rules in
    λ all waits. adds_pairs all c.args.self.now c.keep.new.self c.args.side more (map Row c.in_ok-given.given) waits pairs rest
