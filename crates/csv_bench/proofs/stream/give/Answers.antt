use Rattle.std.proofs.Common.{◌++◌, ◌∙◌, sym}
use Rattle.chunk_core.specs.Elements.{elements}
use Rattle.csv_bench.proofs.stream.give.Goals as goal

pub returns : goal.returns
returns g c = λ _.
    let (m, xs, stands, takes) = c.requires.lookup in
    let fed = rw c.in-Out.is at c.in_ok-longer.ensures m xs stands (takes ∙ sym c.requires.rows) in (m, xs ++ elements c.args.rows, fed.1, takes)
