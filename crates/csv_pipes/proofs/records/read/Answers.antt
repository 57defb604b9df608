use Rattle.csv_pipes.proofs.Taken.{takes, reads_on}
use Rattle.csv_pipes.proofs.records.read.Goals as goal

pub returns-clause-reads : goal.returns-clause-reads
returns-clause-reads g c = λ is.
    let reads = c.in-Ok.ensures.reads c.requires.plain c.requires.ready in
    reads_on g.R.Read.remaining c.args.reader.now c.read_byte_record.new.self _ c.requires (c.in-Ok.ensures.ready c.requires.plain) (rw is at reads)

pub returns-clause-takes : goal.returns-clause-takes
returns-clause-takes g c =
    takes g.R.Read.remaining c.args.reader.now c.read_byte_record.new.self _ c.requires c.in-Ok.found (c.in-Ok.ensures.reads c.requires.plain c.requires.ready)
