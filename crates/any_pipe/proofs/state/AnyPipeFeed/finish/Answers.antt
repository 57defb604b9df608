use Rattle.any_pipe.proofs.state.AnyPipeFeed.finish.Goals as goal

pub returns-in-Utf8-clause-first : goal.returns-in-Utf8-clause-first
returns-in-Utf8-clause-first c = rw c.in-Utf8.is c.finish.ensures.first

pub returns-in-Lossy-clause-first : goal.returns-in-Lossy-clause-first
returns-in-Lossy-clause-first c = rw c.in-Lossy.is c.finish-in-Lossy.ensures.first

pub returns-in-Lines-clause-first : goal.returns-in-Lines-clause-first
returns-in-Lines-clause-first c = rw c.in-Lines.is c.finish-in-Lines.ensures.first

pub returns-in-Hex-clause-first : goal.returns-in-Hex-clause-first
returns-in-Hex-clause-first c = rw c.in-Hex.is c.finish-in-Hex.ensures.first

pub returns-in-Changes-clause-first : goal.returns-in-Changes-clause-first
returns-in-Changes-clause-first c = rw c.in-Changes.is c.finish-in-Changes.ensures.first

pub returns-in-Count-clause-first : goal.returns-in-Count-clause-first
returns-in-Count-clause-first c = rw c.in-Count.is c.finish-in-Count.ensures.first

pub returns-in-ChunkN-clause-first : goal.returns-in-ChunkN-clause-first
returns-in-ChunkN-clause-first c = rw c.in-ChunkN.is c.finish-in-ChunkN.ensures.first

pub finish-requires-in-Csv : goal.finish-requires-in-Csv
finish-requires-in-Csv c = rw c.in-Csv.is at c.requires

pub returns-in-Csv-clause-first : goal.returns-in-Csv-clause-first
returns-in-Csv-clause-first c = rw c.in-Csv.is c.finish-in-Csv.ensures.first

pub returns-in-Csv-clause-next : goal.returns-in-Csv-clause-next
returns-in-Csv-clause-next c = rw c.in-Csv.is c.finish-in-Csv.ensures.next

pub returns-in-Lookup-clause-first : goal.returns-in-Lookup-clause-first
returns-in-Lookup-clause-first c = rw c.in-Lookup.is c.finish-in-Lookup.ensures.first
