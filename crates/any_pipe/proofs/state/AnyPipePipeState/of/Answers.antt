use Rattle.std.proofs.Common.{sym}
use Rattle.csv_pipes.specs.Dictionaries.{values_of}
use Rattle.any_pipe.proofs.state.AnyPipePipeState.of.Goals as goal
use Rattle.any_pipe.proofs.state.AnyPipePipeState.of.Goals.{in-Utf8+in_ok-new-in-Utf8, in-Lossy+in_ok-new-in-Lossy, in-Lines+in_ok-new-in-Lines, in-Hex+in_ok-new-in-Hex, in-Upper+in_ok-new-in-Upper, in-Csv+in_ok-new-in-Csv, in-Field+in_ok-new-in-Field, in-Lookup+in_ok-table-in-Lookup+in_ok-new-in-Lookup, in-Drop+in_ok-new-in-Drop, in-Filter+in_ok-new-in-Filter, in-Changes+in_ok-new-in-Changes, in-Number+in_ok-new-in-Number, in-Count+in_ok-new-in-Count, in-Intersperse+in_ok-new-in-Intersperse, in-ChunkN+in_ok-new-in-ChunkN}

pub returns : goal.returns
returns c =
    elim c.match-pipe.branch [
      | in-Utf8+in_ok-new-in-Utf8 w ↦ rw (w.in-Utf8.is, w.result-is) w.in_ok-new-in-Utf8.ensures
      | in-Lossy+in_ok-new-in-Lossy w ↦ rw (w.in-Lossy.is, w.result-is) w.in_ok-new-in-Lossy.ensures
      | in-Lines+in_ok-new-in-Lines w ↦ rw (w.in-Lines.is, w.result-is) w.in_ok-new-in-Lines.ensures
      | in-Hex+in_ok-new-in-Hex w ↦ rw (w.in-Hex.is, w.result-is) w.in_ok-new-in-Hex.ensures
      | in-Upper+in_ok-new-in-Upper w ↦ rw (w.in-Upper.is, w.result-is) w.in_ok-new-in-Upper.ensures
      | in-Csv+in_ok-new-in-Csv w ↦ rw (w.in-Csv.is, w.result-is) w.in_ok-new-in-Csv.ensures
      | in-Field+in_ok-new-in-Field w ↦ rw (w.in-Field.is, w.result-is) w.in_ok-new-in-Field.ensures
      | in-Lookup+in_ok-table-in-Lookup+in_ok-new-in-Lookup w ↦ rw (w.in-Lookup.is, w.result-is) (λ m. w.in_ok-new-in-Lookup.ensures (values_of c.args.tables.now) w.in-Lookup.table m (λ key. sym (w.in_ok-table-in-Lookup.ensures key)))
      | in-Drop+in_ok-new-in-Drop w ↦ rw (w.in-Drop.is, w.result-is) w.in_ok-new-in-Drop.ensures
      | in-Filter+in_ok-new-in-Filter w ↦ rw (w.in-Filter.is, w.result-is) w.in_ok-new-in-Filter.ensures
      | in-Changes+in_ok-new-in-Changes w ↦ rw (w.in-Changes.is, w.result-is) w.in_ok-new-in-Changes.ensures
      | in-Number+in_ok-new-in-Number w ↦ rw (w.in-Number.is, w.result-is) w.in_ok-new-in-Number.ensures
      | in-Count+in_ok-new-in-Count w ↦ rw (w.in-Count.is, w.result-is) w.in_ok-new-in-Count.ensures
      | in-Intersperse+in_ok-new-in-Intersperse w ↦ rw (w.in-Intersperse.is, w.result-is) w.in_ok-new-in-Intersperse.ensures
      | in-ChunkN+in_ok-new-in-ChunkN w ↦ rw (w.in-ChunkN.is, w.result-is) w.in_ok-new-in-ChunkN.ensures
    ]
