use Rattle.std.proofs.Common.{arith}
use Rattle.std.specs.Str.{bytes_eq}
use Rattle.std.proofs.lemmas.List.Sums.{count_by-le-length}
use Rattle.device_port.specs.Device.{Place}
use Rattle.pipeline_desc.specs.Places.{list_places}
use Rattle.pipeline_desc.specs.declared.table.TableSpec.{TableSpec}
use Rattle.pipeline_desc.proofs.Written.{count_in_all, count_in_streams_le, list_places_le}
use Rattle.pipeline_desc.proofs.outputs.count_in_all.Goals as goal

pub overflow_add-result : goal.overflow_add-result
overflow_add-result c =
    let path = c.args.path.now in
    omega (
      arith,
      c.count_in_tables.ensures,
      count_by-le-length (λ (t : TableSpec). bytes_eq path t.path) c.args.tables.now,
      c.requires.tables,
      c.count_in_list.ensures,
      count_by-le-length (λ (p : Place). bytes_eq path p.path) (list_places c.args.list.now),
      list_places_le c.args.list.now,
    )

pub overflow_add-result-2 : goal.overflow_add-result-2
overflow_add-result-2 c =
    let path = c.args.path.now in
    omega (
      arith,
      c.count_in_tables.ensures,
      count_by-le-length (λ (t : TableSpec). bytes_eq path t.path) c.args.tables.now,
      c.requires.tables,
      c.count_in_list.ensures,
      count_by-le-length (λ (p : Place). bytes_eq path p.path) (list_places c.args.list.now),
      list_places_le c.args.list.now,
      c.count_in_streams.ensures,
      count_in_streams_le (λ (p : Place). bytes_eq path p.path) c.args.streams.now,
      c.requires.streams,
    )

pub returns : goal.returns
returns c =
    let all = count_in_all c.args.path.now c.args.tables.now c.args.list.now c.args.streams.now in
    omega (arith, c.count_in_tables.ensures, c.count_in_list.ensures, c.count_in_streams.ensures, all)
