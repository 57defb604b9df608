use Rattle.std.proofs.Common.{◌≡◌, drop, length}
use Rattle.pipeline_desc.specs.Groups.{members_of}
use Rattle.pipeline_desc.specs.Reading.{each_behind}
use Rattle.pipeline_desc.specs.Sound.{AreSoundTables}
use Rattle.pipeline_desc.specs.Tables.{table_meant, tables_meant}
use Rattle.pipeline_desc.proofs.tables.record_tables.Given as goal

abbrev pub invariant-loop-i : goal.invariant-loop-i
invariant-loop-i l = record {
  read : tables_meant (members_of l.described) ≡ each_behind table_meant l.tables (drop l.i (members_of l.described));
  sound : AreSoundTables l.tables;
  count : length l.tables ≡ l.i;
}
