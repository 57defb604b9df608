-- A writer of rows that takes rows of any length, between two rows.
use Rattle.std.specs.Prelude.{◌≡◌, ℕ, true, false, List, Option, Some, Vec}
use Rattle.std.specs.declared.alloc.Global.{Global}
use Rattle.csv.specs.Writing.{default_writer, with_flexible, text_written, writer_setup, fields_written, has_written}
use Rattle.csv.specs.declared.writer.Writer.{Writer}
use Rattle.csv.specs.declared.writer.WriterBuilder.{WriterBuilder}

-- the default writer, but rows may differ in their number of fields
abbrev pub flexible_writer : WriterBuilder
flexible_writer = with_flexible default_writer true

-- the bytes written so far
abbrev pub written : Writer (Vec ℕ Global) → Option (List ℕ)
written writer = text_written (λ v. Some v.items) writer

-- no row is half written
pub record IsBetween (writer : Writer (Vec ℕ Global)) : Type 0 where
  pub setup : writer_setup writer ≡ flexible_writer
  pub fields : fields_written writer ≡ 0
  pub wrote : has_written writer ≡ false
