-- Why the tables weren't read.
use Rattle.csv_pipes.specs.declared.TableRefused.{TableRefused}
use Rattle.csv_pipes.specs.declared.TableRefused.TheVariants as refused
use Rattle.outer_tables.specs.declared.not_read.NotRead.{NotRead}
use Rattle.outer_tables.specs.declared.not_read.NotRead.TheVariants as why

-- a refused table is a fault
abbrev pub as_not_read : TableRefused → NotRead
as_not_read refused.Memory = why.Memory
as_not_read (refused.Data c) = why.Fault c
