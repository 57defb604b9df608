-- What the state of any pipe stands for: what that of the pipe itself does.
use Rattle.std.specs.Prelude.{List, Option}
use Rattle.std.proofs.Common.{refl, ap}
use Rattle.chunk_core.specs.Elements.{Element, LoadKind}
use Rattle.chunk_core.specs.Feed.{Meaning, IsSound, NothingComes}
use Rattle.chunk_core.specs.declared.code.Code.{Code}
use Rattle.csv_pipes.specs.CsvState as csv
use Rattle.csv_pipes.specs.FieldState as field
use Rattle.csv_pipes.specs.LookupState as lookup
use Rattle.pull_nodes.specs.Lines.{long_fault}
use Rattle.pull_nodes.specs.declared.pipe.Pipe.TheVariants as pipe
use Rattle.pull_nodes.proofs.Meanings.{sound_from}
use Rattle.stream_ops.specs.ChangesState as changes
use Rattle.stream_ops.specs.ChunkNState as chunk_n
use Rattle.stream_ops.specs.CountState as count
use Rattle.stream_ops.specs.DropState as drop
use Rattle.stream_ops.specs.FilterState as filter
use Rattle.stream_ops.specs.IntersperseState as intersperse
use Rattle.stream_ops.specs.NumberState as number
use Rattle.text_pipes.specs.HexState as hexadecimal
use Rattle.text_pipes.specs.LinesState as lines
use Rattle.text_pipes.specs.LossyState as lossy
use Rattle.text_pipes.specs.UpperState as upper
use Rattle.text_pipes.specs.Utf8State as utf8
use Rattle.any_pipe.specs.declared.state.AnyPipe.{AnyPipe}
use Rattle.any_pipe.specs.declared.state.AnyPipe.TheVariants as any

-- the inputs that a state stands for, what is still to come of it once the input has ended, and that it has given no fault
pub record Interpretation : Type 1 where
  pub stands : Meaning → List Element → Type 0
  pub comes : LoadKind → List Element → Option Code → Type 0
  pub sound : IsSound stands

-- those of each pipe: the one row that a pipe has here
abbrev pub interpretation_of : AnyPipe → Interpretation
interpretation_of (any.Utf8 q) = record { stands = utf8.StandsFor q; comes = λ kind ys c. ⊥; sound = λ m xs h. sound_from pipe.Utf8 m h.0 xs (ap utf8.fault_where h.1.fine) }
interpretation_of (any.Lossy q) = record { stands = lossy.StandsFor q; comes = lossy.Comes q; sound = λ m xs h. sound_from pipe.Lossy m h.0 xs refl }
interpretation_of (any.Lines q) = record { stands = lines.StandsFor q; comes = lines.Comes q; sound = λ m xs h. sound_from pipe.Lines m h.0 xs (ap long_fault h.1.short) }
interpretation_of (any.Hex q) = record { stands = hexadecimal.StandsFor q; comes = hexadecimal.Comes q; sound = λ m xs h. sound_from pipe.Hex m h.0 xs refl }
interpretation_of (any.Upper q) = record { stands = upper.StandsFor q; comes = upper.Comes q; sound = λ m xs h. sound_from pipe.Upper m h xs refl }
interpretation_of (any.Csv q) = record { stands = csv.StandsFor q; comes = csv.Comes q; sound = λ m xs h. sound_from pipe.Csv m h.0 xs (ap csv.fault_where h.2) }
interpretation_of (any.Field q) = record { stands = field.StandsFor q; comes = NothingComes q; sound = λ m xs h. sound_from (pipe.Field q.field) m h.0 xs h.1 }
interpretation_of (any.Lookup q) = record { stands = lookup.StandsFor q; comes = NothingComes q; sound = lookup.sound q }
interpretation_of (any.Drop q) = record { stands = drop.StandsFor q; comes = NothingComes q; sound = λ m xs h. sound_from (pipe.Drop h.0) m h.1 xs refl }
interpretation_of (any.Filter q) = record { stands = filter.StandsFor q; comes = NothingComes q; sound = λ m xs h. sound_from (pipe.Filter q.finder.value) m h xs refl }
interpretation_of (any.Changes q) = record { stands = changes.StandsFor q; comes = NothingComes q; sound = λ m xs h. sound_from pipe.Changes m h.0 xs refl }
interpretation_of (any.Number q) = record { stands = number.StandsFor q; comes = NothingComes q; sound = λ m xs h. sound_from pipe.Number m h.0 xs refl }
interpretation_of (any.Count q) = record { stands = count.StandsFor q; comes = count.Comes q; sound = λ m xs h. sound_from pipe.Count m h.0 xs refl }
interpretation_of (any.Intersperse q) = record { stands = intersperse.StandsFor q; comes = NothingComes q; sound = λ m xs h. sound_from (pipe.Intersperse q.between) m h.0 xs refl }
interpretation_of (any.ChunkN q) = record { stands = chunk_n.StandsFor q; comes = chunk_n.Comes q; sound = λ m xs h. sound_from (pipe.ChunkN h.0) m h.1 xs refl }

-- the state stands for this input of the pipe
abbrev pub StandsFor : AnyPipe → Meaning → List Element → Type 0
StandsFor q m xs = (interpretation_of q).stands m xs

-- the input has ended, and this is still to come
abbrev pub Comes : AnyPipe → LoadKind → List Element → Option Code → Type 0
Comes q kind ys c = (interpretation_of q).comes kind ys c
