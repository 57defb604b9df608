-- What the pipe gave once its input had ended.
use Rattle.std.proofs.Common.{List, Option, inr}
use Rattle.chunk_core.specs.Elements.{Element}
use Rattle.chunk_core.specs.Elements.LoadKind.{Rows}
use Rattle.chunk_core.specs.Feed.{Continues}
use Rattle.chunk_core.specs.declared.code.Code.{Code}
use Rattle.chunk_core.specs.declared.feed.Fed.{Fed}
use Rattle.chunk_core.specs.declared.feed.Fed.TheVariants as fed
use Rattle.csv_pipes.specs.CsvState.{Comes}
use Rattle.csv_pipes.specs.declared.csv_pipe.CsvPipe.{CsvPipe}
use Rattle.csv_bench.specs.States.{Gave}

pub gave : (answer : Fed) (q : CsvPipe) (ys : List Element) (c : Option Code) → Continues Rows ys c answer (Comes q Rows) → Gave answer q
gave (fed.Out load) q ys c h = (h.0, inr (h.2, c, h.4))
gave fed.End q ys c h = tt
gave (fed.Fault load d) q ys c h = tt
