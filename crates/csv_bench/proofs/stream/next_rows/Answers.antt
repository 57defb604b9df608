use Rattle.std.proofs.Common.{inl, inr, ⊎_elim}
use Rattle.std.proofs.lemmas.Result.{IfOk-weaker}
use Rattle.chunk_core.specs.Elements.LoadKind.{Bytes, Rows}
use Rattle.pull_nodes.specs.Csv.{csv_all}
use Rattle.pull_nodes.specs.Pipes.{meaning}
use Rattle.pull_nodes.specs.Plain.{bytes_of}
use Rattle.pull_nodes.specs.declared.pipe.Pipe.TheVariants as pipe
use Rattle.csv_bench.proofs.Giving.{gave}
use Rattle.csv_bench.proofs.stream.next_rows.Goals as goal

pub finish-requires : goal.finish-requires
finish-requires c = ⊎_elim (λ s. inl (meaning pipe.Csv Bytes Rows, s.0, s.1)) (λ s. inr (Rows, s.0, s.1, s.2)) c.requires

pub returns : goal.returns
returns c =
    ⊎_elim
    (λ s. IfOk-weaker c.finish.result _ _ (λ answer first. let h = first (meaning pipe.Csv Bytes Rows) s.0 s.1 in gave answer c.finish.new.self h.rest (csv_all (bytes_of s.0)).fault h.given) c.finish.ensures.first)
    (λ s. IfOk-weaker c.finish.result _ _ (λ answer next. gave answer c.finish.new.self s.0 s.1 (next Rows s.0 s.1 s.2)) c.finish.ensures.next)
    c.requires
