-- Runs of one stream that is never begun.
use Rattle.std.specs.Prelude.{ℕ, true, List, [], ◌∷◌, Option, Some, codes}
use Rattle.chunk_core.specs.declared.code.Exit.TheVariants.{Succeeded, Canceled}
use Rattle.chunk_core.specs.declared.code.How.TheVariants as how
use Rattle.res_ledger.specs.declared.event.StreamNo.TheVariants.{Outer}
use Rattle.res_ledger.specs.declared.event.What.TheVariants.{Lease, Cancel, Close}
use Rattle.run_rules.specs.Work.{RunRecord, Work}
use Rattle.run_laws.specs.Files.{path_a}
use Rattle.run_laws.specs.Streams.{opener, piped_work}
use Rattle.run_laws.specs.Written.{Listing, ends_of, run_of}

abbrev pub x_listing : Listing
x_listing = (path_a, codes "x\n") ∷ []

-- one file as it is, of which so many frames are printed at most
abbrev pub one_stream_work : Option ℕ → Work
one_stream_work most = record (piped_work path_a []) { opener = Some (opener [] 4 most) }

-- nothing may be printed, so the stream isn't even given
abbrev pub ungiven : RunRecord
ungiven = run_of x_listing x_listing [] (ends_of how.Halted (how.Halted ∷ [])) ((Outer, Close 0 Canceled) ∷ []) []

abbrev pub ungiven_text : List ℕ
ungiven_text = codes "end outer halted\nend 0 halted\nledger 1\nouter close 0 canceled\n"

-- there is no memory for the stream that was given, so the outer stream cancels its lease
abbrev pub unbegun : RunRecord
unbegun = record (run_of x_listing x_listing [] (ends_of how.Done (how.Memory ∷ [])) ((Outer, Lease 0 0) ∷ (Outer, Close 0 Succeeded) ∷ (Outer, Cancel 0 Canceled) ∷ []) []) { memory = true }
