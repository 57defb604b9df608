-- Calls of tee that are written out.
use Rattle.std.specs.Prelude.{ℕ, true, List, [], ◌∷◌, ◌++◌, Some, codes}
use Rattle.chunk_core.specs.declared.code.Exit.TheVariants.{Succeeded, Errored}
use Rattle.chunk_core.specs.declared.code.How.TheVariants as how
use Rattle.device_port.specs.Device.{DeviceTold}
use Rattle.res_ledger.specs.declared.event.Event.{Event}
use Rattle.res_ledger.specs.declared.event.StreamNo.TheVariants.{Outer, Inner}
use Rattle.run_rules.specs.declared.end.EndOf.{EndOf}
use Rattle.tee_rules.specs.Worked.{depot_after, depot_before, device_a, ending, events_with}
use Rattle.flume_cli.specs.declared.status.Status.{Status}
use Rattle.flume_cli.specs.declared.status.Status.TheVariants as status
use Rattle.flume_cli.specs.Headline.{Call}
use Rattle.headline_laws.specs.Calls.{a, no_input, output_of}

-- lines are counted in one branch, and those with a d come out of the other
abbrev pub two_words : List (List ℕ)
two_words = codes "lines|count" ∷ codes "utf8|lines|filter d" ∷ []

-- tee a 'lines|count' 'utf8|lines|filter d', of a file of the lines `ab` and `cd`: the device, what was printed, the status, the ends and the ledger
abbrev pub tee_call : DeviceTold → List ℕ → Status → List EndOf → List Event → Call
tee_call d text s ends L = record {
  words = codes "tee" ∷ a ∷ two_words;
  source_old = no_input;
  source_new = no_input;
  depot_old = depot_before;
  depot_new = depot_after d;
  out_old = output_of [] 0;
  out_new = output_of text 0;
  err_old = output_of [] 0;
  err_new = output_of [] 0;
  status = s;
  ends = ends;
  events = L;
}

abbrev pub branches_text : List ℕ
branches_text = codes "0 2\n2\n\n1 3\ncd\n\n"

abbrev pub ledger_text : List ℕ
ledger_text = codes "ledger 3\nouter acquire 0 0\nouter close 0 succeeded\nouter final 0 succeeded ok\n"

abbrev pub done_text : List ℕ
done_text = codes "end outer done\nend 0 done\nend 1 done\n" ++ ledger_text

-- both branches are done
abbrev pub two_branches : Call
two_branches = tee_call device_a (branches_text ++ done_text) status.Good (ending how.Done how.Done how.Done) (events_with Succeeded)

-- the frames of branches stand in any order
abbrev pub branches_turned : Call
branches_turned = record two_branches { out_new = output_of (codes "1 3\ncd\n\n0 2\n2\n\n" ++ done_text) 0 }

-- With one thing wrong.

-- the device came back open
abbrev pub branched_and_open : Call
branched_and_open = record two_branches { depot_new = depot_after (record device_a { is_open = true }) }

-- the second branch has no end
abbrev pub branch_without_end : Call
branch_without_end = record two_branches { out_new = output_of (branches_text ++ codes "end outer done\nend 0 done\n" ++ ledger_text) 0; ends = record { who = Outer; how = how.Done } ∷ record { who = Inner 0; how = how.Done } ∷ [] }

-- the second branch was halted, and nothing failed
abbrev pub branch_halted_for_nothing : Call
branch_halted_for_nothing = record two_branches { out_new = output_of (codes "0 2\n2\n\nend outer done\nend 0 done\nend 1 halted\n" ++ ledger_text) 0; ends = ending how.Done how.Done how.Halted }

-- the device was told of an error that there wasn't
abbrev pub branched_as_errored : Call
branched_as_errored = record two_branches {
  depot_new = depot_after (record device_a { exit = Some Errored });
  out_new = output_of (branches_text ++ codes "end outer done\nend 0 done\nend 1 done\nledger 3\nouter acquire 0 0\nouter close 0 errored\nouter final 0 errored ok\n") 0;
  events = events_with Errored;
}

-- a word of steps means no chain
abbrev pub unmeant_branch : Call
unmeant_branch = record two_branches { words = codes "tee" ∷ a ∷ codes "lines|count" ∷ codes "field 0" ∷ [] }
