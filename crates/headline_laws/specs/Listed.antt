-- Calls of run with groups or a list that are written out.
use Rattle.std.specs.Prelude.{ℕ, List, [], ◌∷◌, ◌++◌, Some, codes}
use Rattle.pipeline_desc.specs.Meant.{PlanMeant}
use Rattle.pipeline_desc.specs.Worked.{plan_by_default}
use Rattle.pipeline_desc.specs.WorkedParts.{group_with, list_of, list_with, second}
use Rattle.pipeline_desc.specs.declared.refusal.Refusal.{Refusal}
use Rattle.pipeline_desc.specs.declared.refusal.RefusalKind.TheVariants as refusal
use Rattle.run_rules.specs.Work.{RunRecord}
use Rattle.run_laws.specs.Lists.{two_listed, two_listed_text}
use Rattle.run_laws.specs.UnfitLists.{line_before, line_left}
use Rattle.flume_cli.specs.declared.status.Status.TheVariants as status
use Rattle.flume_cli.specs.Headline.{Call}
use Rattle.headline_laws.specs.Calls.{no_input, output_of}
use Rattle.headline_laws.specs.Described.{empty_description, idle_run, source_of}

-- a description of a list, where one stream may be open at a time
abbrev pub list_description : List ℕ
list_description = second (codes "max_open = 1\n" ++ list_with [])

-- what it means
abbrev pub list_plan : PlanMeant
list_plan = record (plan_by_default []) { max_open = 1; list = Some (list_of (codes "l") []) }

-- run, over that description, where no write failed: what was done, and what was printed
abbrev pub list_call : RunRecord → List ℕ → Call
list_call c text = record {
  words = codes "run" ∷ [];
  source_old = source_of list_description 0;
  source_new = no_input;
  depot_old = c.depot_old;
  depot_new = c.depot_new;
  out_old = output_of [] 0;
  out_new = output_of text 0;
  err_old = output_of [] 0;
  err_new = output_of [] 0;
  status = status.Good;
  ends = c.ends;
  events = c.events;
}

-- the list has two lines, each of which was given a stream
abbrev pub two_lines_listed : Call
two_lines_listed = list_call two_listed two_listed_text

-- With one thing wrong.

abbrev pub line_before_text : List ℕ
line_before_text =
    codes "0 2\nx\n\n1 2\nx\n\nend outer done\nend 0 done\nend 1 done\nledger 15\nouter open 1 0\nouter acquire 0 1\nouter lease 0 1\nouter lease 1 1\n0 acquire 1 0\n0 close 0 succeeded\n0 final 1 succeeded ok\n0 cancel 0 succeeded\nouter close 1 succeeded\nouter close 0 succeeded\n1 acquire 2 0\n1 close 0 succeeded\n1 final 2 succeeded ok\n1 cancel 1 succeeded\n1 final 0 succeeded ok\n"

-- the second stream reads the file of the line before its own
abbrev pub line_before_read : Call
line_before_read = list_call line_before line_before_text

abbrev pub line_forgotten_text : List ℕ
line_forgotten_text =
    codes "0 2\nx\n\nend outer done\nend 0 done\nledger 10\nouter open 1 0\nouter acquire 0 1\nouter lease 0 1\nouter close 1 succeeded\nouter close 0 succeeded\n0 acquire 1 0\n0 close 0 succeeded\n0 final 1 succeeded ok\n0 cancel 0 succeeded\n0 final 0 succeeded ok\n"

-- the list is done, and its last line was given no stream
abbrev pub line_forgotten : Call
line_forgotten = list_call line_left line_forgotten_text

-- A stream that looks up the table of another group.

abbrev pub other_group : List ℕ
other_group = second (group_with (codes "u") (codes "b") [] ++ group_with (codes "v") (codes "c") (codes "'csv', 'lookup u 0'"))

abbrev pub other_group_refusal : Refusal
other_group_refusal = record { kind = refusal.UnknownTable; stream = Some 1; step = Some 1 }

-- it is refused
abbrev pub other_group_refused : Call
other_group_refused = idle_run other_group no_input (status.Refused other_group_refusal) (codes "flume: description refused 7 stream 1 step 1\n")

-- it isn't
abbrev pub other_group_run : Call
other_group_run = record empty_description { source_old = source_of other_group 0 }
