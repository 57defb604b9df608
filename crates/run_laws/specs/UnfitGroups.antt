-- Runs of groups that no user would accept.
use Rattle.std.specs.Prelude.{ℕ, true, List, [], ◌∷◌, ◌++◌, codes, Some}
use Rattle.chunk_core.specs.declared.code.Code.TheVariants as code
use Rattle.chunk_core.specs.declared.code.Exit.TheVariants.{Succeeded, Errored, Canceled}
use Rattle.chunk_core.specs.declared.code.How.TheVariants as how
use Rattle.res_ledger.specs.declared.event.StreamNo.{StreamNo}
use Rattle.res_ledger.specs.declared.event.StreamNo.TheVariants.{Outer, Inner}
use Rattle.res_ledger.specs.declared.event.What.{What}
use Rattle.res_ledger.specs.declared.event.What.TheVariants.{Open, Acquire, Lease, Cancel, Close, Final}
use Rattle.run_rules.specs.Run.{Performs}
use Rattle.run_rules.specs.Work.{RunRecord, Work}
use Rattle.run_laws.specs.Groups.{b_csv, both_look, group_work, grouped, grouped_opener, looks, looks_up, pair_run, pair_work, part, two_lookups}
use Rattle.run_laws.specs.Others.{u_csv}
use Rattle.run_laws.specs.Refused.{with_events}
use Rattle.run_laws.specs.Streams.{file_stream}
use Rattle.run_laws.specs.Tables.{a_csv, t_csv, table_bytes}
use Rattle.run_laws.specs.Written.{ends_of, missing_device, read_device, run_of}

-- One table and one stream.

-- the stream is leased for on the root
abbrev pub leased_on_the_root : RunRecord
leased_on_the_root = with_events grouped ((Outer, Open 1 0) ∷ (Outer, Acquire 0 1) ∷ (Outer, Lease 0 0) ∷ (Outer, Close 1 Succeeded) ∷ (Outer, Close 0 Succeeded) ∷ looks_up)

-- the table is acquired in the root
abbrev pub acquired_in_the_root : RunRecord
acquired_in_the_root = with_events grouped ((Outer, Open 1 0) ∷ (Outer, Acquire 0 0) ∷ (Outer, Lease 0 1) ∷ (Outer, Close 1 Succeeded) ∷ (Outer, Close 0 Succeeded) ∷ looks_up)

-- the child is left to the Close of the root
abbrev pub left_to_the_root : RunRecord
left_to_the_root = with_events grouped ((Outer, Open 1 0) ∷ (Outer, Acquire 0 1) ∷ (Outer, Lease 0 1) ∷ (Outer, Close 0 Succeeded) ∷ looks_up)

-- the child is closed as if it had failed
abbrev pub closed_otherwise : RunRecord
closed_otherwise = with_events grouped ((Outer, Open 1 0) ∷ (Outer, Acquire 0 1) ∷ (Outer, Lease 0 1) ∷ (Outer, Close 1 Errored) ∷ (Outer, Close 0 Succeeded) ∷ looks_up)

-- Two streams.

-- the child is closed before the second stream is leased for
abbrev pub closed_too_early : RunRecord
closed_too_early = pair_run
    ((Outer, Acquire 0 0) ∷ (Outer, Open 1 0) ∷ (Outer, Acquire 1 1) ∷ (Outer, Lease 0 1) ∷ (Outer, Close 1 Succeeded) ∷ (Outer, Lease 1 0) ∷ (Outer, Close 0 Succeeded) ∷ (looks 0 ++ ((Inner 0, Final 1 Succeeded true) ∷ (looks 1 ++ (Inner 1, Final 0 Succeeded true) ∷ []))))

-- two groups, each with a table and a stream
abbrev pub apart_work : Work
apart_work = two_lookups (part 1 1 ∷ part 1 1 ∷ [])

-- each stream ends the row of its own table
abbrev pub each_looks : List (StreamNo × What)
each_looks = looks 0 ++ ((Inner 0, Final 0 Succeeded true) ∷ (looks 1 ++ (Inner 1, Final 1 Succeeded true) ∷ []))

-- the first stream is leased for once the second group's child is open
abbrev pub leased_behind_another : RunRecord
leased_behind_another = pair_run
    ((Outer, Open 1 0) ∷ (Outer, Acquire 0 1) ∷ (Outer, Open 2 0) ∷ (Outer, Lease 0 1) ∷ (Outer, Close 1 Succeeded) ∷ (Outer, Acquire 1 2) ∷ (Outer, Lease 1 2) ∷ (Outer, Close 2 Succeeded) ∷ (Outer, Close 0 Succeeded) ∷ each_looks)

-- the second group's child lies below the first one's, so that its lease covers both tables
abbrev pub covers_another_group : RunRecord
covers_another_group = pair_run
    ((Outer, Open 1 0) ∷ (Outer, Acquire 0 1) ∷ (Outer, Lease 0 1) ∷ (Outer, Open 2 1) ∷ (Outer, Acquire 1 2) ∷ (Outer, Lease 1 2) ∷ (Outer, Close 2 Succeeded) ∷ (Outer, Close 1 Succeeded) ∷ (Outer, Close 0 Succeeded) ∷ both_look)

-- the second group's table is tried, and isn't there, before the first group's stream was leased for
abbrev pub tried_before_its_turn : RunRecord
tried_before_its_turn = run_of ((t_csv, table_bytes) ∷ []) ((t_csv, table_bytes) ∷ []) (read_device 0 t_csv table_bytes Errored ∷ missing_device 1 u_csv ∷ []) (ends_of (how.Fault code.Open) (how.Halted ∷ how.Halted ∷ []))
    ((Outer, Open 1 0) ∷ (Outer, Acquire 0 1) ∷ (Outer, Close 0 Errored) ∷ (Outer, Final 0 Errored true) ∷ []) []

-- two streams of the top, and a group with two tables and a stream
abbrev pub c_csv : List ℕ
c_csv = codes "c.csv"

abbrev pub halves_work : Work
halves_work = record pair_work { opener = Some (grouped_opener (t_csv ∷ u_csv ∷ []) (part 2 1 ∷ [])); streams = file_stream a_csv ∷ file_stream b_csv ∷ file_stream c_csv ∷ [] }

-- the first stream's file isn't there, and the outer stream was halted for it between the two tables of the group
abbrev pub halted_by_halves : RunRecord
halted_by_halves = run_of ((t_csv, table_bytes) ∷ []) ((t_csv, table_bytes) ∷ []) (read_device 0 t_csv table_bytes Canceled ∷ missing_device 1 a_csv ∷ []) (ends_of how.Halted (how.Fault code.Open ∷ how.Halted ∷ how.Halted ∷ []))
    ((Outer, Lease 0 0) ∷ (Outer, Lease 1 0) ∷ (Outer, Open 1 0) ∷ (Outer, Acquire 0 1) ∷ (Inner 0, Close 0 Errored) ∷ (Inner 0, Cancel 0 Errored) ∷ (Outer, Close 0 Canceled) ∷ (Outer, Final 0 Canceled true) ∷ (Outer, Cancel 1 Canceled) ∷ []) []

-- none of these did its work
pub record AreUnfitGroups : Type 0 where
  pub on_the_root : ¬ (Performs group_work leased_on_the_root)
  pub in_the_root : ¬ (Performs group_work acquired_in_the_root)
  pub to_the_root : ¬ (Performs group_work left_to_the_root)
  pub otherwise : ¬ (Performs group_work closed_otherwise)
  pub too_early : ¬ (Performs pair_work closed_too_early)
  pub behind_another : ¬ (Performs apart_work leased_behind_another)
  pub covers_another : ¬ (Performs apart_work covers_another_group)
  pub before_its_turn : ¬ (Performs apart_work tried_before_its_turn)
  pub by_halves : ¬ (Performs halves_work halted_by_halves)
