-- Plans that are written out, and their works.
use Rattle.std.specs.Prelude.{◌≡◌, ℕ, true, false, List, [], ◌∷◌, map, Some, None, codes}
use Rattle.device_port.specs.Device.{to_read, to_write}
use Rattle.pipeline_desc.specs.Meant.{PlanMeant}
use Rattle.pipeline_desc.specs.declared.stream.StreamSpec.{StreamSpec}
use Rattle.res_ledger.specs.declared.event.StreamNo.TheVariants.{Inner, Outer}
use Rattle.run_rules.specs.Giving.{giving_all}
use Rattle.run_rules.specs.Work.{is_lent, names_of, owners_of, places_by, row_places, scopes_by}
use Rattle.chunk_core.specs.declared.code.Exit.TheVariants.{Succeeded}
use Rattle.res_ledger.specs.declared.event.What.TheVariants.{Acquire, Close, Lease, Open}
use Rattle.plan_work.specs.Listed.{is_bad_line, lines_ended}
use Rattle.plan_work.specs.Plans.{opener_of, run_work}
use Rattle.plan_work.specs.Seen.{visible}

-- a stream that reads a file
abbrev pub reads : List ℕ → StreamSpec
reads path = record { path = path; steps = []; second = None; on_fault = None; to = None; until = None }

abbrev pub empty_plan : PlanMeant
empty_plan = record { max_open = 1; queue = 16; chunk = 4096; take = None; tables = []; streams = []; groups = []; list = None }

-- a table and a stream of the top, and a table and a stream of a group
abbrev pub group_plan : PlanMeant
group_plan = record empty_plan {
  tables = record { name = codes "t"; path = codes "t" } ∷ record { name = codes "u"; path = codes "u" } ∷ [];
  streams = reads (codes "a") ∷ reads (codes "b") ∷ [];
  groups = record { tables = record { from = 1; to = 2 }; streams = record { from = 1; to = 2 } } ∷ [];
}

-- a stream that writes, and a list, two lines of which were given streams
abbrev pub list_plan : PlanMeant
list_plan = record empty_plan { streams = record (reads (codes "d")) { to = Some (codes "o") } ∷ []; list = Some (record { path = codes "l"; steps = []; on_fault = Some []; max = 64 }) }

abbrev pub two_lines : List (List ℕ)
two_lines = codes "a" ∷ codes "b" ∷ []

-- The group's table is acquired and its stream given in a scope of the group's own, it alone sees that table, and the row is lent to it alone. The list's row stands behind the tables', its streams
-- stand behind the described ones and have one row each; an empty line and a path that is written are given none.
pub record AreWorks : Type 0 where
  pub group_rows : row_places (run_work group_plan []) ≡ map to_read (codes "t" ∷ codes "u" ∷ codes "a" ∷ codes "b" ∷ [])
  pub group_owners : owners_of (run_work group_plan []) ≡ Outer ∷ Outer ∷ Inner 0 ∷ Inner 1 ∷ []
  pub group_scopes : scopes_by (run_work group_plan []) Outer ≡ 1
  pub group_gives : giving_all (opener_of group_plan []) 2 ≡ Acquire 0 0 ∷ Lease 0 0 ∷ Open 1 0 ∷ Acquire 1 1 ∷ Lease 1 1 ∷ Close 1 Succeeded ∷ []
  pub top_sees : visible group_plan 0 ≡ 1
  pub group_sees : visible group_plan 1 ≡ 2
  pub lent_first : is_lent (opener_of group_plan []) 2 0 1 ≡ true
  pub lent_own : is_lent (opener_of group_plan []) 2 1 1 ≡ true
  pub not_lent : is_lent (opener_of group_plan []) 2 1 0 ≡ false
  pub list_rows : row_places (run_work list_plan two_lines) ≡ to_read (codes "l") ∷ to_write (codes "o") ∷ to_read (codes "d") ∷ to_read (codes "a") ∷ to_read (codes "b") ∷ []
  pub list_owners : owners_of (run_work list_plan two_lines) ≡ Outer ∷ Inner 0 ∷ Inner 0 ∷ Inner 1 ∷ Inner 2 ∷ []
  pub list_names : names_of (run_work list_plan two_lines) ≡ Outer ∷ Inner 0 ∷ Inner 1 ∷ Inner 2 ∷ []
  pub list_outer : places_by (run_work list_plan two_lines) Outer ≡ to_read (codes "l") ∷ []
  pub list_scopes : scopes_by (run_work list_plan two_lines) (Inner 2) ≡ 1
  pub list_gives : giving_all (opener_of list_plan two_lines) 3 ≡ Lease 0 0 ∷ Open 1 0 ∷ Acquire 0 1 ∷ Lease 1 1 ∷ Lease 2 1 ∷ Close 1 Succeeded ∷ []
  pub good_line : is_bad_line list_plan (codes "a") ≡ false
  pub empty_line : is_bad_line list_plan [] ≡ true
  pub written_line : is_bad_line list_plan (codes "o") ≡ true
  pub ended : lines_ended (codes "a\nb\nc") ≡ 2
