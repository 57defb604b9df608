-- The streams of a plan ran side by side.
use Rattle.std.proofs.Common.{◌≡◌, ℕ, ◌+◌, true, false, if◌then◌else◌, List, length, Option, Some, None, IfSome, IsSome, refl, sym, ap, subst, arith, length-append}
use Rattle.std.specs.List.{list_any}
use Rattle.std.specs.Prelude.{option_map, slice_get}
use Rattle.std.specs.Str.{is_utf8}
use Rattle.chunk_core.specs.declared.code.Code.{Code}
use Rattle.chunk_core.specs.declared.code.Code.TheVariants as code
use Rattle.csv_pipes.specs.Dictionaries.{has_long_value, is_first_short, records_fault}
use Rattle.pipeline_desc.specs.Meant.{PlanMeant, listed_stream, setting_at}
use Rattle.pipeline_desc.specs.Nodes.{Boxed, IsBody, path_row}
use Rattle.pipeline_desc.specs.Places.{first_row, row_count}
use Rattle.pipeline_desc.specs.Sound.{IsSoundList, IsSoundPlan}
use Rattle.pipeline_desc.specs.declared.listing.ListSpec.{ListSpec}
use Rattle.pipeline_desc.specs.declared.stream.StreamSpec.{StreamSpec}
use Rattle.pipeline_desc.proofs.NodeLaws.{body_has_kind}
use Rattle.pull_nodes.specs.Kinds.{node_kind}
use Rattle.pull_nodes.specs.declared.node.Node.{Node}
use Rattle.pull_nodes.specs.Csv.{is_too_large, is_uneven, records_of}
use Rattle.run_rules.specs.Facts.{at}
use Rattle.run_rules.specs.Opening.{IsTableFault}
use Rattle.run_rules.specs.Run.{Performs}
use Rattle.run_rules.specs.Work.{Opener, RunRecord, Stream, first_row_of, list_places, list_row}
use Rattle.join_tale.specs.Records.{bare}
use Rattle.plan_work.specs.Listed.{IdealListRuns, ListRuns, lister_of}
use Rattle.plan_work.specs.Plans.{IdealPlanRuns, PlanRuns, opener_of, run_work, specs_of, stream_of, streams_of}
use Rattle.joined_runs.specs.Together.{RunsTogether}
use Rattle.joined_runs.proofs.Covered.{AreCovered, CoversList, IsCovered, IsListCovered, RefusesTables}
use Rattle.joined_runs.proofs.ListCovered.{list_covered}
use Rattle.joined_runs.proofs.OuterFaults.{if_there}
use Rattle.joined_runs.proofs.PlanCovered.{plan_covered}
use Rattle.joined_runs.proofs.PlanRows.{at_below, by_sort, plan_row, spec_at, spec_shape}
use Rattle.joined_runs.proofs.StreamRows.{behind_outer, count_is, inside}
use Rattle.joined_runs.proofs.Together.{together_performs}
use denote.RawPtr.{null_ptr}

-- a place where a part may lie
pub box : Boxed
box = record { ptr = null_ptr; alloc = record { memory = record { seal = tt } }; value = tt }

same_code : (a b : Code) → Some a ≡ Some b → a ≡ b
same_code a b e = cc

no_code : (c : Code) → None ≡ Some c → ⊥
no_code c e = cc

is_fault_of_table : (a c : Code) → IsTableFault a → Some a ≡ Some c → IsTableFault c
is_fault_of_table a c h e = subst (λ x. IsTableFault x) (same_code a c e) h

-- what a table holds is refused for what it holds
pub refuses : (p : PlanMeant) (lines : List (List ℕ)) → RefusesTables (opener_of p lines)
refuses p lines bytes c =
    elim (is_too_large bytes) as (λ b. (if b then Some code.TooLarge else (if is_utf8 bytes then records_fault (records_of bytes) else Some code.NotUtf8)) ≡ Some c → IsTableFault c) [
      | true ↦ is_fault_of_table code.TooLarge c tt
      | false ↦ elim (is_utf8 bytes) as (λ b. (if b then records_fault (records_of bytes) else Some code.NotUtf8) ≡ Some c → IsTableFault c) [ true ↦ of_records (records_of bytes) | false ↦ is_fault_of_table code.NotUtf8 c tt ]
    ]
  where
    of_records : (rows : List (List (List ℕ))) → records_fault rows ≡ Some c → IsTableFault c
    of_records rows =
        elim (is_first_short rows) as (λ b. (if b then Some code.NoField else (if is_uneven rows then Some code.Uneven else (if list_any has_long_value rows then Some code.TooLarge else None))) ≡ Some c → IsTableFault c) [
          | true ↦ is_fault_of_table code.NoField c tt
          | false ↦ elim (is_uneven rows) as (λ b. (if b then Some code.Uneven else (if list_any has_long_value rows then Some code.TooLarge else None)) ≡ Some c → IsTableFault c) [
            | true ↦ is_fault_of_table code.Uneven c tt
            | false ↦ elim (list_any has_long_value rows) as (λ b. (if b then Some code.TooLarge else None) ≡ Some c → IsTableFault c) [ true ↦ is_fault_of_table code.TooLarge c tt | false ↦ λ e. absurd (no_code c e) ]
          ]
        ]

module _ (p : PlanMeant) (lines : List (List ℕ)) (limits : IsSoundPlan p) where
  -- the outer stream of the plan, and its streams
  abbrev opener : Opener
  opener = opener_of p lines

  abbrev streams : List Stream
  streams = streams_of p lines

  -- the node of each stream has a kind
  kinds : (k : ℕ) (t : StreamSpec) → slice_get (specs_of p lines) k ≡ Some t → (a : Node) → IsBody (path_row (first_row p k) t) t a → IsSome (node_kind a)
  kinds k t spec a body =
      by_sort p lines k t spec
      (λ is. body_has_kind (path_row (first_row p k) t) k t a (limits.streams k t is).kinds body)
      (λ l line behind is same.
      let sound = if_there (IsSoundList (setting_at p.tables p.groups (length p.streams) (length p.streams)) (length p.streams)) p.list l is limits.list in
      let own : IsBody (path_row (first_row p k) t) (listed_stream l line) a = subst (λ (x : StreamSpec). IsBody (path_row (first_row p k) t) x a) (sym same) body in
      body_has_kind (path_row (first_row p k) t) (length p.streams) (listed_stream l line) a sound.kinds own)

  module _ (c : RunRecord) (r : RunsTogether opener streams (PlanRuns p) ListRuns c) where
    covered_from : (k : ℕ) (s : Stream) → at streams k ≡ Some s → (t : StreamSpec) → slice_get (specs_of p lines) k ≡ Some t → stream_of t ≡ s
        → IsCovered (PlanRuns p) (IdealPlanRuns p) r.values k (first_row p k) (first_row p k + row_count t) r.home
    covered_from k s is t spec same =
        let few = at_below (specs_of p lines) k t spec in
        let row = plan_row p lines k (omega (arith, few)) in
        let low = behind_outer opener streams k s is in
        let high = inside opener streams k s is in
        let rows = ap (λ (x : Stream). length x.places) same in
        let both = length-append opener.tables (list_places opener.list) in
        plan_covered box p k t (spec_shape p lines k t spec) (kinds k t spec) r.values r.home (λ q l m. r.within q (omega (arith, l, row, low, both)) (omega (arith, m, row, high, rows)))

    covered : AreCovered opener streams (PlanRuns p) (IdealPlanRuns p) r.values r.home
    covered k s is =
        let t = spec_at (specs_of p lines) k s is in
        let few = at_below (specs_of p lines) k t.0 t.1 in
        subst (λ (x : Stream). IsCovered (PlanRuns p) (IdealPlanRuns p) r.values k (first_row_of (bare (Some opener) streams) k) (first_row_of (bare (Some opener) streams) k + length x.places) r.home) t.2
        (subst (λ n. IsCovered (PlanRuns p) (IdealPlanRuns p) r.values k n (n + row_count t.0) r.home) (plan_row p lines k (omega (arith, few))) (covered_from k s is t.0 t.1 t.2))

    -- the list's device was read within the limit
    covered_list : CoversList opener ListRuns IdealListRuns r.home
    covered_list = by_list p.list refl
      where
        by_list : (o : Option ListSpec) → p.list ≡ o → IfSome (option_map (lister_of p lines) o) (λ l. IsListCovered ListRuns IdealListRuns (r.home (list_row opener)))
        by_list None is = tt
        by_list (Some l) is =
            let both = length-append opener.tables (list_places opener.list) in
            let all = count_is opener streams in
            let one : length (list_places opener.list) ≡ 1 = ap (λ (o : Option ListSpec). length (list_places (option_map (lister_of p lines) o))) is in
            list_covered (r.home (list_row opener)) (r.within (list_row opener) (omega arith) (omega (arith, both, all, one)))

    -- the work of the plan was done
    pub plan_together : Performs (run_work p lines) c
    plan_together = together_performs opener (refuses p lines) streams (PlanRuns p) (IdealPlanRuns p) ListRuns IdealListRuns c r covered covered_list
