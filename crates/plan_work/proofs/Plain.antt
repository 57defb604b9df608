-- The work of a plan without groups and without a list.
use Rattle.std.proofs.Common.{◌≡◌, ℕ, ◌-◌, List, [], ◌∷◌, ◌++◌, append-nil, map, flat_map, length, Option, None, refl, ◌∙◌, ap, arith}
use Rattle.std.proofs.lemmas.List.{length-map}
use Rattle.std.specs.Prelude.{option_map}
use Rattle.std.specs.List.{sum_by}
use Rattle.device_port.specs.Device.{to_read}
use Rattle.pipeline_desc.specs.Meant.{PlanMeant, top_tables}
use Rattle.pipeline_desc.specs.Places.{stream_places, table_places}
use Rattle.pipeline_desc.specs.declared.group.GroupSpec.{GroupSpec}
use Rattle.pipeline_desc.specs.declared.listing.ListSpec.{ListSpec}
use Rattle.pipeline_desc.specs.declared.stream.StreamSpec.{StreamSpec}
use Rattle.pipeline_desc.specs.declared.table.TableSpec.{TableSpec}
use Rattle.run_rules.specs.Work.{Part, Stream, list_parts, list_places}
use Rattle.plan_work.specs.Laws.{HasOnePart}
use Rattle.plan_work.specs.Listed.{listed_specs, lister_of}
use Rattle.plan_work.specs.Plans.{part_of_group, stream_of}
use Rattle.plan_work.specs.Seen.{visible_in}

places_same : (ss : List StreamSpec) → flat_map (λ (s : Stream). s.places) (map stream_of ss) ≡ flat_map stream_places ss
places_same [] = refl
places_same (s ∷ ss) = ap (λ l. stream_places s ++ l) (places_same ss)

module _ (p : PlanMeant) (lines : List (List ℕ)) (no_groups : p.groups ≡ []) (no_list : p.list ≡ None) where
  streams_are : map stream_of (p.streams ++ listed_specs p.list lines) ≡ map stream_of p.streams
  streams_are = ap (λ (o : Option ListSpec). map stream_of (p.streams ++ listed_specs o lines)) no_list ∙ ap (map stream_of) (append-nil p.streams)

  outer_are : table_places p.tables ++ list_places (option_map (lister_of p lines) p.list) ≡ table_places p.tables
  outer_are = ap (λ (o : Option ListSpec). table_places p.tables ++ list_places (option_map (lister_of p lines) o)) no_list ∙ append-nil (table_places p.tables)

  parts_are : map part_of_group p.groups ++ list_parts (option_map (lister_of p lines) p.list) ≡ []
  parts_are =
      ap (λ (gs : List GroupSpec). map part_of_group gs ++ list_parts (option_map (lister_of p lines) p.list)) no_groups
      ∙ ap (λ (o : Option ListSpec). list_parts (option_map (lister_of p lines) o)) no_list

  pub has_one_part : HasOnePart p lines
  has_one_part = record {
    streams = streams_are;
    outer = outer_are;
    rows = ap (λ (ps : List _). ps ++ flat_map (λ (s : Stream). s.places) (map stream_of (p.streams ++ listed_specs p.list lines))) outer_are
        ∙ (ap (λ (ss : List Stream). table_places p.tables ++ flat_map (λ (s : Stream). s.places) ss) streams_are ∙ ap (λ l. table_places p.tables ++ l) (places_same p.streams));
    parts = parts_are;
    top = λ n.
        let tables : length (table_places p.tables) - sum_by (λ (q : Part). q.tables) (map part_of_group p.groups) ≡ length p.tables = (
        let none = ap (λ (gs : List GroupSpec). sum_by (λ (q : Part). q.tables) (map part_of_group gs)) no_groups in
        let count = length-map p.tables (λ (t : TableSpec). to_read t.path) in
        omega (arith, none, count)) in
        let streams : n - sum_by (λ (q : Part). q.streams) (map part_of_group p.groups ++ list_parts (option_map (lister_of p lines) p.list)) ≡ n = (let none = ap (λ (ps : List Part). sum_by (λ (q : Part). q.streams) ps) parts_are in omega (arith, none)) in
        ap (λ m. let x : Part = record { tables = m; streams = n - sum_by (λ (q : Part). q.streams) (map part_of_group p.groups ++ list_parts (option_map (lister_of p lines) p.list)) } in x) tables
        ∙ ap (λ m. let x : Part = record { tables = length p.tables; streams = m } in x) streams;
    sees = λ k. ap (λ (gs : List GroupSpec). visible_in (top_tables (length p.tables) gs) gs k) no_groups;
  }
