-- The rows of a plan's streams, and their nodes, whichever lines of its list were given streams.
use Rattle.std.proofs.Common.{◌≡◌, ◌⊎◌, ℕ, zero, suc, ◌+◌, ◌-◌, ◌<◌, ◌≤◌, List, [], ◌∷◌, ◌++◌, inl, inr, map, take, length, Option, Some, None, refl, sym, ◌∙◌, ap, subst, ⊎_elim, arith, length-append}
use Rattle.std.proofs.lemmas.List.{length-map}
use Rattle.std.proofs.lemmas.List.Sums.{sum_by-cons}
use Rattle.std.specs.List.{sum_by}
use Rattle.std.specs.Prelude.{option_map, option_to_list, slice_get}
use Rattle.device_port.specs.Device.{to_read}
use Rattle.pipeline_desc.specs.Meant.{PlanMeant, listed_stream}
use Rattle.pipeline_desc.specs.Nodes.{IsNodeOf, IsStreamNode}
use Rattle.pipeline_desc.specs.Places.{first_row, outer_rows, row_count, table_places}
use Rattle.pipeline_desc.specs.declared.listing.ListSpec.{ListSpec}
use Rattle.pipeline_desc.specs.declared.stream.StreamSpec.{StreamSpec}
use Rattle.pipeline_desc.specs.declared.table.TableSpec.{TableSpec}
use Rattle.pipeline_desc.proofs.NodeLaws.{shape_described, shape_listed}
use Rattle.pull_nodes.specs.declared.node.Node.{Node}
use Rattle.run_rules.specs.Facts.{at}
use Rattle.run_rules.specs.Work.{Stream, first_row_of, list_places, opener_places}
use Rattle.join_tale.specs.Records.{bare}
use Rattle.plan_work.specs.Listed.{listed_specs, lister_of}
use Rattle.plan_work.specs.Plans.{opener_of, specs_of, stream_of, streams_of}
use Rattle.joined_runs.proofs.PlanCovered.{HasShape}

same_some : {A : Type 0} (x y : A) → Some x ≡ Some y → x ≡ y
same_some x y e = cc

-- Streams by their numbers.

-- the stream of a plan by its number
pub spec_at : (ss : List StreamSpec) (k : ℕ) (s : Stream) → at (map stream_of ss) k ≡ Some s → (t : StreamSpec) × (slice_get ss k ≡ Some t) × (stream_of t ≡ s)
spec_at [] k s e = cc
spec_at (t ∷ ss) zero s e = (t, refl, cc)
spec_at (t ∷ ss) (suc k) s e = spec_at ss k s e

pub at_below : (ss : List StreamSpec) (k : ℕ) (s : StreamSpec) → slice_get ss k ≡ Some s → k < length ss
at_below [] k s e = cc
at_below (t ∷ ss) zero s e = omega arith
at_below (t ∷ ss) (suc k) s e = let l = at_below ss k s e in omega (arith, l)

-- it stands in the first list or in the second
first_or_second : (xs ys : List StreamSpec) (k : ℕ) (s : StreamSpec) → slice_get (xs ++ ys) k ≡ Some s → (slice_get xs k ≡ Some s) ⊎ ((length xs ≤ k) × (slice_get ys (k - length xs) ≡ Some s))
first_or_second [] ys k s e = let same : k ≡ k - 0 = omega arith in inr (omega arith, ap (slice_get ys) (sym same) ∙ e)
first_or_second (x ∷ xs) ys zero s e = inl e
first_or_second (x ∷ xs) ys (suc k) s e =
    let same : k - length xs ≡ suc k - suc (length xs) = omega arith in
    ⊎_elim (λ h. inl h) (λ h. let l = h.0 in inr (omega (arith, l), ap (slice_get ys) (sym same) ∙ h.1)) (first_or_second xs ys k s e)

-- a stream of the list is that of one of its lines
pub line_at : (o : Option ListSpec) (lines : List (List ℕ)) (i : ℕ) (s : StreamSpec) → slice_get (listed_specs o lines) i ≡ Some s → (l : ListSpec) × (line : List ℕ) × (o ≡ Some l) × (listed_stream l line ≡ s)
line_at None lines i s e = cc
line_at (Some l) lines i s e = let x = in_map lines i e in (l, x.0, refl, x.1)
  where
    in_map : (lines : List (List ℕ)) (i : ℕ) → slice_get (map (listed_stream l) lines) i ≡ Some s → (line : List ℕ) × (listed_stream l line ≡ s)
    in_map [] i e = cc
    in_map (line ∷ lines) zero e = (line, same_some (listed_stream l line) s e)
    in_map (line ∷ lines) (suc i) e = in_map lines i e

-- Their nodes.

module _ (p : PlanMeant) (k : ℕ) (s : StreamSpec) where
  described_shape : slice_get p.streams k ≡ Some s → HasShape p k s
  described_shape is = record {
    node = λ n of. let x = of [] in subst (λ (t : StreamSpec). IsStreamNode (first_row p k) t n) (same_some x.0 s (sym x.1 ∙ shape_described p [] k s is)) x.2;
    made = λ n h line. (s, shape_described p line k s is, h);
  }

  listed_shape : (l : ListSpec) (own : List ℕ) → length p.streams ≤ k → p.list ≡ Some l → listed_stream l own ≡ s → HasShape p k s
  listed_shape l own behind is same = record { node = node; made = made }
    where
      node : (n : Node) → IsNodeOf p k n → IsStreamNode (first_row p k) s n
      node n of =
          let x = of [] in
          let h : IsStreamNode (first_row p k) (listed_stream l []) n = subst (λ (t : StreamSpec). IsStreamNode (first_row p k) t n) (same_some x.0 (listed_stream l []) (sym x.1 ∙ shape_listed p [] k l behind is)) x.2 in
          let g : IsStreamNode (first_row p k) (listed_stream l own) n = h in
          subst (λ (t : StreamSpec). IsStreamNode (first_row p k) t n) same g

      made : (n : Node) → IsStreamNode (first_row p k) s n → IsNodeOf p k n
      made n h line =
          let g : IsStreamNode (first_row p k) (listed_stream l own) n = subst (λ (t : StreamSpec). IsStreamNode (first_row p k) t n) (sym same) h in
          (listed_stream l line, shape_listed p line k l behind is, g)

-- what holds of a described stream and of one of the list holds of each stream of the plan
pub by_sort : {P : Type 0} (p : PlanMeant) (lines : List (List ℕ)) (k : ℕ) (s : StreamSpec) → slice_get (specs_of p lines) k ≡ Some s → (slice_get p.streams k ≡ Some s → P)
    → ((l : ListSpec) (line : List ℕ) → length p.streams ≤ k → p.list ≡ Some l → listed_stream l line ≡ s → P) → P
by_sort p lines k s is described listed =
    ⊎_elim described (λ h. let x = line_at p.list lines (k - length p.streams) s h.1 in listed x.0 x.1 h.0 x.2 x.3) (first_or_second p.streams (listed_specs p.list lines) k s is)

-- each stream of the plan has the node of its number
pub spec_shape : (p : PlanMeant) (lines : List (List ℕ)) (k : ℕ) (s : StreamSpec) → slice_get (specs_of p lines) k ≡ Some s → HasShape p k s
spec_shape p lines k s is = by_sort p lines k s is (described_shape p k s) (listed_shape p k s)

-- Their rows.

rows_same : (ss : List StreamSpec) (k : ℕ) → sum_by (λ (s : Stream). length s.places) (take k (map stream_of ss)) ≡ sum_by row_count (take k ss)
rows_same ss zero = refl
rows_same [] (suc k) = refl
rows_same (s ∷ ss) (suc k) =
    let a = sum_by-cons (λ (x : Stream). length x.places) (stream_of s) (take k (map stream_of ss)) in
    let b = sum_by-cons row_count s (take k ss) in
    let i = rows_same ss k in
    a ∙ (ap (λ n. row_count s + n) i ∙ sym b)

-- each stream of the list has one row
listed_rows : (o : Option ListSpec) (lines : List (List ℕ)) (k : ℕ) → k ≤ length (listed_specs o lines) → sum_by row_count (take k (listed_specs o lines)) ≡ k
listed_rows None lines k few = let none : 0 ≡ k = omega (arith, few) in subst (λ n. sum_by row_count (take n []) ≡ n) none refl
listed_rows (Some l) lines zero few = refl
listed_rows (Some l) [] (suc k) few = absurd (omega (arith, few))
listed_rows (Some l) (line ∷ lines) (suc k) few =
    let a = sum_by-cons row_count (listed_stream l line) (take k (map (listed_stream l) lines)) in
    let i = listed_rows (Some l) lines k (omega (arith, few)) in
    omega (arith, a, i)

specs_rows : (ss : List StreamSpec) (o : Option ListSpec) (lines : List (List ℕ)) (k : ℕ) → k ≤ length ss + length (listed_specs o lines)
    → sum_by row_count (take k (ss ++ listed_specs o lines)) ≡ sum_by row_count (take k ss) + (k - length ss)
specs_rows [] o lines zero few = refl
specs_rows [] o lines (suc k) few = let i = listed_rows o lines (suc k) (omega (arith, few)) in omega (arith, i)
specs_rows (s ∷ ss) o lines zero few = let none : 0 ≡ 0 + (0 - suc (length ss)) = omega arith in none
specs_rows (s ∷ ss) o lines (suc k) few =
    let a = sum_by-cons row_count s (take k (ss ++ listed_specs o lines)) in
    let b = sum_by-cons row_count s (take k ss) in
    let i = specs_rows ss o lines k (omega (arith, few)) in
    omega (arith, a, b, i)

module _ (p : PlanMeant) (lines : List (List ℕ)) where
  -- the outer stream's rows
  pub outer_count : length (opener_places (opener_of p lines)) ≡ outer_rows p
  outer_count =
      let both = length-append (table_places p.tables) (list_places (option_map (lister_of p lines) p.list)) in
      let tables = length-map p.tables (λ (t : TableSpec). to_read t.path) in
      let list = by_list p.list in
      omega (arith, both, tables, list)
    where
      by_list : (o : Option ListSpec) → length (list_places (option_map (lister_of p lines) o)) ≡ length (option_to_list o)
      by_list None = refl
      by_list (Some l) = refl

  -- the rows of a plan's stream begin where those of its work do
  pub plan_row : (k : ℕ) → k ≤ length (specs_of p lines) → first_row p k ≡ first_row_of (bare (Some (opener_of p lines)) (streams_of p lines)) k
  plan_row k few =
      let all = length-append p.streams (listed_specs p.list lines) in
      let outer = outer_count in
      let i = rows_same (specs_of p lines) k in
      let j = specs_rows p.streams p.list lines k (omega (arith, few, all)) in
      omega (arith, outer, i, j)
