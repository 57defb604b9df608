-- What is made for a stream.
use Rattle.std.proofs.Common.{◌≡◌, ℕ, suc, ◌+◌, ◌-◌, ◌<◌, ◌≤◌, ◌^◌, Bool, true, false, cond, List, [], ◌∷◌, ◌⊎◌, inl, inr, map, length, Option, Some, None, IsSome, refl, sym, ◌∙◌, ap, subst, ⊎_elim, arith}
use Rattle.std.proofs.lemmas.List.{length-append, length-map}
use Rattle.std.proofs.lemmas.List.FromFn.{length-range_with_len}
use Rattle.std.specs.List.{AllByRecursion, range_with_len}
use Rattle.std.specs.Prelude.{option_map, option_to_list}
use Rattle.chunk_core.specs.declared.code.Span.{Span}
use Rattle.chunk_core.specs.Lists.{IsAmong}
use Rattle.chunk_core.proofs.Distinct.{distinct_test}
use Rattle.chunk_core.proofs.Each.{among_each, each_among}
use Rattle.chunk_core.proofs.Members.{among_cons, among_nil}
use Rattle.device_port.specs.declared.device.Mode.{Mode}
use Rattle.device_port.specs.declared.device.Mode.TheVariants as mode
use Rattle.device_port.specs.Device.{Place, DeviceTold, is_read, is_write, to_read, to_write}
use Rattle.device_port.specs.Depot.{DepotTold, fresh}
use Rattle.pipeline_desc.specs.Meant.{PlanMeant, stream_at}
use Rattle.pipeline_desc.specs.Nodes.{rows_for}
use Rattle.pipeline_desc.specs.Places.{first_row, row_count, rows_of, rows_that, rows_within, second_path, stream_places}
use Rattle.pipeline_desc.specs.declared.stream.StreamSpec.{StreamSpec}
use Rattle.pipeline_desc.proofs.NodeLaws.{rows_are as rows_told}
use Rattle.pipeline_desc.proofs.Uses.{each_read, each_written}
use Rattle.pull_nodes.specs.Kinds.{node_kind}
use Rattle.pull_nodes.specs.Placed.{is_placed}
use Rattle.pull_nodes.specs.Shape.{node_count, places_of, reads_of, writes_of}
use Rattle.pull_nodes.specs.declared.node.Node.{Node}
use Rattle.pull_stepper.specs.Placing.{first_of}
use Rattle.pull_stepper.specs.Sites.{IsUnused, slot_of}
use Rattle.pull_stepper.specs.Stepping.{IsFor, IsSupplied}
use Rattle.pull_stepper.proofs.Firsts.{first_is}
use Rattle.pull_stepper.proofs.Slots.{slot_here, slot_past}
use Rattle.stream_parts.specs.Made.{MakesEach, fresh_for, having_made}
use Rattle.stream_parts.proofs.Exchanged.{is_writing}
use Rattle.stream_parts.proofs.Making.{made_unused}
use Rattle.stream_parts.proofs.Naming.{SameRows, same_rows}
use Rattle.res_ledger.proofs.Mapped.{map_among}
use Rattle.res_ledger.proofs.Permuted.{among_range, range_distinct}

is_reading : (m : Mode) → is_read m ≡ true → m ≡ mode.Read
is_reading mode.Read h = refl
is_reading mode.Write h = absurd (let f : false ≡ true = h in cc)

some_one : {A : Type 0} (x y : A) → Some x ≡ Some y → x ≡ y
some_one x y e = cc

some_some : {A : Type 0} (x y : A) → Some (Some x) ≡ Some (Some y) → x ≡ y
some_some x y e = cc

at_most_one : {A : Type 0} (o : Option A) → length (option_to_list o) ≤ 1
at_most_one None = omega arith
at_most_one (Some x) = omega arith

fresh_count : (depot : DepotTold) (ps : List Place) → length (fresh_for depot ps) ≡ length ps
fresh_count depot [] = refl
fresh_count depot (p ∷ ps) = ap suc (fresh_count (having_made depot p) ps)

-- a row is there, where the rows from i on are chosen
chosen_row : (test : Mode → Bool) (r i : ℕ) (p : Place) (ps : List Place) → IsAmong r (rows_that test i (p ∷ ps)) → ((r ≡ i) × (test p.mode ≡ true)) ⊎ IsAmong r (rows_that test (i + 1) ps)
chosen_row test r i p ps m = (elim (test p.mode) as (λ b. test p.mode ≡ b → IsAmong r (cond b (i ∷ rows_that test (i + 1) ps) (rows_that test (i + 1) ps)) → ((r ≡ i) × (test p.mode ≡ true)) ⊎ IsAmong r (rows_that test (i + 1) ps)) [
  | true ↦ λ e k. ⊎_elim (λ s. inl (s, e)) (λ n. inr n) (among_cons k)
  | false ↦ λ e k. inr k
]) refl m

rows_behind : (test : Mode → Bool) (r i : ℕ) (ps : List Place) → IsAmong r (rows_that test i ps) → i ≤ r
rows_behind test r i [] m = absurd (among_nil m)
rows_behind test r i (p ∷ ps) m = ⊎_elim (λ s. let e = s.0 in omega (arith, e)) (λ n. let l = rows_behind test r (i + 1) ps n in omega (arith, l)) (chosen_row test r i p ps m)

module _ {V : Type 0} (told : V → DeviceTold) (test : Mode → Bool) (m : Mode) (means : (x : Mode) → test x ≡ true → x ≡ m) where
  -- the devices that were made for the places from row i on are for what is done there
  each_for : (depot : DepotTold) (i : ℕ) (ps : List Place) (devices : List V) → map told devices ≡ fresh_for depot ps → (r : ℕ) → IsAmong r (rows_that test i ps) → IsFor told i devices m r
  each_for depot i [] devices e r n = absurd (among_nil n)
  each_for depot i (p ∷ ps) [] e r n = absurd cc
  each_for depot i (p ∷ ps) (d ∷ devices) e r n =
      let first : told d ≡ fresh depot p = cc in
      let others : map told devices ≡ fresh_for (having_made depot p) ps = cc in
      let next : suc i ≡ i + 1 = omega arith in
      ⊎_elim
      (λ s x is.
      let same : d ≡ x = some_some d x (sym (slot_here r i (Some d) (map Some devices) (sym s.0)) ∙ is) in
      subst (λ y. (told y).place.mode ≡ m) same (ap (λ (y : DeviceTold). y.place.mode) first ∙ means p.mode s.1))
      (λ k x is.
      let l = rows_behind test r (i + 1) ps k in
      each_for (having_made depot p) (i + 1) ps devices others r k x
      (subst (λ q. slot_of r q (map Some devices) ≡ Some (Some x)) next (sym (slot_past r i (Some d) (map Some devices) (λ s. omega (arith, l, s))) ∙ is)))
      (chosen_row test r i p ps n)

module _ (p : PlanMeant) (line : List ℕ) (k : ℕ) (s : StreamSpec) (is : stream_at p line k ≡ Some s) where
  shape : SameRows p k s
  shape = same_rows p line k s is

  some_rows : 0 < row_count s
  some_rows = let l = length-append (option_to_list (option_map to_write s.to)) (to_read s.path ∷ option_to_list (option_map to_read (second_path s.second))) in omega (arith, l)

  -- they are so many from the first on
  pub rows_are : rows_within (rows_of p k) ≡ range_with_len (first_row p k) (row_count s)
  rows_are = rows_told p k shape.spec shape.shape ∙ ap (λ n. range_with_len (first_row p k) n) shape.count

  -- a stream's rows end where those of the next one begin
  pub row_behind : first_row p (k + 1) ≡ first_row p k + row_count s
  row_behind =
      let l : first_row p (k + 1) - first_row p k ≡ row_count s = sym (length-range_with_len (first_row p k) (first_row p (k + 1) - first_row p k)) ∙ (ap (λ rs. length rs) rows_are ∙ length-range_with_len (first_row p k) (row_count s)) in
      let some = some_rows in
      omega (arith, l, some)

  module _ (n : Node) (places : places_of n ≡ rows_within (rows_of p k)) where
    pub places_count : length (places_of n) ≡ row_count s
    places_count = ap (λ ps. length ps) (places ∙ rows_are) ∙ length-range_with_len (first_row p k) (row_count s)

    pub few_rows : length (places_of n) ≤ 3
    few_rows =
        let to = option_to_list (option_map to_write s.to) in
        let second = option_to_list (option_map to_read (second_path s.second)) in
        let l = length-append to (to_read s.path ∷ second) in
        omega (arith, places_count, l, at_most_one (option_map to_write s.to), at_most_one (option_map to_read (second_path s.second)))

    -- the node's first place is the first row
    pub first_place : first_of (places_of n) ≡ first_row p k
    first_place =
        let ps = range_with_len (first_row p k) (row_count s) in
        let count = length-range_with_len (first_row p k) (row_count s) in
        ap first_of (places ∙ rows_are)
        ∙ first_is ps (first_row p k) (distinct_test ps (range_distinct (first_row p k) (row_count s))) (let l = some_rows in omega (arith, l, count)) (λ q m. let b = among_range (first_row p k) (row_count s) q m in (b.0, omega (arith, b.1, count)))

    module _ {V : Type 0} (told : V → DeviceTold) (old new : DepotTold) (devices : List V) (makes : MakesEach old new (stream_places s) (map told devices)) where
      pub devices_count : length devices ≡ row_count s
      devices_count = sym (length-map devices told) ∙ (ap (λ ds. length ds) makes.devices ∙ fresh_count old (stream_places s))

      -- the node has a device for each of its rows
      pub supplied_so : IsSome (node_kind n) → node_count n < 2 ^ 32 → is_placed (rows_of p k) n ≡ true → rows_for is_read p k ≡ Some (reads_of n) → rows_for is_write p k ≡ Some (writes_of n) → IsSupplied told n devices
      supplied_so kind few placed reading writing = record {
        kind = kind;
        few = few;
        placed = subst (λ (x : Span). is_placed x n ≡ true) (ap (λ a. let x : Span = record { from = a; to = first_row p (k + 1) } in x) (sym first_place) ∙ ap (λ b. let x : Span = record { from = first_of (places_of n); to = b } in x) (row_behind ∙ (ap (λ a. a + row_count s) (sym first_place) ∙ ap (λ c. first_of (places_of n) + c) (sym devices_count)))) placed;
        count = devices_count ∙ sym places_count;
        unused = λ d m. among_each IsUnused (told d) (map told devices) (made_unused old new (stream_places s) (map told devices) makes) (map_among told d devices m);
        reads = each_read (IsFor told (first_of (places_of n)) devices mode.Read) n (rows_that is_read (first_row p k) (stream_places s)) (rows_of_mode is_read (reads_of n) reading) (for_mode is_read mode.Read is_reading);
        writes = each_written (IsFor told (first_of (places_of n)) devices mode.Write) n (rows_that is_write (first_row p k) (stream_places s)) (rows_of_mode is_write (writes_of n) writing) (for_mode is_write mode.Write is_writing);
      }
        where
          rows_of_mode : (test : Mode → Bool) (rs : List ℕ) → rows_for test p k ≡ Some rs → rs ≡ rows_that test (first_row p k) (stream_places s)
          rows_of_mode test rs e = some_one rs (rows_that test (first_row p k) (stream_places shape.spec)) (sym e ∙ ap (option_map (λ (x : StreamSpec). rows_that test (first_row p k) (stream_places x))) shape.shape) ∙ shape.rows test (first_row p k)

          for_mode : (test : Mode → Bool) (m : Mode) → ((x : Mode) → test x ≡ true → x ≡ m) → AllByRecursion (IsFor told (first_of (places_of n)) devices m) (rows_that test (first_row p k) (stream_places s))
          for_mode test m means = subst (λ i. AllByRecursion (IsFor told i devices m) (rows_that test (first_row p k) (stream_places s))) (sym first_place)
              (each_among (IsFor told (first_row p k) devices m) (rows_that test (first_row p k) (stream_places s)) (each_for told test m means old (first_row p k) (stream_places s) devices makes.devices))
