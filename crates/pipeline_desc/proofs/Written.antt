-- The paths that are written, among all paths.
use Rattle.std.proofs.Common.{◌≡◌, ℕ, ◌+◌, ◌*◌, ◌<◌, ◌≤◌, Bool, true, cond, List, [], ◌∷◌, ◌++◌, count_by, drop, get_or, length, nat_lt, Option, Some, None, refl, ap, ◌∙◌, sym, subst, ⊎_elim, add-one, arith}
use Rattle.std.specs.Prelude.{slice_get}
use Rattle.std.specs.List.{flat_map, sum_by}
use Rattle.std.specs.Str.{bytes_eq}
use Rattle.std.proofs.Math.Seq.{drop-cons}
use Rattle.std.proofs.lemmas.Bool.{cases_Bool, ltb-false, ltb-true}
use Rattle.std.proofs.lemmas.Option.{slice_get_read}
use Rattle.std.proofs.lemmas.List.Sums.{count_by-le-length, sum_by-append, sum_by-cons}
use Rattle.device_port.specs.Device.{Place, to_read}
use Rattle.pipeline_desc.specs.Outputs.{alone_from, is_alone}
use Rattle.pipeline_desc.specs.Places.{all_places, list_places, stream_places, table_places}
use Rattle.pipeline_desc.specs.Reading.{Reading}
use Rattle.pipeline_desc.specs.declared.listing.ListSpec.{ListSpec}
use Rattle.pipeline_desc.specs.declared.stream.StreamSpec.{StreamSpec}
use Rattle.pipeline_desc.specs.declared.table.TableSpec.{TableSpec}
use Rattle.pipeline_desc.proofs.NodeLaws.{row_count_le}

module _ (test : Place → Bool) where
  count_append : (xs ys : List Place) → count_by test (xs ++ ys) ≡ count_by test xs + count_by test ys
  count_append xs ys = sum_by-append (λ x. cond (test x) 1 0) xs ys

  -- the places of all streams that pass are those of each
  count_in_streams : (streams : List StreamSpec) → count_by test (flat_map stream_places streams) ≡ sum_by (λ s. count_by test (stream_places s)) streams
  count_in_streams [] = refl
  count_in_streams (s ∷ streams) =
      omega (arith, count_append (stream_places s) (flat_map stream_places streams), count_in_streams streams, sum_by-cons (λ (s : StreamSpec). count_by test (stream_places s)) s streams)

-- the tables of a path are the tables' places of this path
count_in_tables : (path : List ℕ) (tables : List TableSpec) → count_by (λ p. bytes_eq path p.path) (table_places tables) ≡ count_by (λ t. bytes_eq path t.path) tables
count_in_tables path [] = refl
count_in_tables path (t ∷ tables) =
    omega (arith, count_in_tables path tables, sum_by-cons (λ (u : TableSpec). cond (bytes_eq path u.path) 1 0) t tables, sum_by-cons (λ (p : Place). cond (bytes_eq path p.path) 1 0) (to_read t.path) (table_places tables))

-- the places of a path are those of the tables, that of the list, and those of the streams
pub count_in_all : (path : List ℕ) (tables : List TableSpec) (list : Option ListSpec) (streams : List StreamSpec)
    → count_by (λ p. bytes_eq path p.path) (all_places tables list streams)
    ≡ count_by (λ t. bytes_eq path t.path) tables + count_by (λ p. bytes_eq path p.path) (list_places list) + sum_by (λ s. count_by (λ p. bytes_eq path p.path) (stream_places s)) streams
count_in_all path tables list streams =
    let test = λ (p : Place). bytes_eq path p.path in
    omega (
      arith,
      count_append test (table_places tables) (list_places list ++ flat_map stream_places streams),
      count_append test (list_places list) (flat_map stream_places streams),
      count_in_tables path tables,
      count_in_streams test streams,
    )

-- a list has one place
pub list_places_le : (list : Option ListSpec) → length (list_places list) ≤ 1
list_places_le None = omega arith
list_places_le (Some l) = omega arith

-- at most three for each stream
pub count_in_streams_le : (test : Place → Bool) (streams : List StreamSpec) → sum_by (λ s. count_by test (stream_places s)) streams ≤ 3 * length streams
count_in_streams_le test [] = omega arith
count_in_streams_le test (s ∷ streams) =
    omega (arith, sum_by-cons (λ (s : StreamSpec). count_by test (stream_places s)) s streams, count_by-le-length test (stream_places s), row_count_le s, count_in_streams_le test streams)

module _ (places : List Place) (streams : List StreamSpec) (k : ℕ) (s : StreamSpec) (within : k < length streams) (at : s ≡ get_or streams k s) where
  -- the stream at a place stands before those behind it
  from_here : drop k streams ≡ s ∷ drop (k + 1) streams
  from_here = rw (add-one, drop-cons streams k s) (rw (← at) refl)

  -- one stream more writes to no other path
  pub alone_next : (r : Reading (Unit {0})) → r ≡ alone_from places k (drop k streams) → is_alone places s.to ≡ true → r ≡ alone_from places (k + 1) (drop (k + 1) streams)
  alone_next r so_far alone = so_far ∙ (ap (alone_from places k) from_here ∙ rw alone refl)

  -- so does each up to it
  pub alone_up_to : ((i : ℕ) (t : StreamSpec) → i < k → slice_get streams i ≡ Some t → is_alone places t.to ≡ true) → is_alone places s.to ≡ true
      → (i : ℕ) (t : StreamSpec) → i < k + 1 → slice_get streams i ≡ Some t → is_alone places t.to ≡ true
  alone_up_to before alone i t h is = ⊎_elim (λ e. before i t (ltb-true i k e) is) (λ e. here (omega (arith, h, ltb-false i k e))) (cases_Bool (nat_lt i k))
    where
      here : i ≡ k → is_alone places t.to ≡ true
      here e =
          let both : Some s ≡ Some t = sym (slice_get_read streams (length streams) k s refl within at) ∙ (ap (slice_get streams) (sym e) ∙ is) in
          let same : s ≡ t = cc in
          subst (λ (x : StreamSpec). is_alone places x.to ≡ true) same alone
