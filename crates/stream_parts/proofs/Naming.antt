-- A stream, whichever file one of the list reads.
use Rattle.std.proofs.Common.{◌≡◌, ℕ, ◌<◌, ◌≤◌, Bool, List, [], length, Option, Some, None, refl, sym, ◌∙◌, ap, ⊎_elim, arith, slice_get}
use Rattle.std.specs.Option.{option_or}
use Rattle.std.proofs.lemmas.Option.{slice_get_cases}
use Rattle.device_port.specs.declared.device.Mode.{Mode}
use Rattle.pipeline_desc.specs.Meant.{PlanMeant, listed_at, listed_stream, stream_at, stream_limit}
use Rattle.pipeline_desc.specs.Nodes.{shape_of}
use Rattle.pipeline_desc.specs.Places.{row_count, rows_that, stream_places}
use Rattle.pipeline_desc.specs.declared.listing.ListSpec.{ListSpec}
use Rattle.pipeline_desc.specs.declared.stream.StreamSpec.{StreamSpec}
use Rattle.pipeline_desc.proofs.NodeLaws.{no_list, shape_described, shape_listed}

some_same : {A : Type 0} (x y : A) → Some x ≡ Some y → x ≡ y
some_same x y e = cc

list_there : (p : PlanMeant) → length p.streams < stream_limit p → (l : ListSpec) × (p.list ≡ Some l)
list_there p more = by_list p.list refl
  where
    by_list : (o : Option ListSpec) → p.list ≡ o → (l : ListSpec) × (o ≡ Some l)
    by_list None e = absurd (no_list p e more)
    by_list (Some l) e = (l, refl)

-- each stream that there may be is there, with any line
pub stream_there : (p : PlanMeant) (line : List ℕ) (k : ℕ) → k < stream_limit p → (s : StreamSpec) × (stream_at p line k ≡ Some s)
stream_there p line k within =
    ⊎_elim (λ there. (there.0, shape_described p line k there.0 there.2))
    (λ past. let l = list_there p (let behind = past.0 in omega (arith, behind, within)) in (listed_stream l.0 line, shape_listed p line k l.0 past.0 l.1)) (slice_get_cases p.streams k).1

-- what a stream reads says nothing of how many rows it has, and of what they are for
pub record SameRows (p : PlanMeant) (k : ℕ) (s : StreamSpec) : Type 0 where
  pub spec : StreamSpec
  pub shape : shape_of p k ≡ Some spec
  pub count : row_count spec ≡ row_count s
  pub rows : (test : Mode → Bool) (i : ℕ) → rows_that test i (stream_places spec) ≡ rows_that test i (stream_places s)

module _ (p : PlanMeant) (line : List ℕ) (k : ℕ) (s : StreamSpec) (is : stream_at p line k ≡ Some s) where
  same_described : (t : StreamSpec) → slice_get p.streams k ≡ Some t → t ≡ s
  same_described t there = some_same t s (sym (shape_described p line k t there) ∙ is)

  same_listed : (l : ListSpec) → length p.streams ≤ k → p.list ≡ Some l → listed_stream l line ≡ s
  same_listed l behind there = some_same (listed_stream l line) s (sym (shape_listed p line k l behind there) ∙ is)

  -- a stream is described, or is one of a list
  by_sort : {A : Type 0} → ((t : StreamSpec) → slice_get p.streams k ≡ Some t → A) → ((l : ListSpec) → length p.streams ≤ k → p.list ≡ Some l → A) → A
  by_sort {A = A} f g = ⊎_elim (λ there. f there.0 there.2) (λ past. by_list p.list refl past.0 past.1) (slice_get_cases p.streams k).1
    where
      by_list : (o : Option ListSpec) → p.list ≡ o → length p.streams ≤ k → slice_get p.streams k ≡ None → A
      by_list None e behind none = let z : None ≡ Some s = sym (ap (λ q. option_or q (listed_at p.list line)) none ∙ ap (λ q. listed_at q line) e) ∙ is in absurd cc
      by_list (Some l) e behind none = g l behind e

  pub same_rows : SameRows p k s
  same_rows = by_sort
      (λ t there. record { spec = s; shape = shape_described p [] k s (there ∙ ap (λ (x : StreamSpec). Some x) (same_described t there)); count = refl; rows = λ test i. refl })
      (λ l behind there. record {
        spec = listed_stream l [];
        shape = shape_listed p [] k l behind there;
        count = ap row_count (same_listed l behind there);
        rows = λ test i. ap (λ (x : StreamSpec). rows_that test i (stream_places x)) (same_listed l behind there);
      })
