-- What the tale of a plan goes by, whichever lines of its list were given streams.
use Rattle.std.proofs.Common.{◌≡◌, ℕ, zero, suc, List, [], ◌∷◌, ◌++◌, map, Option, Some, None, refl, ap}
use Rattle.std.proofs.Math.Path.{fun_ext}
use Rattle.std.specs.Prelude.{slice_get}
use Rattle.pipeline_desc.specs.Meant.{PlanMeant, listed_stream}
use Rattle.pipeline_desc.specs.declared.listing.ListSpec.{ListSpec}
use Rattle.pipeline_desc.specs.declared.stream.StreamSpec.{StreamSpec}
use Rattle.run_rules.specs.Facts.{at}
use Rattle.run_rules.specs.Work.{Stream}
use Rattle.join_tale.specs.Bounds.{bounds_of}
use Rattle.plan_work.specs.Listed.{listed_specs}
use Rattle.plan_work.specs.Plans.{opener_of, stream_of, streams_of}

-- the stream whose end stops one of these streams
abbrev until_at : List Stream → ℕ → Option ℕ
until_at ss k = elim (at ss k) [ Some s ↦ s.until | None ↦ None ]

abbrev until_in : List StreamSpec → ℕ → Option ℕ
until_in ss k = elim (slice_get ss k) [ Some s ↦ s.until | None ↦ None ]

-- the end of no other stream stops one of the list
listed_until : (o : Option ListSpec) (lines : List (List ℕ)) (k : ℕ) → until_at (map stream_of (listed_specs o lines)) k ≡ None
listed_until None lines k = refl
listed_until (Some l) lines k = each lines k
  where
    each : (lines : List (List ℕ)) (k : ℕ) → until_at (map stream_of (map (listed_stream l) lines)) k ≡ None
    each [] k = refl
    each (line ∷ lines) zero = refl
    each (line ∷ lines) (suc k) = each lines k

until_same : (ss : List StreamSpec) (o : Option ListSpec) (lines : List (List ℕ)) (k : ℕ) → until_at (map stream_of (ss ++ listed_specs o lines)) k ≡ until_in ss k
until_same [] o lines k = listed_until o lines k
until_same (s ∷ ss) o lines zero = refl
until_same (s ∷ ss) o lines (suc k) = until_same ss o lines k

-- these are its bounds
pub bounds_are : (p : PlanMeant) (lines : List (List ℕ)) → bounds_of (opener_of p lines) (streams_of p lines) ≡ record { most = p.take; max_open = p.max_open; until = λ k. until_in p.streams k }
bounds_are p lines = ap (λ f. record { most = p.take; max_open = p.max_open; until = f }) (fun_ext (λ k. until_same p.streams p.list lines k))
