-- What the tale of a plan goes by.
use Rattle.std.specs.Prelude.{ℕ, List, Option, Some, None, slice_get}
use Rattle.join_tale.specs.Bounds.{Bounds}
use Rattle.pipeline_desc.specs.Meant.{PlanMeant}
use Rattle.pipeline_desc.specs.declared.stream.StreamSpec.{StreamSpec}

-- the stream whose end stops stream k, and none for one of the list
abbrev pub until_of : List StreamSpec → ℕ → Option ℕ
until_of streams k = elim (slice_get streams k) [ Some s ↦ s.until | None ↦ None ]

-- how many frames are printed at most, how many streams are open at once, and which stream stops which, whatever lines a list has
abbrev pub plan_bounds : PlanMeant → Bounds
plan_bounds p = record { most = p.take; max_open = p.max_open; until = until_of p.streams }
