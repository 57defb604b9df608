-- What a picture of a ledger shows: definitions over the list of events.
use Rattle.std.specs.Prelude.{ℕ, Bool, true, false, nat_eq, if◌then◌else◌, List, [], ◌∷◌, ◌++◌, Option, Some, None}
use Rattle.chunk_core.specs.declared.code.Exit.{Exit}
use Rattle.res_ledger.specs.declared.event.What.{What}
use Rattle.res_ledger.specs.declared.event.What.TheVariants.{Acquire, Lease, Cancel, Close, Final}
use Rattle.res_ledger.specs.declared.event.Event.{Event}
use Rattle.chart_marks.specs.declared.marks.Thing.{Thing}
use Rattle.chart_marks.specs.declared.marks.Thing.TheVariants as thing
use Rattle.chart_marks.specs.declared.marks.End.{End}
use Rattle.chart_marks.specs.declared.marks.Mark.{Mark}

abbrev pub same_thing : Thing → Thing → Bool
same_thing (thing.Row r) (thing.Row q) = nat_eq r q
same_thing (thing.Lease j) (thing.Lease i) = nat_eq j i
same_thing (thing.Close s) (thing.Close t) = nat_eq s t
same_thing a b = false

-- what an event begins, with the scope: the row that it acquires, the lease that it makes, or its own Close
abbrev pub begun_by : What → Option (Thing × ℕ)
begun_by (Acquire r s) = Some (thing.Row r, s)
begun_by (Lease j s) = Some (thing.Lease j, s)
begun_by (Close s x) = Some (thing.Close s, s)
begun_by w = None

-- what an event ends, with the exit, and whether it did well: the row that it finalizes, the lease that it cancels, or its own Close
abbrev pub ended_by : What → Option (Thing × Exit × Bool)
ended_by (Final r x ok) = Some (thing.Row r, x, ok)
ended_by (Cancel j x) = Some (thing.Lease j, x, true)
ended_by (Close s x) = Some (thing.Close s, x, true)
ended_by w = None

-- the end of q: the event at place n where that ends q, and else what stands behind it
abbrev pub end_or : Thing → ℕ → Option (Thing × Exit × Bool) → Option End → Option End
end_or q n None later = later
end_or q n (Some t) later = if same_thing t.0 q then Some (record { place = n; exit = t.1; ok = t.2 }) else later

-- the first of these events that ends q
abbrev pub end_in : Thing → List Event → Option End
end_in q [] = None
end_in q (e ∷ L) = end_or q e.stamp (ended_by e.what) (end_in q L)

-- the mark of what an event begins, by what ends it
abbrev pub mark_for : Event → Option (Thing × ℕ) → (Thing → Option End) → List Mark
mark_for e None find = []
mark_for e (Some t) find = record { by = e.by; thing = t.0; scope = t.1; begin = e.stamp; end = find t.0 } ∷ []

-- a mark for each event that begins something, to the first event from it on that ends the same
abbrev pub marks_of : List Event → List Mark
marks_of [] = []
marks_of (e ∷ L) = mark_for e (begun_by e.what) (λ q. end_in q (e ∷ L)) ++ marks_of L
