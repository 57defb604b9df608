-- What follows of the marks of a ledger.
use Rattle.std.specs.Prelude.{◌≡◌, ◌≢◌, ◌↔◌, ℕ, Bool, nat_eq, is_some, List, ◌∷◌, ◌++◌, length, count_by, Some, None}
use Rattle.chunk_core.specs.Lists.{IsAmong}
use Rattle.chunk_core.specs.declared.code.Exit.{Exit}
use Rattle.res_ledger.specs.declared.event.Event.{Event}
use Rattle.res_ledger.specs.Ledger.{IsLegal, IsStamped}
use Rattle.res_ledger.specs.Whole.{IsComplete}
use Rattle.chart_marks.specs.declared.marks.Thing.{Thing}
use Rattle.chart_marks.specs.declared.marks.End.{End}
use Rattle.chart_marks.specs.declared.marks.Mark.{Mark}
use Rattle.chart_marks.specs.Marks.{begun_by, end_in, ended_by, marks_of}

-- one of these events ends q
abbrev pub IsEndedIn : List Event → Thing → Type 0
IsEndedIn L q = (e : Event) × IsAmong e L × ((x : Exit) × (ok : Bool) × (ended_by e.what ≡ Some (q, x, ok)))

-- an event that begins something has a mark of its own, and no other mark begins at its place
abbrev pub MarkIsOne : Type 0
MarkIsOne = (L P Q : List Event) (e : Event) (q : Thing) (s : ℕ) → IsStamped L → L ≡ P ++ e ∷ Q → begun_by e.what ≡ Some (q, s)
    → IsAmong (record { by = e.by; thing = q; scope = s; begin = e.stamp; end = end_in q (e ∷ Q) }) (marks_of L) × (count_by (λ m. nat_eq m.begin e.stamp) (marks_of L) ≡ 1)

-- there are as many marks as such events
abbrev pub MarksAreCounted : Type 0
MarksAreCounted = (L : List Event) → length (marks_of L) ≡ count_by (λ e. is_some (begun_by e.what)) L

-- an end is the first event that ends the same
abbrev pub EndIsFirst : Type 0
EndIsFirst = (L : List Event) (q : Thing) (x : End) → (end_in q L ≡ Some x) ↔ ((P Q : List Event) × (e : Event) × (L ≡ P ++ e ∷ Q) × (e.stamp ≡ x.place) × (ended_by e.what ≡ Some (q, x.exit, x.ok)) × ¬ (IsEndedIn P q))

-- there is none exactly where no event ends that
abbrev pub NoEndIsNone : Type 0
NoEndIsNone = (L : List Event) (q : Thing) → (end_in q L ≡ None) ↔ ¬ (IsEndedIn L q)

-- in a ledger that is legal and complete each mark has an end
abbrev pub WholeLedgerEnds : Type 0
WholeLedgerEnds = (L P Q : List Event) (e : Event) (q : Thing) (s : ℕ) → IsLegal L → IsComplete L → L ≡ P ++ e ∷ Q → begun_by e.what ≡ Some (q, s) → end_in q (e ∷ Q) ≢ None
