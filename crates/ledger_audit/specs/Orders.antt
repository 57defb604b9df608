-- What is kept while the order of a legal ledger is judged.
use Rattle.std.specs.Prelude.{◌≡◌, ℕ, true, false, nat_eq, List, [], ◌∷◌, ◌++◌, length, reverse, Option, Some, unwrap_or}
use Rattle.std.specs.HashMap.{get}
use Rattle.chunk_core.specs.Lists.{has}
use Rattle.res_ledger.specs.declared.event.StreamNo.{StreamNo}
use Rattle.res_ledger.specs.declared.event.What.{What}
use Rattle.res_ledger.specs.declared.event.What.TheVariants.{Cancel, Close}
use Rattle.res_ledger.specs.declared.event.Event.{Event}
use Rattle.res_ledger.specs.Own.{own, teardown}
use Rattle.res_ledger.specs.Order.{covered, covered_by}
use Rattle.ledger_verdict.specs.Pending.{Due, nothing_due, due_after, due_along}
use Rattle.ledger_verdict.specs.Verdict.{IsOrderedSoFar}
use Rattle.ledger_books.specs.Keyed.{number_of}
use Rattle.ledger_audit.specs.declared.marks.Mark.{Mark}
use Rattle.ledger_audit.specs.declared.marks.Mark.TheVariants.{Nothing}
use Rattle.ledger_audit.specs.declared.order.Order.{Order}
use Rattle.ledger_audit.specs.Marks.{Tells}
use Rattle.ledger_audit.specs.Trees.{HasTrees}

-- what is due after w, which k notes behind P, in the ledger L
abbrev pub due_next : List Event → List Event → StreamNo → Due → What → Option Due
due_next L P k d w = due_after (λ r. has r (covered L)) (λ j. reverse (covered_by L j)) (own k P) d w

-- what is due after what k noted in P, a front of L
abbrev pub due_upto : List Event → StreamNo → List Event → Option Due
due_upto L k P = due_along (λ r. has r (covered L)) (λ j. reverse (covered_by L j)) [] nothing_due (own k P)

-- what is due after an event that is no Final, where all before may be left out
abbrev pub begins : List Event → List Event → StreamNo → Due → What → Due
begins L P k d (Cancel j y) = record { exit = y; strict = false; rows = reverse (covered_by L j) }
begins L P k d (Close s y) = record { exit = y; strict = true; rows = teardown (own k P) s }
begins L P k d w = record { exit = d.exit; strict = false; rows = [] }

-- the mark of the stream with this number
abbrev pub mark_of : Order → ℕ → Mark
mark_of o n = unwrap_or (get nat_eq o.marks n) Nothing

-- what is kept after P, a front of L in which each stream is in order so far
pub record IsJudged (o : Order) (L P : List Event) : Type 0 where
  pub trees : HasTrees o.trees P
  pub due : (k : StreamNo) → (d : Due) × (due_upto L k P ≡ Some d) × Tells L o.torn.items (mark_of o (number_of k)) d

-- the events in front of place i are ordered so far, and with the event at it they aren't
abbrev pub IsFirstDisordered : List Event → ℕ → Type 0
IsFirstDisordered L i = (P Q : List Event) × (e : Event) × (L ≡ P ++ e ∷ Q) × (length P ≡ i) × IsOrderedSoFar P × ¬ (IsOrderedSoFar (P ++ e ∷ []))
