use Rattle.std.proofs.Common.{◌↔◌, ◌<◌, ℕ}
use Rattle.res_ledger.specs.declared.event.What.TheVariants.{Open}
use Rattle.res_ledger.specs.Ledger.{IsLegal, LiesWithin}
use Rattle.ledger_books.specs.Keyed.{Indexes, NotesAt}
use Rattle.ledger_books.proofs.scopes.walks_up.Given as goal

abbrev pub invariant-loop-at : goal.invariant-loop-at
invariant-loop-at l = record {
  index : Indexes l.index l.past;
  legal : IsLegal l.past;
  within : LiesWithin l.past l.by l.at l.above ↔ LiesWithin l.past l.by l.scope l.above;
  opened : (i p : ℕ) → NotesAt l.past i l.by (Open l.at p) → i < l.below;
}

abbrev pub decreases-loop-at : goal.decreases-loop-at
decreases-loop-at l = l.below
