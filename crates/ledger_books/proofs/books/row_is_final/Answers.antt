use Rattle.std.proofs.Common.{◌≡◌, sym, ◌∙◌, subst, refl}
use Rattle.res_ledger.specs.declared.event.StreamNo.TheVariants.{Inner}
use Rattle.res_ledger.specs.declared.event.What.TheVariants.{Acquire}
use Rattle.res_ledger.specs.Ledger.{IsFinalized}
use Rattle.ledger_books.specs.Keyed.{NotesAt}
use Rattle.ledger_books.proofs.Keys.{number_is}
use Rattle.ledger_books.proofs.Following.{same_row}
use Rattle.ledger_books.proofs.books.row_is_final.Goals as goal

pub returns : goal.returns
returns c =
    let P = c.args.past.now in
    let e : c.in-Some.by ≡ Inner c.args.stream = number_is c.in-Some.by (Inner c.args.stream) (sym c.number.ensures ∙ c.if-number.false ∙ c.number-2.ensures) in (
      (λ h r s n. subst (IsFinalized P) (same_row P c.args.place c.in-Some.row r c.in-Some.field-0-2 s c.in-Some.by (Inner c.args.stream) c.in-Some.ensures n) (c.is_final.ensures.0 h)),
      (λ f. c.is_final.ensures.1 (f c.in-Some.row c.in-Some.field-0-2 (subst (λ k. NotesAt P c.args.place k (Acquire c.in-Some.row c.in-Some.field-0-2)) e c.in-Some.ensures))),
    )

pub returns-in_default : goal.returns-in_default
returns-in_default c = ((λ h r s n. absurd (c.in_default.ensures (Inner c.args.stream) r s n)), (λ f. refl))
