-- What is kept of rows and guests.
use Rattle.std.proofs.Common.{◌≡◌, ℕ, ◌+◌, ◌≤◌, length, option_to_list, Some, inr, ap, ⊎_elim}
use Rattle.join_tree.specs.Steps.{KeepsRows}
use Rattle.list_rows.specs.Reading.{KeepsRowsBut}
use Rattle.outer_stream.specs.Steps.{KeepsOthers}
use Rattle.outer_stream.proofs.Keeping.{others_same, others_then}
use Rattle.pipeline_desc.specs.Meant.{PlanMeant}
use Rattle.pipeline_desc.specs.Places.{outer_rows}
use Rattle.pipeline_desc.specs.declared.listing.ListSpec.{ListSpec}
use Rattle.row_seat.specs.declared.view.View.{View}
use Rattle.scope_tree.specs.Calls.{KeepsScopes, Seen}

-- with a list there is a row more than there are tables
pub rows_more : (p : PlanMeant) (l : ListSpec) → p.list ≡ Some l → outer_rows p ≡ length p.tables + 1
rows_more p l is = ap (λ o. length p.tables + length (option_to_list o)) is

module _ {P : Type 0} where
  -- what is kept of each row is kept of each but one
  pub rows_but : (r : ℕ) (v w : View P) → KeepsRows v w → KeepsRowsBut r v w
  rows_but r v w k = record { noted = k.noted; left = k.left; given = k.given; opened = λ y ne m. k.opened y m }

  pub but_then : (r : ℕ) (u v w : View P) → KeepsRowsBut r u v → KeepsRowsBut r v w → KeepsRowsBut r u w
  but_then r u v w k l = record {
    noted = λ e m. l.noted e (k.noted e m);
    left = λ y m. l.left y (k.left y m);
    given = λ y m. l.given y (k.given y m);
    opened = λ y ne m. ⊎_elim (λ o. l.opened y ne o) (λ i. inr (l.left y i)) (k.opened y ne m);
  }

  pub others_less : (s t : ℕ) (a b : Seen P) → s ≤ t → KeepsOthers s a b → KeepsOthers t a b
  others_less s t a b few k = others_then s t a a b few (others_same t a) k

  pub scopes_then : (a b c : Seen P) → KeepsScopes a b → KeepsScopes b c → KeepsScopes a c
  scopes_then a b c k l = record { usable = λ s u. l.usable s (k.usable s u); closed = λ s u. l.closed s (k.closed s u) }
