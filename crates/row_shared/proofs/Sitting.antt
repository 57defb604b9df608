-- A seat still fits its table after a call.
use Rattle.std.proofs.Common.{◌≡◌, ◌+◌, ◌≤◌, true, false, length, sym, ap, ◌∙◌, subst}
use Rattle.std.specs.Prelude.{vec_capacity, vec_len}
use Rattle.std.specs.Arc.{arc_value}
use Rattle.row_seat.specs.declared.token.Token.{Token}
use Rattle.std.specs.Map.{keys_of}
use Rattle.row_seat.specs.Rule.{IsInside}
use Rattle.row_shared.specs.declared.seat.SharedSeat.{SharedSeat}
use Rattle.row_shared.specs.declared.seat.TableRef.{TableRef}
use Rattle.row_shared.specs.Places.{IsOfTable, KnowsItself, Seated, idle}
use Rattle.row_shared.specs.Seats.{SharedFits}

-- the seat s' knows w
module _ {P : Type 0} {s' : SharedSeat P} (d : TableRef P) (w : Token P) where
  pub fits_put : IsOfTable s'.pass.table_id (arc_value d.table).shared.table_id (arc_value d.table).shared.key → s'.pass.me ≡ idle w → w.live ≡ true → s'.by ≡ w.by → (w.main ≡ true → w.by ≡ (arc_value d.table).shared.key.by)
      → IsInside (arc_value d.table).shared.table_id.slots w → KnowsItself w → keys_of s'.hands.items ≡ w.opened → s'.events.items ≡ w.events
      → (w.main ≡ true → (arc_value d.table).shared.table_id.slots ≤ vec_capacity s'.hands) → (w.main ≡ false → length w.empty + vec_len s'.hands ≤ vec_capacity s'.hands)
      → (w.main ≡ true → (arc_value d.table).shared.key.events ≤ vec_capacity s'.events) → (w.main ≡ false → length w.events + w.spare ≤ vec_capacity s'.events)
      → SharedFits s' d
  fits_put table is live by first inside itself held noted whole hold pages leaves = let e : s'.pass.me.0.token ≡ w = ap (λ (m : Seated P). m.0.token) is in record {
    table = table;
    calm = (is ∙ ap (λ (t : Token P). idle t) (sym e), ap (λ (t : Token P). t.live) e ∙ live);
    by = by ∙ ap (λ (t : Token P). t.by) (sym e);
    first = subst (λ (t : Token P). t.main ≡ true → t.by ≡ (arc_value d.table).shared.key.by) (sym e) first;
    inside = subst (λ (t : Token P). IsInside (arc_value d.table).shared.table_id.slots t) (sym e) inside;
    itself = subst (λ (t : Token P). KnowsItself t) (sym e) itself;
    held = held ∙ ap (λ (t : Token P). t.opened) (sym e);
    noted = noted ∙ ap (λ (t : Token P). t.events) (sym e);
    whole = subst (λ (t : Token P). t.main ≡ true → (arc_value d.table).shared.table_id.slots ≤ vec_capacity s'.hands) (sym e) whole;
    hold = subst (λ (t : Token P). t.main ≡ false → length t.empty + vec_len s'.hands ≤ vec_capacity s'.hands) (sym e) hold;
    pages = subst (λ (t : Token P). t.main ≡ true → (arc_value d.table).shared.key.events ≤ vec_capacity s'.events) (sym e) pages;
    leaves = subst (λ (t : Token P). t.main ≡ false → length t.events + t.spare ≤ vec_capacity s'.events) (sym e) leaves;
  }
