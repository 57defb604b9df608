-- What contracts see of a mark.
use Rattle.std.specs.Prelude.{◌≡◌, List, [], ◌∷◌}
use Rattle.std.proofs.Common.{◌∙◌}
use Rattle.std.specs.Arc.{arc_value}
use Rattle.res_ledger.specs.declared.event.StreamNo.{StreamNo}
use Rattle.res_ledger.specs.declared.event.StreamNo.TheVariants.{Outer}
use Rattle.row_seat.specs.Views.{OthersFit}
use Rattle.row_seat.specs.declared.front.Sight.{Sight}
use Rattle.row_shared.specs.Handles.{same_table}
use Rattle.row_shared.specs.Places.{marking}
use Rattle.row_shared.specs.Seats.{SharedFits, shown}
use Rattle.row_shared.specs.declared.marks.SharedMark.{SharedMark}
use Rattle.row_shared.specs.declared.seat.SharedSeat.{SharedSeat}
use Rattle.row_shared.specs.declared.seat.TableRef.{TableRef}

-- a mark has one sight
abbrev pub only_sight : List Sight → Sight
only_sight [] = record { by = Outer; count = 0; front = 0 }
only_sight (x ∷ xs) = x

module _ {P : Type 0} where
  -- what it keeps
  abbrev pub sight_in : SharedMark P → Sight
  sight_in m = only_sight m.pass.me.0.sights

  -- it is of the handle's table, and keeps that alone
  pub record MarkFits (m : SharedMark P) (d : TableRef P) : Type 0 where
    pub table : m.pass.table_id ≡ (arc_value d.table).shared.table_id
    pub keeps : m.pass.me ≡ marking (sight_in m)

  pub keeps_mark : (s : SharedSeat P) (m : SharedMark P) (k : StreamNo) (d e : TableRef P) → SharedFits s d → OthersFit shown SharedFits k d e → MarkFits m d → MarkFits m e
  keeps_mark s m k d e fit others h = record { table = h.table ∙ same_table s k d e fit others; keeps = h.keeps }
