-- The seat of a stream comes back to each handle that it fitted.
use Rattle.std.proofs.Common.{◌≡◌, ◌≢◌, ℕ, false}
use Rattle.res_ledger.specs.declared.event.StreamNo.TheVariants.{Inner}
use Rattle.row_shared.specs.declared.seat.SharedSeat.{SharedSeat}
use Rattle.row_shared.specs.declared.seat.TableRef.{TableRef}
use Rattle.row_shared.specs.Seats.{SharedFits, shown}
use Rattle.row_shared.specs.Handles.{fits_other}

pub inner_apart : (j k : ℕ) → j ≢ k → Inner j ≢ Inner k
inner_apart j k ne e = ne (inner_is j k e)
  where
    inner_is : (a b : ℕ) → Inner a ≡ Inner b → a ≡ b
    inner_is a b is = cc

-- m is another seat, which fits the handle d before and d' after what the seat t did that was s
module _ {P : Type 0} (m s t : SharedSeat P) (d d' e : TableRef P) where
  pub comes_home : SharedFits m d → SharedFits m d' → SharedFits s d → SharedFits t d' → (shown t).main ≡ false → SharedFits s e → SharedFits t e
  comes_home a b f h side g = fits_other s t e d g f (fits_other m t d d' a b h side) side
