use Rattle.std.proofs.Common.{sym, subst}
use Rattle.row_shared.specs.Seats.{SeatFits}
use Rattle.row_shared.proofs.seat.TableRef.share.Goals as goal

pub returns : goal.returns
returns g c = λ s h. subst (λ a. SeatFits s a.shared.table_id a.shared.key) (sym c.in_ok-try_clone.ensures) h
