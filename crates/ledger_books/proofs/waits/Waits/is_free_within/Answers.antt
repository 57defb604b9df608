use Rattle.std.proofs.Common.{◌≤◌, ◌<◌, subst, sym, arith}
use Rattle.ledger_books.proofs.waits.Waits.is_free_within.Goals as goal

pub returns : goal.returns
returns c = λ h x heap l u w.
    let e = c.room-room.ensures in
    let a = c.most-most.ensures x heap (subst (λ r. r.from ≤ x) (sym e) l) (subst (λ r. x < r.to) (sym e) u) w in
    omega arith
