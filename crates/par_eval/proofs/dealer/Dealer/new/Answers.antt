use Rattle.std.proofs.Common.{◌≡◌, List, None, sym, subst}
use Rattle.par_eval.specs.Dealers.{IsDealer, LaneSeen}
use Rattle.par_eval.proofs.Dealing.{new_dealer}
use Rattle.par_eval.proofs.dealer.Dealer.new.Goals as goal

pub invariant_of-dealer : goal.invariant_of-dealer
invariant_of-dealer g c =
    let t = c.in_ok-lanes.field-0 in
    let s = c.in_ok-lanes.seats-is in
    let m = c.new.ensures in
    let e : c.new.result ≡ t.seats.items = cc in
    subst (λ (l : List LaneSeen). IsDealer l 0 0 0 None) (sym e) (new_dealer c.args.jobs t.lanes.items t.seats.items t.hands.items c.in_ok-lanes.ensures c.requires.jobs.0 c.requires.jobs.1)
