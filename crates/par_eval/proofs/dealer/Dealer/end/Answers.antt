use Rattle.std.proofs.Common.{◌≡◌, ◌<◌, List, length, ap, sym, ◌∙◌, subst}
use Rattle.par_eval.specs.Dealers.{DealerSeen, IsDealerAt, ends_sent}
use Rattle.par_eval.proofs.Dealing.{end_dealer}
use Rattle.par_eval.proofs.SeatLists.{ends_at}
use Rattle.par_eval.proofs.dealer.Dealer.end.Goals as goal

pub invariant_of-self : goal.invariant_of-self
invariant_of-self g c =
    let i = c.self.inside in
    end_dealer i.seats c.send_ends-sent.new.self i.putting i.taking i.out c.unwrap_or-from.result c.send_ends-sent.result.0 i.ended c.self.invariant
    (ap (λ (d : DealerSeen). d.out) c.self.view_is ∙ c.requires.out)
    (subst (λ (d : DealerSeen). ends_sent d.ended < length d.lanes) (sym c.self.view_is) c.requires.missing)
    c.send_ends-sent.ensures.sends

pub returns-clause-at : goal.returns-clause-at
returns-clause-at g c =
    let i = c.self.inside in
    ends_at c.args.lanes.now c.unwrap_or-from.result c.send_ends-sent.result.0 i.seats c.send_ends-sent.new.self c.send_ends-sent.ensures.sends
    (subst (λ (d : DealerSeen). IsDealerAt c.args.lanes.now d.lanes) (sym c.self.view_is) c.requires.at)
