use Rattle.std.proofs.Common.{◌≡◌, ℕ, List, length, Option, Some, sym, ap, ◌∙◌, subst}
use Rattle.par_eval.specs.Dealers.{CollectsAt, DealerSeen, IsDealer, IsDealerAt, LaneSeen}
use Rattle.par_eval.proofs.Dealing.{collect_at, collect_dealer, in_order}
use Rattle.par_eval.proofs.dealer.Dealer.collect.Goals as goal

pub invariant_of-self : goal.invariant_of-self
invariant_of-self g c =
    let i = c.self.inside in
    collect_dealer i.seats c.collect.new.self i.putting i.taking i.out i.ended c.args.hand c.self.invariant
    (ap (λ (d : DealerSeen). d.ended) c.self.view_is ∙ c.requires.ended ∙ ap (λ (d : DealerSeen). Some (length d.lanes)) (sym c.self.view_is)) c.collect.ensures

pub returns-clause-in_order : goal.returns-clause-in_order
returns-clause-in_order g c = λ f.
    let i = c.self.inside in
    in_order f c.collect.new.self (collect_dealer i.seats c.collect.new.self i.putting i.taking i.out i.ended c.args.hand c.self.invariant
    (ap (λ (d : DealerSeen). d.ended) c.self.view_is ∙ c.requires.ended ∙ ap (λ (d : DealerSeen). Some (length d.lanes)) (sym c.self.view_is)) c.collect.ensures).settled

pub returns-clause-at : goal.returns-clause-at
returns-clause-at g c =
    let i = c.self.inside in
    collect_at c.args.lanes.now i.seats c.collect.new.self c.args.hand (subst (λ (d : DealerSeen). IsDealerAt c.args.lanes.now d.lanes) (sym c.self.view_is) c.requires.at) c.collect.ensures
