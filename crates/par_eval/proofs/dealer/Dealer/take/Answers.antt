use Rattle.std.proofs.Common.{◌≡◌, ℕ, ◌%◌, ◌+◌, ◌-◌, ◌<◌, List, [], ◌∷◌, length, Option, None, sym, ap, ◌∙◌, subst, arith}
use Rattle.par_eval.specs.Dealers.{DealerSeen, FoundEmptyAt, IsDealer, IsDealerAt, IsTaken, LaneSeen, MayTakeAt, Takes, taken}
use Rattle.par_eval.proofs.Dealing.{take_at, take_nothing, take_one, take_takes, take_taken, taking_is}
use Rattle.par_eval.proofs.dealer.Dealer.take.Goals as goal

pub take-requires-clause-may : goal.take-requires-clause-may
take-requires-clause-may g c =
    let i = c.self.inside in
    subst (λ n. MayTakeAt g.A.May.may i.seats n) (taking_is i.seats i.putting i.taking i.out i.ended c.self.invariant)
    (subst (λ (d : DealerSeen). MayTakeAt g.A.May.may d.lanes (taken d.lanes % length d.lanes)) (sym c.self.view_is) c.requires.may)

pub invariant_of-self : goal.invariant_of-self
invariant_of-self g c =
    let i = c.self.inside in
    take_nothing i.seats c.take.new.self i.putting i.taking i.out i.ended c.self.invariant (subst (λ (d : DealerSeen). 0 < d.out) (sym c.self.view_is) c.requires.out) c.in-None.ensures.none

pub returns-in-None-clause-none : goal.returns-in-None-clause-none
returns-in-None-clause-none g c =
    let i = c.self.inside in
    subst (λ (d : DealerSeen). Takes [] d (record { lanes = c.take.new.self; out = i.out; ended = i.ended })) c.self.view_is
    (take_takes [] i.seats c.take.new.self i.putting i.taking i.out i.out i.ended c.self.invariant c.in-None.ensures.none (omega arith))

pub returns-in-None-clause-empty : goal.returns-in-None-clause-empty
returns-in-None-clause-empty g c =
    let i = c.self.inside in
    subst (λ (d : DealerSeen). FoundEmptyAt g.A.May.may c.take.new.self (taken d.lanes % length d.lanes)) c.self.view_is
    (subst (λ n. FoundEmptyAt g.A.May.may c.take.new.self n) (sym (taking_is i.seats i.putting i.taking i.out i.ended c.self.invariant)) c.in-None.ensures.empty)

pub returns-in-None-clause-at : goal.returns-in-None-clause-at
returns-in-None-clause-at g c =
    let i = c.self.inside in
    take_at [] c.args.lanes.now i.seats c.take.new.self i.taking (subst (λ (d : DealerSeen). IsDealerAt c.args.lanes.now d.lanes) (sym c.self.view_is) c.requires.at) c.in-None.ensures.none

pub invariant_of-self-in-Some : goal.invariant_of-self-in-Some
invariant_of-self-in-Some g c =
    let i = c.self.inside in
    let some : 0 < i.out = subst (λ (d : DealerSeen). 0 < d.out) (sym c.self.view_is) c.requires.out in
    take_one c.in-Some.worked i.seats c.take.new.self i.putting i.taking i.out c.next_hand-self-inside.result (i.out - 1) i.ended c.self.invariant some c.in-Some.ensures.some (λ less. c.next_hand-self-inside.ensures.goes (subst (λ n. i.taking + 1 < n) (sym c.len-jobs.ensures) less)) (λ e. c.next_hand-self-inside.ensures.wraps (e ∙ sym c.len-jobs.ensures)) (omega arith)

pub returns-in-Some-clause-some : goal.returns-in-Some-clause-some
returns-in-Some-clause-some g c =
    let i = c.self.inside in
    let some : 0 < i.out = subst (λ (d : DealerSeen). 0 < d.out) (sym c.self.view_is) c.requires.out in
    subst (λ (d : DealerSeen). Takes (c.in-Some.worked ∷ []) d (record { lanes = c.take.new.self; out = i.out - 1; ended = i.ended })) c.self.view_is
    (take_takes (c.in-Some.worked ∷ []) i.seats c.take.new.self i.putting i.taking i.out (i.out - 1) i.ended c.self.invariant c.in-Some.ensures.some (omega arith))

pub returns-in-Some-clause-taken : goal.returns-in-Some-clause-taken
returns-in-Some-clause-taken g c =
    let i = c.self.inside in
    subst (λ (d : DealerSeen). IsTaken c.take.new.self (taken d.lanes) c.in-Some.worked) c.self.view_is
    (take_taken c.in-Some.worked i.seats c.take.new.self i.putting i.taking i.out i.ended c.self.invariant c.in-Some.ensures.some)

pub returns-in-Some-clause-at : goal.returns-in-Some-clause-at
returns-in-Some-clause-at g c =
    let i = c.self.inside in
    take_at (c.in-Some.worked ∷ []) c.args.lanes.now i.seats c.take.new.self i.taking (subst (λ (d : DealerSeen). IsDealerAt c.args.lanes.now d.lanes) (sym c.self.view_is) c.requires.at) c.in-Some.ensures.some
