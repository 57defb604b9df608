use Rattle.std.proofs.Common.{◌≡◌, ℕ, ◌%◌, ◌+◌, ◌<◌, List, length, Option, None, sym, ap, ◌∙◌, subst}
use Rattle.channel_bounded.specs.declared.message.Body.TheVariants.{Load}
use Rattle.par_eval.specs.Dealers.{DealerSeen, FoundFullAt, IsDealer, IsDealerAt, IsDealt, LaneSeen, MayPost, Puts, dealt}
use Rattle.par_eval.proofs.Dealing.{put_at, put_dealer, put_dealt, put_puts, putting_is}
use Rattle.par_eval.proofs.dealer.Dealer.put.Goals as goal

pub post-requires-clause-may : goal.post-requires-clause-may
post-requires-clause-may g c =
    let i = c.self.inside in
    subst (λ n. MayPost g.A.May.may i.seats n (Load c.args.load)) (putting_is i.seats i.putting i.taking i.out i.ended c.self.invariant)
    (subst (λ (d : DealerSeen). MayPost g.A.May.may d.lanes (dealt d.lanes % length d.lanes) (Load c.args.load)) (sym c.self.view_is) c.requires.may)

pub invariant_of-self-in-Ok : goal.invariant_of-self-in-Ok
invariant_of-self-in-Ok g c =
    let i = c.self.inside in
    let none : i.ended ≡ None = ap (λ (d : DealerSeen). d.ended) c.self.view_is ∙ c.requires.open in
    subst (λ (e : Option ℕ). IsDealer c.post.new.self c.next_hand-self-inside.result i.taking (i.out + 1) e) (sym none)
    (put_dealer i.seats c.post.new.self i.putting i.taking i.out c.args.load c.next_hand-self-inside.result (subst (λ (e : Option ℕ). IsDealer i.seats i.putting i.taking i.out e) none c.self.invariant) c.in-Ok.ensures.sent (λ less. c.next_hand-self-inside.ensures.goes (subst (λ n. i.putting + 1 < n) (sym c.len-jobs.ensures) less)) (λ e. c.next_hand-self-inside.ensures.wraps (e ∙ sym c.len-jobs.ensures)))

pub returns-in-Ok-clause-puts : goal.returns-in-Ok-clause-puts
returns-in-Ok-clause-puts g c =
    let i = c.self.inside in
    subst (λ (d : DealerSeen). Puts c.args.load d (record { lanes = c.post.new.self; out = i.out + 1; ended = i.ended })) c.self.view_is
    (put_puts i.seats c.post.new.self i.putting i.taking i.out i.ended c.args.load c.self.invariant c.in-Ok.ensures.sent)

pub returns-in-Ok-clause-dealt : goal.returns-in-Ok-clause-dealt
returns-in-Ok-clause-dealt g c =
    let i = c.self.inside in
    subst (λ (d : DealerSeen). IsDealt c.post.new.self (dealt d.lanes) c.args.load) c.self.view_is
    (put_dealt i.seats c.post.new.self i.putting i.taking i.out i.ended c.args.load c.self.invariant c.in-Ok.ensures.sent)

pub returns-in-Ok-clause-at : goal.returns-in-Ok-clause-at
returns-in-Ok-clause-at g c =
    let i = c.self.inside in
    put_at c.args.lanes.now i.seats c.post.new.self i.putting (Load c.args.load) (subst (λ (d : DealerSeen). IsDealerAt c.args.lanes.now d.lanes) (sym c.self.view_is) c.requires.at) c.in-Ok.ensures.sent

pub returns-in-Err-clause-full : goal.returns-in-Err-clause-full
returns-in-Err-clause-full g c =
    let i = c.self.inside in
    subst (λ (d : DealerSeen). FoundFullAt g.A.May.may d.lanes (dealt d.lanes % length d.lanes)) c.self.view_is
    (subst (λ n. FoundFullAt g.A.May.may i.seats n) (sym (putting_is i.seats i.putting i.taking i.out i.ended c.self.invariant)) c.in-Err.ensures.full)
