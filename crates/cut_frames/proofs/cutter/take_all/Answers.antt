use Rattle.std.proofs.Common.{◌+◌, arith, sym, subst}
use Rattle.cut_frames.specs.Frames.{IsHeld, IsWrong}
use Rattle.cut_frames.proofs.Turns.{Leads, begins, leads_on, rest_is, within_more}
use Rattle.cut_frames.proofs.cutter.take_all.Goals as goal

pub steps-init : goal.steps-init
steps-init c = record {
  few = omega arith;
  leads = subst (λ out. Leads c.args.wanted c.args.place c.args.place c.args.text.now 0 out) (sym c.new-given.ensures.items) (begins c.args.wanted c.args.place c.args.text.now);
}

pub steps-preserved : goal.steps-preserved
steps-preserved c =
    let i = c.steps.invariant in
    let s = c.in-Takes.ensures in
    let is = rest_is c.args.text.now c.steps.taken in
    record {
      few = within_more c.args.text.now _ c.steps.taken c.in-Takes.count is i.few s.1;
      leads = subst (λ out. Leads c.args.wanted c.args.place c.in-Takes.next c.args.text.now (c.steps.taken + c.in-Takes.count) out) (sym c.in_ok-give-in-Takes.ensures)
          (leads_on c.args.wanted c.args.place c.steps.at c.in-Takes.next c.args.text.now c.steps.given.items _ _ c.steps.taken c.in-Takes.count is i.leads s.2);
    }

pub returns-in-Waits : goal.returns-in-Waits
returns-in-Waits c = record {
  few = c.steps.invariant.few;
  onward = c.steps.invariant.leads;
  why = subst (IsHeld c.steps.at) (rest_is c.args.text.now c.steps.taken) c.in-Waits.ensures;
}

pub returns-in-Refuses : goal.returns-in-Refuses
returns-in-Refuses c = record {
  few = c.steps.invariant.few;
  onward = c.steps.invariant.leads;
  why = subst (IsWrong c.steps.at) (rest_is c.args.text.now c.steps.taken) c.in-Refuses.ensures;
}
