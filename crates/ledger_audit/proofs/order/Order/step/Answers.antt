use Rattle.std.proofs.Common.{◌≡◌, None, Some, sym, ap, ◌∙◌, subst, take}
use Rattle.std.specs.Prelude.{MatchOption}
use Rattle.ledger_verdict.specs.Pending.{Due}
use Rattle.ledger_audit.specs.Marks.{Tells}
use Rattle.ledger_audit.specs.Orders.{due_next, mark_of}
use Rattle.ledger_audit.proofs.Judging.{upto_next, judged_more}
use Rattle.ledger_audit.proofs.order.Order.step.Goals as goal

pub returns-in_default-clause-broken : goal.returns-in_default-clause-broken
returns-in_default-clause-broken c = λ z.
    let L = c.args.past.now in
    let P = take c.args.place L in
    let k = c.args.event.by in
    let d = c.requires.judged.due k in
    let t : Tells L c.args.self.now.torn.items c.mark-mark.result d.0 = subst (λ m. Tells L c.args.self.now.torn.items m d.0) (sym (c.mark-mark.ensures ∙ ap (mark_of c.args.self.now) c.number-stream.ensures)) d.2 in
    upto_next L P c.args.event d.0 d.1
    ∙ subst (λ o. MatchOption o (due_next L P k d.0 c.args.event.what ≡ None) (λ m. (e : Due) × (due_next L P k d.0 c.args.event.what ≡ Some e) × Tells L c.next.new.torn.items m e)) c.in_default.is (c.in_ok-mark.ensures.tells d.0 t)

pub returns-clause-kept : goal.returns-clause-kept
returns-clause-kept c = λ z.
    let L = c.args.past.now in
    let P = take c.args.place L in
    let k = c.args.event.by in
    let d = c.requires.judged.due k in
    let t : Tells L c.args.self.now.torn.items c.mark-mark.result d.0 = subst (λ m. Tells L c.args.self.now.torn.items m d.0) (sym (c.mark-mark.ensures ∙ ap (mark_of c.args.self.now) c.number-stream.ensures)) d.2 in
    let n = subst (λ o. MatchOption o (due_next L P k d.0 c.args.event.what ≡ None) (λ m. (e : Due) × (due_next L P k d.0 c.args.event.what ≡ Some e) × Tells L c.next.new.torn.items m e)) c.in-Some.is (c.in_ok-mark.ensures.tells d.0 t) in
    let g = c.in_ok-mark.ensures.grows in
    judged_more c.args.self.now (record { trees = c.note.new.self; marks = c.put_mark.new.marks; torn = c.next.new.torn }) L P c.args.event c.in-Some.mark c.number-stream.result g.0 c.number-stream.ensures c.requires.judged (c.in_ok-note.ensures P c.requires.judged.trees) c.in_ok-put_mark.ensures g.1 n.0 (upto_next L P c.args.event d.0 d.1 ∙ n.1) n.2
