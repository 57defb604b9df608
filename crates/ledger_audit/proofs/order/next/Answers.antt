use Rattle.std.proofs.Common.{◌≡◌, true, None, Some, sym, ◌∙◌, subst, Result, Ok, Err, take}
use Rattle.std.specs.Prelude.{IfOk, MatchOption}
use Rattle.res_ledger.specs.declared.event.What.TheVariants.{Final}
use Rattle.ledger_verdict.specs.Pending.{Due}
use Rattle.ledger_audit.specs.Marks.{Tells}
use Rattle.ledger_audit.specs.Orders.{begins, due_next}
use Rattle.ledger_audit.proofs.Judging.{next_begins}
use Rattle.ledger_audit.proofs.order.next.Goals as goal

if_ok : {T E : Type 0} {A B : T → Type 0} (r : Result T E) → ((x : T) → A x → B x) → IfOk r A → IfOk r B
if_ok (Ok x) f a = f x a
if_ok (Err e) f a = tt

pub returns-in-Final-clause-tells : goal.returns-in-Final-clause-tells
returns-in-Final-clause-tells c =
    let L = c.args.past.now in
    let P = take c.args.place L in
    if_ok c.after_final.result
    (λ o f d t. subst (λ w. MatchOption o (due_next L P c.args.event.by d w ≡ None) (λ m. (e : Due) × (due_next L P c.args.event.by d w ≡ Some e) × Tells L c.args.torn.now.items m e)) (sym c.in-Final.is)
    (subst (λ xs. MatchOption o (due_next L P c.args.event.by d (Final c.in-Final.row c.in-Final.exit c.in-Final.ok) ≡ None) (λ m. (e : Due) × (due_next L P c.args.event.by d (Final c.in-Final.row c.in-Final.exit c.in-Final.ok) ≡ Some e) × Tells L xs m e)) c.deref.ensures.value
    (f d (subst (λ xs. Tells L xs c.args.mark d) (sym c.deref.ensures.value) t))))
    c.after_final.ensures

pub returns : goal.returns
returns c =
    let L = c.args.past.now in
    let P = take c.args.place L in
    record {
      tells = λ d t. (
        begins L P c.args.event.by d c.args.event.what,
        next_begins L P c.args.event.by d c.args.event.what c.in_default.not-Final true (sym (c.in_ok-is_over.ensures d (subst (λ xs. Tells L xs c.args.mark d) (sym c.deref-2.ensures.value) t)) ∙ c.if-not-branch.false),
        c.in_ok-mark.ensures.tells d,
      );
      grows = c.in_ok-mark.ensures.grows;
    }
