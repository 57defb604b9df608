use Rattle.std.proofs.Common.{sym, ◌∙◌, subst, ⊎_elim}
use Rattle.res_ledger.specs.Ledger.{LiesWithin}
use Rattle.res_ledger.specs.Ledger.LiesWithin.{same}
use Rattle.ledger_books.proofs.Jumping.{within_then}
use Rattle.ledger_books.proofs.jumps.Jumps.lead.Goals as goal

pub loop-init : goal.loop-init
loop-init c = (c.requires, same c.args.scope)

pub loop-preserved : goal.loop-preserved
loop-preserved c =
    let P = c.args.past.now in
    let k = c.args.by in
    let t = c.requires k c.loop.at c.in-Some.jump (sym c.find.ensures ∙ c.in-Some.is) in (
      c.requires,
      within_then c.loop.invariant.1 (⊎_elim (λ e. subst (LiesWithin P k c.loop.at) (sym e) t.0) (λ e. subst (LiesWithin P k c.loop.at) (sym e) t.1) c.next-at.ensures),
    )

pub returns-then-at-above : goal.returns-then-at-above
returns-then-at-above c = λ h. subst (LiesWithin c.args.past.now c.args.by c.args.scope) c.if-at-above.true c.loop.invariant.1
