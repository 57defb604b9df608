use Rattle.std.proofs.Common.{◌≡◌, ◌++◌, ◌∷◌, [], sym, ap, ◌∙◌, subst, take, arith, get_or, append_assoc, append-nil}
use Rattle.std.proofs.lemmas.Option.{slice_get-get_or}
use Rattle.res_ledger.specs.declared.event.StreamNo.TheVariants.{Outer}
use Rattle.res_ledger.specs.declared.event.What.TheVariants.{Open}
use Rattle.res_ledger.specs.declared.event.Event.{Event}
use Rattle.ledger_audit.specs.Orders.{IsJudged, due_upto}
use Rattle.ledger_audit.proofs.Fronts.{front_length, take_more, take_whole}
use Rattle.ledger_audit.proofs.Judging.{upto_so_far, upto_not}
use Rattle.ledger_audit.proofs.Reaching.{place_split}
use Rattle.ledger_audit.proofs.order.first_disordered.Goals as goal

abbrev nobody : Event
nobody = record { stamp = 0; by = Outer; what = Open 0 0 }

pub loop-i-init : goal.loop-i-init
loop-i-init c = c.new-order.ensures c.args.events.now

pub step-requires-clause-stands : goal.step-requires-clause-stands
step-requires-clause-stands c = slice_get-get_or c.args.events.now c.loop-i.i nobody c.loop-i-test.true

pub loop-i-preserved : goal.loop-i-preserved
loop-i-preserved c =
    let L = c.args.events.now in
    let i = c.loop-i.i in
    subst (IsJudged c.step.new.self L) (sym (take_more L i (get_or L i nobody) (slice_get-get_or L i nobody c.loop-i-test.true))) (c.in_ok-step.ensures.kept c.if-not-branch.false)

pub returns-then-not-branch : goal.returns-then-not-branch
returns-then-not-branch c =
    let L = c.args.events.now in
    let i = c.loop-i.i in
    let e = get_or L i nobody in
    let P = take i L in
    let s = place_split L i e (slice_get-get_or L i nobody c.loop-i-test.true) in
    let l = s.2 in (
      P,
      s.0,
      e,
      s.1,
      front_length L i (omega (arith, l)),
      upto_so_far L P (e ∷ s.0) s.1 c.requires.legal (λ k. let d = c.loop-i.invariant.due k in (d.0, d.1)),
      upto_not L (P ++ e ∷ []) s.0 e.by (s.1 ∙ sym (append_assoc P (e ∷ []) s.0)) c.requires.legal (c.in_ok-step.ensures.broken c.if-not-branch.true),
    )

pub returns : goal.returns
returns c =
    let L = c.args.events.now in
    let l = c.loop-i-test.false in
    let whole : take c.loop-i.i L ≡ L = take_whole L c.loop-i.i (omega (arith, l)) in
    upto_so_far L L [] (sym (append-nil L)) c.requires.legal (λ k. let d = c.loop-i.invariant.due k in (d.0, ap (due_upto L k) (sym whole) ∙ d.1))
