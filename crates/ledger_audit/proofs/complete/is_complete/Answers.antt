use Rattle.std.proofs.Common.{refl, sym, ◌∙◌, subst, ⊎_elim, take, arith, get_or}
use Rattle.std.proofs.lemmas.Bool.{false≢true}
use Rattle.std.proofs.lemmas.Option.{slice_get-get_or}
use Rattle.chunk_core.specs.Lists.{IsAmong}
use Rattle.chunk_core.proofs.Members.{among_snoc}
use Rattle.res_ledger.specs.declared.event.StreamNo.TheVariants.{Outer}
use Rattle.res_ledger.specs.declared.event.What.TheVariants.{Open}
use Rattle.res_ledger.specs.declared.event.Event.{Event}
use Rattle.ledger_books.proofs.Placed.{at_among}
use Rattle.ledger_audit.specs.Complete.{IsAnswered}
use Rattle.ledger_audit.proofs.Completing.{complete_where, each_answered}
use Rattle.ledger_audit.proofs.Fronts.{take_more, take_whole}
use Rattle.ledger_audit.proofs.complete.is_complete.Goals as goal

abbrev nobody : Event
nobody = record { stamp = 0; by = Outer; what = Open 0 0 }

pub returns-then-not-is_answered : goal.returns-then-not-is_answered
returns-then-not-is_answered c =
    let L = c.args.events.now in
    let i = c.loop-event.event-index in (
      (λ h. absurd (false≢true h)),
      (λ f. absurd (false≢true (sym c.if-not-is_answered.true ∙ c.is_answered.ensures.1 (each_answered L c.requires.legal f (get_or L i nobody) (at_among L i (get_or L i nobody) (slice_get-get_or L i nobody c.loop-event-test.true)))))),
    )

pub loop-event-preserved : goal.loop-event-preserved
loop-event-preserved c = λ e m.
    let L = c.args.events.now in
    let i = c.loop-event.event-index in
    ⊎_elim
    (λ n. c.loop-event.invariant e n)
    (λ q. subst (λ x. IsAnswered L x.by x.what) (sym q) (c.is_answered.ensures.0 c.if-not-is_answered.false))
    (among_snoc (take i L) e (get_or L i nobody) (subst (IsAmong e) (take_more L i (get_or L i nobody) (slice_get-get_or L i nobody c.loop-event-test.true)) m))

pub returns : goal.returns
returns c =
    let L = c.args.events.now in
    let l = c.loop-event-test.false in (
      (λ h. complete_where L c.requires.legal (λ e m. c.loop-event.invariant e (subst (IsAmong e) (sym (take_whole L c.loop-event.event-index (omega (arith, l)))) m))),
      (λ f. refl),
    )
