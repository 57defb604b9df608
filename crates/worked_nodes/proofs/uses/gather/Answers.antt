use Rattle.std.proofs.Common.{◌∙◌, arith, refl, [], ◌∷◌, sym, subst, flat_map, append-nil}
use Rattle.std.proofs.lemmas.Grind.{flat_map-append}
use Rattle.chunk_core.specs.Elements.{elements}
use Rattle.chunk_core.specs.Outcomes.{Cut}
use Rattle.pull_turns.specs.Led.{CanBeCut, Led, end_by, end_of}
use Rattle.pull_turns.specs.Piping.{standing}
use Rattle.pull_turns.specs.Failures.{IsToldRunOfRest}
use Rattle.pull_turns.specs.Rest.{CanStep}
use Rattle.pull_turns.proofs.Led.{cut_unwritten, led_ends, led_short, led_start, led_then, spends_none, spends_then, tells_same}
use Rattle.pull_stepper.specs.Held.{FinishesDevice}
use Rattle.pull_stepper.specs.Laws.{since_same, since_then}
use Rattle.pull_stepper.specs.Sites.{around, told_at}
use Rattle.pull_stepper.specs.Steppers.{stepping}
use Rattle.worked_nodes.proofs.Driving.{others_then, uncons_at}
use Rattle.worked_nodes.proofs.uses.gather.Goals as goal
use Rattle.worked_nodes.proofs.uses.gather.Goals.{in-Chunk+in_ok-push-in-Chunk, in-Again}

pub loop-ask-init : goal.loop-ask-init
loop-ask-init g c =
    let M = standing g.F.Feed.stands g.F.Feed.comes in let values = g.F.PipeState.values in let told = g.V.Device.told in let a = stepping g.S.RowSeat.view values c.args.stepper.now in let P = M a.tables in
    record {
      quiet = omega arith;
      fits = c.requires.fits;
      can = c.requires.can;
      tables = refl;
      led = subst (λ ls. Led P (told_at told a.site) (told_at told a.site) a.rest a.rest (flat_map elements ls)) (sym c.requires.empty) (led_start P (told_at told a.site) a.rest);
      spends = spends_none _ a.rest;
      since = since_same told (FinishesDevice told) a.site;
      others = λ o n f. f;
    }

pub returns-in_err-load-clause-gathers : goal.returns-in_err-load-clause-gathers
returns-in_err-load-clause-gathers g c =
    let M = standing g.F.Feed.stands g.F.Feed.comes in let values = g.F.PipeState.values in let told = g.V.Device.told in let view = g.S.RowSeat.view in
    let a = stepping view values c.args.stepper.now in let P = M a.tables in let b = stepping view values c.loop-ask.stepper in let z = stepping view values c.uncons.new.self in
    let xs = flat_map elements c.loop-ask.out.items in let k = c.in_err-load.ensures.wants in
    λ w o. subst (λ h. IsToldRunOfRest P w a.rest xs (end_by h)) (sym k.how)
    (led_ends P (told_at told a.site) (told_at told b.site) (told_at told z.site) a.rest b.rest xs Cut c.loop-ask.invariant.led k.tells (subst (λ t. CanBeCut (M t) (told_at told z.site) b.rest) c.loop-ask.invariant.tables k.cut) w o)

pub returns-in_err-load-clause-since : goal.returns-in_err-load-clause-since
returns-in_err-load-clause-since g c = let told = g.V.Device.told in since_then told (FinishesDevice told) _ _ _ c.loop-ask.invariant.since c.in_err-load.ensures.since

pub returns-in_err-push-in-Chunk-clause-gathers : goal.returns-in_err-push-in-Chunk-clause-gathers
returns-in_err-push-in-Chunk-clause-gathers g c =
    let M = standing g.F.Feed.stands g.F.Feed.comes in let values = g.F.PipeState.values in let told = g.V.Device.told in let view = g.S.RowSeat.view in
    let a = stepping view values c.args.stepper.now in let P = M a.tables in let b = stepping view values c.loop-ask.stepper in let z = stepping view values c.uncons.new.self in
    let xs = flat_map elements c.loop-ask.out.items in let k = uncons_at M told a b z _ _ c.loop-ask.invariant.tables (rw c.in-Chunk.is at c.in_ok-load.ensures.first) in
    λ w o. subst (λ ls. IsToldRunOfRest P w a.rest (flat_map elements ls) (end_by z.how)) (sym c.in_err-push-in-Chunk.ensures.items)
    (subst (λ h. IsToldRunOfRest P w a.rest xs (end_by h)) (sym k.1)
    (led_ends P (told_at told a.site) (told_at told b.site) (told_at told z.site) a.rest b.rest xs Cut c.loop-ask.invariant.led k.3.tells (led_short P (around told b.site) (around told z.site) 0 b.rest z.rest (elements c.in-Chunk.load) k.2 k.3) w o))

pub returns-in_err-push-in-Chunk-clause-since : goal.returns-in_err-push-in-Chunk-clause-since
returns-in_err-push-in-Chunk-clause-since g c = let told = g.V.Device.told in since_then told (FinishesDevice told) _ _ _ c.loop-ask.invariant.since c.in_ok-load.ensures.since

pub returns-in-End-clause-gathers : goal.returns-in-End-clause-gathers
returns-in-End-clause-gathers g c =
    let M = standing g.F.Feed.stands g.F.Feed.comes in let values = g.F.PipeState.values in let told = g.V.Device.told in let view = g.S.RowSeat.view in
    let a = stepping view values c.args.stepper.now in let P = M a.tables in let b = stepping view values c.loop-ask.stepper in let z = stepping view values c.uncons.new.self in
    let xs = flat_map elements c.loop-ask.out.items in let k = uncons_at M told a b z _ _ c.loop-ask.invariant.tables (rw c.in-End.is at c.in_ok-load.ensures.first) in
    λ w o. subst (λ h. IsToldRunOfRest P w a.rest xs (end_by h)) (sym k.0)
    (led_ends P (told_at told a.site) (told_at told b.site) (told_at told z.site) a.rest b.rest xs (end_of c.in-End.field-0) c.loop-ask.invariant.led k.3 k.4 w o)

pub returns-in-End-clause-since : goal.returns-in-End-clause-since
returns-in-End-clause-since g c = let told = g.V.Device.told in since_then told (FinishesDevice told) _ _ _ c.loop-ask.invariant.since c.in_ok-load.ensures.since

pub loop-ask-preserved : goal.loop-ask-preserved
loop-ask-preserved g c =
    let M = standing g.F.Feed.stands g.F.Feed.comes in let values = g.F.PipeState.values in let told = g.V.Device.told in let view = g.S.RowSeat.view in
    let a = stepping view values c.args.stepper.now in let P = M a.tables in let b = stepping view values c.loop-ask.stepper in let z = stepping view values c.uncons.new.self in
    let i = c.loop-ask.invariant in let xs = flat_map elements c.loop-ask.out.items in
    let others = others_then view g.S.RowSeat.fits _ _ _ _ _ i.since.alone.by i.others c.in_ok-load.ensures.others in
    let since = since_then told (FinishesDevice told) a.site b.site z.site i.since c.in_ok-load.ensures.since in
    let led = led_then P (told_at told a.site) (told_at told b.site) (told_at told z.site) a.rest b.rest z.rest in
    elim c.match-branch-2.branch [
      | in-Chunk+in_ok-push-in-Chunk w ↦
          let k = rw w.in-Chunk.is at c.in_ok-load.ensures.first in let first = uncons_at M told a b z _ _ i.tables k in
          record {
            quiet = rw w.quiet-is (omega (arith, i.quiet));
            fits = c.in_ok-load.ensures.fits;
            can = k.leaves;
            tables = k.tables ∙ i.tables;
            led = rw (w.out-is, w.in_ok-push-in-Chunk.ensures.items, flat_map-append elements c.loop-ask.out.items (w.in-Chunk.load ∷ []), append-nil) (led xs (elements w.in-Chunk.load) i.led first.3);
            spends = spends_then _ _ _ _ _ _ i.spends k.spends;
            since = since;
            others = others;
          }
      | in-Again w ↦
          let k = rw w.in-Again.is at c.in_ok-load.ensures.first in let first = uncons_at M told a b z _ _ i.tables k in
          record {
            quiet = rw w.quiet-is (omega (arith, i.quiet));
            fits = c.in_ok-load.ensures.fits;
            can = k.leaves;
            tables = k.tables ∙ i.tables;
            led = rw w.out-is (subst (λ ys. Led P (told_at told a.site) (told_at told z.site) a.rest z.rest ys) (append-nil xs) (led xs [] i.led first.3));
            spends = spends_then _ _ _ _ _ _ i.spends k.spends;
            since = since;
            others = others;
          }
    ]

pub returns-clause-gathers : goal.returns-clause-gathers
returns-clause-gathers g c =
    let M = standing g.F.Feed.stands g.F.Feed.comes in let values = g.F.PipeState.values in let told = g.V.Device.told in let view = g.S.RowSeat.view in
    let a = stepping view values c.args.stepper.now in let P = M a.tables in let b = stepping view values c.loop-ask.stepper in
    let xs = flat_map elements c.loop-ask.out.items in let i = c.loop-ask.invariant in
    λ w o. subst (λ h. IsToldRunOfRest P w a.rest xs (end_by h)) (sym i.can.how)
    (led_ends P (told_at told a.site) (told_at told b.site) (told_at told b.site) a.rest b.rest xs Cut i.led (tells_same (told_at told b.site) b.rest) (cut_unwritten P (around told b.site) (around told b.site) 0 b.rest (subst (λ t. CanStep (M t) (around told b.site) 0 b.rest) i.tables i.can.step) (λ p. (refl, refl, refl, refl))) w o)
