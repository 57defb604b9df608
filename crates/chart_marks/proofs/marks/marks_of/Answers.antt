use Rattle.std.proofs.Common.{◌-◌, ◌≡◌, ◌<◌, ◌∷◌, suc, arith, sym, ap, ◌∙◌, length, drop, get_or, subst}
use Rattle.std.proofs.Math.Seq.{drop-cons}
use Rattle.std.specs.HashMap.{get}
use Rattle.std.specs.Map.{lookup}
use Rattle.std.specs.Prelude.{reverse}
use Rattle.std.proofs.lemmas.List.{drop_all, reverse-reverse}
use Rattle.res_ledger.specs.declared.event.StreamNo.TheVariants.{Outer}
use Rattle.res_ledger.specs.declared.event.What.TheVariants.{Open}
use Rattle.res_ledger.specs.declared.event.Event.{Event}
use Rattle.chart_marks.specs.Marks.{marks_of, same_thing}
use Rattle.chart_marks.proofs.Walked.{IsWalked, walked_more}
use Rattle.chart_marks.proofs.marks.marks_of.Goals as goal

abbrev nobody : Event
nobody = record { stamp = 0; by = Outer; what = Open 0 0 }

pub loop-n-init : goal.loop-n-init
loop-n-init c =
    let L = c.as_slice-events.result.now in
    record {
      within = omega arith;
      walked = subst (λ xs. IsWalked (λ q. get same_thing c.new-ends.result q) c.new-marks.result.items xs) (sym (drop_all (length L) L (omega arith)))
          (record { ends = λ q. ap (λ es. lookup (same_thing q) es) c.new-ends.ensures.empty; found = c.new-marks.ensures.items });
    }

pub loop-n-preserved : goal.loop-n-preserved
loop-n-preserved c =
    let L = c.as_slice-events.result.now in
    let n = c.loop-n.n - 1 in
    let e = get_or L n nobody in
    let m : c.loop-n.n ≡ suc n = omega arith in
    let l : n < length L = let w = c.loop-n.invariant.within in omega arith in
    record {
      within = omega arith;
      walked = subst (λ xs. IsWalked (λ q. get same_thing c.keep_end.new.ends q) c.add_mark.new.marks.items xs) (sym (drop-cons L n nobody l))
          (walked_more (λ q. get same_thing c.loop-n.ends q) (λ q. get same_thing c.keep_end.new.ends q) c.loop-n.marks.items c.add_mark.new.marks.items e (drop (suc n) L)
          (subst (λ k. IsWalked (λ q. get same_thing c.loop-n.ends q) c.loop-n.marks.items (drop k L)) m c.loop-n.invariant.walked)
          c.in_ok-keep_end.ensures c.in_ok-add_mark.ensures);
    }

pub returns : goal.returns
returns c =
    let L = c.as_slice-events.result.now in
    let z : c.loop-n.n ≡ 0 = let h = c.loop-n-test.false in omega arith in
    let w = subst (λ k. IsWalked (λ q. get same_thing c.loop-n.ends q) c.loop-n.marks.items (drop k L)) z c.loop-n.invariant.walked in
    c.reverse.ensures.items ∙ ap (λ m. reverse m) w.found ∙ reverse-reverse (marks_of L) ∙ ap marks_of c.as_slice-events.ensures.items
