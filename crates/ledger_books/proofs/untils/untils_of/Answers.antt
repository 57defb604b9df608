use Rattle.std.proofs.Common.{◌≡◌, ◌<◌, ◌-◌, suc, arith, length, subst, Some, slice_get, get_or}
use Rattle.std.proofs.lemmas.Option.{slice_get-get_or}
use Rattle.res_ledger.specs.declared.event.StreamNo.TheVariants.{Outer}
use Rattle.res_ledger.specs.declared.event.What.TheVariants.{Open}
use Rattle.res_ledger.specs.declared.event.Event.{Event}
use Rattle.ledger_books.specs.Untils.{SetsUntil, WalksBack}
use Rattle.ledger_books.proofs.Untiling.{walks_none, walks_more}
use Rattle.ledger_books.proofs.untils.untils_of.Goals as goal

abbrev nobody : Event
nobody = record { stamp = 0; by = Outer; what = Open 0 0 }

pub loop-n-init : goal.loop-n-init
loop-n-init c = record { within = omega arith; walks = walks_none _ _ _ c.args.events.now _ (omega arith) }

pub loop-n-preserved : goal.loop-n-preserved
loop-n-preserved c =
    let L = c.args.events.now in
    let n = c.loop-n.n - 1 in
    let e = get_or L n nobody in
    let m : c.loop-n.n ≡ suc n = omega arith in
    let l : n < length L = let w = c.loop-n.invariant.within in omega arith in
    let stands : slice_get L n ≡ Some e = slice_get-get_or L n nobody l in
    record {
      within = omega arith;
      walks = walks_more c.loop-n.latest c.add_lease.new.latest c.loop-n.rows c.add_row.new.rows c.args.firsts.now L n e stands
          (subst (WalksBack c.loop-n.latest c.loop-n.rows c.args.firsts.now L) m c.loop-n.invariant.walks)
          (subst (λ u. SetsUntil c.loop-n.rows c.add_row.new.rows u e.what) c.latest_by-until.ensures c.in_ok-add_row.ensures)
          c.in_ok-add_lease.ensures;
    }

pub returns : goal.returns
returns c = λ k m r t a f.
    let z : c.loop-n.n ≡ 0 = let h = c.loop-n-test.false in omega arith in
    (subst (WalksBack c.loop-n.latest c.loop-n.rows c.args.firsts.now c.args.events.now) z c.loop-n.invariant.walks).rows k m r t (omega arith) a f
