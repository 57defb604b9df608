-- The device in the slot is the one that is opened, and the row gets it.
use Rattle.std.proofs.Common.{◌≡◌, ◌+◌, ◌-◌, ◌≤◌, Some, sym, ap, ◌∙◌, arith}
use Rattle.std.specs.Vec.{with_item}
use Rattle.scope_tree.specs.Trees.{seen as tree_seen}
use Rattle.scope_tree.specs.Trace.{owed}
use Rattle.pull_stepper.specs.Held.{FinishesDevice}
use Rattle.pull_stepper.specs.Resources.{site}
use Rattle.pull_stepper.specs.Sites.{slot}
use Rattle.pull_stepper.proofs.Acquiring.{now_acquires, now_order, now_since}
use Rattle.pull_stepper.proofs.Opening.{emptied, from_le, in_slots, not_empty, on_err, refused_order, refused_since, refuses, same_item, slot_same, taken_out, was_there}
use Rattle.pull_stepper.proofs.Standing.{stands}
use Rattle.pull_stepper.proofs.resources.ResourcesOutside.open.Goals as goal

pub overflow_sub-at : goal.overflow_sub-at
overflow_sub-at g c = let w = c.requires.place in from_le (site g.S.RowSeat.view c.args.self.now) c.args.place w.0 w.1

pub index_mut-requires : goal.index_mut-requires
index_mut-requires g c =
    let o = c.args.self.now in let w = c.requires.place in let i = in_slots (site g.S.RowSeat.view o) c.args.place w.0 w.1 in let z = o.slots.ok.0 in omega (i, z, arith)

pub index_mut-requires-2 : goal.index_mut-requires-2
index_mut-requires-2 g c =
    let o = c.args.self.now in let w = c.requires.place in let i = in_slots (site g.S.RowSeat.view o) c.args.place w.0 w.1 in let z = o.slots.ok.0 in omega (i, z, arith)

pub unreachable-requires : goal.unreachable-requires
unreachable-requires g c =
    let w = c.requires.place in not_empty (site g.S.RowSeat.view c.args.self.now) c.args.place w.0 w.1 _ c.index_mut.result.now c.index_mut.ensures.value c.in_default.is

pub unreachable-requires-in_default-take : goal.unreachable-requires-in_default-take
unreachable-requires-in_default-take g c =
    let w = c.requires.place in
    was_there (site g.S.RowSeat.view c.args.self.now) c.args.place w.0 w.1 c.open.new.self _ c.index_mut-2.result.now c.index_mut-2.ensures.value (sym c.take.ensures.value ∙ c.in_default-take.is)

pub open-requires-clause-never : goal.open-requires-clause-never
open-requires-clause-never g c =
    let w = c.requires.place in
    let e : c.in-Some.device ≡ w.0 = same_item (site g.S.RowSeat.view c.args.self.now) c.args.place w.0 w.1 _ c.index_mut.result.now c.in-Some.device c.index_mut.ensures.value c.in-Some.is in
    (ap (λ d. (g.V.Device.told d).opens) e ∙ w.2.opens, ap (λ d. (g.V.Device.told d).is_open) e ∙ w.2.is_open)

pub open-requires-clause-room : goal.open-requires-clause-room
open-requires-clause-room g c =
    let w = c.requires.place in
    let e : c.in-Some.device ≡ w.0 = same_item (site g.S.RowSeat.view c.args.self.now) c.args.place w.0 w.1 _ c.index_mut.result.now c.in-Some.device c.index_mut.ensures.value c.in-Some.is in
    let z = ap (λ d. (g.V.Device.told d).open_faults) e ∙ w.2.open_faults in omega (z, arith)

pub returns-in_err-open-clause-failed : goal.returns-in_err-open-clause-failed
returns-in_err-open-clause-failed g c =
    let w = c.requires.place in let x = site g.S.RowSeat.view c.args.self.now in
    let is : slot x c.args.place ≡ Some (Some c.in-Some.device) = slot_same x c.args.place w.0 w.1 _ c.index_mut.result.now c.in-Some.device c.index_mut.ensures.value c.in-Some.is in
    on_err c.from_residual.result (refuses g.V.Device.told (FinishesDevice g.V.Device.told) x c.args.place c.in-Some.device c.open.new.self is c.requires.fits.order c.in_err-open.ensures.failed)

pub returns-in_err-open-clause-fits : goal.returns-in_err-open-clause-fits
returns-in_err-open-clause-fits g c =
    let o = c.args.self.now in let w = c.requires.place in let x = site g.S.RowSeat.view o in
    let is : slot x c.args.place ≡ Some (Some c.in-Some.device) = slot_same x c.args.place w.0 w.1 _ c.index_mut.result.now c.in-Some.device c.index_mut.ensures.value c.in-Some.is in
    stands g.S.RowSeat.view g.V.Device.told g.S.RowSeat.fits (record o { slots = with_item o.slots (c.args.place - o.from) (Some c.open.new.self) }) c.args.desk.now c.requires.fits.tree
    (refused_order g.V.Device.told (FinishesDevice g.V.Device.told) x c.args.place c.in-Some.device c.open.new.self is c.requires.fits.order c.in_err-open.ensures.failed)

pub returns-in_err-open-clause-since : goal.returns-in_err-open-clause-since
returns-in_err-open-clause-since g c =
    let w = c.requires.place in let x = site g.S.RowSeat.view c.args.self.now in
    let is : slot x c.args.place ≡ Some (Some c.in-Some.device) = slot_same x c.args.place w.0 w.1 _ c.index_mut.result.now c.in-Some.device c.index_mut.ensures.value c.in-Some.is in record {
      since = refused_since g.V.Device.told (FinishesDevice g.V.Device.told) x c.args.place c.in-Some.device c.open.new.self is c.requires.fits.order c.in_err-open.ensures.failed;
      others = λ t n f. f;
    }

pub returns-clause-ok : goal.returns-clause-ok
returns-clause-ok g c =
    let o = c.args.self.now in let w = c.requires.place in let x = site g.S.RowSeat.view o in let p = c.args.place in let told = g.V.Device.told in
    let is : slot x p ≡ Some (Some c.in-Some.device) = slot_same x p w.0 w.1 _ c.index_mut.result.now c.in-Some.device c.index_mut.ensures.value c.in-Some.is in
    let acquired : c.new.result ≡ c.open.new.self = c.new.ensures ∙ taken_out x p w.0 w.1 c.open.new.self _ c.index_mut-2.result.now c.in-Some-take.device c.index_mut-2.ensures.value (sym c.take.ensures.value ∙ c.in-Some-take.is) in
    let free : owed (g.S.RowSeat.view o.tree.seat) + 2 ≤ (g.S.RowSeat.view o.tree.seat).spare = omega arith in
    now_acquires told (FinishesDevice told) x (tree_seen g.S.RowSeat.view c.acquired.new.self) c.args.scope p c.in-Some.device c.new.result o.tree.branches.items o.tree.acquisitions.items c.requires.fits.tree.sound.kept is c.requires.fits.order c.requires.scope
    (ap told acquired ∙ c.in_ok-open.ensures.ok) free c.acquired.ensures.acquires _ (emptied x p c.in-Some.device is (Some c.open.new.self) c.take.new.self c.take.ensures.after)

pub returns-clause-fits : goal.returns-clause-fits
returns-clause-fits g c =
    let o = c.args.self.now in let w = c.requires.place in let x = site g.S.RowSeat.view o in let p = c.args.place in let told = g.V.Device.told in
    let is : slot x p ≡ Some (Some c.in-Some.device) = slot_same x p w.0 w.1 _ c.index_mut.result.now c.in-Some.device c.index_mut.ensures.value c.in-Some.is in
    let acquired : c.new.result ≡ c.open.new.self = c.new.ensures ∙ taken_out x p w.0 w.1 c.open.new.self _ c.index_mut-2.result.now c.in-Some-take.device c.index_mut-2.ensures.value (sym c.take.ensures.value ∙ c.in-Some-take.is) in
    let free : owed (g.S.RowSeat.view o.tree.seat) + 2 ≤ (g.S.RowSeat.view o.tree.seat).spare = omega arith in
    stands g.S.RowSeat.view told g.S.RowSeat.fits _ c.acquired.new.desk c.acquired.ensures.fits
    (now_order told (FinishesDevice told) x (tree_seen g.S.RowSeat.view c.acquired.new.self) c.args.scope p c.in-Some.device c.new.result o.tree.branches.items o.tree.acquisitions.items c.requires.fits.tree.sound.kept is c.requires.fits.order c.requires.scope
    (ap told acquired ∙ c.in_ok-open.ensures.ok) free c.acquired.ensures.acquires _ (emptied x p c.in-Some.device is (Some c.open.new.self) c.take.new.self c.take.ensures.after))

pub returns-clause-since : goal.returns-clause-since
returns-clause-since g c =
    let o = c.args.self.now in let w = c.requires.place in let x = site g.S.RowSeat.view o in let p = c.args.place in let told = g.V.Device.told in
    let is : slot x p ≡ Some (Some c.in-Some.device) = slot_same x p w.0 w.1 _ c.index_mut.result.now c.in-Some.device c.index_mut.ensures.value c.in-Some.is in
    let acquired : c.new.result ≡ c.open.new.self = c.new.ensures ∙ taken_out x p w.0 w.1 c.open.new.self _ c.index_mut-2.result.now c.in-Some-take.device c.index_mut-2.ensures.value (sym c.take.ensures.value ∙ c.in-Some-take.is) in
    let free : owed (g.S.RowSeat.view o.tree.seat) + 2 ≤ (g.S.RowSeat.view o.tree.seat).spare = omega arith in record {
      since = now_since told (FinishesDevice told) x (tree_seen g.S.RowSeat.view c.acquired.new.self) c.args.scope p c.in-Some.device c.new.result o.tree.branches.items o.tree.acquisitions.items c.requires.fits.tree.sound.kept is c.requires.fits.order c.requires.scope
          (ap told acquired ∙ c.in_ok-open.ensures.ok) free c.acquired.ensures.acquires _ (emptied x p c.in-Some.device is (Some c.open.new.self) c.take.new.self c.take.ensures.after);
      others = c.acquired.ensures.others;
    }
