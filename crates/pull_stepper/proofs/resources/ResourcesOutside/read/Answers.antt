-- The device in the open row is the one that is read.
use Rattle.std.proofs.Common.{◌≡◌, ◌<◌, sym, subst}
use Rattle.chunk_core.specs.Lists.{IsAmong}
use Rattle.device_port.specs.declared.device.Mode.TheVariants as mode
use Rattle.scope_tree.specs.Lending.{lent_tree}
use Rattle.scope_tree.proofs.Lent.{lent_fits}
use Rattle.pull_stepper.specs.Held.{FinishesDevice}
use Rattle.pull_stepper.specs.Resources.{site}
use Rattle.pull_stepper.proofs.Reading.{after_read, fails_if, gives_if, seated_order, seated_since, told_before}
use Rattle.pull_stepper.proofs.Standing.{stands}
use Rattle.pull_stepper.proofs.resources.ResourcesOutside.read.Goals as goal

pub read-requires-clause-room : goal.read-requires-clause-room
read-requires-clause-room g c =
    let o = c.args.self.now in
    let held : IsAmong (c.args.place, c.device_mut.result.now) (g.S.RowSeat.view o.tree.seat).opened = subst (λ d. IsAmong (c.args.place, d) (g.S.RowSeat.view o.tree.seat).opened) (sym c.device_mut.ensures.value) c.pay_mut.ensures.value in
    let told = told_before g.V.Device.told (site g.S.RowSeat.view o) c.args.place c.device_mut.result.now c.requires.fits.tree.sound.kept.holds.once c.requires.fits.order held in
    subst (λ t. t.read_faults < 18446744073709551615) told c.requires.room

pub returns-clause-ok : goal.returns-clause-ok
returns-clause-ok g c =
    let o = c.args.self.now in
    let held : IsAmong (c.args.place, c.device_mut.result.now) (g.S.RowSeat.view o.tree.seat).opened = subst (λ d. IsAmong (c.args.place, d) (g.S.RowSeat.view o.tree.seat).opened) (sym c.device_mut.ensures.value) c.pay_mut.ensures.value in
    let e = c.read.ensures in
    gives_if g.V.Device.told (FinishesDevice g.V.Device.told) (site g.S.RowSeat.view o) c.args.place c.device_mut.result.now c.read.new.self c.requires.fits.tree.sound.kept.holds.once c.requires.fits.order held
    (g.S.RowSeat.view (g.S.RowSeat.with_pay o.tree.seat c.args.place c.read.new.self)) (g.met.S.RowSeat.pay_view o.tree.seat c.args.place c.read.new.self) c.read.result c.read.new.buf e.count e.ok e.bytes e.end

pub returns-clause-failed : goal.returns-clause-failed
returns-clause-failed g c =
    let o = c.args.self.now in
    let held : IsAmong (c.args.place, c.device_mut.result.now) (g.S.RowSeat.view o.tree.seat).opened = subst (λ d. IsAmong (c.args.place, d) (g.S.RowSeat.view o.tree.seat).opened) (sym c.device_mut.ensures.value) c.pay_mut.ensures.value in
    fails_if g.V.Device.told (FinishesDevice g.V.Device.told) (site g.S.RowSeat.view o) c.args.place c.device_mut.result.now c.read.new.self c.requires.fits.tree.sound.kept.holds.once c.requires.fits.order held
    (g.S.RowSeat.view (g.S.RowSeat.with_pay o.tree.seat c.args.place c.read.new.self)) (g.met.S.RowSeat.pay_view o.tree.seat c.args.place c.read.new.self) c.read.result c.read.ensures.failed

pub returns-clause-fits : goal.returns-clause-fits
returns-clause-fits g c =
    let o = c.args.self.now in let w = c.read.new.self in
    let held : IsAmong (c.args.place, c.device_mut.result.now) (g.S.RowSeat.view o.tree.seat).opened = subst (λ d. IsAmong (c.args.place, d) (g.S.RowSeat.view o.tree.seat).opened) (sym c.device_mut.ensures.value) c.pay_mut.ensures.value in
    stands g.S.RowSeat.view g.V.Device.told g.S.RowSeat.fits (record o { tree = lent_tree g.S.RowSeat.with_pay o.tree c.args.place w }) c.args._desk.now
    (lent_fits g.S.RowSeat.view g.S.RowSeat.with_pay g.met.S.RowSeat.pay_view g.S.RowSeat.fits g.met.S.RowSeat.pay_fits o.tree c.args.place w c.args._desk.now c.requires.fits.tree)
    (seated_order g.V.Device.told (FinishesDevice g.V.Device.told) (site g.S.RowSeat.view o) c.args.place c.device_mut.result.now w c.requires.fits.tree.sound.kept.holds.once c.requires.fits.order held
    (g.S.RowSeat.view (g.S.RowSeat.with_pay o.tree.seat c.args.place w)) (g.met.S.RowSeat.pay_view o.tree.seat c.args.place w) (after_read g.V.Device.told c.device_mut.result.now w c.read.result c.read.ensures.ok c.read.ensures.failed))

pub returns-clause-since : goal.returns-clause-since
returns-clause-since g c =
    let o = c.args.self.now in let w = c.read.new.self in
    let held : IsAmong (c.args.place, c.device_mut.result.now) (g.S.RowSeat.view o.tree.seat).opened = subst (λ d. IsAmong (c.args.place, d) (g.S.RowSeat.view o.tree.seat).opened) (sym c.device_mut.ensures.value) c.pay_mut.ensures.value in record {
      since = seated_since g.V.Device.told (FinishesDevice g.V.Device.told) (site g.S.RowSeat.view o) c.args.place c.device_mut.result.now w c.requires.fits.tree.sound.kept.holds.once c.requires.fits.order held
          (g.S.RowSeat.view (g.S.RowSeat.with_pay o.tree.seat c.args.place w)) (g.met.S.RowSeat.pay_view o.tree.seat c.args.place w) (after_read g.V.Device.told c.device_mut.result.now w c.read.result c.read.ensures.ok c.read.ensures.failed);
      others = λ s n f. f;
    }

pub read-requires-clause-mode : goal.read-requires-clause-mode
read-requires-clause-mode g c =
    let o = c.args.self.now in
    let held : IsAmong (c.args.place, c.device_mut.result.now) (g.S.RowSeat.view o.tree.seat).opened = subst (λ d. IsAmong (c.args.place, d) (g.S.RowSeat.view o.tree.seat).opened) (sym c.device_mut.ensures.value) c.pay_mut.ensures.value in
    let told = told_before g.V.Device.told (site g.S.RowSeat.view o) c.args.place c.device_mut.result.now c.requires.fits.tree.sound.kept.holds.once c.requires.fits.order held in
    subst (λ t. t.place.mode ≡ mode.Read) told c.requires.mode
