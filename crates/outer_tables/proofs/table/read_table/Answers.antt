-- The device that was opened is in the row, and it is the one that was read.
use Rattle.std.proofs.Common.{◌≡◌, List, ℕ, None, ap, ◌∙◌, subst}
use Rattle.std.specs.FinMap.{get}
use Rattle.scope_tree.specs.Trees.{seen}
use Rattle.csv_pipes.specs.Dictionaries.{table_fault, table_value}
use Rattle.csv_pipes.specs.Refusals.{IsRefusedBy}
use Rattle.pull_stepper.specs.Held.{FinishesDevice}
use Rattle.outer_tables.specs.Causes.{as_not_read}
use Rattle.outer_tables.proofs.OneRow.{is_it, is_there, new_readable, row_read}
use Rattle.outer_tables.proofs.Trying.{reads_badly, reads_table, tries_closed, tries_refused, tries_unread}
use Rattle.outer_tables.proofs.table.read_table.Goals as goal

pub returns-in_err-device-clause-reads : goal.returns-in_err-device-clause-reads
returns-in_err-device-clause-reads g c =
    let told = g.D.Dev.Device.told in let a = seen g.S.RowSeat.view c.args.tree.now in
    reads_badly told (FinishesDevice told) c.args.scope c.args.row c.args.path.now _ _ a a c.from_residual.result c.in_err-device.field-0.0 c.from_residual.ensures.1 (tries_closed told (FinishesDevice told) c.args.scope c.args.row c.args.path.now _ _ a c.in_err-device.field-0.0 c.in_err-device.ensures)

pub read_row-requires-clause-row : goal.read_row-requires-clause-row
read_row-requires-clause-row g c =
    let told = g.D.Dev.Device.told in let t = c.args.tree.now in let q = c.acquired.ensures in
    is_there told (FinishesDevice told) (seen g.S.RowSeat.view t) (seen g.S.RowSeat.view c.acquired.new.self) c.args.scope c.args.row c.new.result c.in_ok-device.device t.branches.items t.acquisitions.items c.requires.fits.sound.kept c.requires.scope c.requires.row q.acquires q.scopes q.room q.owed c.new.ensures

pub read_row-requires-clause-device : goal.read_row-requires-clause-device
read_row-requires-clause-device g c d m =
    let told = g.D.Dev.Device.told in let t = c.args.tree.now in let q = c.acquired.ensures in
    let same : d ≡ c.in_ok-device.device = is_it told (FinishesDevice told) (seen g.S.RowSeat.view t) (seen g.S.RowSeat.view c.acquired.new.self) c.args.scope c.args.row c.new.result c.in_ok-device.device t.branches.items t.acquisitions.items c.requires.fits.sound.kept c.requires.scope c.requires.row q.acquires q.scopes q.room q.owed c.new.ensures d m in
    new_readable _ _ c.args.path.now (told d) (ap told same ∙ c.in_ok-device.ensures.1)

pub returns-in_err-bytes-clause-reads : goal.returns-in_err-bytes-clause-reads
returns-in_err-bytes-clause-reads g c =
    let told = g.D.Dev.Device.told in let t = c.args.tree.now in let q = c.acquired.ensures in let d = c.in_ok-device.device in let w = c.in_err-bytes.field-0.0 in
    let a = seen g.S.RowSeat.view t in let b = seen g.S.RowSeat.view c.read_row.new.tree in
    let r = row_read told (FinishesDevice told) a (seen g.S.RowSeat.view c.acquired.new.self) c.args.scope c.args.row c.new.result d t.branches.items t.acquisitions.items c.requires.fits.sound.kept c.requires.scope c.requires.row q.acquires q.scopes q.room q.owed c.new.ensures b _ c.in_err-bytes.ensures.reads in
    reads_badly told (FinishesDevice told) c.args.scope c.args.row c.args.path.now _ _ a b c.from_residual-in_err-bytes.result w c.from_residual-in_err-bytes.ensures.1 (tries_unread told (FinishesDevice told) c.args.scope c.args.row c.args.path.now _ _ a b d r.0 c.in_ok-device.ensures r.2 w r.1)

pub returns-in_err-dict-clause-reads : goal.returns-in_err-dict-clause-reads
returns-in_err-dict-clause-reads g c =
    let told = g.D.Dev.Device.told in let t = c.args.tree.now in let q = c.acquired.ensures in let d = c.in_ok-device.device in let w = c.in_err-dict.field-0.0 in
    let a = seen g.S.RowSeat.view t in let b = seen g.S.RowSeat.view c.read_row.new.tree in
    let r = row_read told (FinishesDevice told) a (seen g.S.RowSeat.view c.acquired.new.self) c.args.scope c.args.row c.new.result d t.branches.items t.acquisitions.items c.requires.fits.sound.kept c.requires.scope c.requires.row q.acquires q.scopes q.room q.owed c.new.ensures b _ c.in_ok-bytes.ensures.reads in
    let is : IsRefusedBy (table_fault c.in_ok-bytes.bytes) w = subst (λ (l : List ℕ). IsRefusedBy (table_fault l) w) c.as_slice.ensures c.in_err-dict.ensures.refused in
    reads_badly told (FinishesDevice told) c.args.scope c.args.row c.args.path.now _ _ a b c.from_residual-in_err-dict.result (as_not_read w) c.from_residual-in_err-dict.ensures.1 (tries_refused told (FinishesDevice told) c.args.scope c.args.row c.args.path.now _ _ a b d r.0 c.in_ok-device.ensures r.2 c.in_ok-bytes.bytes r.1 w is)

pub returns-clause-reads : goal.returns-clause-reads
returns-clause-reads g c =
    let told = g.D.Dev.Device.told in let t = c.args.tree.now in let q = c.acquired.ensures in let d = c.in_ok-device.device in
    let a = seen g.S.RowSeat.view t in let b = seen g.S.RowSeat.view c.read_row.new.tree in
    let r = row_read told (FinishesDevice told) a (seen g.S.RowSeat.view c.acquired.new.self) c.args.scope c.args.row c.new.result d t.branches.items t.acquisitions.items c.requires.fits.sound.kept c.requires.scope c.requires.row q.acquires q.scopes q.room q.owed c.new.ensures b _ c.in_ok-bytes.ensures.reads in
    reads_table told (FinishesDevice told) c.args.scope c.args.row c.args.path.now _ _ a b d r.0 c.in_ok-device.ensures r.2 c.in_ok-bytes.bytes r.1 c.in_ok-dict.dict
    (subst (λ (l : List ℕ). table_fault l ≡ None) c.as_slice.ensures c.in_ok-dict.ensures.fine) (subst (λ (l : List ℕ). (key : List ℕ) → get c.in_ok-dict.dict key ≡ table_value l key) c.as_slice.ensures c.in_ok-dict.ensures.values)
