-- The tables so far, and the next one behind them.
use Rattle.std.proofs.Common.{◌≡◌, ◌+◌, ◌<◌, List, length, map, take, get_or, sym, ap, ◌∙◌, subst, arith}
use Rattle.std.proofs.lemmas.List.{length-map}
use Rattle.std.proofs.Math.ListN.{get_or-map}
use Rattle.csv_pipes.specs.Dictionaries.{Dictionary}
use Rattle.outer_tables.specs.declared.not_read.NotRead.TheVariants as why
use Rattle.outer_tables.specs.Tables.{ReadsTable}
use Rattle.pipeline_desc.specs.declared.table.TableSpec.{TableSpec}
use Rattle.pull_stepper.specs.Held.{FinishesDevice}
use Rattle.scope_tree.specs.Trees.{seen}
use Rattle.outer_tables.proofs.Reading.{AreReadSoFar, events_left, none_read, not_read, read_last, read_on, room_left, row_empty, scope_open, tables_badly, tables_read}
use Rattle.outer_tables.proofs.tables.read_tables.Goals as goal

-- the place of the next one among the paths
within : (tables : List TableSpec) (i : _) → i < length tables → i < length (map (λ (t : TableSpec). t.path) tables)
within tables i h = let l = length-map tables (λ (t : TableSpec). t.path) in omega (l, h, arith)

there : (tables : List TableSpec) (i : _) (t : TableSpec) → t ≡ get_or tables i t → t.path ≡ get_or (map (λ (s : TableSpec). s.path) tables) i t.path
there tables i t h = ap (λ (s : TableSpec). s.path) h ∙ sym (get_or-map (λ (s : TableSpec). s.path) tables i t)

pub loop-i-init : goal.loop-i-init
loop-i-init g c =
    let told = g.D.Dev.Device.told in
    record { read = none_read told (FinishesDevice told) c.args.scope c.args.first (g.D.Depot.told c.args.depot.now) (seen g.S.RowSeat.view c.args.tree.now) c.args.dicts.now; fits = c.requires.fits; others = λ o n h. h }

pub read_table-requires-clause-scope : goal.read_table-requires-clause-scope
read_table-requires-clause-scope g c =
    let told = g.D.Dev.Device.told in let P = map (λ (t : TableSpec). t.path) c.args.tables.now in let t = c.index-tables-i in
    scope_open told (FinishesDevice told) c.args.scope c.args.first P c.loop-i.i t.result.path (within c.args.tables.now c.loop-i.i c.loop-i-test.true) (there c.args.tables.now c.loop-i.i t.result t.is) _ _ (seen g.S.RowSeat.view c.args.tree.now) (seen g.S.RowSeat.view c.loop-i.tree) c.args.dicts.now c.loop-i.dicts c.loop-i.invariant.read c.requires.scope

pub read_table-requires-clause-row : goal.read_table-requires-clause-row
read_table-requires-clause-row g c =
    let told = g.D.Dev.Device.told in let P = map (λ (t : TableSpec). t.path) c.args.tables.now in let t = c.index-tables-i in let l = length-map c.args.tables.now (λ (s : TableSpec). s.path) in
    row_empty told (FinishesDevice told) c.args.scope c.args.first P c.loop-i.i t.result.path (within c.args.tables.now c.loop-i.i c.loop-i-test.true) (there c.args.tables.now c.loop-i.i t.result t.is) _ _ (seen g.S.RowSeat.view c.args.tree.now) (seen g.S.RowSeat.view c.loop-i.tree) c.args.dicts.now c.loop-i.dicts c.loop-i.invariant.read (λ r h. c.requires.rows r (omega (l, h, arith)))

pub read_table-requires-clause-room : goal.read_table-requires-clause-room
read_table-requires-clause-room g c =
    let told = g.D.Dev.Device.told in let P = map (λ (t : TableSpec). t.path) c.args.tables.now in let t = c.index-tables-i in let l = length-map c.args.tables.now (λ (s : TableSpec). s.path) in let h = c.requires.room in
    room_left told (FinishesDevice told) c.args.scope c.args.first P c.loop-i.i t.result.path (within c.args.tables.now c.loop-i.i c.loop-i-test.true) (there c.args.tables.now c.loop-i.i t.result t.is) _ _ (seen g.S.RowSeat.view c.args.tree.now) (seen g.S.RowSeat.view c.loop-i.tree) c.args.dicts.now c.loop-i.dicts c.loop-i.invariant.read (omega (l, h, arith))

pub read_table-requires-clause-free : goal.read_table-requires-clause-free
read_table-requires-clause-free g c =
    let told = g.D.Dev.Device.told in let P = map (λ (t : TableSpec). t.path) c.args.tables.now in let t = c.index-tables-i in let l = length-map c.args.tables.now (λ (s : TableSpec). s.path) in let h = c.requires.free in
    events_left told (FinishesDevice told) c.args.scope c.args.first P c.loop-i.i t.result.path (within c.args.tables.now c.loop-i.i c.loop-i-test.true) (there c.args.tables.now c.loop-i.i t.result t.is) _ _ (seen g.S.RowSeat.view c.args.tree.now) (seen g.S.RowSeat.view c.loop-i.tree) c.args.dicts.now c.loop-i.dicts c.loop-i.invariant.read (omega (l, h, arith))

pub returns-in_err-dict-clause-reads : goal.returns-in_err-dict-clause-reads
returns-in_err-dict-clause-reads g c =
    let told = g.D.Dev.Device.told in let P = map (λ (t : TableSpec). t.path) c.args.tables.now in let t = c.index-tables-i in let w = c.in_err-dict.field-0.0 in let a = seen g.S.RowSeat.view c.args.tree.now in let new = seen g.S.RowSeat.view c.read_table.new.tree in
    tables_badly told (FinishesDevice told) c.args.scope c.args.first P _ _ a new c.args.dicts.now _ c.from_residual.result w c.from_residual.ensures.1 (
    not_read told (FinishesDevice told) c.args.scope c.args.first P c.loop-i.i t.result.path (within c.args.tables.now c.loop-i.i c.loop-i-test.true) (there c.args.tables.now c.loop-i.i t.result t.is) _ _ a (seen g.S.RowSeat.view c.loop-i.tree) c.args.dicts.now c.loop-i.dicts c.loop-i.invariant.read
    _ new w c.in_err-dict.ensures.reads)

pub returns-in_err-push-clause-reads : goal.returns-in_err-push-clause-reads
returns-in_err-push-clause-reads g c =
    let told = g.D.Dev.Device.told in let P = map (λ (t : TableSpec). t.path) c.args.tables.now in let t = c.index-tables-i in let a = seen g.S.RowSeat.view c.args.tree.now in let new = seen g.S.RowSeat.view c.read_table.new.tree in
    tables_badly told (FinishesDevice told) c.args.scope c.args.first P _ _ a new c.args.dicts.now _ c.from_residual-in_err-push.result why.Memory c.from_residual-in_err-push.ensures.1 (
    read_last told (FinishesDevice told) c.args.scope c.args.first P c.loop-i.i t.result.path (within c.args.tables.now c.loop-i.i c.loop-i-test.true) (there c.args.tables.now c.loop-i.i t.result t.is) _ _ a (seen g.S.RowSeat.view c.loop-i.tree) c.args.dicts.now c.loop-i.dicts c.loop-i.invariant.read
    _ new c.in_ok-dict.dict c.in_ok-dict.ensures.reads)

pub loop-i-preserved : goal.loop-i-preserved
loop-i-preserved g c =
    let told = g.D.Dev.Device.told in let P = map (λ (t : TableSpec). t.path) c.args.tables.now in let t = c.index-tables-i in let a = seen g.S.RowSeat.view c.args.tree.now in let new = seen g.S.RowSeat.view c.read_table.new.tree in
    let f = c.loop-i.invariant.read in record {
      read = subst (λ (l : List Dictionary). AreReadSoFar told (FinishesDevice told) c.args.scope c.args.first (take (c.loop-i.i + 1) P) (g.D.Depot.told c.args.depot.now) (g.D.Depot.told c.read_table.new.depot) a new c.args.dicts.now l) (sym c.in_ok-push.ensures.ok) (
          read_on told (FinishesDevice told) c.args.scope c.args.first P c.loop-i.i t.result.path (within c.args.tables.now c.loop-i.i c.loop-i-test.true) (there c.args.tables.now c.loop-i.i t.result t.is) _ _ a (seen g.S.RowSeat.view c.loop-i.tree) c.args.dicts.now c.loop-i.dicts f
          _ new c.in_ok-dict.dict c.in_ok-dict.ensures.reads);
      fits = c.in_ok-dict.ensures.fits;
      others = λ o n h. c.in_ok-dict.ensures.others o (λ e. n (e ∙ ap (λ s. s.seat.by) f.tries.rows.tree)) (c.loop-i.invariant.others o n h);
    }

pub returns-clause-reads : goal.returns-clause-reads
returns-clause-reads g c =
    let told = g.D.Dev.Device.told in let P = map (λ (t : TableSpec). t.path) c.args.tables.now in let l = length-map c.args.tables.now (λ (s : TableSpec). s.path) in let h = c.loop-i-test.false in
    tables_read told (FinishesDevice told) c.args.scope c.args.first P _ _ (seen g.S.RowSeat.view c.args.tree.now) (seen g.S.RowSeat.view c.loop-i.tree) c.args.dicts.now c.loop-i.dicts c.loop-i.i (omega (l, h, arith)) c.loop-i.invariant.read
