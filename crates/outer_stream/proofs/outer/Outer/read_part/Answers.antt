use Rattle.std.proofs.Common.{◌≡◌, ◌+◌, List, Result, Ok, Err, refl, sym, subst, arith}
use Rattle.std.specs.Prelude.{IsErrAnd, slice_index_or}
use Rattle.std.proofs.lemmas.Option.{get_or_from_slice_get, slice_get_within}
use Rattle.device_port.specs.Device.{DeviceTold}
use Rattle.device_port.specs.Depot.{DepotTold}
use Rattle.outer_tables.specs.declared.not_read.NotRead.{NotRead}
use Rattle.pipeline_desc.specs.declared.table.TableSpec.{TableSpec}
use Rattle.scope_tree.specs.Calls.{Seen}
use Rattle.scope_tree.specs.Trees.{seen}
use Rattle.outer_stream.specs.declared.next.OuterPart.{OuterPart}
use Rattle.outer_stream.specs.declared.outer.Outer.{Outer}
use Rattle.outer_stream.specs.Pulls.{ReadsPart}
use Rattle.outer_stream.proofs.outer.Outer.read_part.Goals as goal

-- what is read behind the end of a list
none : OuterPart
none = record { tables = record { from = 0; to = 0 }; behind = 0 }

-- the error that is handed on
badly : {V : Type 0} (told : V → DeviceTold) (tables : List TableSpec) (p : OuterPart) (x y : Outer) (old new : DepotTold) (a b : Seen V) (z : Result (Unit {0}) NotRead) (w : NotRead) → IsErrAnd z (λ e. e ≡ w) → ReadsPart told tables p x y old new a b (Err w) → ReadsPart told tables p x y old new a b z
badly told tables p x y old new a b (Ok u) w is r = absurd is
badly told tables p x y old new a b (Err e) w is r = subst (λ v. ReadsPart told tables p x y old new a b (Err v)) (sym is) r

pub overflow_add-self : goal.overflow_add-self
overflow_add-self g c =
    let m = c.requires.may in
    let l = slice_get_within c.args.parts.now c.args.self.now.part m.0 m.1 in
    let h = c.requires.limits.0 in
    omega (l, h, arith)

pub returns-clause-reads : goal.returns-clause-reads
unfolding none
returns-clause-reads g c p is =
    let view = g.S.RowSeat.view in
    let x = c.args.self.now in
    let d = c.read_tables.new.dicts in
    let r : OuterPart = slice_index_or c.args.parts.now x.part none in
    let at : r ≡ p = get_or_from_slice_get c.args.parts.now x.part p none is in
    subst (λ (s : OuterPart). ReadsPart g.D.Dev.Device.told c.args.tables.now s x (record x { part = x.part + 1; behind = r.behind; table = r.tables.to; tables = d }) (g.D.Depot.told c.args.depot.now) (g.D.Depot.told c.read_tables.new.depot) (seen view c.args.tree.now) (seen view c.read_tables.new.tree) (Ok tt)) at
    (record { reads = c.in_ok-read_tables.ensures.reads; now = refl; leased = refl })

pub returns-in_err-read_tables-clause-reads : goal.returns-in_err-read_tables-clause-reads
unfolding none
returns-in_err-read_tables-clause-reads g c p is =
    let view = g.S.RowSeat.view in
    let x = c.args.self.now in
    let d = c.read_tables.new.dicts in
    let w = c.in_err-read_tables.field-0.0 in
    let r : OuterPart = slice_index_or c.args.parts.now x.part none in
    let at : r ≡ p = get_or_from_slice_get c.args.parts.now x.part p none is in
    badly g.D.Dev.Device.told c.args.tables.now p x (record x { tables = d }) (g.D.Depot.told c.args.depot.now) (g.D.Depot.told c.read_tables.new.depot) (seen view c.args.tree.now) (seen view c.read_tables.new.tree) c.from_residual.result w c.from_residual.ensures.1
    (subst (λ (s : OuterPart). ReadsPart g.D.Dev.Device.told c.args.tables.now s x (record x { tables = d }) (g.D.Depot.told c.args.depot.now) (g.D.Depot.told c.read_tables.new.depot) (seen view c.args.tree.now) (seen view c.read_tables.new.tree) (Err w)) at
    (record { reads = c.in_err-read_tables.ensures.reads; now = tt; leased = refl }))
