-- The list is opened, and its first line comes, or something else.
use Rattle.std.proofs.Common.{[], ◌∷◌, length, refl}
use Rattle.join_tree.specs.Progress.{reading}
use Rattle.res_ledger.specs.declared.event.What.TheVariants.{Acquire, Open}
use Rattle.scope_tree.specs.Trees.{seen}
use Rattle.outer_source.proofs.Pulling.{begin_read, begins_fault, begins_memory, begins_so, begins_unread}
use Rattle.outer_source.proofs.source.OuterSource.begin_list.Goals as goal

pub open_list-requires-clause-may : goal.open_list-requires-clause-may
open_list-requires-clause-may g c = c.requires.may

pub returns-in-Err-Fault-clause-begins : goal.returns-in-Err-Fault-clause-begins
returns-in-Err-Fault-clause-begins g c parts width q h =
    begins_fault g.D.Dev.Device.told c.args.plan.now parts width {y = c.open_list.new.self} c.args.list.now c.in-Err-Fault.field-0 _ _ c.in-Err-Fault.field-0-is c.in-Err-Fault.code-is (c.in-Err-Fault.ensures.tries parts width q h)

pub returns-in-Err-Memory-clause-begins : goal.returns-in-Err-Memory-clause-begins
returns-in-Err-Memory-clause-begins g c parts width q h =
    begins_memory g.D.Dev.Device.told c.args.plan.now parts width {y = c.open_list.new.self} c.args.list.now c.in-Err-Memory.field-0 c.in-Err-Memory.field-0-is (c.in-Err-Memory.ensures.tries parts width q h)

pub returns-in_default-clause-begins : goal.returns-in_default-clause-begins
returns-in_default-clause-begins g c parts width q h =
    let t = c.in-Ok.ensures.tries parts width q h in
    begins_unread g.D.Dev.Device.told c.args.plan.now parts width h c.args.list.now c.requires.list t.0 t.1 c.open_list.new.self refl

pub pull_list-requires-clause-may : goal.pull_list-requires-clause-may
pull_list-requires-clause-may g c =
    let told = g.D.Dev.Device.told in
    let p = c.args.plan.now in
    let m = c.requires.may in
    let t = c.in-Ok.ensures.tries m.0 m.1 m.2 m.3 in (
      m.0,
      m.1,
      c.args.list.now,
      t.0,
      [],
      reading m.2 (Open (length m.0) 0 ∷ (Acquire (length p.tables) (length m.0) ∷ [])),
      m.3.some_parts,
      begin_read told p m.0 m.1 m.3 c.args.list.now c.requires.list t.0 t.1 c.in-Ok-new_list.reader _ refl c.in-Ok-new_list.ensures,
    )

pub returns-clause-begins : goal.returns-clause-begins
returns-clause-begins g c parts width q h =
    let told = g.D.Dev.Device.told in
    let p = c.args.plan.now in
    let l = c.args.list.now in
    let t = c.in-Ok.ensures.tries parts width q h in
    let r = begin_read told p parts width h l c.requires.list t.0 t.1 c.in-Ok-new_list.reader _ refl c.in-Ok-new_list.ensures in
    let e = c.pull_list.ensures.comes parts width l t.0 [] (reading q (Open (length parts) 0 ∷ (Acquire (length p.tables) (length parts) ∷ []))) h.some_parts r in
    begins_so told p parts width h l c.requires.list t.0 t.1 c.pull_list.new.self (seen g.S.RowSeat.view c.pull_list.new.tree) c.pull_list.result e.0 e.1
