use Rattle.std.proofs.Common.{◌≡◌, ◌<◌, ◌≤◌, length, Some, sym, ap, ◌∙◌, subst, arith}
use Rattle.std.specs.Prelude.{slice_index_or}
use Rattle.std.specs.List.{slice_get}
use Rattle.std.proofs.lemmas.Option.{slice_get-get_or}
use Rattle.join_tree.specs.Progress.{reading}
use Rattle.scope_tree.specs.Trees.{seen}
use Rattle.outer_stream.specs.declared.next.OuterPart.{OuterPart}
use Rattle.outer_stream.specs.declared.outer.Outer.{Outer}
use Rattle.outer_stream.specs.Parts.{closing, opening}
use Rattle.outer_stream.specs.Pulls.{MayRead}
use Rattle.outer_stream.proofs.Begun.{may_read}
use Rattle.scope_tree.specs.Calls.{IsOpenScope}
use Rattle.outer_stream.proofs.Gave.{gave_part}
use Rattle.outer_stream.proofs.Going.{entered, may_enter, number_is, part_done, went_off, went_on}
use Rattle.outer_stream.proofs.outer.Outer.next_part.Goals as goal

pub leave-requires-clause-main : goal.leave-requires-clause-main
leave-requires-clause-main g c = let m = c.requires.main in (m.1, m.2, m.3, m.4.main, m.4.root)

pub leave-requires-clause-scope : goal.leave-requires-clause-scope
leave-requires-clause-scope g c = let m = c.requires.main in m.4.amid.scope

-- what is read behind the end of a list
none : OuterPart
none = record { tables = record { from = 0; to = 0 }; behind = 0 }

-- where not all parts were begun one is left
part_left : (k l m : _) → k ≡ l → l ≤ m → ¬ (k ≡ m) → l < m
part_left k l m e few ne = omega (e, few, ne, arith)

-- the outer stream once the part was entered
entered_is : (x y z : Outer) (s : _) → y ≡ record x { scope = 0 } → z ≡ record y { scope = s } → s ≡ x.part → z ≡ record x { scope = x.part }
entered_is x y z s e f h = f ∙ (ap (λ (w : Outer). let v : Outer = record w { scope = s } in v) e ∙ ap (λ i. let v : Outer = record x { scope = i } in v) h)

pub returns-then-self-parts-clause-next : goal.returns-then-self-parts-clause-next
returns-then-self-parts-clause-next g c n width N q o =
    let view = g.S.RowSeat.view in
    let same = c.leave.ensures.same in
    part_done g.D.Dev.Device.told c.args.parts.now c.args.tables.now n width N q c.args.self.now (seen view c.args.tree.now) o (seen view c.leave.new.tree) c.leave.ensures.step c.leave.new.self (g.D.Depot.told c.args.depot.now) same c.requires.given (sym (ap (λ (z : Outer). z.part) same) ∙ c.if-self-parts.true)

pub enter-requires-clause-main : goal.enter-requires-clause-main
enter-requires-clause-main g c =
    let m = c.requires.main in
    (m.1, m.2, reading m.3 (closing c.args.self.now.scope), c.leave.ensures.step.main m.1 m.2 m.3 m.4.main m.4.root, m.4.root)

pub enter-requires-clause-left : goal.enter-requires-clause-left
enter-requires-clause-left g c = ap (λ (z : Outer). z.scope) c.leave.ensures.same

pub enter-requires-clause-room : goal.enter-requires-clause-room
enter-requires-clause-room g c some =
    let m = c.requires.main in
    let view = g.S.RowSeat.view in
    let part = ap (λ (z : Outer). z.part) c.leave.ensures.same in
    (may_enter g.D.Dev.Device.told c.args.parts.now c.args.tables.now m.0 m.1 m.2 m.3 c.args.self.now (seen view c.args.tree.now) m.4 (seen view c.leave.new.tree) c.leave.ensures.step
    (part_left c.leave.new.self.part c.args.self.now.part (length c.args.parts.now) part (gave_part m.4.amid.gave) c.if-self-parts.false) (λ e. some (part ∙ e))).0

pub enter-requires-clause-free : goal.enter-requires-clause-free
enter-requires-clause-free g c some =
    let m = c.requires.main in
    let view = g.S.RowSeat.view in
    let part = ap (λ (z : Outer). z.part) c.leave.ensures.same in
    (may_enter g.D.Dev.Device.told c.args.parts.now c.args.tables.now m.0 m.1 m.2 m.3 c.args.self.now (seen view c.args.tree.now) m.4 (seen view c.leave.new.tree) c.leave.ensures.step
    (part_left c.leave.new.self.part c.args.self.now.part (length c.args.parts.now) part (gave_part m.4.amid.gave) c.if-self-parts.false) (λ e. some (part ∙ e))).1

pub read_part-requires-clause-main : goal.read_part-requires-clause-main
read_part-requires-clause-main g c =
    let m = c.requires.main in
    let s = c.enter.new.self.scope in
    (m.1, m.2, reading (reading m.3 (closing c.args.self.now.scope)) (opening s), c.enter.ensures.step.main m.1 m.2 (reading m.3 (closing c.args.self.now.scope)) (c.leave.ensures.step.main m.1 m.2 m.3 m.4.main m.4.root) m.4.root, m.4.root)

pub read_part-requires-clause-may : goal.read_part-requires-clause-may
unfolding none
read_part-requires-clause-may g c =
    let m = c.requires.main in
    let view = g.S.RowSeat.view in
    let told = g.D.Dev.Device.told in
    let x = c.args.self.now in
    let P = c.args.parts.now in
    let a = seen view c.args.tree.now in
    let b = seen view c.leave.new.tree in
    let d = seen view c.enter.new.tree in
    let s = c.enter.new.self.scope in
    let part = ap (λ (z : Outer). z.part) c.leave.ensures.same in
    let less = part_left c.leave.new.self.part x.part (length P) part (gave_part m.4.amid.gave) c.if-self-parts.false in
    let p : OuterPart = slice_index_or P x.part none in
    let is : slice_get P x.part ≡ Some p = slice_get-get_or P x.part none less in
    let number = number_is told P c.args.tables.now m.0 m.1 m.2 m.3 x a m.4 b c.leave.ensures.step s (λ e. c.enter.ensures.first (part ∙ e)) (λ ne. c.enter.ensures.child (λ e. ne (sym part ∙ e))) in
    let f = entered told P c.args.tables.now m.0 m.1 m.2 m.3 x a m.4 b c.leave.ensures.step s d number c.enter.ensures.step in
    let same = entered_is x c.leave.new.self c.enter.new.self s c.leave.ensures.same c.enter.ensures.same number in (
      p,
      ap (λ k. slice_get P k) (ap (λ (z : Outer). z.part) same) ∙ is,
      subst (λ (z : Outer). MayRead (length c.args.tables.now) p z d) (sym same)
          (may_read told P c.args.tables.now m.0 m.1 m.2 m.3 x p a d m.4 c.requires.given is f (subst (λ i. IsOpenScope d i) number c.enter.ensures.scope)),
    )

pub returns-clause-next : goal.returns-clause-next
unfolding none
returns-clause-next g c n width N q o =
    let view = g.S.RowSeat.view in
    let told = g.D.Dev.Device.told in
    let x = c.args.self.now in
    let P = c.args.parts.now in
    let a = seen view c.args.tree.now in
    let b = seen view c.leave.new.tree in
    let d = seen view c.enter.new.tree in
    let s = c.enter.new.self.scope in
    let part = ap (λ (z : Outer). z.part) c.leave.ensures.same in
    let less = part_left c.leave.new.self.part x.part (length P) part (gave_part o.amid.gave) c.if-self-parts.false in
    let p : OuterPart = slice_index_or P x.part none in
    let is : slice_get P x.part ≡ Some p = slice_get-get_or P x.part none less in
    let number = number_is told P c.args.tables.now n width N q x a o b c.leave.ensures.step s (λ e. c.enter.ensures.first (part ∙ e)) (λ ne. c.enter.ensures.child (λ e. ne (sym part ∙ e))) in
    let f = entered told P c.args.tables.now n width N q x a o b c.leave.ensures.step s d number c.enter.ensures.step in
    let same = entered_is x c.leave.new.self c.enter.new.self s c.leave.ensures.same c.enter.ensures.same number in
    went_on told P c.args.tables.now n width N q x a o c.requires.given p is less d f (subst (λ i. IsOpenScope d i) number c.enter.ensures.scope) c.enter.new.self c.read_part.new.self same (g.D.Depot.told c.args.depot.now) (g.D.Depot.told c.read_part.new.depot) (seen view c.read_part.new.tree)
    (c.in_ok-read_part.ensures.reads p (ap (λ k. slice_get P k) (ap (λ (z : Outer). z.part) same) ∙ is))

pub returns-in_err-read_part-clause-next : goal.returns-in_err-read_part-clause-next
unfolding none
returns-in_err-read_part-clause-next g c n width N q o =
    let view = g.S.RowSeat.view in
    let told = g.D.Dev.Device.told in
    let x = c.args.self.now in
    let P = c.args.parts.now in
    let a = seen view c.args.tree.now in
    let b = seen view c.leave.new.tree in
    let d = seen view c.enter.new.tree in
    let s = c.enter.new.self.scope in
    let part = ap (λ (z : Outer). z.part) c.leave.ensures.same in
    let less = part_left c.leave.new.self.part x.part (length P) part (gave_part o.amid.gave) c.if-self-parts.false in
    let p : OuterPart = slice_index_or P x.part none in
    let is : slice_get P x.part ≡ Some p = slice_get-get_or P x.part none less in
    let number = number_is told P c.args.tables.now n width N q x a o b c.leave.ensures.step s (λ e. c.enter.ensures.first (part ∙ e)) (λ ne. c.enter.ensures.child (λ e. ne (sym part ∙ e))) in
    let f = entered told P c.args.tables.now n width N q x a o b c.leave.ensures.step s d number c.enter.ensures.step in
    let same = entered_is x c.leave.new.self c.enter.new.self s c.leave.ensures.same c.enter.ensures.same number in
    went_off told P c.args.tables.now n width N q x a o c.requires.given p is less d f (subst (λ i. IsOpenScope d i) number c.enter.ensures.scope) c.enter.new.self c.read_part.new.self same (g.D.Depot.told c.args.depot.now) (g.D.Depot.told c.read_part.new.depot) (seen view c.read_part.new.tree)
    c.from_residual.result c.in_err-read_part.field-0.0 c.from_residual.ensures.1
    (c.in_err-read_part.ensures.reads p (ap (λ k. slice_get P k) (ap (λ (z : Outer). z.part) same) ∙ is))
