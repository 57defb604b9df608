use Rattle.std.proofs.Common.{◌≡◌, ℕ, ◌≤◌, false, ltb, zero, suc, refl, sym, ◌∙◌, subst, arith}
use Rattle.scope_tree.specs.Walks.{Clear, Shaded, StandsAbove}
use Rattle.scope_tree.proofs.Covered.{opened_range, reach_above, reach_child, reach_closed, reach_parent, not_child}
use Rattle.scope_tree.proofs.Beneath.{usable_scope}
use Rattle.scope_tree.proofs.tree.Tree.reaches.Goals as goal

pub is_open-requires-clause-scope : goal.is_open-requires-clause-scope
is_open-requires-clause-scope g c = let t = c.args.self.now in rw c.deref.ensures.value (opened_range (g.S.RowSeat.view t.seat) t.branches.items t.acquisitions.items c.requires.tree.kept c.args.of c.requires.of)

pub is_open-requires-clause-parents : goal.is_open-requires-clause-parents
is_open-requires-clause-parents g c = rw c.deref.ensures.value c.requires.tree.kept.mirrors.parents

pub is_above-requires-clause-scope : goal.is_above-requires-clause-scope
is_above-requires-clause-scope g c = let t = c.args.self.now in rw c.deref-then-is_open.ensures.value (usable_scope (g.S.RowSeat.view t.seat) t.branches.items t.acquisitions.items c.requires.tree.kept c.args.scope c.requires.scope)

pub is_above-requires-clause-parents : goal.is_above-requires-clause-parents
is_above-requires-clause-parents g c = rw c.deref-then-is_open.ensures.value c.requires.tree.kept.mirrors.parents

ltb_zero : (u : ℕ) → u ≤ 0 → ltb 0 u ≡ false
ltb_zero zero l = refl
ltb_zero (suc u) l = absurd (omega arith)

pub index-requires : goal.index-requires
index-requires g c = let t = c.args.self.now in let l = opened_range (g.S.RowSeat.view t.seat) t.branches.items t.acquisitions.items c.requires.tree.kept c.args.of c.requires.of in let z = t.branches.ok.0 in omega (l, z, arith)

pub returns-then-is_above : goal.returns-then-is_above
returns-then-is_above g c =
    let t = c.args.self.now in let v = g.S.RowSeat.view t.seat in let bs = t.branches.items in let hs = t.acquisitions.items in let k = c.requires.tree.kept in let s = c.args.scope in let u = c.args.of in
    let x : Clear bs u = subst (λ b. Clear b u) c.deref.ensures.value (c.is_open.ensures.open c.if-is_open.true) in
    let a : StandsAbove bs s u = subst (λ b. StandsAbove b s u) c.deref-then-is_open.ensures.value (c.is_above.ensures.above c.if-is_above.true) in
    c.if-is_above.true ∙ sym (reach_above v bs hs k s u (usable_scope v bs hs k s c.requires.scope) (opened_range v bs hs k u c.requires.of) x a)

pub returns-then-of-gt0 : goal.returns-then-of-gt0
returns-then-of-gt0 g c =
    let t = c.args.self.now in let v = g.S.RowSeat.view t.seat in let bs = t.branches.items in let hs = t.acquisitions.items in let k = c.requires.tree.kept in let s = c.args.scope in let u = c.args.of in
    let x : Clear bs u = subst (λ b. Clear b u) c.deref.ensures.value (c.is_open.ensures.open c.if-is_open.true) in
    let n : ¬ (StandsAbove bs s u) = subst (λ b. ¬ (StandsAbove b s u)) c.deref-then-is_open.ensures.value (c.is_above.ensures.apart c.if-is_above.false) in
    reach_parent v bs hs k s u c.index.result.now (usable_scope v bs hs k s c.requires.scope) (opened_range v bs hs k u c.requires.of) (let z = c.if-of-gt0.true in omega (z, arith)) c.index.ensures x n

pub returns-else-of-gt0 : goal.returns-else-of-gt0
returns-else-of-gt0 g c =
    let t = c.args.self.now in let v = g.S.RowSeat.view t.seat in let bs = t.branches.items in let hs = t.acquisitions.items in let k = c.requires.tree.kept in let s = c.args.scope in let u = c.args.of in
    let x : Clear bs u = subst (λ b. Clear b u) c.deref.ensures.value (c.is_open.ensures.open c.if-is_open.true) in
    let n : ¬ (StandsAbove bs s u) = subst (λ b. ¬ (StandsAbove b s u)) c.deref-then-is_open.ensures.value (c.is_above.ensures.apart c.if-is_above.false) in
    let z = c.if-of-gt0.false in
    ltb_zero u z ∙ sym (reach_child v bs hs k s u (usable_scope v bs hs k s c.requires.scope) (opened_range v bs hs k u c.requires.of) x n ∙ not_child v bs hs k s u (λ y. let o = y.0 in omega (o, z, arith)))

pub returns-else-is_open : goal.returns-else-is_open
returns-else-is_open g c =
    let t = c.args.self.now in let v = g.S.RowSeat.view t.seat in let bs = t.branches.items in let hs = t.acquisitions.items in let k = c.requires.tree.kept in let s = c.args.scope in let u = c.args.of in
    let x : Shaded bs u = subst (λ b. Shaded b u) c.deref.ensures.value (c.is_open.ensures.shut c.if-is_open.false) in
    c.if-is_open.false ∙ sym (reach_closed v bs hs k s u (opened_range v bs hs k u c.requires.of) x)
