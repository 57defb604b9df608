use Rattle.std.proofs.Common.{◌≡◌, ◌+◌, ◌<◌, suc, cond, take, length, [], ◌∷◌, ◌++◌, slice_index_or, sym, ap, ◌∙◌, subst, arith, append-nil}
use Rattle.res_ledger.specs.Own.{picked, reaches}
use Rattle.scope_tree.specs.declared.branch.AcquiredRow.{AcquiredRow}
use Rattle.scope_tree.specs.Calls.{WasOpened}
use Rattle.scope_tree.specs.Kept.{acquisition_pairs}
use Rattle.scope_tree.specs.Trees.{seen}
use Rattle.scope_tree.specs.Trace.{trace}
use Rattle.scope_tree.proofs.Covered.{was_opened}
use Rattle.scope_tree.proofs.Leased.{picked_next}
use Rattle.scope_tree.proofs.Leasing.{take_all}
use Rattle.scope_tree.proofs.Parts.{pair_at}
use Rattle.scope_tree.proofs.tree.Tree.covered.Goals.{then-reaches+in_ok-push, else-reaches}
use Rattle.scope_tree.proofs.tree.Tree.covered.Goals as goal

pub each-init : goal.each-init
each-init g c = c.new-rows.ensures.items

pub reaches-requires-clause-of : goal.reaches-requires-clause-of
reaches-requires-clause-of g c =
    let t = c.args.self.now in let v = g.S.RowSeat.view t.seat in let bs = t.branches.items in let hs = t.acquisitions.items in let k = c.requires.tree.kept in let i = c.each.one-index in let d : AcquiredRow = record { row = 0; scope = 0 } in
    let e = c.deref-one-items.ensures.value in
    let l : i < length hs = subst (λ h. i < length h) e c.each-test.true in
    subst (λ h. WasOpened (seen g.S.RowSeat.view t) (slice_index_or h i d).scope) (sym e) (was_opened v bs hs k (slice_index_or hs i d).scope (k.mirrors.ranged (slice_index_or hs i d).row (slice_index_or hs i d).scope (pair_at hs i d l)))

pub each-preserved : goal.each-preserved
each-preserved g c =
    let t = c.args.self.now in let v = g.S.RowSeat.view t.seat in let hs = t.acquisitions.items in let i = c.each.one-index in let d : AcquiredRow = record { row = 0; scope = 0 } in
    let e = c.deref-one-items.ensures.value in let f = reaches (trace v) c.args.scope in let h = slice_index_or hs i d in
    let l : i < length hs = subst (λ h. i < length h) e c.each-test.true in let n : i + 1 ≡ suc i = omega arith in
    let next = picked_next f hs i (i + 1) d n l in
    let is : c.reaches.result ≡ f h.scope = c.reaches.ensures ∙ ap (λ x. f (slice_index_or x i d).scope) e in
    elim c.if-reaches.branch [
      | then-reaches+in_ok-push w ↦ ap (λ r. r.items) w.rows-is ∙ w.in_ok-push.ensures.items ∙ ap (λ x. x ++ (slice_index_or c.deref-one-items.result.now i d).row ∷ []) c.each.invariant ∙ ap (λ x. picked f (acquisition_pairs (take i hs)) ++ (slice_index_or x i d).row ∷ []) e ∙ ap (λ b. picked f (acquisition_pairs (take i hs)) ++ cond b (h.row ∷ []) []) (sym w.if-reaches.true ∙ is) ∙ sym next
      | else-reaches w ↦ ap (λ r. r.items) w.rows-is ∙ c.each.invariant ∙ sym (append-nil (picked f (acquisition_pairs (take i hs)))) ∙ ap (λ b. picked f (acquisition_pairs (take i hs)) ++ cond b (h.row ∷ []) []) (sym w.if-reaches.false ∙ is) ∙ sym next
    ]

pub returns : goal.returns
returns g c =
    let t = c.args.self.now in let v = g.S.RowSeat.view t.seat in let hs = t.acquisitions.items in let f = reaches (trace v) c.args.scope in
    let l = c.each-test.false in let e = ap length c.deref-one-items.ensures.value in
    c.each.invariant ∙ ap (λ x. picked f (acquisition_pairs x)) (take_all hs c.each.one-index (omega (l, e, arith))) ∙ ap (picked f) (sym c.requires.tree.kept.mirrors.rows)
