use Rattle.std.proofs.Common.{◌≡◌, ℕ, List, ◌++◌, ◌∷◌, [], ap, sym, ◌∙◌, arith, append_assoc, append-nil, take, drop, reverse, length, subst, refl}
use Rattle.std.specs.List.{flat_map}
use Rattle.chunk_core.specs.Lists.{has}
use Rattle.res_ledger.specs.Own.{own, opens, closes, rows}
use Rattle.res_ledger.specs.Ledger.{IsLegal}
use Rattle.res_ledger.proofs.Prefixes.{front_legal}
use Rattle.ledger_verdict.proofs.Legal.{kept}
use Rattle.ledger_audit.specs.Lists.{IsList}
use Rattle.ledger_audit.specs.Trees.{of_scope, raised_from}
use Rattle.ledger_audit.proofs.Fronts.{parts}
use Rattle.ledger_audit.proofs.Raising.{one_raised, raised_less, reverse_teardown}
use Rattle.ledger_audit.proofs.trees.Trees.add_torn.Goals as goal

pub loop-next-smaller : goal.loop-next-smaller
loop-next-smaller c =
    let P = take c.args.place c.args.past.now in
    let k = c.args.by in
    let w = (kept P k (front_legal P (drop c.args.place c.args.past.now) (subst IsLegal (parts c.args.past.now c.args.place) c.requires.legal))).0 in
    raised_less (opens (own k P)) (λ x. has x (closes (own k P))) w c.in-Some.next c.pop.new.self.items c.loop-next.left.items c.add_unshut.new.out.items
    c.in-Some.ensures.items
    (c.in_ok-add_unshut.ensures (of_scope (opens (own k P)) c.in-Some.next) (c.requires.trees.kids k c.in-Some.next))

pub loop-next-preserved : goal.loop-next-preserved
loop-next-preserved c =
    let P = take c.args.place c.args.past.now in
    let k = c.args.by in
    let w = (kept P k (front_legal P (drop c.args.place c.args.past.now) (subst IsLegal (parts c.args.past.now c.args.place) c.requires.legal))).0 in
    let f = of_scope (rows (own k P)) in
    let F = raised_from (opens (own k P)) (λ x. has x (closes (own k P))) f in
    let mine : IsList c.args.self.now.rows c.number.result c.in-Some.next (f c.in-Some.next) = subst (λ n. IsList c.args.self.now.rows n c.in-Some.next (f c.in-Some.next)) (sym c.number.ensures) (c.requires.trees.rows k c.in-Some.next) in
    ap (λ l. l ++ flat_map F (reverse c.add_unshut.new.out.items)) (c.in_ok-add_rows.ensures (f c.in-Some.next) mine)
    ∙ append_assoc c.loop-next.out.items (f c.in-Some.next) (flat_map F (reverse c.add_unshut.new.out.items))
    ∙ ap (λ l. c.loop-next.out.items ++ l) (one_raised (opens (own k P)) (λ x. has x (closes (own k P))) f w c.in-Some.next c.pop.new.self.items c.loop-next.left.items c.add_unshut.new.out.items
    c.in-Some.ensures.items
    (c.in_ok-add_unshut.ensures (of_scope (opens (own k P)) c.in-Some.next) (c.requires.trees.kids k c.in-Some.next)))
    ∙ c.loop-next.invariant

nothing_in : (xs : List ℕ) → length xs ≡ 0 → xs ≡ []
nothing_in [] e = refl
nothing_in (x ∷ xs) e = absurd (omega (arith, e))

pub returns : goal.returns
returns c =
    let P = take c.args.place c.args.past.now in
    let k = c.args.by in
    let F = raised_from (opens (own k P)) (λ x. has x (closes (own k P))) (of_scope (rows (own k P))) in
    let empty : length c.loop-next.left.items ≡ 0 = omega (arith, c.in_default.ensures.cases.0) in
    let none : c.loop-next.left.items ≡ [] = nothing_in c.loop-next.left.items empty in
    sym (append-nil c.loop-next.out.items)
    ∙ ap (λ l. c.loop-next.out.items ++ flat_map F (reverse l)) (sym none)
    ∙ c.loop-next.invariant
    ∙ ap (λ l. c.args.out.now.items ++ l) (sym (reverse_teardown (own k P) c.args.scope))
