use Rattle.std.proofs.Common.{◌≡◌, IfSome, refl, sym, subst, Some, None, inl}
use Rattle.scope_tree.specs.Trees.{seen}
use Rattle.tree_laws.specs.Alone.{StaysAlone}
use Rattle.tree_laws.specs.Called.{Called}
use Rattle.tree_laws.specs.Called.Called.{opened, acquired, closed}
use Rattle.hot_swap.specs.declared.swap.Held.{Held}
use Rattle.hot_swap.specs.Swaps.{seen_tree, held, IsHolding, TakesPlace}
use Rattle.hot_swap.proofs.Holding.{Between, root_first, root_open, held_open, between, kept_none, kept_some}
use Rattle.hot_swap.proofs.Turns.{stays_three, stays_two, takes_none, takes_some}
use Rattle.hot_swap.proofs.swap.Hotswap.swap.Goals as goal
use Rattle.hot_swap.proofs.swap.Hotswap.swap.Goals.{in-Some, in_default}

pub open-scope-requires-clause-root : goal.open-scope-requires-clause-root
open-scope-requires-clause-root g c = (root_open (seen_tree g.S.RowSeat.view c.args.self.now) (held c.args.self.now) c.requires.holding).1

pub close-requires-clause-scope : goal.close-requires-clause-scope
close-requires-clause-scope g c =
    let a = seen_tree g.S.RowSeat.view c.args.self.now in
    let h : IsHolding a (Some c.in-Some.held) = subst (IsHolding a) c.in-Some.is c.requires.holding in
    c.acquired.ensures.scopes.usable c.in-Some.held.scope (c.open-scope.ensures.scopes.usable c.in-Some.held.scope (held_open a (Some c.in-Some.held) h c.in-Some.held.scope refl))

pub returns-clause-holding : goal.returns-clause-holding
returns-clause-holding g c =
    let view = g.S.RowSeat.view in
    let k : Held = record { row = c.args.row; scope = c.open-scope.result } in
    let a = seen view c.args.self.now.tree in
    let d = seen view c.acquired.new.self in
    let t : Between d c.args.self.now.held k = between a (seen view c.open-scope.new.self) d c.args.self.now.held k c.args.pay c.requires.holding c.open-scope.ensures.opens c.open-scope.ensures.child c.acquired.ensures.acquires in
    elim c.match-self.branch [
      | in-Some w ↦ subst (λ h. IsHolding (seen view h.tree) (Some k)) (sym w.self-is) (kept_some d (seen view w.close.new.self) w.in-Some.held k (subst (λ o. Between d o k) w.in-Some.is t) w.close.ensures.closes)
      | in_default w ↦ subst (λ h. IsHolding (seen view h.tree) (Some k)) (sym w.self-is) (kept_none d k (subst (λ o. Between d o k) w.in_default.is t))
    ]

pub returns-clause-swaps : goal.returns-clause-swaps
returns-clause-swaps g c = λ u.
    let view = g.S.RowSeat.view in
    let k : Held = record { row = c.args.row; scope = c.open-scope.result } in
    let a = seen view c.args.self.now.tree in
    let b = seen view c.open-scope.new.self in
    let d = seen view c.acquired.new.self in
    let o = c.open-scope.ensures.opens in
    let q = c.acquired.ensures.acquires in
    let root = root_first a c.args.self.now.held o.parent c.requires.holding o.nearest refl in
    let t : Between d c.args.self.now.held k = between a b d c.args.self.now.held k c.args.pay c.requires.holding o c.open-scope.ensures.child q in
    elim c.match-self.branch [
      | in-Some w ↦ subst (λ h. TakesPlace g.S.Pay.Finish.ends a c.args.self.now.held c.args.row c.args.pay (seen view h.tree) k) (sym w.self-is)
          (subst (λ x. TakesPlace g.S.Pay.Finish.ends a x c.args.row c.args.pay (seen view w.close.new.self) k) (sym w.in-Some.is)
          (takes_some a b d k c.args.pay o q root (seen view w.close.new.self) w.in-Some.held (subst (λ x. Between d x k) w.in-Some.is t) u w.close.ensures.closes))
      | in_default w ↦ subst (λ h. TakesPlace g.S.Pay.Finish.ends a c.args.self.now.held c.args.row c.args.pay (seen view h.tree) k) (sym w.self-is)
          (subst (λ x. TakesPlace g.S.Pay.Finish.ends a x c.args.row c.args.pay d k) (sym w.in_default.is) (takes_none a b d k c.args.pay o q root))
    ]

pub returns-clause-alone : goal.returns-clause-alone
returns-clause-alone g c =
    let view = g.S.RowSeat.view in
    let k : Held = record { row = c.args.row; scope = c.open-scope.result } in
    let a = seen view c.args.self.now.tree in
    let b = seen view c.open-scope.new.self in
    let d = seen view c.acquired.new.self in
    elim c.match-self.branch [
      | in-Some w ↦ subst (λ h. StaysAlone a.seat (view h.tree.seat)) (sym w.self-is) (stays_three a b d k c.args.pay c.open-scope.ensures.opens c.acquired.ensures.acquires (seen view w.close.new.self) w.close.ensures.closes)
      | in_default w ↦ subst (λ h. StaysAlone a.seat (view h.tree.seat)) (sym w.self-is) (stays_two a b d k c.args.pay c.open-scope.ensures.opens c.acquired.ensures.acquires)
    ]

pub returns-clause-calls : goal.returns-clause-calls
returns-clause-calls g c = λ a Cs n.
    let view = g.S.RowSeat.view in
    let b = seen view c.args.self.now.tree in
    let o = seen view c.open-scope.new.self in
    let d = seen view c.acquired.new.self in
    let m : Called g.S.Pay.Finish.ends a Cs d =
    acquired o d c.open-scope.result c.args.row c.args.pay
    (opened b o 0 c.open-scope.result n (record { root = (root_open b c.args.self.now.held c.requires.holding).1; known = inl refl; room = c.requires.scopes }) c.open-scope.ensures.opens)
    (record { scope = c.open-scope.ensures.child; row = c.open-scope.ensures.empty c.args.row c.requires.row })
    c.acquired.ensures.acquires in
    elim c.match-self.branch [
      | in-Some w ↦ subst (λ h. Called g.S.Pay.Finish.ends a Cs (seen view h.tree)) (sym w.self-is)
          (closed d (seen view w.close.new.self) w.in-Some.held.scope _ m
          (c.acquired.ensures.scopes.usable w.in-Some.held.scope (c.open-scope.ensures.scopes.usable w.in-Some.held.scope (held_open b (Some w.in-Some.held) (subst (IsHolding b) w.in-Some.is c.requires.holding) w.in-Some.held.scope refl)))
          w.close.ensures.closes)
      | in_default w ↦ subst (λ h. Called g.S.Pay.Finish.ends a Cs (seen view h.tree)) (sym w.self-is) m
    ]
