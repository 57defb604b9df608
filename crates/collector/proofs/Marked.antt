-- What a mark of the main tree tells of the close of its root.
use Rattle.std.proofs.Common.{◌≡◌, ◌≤◌, ℕ, Bool, None, ◌∙◌, sym, subst, arith}
use Rattle.chunk_core.specs.declared.code.Exit.{Exit}
use Rattle.chunk_core.specs.declared.code.How.{How}
use Rattle.join_tree.specs.Mains.{IsMain, IsRoot}
use Rattle.join_tree.specs.Progress.{Progress}
use Rattle.row_seat.specs.Fronts.{StandsBehind, sight_of}
use Rattle.row_seat.specs.declared.front.Sight.{Sight}
use Rattle.scope_tree.specs.Calls.{IsOpenScope, Seen}
use Rattle.pull_stepper.proofs.Marking.{closed_behind}
use Rattle.collector.specs.Starting.{ClosesOuter, ClosesOuterBehind}

-- the root, which was open at the mark, was closed behind the front that was seen then
pub closes_behind : {P : Type 0} {ends : P → Exit → Bool → P → Type 0} {h : How} (a b : Seen P) (width n : ℕ) (p : Progress P) (m : IsMain ends width n a p) (none : p.root ≡ None) → ClosesOuter ends h a b → (x : Sight) → x ≡ sight_of a.seat x.front → StandsBehind x b.seat.events → (at : ℕ) → at ≤ x.front → ClosesOuterBehind at b
closes_behind a b width n p m none close x is behind at least e y i by what =
    let root : IsOpenScope a 0 = subst (λ r. IsRoot a r) none m.root in
    let all = closed_behind close.called x is behind root e y i (by ∙ sym (close.main width n p m none).by) what in
    omega (arith, least, all)
