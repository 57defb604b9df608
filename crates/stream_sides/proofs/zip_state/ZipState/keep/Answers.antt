use Rattle.std.proofs.Common.{◌≡◌, ℕ, ◌≤◌, List, length, Some, ap, ◌∙◌, sym, arith}
use Rattle.stream_sides.proofs.Behind.{came_waits, waits_further}
use Rattle.stream_sides.proofs.zip_state.ZipState.keep.Goals as goal
use Rattle.stream_sides.proofs.zip_state.ZipState.keep.Goals.{in_default-via-in-Some+else-pairs-len, in_default-via-in_default}

pub returns-in_ok-split-in-Some-clause-rest : goal.returns-in_ok-split-in-Some-clause-rest
returns-in_ok-split-in-Some-clause-rest c =
    waits_further c.args.self.now c.self.inside.side c.args.side c.self.inside.waiting c.in-Some.waiting c.split.new.self c.args.lines c.args.pairs
    (sym c.self.view_is) c.in-Some.is c.in_ok-split-in-Some.ensures.rest c.requires.needed c.requires.count (omega arith)

pub returns-in_ok-self-inside-in_default-clause-rest : goal.returns-in_ok-self-inside-in_default-clause-rest
returns-in_ok-self-inside-in_default-clause-rest c =
    let none_more : (ws : List (List ℕ)) → c.self.inside.waiting ≡ Some ws → length ws ≤ c.args.pairs =
    λ ws h. elim c.in_default.branch [
      | in_default-via-in-Some+else-pairs-len w ↦ (let same : ws ≡ w.in-Some.waiting = cc in omega (arith, ap length same))
      | in_default-via-in_default w ↦ absurd (w.in_default.not-Some ws h)
    ] in
    c.in_ok-self-inside-in_default.ensures c.args.side
    ∙ came_waits c.args.self.now c.self.inside.side c.args.side c.self.inside.waiting c.args.lines c.args.pairs (sym c.self.view_is) c.requires.needed c.requires.count none_more
