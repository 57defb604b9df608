use Rattle.std.proofs.Common.{◌≡◌, ◌++◌, ◌∷◌, [], length, reverse, take}
use Rattle.std.specs.List.{flat_map}
use Rattle.chunk_core.specs.Lists.{has}
use Rattle.res_ledger.specs.Own.{own, opens, closes, rows}
use Rattle.ledger_audit.specs.Trees.{of_scope, raised_from}
use Rattle.ledger_audit.proofs.trees.Trees.add_torn.Given as goal

abbrev pub invariant-loop-next : goal.invariant-loop-next
invariant-loop-next l =
    l.out.items ++ flat_map (raised_from (opens (own l.by (take l.place l.past))) (λ c. has c (closes (own l.by (take l.place l.past)))) (of_scope (rows (own l.by (take l.place l.past))))) (reverse l.left.items)
    ≡ l.initial.out.items ++ raised_from (opens (own l.by (take l.place l.past))) (λ c. has c (closes (own l.by (take l.place l.past)))) (of_scope (rows (own l.by (take l.place l.past)))) l.scope

abbrev pub decreases-loop-next : goal.decreases-loop-next
decreases-loop-next l = length (flat_map (raised_from (opens (own l.by (take l.place l.past))) (λ c. has c (closes (own l.by (take l.place l.past)))) (λ c. c ∷ [])) (reverse l.left.items))
