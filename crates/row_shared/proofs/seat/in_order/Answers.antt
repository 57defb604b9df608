use Rattle.std.proofs.Common.{sym, ◌∙◌, subst, rules}
use Rattle.std.proofs.lemmas.List.Sorted.{IsNonDecreasingBy-from_sort_by_key}
use Rattle.res_ledger.specs.declared.event.Event.{Event}
use Rattle.res_ledger.specs.Ledger.{IsStamped}
use Rattle.row_shared.proofs.Ordering.{ordered_is}
use Rattle.row_shared.proofs.seat.in_order.Goals as goal

pub of_events-requires : goal.of_events-requires
of_events-requires c = let q = c.sort_unstable_by_key.ensures in let o = c.requires in
    let e = ordered_is c.args.events.items _ o.0 o.1 q.permutation (IsNonDecreasingBy-from_sort_by_key (λ (p : Event). p.stamp) _ q.sorted (λ a r f k. search rules)) in
    subst (λ l. IsStamped l) (sym e) o.1.stamped

pub returns : goal.returns
returns c = λ log o. let q = c.sort_unstable_by_key.ensures in c.of_events.ensures ∙ ordered_is c.args.events.items _ log o q.permutation (IsNonDecreasingBy-from_sort_by_key (λ (p : Event). p.stamp) _ q.sorted (λ a r f k. search rules))
