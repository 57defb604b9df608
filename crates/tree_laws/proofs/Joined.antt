-- The ledger of a main tree, of the stream of a tree whose seat it took in.
use Rattle.std.proofs.Common.{◌≡◌, ℕ, Bool, List, [], sym, ap, ◌∙◌, subst, ⊎_elim}
use Rattle.chunk_core.specs.declared.code.Exit.{Exit}
use Rattle.chunk_core.specs.Lists.{IsAmong}
use Rattle.chunk_core.proofs.Filters.{among_append, among_right}
use Rattle.chunk_core.proofs.Members.{among_left, among_nil}
use Rattle.res_ledger.specs.declared.event.Event.{Event}
use Rattle.res_ledger.specs.declared.event.StreamNo.TheVariants.{Inner}
use Rattle.row_seat.specs.Views.{AreApart, CanJoin, IsLedgerOf, joined, name_of}
use Rattle.row_seat.proofs.Members.{among_without}
use Rattle.scope_tree.specs.Calls.{Seen}
use Rattle.tree_laws.specs.Called.{Called}
use Rattle.tree_laws.specs.Ends.{IsFinishedLedger}
use Rattle.tree_laws.proofs.After.{IsAfter, IsBack, folio}
use Rattle.tree_laws.proofs.Along.{called_after}

-- the seat that was taken in has all that the main seat has in its name, and later calls note nothing in that name
pub joined_finished : {P : Type 0} {ends : P → Exit → Bool → P → Type 0} {a b c d x : Seen P} {Cs Ds : List (ℕ × List ℕ)} (L : List Event) → a.seat.out ≡ [] → Called ends a Cs b → CanJoin b.seat x.seat → AreApart b.seat x.seat → c ≡ record b { seat = joined b.seat x.seat } → Called ends c Ds d → IsLedgerOf d.seat L → IsFinishedLedger x d.seat L
joined_finished {b = b} {d = d} {x = x} L none first can apart is then ledger =
    let v = b.seat in let w = x.seat in let j = can.1.0 in
    let named : w.by ≡ Inner j = can.1.1 in
    let had = (called_after first).given (λ n m. absurd (among_nil (subst (λ l. IsAmong n l) none m))) j can.1.2 in
    let name : j ≡ name_of w.by = sym (ap name_of named) in
    let back : IsBack (folio (joined v w)) j = (had.0, (λ m. (among_without (name_of w.by) v.out j m).1 name), had.1) in
    let after : IsAfter (folio (joined v w)) (folio d.seat) = subst (λ s. IsAfter (folio s) (folio d.seat)) (ap (λ z. z.seat) is) (called_after then) in
    let seen = (after.back j back).1 in
    record {
      ledger = ledger;
      own = λ e k. (
        (λ m. ⊎_elim (λ o. absurd (apart.mine e o k)) (λ o. o) (among_append e v.events w.events (seen e m (k ∙ named)))),
        (λ m. subst (λ l. IsAmong e l) (sym after.events) (among_left after.more (among_right e v.events w.events m))),
      );
    }
