use Rattle.std.proofs.Common.{◌≡◌, true, false, sym, ◌∙◌, subst, ⊎_elim}
use Rattle.chunk_core.specs.Lists.{IsAmong}
use Rattle.chunk_core.proofs.Members.{among_nil}
use Rattle.scope_tree.proofs.Grows.{pair_of_row}
use Rattle.scope_tree.proofs.Keeps.{nothing_open}
use Rattle.scope_tree.proofs.Rooms.{own_is}
use Rattle.scope_tree.proofs.Rights.{at_rest}
use Rattle.scope_tree.proofs.tree.Tree.end.Goals as goal

pub returns-clause-finals : goal.returns-clause-finals
returns-clause-finals g c = rw c.of_vec.ensures c.requires.tree.shelved.said_are

pub returns-clause-ended : goal.returns-clause-ended
returns-clause-ended g c = λ main r m.
    let t = c.args.self in let v = g.S.RowSeat.view t.seat in let bs = t.branches.items in let hs = t.acquisitions.items in let k = c.requires.tree.kept in
    let p = pair_of_row r hs (subst (λ l. IsAmong r l) (own_is v bs hs k) m) in
    rw c.of_vec.ensures (⊎_elim (λ h. absurd (among_nil (subst (λ l. IsAmong (r, h.0) l) (nothing_open v bs hs k c.requires.closed) h.1))) (λ o. ⊎_elim (λ i. i) (λ y. absurd (let z : true ≡ false = sym y.0 ∙ main in cc)) o) (c.requires.tree.shelved.ended r p.0 p.1))

pub returns-clause-rising : goal.returns-clause-rising
returns-clause-rising g c = c.requires.tree.shelved.rises

pub returns-clause-rest : goal.returns-clause-rest
returns-clause-rest g c =
    let t = c.args.self in let k = c.requires.tree.kept in
    (nothing_open (g.S.RowSeat.view t.seat) t.branches.items t.acquisitions.items k c.requires.closed, k.rests.handed, k.rests.taken, k.rests.empty)

pub returns-clause-at_rest : goal.returns-clause-at_rest
returns-clause-at_rest g c = λ none. let r = returns-clause-rest g c in at_rest (g.S.RowSeat.view c.args.self.seat) none r.0 r.3 r.1 r.2

pub returns-clause-finish : goal.returns-clause-finish
returns-clause-finish g c = λ main out none. (main, returns-clause-at_rest g c none, out)
