use Rattle.std.proofs.Common.{◌≡◌, sym, ap, ◌∙◌, subst, None}
use Rattle.chunk_core.specs.Lists.{IsAmong}
use Rattle.scope_tree.specs.Kept.{acquisition_pairs}
use Rattle.scope_tree.specs.Released.{said}
use Rattle.scope_tree.specs.Standings.{found}
use Rattle.scope_tree.specs.Trees.{seen}
use Rattle.scope_tree.specs.Walks.{Clear, Shaded}
use Rattle.scope_tree.proofs.Statuses.{found_some, none_of, stands_empty, stands_final, stands_left, stands_open}
use Rattle.scope_tree.proofs.Walking.{clear_open, shaded_closed}
use Rattle.scope_tree.proofs.tree.Tree.status.Goals as goal

pub is_open-requires-clause-scope : goal.is_open-requires-clause-scope
is_open-requires-clause-scope g c =
    let hs = c.args.self.now.acquisitions.items in let r = c.args.row in let s = c.in-Some-scope_of.scope in
    let m : IsAmong (r, s) (acquisition_pairs hs) = found_some r s (acquisition_pairs hs) (sym (ap (λ l. found r (acquisition_pairs l)) c.deref-2.ensures.value) ∙ sym c.scope_of.ensures ∙ c.in-Some-scope_of.is) in
    rw c.deref-in-Some-scope_of.ensures.value (c.requires.tree.kept.mirrors.ranged r s m)

pub is_open-requires-clause-parents : goal.is_open-requires-clause-parents
is_open-requires-clause-parents g c = rw c.deref-in-Some-scope_of.ensures.value c.requires.tree.kept.mirrors.parents

pub returns-in-Some : goal.returns-in-Some
returns-in-Some g c =
    let t = c.args.self.now in let a = seen g.S.RowSeat.view t in let r = c.args.row in
    stands_final a t.branches.items t.acquisitions.items c.requires.tree.kept c.requires.tree.shelved r c.in-Some.ok (found_some r c.in-Some.ok (said t.shelf.items) (sym (ap (λ l. found r (said l)) c.deref.ensures.value) ∙ sym c.outcome.ensures ∙ c.in-Some.is))

pub returns-in-None : goal.returns-in-None
returns-in-None g c =
    let t = c.args.self.now in let a = seen g.S.RowSeat.view t in let hs = t.acquisitions.items in let r = c.args.row in
    let none : found r (said t.shelf.items) ≡ None = sym (ap (λ l. found r (said l)) c.deref.ensures.value) ∙ sym c.outcome.ensures ∙ none_of c.outcome.result c.in_default.not-Some in
    stands_empty a t.branches.items hs c.requires.tree.kept c.requires.tree.shelved r none (sym (ap (λ l. found r (acquisition_pairs l)) c.deref-2.ensures.value) ∙ sym c.scope_of.ensures ∙ c.in-None.is)

pub returns-then-is_open : goal.returns-then-is_open
returns-then-is_open g c =
    let t = c.args.self.now in let a = seen g.S.RowSeat.view t in let v = g.S.RowSeat.view t.seat in let bs = t.branches.items in let hs = t.acquisitions.items in let r = c.args.row in let s = c.in-Some-scope_of.scope in let k = c.requires.tree.kept in
    let none : found r (said t.shelf.items) ≡ None = sym (ap (λ l. found r (said l)) c.deref.ensures.value) ∙ sym c.outcome.ensures ∙ none_of c.outcome.result c.in_default.not-Some in
    let m : IsAmong (r, s) (acquisition_pairs hs) = found_some r s (acquisition_pairs hs) (sym (ap (λ l. found r (acquisition_pairs l)) c.deref-2.ensures.value) ∙ sym c.scope_of.ensures ∙ c.in-Some-scope_of.is) in
    let x : Clear bs s = subst (λ b. Clear b s) c.deref-in-Some-scope_of.ensures.value (c.is_open.ensures.open c.if-is_open.true) in
    stands_open a bs hs k c.requires.tree.shelved r none s m (clear_open v bs hs k s (k.mirrors.ranged r s m) x)

pub returns-else-is_open : goal.returns-else-is_open
returns-else-is_open g c =
    let t = c.args.self.now in let a = seen g.S.RowSeat.view t in let v = g.S.RowSeat.view t.seat in let bs = t.branches.items in let hs = t.acquisitions.items in let r = c.args.row in let s = c.in-Some-scope_of.scope in let k = c.requires.tree.kept in
    let none : found r (said t.shelf.items) ≡ None = sym (ap (λ l. found r (said l)) c.deref.ensures.value) ∙ sym c.outcome.ensures ∙ none_of c.outcome.result c.in_default.not-Some in
    let m : IsAmong (r, s) (acquisition_pairs hs) = found_some r s (acquisition_pairs hs) (sym (ap (λ l. found r (acquisition_pairs l)) c.deref-2.ensures.value) ∙ sym c.scope_of.ensures ∙ c.in-Some-scope_of.is) in
    let x : Shaded bs s = subst (λ b. Shaded b s) c.deref-in-Some-scope_of.ensures.value (c.is_open.ensures.shut c.if-is_open.false) in
    stands_left a bs hs k c.requires.tree.shelved r none s m (shaded_closed v bs hs k s (k.mirrors.ranged r s m) x)
