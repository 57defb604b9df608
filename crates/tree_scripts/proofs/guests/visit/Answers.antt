use Rattle.std.proofs.Common.{◌+◌, ◌≤◌, refl, sym, ap, ◌∙◌, subst, arith}
use Rattle.chunk_core.specs.Lists.{IsAmong}
use Rattle.res_ledger.specs.declared.event.What.TheVariants.{Cancel}
use Rattle.row_seat.specs.Views.{MayNote}
use Rattle.scope_tree.specs.Calls.{used}
use Rattle.tree_scripts.specs.Guests.{HasVisited, IsGuest}
use Rattle.scope_tree.specs.Released.{away}
use Rattle.scope_tree.specs.Rows.{strangers}
use Rattle.scope_tree.specs.Trees.{seen}
use Rattle.scope_tree.specs.Trace.{owed, own_rows}
use Rattle.scope_tree.proofs.Use.{closed_now}
use Rattle.tree_scripts.proofs.Visits.{guest_begins, guest_by, guest_cancels, guest_free, guest_leases, guest_may, guest_open, guest_rests, guest_room, guest_visited}
use Rattle.tree_scripts.proofs.guests.visit.Goals as goal
use Rattle.chunk_core.specs.declared.code.Exit.TheVariants.{Errored}
use Rattle.scope_tree.proofs.Use.{cancel_closed}

pub acquired-requires-clause-row : goal.acquired-requires-clause-row
acquired-requires-clause-row g c = (guest_begins (seen g.S.RowSeat.view c.new-tree.result) (subst IsGuest (sym (ap (λ x. x.seat) c.new-tree.ensures.seen)) c.requires.guest)).1

pub close-requires-clause-scope : goal.close-requires-clause-scope
close-requires-clause-scope g c = guest_open (subst IsGuest (sym (ap (λ x. x.seat) c.new-tree.ensures.seen)) c.requires.guest) c.acquired.ensures.acquires

pub cancel-requires-clause-may : goal.cancel-requires-clause-may
cancel-requires-clause-may g c =
    let a = subst IsGuest (sym (ap (λ x. x.seat) c.new-tree.ensures.seen)) c.requires.guest in
    subst (λ j. MayNote (g.S.RowSeat.view c.close.new.self.seat) (Cancel j Errored)) (sym c.requires.lease.0) (guest_may a c.acquired.ensures.acquires c.close.ensures.closes)

pub cancel-requires-clause-pairs : goal.cancel-requires-clause-pairs
cancel-requires-clause-pairs g c = λ r m.
    let a = subst IsGuest (sym (ap (λ x. x.seat) c.new-tree.ensures.seen)) c.requires.guest in
    subst (λ j. IsAmong (j, r) (g.S.RowSeat.view c.close.new.self.seat).pairs) (sym c.requires.lease.0) (guest_leases a c.acquired.ensures.acquires c.close.ensures.closes r (subst (λ l. IsAmong r l) c.requires.lease.1 m))

pub cancel-requires-clause-room : goal.cancel-requires-clause-room
cancel-requires-clause-room g c =
    let a = subst IsGuest (sym (ap (λ x. x.seat) c.new-tree.ensures.seen)) c.requires.guest in let k = c.close.ensures.closes in let o = c.acquired.ensures.acquires in
    let n = guest_room a o k (ap (λ x. x.shelf) c.new-tree.ensures.seen) in
    let rows = k.rows ∙ o.rows ∙ ap (λ x. x.rows) c.new-tree.ensures.seen in let two = c.requires.room in
    subst (λ l. used (seen g.S.RowSeat.view c.close.new.self) + strangers (own_rows (g.S.RowSeat.view c.close.new.self.seat)) l ≤ c.close.new.self.rows) (sym c.requires.lease.1) (omega (n, rows, two, arith))

pub cancel-requires-clause-free : goal.cancel-requires-clause-free
cancel-requires-clause-free g c =
    let a = subst IsGuest (sym (ap (λ x. x.seat) c.new-tree.ensures.seen)) c.requires.guest in let v = g.S.RowSeat.view c.close.new.self.seat in
    subst (λ l. owed v + 1 + away l v.opened ≤ v.spare) (sym c.requires.lease.1) (guest_free a c.acquired.ensures.acquires c.close.ensures.closes)

pub end-seat-requires-clause-closed : goal.end-seat-requires-clause-closed
end-seat-requires-clause-closed g c = cancel_closed c.cancel.ensures.cancels 0 (closed_now c.close.ensures.closes)

pub returns-clause-rest : goal.returns-clause-rest
returns-clause-rest g c =
    let a = subst IsGuest (sym (ap (λ x. x.seat) c.new-tree.ensures.seen)) c.requires.guest in let o = c.acquired.ensures.acquires in let k = c.close.ensures.closes in
    let r = guest_rests a o k (guest_cancels a o k c.requires.lease.0 c.requires.lease.1 c.cancel.ensures.cancels) in let e = c.end-seat.ensures.rest in
    let is = c.end-seat.ensures.seat in
    ((e.0, e.3, ap (λ v. v.pairs) is ∙ r.1, ap (λ v. v.kept) is ∙ r.2, e.1, e.2), ap (λ v. v.by) is ∙ r.0)

pub returns-clause-others : goal.returns-clause-others
returns-clause-others g c = λ s ne f.
    let a = subst IsGuest (sym (ap (λ x. x.seat) c.new-tree.ensures.seen)) c.requires.guest in let o = c.acquired.ensures.acquires in let k = c.close.ensures.closes in
    let x = c.acquired.ensures.others s (λ e. ne (e ∙ a.by)) f in
    let y = c.close.ensures.others s (λ e. ne (e ∙ ap (λ v. v.by) o.seat ∙ a.by)) x in
    c.cancel.ensures.others s (λ e. ne (e ∙ guest_by a o k)) y

pub returns-clause-visited : goal.returns-clause-visited
returns-clause-visited g c =
    let a = subst IsGuest (sym (ap (λ x. x.seat) c.new-tree.ensures.seen)) c.requires.guest in let o = c.acquired.ensures.acquires in let k = c.close.ensures.closes in
    subst HasVisited (sym c.end-seat.ensures.seat) (guest_visited a o k refl (guest_cancels a o k c.requires.lease.0 c.requires.lease.1 c.cancel.ensures.cancels))
