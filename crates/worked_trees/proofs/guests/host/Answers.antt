use Rattle.std.proofs.Common.{[], ◌∷◌, inl, refl, sym, ap, ◌∙◌, subst}
use Rattle.chunk_core.specs.Lists.{IsAmong}
use Rattle.chunk_core.specs.Lists.IsAmong.{here}
use Rattle.res_ledger.specs.Own.{closes}
use Rattle.row_seat.specs.declared.view.View.{View}
use Rattle.scope_tree.specs.Trees.{seen}
use Rattle.scope_tree.specs.Trace.{trace}
use Rattle.scope_tree.proofs.Use.{all_open}
use Rattle.tree_scripts.proofs.Visits.{host_acquired, host_leased, host_leases, host_of, host_open, host_splits, host_unleased, outer_inner}
use Rattle.worked_trees.proofs.guests.host.Goals as goal

pub acquired-requires-clause-row : goal.acquired-requires-clause-row
acquired-requires-clause-row g c = subst (λ (v : View _). IsAmong 0 v.empty) (sym (ap (λ x. x.seat) c.new-tree.ensures.seen ∙ c.requires.start)) (here (1 ∷ []))

pub lease-requires-clause-scope : goal.lease-requires-clause-scope
lease-requires-clause-scope g c =
    let e = host_acquired (ap (λ x. x.seat) c.new-tree.ensures.seen ∙ c.requires.start) c.acquired.ensures.acquires in
    all_open (g.S.RowSeat.view c.acquired.new.self.seat) 0 (ap (λ v. closes (trace v)) e) (inl refl)

pub lease-requires-clause-stream : goal.lease-requires-clause-stream
lease-requires-clause-stream g c = host_unleased (host_acquired (ap (λ x. x.seat) c.new-tree.ensures.seen ∙ c.requires.start) c.acquired.ensures.acquires)

pub split-requires-clause-can : goal.split-requires-clause-can
split-requires-clause-can g c =
    let e = host_acquired (ap (λ x. x.seat) c.new-tree.ensures.seen ∙ c.requires.start) c.acquired.ensures.acquires in
    let o = (rw c.expect-lease.ensures at c.lease.ensures.ok).1 in
    host_splits (host_leased e o) c.lease.ensures.fits.sound.kept.rests.empty (host_leases o) c.requires.splits

pub close-requires-clause-scope : goal.close-requires-clause-scope
close-requires-clause-scope g c =
    let e = host_acquired (ap (λ x. x.seat) c.new-tree.ensures.seen ∙ c.requires.start) c.acquired.ensures.acquires in
    let o = (rw c.expect-lease.ensures at c.lease.ensures.ok).1 in let s = rw c.expect-guest.ensures at c.split.ensures.ok in
    host_open (seen g.S.RowSeat.view c.split.new.self) (g.S.RowSeat.view c.lease.new.self.seat) (host_leased e o) (ap (λ x. x.seat) s.0)

pub returns-clause-host : goal.returns-clause-host
returns-clause-host g c =
    let e = host_acquired (ap (λ x. x.seat) c.new-tree.ensures.seen ∙ c.requires.start) c.acquired.ensures.acquires in
    let o = (rw c.expect-lease.ensures at c.lease.ensures.ok).1 in let s = rw c.expect-guest.ensures at c.split.ensures.ok in
    host_of (host_leased e o) (ap (λ x. x.seat) s.0) c.close.ensures.closes

pub returns-clause-fits : goal.returns-clause-fits
returns-clause-fits g c =
    let e = host_acquired (ap (λ x. x.seat) c.new-tree.ensures.seen ∙ c.requires.start) c.acquired.ensures.acquires in
    let o = (rw c.expect-lease.ensures at c.lease.ensures.ok).1 in let s = rw c.expect-guest.ensures at c.split.ensures.ok in
    (c.close.ensures.fits, c.close.ensures.others c.expect-guest.result (λ x. outer_inner (sym (ap (λ v. v.by) (host_leased e o)) ∙ sym (ap (λ a. a.seat.by) s.0) ∙ sym x ∙ ap (λ v. v.by) s.1)) s.2)
