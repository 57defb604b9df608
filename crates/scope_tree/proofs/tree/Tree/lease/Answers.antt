use Rattle.std.proofs.Common.{◌≡◌, refl, sym, ap, ◌∙◌, subst, arith, nat_eq}
use Rattle.res_ledger.specs.declared.event.What.TheVariants.{Lease}
use Rattle.chunk_core.proofs.Filters.{among_right}
use Rattle.res_ledger.specs.Own.{leased_rows}
use Rattle.row_seat.specs.declared.view.View.{View}
use Rattle.row_seat.specs.Views.{MayNote, noted}
use Rattle.scope_tree.specs.Kept.{Kept, Shelved}
use Rattle.scope_tree.specs.Leased.{leased_all, pairs_for}
use Rattle.std.specs.List.{IsDistinct}
use Rattle.scope_tree.specs.Trace.{owed, own_rows, trace}
use Rattle.scope_tree.proofs.Calling.{keeps_scopes, seated}
use Rattle.chunk_core.proofs.Distinct.{distinct_test}
use Rattle.scope_tree.proofs.Grown.{grown_back, owed_still}
use Rattle.scope_tree.proofs.Leasing.{among_pairs}
use Rattle.scope_tree.proofs.Leased.{lease_distinct, lease_event, lease_grown, lease_keeps, lease_none, lease_rows_open, lease_shelved}
use Rattle.scope_tree.specs.Rights.{AddsLease}
use Rattle.scope_tree.proofs.Rights.{lease_adds}
use Rattle.scope_tree.proofs.Rooms.{open_held, own_is, strangers_none}
use Rattle.scope_tree.proofs.Taking.{lease_takes}
use Rattle.chunk_core.specs.Lists.{IsAmong}
use Rattle.scope_tree.proofs.tree.Tree.lease.Goals as goal

pub lease_rows-requires-clause-rows : goal.lease_rows-requires-clause-rows
lease_rows-requires-clause-rows g c =
    let t = c.args.self.now in let v = g.S.RowSeat.view t.seat in let bs = t.branches.items in let hs = t.acquisitions.items in let z = c.requires.fits.sound in let s = c.args.scope in
    let e : c.deref.result.now ≡ leased_rows (trace v) s = c.deref.ensures.value ∙ c.in_ok-rows.ensures in
    rw e (lease_rows_open v bs hs t.shelf.items z.kept z.shelved s c.args.stream c.requires.scope, lease_distinct v bs hs t.shelf.items z.kept z.shelved s c.args.stream c.requires.scope)

pub lease_rows-requires-clause-none : goal.lease_rows-requires-clause-none
lease_rows-requires-clause-none g c =
    let t = c.args.self.now in let z = c.requires.fits.sound in let st = c.requires.stream in
    lease_none (g.S.RowSeat.view t.seat) t.branches.items t.acquisitions.items t.shelf.items z.kept z.shelved c.args.scope c.args.stream c.requires.scope st.0 st.2

pub note-requires-clause-event : goal.note-requires-clause-event
note-requires-clause-event g c =
    let t = c.args.self.now in let v = g.S.RowSeat.view t.seat in let z = c.requires.fits.sound in let T = c.in_ok-rows.rows.items in
    let e : g.S.RowSeat.view c.lease_rows.new.seat ≡ leased_all v c.args.stream T = c.lease_rows.ensures.seat ∙ ap (leased_all v c.args.stream) c.deref.ensures.value in
    subst (λ x. MayNote x (Lease c.args.stream c.args.scope)) (sym e) (lease_event v t.branches.items t.acquisitions.items t.shelf.items z.kept z.shelved c.args.scope c.args.stream c.requires.scope T c.in_ok-rows.ensures c.requires.main c.requires.stream)

pub invariant_of-result : goal.invariant_of-result
invariant_of-result g c =
    let t = c.args.self.now in let v = g.S.RowSeat.view t.seat in let z = c.requires.fits.sound in
    record { distinct = distinct_test c.in_ok-rows.rows.items (subst (IsDistinct nat_eq) (sym c.in_ok-rows.ensures) (lease_distinct v t.branches.items t.acquisitions.items t.shelf.items z.kept z.shelved c.args.scope c.args.stream c.requires.scope)) }

pub returns-clause-ok : goal.returns-clause-ok
returns-clause-ok g c =
    let t = c.args.self.now in let v = g.S.RowSeat.view t.seat in let j = c.args.stream in let T = c.in_ok-rows.rows.items in
    let e : g.S.RowSeat.view c.lease_rows.new.seat ≡ leased_all v j T = c.lease_rows.ensures.seat ∙ ap (leased_all v j) c.deref.ensures.value in (
      refl,
      record {
        covered = c.in_ok-rows.ensures;
        stamp = c.note.result;
        fresh = rw e at c.note.ensures.stamp;
        seat = c.note.ensures.view ∙ ap (λ x. let y : View _ = noted x (record { stamp = c.note.result; by = x.by; what = Lease j c.args.scope }) in y) e;
        shelf = refl;
        scopes = refl;
        rows = refl;
      },
    )

pub returns-clause-scopes : goal.returns-clause-scopes
returns-clause-scopes g c =
    let t = c.args.self.now in let v = g.S.RowSeat.view t.seat in let z = c.requires.fits.sound in let o = (returns-clause-ok g c).1 in
    let grown = lease_grown v t.branches.items t.acquisitions.items t.shelf.items z.kept z.shelved c.args.scope c.args.stream c.requires.scope o.stamp c.in_ok-rows.rows.items o.covered in
    keeps_scopes _ o.seat grown (λ s u x. grown_back grown refl refl s x)

pub returns-clause-pairs : goal.returns-clause-pairs
returns-clause-pairs g c = λ r m. let o = (returns-clause-ok g c).1 in rw o.seat (among_right (c.args.stream, r) (g.S.RowSeat.view c.args.self.now.seat).pairs (pairs_for c.args.stream c.in_ok-rows.rows.items) (among_pairs c.args.stream r c.in_ok-rows.rows.items m))

pub returns-clause-owed : goal.returns-clause-owed
returns-clause-owed g c =
    let t = c.args.self.now in let v = g.S.RowSeat.view t.seat in let z = c.requires.fits.sound in let o = (returns-clause-ok g c).1 in
    ap owed o.seat ∙ owed_still (lease_grown v t.branches.items t.acquisitions.items t.shelf.items z.kept z.shelved c.args.scope c.args.stream c.requires.scope o.stamp c.in_ok-rows.rows.items o.covered) refl refl refl

pub returns-clause-fits : goal.returns-clause-fits
returns-clause-fits g c =
    let t = c.args.self.now in let v = g.S.RowSeat.view t.seat in let bs = t.branches.items in let hs = t.acquisitions.items in let xs = t.shelf.items in let z = c.requires.fits.sound in let o = (returns-clause-ok g c).1 in
    let keeps = lease_keeps v bs hs xs z.kept z.shelved c.args.scope c.args.stream c.requires.scope o.stamp c.in_ok-rows.rows.items o.covered c.requires.free in
    let shelved = lease_shelved v bs hs xs z.kept z.shelved c.args.scope c.args.stream c.requires.scope o.stamp c.in_ok-rows.rows.items o.covered o.fresh in
    record { seat = c.note.ensures.fits; sound = seated g.S.RowSeat.view t c.note.new.self (subst (λ x. Kept x bs hs) (sym o.seat) keeps) (subst (λ x. Shelved x hs xs) (sym o.seat) shelved) z }

pub returns-clause-leases : goal.returns-clause-leases
returns-clause-leases g c =
    let v = g.S.RowSeat.view c.args.self.now.seat in let j = c.args.stream in let T = c.in_ok-rows.rows.items in let o = (returns-clause-ok g c).1 in
    subst (λ w. AddsLease v j T w) (sym o.seat) (lease_adds v c.args.scope j o.stamp T c.requires.stream.0)

pub returns-clause-room : goal.returns-clause-room
returns-clause-room g c = lease_takes (returns-clause-ok g c).1

pub returns-clause-own : goal.returns-clause-own
returns-clause-own g c =
    let t = c.args.self.now in let v = g.S.RowSeat.view t.seat in let z = c.requires.fits.sound in let T = c.in_ok-rows.rows.items in let o = (returns-clause-ok g c).1 in
    let few = (lease_takes o).own T in
    let none = strangers_none (own_rows v) T (λ r m. subst (λ l. IsAmong r l) (sym (own_is v t.branches.items t.acquisitions.items z.kept)) (open_held v t.branches.items t.acquisitions.items z.kept r (lease_rows_open v t.branches.items t.acquisitions.items t.shelf.items z.kept z.shelved c.args.scope c.args.stream c.requires.scope r (subst (λ l. IsAmong r l) o.covered m)))) in
    omega (few, none, arith)
