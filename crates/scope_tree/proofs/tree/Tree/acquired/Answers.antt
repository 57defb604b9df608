use Rattle.std.proofs.Common.{◌≡◌, [], ◌∷◌, ◌++◌, refl, sym, ap, ◌∙◌, subst, arith}
use Rattle.row_seat.proofs.Members.{among_kept}
use Rattle.chunk_core.proofs.Members.{among_last}
use Rattle.row_seat.specs.Views.{placed, noted}
use Rattle.scope_tree.specs.Trace.{acquiring, owed}
use Rattle.scope_tree.specs.Kept.{Kept}
use Rattle.res_ledger.specs.Order.{firsts}
use Rattle.scope_tree.specs.declared.branch.AcquiredRow.{AcquiredRow}
use Rattle.scope_tree.specs.Released.{said}
use Rattle.scope_tree.specs.Kept.{Shelved}
use Rattle.scope_tree.proofs.Rooms.{used_is}
use Rattle.scope_tree.proofs.Shelving.{acquire_shelved}
use Rattle.scope_tree.proofs.Calling.{keeps_scopes}
use Rattle.scope_tree.proofs.Grown.{grown_back}
use Rattle.scope_tree.proofs.Grows.{acquire_keeps, acquired_grown, acquired_owed}
use Rattle.res_ledger.specs.declared.event.What.TheVariants.{Acquire}
use Rattle.scope_tree.specs.Calls.{AcquiresRow}
use Rattle.scope_tree.specs.Trees.{seen}
use Rattle.scope_tree.proofs.Rights.{note_leases}
use Rattle.scope_tree.proofs.Taking.{acquire_takes}
use Rattle.scope_tree.proofs.tree.Tree.acquired.Goals as goal

pub place-requires-clause-row : goal.place-requires-clause-row
place-requires-clause-row g c = rw c.note.ensures.view (c.requires.row, (c.args.scope, (_, among_last _ _, refl, refl)))

pub push_reserved-requires : goal.push_reserved-requires
push_reserved-requires g c =
    let t = c.args.self.now in let k = c.requires.fits.sound.kept in let a = c.requires.room in let b = c.requires.fits.sound.acquisitions in
    let u = used_is (g.S.RowSeat.view t.seat) t.branches.items t.acquisitions.items k (firsts (said t.shelf.items)) in let z = t.acquisitions.ok.0 in
    omega (u, a, b, z, arith)

pub returns-clause-room : goal.returns-clause-room
returns-clause-room g c =
    let t = c.args.self.now in let v = g.S.RowSeat.view t.seat in let r = c.args.row in
    let e : g.S.RowSeat.view c.place.new.self ≡ placed (noted v (acquiring v r c.args.scope c.note.result)) r c.args.pay = rw (c.place.ensures.view, c.note.ensures.view) refl in
    let o : AcquiresRow (seen g.S.RowSeat.view t) c.args.scope r c.args.pay _ = record { stamp = c.note.result; fresh = c.note.ensures.stamp; seat = e; shelf = refl; scopes = refl; rows = refl } in
    acquire_takes o (c.requires.fits.sound.shelved.empty r c.requires.row)

pub returns-clause-fits : goal.returns-clause-fits
returns-clause-fits g c =
    let t = c.args.self.now in let s = c.args.scope in let r = c.args.row in let hs = t.acquisitions.items in let bs = t.branches.items in let v = g.S.RowSeat.view t.seat in let n = c.note.result in
    let w = g.S.RowSeat.view c.place.new.self in let w' = placed (noted v (acquiring v r s n)) r c.args.pay in let h : AcquiredRow = record { row = r; scope = s } in
    let z = c.requires.fits.sound in
    let e : w ≡ w' = rw (c.place.ensures.view, c.note.ensures.view) refl in
    let k : Kept w bs (hs ++ h ∷ []) = subst (λ x. Kept x bs (hs ++ h ∷ [])) (sym e) (acquire_keeps v bs hs r s n c.args.pay z.kept c.requires.scope c.requires.row c.requires.free) in
    let u = (returns-clause-room g c).used in let a = c.requires.room in
    let cap = c.push_reserved.ensures.capacity in let b = z.acquisitions in record {
      seat = c.place.ensures.fits;
      sound = record {
        kept = subst (λ x. Kept w bs x) (sym c.push_reserved.ensures.items) k;
        shelved = subst (λ x. Shelved w x t.shelf.items) (sym c.push_reserved.ensures.items) (subst (λ x. Shelved x (hs ++ h ∷ []) t.shelf.items) (sym e) (acquire_shelved v bs hs t.shelf.items z.kept z.shelved r s n c.args.pay c.requires.row c.note.ensures.stamp));
        used = omega (u, a, arith);
        branches = z.branches;
        acquisitions = omega (cap, b, arith);
        shelf = z.shelf;
        limit = z.limit;
        rows_limit = z.rows_limit;
      };
    }

pub returns-clause-scopes : goal.returns-clause-scopes
returns-clause-scopes g c =
    let t = c.args.self.now in let v = g.S.RowSeat.view t.seat in let s = c.args.scope in let r = c.args.row in let n = c.note.result in
    let w = placed (noted v (acquiring v r s n)) r c.args.pay in let e : g.S.RowSeat.view c.place.new.self ≡ w = rw (c.place.ensures.view, c.note.ensures.view) refl in
    let grown = acquired_grown v t.branches.items t.acquisitions.items r s n c.args.pay c.requires.fits.sound.kept c.requires.scope c.requires.row c.requires.free in
    keeps_scopes w e grown (λ q u x. grown_back grown refl refl q x)

pub returns-clause-empty : goal.returns-clause-empty
returns-clause-empty g c = λ q ne m. rw (c.place.ensures.view, c.note.ensures.view) (among_kept c.args.row (g.S.RowSeat.view c.args.self.now.seat).empty q m ne)

pub returns-clause-owed : goal.returns-clause-owed
returns-clause-owed g c =
    let t = c.args.self.now in let v = g.S.RowSeat.view t.seat in let s = c.args.scope in let r = c.args.row in let n = c.note.result in
    let w = placed (noted v (acquiring v r s n)) r c.args.pay in let e : g.S.RowSeat.view c.place.new.self ≡ w = rw (c.place.ensures.view, c.note.ensures.view) refl in
    ap owed e ∙ acquired_owed v t.branches.items t.acquisitions.items r s n c.args.pay c.requires.fits.sound.kept c.requires.scope c.requires.row c.requires.free

pub returns-clause-leases : goal.returns-clause-leases
returns-clause-leases g c =
    let v = g.S.RowSeat.view c.args.self.now.seat in let k = note_leases v c.note.result (Acquire c.args.row c.args.scope) refl refl in
    rw (c.place.ensures.view, c.note.ensures.view) (record { new = k.new; may = k.may; pairs = k.pairs; only = λ Ls h. let o = k.only Ls h in record { kept = o.kept; pairs = o.pairs } })
