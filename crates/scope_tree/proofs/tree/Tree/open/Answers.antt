use Rattle.std.proofs.Common.{◌≡◌, ℕ, ◌<◌, length, drop, [], List, ◌∷◌, ◌++◌, refl, sym, ap, ◌∙◌, subst, arith, false}
use Rattle.row_seat.specs.Views.{noted}
use Rattle.res_ledger.specs.Own.{opens}
use Rattle.scope_tree.specs.declared.branch.Branch.{Branch}
use Rattle.scope_tree.specs.Trace.{trace, opening}
use Rattle.scope_tree.specs.Kept.{Kept, marks}
use Rattle.scope_tree.specs.Kept.{Shelved}
use Rattle.scope_tree.proofs.Shelving.{open_shelved}
use Rattle.scope_tree.proofs.Calling.{open_leaves}
use Rattle.scope_tree.proofs.Grows.{open_keeps, length_marks}
use Rattle.scope_tree.proofs.Beneath.{noted_scope, no_own_close}
use Rattle.scope_tree.proofs.Walking.{nearest_first, first_usable}
use Rattle.std.proofs.Common.{◌⊎◌, ⊎_elim}
use Rattle.row_seat.specs.declared.view.View.{View}
use Rattle.res_ledger.specs.Ledger.{IsOpened}
use Rattle.res_ledger.specs.Ledger.LiesWithin.{same}
use Rattle.scope_tree.specs.declared.branch.AcquiredRow.{AcquiredRow}
use Rattle.res_ledger.specs.declared.event.What.TheVariants.{Open}
use Rattle.scope_tree.specs.Rights.{KeepsLeases}
use Rattle.scope_tree.proofs.Rights.{note_leases}
use Rattle.scope_tree.proofs.Taking.{open_takes}
use Rattle.scope_tree.proofs.tree.Tree.open.Goals as goal

pub overflow_cast-scope : goal.overflow_cast-scope
overflow_cast-scope g c =
    let t = c.args.self.now in let k = c.requires.fits.sound.kept in
    let n : length (opens (trace (g.S.RowSeat.view t.seat))) ≡ length (marks 1 (drop 1 t.branches.items)) = ap length k.mirrors.opens in let m = length_marks t.branches.items k.mirrors.size in
    let l = c.len-scope.ensures in let z = t.branches.ok.0 in let a = c.requires.room in let d = c.requires.fits.sound.limit in omega arith

at_in : {P : Type 0} (v : View P) (bs : List Branch) (hs : List AcquiredRow) (k : Kept v bs hs) (c : ℕ) → (c ≡ 0) ⊎ IsOpened v.events v.by c → c < length bs
at_in v bs hs k c a = ⊎_elim (λ e. let z = k.mirrors.size in omega arith) (λ o. (noted_scope v bs hs k c o.0 o.1).1) a

pub first_open-parent-requires-clause-scope : goal.first_open-parent-requires-clause-scope
first_open-parent-requires-clause-scope g c = let t = c.args.self.now in rw c.deref.ensures.value (at_in (g.S.RowSeat.view t.seat) t.branches.items t.acquisitions.items c.requires.fits.sound.kept c.args.at c.requires.at)

pub first_open-parent-requires-clause-parents : goal.first_open-parent-requires-clause-parents
first_open-parent-requires-clause-parents g c = rw c.deref.ensures.value c.requires.fits.sound.kept.mirrors.parents

pub first_open-parent-requires-clause-root : goal.first_open-parent-requires-clause-root
first_open-parent-requires-clause-root g c = let t = c.args.self.now in let k = c.requires.fits.sound.kept in rw c.deref.ensures.value (λ d. no_own_close (g.S.RowSeat.view t.seat) t.branches.items t.acquisitions.items k 0 d k.mirrors.size (λ n. c.requires.root (0, same 0, n)))

pub note-requires-clause-event : goal.note-requires-clause-event
note-requires-clause-event g c =
    let bs = c.args.self.now.branches.items in let hs = c.args.self.now.acquisitions.items in let v = g.S.RowSeat.view c.args.self.now.seat in
    let t = c.args.self.now in let k = c.requires.fits.sound.kept in let l = c.len-scope.ensures in let z = t.branches.ok.0 in let s = k.mirrors.size in
    let f = nearest_first v bs hs k c.args.at c.first_open-parent.result (at_in v bs hs k c.args.at c.requires.at) (rw c.deref.ensures.value at c.first_open-parent.ensures) in
    ((λ e. omega arith), (λ o. let n = noted_scope (g.S.RowSeat.view t.seat) t.branches.items t.acquisitions.items k c.len-scope.result o.0 o.1 in let q = n.1 in omega arith), first_usable v bs hs k c.args.at c.first_open-parent.result f.1 f.0)

pub push_reserved-requires : goal.push_reserved-requires
push_reserved-requires g c =
    let t = c.args.self.now in let k = c.requires.fits.sound.kept in
    let n : length (opens (trace (g.S.RowSeat.view t.seat))) ≡ length (marks 1 (drop 1 t.branches.items)) = ap length k.mirrors.opens in let m = length_marks t.branches.items k.mirrors.size in
    let z = t.branches.ok.0 in let a = c.requires.room in let b = c.requires.fits.sound.branches in omega arith

pub returns-clause-opens : goal.returns-clause-opens
returns-clause-opens g c =
    let t = c.args.self.now in let k = c.requires.fits.sound.kept in
    let n : length (opens (trace (g.S.RowSeat.view t.seat))) ≡ length (marks 1 (drop 1 t.branches.items)) = ap length k.mirrors.opens in let m = length_marks t.branches.items k.mirrors.size in
    let l = c.len-scope.ensures in let z = t.branches.ok.0 in record {
      stamp = c.note.result;
      parent = c.first_open-parent.result;
      nearest = (let bs = t.branches.items in let hs = t.acquisitions.items in let v = g.S.RowSeat.view t.seat in let f = nearest_first v bs hs k c.args.at c.first_open-parent.result (at_in v bs hs k c.args.at c.requires.at) (rw c.deref.ensures.value at c.first_open-parent.ensures) in f.0);
      fresh = c.note.ensures.stamp;
      number = omega arith;
      seat = c.note.ensures.view;
      shelf = refl;
      scopes = refl;
      rows = refl;
    }

pub returns-clause-room : goal.returns-clause-room
returns-clause-room g c = open_takes (returns-clause-opens g c)

pub returns-clause-fits : goal.returns-clause-fits
returns-clause-fits g c =
    let t = c.args.self.now in let z = c.requires.fits.sound in let p = c.first_open-parent.result in let hs = t.acquisitions.items in let bs = t.branches.items in let v = g.S.RowSeat.view t.seat in let w = g.S.RowSeat.view c.note.new.self in let n = c.note.result in
    let l = c.len-scope.ensures in let y = t.branches.ok.0 in
    let number : c.len-scope.result ≡ length bs = omega arith in
    let e : w ≡ noted v (opening v (length bs) p n) = c.note.ensures.view ∙ ap (λ i. noted v (opening v i p n)) number in
    let bs' = bs ++ record { parent = p; shut = false } ∷ [] in
    let f = nearest_first v bs hs z.kept c.args.at p (at_in v bs hs z.kept c.args.at c.requires.at) (rw c.deref.ensures.value at c.first_open-parent.ensures) in
    let k : Kept w bs' hs = subst (λ x. Kept x bs' hs) (sym e) (open_keeps v bs hs p n z.kept (first_usable v bs hs z.kept c.args.at p f.1 f.0) c.requires.free) in
    let u = (returns-clause-room g c).used in let a = z.used in let cap = c.push_reserved.ensures.capacity in let b = z.branches in record {
      seat = c.note.ensures.fits;
      sound = record {
        kept = subst (λ x. Kept w x hs) (sym c.push_reserved.ensures.items) k;
        shelved = subst (λ x. Shelved x hs t.shelf.items) (sym e) (open_shelved v bs hs t.shelf.items z.kept z.shelved (length bs) p n c.note.ensures.stamp);
        used = omega (u, a, arith);
        branches = omega (cap, b, arith);
        acquisitions = z.acquisitions;
        shelf = z.shelf;
        limit = z.limit;
        rows_limit = z.rows_limit;
      };
    }

pub returns-clause-child : goal.returns-clause-child
returns-clause-child g c =
    let t = c.args.self.now in let bs = t.branches.items in let hs = t.acquisitions.items in let k = c.requires.fits.sound.kept in
    (open_leaves (returns-clause-opens g c) bs hs k (at_in (g.S.RowSeat.view t.seat) bs hs k c.args.at c.requires.at) c.requires.free).0

pub returns-clause-scopes : goal.returns-clause-scopes
returns-clause-scopes g c =
    let t = c.args.self.now in let bs = t.branches.items in let hs = t.acquisitions.items in let k = c.requires.fits.sound.kept in
    (open_leaves (returns-clause-opens g c) bs hs k (at_in (g.S.RowSeat.view t.seat) bs hs k c.args.at c.requires.at) c.requires.free).1

pub returns-clause-owed : goal.returns-clause-owed
returns-clause-owed g c =
    let t = c.args.self.now in let bs = t.branches.items in let hs = t.acquisitions.items in let k = c.requires.fits.sound.kept in
    (open_leaves (returns-clause-opens g c) bs hs k (at_in (g.S.RowSeat.view t.seat) bs hs k c.args.at c.requires.at) c.requires.free).2

pub returns-clause-leases : goal.returns-clause-leases
returns-clause-leases g c = let v = g.S.RowSeat.view c.args.self.now.seat in subst (λ w. KeepsLeases v w) (sym c.note.ensures.view) (note_leases v c.note.result (Open c.len-scope.result c.first_open-parent.result) refl refl)
