use Rattle.std.proofs.Common.{refl, sym, ap, ◌∙◌, subst, arith}
use Rattle.scope_tree.specs.Trace.{shutting}
use Rattle.scope_tree.specs.Released.{Releases}
use Rattle.scope_tree.specs.Kids.{whole}
use Rattle.scope_tree.specs.Released.Holder.{owner}
use Rattle.res_ledger.specs.Order.{firsts}
use Rattle.scope_tree.specs.Released.{said}
use Rattle.scope_tree.specs.Kept.{Shelved}
use Rattle.scope_tree.proofs.Rooms.{shelf_count, used_is}
use Rattle.scope_tree.proofs.Shelving.{close_shelved}
use Rattle.scope_tree.proofs.Beneath.{close_spare, close_can, close_count, usable_scope, whole_is}
use Rattle.scope_tree.proofs.Keeps.{close_free, close_keeps}
use Rattle.scope_tree.proofs.Owed.{nothing_owed}
use Rattle.scope_tree.proofs.Grown.{grown_closed, grown_release}
use Rattle.scope_tree.proofs.Staying.{close_stays}
use Rattle.scope_tree.proofs.Ending.{close_all, close_unleased}
use Rattle.scope_tree.proofs.Use.{closed_now, closed_said}
use Rattle.res_ledger.specs.Ledger.{IsClosed}
use Rattle.res_ledger.specs.declared.event.What.TheVariants.{Close}
use Rattle.std.proofs.lemmas.List.{get_or_default}
use Rattle.scope_tree.proofs.Releasing.{releases_at}
use Rattle.scope_tree.proofs.Follows.{released_follows, same_empty}
use Rattle.scope_tree.proofs.Rights.{close_leases, close_seat}
use Rattle.scope_tree.proofs.Taking.{close_takes}
use Rattle.chunk_core.specs.Lists.{IsAmong}
use Rattle.scope_tree.proofs.tree.Tree.close.Goals as goal

pub note-requires-clause-room : goal.note-requires-clause-room
note-requires-clause-room g c = let t = c.args.self.now in close_spare (g.S.RowSeat.view t.seat) t.branches.items t.acquisitions.items c.requires.fits.sound.kept c.args.scope c.requires.scope

pub tear-requires-clause-scope : goal.tear-requires-clause-scope
tear-requires-clause-scope g c = let t = c.args.self.now in rw c.deref.ensures.value (usable_scope (g.S.RowSeat.view t.seat) t.branches.items t.acquisitions.items c.requires.fits.sound.kept c.args.scope c.requires.scope)

pub tear-requires-clause-can : goal.tear-requires-clause-can
tear-requires-clause-can g c = let t = c.args.self.now in rw (c.note.ensures.view, c.deref.ensures.value, c.deref-2.ensures.value) (close_can (g.S.RowSeat.view t.seat) t.branches.items t.acquisitions.items c.requires.fits.sound.kept c.args.scope c.note.result c.args.exit c.requires.scope)

pub tear-requires-clause-room : goal.tear-requires-clause-room
tear-requires-clause-room g c =
    let t = c.args.self.now in let v = g.S.RowSeat.view t.seat in let bs = t.branches.items in let hs = t.acquisitions.items in let z = c.requires.fits.sound in
    let n = close_count v bs hs z.kept c.args.scope c.requires.scope in let m = shelf_count v bs hs z.kept t.shelf.items z.shelved in let u = used_is v bs hs z.kept (firsts (said t.shelf.items)) in
    let a = z.used in let d = z.shelf in let y = t.shelf.ok.0 in rw (c.deref.ensures.value, c.deref-2.ensures.value) (omega (n, m, u, a, d, y, arith))

pub index_mut-requires : goal.index_mut-requires
index_mut-requires g c = let t = c.args.self.now in let l = usable_scope (g.S.RowSeat.view t.seat) t.branches.items t.acquisitions.items c.requires.fits.sound.kept c.args.scope c.requires.scope in let z = t.branches.ok.0 in omega arith

pub returns-clause-closes : goal.returns-clause-closes
returns-clause-closes g c =
    let t = c.args.self.now in let s = c.args.scope in let bs = t.branches.items in let hs = t.acquisitions.items in let v = g.S.RowSeat.view t.seat in
    let l = usable_scope v bs hs c.requires.fits.sound.kept s c.requires.scope in record {
      stamp = c.note.result;
      fresh = c.note.ensures.stamp;
      torn = releases_at _ _ (ap (λ x. whole x c.deref-2.result.now s) c.deref.ensures.value ∙ ap (λ x. whole bs x s) c.deref-2.ensures.value ∙ whole_is v bs hs c.requires.fits.sound.kept s l) c.note.ensures.view c.tear.ensures.released;
      scopes = refl;
      rows = refl;
    }

pub returns-clause-room : goal.returns-clause-room
returns-clause-room g c =
    let t = c.args.self.now in let v = g.S.RowSeat.view t.seat in let k = c.requires.fits.sound.kept in
    close_takes t.branches.items t.acquisitions.items k (usable_scope v t.branches.items t.acquisitions.items k c.args.scope c.requires.scope) (returns-clause-closes g c)

pub returns-clause-fits : goal.returns-clause-fits
returns-clause-fits g c =
    let t = c.args.self.now in let s = c.args.scope in let bs = t.branches.items in let hs = t.acquisitions.items in let v = g.S.RowSeat.view t.seat in let w = g.S.RowSeat.view c.tear.new.seat in let z = c.requires.fits.sound in
    let l = usable_scope v bs hs z.kept s c.requires.scope in let n = c.note.result in
    let all : Releases g.S.Pay.Finish.ends c.args.exit owner (whole bs hs s) (shutting v s c.args.exit n) t.shelf.items c.tear.new.shelf.items w = releases_at _ _ (ap (λ x. whole x c.deref-2.result.now s) c.deref.ensures.value ∙ ap (λ x. whole bs x s) c.deref-2.ensures.value) c.note.ensures.view c.tear.ensures.released in
    let xs = all.0 in let torn = all.2 in let shelf = c.tear.new.shelf.items in
    let k = close_keeps v w bs hs xs s n z.kept c.requires.scope torn _ (λ d. ap (λ b. b.parent) (get_or_default bs s d c.index_mut.result.now l ∙ sym c.index_mut.ensures.value)) refl in
    let u = (returns-clause-room g c).used in let a = z.used in let b = z.shelf in let d = c.tear.ensures.room in record {
      seat = c.tear.ensures.fits;
      sound = record {
        kept = k;
        shelved = subst (λ l. Shelved w hs l) (sym all.1) (close_shelved v bs hs t.shelf.items z.kept z.shelved s n c.requires.scope c.note.ensures.stamp torn);
        used = omega (u, a, arith);
        branches = z.branches;
        acquisitions = z.acquisitions;
        shelf = omega (b, d, arith);
        limit = z.limit;
        rows_limit = z.rows_limit;
      };
    }

pub returns-clause-closed : goal.returns-clause-closed
returns-clause-closed g c = closed_now (returns-clause-closes g c)

pub returns-clause-scopes : goal.returns-clause-scopes
returns-clause-scopes g c = λ s x. let o = returns-clause-closes g c in grown_closed (grown_release (g.S.RowSeat.view c.args.self.now.seat) o.stamp (Close c.args.scope c.args.exit) o.torn.2) s x

pub returns-clause-free : goal.returns-clause-free
returns-clause-free g c =
    let t = c.args.self.now in let s = c.args.scope in let bs = t.branches.items in let hs = t.acquisitions.items in let v = g.S.RowSeat.view t.seat in let k = c.requires.fits.sound.kept in
    let all = releases_at _ _ (ap (λ x. whole x c.deref-2.result.now s) c.deref.ensures.value ∙ ap (λ x. whole bs x s) c.deref-2.ensures.value) c.note.ensures.view c.tear.ensures.released in
    close_free v (g.S.RowSeat.view c.tear.new.seat) bs hs all.0 s c.note.result k c.requires.scope all.2

pub returns-clause-owed : goal.returns-clause-owed
returns-clause-owed g c = λ e.
    let w = g.S.RowSeat.view c.tear.new.seat in let z = returns-clause-fits g c in
    nothing_owed w _ _ z.sound.kept (subst (λ s. IsClosed w.events w.by s) e (returns-clause-closed g c))

pub returns-clause-empty : goal.returns-clause-empty
returns-clause-empty g c = λ r m. subst (λ l. IsAmong r l) (sym (same_empty (released_follows (returns-clause-closes g c).torn.2))) m

pub returns-clause-rights : goal.returns-clause-rights
returns-clause-rights g c = close_seat (returns-clause-closes g c)

pub returns-clause-leases : goal.returns-clause-leases
returns-clause-leases g c = close_leases (returns-clause-closes g c)

pub returns-clause-stays : goal.returns-clause-stays
returns-clause-stays g c = let t = c.args.self.now in close_stays (returns-clause-closes g c) t.branches.items t.acquisitions.items c.requires.fits.sound.kept c.requires.scope

pub returns-clause-all : goal.returns-clause-all
returns-clause-all g c = λ h. let o = returns-clause-closes g c in record { ended = o.torn.0; shelf = o.torn.1; rows = close_all o h; noted = closed_said o }

pub returns-clause-unleased : goal.returns-clause-unleased
returns-clause-unleased g c = λ h. let o = returns-clause-closes g c in record { ended = o.torn.0; shelf = o.torn.1; rows = close_unleased o h; noted = closed_said o }
