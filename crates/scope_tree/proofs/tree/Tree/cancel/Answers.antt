use Rattle.std.proofs.Common.{ℕ, ◌+◌, ◌≤◌, List, refl, sym, subst, arith, nat_eq, reverse}
use Rattle.chunk_core.specs.Lists.{IsAmong}
use Rattle.res_ledger.specs.Order.{firsts}
use Rattle.row_seat.specs.declared.view.View.{View}
use Rattle.std.specs.List.{IsDistinct}
use Rattle.scope_tree.specs.Released.{Releases, away, said}
use Rattle.scope_tree.specs.Released.Holder.{lease}
use Rattle.row_seat.specs.Views.{noted}
use Rattle.scope_tree.specs.Trace.{canceling, owed}
use Rattle.scope_tree.specs.Kept.{Shelved}
use Rattle.scope_tree.proofs.Calling.{cancel_leaves}
use Rattle.scope_tree.proofs.Cancelling.{cancel_can, cancel_keeps}
use Rattle.chunk_core.proofs.Reversed.{among_reverse}
use Rattle.chunk_core.proofs.Distinct.{test_distinct, distinct_reverse}
use Rattle.scope_tree.proofs.Rooms.{away_reverse, cancel_count, rows_count, used_is}
use Rattle.scope_tree.proofs.Shelving.{cancel_shelved}
use Rattle.scope_tree.proofs.Follows.{released_follows, same_empty}
use Rattle.scope_tree.proofs.Rights.{cancel_drops, cancel_new, cancel_seat}
use Rattle.scope_tree.proofs.Taking.{cancel_takes}
use Rattle.scope_tree.proofs.tree.Tree.cancel.Goals as goal

free_reverse : {P : Type 0} (v : View P) (T : List ℕ) → owed v + 1 + away T v.opened ≤ v.spare → owed v + 1 + away (reverse T) v.opened ≤ v.spare
free_reverse v T f = let e = away_reverse T v.opened in omega (e, f, arith)

pub leave_all-requires-clause-can : goal.leave_all-requires-clause-can
leave_all-requires-clause-can g c =
    let t = c.args.self.now in let v = g.S.RowSeat.view t.seat in let j = c.args.lease.stream in let T = c.args.lease.rows.items in
    rw (c.note.ensures.view, c.deref.ensures.value) (cancel_can v t.branches.items t.acquisitions.items j c.note.result (reverse T) c.args.exit c.requires.fits.sound.kept (distinct_reverse T (test_distinct T c.args.lease.distinct)) (λ r m. c.requires.pairs r (among_reverse r T m)) (free_reverse v T c.requires.free))

pub leave_all-requires-clause-room : goal.leave_all-requires-clause-room
leave_all-requires-clause-room g c =
    let t = c.args.self.now in let v = g.S.RowSeat.view t.seat in let bs = t.branches.items in let hs = t.acquisitions.items in let z = c.requires.fits.sound in let T = c.args.lease.rows.items in let F = firsts (said t.shelf.items) in
    let m = cancel_count v bs hs z.kept t.shelf.items z.shelved c.args.lease.stream T (test_distinct T c.args.lease.distinct) c.requires.pairs in
    let e = away_reverse T v.opened in let n = rows_count v bs hs z.kept in let u = used_is v bs hs z.kept F in let u' = used_is v bs hs z.kept T in let a = c.requires.room in let d = z.shelf in let y = t.shelf.ok.0 in
    rw (c.note.ensures.view, c.deref.ensures.value) (omega (m, e, n, u, u', a, d, y, arith))

pub returns-clause-cancels : goal.returns-clause-cancels
returns-clause-cancels g c = record { stamp = c.note.result; fresh = c.note.ensures.stamp; left = rw (c.note.ensures.view, c.deref.ensures.value) at c.leave_all.ensures.released; scopes = refl; rows = refl }

pub returns-clause-scopes : goal.returns-clause-scopes
returns-clause-scopes g c = (cancel_leaves (returns-clause-cancels g c)).0

pub returns-clause-free : goal.returns-clause-free
returns-clause-free g c = (cancel_leaves (returns-clause-cancels g c)).1

pub returns-clause-owed : goal.returns-clause-owed
returns-clause-owed g c = (cancel_leaves (returns-clause-cancels g c)).2

pub returns-clause-room : goal.returns-clause-room
returns-clause-room g c = cancel_takes (returns-clause-cancels g c)

pub returns-clause-fits : goal.returns-clause-fits
returns-clause-fits g c =
    let t = c.args.self.now in let v = g.S.RowSeat.view t.seat in let bs = t.branches.items in let hs = t.acquisitions.items in let z = c.requires.fits.sound in let n = c.note.result in
    let j = c.args.lease.stream in let T = c.args.lease.rows.items in let w = g.S.RowSeat.view c.leave_all.new.seat in let shelf = c.leave_all.new.shelf.items in
    let all : Releases g.S.Pay.Finish.ends c.args.exit (lease j) (reverse T) (noted v (canceling v j c.args.exit n)) t.shelf.items shelf w = rw (c.note.ensures.view, c.deref.ensures.value) at c.leave_all.ensures.released in
    let xs = all.0 in let d : IsDistinct nat_eq (reverse T) = distinct_reverse T (test_distinct T c.args.lease.distinct) in
    let p : (r : ℕ) → IsAmong r (reverse T) → IsAmong (j, r) v.pairs = λ r m. c.requires.pairs r (among_reverse r T m) in
    let f = free_reverse v T c.requires.free in
    let k = cancel_keeps v bs hs j n (reverse T) c.args.exit z.kept d p f w xs all.2 in
    let y = returns-clause-room g c in let few = y.1 in let u = y.2.used in let a = c.requires.room in let b = z.shelf in let r = c.leave_all.ensures.room in record {
      seat = c.leave_all.ensures.fits;
      sound = record {
        kept = k;
        shelved = subst (λ l. Shelved w hs l) (sym all.1) (cancel_shelved v bs hs t.shelf.items z.kept z.shelved j n (reverse T) d p f c.note.ensures.stamp all.2);
        used = omega (few, u, a, arith);
        branches = z.branches;
        acquisitions = z.acquisitions;
        shelf = omega (b, r, arith);
        limit = z.limit;
        rows_limit = z.rows_limit;
      };
    }

pub returns-clause-empty : goal.returns-clause-empty
returns-clause-empty g c = λ r m. subst (λ l. IsAmong r l) (sym (same_empty (released_follows (returns-clause-cancels g c).left.2))) m

pub returns-clause-rights : goal.returns-clause-rights
returns-clause-rights g c = cancel_seat (returns-clause-cancels g c)

pub returns-clause-leases : goal.returns-clause-leases
returns-clause-leases g c = cancel_drops (returns-clause-cancels g c)

pub returns-clause-new : goal.returns-clause-new
returns-clause-new g c = cancel_new (returns-clause-cancels g c)
