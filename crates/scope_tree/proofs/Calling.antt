-- What a call of a tree leaves to the next.
use Rattle.std.proofs.Common.{◌≡◌, ℕ, ◌<◌, ◌≤◌, Bool, false, List, [], ◌+◌, length, inl, inr, refl, sym, ap, ◌∙◌, subst, ⊎_elim, arith, append-nil, reverse}
use Rattle.chunk_core.specs.declared.code.Exit.{Exit}
use Rattle.res_ledger.specs.declared.event.What.{What}
use Rattle.res_ledger.specs.declared.event.What.TheVariants.{Cancel}
use Rattle.chunk_core.proofs.Members.{among_left}
use Rattle.res_ledger.specs.Order.{firsts}
use Rattle.res_ledger.specs.Own.{closes, opens}
use Rattle.res_ledger.specs.Ledger.{IsUsable}
use Rattle.row_seat.specs.declared.view.View.{View}
use Rattle.row_seat.specs.Views.{AreApart, joined, noted}
use Rattle.scope_tree.specs.declared.branch.Branch.{Branch}
use Rattle.scope_tree.specs.declared.branch.AcquiredRow.{AcquiredRow}
use Rattle.scope_tree.specs.declared.tree.Tree.{Tree}
use Rattle.scope_tree.specs.Calls.{Cancels, IsClosedScope, IsOpenScope, KeepsScopes, OpensScope, Seen}
use Rattle.scope_tree.specs.Kept.{Kept, Shelved}
use Rattle.scope_tree.specs.Released.{away, said}
use Rattle.scope_tree.specs.Trees.{IsConsistent}
use Rattle.scope_tree.specs.Walks.{FirstOpen}
use Rattle.scope_tree.specs.Walks.FirstOpen.{above_it, this_one}
use Rattle.scope_tree.specs.Trace.{opening, owed}
use Rattle.scope_tree.proofs.Beneath.{noted_scope, usable_scope}
use Rattle.scope_tree.proofs.Grown.{Grown, closed_like, closes_finals, grown_back, grown_closed, grown_noted, grown_release, opens_finals, owed_still}
use Rattle.scope_tree.proofs.Grows.{back_closed, length_marks, opened_grown, opened_scopes, opened_usable}
use Rattle.scope_tree.proofs.Lessee.{lease_opened}
use Rattle.scope_tree.proofs.Parting.{join_trace}
use Rattle.scope_tree.proofs.Releasing.{released_most, released_spare}
use Rattle.scope_tree.proofs.Rooms.{away_reverse, used_is}
use Rattle.scope_tree.proofs.Walking.{first_usable}

module _ {P : Type 0} where
  -- where no open scope was closed
  pub keeps_scopes : {a b : Seen P} {E : List What} (w : View P) → b.seat ≡ w → Grown a.seat w E → ((s : ℕ) → IsOpenScope a s → IsClosedScope (record b { seat = w }) s → IsClosedScope a s) → KeepsScopes a b
  keeps_scopes {a = a} {b = b} w e g back = subst (λ v. KeepsScopes a (record b { seat = v })) (sym e) (record {
    usable = λ s u. (⊎_elim (λ z. inl z) (λ o. inr (o.0, grown_noted g o.1)) u.0, λ c. u.1 (back s u c));
    closed = λ s c. grown_closed g s c;
  })

  first_below : (v : View P) (bs : List Branch) (hs : List AcquiredRow) → Kept v bs hs → (c q : ℕ) → c < length bs → FirstOpen v.events v.by c q → q < length bs
  first_below v bs hs k c q l (this_one e n) = l
  first_below v bs hs k c q l (above_it e p r x n f) =
      let z = noted_scope v bs hs k e p n in let d : Branch = record { parent = 0; shut = false } in let less = k.mirrors.parents e d z.0 l in let i = z.2 d in
      first_below v bs hs k p r (omega (less, i, l, arith)) f

  -- an opening leaves each open scope open, and one more
  pub open_leaves : {a b : Seen P} {at c : ℕ} (o : OpensScope a at c b) (bs : List Branch) (hs : List AcquiredRow) → Kept a.seat bs hs → at < length bs → owed a.seat + 2 ≤ a.seat.spare → IsOpenScope b c × KeepsScopes a b × (owed b.seat ≡ owed a.seat + 1)
  open_leaves {a = a} {b = b} {at = at} {c = c} o bs hs k l f =
      let u = first_usable a.seat bs hs k at o.parent (first_below a.seat bs hs k at o.parent l o.nearest) o.nearest in
      let n : c ≡ length bs = (let z = o.number in let y = ap length k.mirrors.opens in let m = length_marks bs k.mirrors.size in omega (z, y, m, arith)) in
      let w = noted a.seat (opening a.seat (length bs) o.parent o.stamp) in
      let e : b.seat ≡ w = o.seat ∙ ap (λ i. noted a.seat (opening a.seat i o.parent o.stamp)) n in (
        subst (λ i. IsOpenScope b i) (sym n) (subst (λ v. IsUsable v.events v.by (length bs)) (sym e) (opened_usable a.seat bs hs o.parent o.stamp k u f)),
        keeps_scopes w e (opened_grown a.seat bs hs o.parent o.stamp k u f) (λ s y x. back_closed a.seat bs hs o.parent o.stamp k u f s (usable_scope a.seat bs hs k s y) x),
        ap owed e ∙ ap (λ i. i + length a.seat.opened) (opened_scopes a.seat bs hs o.parent o.stamp k u f) ∙ (omega arith),
      )

  -- a cancellation notes no more than its Cancel and the ends of rows that aren't open here
  pub cancel_leaves : {ends : P → Exit → Bool → P → Type 0} {x : Exit} {a b : Seen P} {j : ℕ} {T : List ℕ} → Cancels ends a j T x b → KeepsScopes a b × (a.seat.spare ≤ b.seat.spare + 1 + away T a.seat.opened) × (owed b.seat ≡ owed a.seat)
  cancel_leaves {x = x} {a = a} {b = b} {j = j} {T = T} o =
      let t = o.left.2 in let ys = o.left.0 in let g = grown_release a.seat o.stamp (Cancel j x) t in
      let none = opens_finals x (said ys) in let still = closes_finals x (said ys) in
      let m = released_most [] t in let s = released_spare t in let e = ap (λ S. away S a.seat.opened) (append-nil (reverse T)) in let l = away_reverse T a.seat.opened in
      (keeps_scopes b.seat refl g (λ s u c. grown_back g none still s c), omega (m, s, e, l, arith), owed_still g none still (lease_opened t))

  -- where a seat was taken in
  pub joined_scopes : {a b : Seen P} (w : View P) → b.seat ≡ joined a.seat w → AreApart a.seat w → KeepsScopes a b
  joined_scopes {a = a} {b = b} w e p =
      let v = joined a.seat w in let o = ap opens (join_trace a.seat w p) in let c = ap closes (join_trace a.seat w p) in
      subst (λ u. KeepsScopes a (record b { seat = u })) (sym e) (record {
        usable = λ s u. (⊎_elim (λ z. inl z) (λ i. inr (i.0, (i.1.0, among_left w.events i.1.1, i.1.2, i.1.3))) u.0, λ x. u.1 (closed_like v a.seat o c s x));
        closed = λ s x. closed_like a.seat v (sym o) (sym c) s x;
      })

-- another seat, by which the tree keeps the same
module _ {S P D : Type 0} (view : S → View P) where
  pub seated : (t : Tree S P D) (s : S) → Kept (view s) t.branches.items t.acquisitions.items → Shelved (view s) t.acquisitions.items t.shelf.items → IsConsistent view t → IsConsistent view (record t { seat = s })
  seated t s k h z =
      let F = firsts (said t.shelf.items) in let u = used_is (view t.seat) t.branches.items t.acquisitions.items z.kept F in let u' = used_is (view s) t.branches.items t.acquisitions.items k F in let a = z.used in
      record { kept = k; shelved = h; used = omega (u, u', a, arith); branches = z.branches; acquisitions = z.acquisitions; shelf = z.shelf; limit = z.limit; rows_limit = z.rows_limit }
