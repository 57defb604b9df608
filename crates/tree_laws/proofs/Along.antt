-- What calls of a tree leave of what its stream noted.
use Rattle.std.proofs.Common.{ℕ, Bool, List, [], inl, inr, refl, sym, ap, subst}
use Rattle.chunk_core.specs.declared.code.Exit.{Exit}
use Rattle.res_ledger.specs.declared.event.What.TheVariants.{Open, Acquire, Lease, Cancel, Close, Final}
use Rattle.row_seat.specs.declared.view.Left.TheVariants.{Stays, Yours}
use Rattle.row_seat.specs.declared.view.View.{View}
use Rattle.scope_tree.specs.declared.branch.Spent.{Spent}
use Rattle.scope_tree.specs.Calls.{AtStart, Seen}
use Rattle.scope_tree.specs.Tidy.{IsTidy}
use Rattle.scope_tree.specs.Released.{Holder, Released}
use Rattle.scope_tree.specs.Released.Released.{done, stays, ends_so}
use Rattle.scope_tree.proofs.Follows.{let_go}
use Rattle.scope_tree.proofs.Tidy.{acquire_tidy, cancel_tidy, close_tidy, join_tidy, lease_tidy, open_tidy, split_tidy, start_tidy}
use Rattle.tree_laws.specs.Called.{Called}
use Rattle.tree_laws.specs.Called.Called.{none, opened, acquired, written, leased, cancelled, closed, split, taken_in}
use Rattle.tree_laws.proofs.After.{IsAfter, after_joined, after_noted, after_same, after_split, after_then, folio}

module _ {P : Type 0} {ends : P → Exit → Bool → P → Type 0} where
  released_after : {x : Exit} {h : Holder} {T : List ℕ} {v w : View P} {ys : List (Spent P)} → Released ends x h T v ys w → IsAfter (folio v) (folio w)
  released_after (done v) = after_same (folio v)
  released_after {h = h} {w = w} (stays v u r l t) = subst (λ f. IsAfter f (folio w)) (ap folio (let_go h v r Stays u l).same) (released_after t)
  released_after {x = x} {h = h} {w = w} (ends_so v u y n l f t) = subst (λ z. IsAfter z (folio w)) (ap folio (let_go h v y.row Yours u l).same) (after_then _ _ _ (after_noted u n (Final y.row x y.ok) f.fresh (inl refl)) (released_after t))

  pub called_after : {a b : Seen P} {Cs : List (ℕ × List ℕ)} → Called ends a Cs b → IsAfter (folio a.seat) (folio b.seat)
  called_after {a = a} none = after_same (folio a.seat)
  called_after (opened b c at s h m o) = after_then _ _ _ (called_after h) (subst (λ v. IsAfter (folio b.seat) (folio v)) (sym o.seat) (after_noted b.seat o.stamp (Open s o.parent) o.fresh (inl refl)))
  called_after (acquired b c s r p h m o) = after_then _ _ _ (called_after h) (subst (λ v. IsAfter (folio b.seat) (folio v)) (sym o.seat) (after_noted b.seat o.stamp (Acquire r s) o.fresh (inl refl)))
  called_after (written b c r p h m o) = after_then _ _ _ (called_after h) (subst (λ v. IsAfter (folio b.seat) (folio v)) (sym (ap (λ x. x.seat) o)) (after_same (folio b.seat)))
  called_after (leased b c s j T h m o) = after_then _ _ _ (called_after h) (subst (λ v. IsAfter (folio b.seat) (folio v)) (sym o.seat) (after_noted b.seat o.stamp (Lease j s) o.fresh (inr m.main)))
  called_after (cancelled b c j T x h m o) = after_then _ _ _ (called_after h) (after_then _ _ _ (after_noted b.seat o.stamp (Cancel j x) o.fresh (inl refl)) (released_after o.left.2))
  called_after (closed b c s x h m o) = after_then _ _ _ (called_after h) (after_then _ _ _ (after_noted b.seat o.stamp (Close s x) o.fresh (inl refl)) (released_after o.torn.2))
  called_after (split b c j from to n h m o) = after_then _ _ _ (called_after h) (subst (λ v. IsAfter (folio b.seat) (folio v)) (sym (ap (λ x. x.seat) o)) (after_split b.seat j from to n m))
  called_after (taken_in b c w h m p o) = after_then _ _ _ (called_after h) (subst (λ v. IsAfter (folio b.seat) (folio v)) (sym (ap (λ x. x.seat) o)) (after_joined b.seat w m p))

  -- calls keep the order of what the stream notes
  tidy_along : {a b : Seen P} {Cs : List (ℕ × List ℕ)} → IsTidy a.seat [] → Called ends a Cs b → IsTidy b.seat Cs
  tidy_along t none = t
  tidy_along t (opened {Cs = Cs} b c at s h m o) = open_tidy Cs o (tidy_along t h)
  tidy_along t (acquired {Cs = Cs} b c s r p h m o) = acquire_tidy Cs o (tidy_along t h)
  tidy_along t (written {Cs = Cs} b c r p h m o) = subst (λ x. IsTidy x.seat Cs) (sym o) (tidy_along t h)
  tidy_along t (leased {Cs = Cs} b c s j T h m o) = lease_tidy Cs o (tidy_along t h)
  tidy_along t (cancelled {Cs = Cs} b c j T x h m o) = cancel_tidy Cs o (tidy_along t h)
  tidy_along t (closed {Cs = Cs} b c s x h m o) = close_tidy Cs o (tidy_along t h)
  tidy_along t (split {Cs = Cs} b c j from to n h m o) = subst (λ x. IsTidy x.seat Cs) (sym o) (split_tidy b.seat j from to n Cs (tidy_along t h))
  tidy_along t (taken_in {Cs = Cs} b c w h m p o) = subst (λ x. IsTidy x.seat Cs) (sym o) (join_tidy b.seat w Cs p (tidy_along t h))

  pub called_tidy : {a b : Seen P} {Cs : List (ℕ × List ℕ)} → AtStart a.seat → Called ends a Cs b → IsTidy b.seat Cs
  called_tidy {a = a} s c = tidy_along (start_tidy a.seat s.events) c
