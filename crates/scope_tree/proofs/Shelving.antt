-- What each call keeps of a tree's shelf.
use Rattle.std.proofs.Common.{ℕ, ◌+◌, ◌≤◌, Bool, List, [], ◌∷◌, ◌++◌, ◌⊎◌, inl, inr, refl, sym, ap, subst, ⊎_elim, nat_eq}
use Rattle.chunk_core.specs.declared.code.Exit.{Exit}
use Rattle.chunk_core.specs.Lists.{IsAmong}
use Rattle.chunk_core.proofs.Members.{among_nil, among_left, among_last, among_snoc}
use Rattle.res_ledger.specs.declared.event.What.TheVariants.{Open, Acquire, Cancel, Close}
use Rattle.res_ledger.specs.Ledger.{IsUsable}
use Rattle.res_ledger.specs.Order.{firsts}
use Rattle.res_ledger.specs.Own.{own}
use Rattle.res_ledger.specs.Streams.{by_stream}
use Rattle.res_ledger.specs.Rising.{Rises}
use Rattle.row_seat.specs.declared.view.View.{View}
use Rattle.row_seat.specs.Views.{HasPair, HasRow, IsFreshStamp, noted, placed}
use Rattle.row_seat.proofs.Members.{among_without}
use Rattle.scope_tree.specs.declared.branch.Branch.{Branch}
use Rattle.scope_tree.specs.declared.branch.AcquiredRow.{AcquiredRow}
use Rattle.scope_tree.specs.declared.branch.Spent.{Spent}
use Rattle.scope_tree.specs.Kids.{whole}
use Rattle.std.specs.List.{IsDistinct}
use Rattle.scope_tree.specs.Released.{Released, away, said}
use Rattle.scope_tree.specs.Released.Holder.{owner, lease}
use Rattle.scope_tree.specs.Trace.{acquiring, canceling, opening, owed, shutting, ended_rows}
use Rattle.scope_tree.specs.Calls.{AtStart}
use Rattle.scope_tree.specs.Kept.{Kept, Shelved, acquisition_pairs}
use Rattle.scope_tree.proofs.Beneath.{close_can}
use Rattle.scope_tree.proofs.Cancelling.{cancel_can}
use Rattle.scope_tree.proofs.Grows.{pairs_snoc}
use Rattle.scope_tree.proofs.Rooms.{open_taken}
use Rattle.scope_tree.proofs.Shelf.{note_shelved, released_shelved}
use Rattle.chunk_core.proofs.Distinct.{distinct_nil}

pub start_shelved : {P : Type 0} (v : View P) → AtStart v → Shelved v [] []
start_shelved v a = record {
  said_are = ap (λ L. ended_rows (own v.by L)) a.events;
  distinct = distinct_nil;
  opened = λ r h m. among_nil m;
  pairs = λ j r h m. among_nil m;
  empty = λ r h m. among_nil m;
  leased = λ j r m. inl (a.leased j r m);
  ended = λ r t m. absurd (among_nil m);
  rises = subst (λ L. Rises (by_stream v.by L)) (sym a.events) tt;
}

module _ {P : Type 0} (v : View P) (bs : List Branch) (hs : List AcquiredRow) (xs : List (Spent P)) (k : Kept v bs hs) (s : Shelved v hs xs) where
  pub open_shelved : (c p n : ℕ) → IsFreshStamp v n → Shelved (noted v (opening v c p n)) hs xs
  open_shelved c p n f = note_shelved v hs xs n (Open c p) refl f s

  pub acquire_shelved : (r t n : ℕ) (p : P) → IsAmong r v.empty → IsFreshStamp v n → Shelved (placed (noted v (acquiring v r t n)) r p) (hs ++ record { row = r; scope = t } ∷ []) xs
  acquire_shelved r t n p m f =
      let h : AcquiredRow = record { row = r; scope = t } in let a = note_shelved v hs xs n (Acquire r t) refl f s in record {
        said_are = a.said_are;
        distinct = a.distinct;
        opened = λ q o. ⊎_elim (λ i. s.opened q (o.0, i)) (λ i. subst (λ z. ¬ (IsAmong z (firsts (said xs)))) (sym (ap (λ y. y.0) i)) (s.empty r m)) (among_snoc v.opened (q, o.0) (r, p) o.1);
        pairs = a.pairs;
        empty = λ q i. s.empty q (among_without r v.empty q i).0;
        leased = a.leased;
        ended = λ q u i. ⊎_elim
            (λ o. ⊎_elim (λ z. inl (z.0, among_left ((r, p) ∷ []) z.1)) (λ z. inr z) (a.ended q u o))
            (λ o. inl (p, subst (λ z. IsAmong (z, p) (v.opened ++ (r, p) ∷ [])) (sym (ap (λ y. y.0) o)) (among_last v.opened (r, p))))
            (among_snoc (acquisition_pairs hs) (q, u) (r, t) (subst (λ l. IsAmong (q, u) l) (pairs_snoc hs h) i));
        rises = a.rises;
      }

  -- what is open or leased isn't empty
  occupied : (r : ℕ) → HasRow v.opened r ⊎ HasPair v r → ¬ (IsAmong r v.empty)
  occupied r a = ⊎_elim (λ o. open_taken v bs hs k r o) (λ p. k.lends.bare p.0 r p.1) a

  pub close_shelved : {ends : P → Exit → Bool → P → Type 0} {x : Exit} {w : View P} {ys : List (Spent P)} (c n : ℕ) → IsUsable v.events v.by c → IsFreshStamp v n → Released ends x owner (whole bs hs c) (shutting v c x n) ys w → Shelved w hs (xs ++ ys)
  close_shelved {x = x} c n u f t = released_shelved hs xs t (close_can v bs hs k c n x u) k.holds.once occupied (note_shelved v hs xs n (Close c x) refl f s)

  pub cancel_shelved : {ends : P → Exit → Bool → P → Type 0} {x : Exit} {w : View P} {ys : List (Spent P)} (j n : ℕ) (T : List ℕ) → IsDistinct nat_eq T → ((r : ℕ) → IsAmong r T → IsAmong (j, r) v.pairs) → owed v + 1 + away T v.opened ≤ v.spare → IsFreshStamp v n → Released ends x (lease j) T (noted v (canceling v j x n)) ys w → Shelved w hs (xs ++ ys)
  cancel_shelved {x = x} j n T d p e f t = released_shelved hs xs t (cancel_can v bs hs j n T x k d p e) k.holds.once occupied (note_shelved v hs xs n (Cancel j x) refl f s)
