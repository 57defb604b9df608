-- What a lease keeps of a tree.
use Rattle.std.proofs.Common.{◌≡◌, ◌≢◌, ℕ, ◌+◌, ◌<◌, ◌≤◌, suc, Bool, true, false, cond, take, List, [], ◌∷◌, ◌++◌, length, slice_index_or, inr, refl, sym, ap, ◌∙◌, subst, ⊎_elim, arith, nat_eq}
use Rattle.chunk_core.specs.Lists.{IsAmong}
use Rattle.chunk_core.specs.Lists.IsAmong.{here, there}
use Rattle.chunk_core.proofs.Filters.{among_append, among_right}
use Rattle.chunk_core.proofs.Members.{among_nil, among_cons}
use Rattle.res_ledger.specs.declared.event.What.TheVariants.{Acquire, Lease}
use Rattle.res_ledger.specs.declared.event.StreamNo.TheVariants.{Inner}
use Rattle.res_ledger.specs.Ledger.{IsClosed, IsLeased, IsUsable, Notes}
use Rattle.res_ledger.specs.Own.{leased_rows, picked, reaches}
use Rattle.res_ledger.proofs.Growth.{noted_more, noted_new}
use Rattle.row_seat.specs.declared.view.View.{View}
use Rattle.row_seat.specs.Views.{HasRow, IsFreshStamp, MayNote, noted}
use Rattle.scope_tree.specs.declared.branch.Branch.{Branch}
use Rattle.scope_tree.specs.declared.branch.AcquiredRow.{AcquiredRow}
use Rattle.scope_tree.specs.declared.branch.Spent.{Spent}
use Rattle.scope_tree.specs.Kept.{Kept, Lends, Shelved, acquisition_pairs, acquisition_rows}
use Rattle.scope_tree.specs.Leased.{leased_all, pairs_for}
use Rattle.std.specs.List.{IsDistinct}
use Rattle.scope_tree.specs.Trace.{leasing, owed, trace}
use Rattle.scope_tree.proofs.Bridge.{noted_in, rows_in}
use Rattle.scope_tree.proofs.Covered.{leased_is}
use Rattle.scope_tree.proofs.Grown.{Grown, grown_back, grown_note, kept_still}
use Rattle.scope_tree.proofs.Grows.{pairs_snoc}
use Rattle.scope_tree.proofs.Beneath.{usable_scope}
use Rattle.scope_tree.proofs.Leasing.{among_pairs, pairs_among, take_next}
use Rattle.scope_tree.proofs.Rooms.{open_taken}
use Rattle.scope_tree.proofs.Shelf.{note_shelved}
use Rattle.chunk_core.proofs.Distinct.{distinct_cons, distinct_head, distinct_nil, distinct_tail}

picked_append : (f : ℕ → Bool) (xs ys : List (ℕ × ℕ)) → picked f (xs ++ ys) ≡ picked f xs ++ picked f ys
picked_append f [] ys = refl
picked_append f (x ∷ xs) ys = elim (f x.1) as (λ b. cond b (x.0 ∷ picked f (xs ++ ys)) (picked f (xs ++ ys)) ≡ cond b (x.0 ∷ picked f xs) (picked f xs) ++ picked f ys) [ true ↦ ap (λ l. x.0 ∷ l) (picked_append f xs ys) | false ↦ picked_append f xs ys ]

-- the rows of the first acquired ones that pass
pub picked_next : (f : ℕ → Bool) (hs : List AcquiredRow) (i n : ℕ) (d : AcquiredRow) → n ≡ suc i → i < length hs → let h = slice_index_or hs i d in picked f (acquisition_pairs (take n hs)) ≡ picked f (acquisition_pairs (take i hs)) ++ cond (f h.scope) (h.row ∷ []) []
picked_next f hs i n d e l = let h = slice_index_or hs i d in ap (λ x. picked f (acquisition_pairs x)) (take_next hs i n d e l) ∙ ap (picked f) (pairs_snoc (take i hs) h) ∙ picked_append f (acquisition_pairs (take i hs)) ((h.row, h.scope) ∷ [])

picked_held : (f : ℕ → Bool) (hs : List AcquiredRow) (r : ℕ) → IsAmong r (picked f (acquisition_pairs hs)) → IsAmong r (acquisition_rows hs)
picked_held f [] r m = absurd (among_nil m)
picked_held f (h ∷ hs) r m = (elim (f h.scope) as (λ b. IsAmong r (cond b (h.row ∷ picked f (acquisition_pairs hs)) (picked f (acquisition_pairs hs))) → IsAmong r (acquisition_rows (h ∷ hs))) [
  | true ↦ λ n. ⊎_elim (λ e. subst (λ z. IsAmong z (acquisition_rows (h ∷ hs))) (sym e) (here (acquisition_rows hs))) (λ i. there h.row (picked_held f hs r i)) (among_cons n)
  | false ↦ λ n. there h.row (picked_held f hs r n)
]) m

picked_distinct : (f : ℕ → Bool) (hs : List AcquiredRow) → IsDistinct nat_eq (acquisition_rows hs) → IsDistinct nat_eq (picked f (acquisition_pairs hs))
picked_distinct f [] d = distinct_nil
picked_distinct f (h ∷ hs) d = elim (f h.scope) as (λ b. IsDistinct nat_eq (cond b (h.row ∷ picked f (acquisition_pairs hs)) (picked f (acquisition_pairs hs)))) [ true ↦ distinct_cons h.row (picked f (acquisition_pairs hs)) (λ m. distinct_head h.row (acquisition_rows hs) d (picked_held f hs h.row m)) (picked_distinct f hs (distinct_tail h.row (acquisition_rows hs) d)) | false ↦ picked_distinct f hs (distinct_tail h.row (acquisition_rows hs) d) ]

module _ {P : Type 0} (v : View P) (bs : List Branch) (hs : List AcquiredRow) (xs : List (Spent P)) (k : Kept v bs hs) (s : Shelved v hs xs) (c j : ℕ) (u : IsUsable v.events v.by c) where
  pub lease_rows_open : (r : ℕ) → IsAmong r (leased_rows (trace v) c) → HasRow v.opened r
  lease_rows_open r m =
      let t = (leased_is v bs hs k c r (usable_scope v bs hs k c u)).0 m in
      k.holds.live r t.0 (subst (λ l. IsAmong (r, t.0) l) k.mirrors.rows (rows_in r t.0 (trace v) (noted_in v.by (Acquire r t.0) v.events t.1))) t.3

  pub lease_distinct : IsDistinct nat_eq (leased_rows (trace v) c)
  lease_distinct = subst (λ l. IsDistinct nat_eq (picked (reaches (trace v) c) l)) (sym k.mirrors.rows) (picked_distinct (reaches (trace v) c) hs k.mirrors.distinct)

  pub lease_none : v.by ≢ Inner j → ¬ (IsLeased v.events j) → (r : ℕ) → ¬ (IsAmong (j, r) v.pairs)
  lease_none by no' r m = ⊎_elim (λ e. by e) (λ y. no' (v.by, y.0, y.1)) (s.leased j r m)

  pub lease_event : (T : List ℕ) → T ≡ leased_rows (trace v) c → v.main ≡ true → (v.by ≢ Inner j) × ¬ (IsAmong j v.had) × ¬ (IsLeased v.events j) → MayNote (leased_all v j T) (Lease j c)
  lease_event T e main st = (
    main,
    st.0,
    st.1,
    st.2,
    u,
    λ r.
        let is = leased_is v bs hs k c r (usable_scope v bs hs k c u) in (
          (λ m. ⊎_elim (λ i. absurd (lease_none st.0 st.2 r i)) (λ i. is.0 (subst (λ l. IsAmong r l) e (pairs_among j j r T i).1)) (among_append (j, r) v.pairs (pairs_for j T) m)),
          (λ y. among_right (j, r) v.pairs (pairs_for j T) (among_pairs j r T (subst (λ l. IsAmong r l) (sym e) (is.1 y)))),
        ),
  )

  module _ (n : ℕ) (T : List ℕ) (e : T ≡ leased_rows (trace v) c) where
    open_row : (i r : ℕ) → IsAmong (i, r) (pairs_for j T) → HasRow v.opened r
    open_row i r m = lease_rows_open r (subst (λ l. IsAmong r l) e (pairs_among j i r T m).1)

    abbrev w : View P
    w = noted (leased_all v j T) (leasing v j c n)

    pub lease_grown : Grown v w (Lease j c ∷ [])
    lease_grown = let g = grown_note v n (Lease j c) in record { trace = g.trace; acquired = g.acquired }

    pub lease_back : (t : ℕ) → IsClosed w.events v.by t → IsClosed v.events v.by t
    lease_back t y = grown_back lease_grown refl refl t y

    lease_lends : Lends w
    lease_lends = record {
      pairs = λ i r m h. ⊎_elim
          (λ o. let y = k.lends.pairs i r o h in (y.0, noted_more v.events (leasing v j c n) y.1))
          (λ o. (c, subst (λ z. Notes w.events v.by (Lease z c)) (sym (pairs_among j i r T o).0) (noted_new v.events (leasing v j c n))))
          (among_append (i, r) v.pairs (pairs_for j T) m);
      bare = λ i r m q. ⊎_elim (λ o. k.lends.bare i r o q) (λ o. open_taken v bs hs k r (open_row i r o) q) (among_append (i, r) v.pairs (pairs_for j T) m);
    }

    pub lease_keeps : owed v + 2 ≤ v.spare → Kept w bs hs
    lease_keeps f = kept_still v w lease_grown refl refl refl refl (λ r m. m) k.rests.handed k.rests.taken (omega (f, arith)) lease_lends k

    pub lease_shelved : IsFreshStamp v n → Shelved w hs xs
    lease_shelved f =
        let a = note_shelved v hs xs n (Lease j c) refl f s in record {
          said_are = a.said_are;
          distinct = a.distinct;
          opened = a.opened;
          pairs = λ i r m. ⊎_elim (λ o. s.pairs i r o) (λ o. s.opened r (open_row i r o)) (among_append (i, r) v.pairs (pairs_for j T) m);
          empty = a.empty;
          leased = λ i r m. ⊎_elim
              (λ o. a.leased i r o)
              (λ o. inr (c, subst (λ z. Notes w.events v.by (Lease z c)) (sym (pairs_among j i r T o).0) (noted_new v.events (leasing v j c n))))
              (among_append (i, r) v.pairs (pairs_for j T) m);
          ended = a.ended;
          rises = a.rises;
        }
