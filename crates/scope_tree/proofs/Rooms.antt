-- The room of a tree.
use Rattle.std.proofs.Common.{◌≡◌, ℕ, ◌+◌, ◌≤◌, suc, Bool, true, false, cond, not, filter, List, [], ◌∷◌, ◌++◌, length, refl, sym, ap, ◌∙◌, subst, ⊎_elim, arith, length-append, nat_eq, reverse}
use Rattle.chunk_core.specs.Lists.{IsAmong, has}
use Rattle.chunk_core.specs.Lists.IsAmong.{here, there}
use Rattle.chunk_core.proofs.Filters.{among_append, among_filter}
use Rattle.res_ledger.specs.declared.event.What.TheVariants.{Acquire}
use Rattle.res_ledger.specs.Order.{firsts}
use Rattle.res_ledger.specs.Own.{rows}
use Rattle.chunk_core.proofs.Bools.{in_has}
use Rattle.row_seat.specs.declared.view.View.{View}
use Rattle.row_seat.specs.Views.{HasRow}
use Rattle.scope_tree.specs.declared.branch.Branch.{Branch}
use Rattle.scope_tree.specs.declared.branch.AcquiredRow.{AcquiredRow}
use Rattle.scope_tree.specs.declared.branch.Spent.{Spent}
use Rattle.scope_tree.specs.Released.{away, is_here}
use Rattle.scope_tree.specs.Rows.{strangers}
use Rattle.std.specs.List.{IsDistinct}
use Rattle.scope_tree.specs.Released.{said}
use Rattle.scope_tree.specs.Trace.{numbers, own_rows, trace}
use Rattle.scope_tree.specs.Kept.{Kept, Shelved, acquisition_pairs, acquisition_rows}
use Rattle.scope_tree.proofs.Bridge.{in_noted, in_rows}
use Rattle.scope_tree.proofs.Distinct.{kin, kin_among, kin_count, length_keys, length_said, strangers_append}
use Rattle.scope_tree.proofs.Grows.{length_pairs, pair_of_row}
use Rattle.scope_tree.proofs.Parts.{numbers_held, row_of_pair}
use Rattle.chunk_core.proofs.Distinct.{distinct_append, distinct_filter}
use Rattle.scope_tree.proofs.Lists.{away_append, fit_in}
use Rattle.std.specs.Map.{keys_of}
use Rattle.row_seat.proofs.Hands.{has_hand}
use Rattle.chunk_core.proofs.Reversed.{reverse_cons}

pub strangers_none : (own T : List ℕ) → ((r : ℕ) → IsAmong r T → IsAmong r own) → strangers own T ≡ 0
strangers_none own [] h = refl
strangers_none own (r ∷ T) h = ap (λ b. cond b (strangers own T) (suc (strangers own T))) (in_has r own (h r (here T))) ∙ strangers_none own T (λ q m. h q (there r m))

pub strangers_reverse : (own T : List ℕ) → strangers own (reverse T) ≡ strangers own T
strangers_reverse own [] = refl
strangers_reverse own (r ∷ T) = ap (strangers own) (reverse_cons r T) ∙ (let t = strangers_reverse own T in let a = strangers_append own (reverse T) (r ∷ []) in elim (has r own) as (λ b. strangers own (reverse T ++ r ∷ []) ≡ strangers own (reverse T) + cond b 0 1 → strangers own (reverse T ++ r ∷ []) ≡ cond b (strangers own T) (suc (strangers own T))) [ true ↦ λ e. omega (e, t, arith) | false ↦ λ e. omega (e, t, arith) ] a)

pub away_reverse : {P : Type 0} (T : List ℕ) (o : List (ℕ × P)) → away (reverse T) o ≡ away T o
away_reverse [] o = refl
away_reverse (r ∷ T) o = ap (λ l. away l o) (reverse_cons r T) ∙ (let t = away_reverse T o in let a = away_append (reverse T) (r ∷ []) o in elim (is_here r o) as (λ b. away (reverse T ++ r ∷ []) o ≡ away (reverse T) o + cond b 0 1 → away (reverse T ++ r ∷ []) o ≡ cond b (away T o) (suc (away T o))) [ true ↦ λ e. omega (e, t, arith) | false ↦ λ e. omega (e, t, arith) ] a)

-- rows that are not open here
abbrev gone_from : {P : Type 0} → List (ℕ × P) → List ℕ → List ℕ
gone_from o T = filter (λ r. not (is_here r o)) T

gone_count : {P : Type 0} (T : List ℕ) (o : List (ℕ × P)) → length (gone_from o T) ≡ away T o
gone_count [] o = refl
gone_count (r ∷ T) o = let t = gone_count T o in elim (is_here r o) as (λ b. length (cond (not b) (r ∷ gone_from o T) (gone_from o T)) ≡ cond b (away T o) (suc (away T o))) [ true ↦ t | false ↦ ap suc t ]

strangers_filter : (own : List ℕ) (f : ℕ → Bool) (T : List ℕ) → strangers own (filter f T) ≤ strangers own T
strangers_filter own f [] = omega arith
strangers_filter own f (r ∷ T) =
    let t = strangers_filter own f T in
    elim (f r) as (λ b. strangers own (cond b (r ∷ filter f T) (filter f T)) ≤ cond (has r own) (strangers own T) (suc (strangers own T))) [
      | true ↦ elim (has r own) as (λ b. cond b (strangers own (filter f T)) (suc (strangers own (filter f T))) ≤ cond b (strangers own T) (suc (strangers own T))) [ true ↦ t | false ↦ omega (t, arith) ]
      | false ↦ elim (has r own) as (λ b. strangers own (filter f T) ≤ cond b (strangers own T) (suc (strangers own T))) [ true ↦ t | false ↦ omega (t, arith) ]
    ]

module _ {P : Type 0} (v : View P) (bs : List Branch) (hs : List AcquiredRow) (k : Kept v bs hs) where
  pub own_is : own_rows v ≡ acquisition_rows hs
  own_is = ap numbers k.mirrors.rows ∙ numbers_held hs

  pub rows_count : length (rows (trace v)) ≡ length hs
  rows_count = ap length k.mirrors.rows ∙ length_pairs hs

  -- the rows that are used, by what the tree keeps
  pub used_is : (F : List ℕ) → length (rows (trace v)) + strangers (own_rows v) F ≡ length hs + strangers (acquisition_rows hs) F
  used_is F = ap (λ n. n + strangers (own_rows v) F) (ap length k.mirrors.rows ∙ length_pairs hs) ∙ ap (λ l. length hs + strangers l F) own_is

  pub open_held : (r : ℕ) → HasRow v.opened r → IsAmong r (acquisition_rows hs)
  open_held r h = let t = k.holds.only r h in row_of_pair r t.0 hs t.1

  -- an open row isn't empty
  pub open_taken : (r : ℕ) → HasRow v.opened r → ¬ (IsAmong r v.empty)
  open_taken r h m = let t = k.holds.only r h in k.rests.empty r m (v.by, t.0, in_noted v.by (Acquire r t.0) v.events (in_rows r t.0 (trace v) (subst (λ l. IsAmong (r, t.0) l) (sym k.mirrors.rows) t.1)))

  fits_held : (T : List ℕ) → IsDistinct nat_eq T → ((r : ℕ) → IsAmong r T → IsAmong r (acquisition_rows hs)) → length T ≤ length hs
  fits_held T d h = let f = fit_in T (acquisition_pairs hs) d (λ r m. pair_of_row r hs (h r m)) in let l = length_pairs hs in omega arith

  module _ (xs : List (Spent P)) (s : Shelved v hs xs) where
    -- the shelf and the open rows are no more than the rows that are used
    pub shelf_count : length xs + length v.opened ≤ length hs + strangers (acquisition_rows hs) (firsts (said xs))
    shelf_count =
        let F = firsts (said xs) in let own = acquisition_rows hs in let A = kin own F in let B = keys_of v.opened in
        let d = distinct_append A B (distinct_filter (λ r. has r own) F s.distinct) k.holds.once (λ r m n. s.opened r (has_hand r v.opened n) (kin_among own F r m).0) in
        let f = fits_held (A ++ B) d (λ r m. ⊎_elim (λ a. (kin_among own F r a).1) (λ b. open_held r (has_hand r v.opened b)) (among_append r A B m)) in
        let a = kin_count own F in let b = length_said xs in let c = length_keys v.opened in let e = length-append A B in omega (f, a, b, c, e, arith)

    -- the shelf and the rows of a lease that may end are no more than the rows that are used and the foreign rows of the lease
    pub cancel_count : (j : ℕ) (T : List ℕ) → IsDistinct nat_eq T → ((r : ℕ) → IsAmong r T → IsAmong (j, r) v.pairs) → length xs + away T v.opened ≤ length hs + strangers (acquisition_rows hs) (firsts (said xs)) + strangers (acquisition_rows hs) T
    cancel_count j T dt p =
        let F = firsts (said xs) in let own = acquisition_rows hs in let A = kin own F in let N = gone_from v.opened T in let B = kin own N in
        let dn = distinct_filter (λ r. not (is_here r v.opened)) T dt in
        let d = distinct_append A B (distinct_filter (λ r. has r own) F s.distinct) (distinct_filter (λ r. has r own) N dn) (λ r m n. s.pairs j r (p r (among_filter (λ q. not (is_here q v.opened)) r T (kin_among own N r n).0).0) (kin_among own F r m).0) in
        let f = fits_held (A ++ B) d (λ r m. ⊎_elim (λ a. (kin_among own F r a).1) (λ b. (kin_among own N r b).1) (among_append r A B m)) in
        let a = kin_count own F in let b = length_said xs in let c = kin_count own N in let g = gone_count T v.opened in let h = strangers_filter own (λ r. not (is_here r v.opened)) T in let e = length-append A B in omega (f, a, b, c, e, g, h, arith)
