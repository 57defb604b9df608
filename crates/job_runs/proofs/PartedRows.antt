-- The devices of a stream that has ended: on the shelf, or never opened.
use Rattle.std.proofs.Common.{◌≡◌, ℕ, zero, suc, ◌+◌, ◌<◌, ◌≤◌, Bool, true, false, cond, not, List, [], ◌∷◌, ◌++◌, ◌⊎◌, inl, inr, map, filter, refl, sym, ◌∙◌, ap, subst, ⊎_elim, arith, nat_eq}
use Rattle.std.proofs.lemmas.Bool.{cases_lt}
use Rattle.std.proofs.lemmas.List.{map-append}
use Rattle.std.proofs.lemmas.List.Sorted.{IsPermutation-append_left, IsPermutation-filter_both, IsPermutation-map, IsPermutation-trans}
use Rattle.std.specs.List.{range_with_len, IsDistinct}
use Rattle.std.specs.List.Sorted.{IsPermutation}
use Rattle.chunk_core.specs.Lists.{IsAmong, has}
use Rattle.chunk_core.specs.Lists.IsAmong.{here, there}
use Rattle.chunk_core.proofs.Members.{among_nil, among_cons}
use Rattle.chunk_core.proofs.Filters.{among_filter, filter_among}
use Rattle.res_ledger.specs.Order.{firsts}
use Rattle.chunk_core.proofs.Bools.{has_in, in_has}
use Rattle.device_port.specs.Device.{DeviceTold}
use Rattle.row_seat.specs.Views.{IsWithin}
use Rattle.scope_tree.specs.declared.branch.Spent.{Spent}
use Rattle.scope_tree.specs.Released.{said}
use Rattle.chunk_core.proofs.Distinct.{distinct_filter, distinct_head, distinct_tail}
use Rattle.pull_stepper.specs.Sites.{IsUnopened, IsClosedDevice, Parted}
use Rattle.pull_stepper.specs.Sites.Parted.{none, unopened, ended}
use Rattle.joined_runs.specs.Devices.{IsAtRest}
use Rattle.job_runs.proofs.Closing.{ShelfTells, in_row, row_in}
use Rattle.res_ledger.proofs.Permuted.{same_elements, range_among, range_distinct}

module _ {V : Type 0} where
  -- a row stands once, so what has its number is it
  pub same_row : (xs : List (Spent V)) → IsDistinct nat_eq (firsts (said xs)) → (x y : Spent V) → IsAmong x xs → IsAmong y xs → x.row ≡ y.row → x ≡ y
  same_row [] d x y m n e = absurd (among_nil m)
  same_row (z ∷ xs) d x y m n e =
      let apart : (u v : Spent V) → u ≡ z → IsAmong v xs → u.row ≡ v.row → ⊥ = λ u v a i s. distinct_head z.row (firsts (said xs)) d (subst (λ r. IsAmong r (firsts (said xs))) (sym s ∙ ap (λ (t : Spent V). t.row) a) (row_in v xs i)) in
      ⊎_elim
      (λ a. ⊎_elim (λ b. a ∙ sym b) (λ j. absurd (apart x y a j e)) (among_cons n))
      (λ i. ⊎_elim (λ b. absurd (apart y x b i (sym e))) (λ j. same_row xs (distinct_tail z.row (firsts (said xs)) d) x y i j e) (among_cons n))
      (among_cons m)

-- the devices on a shelf are those of its rows
pub shelved : {V : Type 0} (told : V → DeviceTold) (w : ℕ → DeviceTold) (xs : List (Spent V)) → ((x : Spent V) → IsAmong x xs → told x.pay ≡ w x.row) → map w (firsts (said xs)) ≡ map (λ x. told x.pay) xs
shelved told w [] h = refl
shelved told w (x ∷ xs) h = ap (λ z. z ∷ map w (firsts (said xs))) (sym (h x (here xs))) ∙ ap (λ l. told x.pay ∷ l) (shelved told w xs (λ y m. h y (there x m)))

module _ {V : Type 0} (told : V → DeviceTold) (w : ℕ → DeviceTold) (n : ℕ) (shelf : List (Spent V)) where
  -- the device of a place ended on the shelf, or waits
  abbrev Ended : ℕ → Type 0
  Ended q = (x : Spent V) × IsAmong x shelf × (x.row ≡ q) × (told x.pay ≡ w q) × IsClosedDevice (w q) x.exit x.ok

  abbrev Waits : ℕ → Type 0
  Waits q = IsUnopened (w q) × ¬ (IsAmong q (firsts (said shelf)))

  parted_below : {i : ℕ} {ds : List V} → Parted told w shelf n i ds → i ≤ n
  parted_below none = omega arith
  parted_below (unopened d t u free p) = let l = parted_below p in omega (arith, l)
  parted_below (ended x m r t s p) = let l = parted_below p in omega (arith, l)

  parted_at : (q : ℕ) {i : ℕ} {ds : List V} → Parted told w shelf n i ds → i ≤ q → q < n → Waits q ⊎ Ended q
  parted_at q none l m = absurd (omega arith)
  parted_at q (unopened {i = i} d t u free p) l m =
      ⊎_elim (λ (s : i < q). parted_at q p (omega arith) m) (λ (s : q ≤ i). let e : i ≡ q = omega arith in subst (λ k. Waits k ⊎ Ended k) e (inl (u, free))) (cases_lt i q)
  parted_at q (ended {i = i} x a r t s p) l m =
      ⊎_elim (λ (b : i < q). parted_at q p (omega arith) m) (λ (b : q ≤ i). let e : i ≡ q = omega arith in subst (λ k. Waits k ⊎ Ended k) e (inr (x, a, r, t, s))) (cases_lt i q)

  -- the row stands on the shelf, or not
  abbrev stands : ℕ → Bool
  stands r = has r (firsts (said shelf))

  abbrev lacks : ℕ → Bool
  lacks r = not (stands r)

  lacks_it : (r : ℕ) → ¬ (IsAmong r (firsts (said shelf))) → lacks r ≡ true
  lacks_it r free = (elim (stands r) as (λ b. stands r ≡ b → not b ≡ true) [ true ↦ λ h. absurd (free (has_in r (firsts (said shelf)) h)) | false ↦ λ h. refl ]) refl

  stands_here : (x : Spent V) → IsAmong x shelf → (r : ℕ) → x.row ≡ r → lacks r ≡ false
  stands_here x m r e = ap not (in_has r (firsts (said shelf)) (subst (λ q. IsAmong q (firsts (said shelf))) e (row_in x shelf m)))

  -- the devices that were never opened are those whose rows aren't on the shelf
  waiting : {i : ℕ} {ds : List V} → Parted told w shelf n i ds → (k : ℕ) → i + k ≡ n → map told ds ≡ map w (filter lacks (range_with_len i k))
  waiting none zero e = refl
  waiting none (suc k) e = absurd (omega arith)
  waiting (unopened d t u free p) zero e = let l = parted_below p in absurd (omega (arith, l, e))
  waiting (ended x m r t s p) zero e = let l = parted_below p in absurd (omega (arith, l, e))
  waiting (unopened {i = i} {ds = ds} d t u free p) (suc k) e =
      let rest : map told ds ≡ map w (filter lacks (range_with_len (i + 1) k)) = let next : suc i ≡ i + 1 = omega arith in subst (λ j. map told ds ≡ map w (filter lacks (range_with_len j k))) next (waiting p k (omega (arith, e))) in
      subst (λ b. told d ∷ map told ds ≡ map w (cond b (i ∷ filter lacks (range_with_len (i + 1) k)) (filter lacks (range_with_len (i + 1) k)))) (sym (lacks_it i free))
      (ap (λ l. told d ∷ l) rest ∙ ap (λ z. z ∷ map w (filter lacks (range_with_len (i + 1) k))) t)
  waiting (ended {i = i} {ds = ds} x m r t s p) (suc k) e =
      let rest : map told ds ≡ map w (filter lacks (range_with_len (i + 1) k)) = let next : suc i ≡ i + 1 = omega arith in subst (λ j. map told ds ≡ map w (filter lacks (range_with_len j k))) next (waiting p k (omega (arith, e))) in
      subst (λ b. map told ds ≡ map w (cond b (i ∷ filter lacks (range_with_len (i + 1) k)) (filter lacks (range_with_len (i + 1) k)))) (sym (stands_here x m i r)) rest

  module _ (from : ℕ) {ds : List V} (parted : Parted told w shelf n from ds) (once : IsDistinct nat_eq (firsts (said shelf))) (within : (x : Spent V) → IsAmong x shelf → IsWithin from n x.row) where
    -- what stands on the shelf is the device of its row
    ended_so : (x : Spent V) → IsAmong x shelf → (told x.pay ≡ w x.row) × IsClosedDevice (w x.row) x.exit x.ok
    ended_so x m =
        ⊎_elim
        (λ (u : Waits x.row). absurd (u.1 (row_in x shelf m)))
        (λ (e : Ended x.row). subst (λ (y : Spent V). (told y.pay ≡ w x.row) × IsClosedDevice (w x.row) y.exit y.ok) (same_row shelf once e.0 x e.1 m e.2) (e.3, e.4))
        (parted_at x.row parted (within x m).0 (within x m).1)

    pub stands_there : (x : Spent V) → IsAmong x shelf → told x.pay ≡ w x.row
    stands_there x m = (ended_so x m).0

    -- the devices of the places are those on the shelf and those that were never opened
    pub all_parted : (count : ℕ) → from + count ≡ n → IsPermutation (map w (range_with_len from count)) (map (λ x. told x.pay) shelf ++ map told ds)
    all_parted count e =
        let ns = range_with_len from count in
        let rows = firsts (said shelf) in
        let same : IsPermutation (filter stands ns) rows = same_elements (filter stands ns) rows (distinct_filter stands ns (range_distinct from count)) once
        (λ r m. has_in r rows (among_filter stands r ns m).1)
        (λ r m. let x = in_row r shelf m in let l = within x.0 x.1 in filter_among stands r ns (range_among from count r (omega (arith, l.0, x.2)) (omega (arith, l.1, x.2, e))) (in_has r rows m)) in
        subst (λ l. IsPermutation (map w ns) (l ++ map told ds)) (shelved told w shelf (λ x m. (ended_so x m).0))
        (subst (λ l. IsPermutation (map w ns) (map w rows ++ l)) (sym (waiting parted count e))
        (IsPermutation-trans (map w ns) (map w (filter stands ns) ++ map w (filter lacks ns)) (map w rows ++ map w (filter lacks ns))
        (subst (λ l. IsPermutation (map w ns) l) (map-append w (filter stands ns) (filter lacks ns)) (IsPermutation-map w ns (filter stands ns ++ filter lacks ns) (IsPermutation-filter_both stands lacks (λ r. refl) ns)))
        (IsPermutation-append_left (map w (filter lacks ns)) (map w (filter stands ns)) (map w rows) (IsPermutation-map w (filter stands ns) rows same))))

    -- the shelf tells of the devices that were opened
    pub shelf_tells : ShelfTells from n w shelf
    shelf_tells = record {
      rows = λ x m. let s = (ended_so x m).1 in (within x m, s.opens, s.exit, s.answer);
      each = λ r b l o.
          ⊎_elim
          (λ (u : Waits r). let never = u.0.opens in absurd (omega (arith, never, o)))
          (λ (e : Ended r). (e.0, e.1, e.2))
          (parted_at r parted b l);
    }

    -- each device is at rest
    pub each_spent : (q : ℕ) → from ≤ q → q < n → IsAtRest (w q)
    each_spent q b l =
        ⊎_elim
        (λ (u : Waits q). record { shut = u.0.is_open; stage = inl (u.0.opens, u.0.closes, u.0.close_faults, u.0.exit) })
        (λ (e : Ended q). record { shut = e.4.is_open; stage = inr (e.4.opens, e.4.closes) })
        (parted_at q parted b l)
