-- The devices of rows that ended, by what stands on a shelf.
use Rattle.std.proofs.Common.{◌≡◌, ◌≢◌, ℕ, cond, nat_eq, List, [], ◌∷◌, map, refl, sym, ◌∙◌, ap, subst, ⊎_elim, eq-eqb, ne_eqb}
use Rattle.std.proofs.lemmas.List.Sorted.{IsPermutation-map}
use Rattle.std.specs.List.{IsDistinct}
use Rattle.std.specs.List.Sorted.{IsPermutation}
use Rattle.chunk_core.specs.Lists.{IsAmong}
use Rattle.chunk_core.specs.Lists.IsAmong.{here, there}
use Rattle.chunk_core.proofs.Distinct.{distinct_head, distinct_tail}
use Rattle.chunk_core.proofs.Members.{among_cons, among_nil}
use Rattle.device_port.specs.Device.{DeviceTold}
use Rattle.res_ledger.specs.Order.{firsts}
use Rattle.scope_tree.specs.declared.branch.Spent.{Spent}
use Rattle.scope_tree.specs.Released.{said}
use Rattle.res_ledger.proofs.Permuted.{same_elements}
use Rattle.job_runs.proofs.Closing.{in_row, row_in}
use Rattle.job_runs.proofs.PartedRows.{shelved}

module _ {V : Type 0} (ended : Spent V → DeviceTold) where
  -- the device of a row that stands on the shelf is the one that is told of it, and that of another row is as it was
  abbrev pub closed_home : List (Spent V) → (ℕ → DeviceTold) → ℕ → DeviceTold
  closed_home [] w r = w r
  closed_home (x ∷ xs) w r = cond (nat_eq x.row r) (ended x) (closed_home xs w r)

  pub home_on : (xs : List (Spent V)) (w : ℕ → DeviceTold) → IsDistinct nat_eq (firsts (said xs)) → (x : Spent V) → IsAmong x xs → closed_home xs w x.row ≡ ended x
  home_on [] w once x m = absurd (among_nil m)
  home_on (y ∷ xs) w once x m =
      ⊎_elim
      (λ e. ap (λ b. cond b (ended y) (closed_home xs w x.row)) (eq-eqb y.row x.row (ap (λ (z : Spent V). z.row) (sym e))) ∙ ap ended (sym e))
      (λ i.
      let other : y.row ≢ x.row = λ e. distinct_head y.row (firsts (said xs)) once (subst (λ r. IsAmong r (firsts (said xs))) (sym e) (row_in x xs i)) in
      ap (λ b. cond b (ended y) (closed_home xs w x.row)) (ne_eqb y.row x.row other) ∙ home_on xs w (distinct_tail y.row (firsts (said xs)) once) x i)
      (among_cons m)

  pub home_off : (xs : List (Spent V)) (w : ℕ → DeviceTold) (r : ℕ) → ((x : Spent V) → IsAmong x xs → x.row ≢ r) → closed_home xs w r ≡ w r
  home_off [] w r h = refl
  home_off (y ∷ xs) w r h = ap (λ b. cond b (ended y) (closed_home xs w r)) (ne_eqb y.row r (h y (here xs))) ∙ home_off xs w r (λ x m. h x (there y m))

-- where these rows are those that stand there, their devices are those on the shelf
pub all_shelved : {V : Type 0} (told : V → DeviceTold) (w : ℕ → DeviceTold) (rows : List ℕ) (shelf : List (Spent V)) → IsDistinct nat_eq rows → IsDistinct nat_eq (firsts (said shelf)) → ((r : ℕ) → IsAmong r rows → (x : Spent V) × IsAmong x shelf × (x.row ≡ r))
    → ((x : Spent V) → IsAmong x shelf → IsAmong x.row rows × (w x.row ≡ told x.pay)) → IsPermutation (map w rows) (map (λ x. told x.pay) shelf)
all_shelved told w rows shelf apart once found stands =
    let rs = firsts (said shelf) in
    let same : IsPermutation rows rs = same_elements rows rs apart once
    (λ r m. let x = found r m in subst (λ k. IsAmong k rs) x.2 (row_in x.0 shelf x.1))
    (λ r m. let x = in_row r shelf m in subst (λ k. IsAmong k rows) x.2 (stands x.0 x.1).0) in
    subst (λ xs. IsPermutation (map w rows) xs) (shelved told w shelf (λ x m. sym (stands x m).1)) (IsPermutation-map w rows rs same)
