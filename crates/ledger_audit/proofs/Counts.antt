-- What stands once in a legal ledger.
use Rattle.std.proofs.Common.{◌≡◌, ℕ, Bool, true, false, cond, count_by, List, [], ◌∷◌, ◌++◌, refl, sym, ap, ◌∙◌, subst, append_assoc, arith}
use Rattle.std.proofs.lemmas.List.Sums.{sum_by-append, sum_by-cons}
use Rattle.chunk_core.specs.Lists.{IsAmong}
use Rattle.chunk_core.specs.Lists.IsAmong.{here, there}
use Rattle.chunk_core.proofs.Cuts.{among_parts}
use Rattle.chunk_core.proofs.Members.{among_mid}
use Rattle.res_ledger.specs.declared.event.Event.{Event}
use Rattle.res_ledger.specs.Ledger.{IsCanceled, IsFinalized, IsLegal, MayFollow}
use Rattle.res_ledger.specs.Whole.{cancel_count, final_count, is_cancel, is_final}
use Rattle.res_ledger.proofs.Noted.{is_cancel_shape, is_final_shape}
use Rattle.chunk_core.proofs.Bools.{itself}

abbrev tick : Bool → ℕ
tick b = cond b 1 0

module _ {A : Type 0} (p : A → Bool) where
  count_none : (xs : List A) → ((x : A) → IsAmong x xs → p x ≡ true → ⊥) → count_by p xs ≡ 0
  count_none [] n = refl
  count_none (x ∷ xs) n =
      let t = count_none xs (λ y m. n y (there x m)) in
      let c = sum_by-cons (λ (y : A). tick (p y)) x xs in
      let z : tick (p x) ≡ 0 = (elim (p x) as (λ b. p x ≡ b → tick b ≡ 0) [ true ↦ (λ h. absurd (n x (here xs) h)) | false ↦ (λ h. refl) ]) refl in
      omega (arith, t, c, z)

  -- one passes, and none before or behind it
  count_one : (xs ys : List A) (x : A) → p x ≡ true → ((y : A) → IsAmong y xs → p y ≡ true → ⊥) → ((y : A) → IsAmong y ys → p y ≡ true → ⊥) → count_by p (xs ++ x ∷ ys) ≡ 1
  count_one xs ys x h before behind =
      let s = sum_by-append (λ (y : A). tick (p y)) xs (x ∷ ys) in
      let c = sum_by-cons (λ (y : A). tick (p y)) x ys in
      let a = count_none xs before in
      let b = count_none ys behind in
      let i : tick (p x) ≡ 1 = ap tick h in
      omega (arith, s, c, a, b, i)

  -- what passes stands behind nothing that passes
  abbrev IsFirst : List A → Type 0
  IsFirst L = (xs ys : List A) (x : A) → L ≡ xs ++ x ∷ ys → p x ≡ true → (y : A) → IsAmong y xs → p y ≡ true → ⊥

  count_first : (L : List A) (x : A) → IsAmong x L → p x ≡ true → IsFirst L → count_by p L ≡ 1
  count_first L x m h f =
      let t = among_parts x L m in
      ap (count_by p) t.2 ∙ count_one t.0 t.1 x h (f t.0 t.1 x t.2 h)
      (λ y n g.
      let u = among_parts y t.1 n in
      f (t.0 ++ x ∷ u.0) u.1 y (t.2 ∙ ap (λ l. t.0 ++ x ∷ l) u.2 ∙ sym (append_assoc t.0 (x ∷ u.0) (y ∷ u.1))) g x (among_mid t.0 u.0 x) h)

-- a row with a Final has one
pub final_once : (L : List Event) (r : ℕ) → IsLegal L → IsFinalized L r → final_count r L ≡ 1
final_once L r legal f =
    count_first (λ e. is_final r e.what) L f.2.1.0 f.2.1.1 (subst (λ w. is_final r w ≡ true) (sym f.2.1.3) (itself r))
    (λ A B e is h x m g.
    let s = is_final_shape r e.what h in
    let t = is_final_shape r x.what g in
    (subst (λ w. MayFollow A e.by w) s.2 (legal A B e is)).0.2 (x.by, t.1, (t.0, (x, m, refl, t.2))))

-- a lease with a Cancel has one
pub cancel_once : (L : List Event) (j : ℕ) → IsLegal L → IsCanceled L j → cancel_count j L ≡ 1
cancel_once L j legal c =
    count_first (λ e. is_cancel j e.what) L c.1.1.0 c.1.1.1 (subst (λ w. is_cancel j w ≡ true) (sym c.1.1.3) (itself j))
    (λ A B e is h x m g.
    let s = is_cancel_shape j e.what h in
    let t = is_cancel_shape j x.what g in
    (subst (λ w. MayFollow A e.by w) s.1 (legal A B e is)).1 (x.by, (t.0, (x, m, refl, t.1))))
