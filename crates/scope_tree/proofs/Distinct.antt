-- Lists of rows: what is picked of them, and how many of them are foreign.
use Rattle.std.proofs.Common.{◌≡◌, ℕ, ◌+◌, ◌≤◌, suc, Bool, true, false, cond, filter, List, [], ◌∷◌, ◌++◌, length, refl, sym, ap, subst, ⊎_elim, arith}
use Rattle.chunk_core.specs.Lists.{IsAmong, has}
use Rattle.chunk_core.specs.Lists.IsAmong.{here, there}
use Rattle.chunk_core.proofs.Members.{among_cons}
use Rattle.chunk_core.proofs.Filters.{among_filter}
use Rattle.chunk_core.proofs.Bools.{has_in, in_has}
use Rattle.res_ledger.specs.Order.{Picks, firsts}
use Rattle.res_ledger.specs.Order.Picks.{none, pick, pass}
use Rattle.scope_tree.specs.declared.branch.Spent.{Spent}
use Rattle.scope_tree.specs.Rows.{strangers}
use Rattle.scope_tree.specs.Released.{said}
use Rattle.std.specs.Map.{keys_of}

-- what is picked from a list is of it
pub picks_among : {may : ℕ → Type 0} {xs ys : List ℕ} (r : ℕ) → Picks may xs ys → IsAmong r xs → IsAmong r ys
picks_among r none m = m
picks_among r (pick {xs = xs} {ys = ys} x p) m = ⊎_elim (λ e. subst (λ z. IsAmong z (x ∷ ys)) (sym e) (here ys)) (λ n. there x (picks_among r p n)) (among_cons m)
picks_among r (pass y h p) m = there y (picks_among r p m)

pub picks_strangers : {may : ℕ → Type 0} {xs ys : List ℕ} (own : List ℕ) → Picks may xs ys → strangers own xs ≤ strangers own ys
picks_strangers own none = omega arith
picks_strangers own (pick {xs = xs} {ys = ys} x p) = let t = picks_strangers own p in elim (has x own) as (λ b. cond b (strangers own xs) (suc (strangers own xs)) ≤ cond b (strangers own ys) (suc (strangers own ys))) [ true ↦ t | false ↦ omega arith ]
picks_strangers {xs = zs} own (pass {ys = ys} y h p) = let t = picks_strangers own p in elim (has y own) as (λ b. strangers own zs ≤ cond b (strangers own ys) (suc (strangers own ys))) [ true ↦ t | false ↦ omega arith ]

pub strangers_append : (own xs ys : List ℕ) → strangers own (xs ++ ys) ≡ strangers own xs + strangers own ys
strangers_append own [] ys = omega arith
strangers_append own (x ∷ xs) ys = let t = strangers_append own xs ys in elim (has x own) as (λ b. cond b (strangers own (xs ++ ys)) (suc (strangers own (xs ++ ys))) ≡ cond b (strangers own xs) (suc (strangers own xs)) + strangers own ys) [ true ↦ t | false ↦ omega arith ]

-- with more rows of its own it has no more strangers
pub strangers_less : (own more T : List ℕ) → ((r : ℕ) → IsAmong r own → IsAmong r more) → strangers more T ≤ strangers own T
strangers_less own more [] h = omega arith
strangers_less own more (r ∷ T) h =
    let t = strangers_less own more T h in
    (elim (has r own) as (λ b. has r own ≡ b → cond (has r more) (strangers more T) (suc (strangers more T)) ≤ cond b (strangers own T) (suc (strangers own T))) [
      | true ↦ λ q. subst (λ b. cond b (strangers more T) (suc (strangers more T)) ≤ strangers own T) (sym (in_has r more (h r (has_in r own q)))) t
      | false ↦ λ q. elim (has r more) as (λ b. cond b (strangers more T) (suc (strangers more T)) ≤ suc (strangers own T)) [ true ↦ omega arith | false ↦ omega arith ]
    ]) refl

-- the rows T that are of its own
abbrev pub kin : List ℕ → List ℕ → List ℕ
kin own T = filter (λ r. has r own) T

pub kin_count : (own T : List ℕ) → length (kin own T) + strangers own T ≡ length T
kin_count own [] = omega arith
kin_count own (r ∷ T) = let t = kin_count own T in elim (has r own) as (λ b. length (cond b (r ∷ kin own T) (kin own T)) + cond b (strangers own T) (suc (strangers own T)) ≡ suc (length T)) [ true ↦ omega arith | false ↦ omega arith ]

pub kin_among : (own T : List ℕ) (r : ℕ) → IsAmong r (kin own T) → IsAmong r T × IsAmong r own
kin_among own T r m = let t = among_filter (λ r. has r own) r T m in (t.0, has_in r own t.1)

pub firsts_append : (xs ys : List (ℕ × Bool)) → firsts (xs ++ ys) ≡ firsts xs ++ firsts ys
firsts_append [] ys = refl
firsts_append (x ∷ xs) ys = ap (λ l. x.0 ∷ l) (firsts_append xs ys)

module _ {P : Type 0} where
  pub length_keys : (xs : List (ℕ × P)) → length (keys_of xs) ≡ length xs
  length_keys [] = refl
  length_keys (x ∷ xs) = ap suc (length_keys xs)

  pub said_append : (xs ys : List (Spent P)) → said (xs ++ ys) ≡ said xs ++ said ys
  said_append [] ys = refl
  said_append (x ∷ xs) ys = ap (λ l. let y : ℕ × Bool = (x.row, x.ok) in y ∷ l) (said_append xs ys)

  pub length_said : (xs : List (Spent P)) → length (firsts (said xs)) ≡ length xs
  length_said [] = refl
  length_said (x ∷ xs) = ap suc (length_said xs)
