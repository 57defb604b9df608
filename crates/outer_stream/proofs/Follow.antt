-- The parts that are left.
use Rattle.std.proofs.Common.{◌≡◌, ℕ, suc, ◌≤◌, List, [], ◌∷◌, length, drop, Some, refl, ap, ◌∙◌, subst, arith}
use Rattle.std.specs.List.{slice_get}
use Rattle.std.proofs.Math.Seq.{drop-cons}
use Rattle.std.proofs.lemmas.Option.{get_or_from_slice_get, slice_get_within}
use Rattle.outer_stream.specs.declared.next.OuterPart.{OuterPart}
use Rattle.outer_stream.specs.Parts.{FollowParts}

pub follow_within : (t s : ℕ) (ps : List OuterPart) (T n : ℕ) → FollowParts t s ps T n → (t ≤ T) × (s ≤ n)
follow_within t s [] T n h = (let e = h.0 in omega (e, arith), let e = h.1 in omega (e, arith))
follow_within t s (p ∷ ps) T n h = let r = follow_within p.tables.to p.behind ps T n h.3 in let a = h.1 in let b = h.2 in let c = r.0 in let d = r.1 in (omega (a, c, arith), omega (b, d, arith))

-- the next part begins with the next table and the next stream
pub record IsNextPart (parts : List OuterPart) (i t s T n : ℕ) (p : OuterPart) : Type 0 where
  pub from : p.tables.from ≡ t
  pub to : t ≤ p.tables.to
  pub within : p.tables.to ≤ T
  pub behind : s ≤ p.behind
  pub few : p.behind ≤ n
  pub rest : FollowParts p.tables.to p.behind (drop (suc i) parts) T n

pub drop_get : {A : Type 0} (xs : List A) (i : ℕ) (x : A) → slice_get xs i ≡ Some x → drop i xs ≡ x ∷ drop (suc i) xs
drop_get xs i x e = drop-cons xs i x (slice_get_within xs i x e) ∙ ap (λ y. y ∷ drop (suc i) xs) (get_or_from_slice_get xs i x x e)

pub next_part : (parts : List OuterPart) (i t s T n : ℕ) (p : OuterPart) → slice_get parts i ≡ Some p → FollowParts t s (drop i parts) T n → IsNextPart parts i t s T n p
next_part parts i t s T n p is h =
    let f : FollowParts t s (p ∷ drop (suc i) parts) T n = subst (λ ps. FollowParts t s ps T n) (drop_get parts i p is) h in
    let r = follow_within p.tables.to p.behind (drop (suc i) parts) T n f.3 in
    record { from = f.0; to = f.1; within = r.0; behind = f.2; few = r.1; rest = f.3 }

drop_end : {A : Type 0} (xs : List A) → drop (length xs) xs ≡ []
drop_end [] = refl
drop_end (x ∷ xs) = drop_end xs

-- behind the last part no stream is left
pub follow_done : (parts : List OuterPart) (i t s T n : ℕ) → i ≡ length parts → FollowParts t s (drop i parts) T n → (t ≡ T) × (s ≡ n)
follow_done parts i t s T n e h = subst (λ ps. FollowParts t s ps T n) (ap (λ k. drop k parts) e ∙ drop_end parts) h
