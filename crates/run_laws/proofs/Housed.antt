-- Which device a row's home is.
use Rattle.std.proofs.Common.{◌≡◌, ◌⊎◌, ℕ, zero, suc, ◌<◌, [], ◌∷◌, inl, inr, refl, ap, subst, ⊎_elim, arith}
use Rattle.chunk_core.specs.Lists.{IsAmong}
use Rattle.chunk_core.proofs.Members.{among_cons, among_nil}
use Rattle.device_port.specs.Device.{DeviceTold, Place}

-- the rows of two
pub below_two : (r : ℕ) → r < 2 → (r ≡ 0) ⊎ (r ≡ 1)
below_two zero l = inl refl
below_two (suc zero) l = inr refl
below_two (suc (suc r)) l = absurd (omega (arith, l))

-- the first byte of a device's path
abbrev pub first_byte : DeviceTold → ℕ
first_byte d = elim d.place.path [ [] ↦ 0 | b ∷ bs ↦ b ]

pub path_byte : (d : DeviceTold) (p : Place) → d.place ≡ p → first_byte d ≡ elim p.path [ [] ↦ 0 | b ∷ bs ↦ b ]
path_byte d p e = ap (λ (q : Place). elim q.path as (λ bs. ℕ) [ [] ↦ 0 | b ∷ bs ↦ b ]) e

pub moved : (w : ℕ → DeviceTold) (d : DeviceTold) (r q : ℕ) → d ≡ w r → r ≡ q → d ≡ w q
moved w d r q e z = subst (λ x. d ≡ w x) z e

pub only_one : (d x : DeviceTold) → IsAmong d (x ∷ []) → d ≡ x
only_one d x m = ⊎_elim (λ e. e) (λ n. absurd (among_nil n)) (among_cons m)
