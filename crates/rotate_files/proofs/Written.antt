-- Writes to a device, one after another.
use Rattle.std.proofs.Common.{◌≡◌, ℕ, ◌+◌, ◌-◌, ◌≤◌, List, [], ◌++◌, length, take, drop, zero, suc, ◌∷◌, zero-add, refl, sym, ◌∙◌, ap, arith, append_assoc, Option, None, Some, option_map}
use Rattle.std.proofs.lemmas.List.{take-take, length-take}
use Rattle.std.proofs.Math.Nat.{suc-add}
use Rattle.device_port.specs.Device.{DeviceTold, with_written}

behind : (w : Option (List ℕ)) (a b : List ℕ) → option_map (λ x. x ++ b) (option_map (λ x. x ++ a) w) ≡ option_map (λ x. x ++ (a ++ b)) w
behind None a b = refl
behind (Some w) a b = ap (λ x. Some x) (append_assoc w a b)

-- two pieces behind one another are one piece
with_written_twice : (d : DeviceTold) (a b : List ℕ) → with_written (with_written d a) b ≡ with_written d (a ++ b)
with_written_twice d a b = ap (λ w. let t : DeviceTold = record d { written = w } in t) (behind d.written a b)

pub take-add : (m j : ℕ) (xs : List ℕ) → take (m + j) xs ≡ take m xs ++ take j (drop m xs)
take-add zero j xs = rw zero-add refl
take-add (suc m) zero [] = rw suc-add refl
take-add (suc m) (suc j) [] = rw suc-add refl
take-add (suc m) j (x ∷ xs) = rw suc-add (ap (λ ys. x ∷ ys) (take-add m j xs))

-- a piece behind a front
pub one_more : (a b c : DeviceTold) (xs : List ℕ) (at n : ℕ) → at ≤ length xs → n ≤ length (take (length xs - at) (drop at xs)) → b ≡ with_written a (take at xs)
    → c ≡ with_written b (take n (take (length xs - at) (drop at xs))) → (at + n ≤ length xs) × (c ≡ with_written a (take (at + n) xs))
one_more a b c xs at n le m h k =
    let fits : n ≤ length xs - at = omega (arith, m, length-take (length xs - at) (drop at xs)) in (
      omega arith,
      k ∙ ap (λ s. with_written s (take n (take (length xs - at) (drop at xs)))) h ∙ with_written_twice a (take at xs) (take n (take (length xs - at) (drop at xs)))
          ∙ ap (λ zs. with_written a (take at xs ++ zs)) (take-take n (length xs - at) (drop at xs) fits) ∙ ap (λ zs. with_written a zs) (sym (take-add at n xs)),
    )
