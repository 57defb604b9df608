-- Writes one after another.
use Rattle.std.proofs.Common.{◌≡◌, ℕ, ◌+◌, ◌-◌, ◌≤◌, List, [], ◌++◌, length, take, drop, zero, suc, ◌∷◌, zero-add, refl, sym, ◌∙◌, ap, arith, append_assoc, append-nil, length-append, Option, None, Some, option_map, Result, Ok, Err}
use Rattle.std.proofs.lemmas.List.{take-append-le, take-take, length-take}
use Rattle.std.proofs.Math.Nat.{suc-add}
use Rattle.std.proofs.Math.Seq.{take-append-add}
use Rattle.device_port.specs.Sink.{SinkTold, with_bytes, BreaksOff, Puts}
use Rattle.device_port.specs.declared.Failed.{Failed}

behind : (w : Option (List ℕ)) (a b : List ℕ) → option_map (λ x. x ++ b) (option_map (λ x. x ++ a) w) ≡ option_map (λ x. x ++ (a ++ b)) w
behind None a b = refl
behind (Some w) a b = ap (λ x. Some x) (append_assoc w a b)

behind_none : (w : Option (List ℕ)) → option_map (λ x. x ++ []) w ≡ w
behind_none None = refl
behind_none (Some w) = ap (λ x. Some x) (append-nil w)

-- two pieces behind one another are one piece
pub with_bytes_twice : (s : SinkTold) (a b : List ℕ) → with_bytes (with_bytes s a) b ≡ with_bytes s (a ++ b)
with_bytes_twice s a b = ap (λ w. let t : SinkTold = record { written = w; faults = s.faults } in t) (behind s.written a b)

pub with_bytes_none : (s : SinkTold) → with_bytes s [] ≡ s
with_bytes_none s = ap (λ w. let t : SinkTold = record { written = w; faults = s.faults } in t) (behind_none s.written)

take-add : (m j : ℕ) (xs : List ℕ) → take (m + j) xs ≡ take m xs ++ take j (drop m xs)
take-add zero j xs = rw zero-add refl
take-add (suc m) zero [] = rw suc-add refl
take-add (suc m) (suc j) [] = rw suc-add refl
take-add (suc m) j (x ∷ xs) = rw suc-add (ap (λ ys. x ∷ ys) (take-add m j xs))

-- a front was written, and then the rest or a part of it
pub joined : {T : Type 0} (a b c : SinkTold) (xs ys : List ℕ) (r : Result T Failed) → b ≡ with_bytes a xs → Puts b c ys r → Puts a c (xs ++ ys) r
joined a b c xs ys (Ok u) e p = p ∙ (ap (λ s. with_bytes s ys) e ∙ with_bytes_twice a xs ys)
joined a b c xs ys (Err u) e p = record {
  count = length xs + p.count;
  front = omega (arith, length-append xs ys, p.front);
  told = p.told ∙ ap (λ (s : SinkTold). let t : SinkTold = record s { faults = s.faults + 1 } in t)
      (ap (λ s. with_bytes s (take p.count ys)) e ∙ with_bytes_twice a xs (take p.count ys) ∙ ap (λ zs. with_bytes a zs) (sym (take-append-add xs ys p.count)));
}

-- the first piece was written in part
pub stopped : (a b : SinkTold) (xs ys : List ℕ) → BreaksOff a b xs → BreaksOff a b (xs ++ ys)
stopped a b xs ys p =
    let le : p.count ≤ length xs = omega (arith, p.front) in
    record {
      count = p.count;
      front = omega (arith, p.front, length-append xs ys);
      told = p.told ∙ ap (λ zs. let t : SinkTold = record (with_bytes a zs) { faults = a.faults + 1 } in t) (sym (take-append-le p.count xs ys le));
    }

-- a piece behind a front
pub one_more : (a b c : SinkTold) (xs : List ℕ) (at n : ℕ) → at ≤ length xs → n ≤ length (take (length xs - at) (drop at xs)) → b ≡ with_bytes a (take at xs)
    → c ≡ with_bytes b (take n (take (length xs - at) (drop at xs))) → (at + n ≤ length xs) × (c ≡ with_bytes a (take (at + n) xs))
one_more a b c xs at n le m h k =
    let fits : n ≤ length xs - at = omega (arith, m, length-take (length xs - at) (drop at xs)) in (
      omega arith,
      k ∙ ap (λ s. with_bytes s (take n (take (length xs - at) (drop at xs)))) h ∙ with_bytes_twice a (take at xs) (take n (take (length xs - at) (drop at xs)))
          ∙ ap (λ zs. with_bytes a (take at xs ++ zs)) (take-take n (length xs - at) (drop at xs) fits) ∙ ap (λ zs. with_bytes a zs) (sym (take-add at n xs)),
    )
