-- The bytes of one character.
use Rattle.std.proofs.Common.{◌≡◌, ℕ, ◌+◌, ◌/◌, ◌%◌, ◌<◌, ◌≤◌, Bool, true, [], ◌∷◌, arith}
use Rattle.std.proofs.lemmas.Bool.{lt-ltb, le-ltb}
use Rattle.std.proofs.lemmas.Bool.Decides.{nat_tests}
use Rattle.std.proofs.lemmas.Grind.{common_steps}
use Rattle.std.specs.Char.{encode_utf8}
use Rattle.std.specs.Int.{is_in_range}
use Rattle.std.specs.Str.Lossy.{second_byte_min, second_byte_max}

pub encode_one : (c : ℕ) → c < 128 → encode_utf8 c ≡ c ∷ []
unfolding encode_utf8
encode_one c h = rw (lt-ltb c 128 h)

pub encode_two : (c : ℕ) → 128 ≤ c → c < 2048 → encode_utf8 c ≡ (192 + c / 64) ∷ (128 + c % 64) ∷ []
unfolding encode_utf8
encode_two c l h = rw (le-ltb c 128 l, lt-ltb c 2048 h)

pub encode_three : (c : ℕ) → 2048 ≤ c → c < 65536 → encode_utf8 c ≡ (224 + c / 4096) ∷ (128 + c / 64 % 64) ∷ (128 + c % 64) ∷ []
unfolding encode_utf8
encode_three c l h = let m : 128 ≤ c = omega arith in rw (le-ltb c 128 m, le-ltb c 2048 l, lt-ltb c 65536 h)

pub encode_four : (c : ℕ) → 65536 ≤ c → encode_utf8 c ≡ (240 + c / 262144) ∷ (128 + c / 4096 % 64) ∷ (128 + c / 64 % 64) ∷ (128 + c % 64) ∷ []
unfolding encode_utf8
encode_four c l = let m : 128 ≤ c = omega arith in let n : 2048 ≤ c = omega arith in rw (le-ltb c 128 m, le-ltb c 2048 n, le-ltb c 65536 l)

-- y may stand second behind the first byte x
pub record FitsSecond (x y : ℕ) : Type 0 where
  pub low : 128 ≤ y
  pub high : y < 192
  pub not_short : x ≡ 224 → 160 ≤ y
  pub no_surrogate : x ≡ 237 → y < 160
  pub not_long : x ≡ 240 → 144 ≤ y
  pub in_range : x ≡ 244 → y < 144

abbrev pub fits_second : ℕ → ℕ → Bool
fits_second x y = is_in_range (second_byte_min x) (second_byte_max x) y

pub FitsSecond-from : (x y : ℕ) → fits_second x y ≡ true → FitsSecond x y
FitsSecond-from x y h = record {
  low = grind (arith, common_steps, nat_tests);
  high = grind (arith, common_steps, nat_tests);
  not_short = grind (arith, common_steps, nat_tests);
  no_surrogate = grind (arith, common_steps, nat_tests);
  not_long = grind (arith, common_steps, nat_tests);
  in_range = grind (arith, common_steps, nat_tests);
}

pub fits_second-from : (x y : ℕ) → FitsSecond x y → fits_second x y ≡ true
fits_second-from x y h = grind (arith, common_steps, nat_tests, h.low, h.high, h.not_short, h.no_surrogate, h.not_long, h.in_range)
