-- Numbers that are read.
use Rattle.std.proofs.Common.{◌≡◌, ◌≢◌, ℕ, ◌<◌, ◌≤◌, ◌^◌, Result, Ok, Err, List, [], ◌∷◌, ◌++◌, All, length, get_or, decimal, sym, ap, ◌∙◌, ⊎_elim, append_assoc, arith, lit<}
use Rattle.std.specs.Str.Parse.{digits_value, ParsesUnsigned}
use Rattle.std.specs.Result.{result_ok}
use Rattle.std.proofs.lemmas.Bool.{cases_eq}
use Rattle.std.proofs.lemmas.Str.Parse.{digit_at, parse_plain}
use Rattle.std.proofs.lemmas.Fmt.{decimal_digit, decimal_nonempty, first_decimal, digits_decimal, decimal-digits_value, parse-decimal}
use Rattle.res_ledger.proofs.Words.{cut_once, own}
use Rattle.cut_frames.specs.Heads.{IsReadAs}

-- a number begins with a digit, and with `0` only where it is `0`
pub first_digit : (n : ℕ) → n < 2 ^ 64 → (0 < length (decimal n)) × (48 ≤ get_or (decimal n) 0 0) × (get_or (decimal n) 0 0 ≡ 48 → length (decimal n) ≡ 1)
first_digit n h =
    let full = decimal_nonempty n h in
    let d = digit_at (decimal n) 0 (digits_decimal own n h) full in
    (full, d.0, ⊎_elim (λ e. λ _. ap (λ k. length (decimal k)) e ∙ ap length (decimal_digit 0 (lit< tt))) (λ ne. λ z. let pos : 0 < n = omega arith in absurd (omega (arith, first_decimal n pos h))) (cases_eq n 0))

-- a number has no sign
pub not_signed : (n : ℕ) → n < 2 ^ 64 → get_or (decimal n) 0 0 ≢ 43
not_signed n h e = omega (arith, (first_digit n h).1)

-- what `parse` gives of a text without a sign and without leading zeros
pub parsed : {E : Type 0} (bs : List ℕ) (r : Result ℕ E) → ParsesUnsigned 64 10 bs r → get_or bs 0 0 ≢ 43 → (get_or bs 0 0 ≡ 48 → length bs ≡ 1)
    → IsReadAs (λ n. n < 2 ^ 64) decimal bs (result_ok r)
parsed {E} bs (Ok n) h apart one =
    let p = parse_plain own {E = E} 64 bs (Ok n) h apart in
    let is : decimal (digits_value 10 bs) ≡ bs = decimal-digits_value own bs p.0.0 p.0.1 one p.0.2 in
    (rw p.1 p.0.2, rw p.1 (sym is))
parsed bs (Err e) h apart one = λ n small q. let no = parse-decimal 64 n bs (Err e) small small q h in cc

-- where the text up to the byte spells no x with P, whose spelling lacks that byte, the text begins with none
pub front_none : {A : Type 0} (c : ℕ) (P : A → Type 0) (spelling : A → List ℕ) → ((x : A) → P x → All (λ b. b ≢ c) (spelling x)) → (text word rest : List ℕ) → All (λ b. b ≢ c) word → text ≡ word ++ c ∷ rest
    → ((x : A) → P x → word ≢ spelling x) → (x : A) (more : List ℕ) → P x → text ≢ (spelling x ++ c ∷ []) ++ more
front_none c P spelling clear text word rest lacks cut never x more p e =
    never x p (cut_once c word (spelling x) rest more lacks (clear x p) (sym cut ∙ e ∙ append_assoc (spelling x) (c ∷ []) more)).0
