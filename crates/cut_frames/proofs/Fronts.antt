-- Numbers that end at a byte, and heads.
use Rattle.std.proofs.Common.{◌≡◌, ◌≢◌, ℕ, ◌<◌, ◌^◌, List, [], ◌∷◌, ◌++◌, All, decimal, sym, ap, ◌∙◌, arith, append_assoc}
use Rattle.std.specs.Int.{IsInRange}
use Rattle.res_ledger.proofs.Words.{cut_once, number_lacks}
use Rattle.cut_frames.specs.Heads.{HasNoHead, head_text}

-- a byte below the digits is none
pub end_apart : (c : ℕ) → c < 48 → ¬ (IsInRange 48 57 c)
end_apart c h r = omega (arith, h, r.0)

pub lacks_end : (c : ℕ) → c < 48 → (n : ℕ) → n < 2 ^ 64 → All (λ b. b ≢ c) (decimal n)
lacks_end c h n small = number_lacks c n (end_apart c h) small

-- the text begins with no number that ends so
pub no_first : (text : List ℕ) → ((n : ℕ) (rest : List ℕ) → n < 2 ^ 64 → text ≢ (decimal n ++ 32 ∷ []) ++ rest) → HasNoHead text
no_first text never k n rest small fits e = never k ((decimal n ++ 10 ∷ []) ++ rest) small (e ∙ append_assoc (decimal k ++ 32 ∷ []) (decimal n ++ 10 ∷ []) rest)

-- behind the first number the text begins with no second one
pub no_second : (text rest : List ℕ) (j : ℕ) → j < 2 ^ 64 → text ≡ (decimal j ++ 32 ∷ []) ++ rest → ((n : ℕ) (more : List ℕ) → n < 2 ^ 64 → rest ≢ (decimal n ++ 10 ∷ []) ++ more) → HasNoHead text
no_second text rest j small is never k n more fits low e =
    never n more low
    (cut_once 32 (decimal j) (decimal k) rest ((decimal n ++ 10 ∷ []) ++ more) (lacks_end 32 (omega arith) j small) (lacks_end 32 (omega arith) k fits)
    (sym (append_assoc (decimal j) (32 ∷ []) rest) ∙ sym is ∙ e ∙ append_assoc (decimal k ++ 32 ∷ []) (decimal n ++ 10 ∷ []) more ∙ append_assoc (decimal k) (32 ∷ []) ((decimal n ++ 10 ∷ []) ++ more))).1

pub both : (text rest more : List ℕ) (k n : ℕ) → text ≡ (decimal k ++ 32 ∷ []) ++ rest → rest ≡ (decimal n ++ 10 ∷ []) ++ more → text ≡ head_text k n ++ more
both text rest more k n e f = e ∙ ap (λ l. (decimal k ++ 32 ∷ []) ++ l) f ∙ sym (append_assoc (decimal k ++ 32 ∷ []) (decimal n ++ 10 ∷ []) more)
