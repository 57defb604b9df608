-- A word tells one code, and no two codes are one.
use Rattle.std.proofs.Common.{◌≡◌, ◌≢◌, ℕ, ◌+◌, ◌*◌, ◌/◌, ◌%◌, ◌<◌, ◌≤◌, cond, Option, Some, None, unwrap_or, refl, sym, ap, ◌∙◌, arith}
use Rattle.std.specs.Prelude.{◌==◌}
use Rattle.interrupt_ctx.specs.declared.why.Stop.{Stop}
use Rattle.interrupt_ctx.specs.declared.why.Why.{Why}
use Rattle.interrupt_ctx.specs.declared.why.Why.TheVariants.{Take, Until, Sink, Memory, Fault}
use Rattle.interrupt_ctx.specs.Codes.{IsWord, code_of, why_code, why_word, word_of}

why_at : ℕ → Option Why
why_at n = cond (n == 1) (Some Take) (cond (n == 2) (Some Until) (cond (n == 3) (Some Sink) (cond (n == 4) (Some Memory) (cond (n == 5) (Some Fault) None))))

why_word-injective : (a b : Option Why) → why_word a ≡ why_word b → a ≡ b
unfolding why_at
why_word-injective a b e = sym (back a) ∙ ap why_at e ∙ back b
  where
    back : (found : Option Why) → why_at (why_word found) ≡ found
    back None = refl
    back (Some Take) = refl
    back (Some Until) = refl
    back (Some Sink) = refl
    back (Some Memory) = refl
    back (Some Fault) = refl

why_code-injective : (a b : Why) → why_code a ≡ why_code b → a ≡ b
why_code-injective a b e = ap (λ found. unwrap_or found a) (why_word-injective (Some a) (Some b) e)

-- the number of a cause
record IsDigit (n : ℕ) : Type 0 where
  some : 1 ≤ n
  below : n < 8

digit : (why : Why) → IsDigit (why_code why)
digit Take = record { some = omega arith; below = omega arith }
digit Until = record { some = omega arith; below = omega arith }
digit Sink = record { some = omega arith; below = omega arith }
digit Memory = record { some = omega arith; below = omega arith }
digit Fault = record { some = omega arith; below = omega arith }

pub code_of-positive : (stop : Stop) → 1 ≤ code_of stop
code_of-positive stop = let d = (digit stop.why).some in omega arith

pub code_of-injective : (a b : Stop) → code_of a ≡ code_of b → a ≡ b
code_of-injective a b e =
    let c = (digit a.why).below in let d = (digit b.why).below in
    let same : a.at ≡ b.at = omega arith in
    let why : a.why ≡ b.why = why_code-injective a.why b.why (omega arith) in
    λ i. record { why = why i; at = same i }

pub word_of-injective : (a b : Option Stop) → word_of a ≡ word_of b → a ≡ b
word_of-injective None None e = refl
word_of-injective None (Some b) e = absurd (let p = code_of-positive b in omega arith)
word_of-injective (Some a) None e = absurd (let p = code_of-positive a in omega arith)
word_of-injective (Some a) (Some b) e = ap Some (code_of-injective a b e)

-- what stands in a word besides the place is the number of a cause, and 0 where the word is
pub word_digit : (word : ℕ) → IsWord word → (found : Option Why) × (word % 8 ≡ why_word found)
word_digit word (None, e) = (None, search arith)
word_digit word (Some stop, e) = (Some stop.why, let d = (digit stop.why).below in let r : (stop.at * 8 + why_code stop.why) % 8 ≡ why_code stop.why = search arith in ap (λ (n : ℕ). n % 8) e ∙ r)

-- the word that was taken apart
pub word_back : (word : ℕ) (why : Why) → word % 8 ≡ why_word (Some why) → word ≡ code_of (record { why = why; at = word / 8 })
word_back word why e = search arith

pub word_none : (word : ℕ) → IsWord word → word % 8 ≡ why_word None → word ≡ word_of None
word_none word (None, e) z = e
word_none word (Some stop, e) z = absurd (
    let d = (digit stop.why).below in let s = (digit stop.why).some in
    let r : (stop.at * 8 + why_code stop.why) % 8 ≡ why_code stop.why = search arith in
    let q = sym r ∙ ap (λ (n : ℕ). n % 8) (sym e) ∙ z in omega arith)
