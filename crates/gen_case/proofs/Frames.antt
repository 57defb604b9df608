-- Where the parts of a frame's text stand.
use Rattle.std.proofs.Common.{◌≡◌, ◌≢◌, ℕ, ◌+◌, ◌-◌, ◌<◌, ◌≤◌, ◌^◌, List, [], ◌∷◌, ◌++◌, All, Option, Some, None, length, take, drop, decimal, sym, ap, ◌∙◌, append_assoc, arith, length-append}
use Rattle.std.proofs.Math.Seq.{drop-append-add, take-append_seam}
use Rattle.std.proofs.lemmas.List.{take_all}
use Rattle.chunk_core.specs.Texts.{frame_text}
use Rattle.res_ledger.proofs.Words.{cut_once, lacks_none, lf_apart, number_lacks, space_apart}

-- the stream's number and the payload's length stand in front
pub frame_front : (k : ℕ) (p more : List ℕ) → frame_text k p ++ more ≡ decimal k ++ 32 ∷ (decimal (length p) ++ 10 ∷ (p ++ 10 ∷ more))
frame_front k p more =
    append_assoc (decimal k) (32 ∷ (decimal (length p) ++ (10 ∷ (p ++ 10 ∷ [])))) more
    ∙ ap (λ l. decimal k ++ 32 ∷ l) (append_assoc (decimal (length p)) (10 ∷ (p ++ 10 ∷ [])) more ∙ ap (λ l. decimal (length p) ++ 10 ∷ l) (append_assoc p (10 ∷ []) more))

-- a payload is shorter than its frame
pub payload_shorter : (k : ℕ) (p more text : List ℕ) → text ≡ frame_text k p ++ more → length p < length text
payload_shorter k p more text e =
    omega (arith, ap length (e ∙ frame_front k p more), length-append (decimal k) (32 ∷ (decimal (length p) ++ 10 ∷ (p ++ 10 ∷ more))), length-append (decimal (length p)) (10 ∷ (p ++ 10 ∷ more)), length-append p (10 ∷ more))

-- what stands behind a byte is shorter
pub behind_shorter : (c : ℕ) (text word rest : List ℕ) → text ≡ word ++ c ∷ rest → length rest < length text
behind_shorter c text word rest e = omega (arith, ap length e, length-append word (c ∷ rest))

-- a number that ends at a byte, where the text is cut there
module _ (c : ℕ) (text : List ℕ) (n : ℕ) (more : List ℕ) (small : n < 2 ^ 64) (is : text ≡ decimal n ++ c ∷ more) where
  pub number_cut : (lacks : All (λ b. b ≢ c) (decimal n)) (word rest : List ℕ) → All (λ b. b ≢ c) word → text ≡ word ++ c ∷ rest → (word ≡ decimal n) × (rest ≡ more)
  number_cut lacks word rest h e = cut_once c word (decimal n) rest more h lacks (sym e ∙ is)

  pub number_uncut : All (λ b. b ≢ c) text → ⊥
  number_uncut h = lacks_none c text (decimal n) more h is

pub no_space : (n : ℕ) → n < 2 ^ 64 → All (λ b. b ≢ 32) (decimal n)
no_space n h = number_lacks 32 n space_apart h

pub no_end : (n : ℕ) → n < 2 ^ 64 → All (λ b. b ≢ 10) (decimal n)
no_end n h = number_lacks 10 n lf_apart h

pub some_is : {A : Type 0} (x y : A) → ◌≡◌ {A = Option A} (Some x) (Some y) → x ≡ y
some_is x y e = cc

pub none_is_some : {A : Type 0} (x : A) → ◌≡◌ {A = Option A} None (Some x) → ⊥
none_is_some x e = cc

-- a payload of this length, and what stands behind its end
module _ (text payload back : List ℕ) (size : ℕ) (n : size ≡ length payload) (is : text ≡ payload ++ 10 ∷ back) where
  long : length text ≡ size + 1 + length back
  long = omega (arith, n, ap length is, length-append payload (10 ∷ back))

  pub payload_within : length text ≤ size → ⊥
  payload_within h = omega (arith, long)

  pub payload_taken : take size text ≡ payload
  payload_taken = rw (n, is) (take-append_seam payload (10 ∷ back))

  behind : drop (size + 1) text ≡ back
  behind = rw (n, is) (drop-append-add payload (10 ∷ back) 1)

  pub back_taken : take (length text - (size + 1)) (drop (size + 1) text) ≡ back
  back_taken = ap (λ l. take (length text - (size + 1)) l) behind ∙ take_all (length text - (size + 1)) back (omega (arith, long))
