-- Lines of ends.
use Rattle.std.proofs.Common.{◌≡◌, ◌≢◌, ℕ, ◌<◌, List, [], ◌∷◌, ◌++◌, All, flat_map, codes, length, refl, sym, ap, ◌∙◌, arith, append_assoc, length-append}
use Rattle.std.proofs.lemmas.List.{append-nil}
use Rattle.std.proofs.lemmas.Grind.{flat_map-append}
use Rattle.res_ledger.proofs.Words.{cut_once, lacks_none}
use Rattle.cut_text.specs.Tails.{HasEndInFront, HasNoEnd}

-- a text without an LF begins with no line
pub no_lf : (text : List ℕ) → All (λ c. c ≢ 10) text → HasNoEnd text
no_lf text none line rest e is = lacks_none 10 text e.0 rest none (is ∙ ap (λ l. l ++ rest) e.2 ∙ append_assoc e.0 (10 ∷ []) rest)

-- nor does one whose first line begins otherwise
pub no_word : (text line rest : List ℕ) → All (λ c. c ≢ 10) line → text ≡ line ++ 10 ∷ rest → ((how : List ℕ) → line ≢ codes "end " ++ how) → HasNoEnd text
no_word text line rest clear is never other more e at =
    never e.3.0 ((cut_once 10 line e.0 rest more clear e.1 (sym is ∙ at ∙ ap (λ l. l ++ more) e.2 ∙ append_assoc e.0 (10 ∷ []) more)).0 ∙ e.3.1)

pub has_word : (text line rest how : List ℕ) → All (λ c. c ≢ 10) line → text ≡ line ++ 10 ∷ rest → line ≡ codes "end " ++ how → HasEndInFront text rest
has_word text line rest how clear is word = (line ++ 10 ∷ [], (line, clear, refl, (how, word)), is ∙ sym (append_assoc line (10 ∷ []) rest))

-- one line more
pub line_more : (text rest behind : List ℕ) (lines : List (List ℕ)) → text ≡ flat_map (λ l. l) lines ++ rest → (e : HasEndInFront rest behind) → text ≡ flat_map (λ l. l) (lines ++ e.0 ∷ []) ++ behind
line_more text rest behind lines is e =
    is ∙ ap (λ l. flat_map (λ l. l) lines ++ l) e.2 ∙ sym (append_assoc (flat_map (λ l. l) lines) e.0 behind)
    ∙ ap (λ l. l ++ behind) (ap (λ l. flat_map (λ l. l) lines ++ l) (sym (append-nil e.0)) ∙ sym (flat_map-append (λ l. l) lines (e.0 ∷ [])))

pub shorter : (text rest : List ℕ) → HasEndInFront text rest → length rest < length text
shorter text rest e = omega (arith, ap (λ l. length l) e.2, length-append e.0 rest, ap (λ l. length l) e.1.2, length-append e.1.0 (10 ∷ []))
