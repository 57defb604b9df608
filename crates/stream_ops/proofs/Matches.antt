-- A text is found in a line where the line contains it.
use Rattle.std.proofs.Common.{◌≡◌, ℕ, zero, suc, ◌+◌, ◌<◌, ◌≤◌, Bool, true, false, cond, nat_eq, List, [], ◌∷◌, ◌++◌, map, filter, length, get_or, take, drop, Option, Some, None, is_some, refl, ap, sym, ◌∙◌, arith, ⊎_elim}
use Rattle.std.specs.List.{starts_with}
use Rattle.std.proofs.lemmas.List.{length-take, length-drop, append-nil}
use Rattle.std.proofs.lemmas.Bool.{cases_Bool, or_cases, or_right}
use Rattle.std.proofs.lemmas.List.Elements.{filter_more, filter-append}
use Rattle.std.proofs.lemmas.Slice.Eq.{bytes_eq-Decides}
use Rattle.memchr.specs.Find.{FindsNeedle, OccursAt}
use Rattle.memchr.proofs.lemmas.MatchLemmas.{OccursAt-part, OccursAt-from_part}
use Rattle.chunk_core.specs.Elements.{Element, Line}
use Rattle.chunk_core.specs.Feed.{Meaning, Extends}
use Rattle.chunk_core.specs.declared.load.Load.TheVariants as load
use Rattle.pull_nodes.specs.Pipes.{IsMeaningOf}
use Rattle.pull_nodes.specs.Filter.{contains, is_match}
use Rattle.pull_nodes.specs.declared.pipe.Pipe.TheVariants as pipe
use Rattle.stream_ops.proofs.Answers.{lines_extend}

module _ (text : List ℕ) where
  -- the text begins the line behind some place
  abbrev begins_at : List ℕ → ℕ → Bool
  begins_at line k = starts_with nat_eq (drop k line) text

  contains-at : (line : List ℕ) (k : ℕ) → k ≤ length line → begins_at line k ≡ true → contains text line ≡ true
  contains-at [] zero within begins = begins
  contains-at [] (suc k) within begins = absurd (omega arith)
  contains-at (b ∷ line) zero within begins = rw begins refl
  contains-at (b ∷ line) (suc k) within begins = or_right (starts_with nat_eq (b ∷ line) text) (contains text line) (contains-at line k (omega arith) begins)

  place_of : (line : List ℕ) → contains text line ≡ true → (k : ℕ) × (k ≤ length line) × (begins_at line k ≡ true)
  place_of [] h = (zero, omega arith, h)
  place_of (b ∷ line) h =
      ⊎_elim (λ here. (zero, omega arith, here)) (λ later. let (k, within, begins) = place_of line later in (suc k, omega arith, begins)) (or_cases (starts_with nat_eq (b ∷ line) text) (contains text line) h)

  from_place : (line : List ℕ) (k : ℕ) → OccursAt line text k → begins_at line k ≡ true
  from_place line k occurs = (bytes_eq-Decides text (take (length text) (drop k line))).1 (sym (OccursAt-part line text k occurs))

  occurs : (line : List ℕ) (k : ℕ) → k ≤ length line → begins_at line k ≡ true → OccursAt line text k
  occurs line k within begins =
      let same : text ≡ take (length text) (drop k line) = (bytes_eq-Decides text (take (length text) (drop k line))).0 begins in
      let fits : k + length text ≤ length line = omega (arith, ap length same, length-take (length text) (drop k line), length-drop k line) in
      OccursAt-from_part line text k fits (sym same)

  pub found_is : (line : List ℕ) (r : Option ℕ) → FindsNeedle line text 0 r → is_some r ≡ contains text line
  found_is line (Some k) h = sym (contains-at line k (omega (arith, h.0.high)) (from_place line k h.1))
  found_is line None h =
      ⊎_elim (λ t. let (k, within, begins) = place_of line t in absurd (h k (omega arith) (omega arith) (occurs line k within begins))) sym (cases_Bool (contains text line))

  kept_case : (t : Bool) (line : List ℕ) (xs : List Element) (ys : List (List ℕ)) → xs ≡ map Line ys → cond t (Line line ∷ xs) xs ≡ map Line (cond t (line ∷ ys) ys)
  kept_case true line xs ys e = ap (λ l. Line line ∷ l) e
  kept_case false line xs ys e = e

  -- what is kept of elements that are lines
  pub kept_lines : (lines : List (List ℕ)) → filter (is_match text) (map Line lines) ≡ map Line (filter (contains text) lines)
  kept_lines [] = refl
  kept_lines (line ∷ lines) = kept_case (contains text line) line (filter (is_match text) (map Line lines)) (filter (contains text) lines) (kept_lines lines)

-- one element more was looked at, and is kept or left out
module _ {A : Type 0} (p : A → Bool) (xs : List A) (i : ℕ) (x : A) (old new : List A) (within : i < length xs) (is : x ≡ get_or xs i x) (before : old ≡ filter p (take i xs)) where
  pub kept_in : p x ≡ true → new ≡ old ++ x ∷ [] → new ≡ filter p (take (i + 1) xs)
  kept_in t e =
      let more : filter p (take i xs) ++ x ∷ [] ≡ filter p (take (i + 1) xs) = rw (filter_more p xs i x within, ← is, t) refl in
      e ∙ (ap (λ l. l ++ x ∷ []) before ∙ more)

  pub kept_out : p x ≡ false → new ≡ old → new ≡ filter p (take (i + 1) xs)
  kept_out f e =
      let same : filter p (take i xs) ++ [] ≡ filter p (take (i + 1) xs) = rw (filter_more p xs i x within, ← is, f) refl in
      e ∙ (before ∙ (sym (append-nil (filter p (take i xs))) ∙ same))

pub filter_feeds : (text : List ℕ) (lines kept : List (List ℕ)) (came : List Element) → came ≡ map Line lines → kept ≡ filter (contains text) lines
    → (m : Meaning) (xs : List Element) → IsMeaningOf (pipe.Filter text) m → Extends m xs came (load.Lines kept) None
filter_feeds text lines kept came are is m xs h =
    let new : map Line kept ≡ filter (is_match text) came = ap (map Line) is ∙ (sym (kept_lines text lines) ∙ ap (filter (is_match text)) (sym are)) in
    lines_extend (pipe.Filter text) m h refl xs came kept
    (ap (λ l. filter (is_match text) xs ++ l) new ∙ sym (filter-append (is_match text) xs came)) refl
