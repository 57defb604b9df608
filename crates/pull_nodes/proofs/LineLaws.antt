-- The lines that were given stay given, and after a line that is too long nothing more is given.
use Rattle.std.proofs.Common.{◌≡◌, ⊎_elim, ℕ, suc, ◌+◌, Bool, true, false, ◌||◌, cond, List, [], ◌∷◌, ◌++◌, map, Some, None, refl, ap, ◌∙◌, sym, arith, length-append}
use Rattle.std.proofs.lemmas.Bool.{or_parts, cases_Bool}
use Rattle.std.proofs.lemmas.Bool.Decides.{nat_tests}
use Rattle.std.proofs.lemmas.List.{append-nil, map-append}
use Rattle.std.proofs.lemmas.List.Folds.{list_any-append}
use Rattle.std.specs.List.{before_first, list_any, position_or_len}
use Rattle.chunk_core.specs.Elements.{Line}
use Rattle.chunk_core.specs.Feed.{Given}
use Rattle.chunk_core.specs.declared.code.Code.{Code}
use Rattle.pull_nodes.specs.Lines.{IsFree, last_byte, without_pairs, onto, ended_lines, where_none, open_line, is_long, has_long, long_fault, last_line, lines_part, lines_all}
use Rattle.pull_nodes.proofs.Steady.{SteadyBy}
use Rattle.pull_nodes.proofs.Texts.{without_pairs-append, ended_lines-append, open_line-append, free_parts, open_line-free, free_from_none, free-open_line}

-- what stands before the first that passes a test
module _ {A : Type 0} (p : A → Bool) where
  first_case : (t : Bool) (x : A) (xs : List A) → p x ≡ t → before_first p (x ∷ xs) ≡ cond t [] (x ∷ before_first p xs)
  first_case true x xs t = rw t
  first_case false x xs t =
      let n = position_or_len p xs in
      let e : 1 + n ≡ suc n = omega arith in
      rw (t, e)

  before_first-cons : (x : A) (xs : List A) → before_first p (x ∷ xs) ≡ cond (p x) [] (x ∷ before_first p xs)
  before_first-cons x xs = first_case (p x) x xs refl

  -- none passes
  pub before_first-none : (xs ys : List A) → list_any p xs ≡ false → before_first p (xs ++ ys) ≡ xs ++ before_first p ys
  before_first-none [] ys h = refl
  before_first-none (x ∷ xs) ys h =
      let both = or_parts (p x) (list_any p xs) h in
      rw (before_first-cons x (xs ++ ys), both.0) (ap (λ l. x ∷ l) (before_first-none xs ys both.1))

  pub before_first-all : (xs : List A) → list_any p xs ≡ false → before_first p xs ≡ xs
  before_first-all xs h = rw (append-nil xs) at (before_first-none xs [] h)

  some_case : (t : Bool) (x : A) (xs ys : List A) → p x ≡ t → (t || list_any p xs) ≡ true → (list_any p xs ≡ true → before_first p (xs ++ ys) ≡ before_first p xs)
      → before_first p (x ∷ (xs ++ ys)) ≡ before_first p (x ∷ xs)
  some_case true x xs ys t h more = rw (before_first-cons x (xs ++ ys), before_first-cons x xs, t)
  some_case false x xs ys t h more = rw (before_first-cons x (xs ++ ys), before_first-cons x xs, t) (ap (λ l. x ∷ l) (more h))

  -- one of them passes
  pub before_first-some : (xs ys : List A) → list_any p xs ≡ true → before_first p (xs ++ ys) ≡ before_first p xs
  before_first-some [] ys h = (cc)
  before_first-some (x ∷ xs) ys h = some_case (p x) x xs ys refl h (before_first-some xs ys)

-- the first line that ends, or the open one
abbrev first_piece : List (List ℕ) → List ℕ → List ℕ
first_piece [] r = r
first_piece (l ∷ ls) r = l

first_onto : (c : ℕ) (l ys more : List ℕ) (E : List (List ℕ)) → ended_lines (l ++ ys) ≡ E → first_piece E (open_line (l ++ ys)) ≡ l ++ more
    → first_piece (onto c E) (where_none E (c ∷ (l ++ ys)) (open_line (l ++ ys))) ≡ c ∷ (l ++ more)
first_onto c l ys more [] e h = ap (λ x. c ∷ x) (sym (open_line-free (l ++ ys) (free_from_none (l ++ ys) e)) ∙ h)
first_onto c l ys more (m ∷ ms) e h = ap (λ x. c ∷ x) h

first_piece-free : (l ys : List ℕ) → IsFree l → first_piece (ended_lines (l ++ ys)) (open_line (l ++ ys)) ≡ l ++ first_piece (ended_lines ys) (open_line ys)
unfolding ended_lines open_line
first_piece-free [] ys f = refl
first_piece-free (c ∷ l) ys f = let p = free_parts c l f in rw p.0 (first_onto c l ys (first_piece (ended_lines ys) (open_line ys)) (ended_lines (l ++ ys)) refl (first_piece-free l ys p.1))

first_long : (ls : List (List ℕ)) (r : List ℕ) → is_long (first_piece ls r) ≡ true → (before_first is_long ls ≡ []) × ((list_any is_long ls || is_long r) ≡ true)
first_long [] r h = (refl, h)
first_long (l ∷ ls) r h = (rw h, rw h)

long_more : (l more : List ℕ) → is_long l ≡ true → is_long (l ++ more) ≡ true
long_more l more h = grind (arith, nat_tests, length-append)

-- a text that begins with a long piece without a line end
pub long-free : (l ys : List ℕ) → IsFree l → is_long l ≡ true → (before_first is_long (ended_lines (l ++ ys)) ≡ []) × (has_long (l ++ ys) ≡ true)
long-free l ys f h = first_long (ended_lines (l ++ ys)) (open_line (l ++ ys)) (rw (first_piece-free l ys f) (long_more l _ h))

-- a text without a line that is too long goes on: what is open decides
pub short-append : (z y : List ℕ) → has_long z ≡ false
    → (before_first is_long (ended_lines (z ++ y)) ≡ before_first is_long (ended_lines z) ++ before_first is_long (ended_lines (open_line z ++ y)))
    × (has_long (z ++ y) ≡ has_long (open_line z ++ y))
short-append z y h =
    let none = (or_parts (list_any is_long (ended_lines z)) (is_long (open_line z)) h).0 in
    let more = ended_lines (open_line z ++ y) in
    let lines : before_first is_long (ended_lines (z ++ y)) ≡ before_first is_long (ended_lines z) ++ before_first is_long more =
    ap (before_first is_long) (ended_lines-append z y) ∙ before_first-none is_long (ended_lines z) more none ∙ ap (λ l. l ++ before_first is_long more) (sym (before_first-all is_long (ended_lines z) none)) in
    let test : list_any is_long (ended_lines (z ++ y)) ≡ list_any is_long more =
    ap (list_any is_long) (ended_lines-append z y) ∙ list_any-append is_long (ended_lines z) more ∙ ap (λ b. b || list_any is_long more) none in
    (lines, λ i. test i || is_long (open_line-append z y i))

long_in_ended : (z y : List ℕ) → list_any is_long (ended_lines z) ≡ true
    → (before_first is_long (ended_lines (z ++ y)) ≡ before_first is_long (ended_lines z)) × (has_long (z ++ y) ≡ true)
long_in_ended z y h =
    let more = ended_lines (open_line z ++ y) in
    let test : list_any is_long (ended_lines (z ++ y)) ≡ true =
    ap (list_any is_long) (ended_lines-append z y) ∙ list_any-append is_long (ended_lines z) more ∙ ap (λ b. b || list_any is_long more) h in
    (ap (before_first is_long) (ended_lines-append z y) ∙ before_first-some is_long (ended_lines z) more h, ap (λ b. b || is_long (open_line (z ++ y))) test)

long_in_open : (z y : List ℕ) → list_any is_long (ended_lines z) ≡ false → is_long (open_line z) ≡ true
    → (before_first is_long (ended_lines (z ++ y)) ≡ before_first is_long (ended_lines z)) × (has_long (z ++ y) ≡ true)
long_in_open z y none h =
    let more = ended_lines (open_line z ++ y) in
    let found = long-free (open_line z) y (free-open_line z) h in
    let test : list_any is_long (ended_lines (z ++ y)) ≡ list_any is_long more =
    ap (list_any is_long) (ended_lines-append z y) ∙ list_any-append is_long (ended_lines z) more ∙ ap (λ b. b || list_any is_long more) none in (
      ap (before_first is_long) (ended_lines-append z y) ∙ before_first-none is_long (ended_lines z) more none ∙ ap (λ l. ended_lines z ++ l) found.0 ∙ append-nil (ended_lines z) ∙ sym (before_first-all is_long (ended_lines z) none),
      (λ i. test i || is_long (open_line-append z y i)) ∙ found.1,
    )

-- once a line was too long, more text changes nothing
pub long-append : (z y : List ℕ) → has_long z ≡ true
    → (before_first is_long (ended_lines (z ++ y)) ≡ before_first is_long (ended_lines z)) × (has_long (z ++ y) ≡ true)
long-append z y h = ⊎_elim (long_in_ended z y) (λ none. long_in_open z y none ((rw none at h))) (cases_Bool (list_any is_long (ended_lines z)))

pub no_fault : (b : Bool) → long_fault b ≡ None → b ≡ false
no_fault true h = (cc)
no_fault false h = refl

pub some_fault : (b : Bool) (c : Code) → long_fault b ≡ Some c → b ≡ true
some_fault true c h = refl
some_fault false c h = (cc)

lines_stop : (z y : List ℕ) → has_long z ≡ true → let old = before_first is_long (ended_lines z) in let more = z ++ y in
    let given : Given = record { list = map Line old; fault = long_fault (has_long z) } in
    let part : Given = record { list = map Line (before_first is_long (ended_lines more)); fault = long_fault (has_long more) } in
    let all : Given = record { list = map Line (before_first is_long (ended_lines more) ++ last_line more); fault = long_fault (has_long more) } in
    (part ≡ given) × (all ≡ given)
lines_stop z y h =
    let p = long-append z y h in
    let same : has_long (z ++ y) ≡ has_long z = p.1 ∙ sym h in
    let rest : last_line (z ++ y) ≡ [] = rw p.1 in
    let lines : before_first is_long (ended_lines (z ++ y)) ++ last_line (z ++ y) ≡ before_first is_long (ended_lines z) = (λ i. p.0 i ++ rest i) ∙ append-nil (before_first is_long (ended_lines z)) in
    ((λ i. record { list = map Line (p.0 i); fault = long_fault (same i) }), (λ i. record { list = map Line (lines i); fault = long_fault (same i) }))

pub lines_steady : SteadyBy lines_part lines_all
lines_steady = record {
  grows = λ xs zs n.
      let z = without_pairs 0 xs in
      let y = without_pairs (last_byte 0 xs) zs in
      let more = before_first is_long (ended_lines (open_line z ++ y)) in (
        map Line more,
        ap (λ t. map Line (before_first is_long (ended_lines t))) (without_pairs-append 0 xs zs)
            ∙ ap (map Line) (short-append z y (no_fault (has_long z) n)).0 ∙ map-append Line (before_first is_long (ended_lines z)) more,
      );
  ends = λ xs n. let z = without_pairs 0 xs in (map Line (last_line z), map-append Line (before_first is_long (ended_lines z)) (last_line z));
  stops = λ xs zs c n. rw (without_pairs-append 0 xs zs) (lines_stop (without_pairs 0 xs) (without_pairs (last_byte 0 xs) zs) (some_fault (has_long (without_pairs 0 xs)) c n));
}
