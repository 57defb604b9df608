-- What each kind of step does to what a state of a pipe of lines stands for.
use Rattle.std.proofs.Common.{◌≡◌, ℕ, Bool, true, false, ◌==◌, ◌&&◌, List, [], ◌∷◌, ◌++◌, length, ◌<◌, refl, ap, ◌∙◌, sym, subst, append_assoc}
use Rattle.std.proofs.lemmas.List.{append-nil}
use Rattle.std.specs.List.{before_first}
use Rattle.pull_nodes.specs.Lines.{IsFree, is_end, last_byte, without_pairs, ended_lines, open_line, is_long, has_long}
use Rattle.pull_nodes.proofs.LineLaws.{short-append, long-append, long-free}
use Rattle.pull_nodes.proofs.Texts.{last_byte-append, without_pairs-append, open_line-append, ended_lines-free, open_line-free, ended_lines-line, open_line-line, free-open_line, free-append, without_pairs-free, without_pairs-line, without_pairs-same, last_byte-free, last_byte-line}
use Rattle.text_pipes.specs.LinesState.{StandsAt, StandsAfter, found_in, lines_given, TakesBytes}
use Rattle.text_pipes.specs.declared.lines.LinesPipe.{LinesPipe}

-- the lines of a text that goes on
lines-append : (z y : List ℕ) → (found_in z).1 ≡ false → found_in (z ++ y) ≡ ((found_in z).0 ++ (found_in (open_line z ++ y)).0, (found_in (open_line z ++ y)).1)
unfolding found_in
lines-append z y short = let p = short-append z y short in λ i. (p.0 i, p.1 i)

-- once a line was too long, more bytes change nothing
lines-stay : (xs ys : List ℕ) → (lines_given xs).1 ≡ true → lines_given (xs ++ ys) ≡ lines_given xs
unfolding found_in
lines-stay xs ys long =
    let p = long-append (without_pairs 0 xs) (without_pairs (last_byte 0 xs) ys) long in
    ap found_in (without_pairs-append 0 xs ys) ∙ (λ i. (p.0 i, (p.1 ∙ sym long) i))

pub long_given : (xs : List ℕ) → (lines_given xs).1 ≡ has_long (without_pairs 0 xs)
unfolding found_in
long_given xs = refl

-- what is found in a text of one piece
long_found : (l : List ℕ) → IsFree l → is_long l ≡ true → found_in l ≡ ([], true)
unfolding found_in
long_found l free long = let p = long-free l [] free long in let e = append-nil l in λ i. ((ap (λ t. before_first is_long (ended_lines t)) (sym e) ∙ p.0) i, (ap has_long (sym e) ∙ p.1) i)

one_found : (text l : List ℕ) → ended_lines text ≡ l ∷ [] → open_line text ≡ [] → is_long l ≡ false → found_in text ≡ (l ∷ [], false)
unfolding found_in
one_found text l es rs short = rw (es, rs, short)

none_found : (text : List ℕ) → ended_lines text ≡ [] → open_line text ≡ text → is_long text ≡ false → found_in text ≡ ([], false)
unfolding found_in
none_found text es rs short = rw (es, rs, short)

-- the text goes on by bytes that are y once the LFs of pairs are taken out
module _ (line : List ℕ) (cr : Bool) (xs x y : List ℕ) (s : StandsAt line cr xs) (e : without_pairs (last_byte 0 xs) x ≡ y) where
  text : without_pairs 0 (xs ++ x) ≡ without_pairs 0 xs ++ y
  text = without_pairs-append 0 xs x ∙ ap (λ z. without_pairs 0 xs ++ z) e

  pub goes_on : lines_given (xs ++ x) ≡ ((lines_given xs).0 ++ (found_in (line ++ y)).0, (found_in (line ++ y)).1)
  goes_on = rw (text, s.held) (lines-append (without_pairs 0 xs) y (long_given xs ∙ s.short))

  pub open_on : open_line (without_pairs 0 (xs ++ x)) ≡ open_line (line ++ y)
  open_on = rw (text, s.held) (open_line-append (without_pairs 0 xs) y)

  pub free_on : IsFree line
  free_on = rw s.held (free-open_line (without_pairs 0 xs))

pub line_step : (line : List ℕ) (cr : Bool) (xs x : List ℕ) (e : ℕ) → StandsAt line cr xs → IsFree x → is_end e ≡ true
    → ((cr && (length x == 0)) && (e == 10)) ≡ false → is_long (line ++ x) ≡ false
    → (lines_given (xs ++ (x ++ e ∷ [])) ≡ ((lines_given xs).0 ++ (line ++ x) ∷ [], false)) × StandsAt [] (e == 13) (xs ++ (x ++ e ∷ []))
unfolding ended_lines open_line
line_step line cr xs x e s f t p short =
    let y = without_pairs-line (last_byte 0 xs) x e f (rw s.after at p) in
    let free = free-append line x (free_on line cr xs (x ++ e ∷ []) (x ++ e ∷ []) s y) f in
    let regroup : line ++ (x ++ e ∷ []) ≡ (line ++ x) ++ e ∷ [] = sym (append_assoc line x (e ∷ [])) in
    let es : ended_lines (line ++ (x ++ e ∷ [])) ≡ (line ++ x) ∷ [] = rw regroup (ended_lines-line (line ++ x) e [] free t) in
    let rs : open_line (line ++ (x ++ e ∷ [])) ≡ [] = rw regroup (open_line-line (line ++ x) e [] free t) in
    let found : found_in (line ++ (x ++ e ∷ [])) ≡ ((line ++ x) ∷ [], false) = one_found (line ++ (x ++ e ∷ [])) (line ++ x) es rs short in
    let whole = goes_on line cr xs (x ++ e ∷ []) (x ++ e ∷ []) s y in
    let first : lines_given (xs ++ (x ++ e ∷ [])) ≡ ((lines_given xs).0 ++ (line ++ x) ∷ [], false) = rw found at whole in (
      first,
      record {
        held = sym (open_on line cr xs (x ++ e ∷ []) (x ++ e ∷ []) s y ∙ rs);
        after = sym (ap (λ z. z == 13) (last_byte-append 0 xs (x ++ e ∷ []) ∙ last_byte-line (last_byte 0 xs) x e));
        short = sym (long_given _) ∙ ap (λ z. z.1) first;
      },
    )

pub skip_step : (line : List ℕ) (cr : Bool) (xs : List ℕ) → StandsAt line cr xs → cr ≡ true
    → (lines_given (xs ++ 10 ∷ []) ≡ ((lines_given xs).0 ++ [], false)) × StandsAt line false (xs ++ 10 ∷ [])
unfolding without_pairs
skip_step line cr xs s t =
    let thirteen : (last_byte 0 xs == 13) ≡ true = sym s.after ∙ t in
    let y : without_pairs (last_byte 0 xs) (10 ∷ []) ≡ [] = rw thirteen in
    let same : without_pairs 0 (xs ++ 10 ∷ []) ≡ without_pairs 0 xs = text line cr xs (10 ∷ []) [] s y ∙ append-nil (without_pairs 0 xs) in
    let kept : lines_given (xs ++ 10 ∷ []) ≡ lines_given xs = rw same in (
      kept ∙ sym (rw (append-nil (lines_given xs).0) (ap (λ (z : Bool). ((lines_given xs).0, z)) (sym (long_given xs ∙ s.short)))),
      record {
        held = s.held ∙ ap open_line (sym same);
        after = sym (ap (λ z. z == 13) (last_byte-line 0 xs 10));
        short = sym (long_given _) ∙ (ap (λ z. z.1) kept ∙ (long_given xs ∙ s.short));
      },
    )

pub open_step : (line : List ℕ) (cr : Bool) (xs x : List ℕ) → StandsAt line cr xs → IsFree x → 0 < length x → is_long (line ++ x) ≡ false
    → (lines_given (xs ++ x) ≡ ((lines_given xs).0 ++ [], false)) × StandsAt (line ++ x) false (xs ++ x)
unfolding without_pairs
open_step line cr xs x s f n short =
    let y : without_pairs (last_byte 0 xs) x ≡ x = rw (append-nil x) at (without_pairs-free (last_byte 0 xs) x [] f n) in
    let free = free-append line x (free_on line cr xs x x s y) f in
    let es = ended_lines-free (line ++ x) free in
    let rs = open_line-free (line ++ x) free in
    let found : found_in (line ++ x) ≡ ([], false) = none_found (line ++ x) es rs short in
    let first : lines_given (xs ++ x) ≡ ((lines_given xs).0 ++ [], false) = rw found at (goes_on line cr xs x x s y) in (
      first,
      record {
        held = sym (open_on line cr xs x x s y ∙ rs);
        after = sym (ap (λ z. z == 13) (last_byte-append 0 xs x) ∙ last_byte-free (last_byte 0 xs) x f n);
        short = sym (long_given _) ∙ ap (λ z. z.1) first;
      },
    )

pub long_step : (line : List ℕ) (cr : Bool) (xs x : List ℕ) → StandsAt line cr xs → IsFree x → is_long (line ++ x) ≡ true
    → lines_given (xs ++ x) ≡ ((lines_given xs).0 ++ [], true)
long_step line cr xs x s f long =
    let y = without_pairs-same (last_byte 0 xs) x f in
    let free = free-append line x (free_on line cr xs x x s y) f in
    let found : found_in (line ++ x) ≡ ([], true) = long_found (line ++ x) free long in
    rw found at (goes_on line cr xs x x s y)

-- no step
pub fed_none : (a : LinesPipe) → TakesBytes a [] [] false a
fed_none a xs s =
    let none : lines_given xs ≡ ((lines_given xs).0, false) = ap (λ (b : Bool). ((lines_given xs).0, b)) (long_given xs ∙ s.short) in
    (ap lines_given (append-nil xs) ∙ (none ∙ ap (λ l. (l, false)) (sym (append-nil (lines_given xs).0))), λ _. subst (λ l. StandsAfter a l) (sym (append-nil xs)) s)

-- one step after another
pub fed_then : (a b c : LinesPipe) (x y : List ℕ) (ms ns : List (List ℕ)) (f : Bool) → TakesBytes a x ms false b → TakesBytes b y ns f c → TakesBytes a (x ++ y) (ms ++ ns) f c
fed_then a b c x y ms ns f first next xs s =
    let (p, stands) = first xs s in
    let (q, more) = next (xs ++ x) (stands refl) in
    let whole : lines_given (xs ++ (x ++ y)) ≡ ((lines_given xs).0 ++ (ms ++ ns), f) = rw (← append_assoc xs x y) (q ∙ rw p (rw (append_assoc (lines_given xs).0 ms ns))) in
    (whole, rw (append_assoc xs x y) at more)

-- after a line that is too long
pub fed_long : (a b c : LinesPipe) (x y : List ℕ) (ms : List (List ℕ)) → TakesBytes a x ms true b → TakesBytes a (x ++ y) ms true c
fed_long a b c x y ms first xs s =
    let (p, stands) = first xs s in
    let stays : lines_given ((xs ++ x) ++ y) ≡ lines_given (xs ++ x) = lines-stay (xs ++ x) y (ap (λ z. z.1) p) in
    (rw (← append_assoc xs x y) (stays ∙ p), λ e. (cc))
