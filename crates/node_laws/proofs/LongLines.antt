-- Where a line is too long.
use Rattle.std.proofs.Common.{◌≡◌, ◌↔◌, ⊎_elim, ℕ, zero, suc, ◌<◌, Bool, true, false, ◌==◌, ◌&&◌, ◌||◌, cond, List, [], ◌∷◌, ◌++◌, length, take, drop, Some, refl, ap, ◌∙◌, sym, subst, arith, append_assoc, length-append}
use Rattle.std.proofs.lemmas.Bool.{cases_Bool, or_cases, or_parts, or_from, and_left, ltb-true}
use Rattle.std.proofs.lemmas.Bool.Decides.{nat_tests}
use Rattle.std.proofs.lemmas.List.{append-nil, take-append-drop, length-take-le}
use Rattle.std.specs.List.{list_any}
use Rattle.chunk_core.specs.declared.code.Code.TheVariants as code
use Rattle.node_laws.specs.Laws.{HasRun}
use Rattle.pull_nodes.specs.Lines.{IsFree, has_end, is_end, last_byte, without_pairs, onto, ended_lines, where_none, open_line, is_long, has_long, long_fault, lines_part}
use Rattle.pull_nodes.proofs.LineLaws.{short-append, long-append, long-free, some_fault}
use Rattle.pull_nodes.proofs.Texts.{without_pairs-append, without_pairs-free, free_parts, free-open_line, free-append}

-- a long piece without a line end stands in a text
record HasLongPiece (text : List ℕ) : Type 0 where
  before : List ℕ
  piece : List ℕ
  after : List ℕ
  whole : text ≡ before ++ (piece ++ after)
  long : is_long piece ≡ true
  free : IsFree piece

piece_later : (c : ℕ) (text : List ℕ) → HasLongPiece text → HasLongPiece (c ∷ text)
piece_later c text h = record { before = c ∷ h.before; piece = h.piece; after = h.after; whole = ap (λ l. c ∷ l) h.whole; long = h.long; free = h.free }

-- the first line that ends stands at the front
record IsFirstLine (text line : List ℕ) : Type 0 where
  after : List ℕ
  whole : text ≡ line ++ after
  free : IsFree line

first_case : (t : Bool) (c : ℕ) (xs m : List ℕ) (ms : List (List ℕ)) → is_end c ≡ t → cond t ([] ∷ ended_lines xs) (onto c (ended_lines xs)) ≡ m ∷ ms
    → ((n : List ℕ) (ns : List (List ℕ)) → ended_lines xs ≡ n ∷ ns → IsFirstLine xs n) → IsFirstLine (c ∷ xs) m
first_case true c xs m ms t e later = let none : [] ≡ m = cc in record { after = c ∷ xs; whole = ap (λ l. l ++ c ∷ xs) none; free = subst IsFree none refl }
first_case false c xs m ms t e later = by (ended_lines xs) refl e
  where
    by : (ls : List (List ℕ)) → ended_lines xs ≡ ls → onto c ls ≡ m ∷ ms → IsFirstLine (c ∷ xs) m
    by [] is e = (cc)
    by (n ∷ ns) is e =
        let line : c ∷ n ≡ m = cc in
        let f = later n ns is in
        record { after = f.after; whole = ap (λ l. c ∷ l) f.whole ∙ ap (λ l. l ++ f.after) line; free = subst IsFree line (or_from (is_end c) (has_end n) t f.free) }

first_line : (text m : List ℕ) (ms : List (List ℕ)) → ended_lines text ≡ m ∷ ms → IsFirstLine text m
unfolding ended_lines
first_line [] m ms e = (cc)
first_line (c ∷ xs) m ms e = first_case (is_end c) c xs m ms refl e (first_line xs)

-- of the lines that end, one is long
ended_case : (t : Bool) (c : ℕ) (xs : List ℕ) → is_end c ≡ t → list_any is_long (cond t ([] ∷ ended_lines xs) (onto c (ended_lines xs))) ≡ true
    → (list_any is_long (ended_lines xs) ≡ true → HasLongPiece xs) → HasLongPiece (c ∷ xs)
ended_case true c xs t h later = piece_later c xs (later h)
ended_case false c xs t h later = by (ended_lines xs) refl h
  where
    by : (ls : List (List ℕ)) → ended_lines xs ≡ ls → list_any is_long (onto c ls) ≡ true → HasLongPiece (c ∷ xs)
    by [] is h = (cc)
    by (n ∷ ns) is h = ⊎_elim
        (λ long. let f = first_line xs n ns is in record { before = []; piece = c ∷ n; after = f.after; whole = ap (λ l. c ∷ l) f.whole; long = long; free = or_from (is_end c) (has_end n) t f.free })
        (λ more. piece_later c xs (later (ap (list_any is_long) is ∙ (ap (λ b. is_long n || b) more ∙ any_true (is_long n)))))
        (or_cases (is_long (c ∷ n)) (list_any is_long ns) h)
      where
        any_true : (b : Bool) → (b || true) ≡ true
        any_true true = refl
        any_true false = refl

ended_long : (text : List ℕ) → list_any is_long (ended_lines text) ≡ true → HasLongPiece text
unfolding ended_lines
ended_long [] h = (cc)
ended_long (c ∷ xs) h = ended_case (is_end c) c xs refl h (ended_long xs)

-- the open line stands at the end
open_case : (t : Bool) (c : ℕ) (xs : List ℕ) → (before : List ℕ) × (xs ≡ before ++ open_line xs) → (before : List ℕ) × (c ∷ xs ≡ before ++ cond t (open_line xs) (where_none (ended_lines xs) (c ∷ xs) (open_line xs)))
open_case true c xs (before, e) = (c ∷ before, ap (λ l. c ∷ l) e)
open_case false c xs (before, e) = by (ended_lines xs)
  where
    by : (ls : List (List ℕ)) → (front : List ℕ) × (c ∷ xs ≡ front ++ where_none ls (c ∷ xs) (open_line xs))
    by [] = ([], refl)
    by (n ∷ ns) = (c ∷ before, ap (λ l. c ∷ l) e)

open_at_end : (text : List ℕ) → (before : List ℕ) × (text ≡ before ++ open_line text)
unfolding open_line
open_at_end [] = ([], refl)
open_at_end (c ∷ xs) = open_case (is_end c) c xs (open_at_end xs)

long_piece : (text : List ℕ) → has_long text ≡ true → HasLongPiece text
long_piece text h = ⊎_elim (ended_long text)
    (λ long. let o = open_at_end text in
    record { before = o.0; piece = open_line text; after = []; whole = o.1 ∙ ap (λ l. o.0 ++ l) (sym (append-nil (open_line text))); long = long; free = free-open_line text })
    (or_cases (list_any is_long (ended_lines text)) (is_long (open_line text)) h)

-- what is left of a text without the pairs' LFs, taken back to the text
no_return : (c : ℕ) → is_end c ≡ false → (c == 13) ≡ false
no_return c h = (or_parts (c == 13) (c == 10) h).0

front_back : (p : ℕ) (xs run after : List ℕ) → (p == 13) ≡ false → without_pairs p xs ≡ run ++ after → IsFree run → (more : List ℕ) × (xs ≡ run ++ more)
unfolding without_pairs
front_back p xs [] after other e f = (xs, refl)
front_back p [] (d ∷ run) after other e f = (cc)
front_back p (c ∷ xs) (d ∷ run) after other e f =
    let kept : c ∷ without_pairs c xs ≡ d ∷ (run ++ after) = rw (and_left (p == 13) (c == 10) other) at e in
    let same : c ≡ d = cc in
    let later : without_pairs c xs ≡ run ++ after = cc in
    let parts = free_parts d run f in
    let rest = front_back c xs run after (ap (λ b. b == 13) same ∙ no_return d parts.0) later parts.1 in
    (rest.0, (λ i. same i ∷ rest.1 i))

front_of : (c : ℕ) (xs piece after : List ℕ) → c ∷ without_pairs c xs ≡ piece ++ after → IsFree piece → 0 < length piece → (more : List ℕ) × (c ∷ xs ≡ piece ++ more)
front_of c xs [] after e f some = absurd (omega arith)
front_of c xs (d ∷ piece) after e f some =
    let same : c ≡ d = cc in
    let later : without_pairs c xs ≡ piece ++ after = cc in
    let parts = free_parts d piece f in
    let rest = front_back c xs piece after (ap (λ b. b == 13) same ∙ no_return d parts.0) later parts.1 in
    (rest.0, (λ i. same i ∷ rest.1 i))

abbrev IsIn : List ℕ → List ℕ → Type 0
IsIn piece xs = (before : List ℕ) × (after : List ℕ) × (xs ≡ before ++ (piece ++ after))

in_later : (c : ℕ) (xs piece : List ℕ) → IsIn piece xs → IsIn piece (c ∷ xs)
in_later c xs piece h = (c ∷ h.0, h.1, ap (λ l. c ∷ l) h.2)

kept_back : (c : ℕ) (xs before piece after : List ℕ) → c ∷ without_pairs c xs ≡ before ++ (piece ++ after) → IsFree piece → 0 < length piece
    → ((front : List ℕ) → without_pairs c xs ≡ front ++ (piece ++ after) → IsIn piece xs) → IsIn piece (c ∷ xs)
kept_back c xs [] piece after e f some later = let rest = front_of c xs piece after e f some in ([], rest.0, rest.1)
kept_back c xs (b ∷ before) piece after e f some later = in_later c xs piece (later before (cc))

pair_back : (t : Bool) (c : ℕ) (xs before piece after : List ℕ) → cond t (without_pairs c xs) (c ∷ without_pairs c xs) ≡ before ++ (piece ++ after) → IsFree piece → 0 < length piece
    → ((front : List ℕ) → without_pairs c xs ≡ front ++ (piece ++ after) → IsIn piece xs) → IsIn piece (c ∷ xs)
pair_back true c xs before piece after e f some later = in_later c xs piece (later before e)
pair_back false c xs before piece after e f some later = kept_back c xs before piece after e f some later

piece_back : (p : ℕ) (xs before piece after : List ℕ) → without_pairs p xs ≡ before ++ (piece ++ after) → IsFree piece → 0 < length piece → IsIn piece xs
unfolding without_pairs
piece_back p [] before piece after e f some = absurd (omega (arith, ap length e, length-append before (piece ++ after), length-append piece after))
piece_back p (c ∷ xs) before piece after e f some = pair_back ((p == 13) && (c == 10)) c xs before piece after e f some (λ front k. piece_back c xs front piece after k f some)

free_take : (n : ℕ) (xs : List ℕ) → IsFree xs → IsFree (take n xs)
free_take zero xs f = refl
free_take (suc n) [] f = refl
free_take (suc n) (x ∷ xs) f = let parts = free_parts x xs f in or_from (is_end x) (has_end (take n xs)) parts.0 (free_take n xs parts.1)

cut_run : (xs piece : List ℕ) → IsIn piece xs → is_long piece ≡ true → IsFree piece → HasRun xs
cut_run xs piece h long f =
    let less : 1048576 < length piece = ltb-true 1048576 (length piece) long in
    let run = take 1048577 piece in
    let rest = drop 1048577 piece in
    let parts : piece ++ h.1 ≡ run ++ (rest ++ h.1) = ap (λ l. l ++ h.1) (sym (take-append-drop 1048577 piece)) ∙ append_assoc run rest h.1 in
    record {
      before = h.0;
      run = run;
      after = rest ++ h.1;
      whole = h.2 ∙ ap (λ l. h.0 ++ l) parts;
      long = length-take-le 1048577 piece (omega arith);
      free = free_take 1048577 piece f;
    }

has_run : (xs : List ℕ) → has_long (without_pairs 0 xs) ≡ true → HasRun xs
has_run xs h =
    let p = long_piece (without_pairs 0 xs) h in
    let less : 1048576 < length p.piece = ltb-true 1048576 (length p.piece) p.long in
    cut_run xs p.piece (piece_back 0 xs p.before p.piece p.after p.whole p.free (omega arith)) p.long p.free

long_run : (z run ys : List ℕ) → IsFree run → length run ≡ 1048577 → has_long (z ++ (run ++ ys)) ≡ true
long_run z run ys f len = ⊎_elim
    (λ long. (long-append z (run ++ ys) long).1)
    (λ short.
    let open_piece = open_line z ++ run in
    let long : is_long open_piece ≡ true = grind (arith, nat_tests, length-append) in
    let whole : open_line z ++ (run ++ ys) ≡ open_piece ++ ys = sym (append_assoc (open_line z) run ys) in
    (short-append z (run ++ ys) short).1 ∙ (ap has_long whole ∙ (long-free open_piece ys (free-append (open_line z) run (free-open_line z) f) long).1))
    (cases_Bool (has_long z))

from_run : (xs : List ℕ) → HasRun xs → has_long (without_pairs 0 xs) ≡ true
from_run xs h =
    let len = h.long in
    let later = without_pairs-free (last_byte 0 h.before) h.run h.after h.free (omega arith) in
    let text : without_pairs 0 xs ≡ without_pairs 0 h.before ++ (h.run ++ without_pairs (last_byte (last_byte 0 h.before) h.run) h.after) =
    ap (without_pairs 0) h.whole ∙ (without_pairs-append 0 h.before (h.run ++ h.after) ∙ ap (λ l. without_pairs 0 h.before ++ l) later) in
    ap has_long text ∙ long_run (without_pairs 0 h.before) h.run (without_pairs (last_byte (last_byte 0 h.before) h.run) h.after) h.free len

pub tells : (xs : List ℕ) → ((lines_part xs).fault ≡ Some code.LongLine) ↔ HasRun xs
tells xs = (λ e. has_run xs (some_fault (has_long (without_pairs 0 xs)) code.LongLine e), λ h. ap long_fault (from_run xs h))
