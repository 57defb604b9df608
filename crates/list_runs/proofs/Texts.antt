-- The lines of a list are UTF-8.
use Rattle.std.proofs.Common.{◌≡◌, ℕ, zero, suc, ◌+◌, ◌/◌, ◌%◌, ◌<◌, ◌≤◌, ◌==◌, ◌&&◌, ◌||◌, Bool, true, false, cond, List, [], ◌∷◌, ◌++◌, append-nil, append_assoc, get_or, length, map, take, Option, Some, None, refl, sym, ap, ◌∙◌, subst, ⊎_elim, arith}
use Rattle.std.specs.Prelude.{IsUtf8, not}
use Rattle.std.specs.List.{AllByRecursion, before_first, prefix_len}
use Rattle.std.proofs.Math.Utf8.{encode, encodes, scalar, scalars}
use Rattle.std.proofs.lemmas.Bool.{and_parts, cases_lt}
use Rattle.std.proofs.lemmas.Bool.Decides.{nat_tests}
use Rattle.std.proofs.lemmas.List.{take_at}
use Rattle.std.proofs.lemmas.Str.{IsCharBoundary-before_ascii, IsUtf8-append, IsUtf8-from_ascii, IsUtf8-nil, IsUtf8-take, encode_ascii}
use Rattle.chunk_core.specs.Elements.{Byte, Element, Line}
use Rattle.chunk_core.specs.Feed.{Meaning}
use Rattle.chunk_core.specs.Outcomes.{Cut, Done, End, Fault}
use Rattle.chunk_core.specs.Tables.{no_values}
use Rattle.chunk_core.specs.declared.code.Code.{Code}
use Rattle.chunk_core.specs.declared.code.How.{How}
use Rattle.chain_pipes.specs.Over.{chain_part}
use Rattle.device_port.specs.Device.{DeviceTold}
use Rattle.list_lines.specs.Lists.{HaveCome, IsAt, ListRun, end_of}
use Rattle.list_lines.specs.declared.lines.ListLines.{ListLines}
use Rattle.pull_nodes.specs.Lines.{IsFree, ended_lines, has_end, has_long, is_end, is_long, last_byte, last_line, open_line, without_pairs}
use Rattle.pull_nodes.specs.Pipes.{all_of, part_of}
use Rattle.pull_nodes.specs.Plain.{bytes_of, if_any}
use Rattle.pull_nodes.specs.Runs.{GivesBy}
use Rattle.pull_nodes.specs.Utf8.{utf8_front}
use Rattle.pull_nodes.specs.declared.pipe.Pipe.TheVariants as pipe
use Rattle.pull_nodes.proofs.Characters.{encode_four, encode_three, encode_two}
use Rattle.pull_nodes.proofs.Meanings.{bytes_of-map}
use Rattle.pull_nodes.proofs.Texts.{ended_lines-free, ended_lines-line, free-append, open_line-free, open_line-line, without_pairs-append, without_pairs-same}
use Rattle.pull_nodes.proofs.Utf8Cuts.{IsUtf8-after, front-IsUtf8}
use Rattle.list_runs.specs.Laws.{LinesAreTexts}
use Rattle.list_runs.specs.Meant.{IsText, list_meaning, list_steps}
use Rattle.list_runs.proofs.Runs.{TextLines, text_lines}
use Rattle.list_runs.proofs.Steps.{part_lines}

-- a text may be cut at a line end

end_is_ascii : (c : ℕ) → is_end c ≡ true → c < 128
end_is_ascii c h = grind (arith, h)

before_end : (xs ys : List ℕ) (c : ℕ) → c < 128 → IsUtf8 (xs ++ c ∷ ys) → IsUtf8 xs
before_end xs ys c low u =
    let len : length xs < length (xs ++ c ∷ ys) = shorter xs in
    let at : get_or (xs ++ c ∷ ys) (length xs) 0 ≡ c = there xs in
    subst IsUtf8 (take_at xs (c ∷ ys) (length xs) refl) (IsUtf8-take (xs ++ c ∷ ys) (length xs) u (IsCharBoundary-before_ascii (xs ++ c ∷ ys) (length xs) len (subst (λ i. i < 128) (sym at) low)))
  where
    shorter : (zs : List ℕ) → length zs < length (zs ++ c ∷ ys)
    shorter [] = omega arith
    shorter (z ∷ zs) = let s = shorter zs in omega (arith, s)

    there : (zs : List ℕ) → get_or (zs ++ c ∷ ys) (length zs) 0 ≡ c
    there [] = refl
    there (z ∷ zs) = there zs

one_byte : (c : ℕ) → c < 128 → IsUtf8 (c ∷ [])
one_byte c low = IsUtf8-from_ascii (c ∷ []) ascii
  where
    ascii : (i : ℕ) → get_or (c ∷ []) i 0 < 128
    ascii zero = low
    ascii (suc i) = omega arith

behind_end : (xs ys : List ℕ) (c : ℕ) → c < 128 → IsUtf8 (xs ++ c ∷ ys) → IsUtf8 ys
behind_end xs ys c low u = IsUtf8-after (c ∷ []) ys (one_byte c low) (IsUtf8-after xs (c ∷ ys) (before_end xs ys c low u) u)

-- its lines are UTF-8, and so is what stands behind the last line end

record AreCut (text : List ℕ) : Type 0 where
  ended : AllByRecursion IsUtf8 (ended_lines text)
  last : IsUtf8 (open_line text)

cut_from : (front xs : List ℕ) → IsFree front → IsUtf8 (front ++ xs) → AreCut (front ++ xs)
cut_from front [] free u =
    let f : IsUtf8 front = subst IsUtf8 (append-nil front) u in
    subst AreCut (sym (append-nil front)) (record {
      ended = subst (λ ls. AllByRecursion IsUtf8 ls) (sym (ended_lines-free front free)) tt;
      last = subst IsUtf8 (sym (open_line-free front free)) f;
    })
cut_from front (c ∷ xs) free u = by_end (is_end c) refl (λ v. cut_from [] xs refl v) (λ f v. cut_from (front ++ c ∷ []) xs f v)
  where
    alone : is_end c ≡ false → IsFree (c ∷ [])
    alone e = ap (λ b. b || false) e

    by_end : (b : Bool) → is_end c ≡ b → (IsUtf8 xs → AreCut xs) → (IsFree (front ++ c ∷ []) → IsUtf8 ((front ++ c ∷ []) ++ xs) → AreCut ((front ++ c ∷ []) ++ xs)) → AreCut (front ++ c ∷ xs)
    by_end true e behind longer =
        let low = end_is_ascii c e in
        let rest = behind (behind_end front xs c low u) in
        record {
          ended = subst (λ ls. AllByRecursion IsUtf8 ls) (sym (ended_lines-line front c xs free e)) (before_end front xs c low u, rest.ended);
          last = subst IsUtf8 (sym (open_line-line front c xs free e)) rest.last;
        }
    by_end false e behind longer =
        let same : (front ++ c ∷ []) ++ xs ≡ front ++ c ∷ xs = append_assoc front (c ∷ []) xs in
        subst AreCut same (longer (free-append front (c ∷ []) free (alone e)) (subst IsUtf8 (sym same) u))

are_cut : (text : List ℕ) → IsUtf8 text → AreCut text
are_cut text u = cut_from [] text refl u

-- without the pairs it is a text still

no_end : (c : ℕ) → 128 ≤ c → is_end c ≡ false
no_end c h = grind (arith, nat_tests, h)

free_cons : (c : ℕ) (xs : List ℕ) → 128 ≤ c → IsFree xs → IsFree (c ∷ xs)
free_cons c xs h f = ap (λ b. b || has_end xs) (no_end c h) ∙ f

high_is_free : (c : ℕ) → 128 ≤ c → IsFree (encode c)
high_is_free c h = ⊎_elim
    (λ (l : c < 2048). subst IsFree (sym (encode_two c h l)) (free_cons (192 + c / 64) ((128 + c % 64) ∷ []) (omega arith) (free_cons (128 + c % 64) [] (omega arith) refl)))
    (λ (l : 2048 ≤ c). ⊎_elim
    (λ (m : c < 65536). subst IsFree (sym (encode_three c l m)) (
    free_cons (224 + c / 4096) ((128 + c / 64 % 64) ∷ (128 + c % 64) ∷ []) (omega arith) (free_cons (128 + c / 64 % 64) ((128 + c % 64) ∷ []) (omega arith) (free_cons (128 + c % 64) [] (omega arith) refl))
    ))
    (λ (m : 65536 ≤ c). subst IsFree (sym (encode_four c m)) (
    free_cons (240 + c / 262144) ((128 + c / 4096 % 64) ∷ (128 + c / 64 % 64) ∷ (128 + c % 64) ∷ []) (omega arith) (
    free_cons (128 + c / 4096 % 64) ((128 + c / 64 % 64) ∷ (128 + c % 64) ∷ []) (omega arith) (free_cons (128 + c / 64 % 64) ((128 + c % 64) ∷ []) (omega arith) (free_cons (128 + c % 64) [] (omega arith) refl))
    )
    ))
    (cases_lt c 65536))
    (cases_lt c 2048)

pairs_in : (c : ℕ) (b : ℕ) → scalars (c ∷ []) ≡ true → IsUtf8 (without_pairs b (encode c))
unfolding without_pairs
pairs_in c b s = ⊎_elim
    (λ (low : c < 128). subst (λ l. IsUtf8 (without_pairs b l)) (sym (encode_ascii c low)) (kept ((b == 13) && (c == 10)) low))
    (λ (high : 128 ≤ c). subst IsUtf8 (sym (without_pairs-same b (encode c) (high_is_free c high))) (c ∷ [], (s, append-nil (encode c))))
    (cases_lt c 128)
  where
    kept : (t : Bool) → c < 128 → IsUtf8 (cond t [] (c ∷ []))
    kept true low = IsUtf8-nil
    kept false low = one_byte c low

unpaired : (cs : List ℕ) (b : ℕ) → scalars cs ≡ true → IsUtf8 (without_pairs b (encodes cs))
unfolding without_pairs
unpaired [] b s = IsUtf8-nil
unpaired (c ∷ cs) b s =
    let both = and_parts (scalar c) (scalars cs) s in
    let one : scalars (c ∷ []) ≡ true = ap (λ t. t && true) both.0 in
    subst IsUtf8 (sym (without_pairs-append b (encode c) (encodes cs))) (IsUtf8-append (without_pairs b (encode c)) (without_pairs (last_byte b (encode c)) (encodes cs)) (pairs_in c b one) (unpaired cs (last_byte b (encode c)) both.1))

text_without_pairs : (text : List ℕ) → IsUtf8 text → IsUtf8 (without_pairs 0 text)
text_without_pairs text u = subst (λ t. IsUtf8 (without_pairs 0 t)) u.1.1 (unpaired u.0 0 u.1.0)

-- lines

all_take : {A : Type 0} (P : A → Type 0) (n : ℕ) (xs : List A) → AllByRecursion P xs → AllByRecursion P (take n xs)
all_take P zero xs h = tt
all_take P (suc n) [] h = tt
all_take P (suc n) (x ∷ xs) h = (h.0, all_take P n xs h.1)

some_lines : (ls : List (List ℕ)) → AllByRecursion IsUtf8 ls → AllByRecursion IsUtf8 (before_first is_long ls)
some_lines ls h = all_take IsUtf8 (prefix_len (λ x. not (is_long x)) ls) ls h

all_append : {A : Type 0} (P : A → Type 0) (xs ys : List A) → AllByRecursion P xs → AllByRecursion P ys → AllByRecursion P (xs ++ ys)
all_append P [] ys h k = k
all_append P (x ∷ xs) ys h k = (h.0, all_append P xs ys h.1 k)

all_front : {A : Type 0} (P : A → Type 0) (xs ys : List A) → AllByRecursion P (xs ++ ys) → AllByRecursion P xs
all_front P [] ys h = tt
all_front P (x ∷ xs) ys h = (h.0, all_front P xs ys h.1)

rest_line : (text : List ℕ) → IsUtf8 (open_line text) → AllByRecursion IsUtf8 (last_line text)
rest_line text u = by_long (has_long text)
  where
    any : (line : List ℕ) → IsUtf8 line → AllByRecursion IsUtf8 (if_any line)
    any [] v = tt
    any (c ∷ line) v = (v, tt)

    by_long : (b : Bool) → AllByRecursion IsUtf8 (cond b [] (if_any (open_line text)))
    by_long true = tt
    by_long false = any (open_line text) u

-- so they are as elements
are_lines : (ls : List (List ℕ)) → AllByRecursion IsUtf8 ls → AllByRecursion IsText (map Line ls)
are_lines [] h = tt
are_lines (l ∷ ls) h = (h.0, are_lines ls h.1)

pub lines_of : (ls : List (List ℕ)) → AllByRecursion IsText (map Line ls) → AllByRecursion IsUtf8 ls
lines_of [] h = tt
lines_of (l ∷ ls) h = (h.0, lines_of ls h.1)

module _ (us : List Element) (u : IsUtf8 (bytes_of us)) where
  cut : AreCut (without_pairs 0 (bytes_of us))
  cut = are_cut (without_pairs 0 (bytes_of us)) (text_without_pairs (bytes_of us) u)

  of_part : AllByRecursion IsText (part_of no_values pipe.Lines us).list
  of_part = are_lines (before_first is_long (ended_lines (without_pairs 0 (bytes_of us)))) (some_lines (ended_lines (without_pairs 0 (bytes_of us))) cut.ended)

  of_all : AllByRecursion IsText (all_of no_values pipe.Lines us).list
  of_all =
      let text = without_pairs 0 (bytes_of us) in
      are_lines (before_first is_long (ended_lines text) ++ last_line text) (all_append IsUtf8 (before_first is_long (ended_lines text)) (last_line text) (some_lines (ended_lines text) cut.ended) (rest_line text cut.last))

  of_lines : (f : Option Code) (g : End) (ys : List Element) (e : End) → GivesBy f (part_of no_values pipe.Lines) (all_of no_values pipe.Lines) us g ys e → AllByRecursion IsText ys
  of_lines (Some c) g ys e h = subst (λ l. AllByRecursion IsText l) (sym h.0) of_part
  of_lines None Done ys e h = subst (λ l. AllByRecursion IsText l) (sym h.0) of_all
  of_lines None (Fault c) ys e h = subst (λ l. AllByRecursion IsText l) (sym h.0) of_part
  of_lines None Cut ys e h = subst (λ l. AllByRecursion IsText l) (sym h.0) of_part

-- text has come through `utf8`
text_front : (xs us : List Element) → us ≡ map Byte (utf8_front (bytes_of xs)) → IsUtf8 (bytes_of us)
text_front xs us h = subst IsUtf8 (sym (ap bytes_of h ∙ bytes_of-map (utf8_front (bytes_of xs)))) (front-IsUtf8 (bytes_of xs))

of_text : (f : Option Code) (xs : List Element) (g : End) (us : List Element) (e : End) → GivesBy f (part_of no_values pipe.Utf8) (all_of no_values pipe.Utf8) xs g us e → IsUtf8 (bytes_of us)
of_text (Some c) xs g us e h = text_front xs us h.0
of_text None xs Done us e h = text_front xs us h.0
of_text None xs (Fault c) us e h = text_front xs us h.0
of_text None xs Cut us e h = text_front xs us h.0

-- whatever the device gives
text_lines_are_texts : (d : DeviceTold) (ys : List Element) (e : End) → TextLines d ys e → AllByRecursion IsText ys
text_lines_are_texts d ys e h =
    let i = h.2 in
    of_lines h.0 (of_text (part_of no_values pipe.Utf8 i.0).fault i.0 i.1 h.0 h.1 i.3) (part_of no_values pipe.Lines h.0).fault h.1 ys e h.3

pub runs_are_texts : (d : DeviceTold) (ys : List Element) (e : End) → ListRun list_meaning d ys e → AllByRecursion IsText ys
runs_are_texts d ys e h = ⊎_elim
    (λ r. text_lines_are_texts d ys e (text_lines d ys e r))
    (λ c. ⊎_elim
    (λ i. subst (λ l. AllByRecursion IsText l) (sym i.0) tt)
    (λ i. all_front IsText ys i.0 (text_lines_are_texts d (ys ++ i.0) i.1 (text_lines d (ys ++ i.0) i.1 i.2)))
    c.1)
    h

pub lines_are_texts : LinesAreTexts
lines_are_texts d lines e h = lines_of lines (runs_are_texts d (map Line lines) e h)

-- of the bytes that have come too
pub come_are_texts : (xs : List Element) → AllByRecursion IsText (chain_part list_steps xs).list
come_are_texts xs = subst (λ l. AllByRecursion IsText l) (sym (part_lines xs)) (of_part (part_of no_values pipe.Utf8 xs).list (text_front xs (part_of no_values pipe.Utf8 xs).list refl))

-- those that came of a list that is read, and those that wait in it
pub at_are_texts : {F : Type 0} (Stands : F → Meaning → List Element → Type 0) (d : DeviceTold) (given : List (List ℕ)) (x : ListLines F) → IsAt Stands list_meaning d given x → AllByRecursion IsUtf8 (given ++ x.waiting.items)
at_are_texts Stands d given x h = by_over x.over h.came
  where
    by_over : (o : Option How) → HaveCome Stands o list_meaning d (given ++ x.waiting.items) x → AllByRecursion IsUtf8 (given ++ x.waiting.items)
    by_over (Some k) r = lines_are_texts d (given ++ x.waiting.items) (end_of k) r
    by_over None r = lines_of (given ++ x.waiting.items) (subst (λ l. AllByRecursion IsText l) r.came (come_are_texts r.xs))
