-- The hexadecimal lines of bytes, and what a pipe of them answers.
use Rattle.std.proofs.Common.{◌≡◌, ℕ, ◌/◌, ◌%◌, ◌<◌, ◌≤◌, true, ◌==◌, List, [], ◌∷◌, ◌++◌, map, length, take, drop, slice_index, Option, Some, None, refl, ap, sym, suc, ◌∙◌, arith, append_assoc, subst, length-append, length-drop}
use Rattle.std.specs.Char.{digit_char}
use Rattle.std.proofs.lemmas.Bool.{agree_below_at, eqb-true}
use Rattle.std.proofs.lemmas.List.{map-append}
use Rattle.std.proofs.Math.Nat.{div-add-mod}
use Rattle.std.proofs.Math.Seq.{take-append_seam, drop-append_seam}
use Rattle.hex.specs.Hex.{lower_digits, encode_with, encode_lower}
use Rattle.chunk_core.specs.Elements.{Element, Byte, Line, LoadKind}
use Rattle.chunk_core.specs.Elements.LoadKind.{Lines}
use Rattle.chunk_core.specs.Feed.{Meaning, MayFeed, Extends, Continues, Finishes}
use Rattle.chunk_core.specs.declared.code.Code.{Code}
use Rattle.chunk_core.specs.declared.feed.Fed.{Fed}
use Rattle.chunk_core.specs.declared.feed.Fed.TheVariants as fed
use Rattle.chunk_core.specs.declared.load.Load.TheVariants as load
use Rattle.pull_nodes.specs.Pipes.{IsMeaningOf}
use Rattle.pull_nodes.specs.Hex.{hex_line, hex_lines}
use Rattle.pull_nodes.specs.Plain.{bytes_of, if_any, multiple, ungrouped}
use Rattle.pull_nodes.specs.declared.pipe.Pipe.TheVariants as pipe
use Rattle.pull_nodes.proofs.Groups.{grouped, grouped-step, grouped-short, grouped-append, ungrouped-step, ungrouped-short, ungrouped-append}
use Rattle.pull_nodes.proofs.Meanings.{meaning_is, from_bytes-some, extends_from, finishes_from, bytes_of-load}
use Rattle.text_pipes.specs.HexState.{StandsFor, Comes}
use Rattle.text_pipes.specs.declared.hexadecimal.HexPipe.{HexPipe}

digit_is : (d : ℕ) → d < 16 → slice_index lower_digits d ≡ digit_char d
digit_is d h = eqb-true (slice_index lower_digits d) (digit_char d) (agree_below_at (λ e. slice_index lower_digits e == digit_char e) (λ e. true) 16 d refl h)

-- each byte has two digits
pub encoded_is : (bytes : List ℕ) → ((k : ℕ) → slice_index bytes k < 256) → encode_lower bytes ≡ hex_line bytes
unfolding encode_with
encoded_is [] small = refl
encoded_is (b ∷ bytes) small =
    let high = digit_is (b / 16) (let s = small 0 in omega arith) in
    let low = digit_is (b % 16) (omega arith) in
    let later = encoded_is bytes (λ k. small (suc k)) in
    (λ i. high i ∷ low i ∷ later i)

some_group : 0 < 16
some_group = omega arith

-- one group more, and none any more
pub lines-step : (bytes : List ℕ) → 16 ≤ length bytes → hex_lines bytes ≡ hex_line (take 16 bytes) ∷ hex_lines (drop 16 bytes)
lines-step bytes le = ap (map hex_line) (grouped-step 16 some_group bytes le)

pub lines-short : (bytes : List ℕ) → length bytes < 16 → hex_lines bytes ≡ []
lines-short bytes less = ap (map hex_line) (grouped-short 16 some_group bytes less)

pub rest-step : (bytes : List ℕ) → 16 ≤ length bytes → ungrouped 16 (drop 16 bytes) ≡ ungrouped 16 bytes
rest-step bytes le = sym (ungrouped-step 16 some_group bytes le)

pub rest-short : (bytes : List ℕ) → length bytes < 16 → ungrouped 16 bytes ≡ bytes
rest-short bytes less = ungrouped-short 16 some_group bytes less

-- a group that is whole stands in front
module _ (held bytes front more group : List ℕ) (sides : front ++ more ≡ bytes) (is : group ≡ held ++ front) (whole : length group ≡ 16) where
  cut : held ++ bytes ≡ group ++ more
  cut = ap (λ l. held ++ l) (sym sides) ∙ (sym (append_assoc held front more) ∙ ap (λ l. l ++ more) (sym is))

  enough : 16 ≤ length (group ++ more)
  enough = omega (arith, length-append group more)

  behind : drop 16 (group ++ more) ≡ more
  behind = subst (λ n. drop n (group ++ more) ≡ more) whole (drop-append_seam group more)

  pub whole_lines : (line : List ℕ) (lines : List (List ℕ)) → line ≡ hex_line group → lines ≡ line ∷ [] ++ hex_lines more → lines ≡ hex_lines (held ++ bytes)
  whole_lines line lines line_is given =
      let first : take 16 (group ++ more) ≡ group = subst (λ n. take n (group ++ more) ≡ group) whole (take-append_seam group more) in
      given ∙ ((λ i. (line_is ∙ ap hex_line (sym first)) i ∷ hex_lines (sym behind i)) ∙ (sym (lines-step (group ++ more) enough) ∙ ap hex_lines (sym cut)))

  pub whole_rest : ungrouped 16 more ≡ ungrouped 16 (held ++ bytes)
  whole_rest = ap (ungrouped 16) (sym behind) ∙ (rest-step (group ++ more) enough ∙ ap (ungrouped 16) (sym cut))

pub held_short : (q : HexPipe) (kind : LoadKind) → MayFeed (StandsFor q) kind → length q.held.items < 16
held_short q kind (m, xs, (h, held), takes) = omega (arith, ap length held, length-drop (multiple 16 (length (bytes_of xs))) (bytes_of xs), div-add-mod (length (bytes_of xs)) 16)

-- what is held, put before more bytes, decides
lines-append : (xs ys : List ℕ) → hex_lines (xs ++ ys) ≡ hex_lines xs ++ hex_lines (ungrouped 16 xs ++ ys)
lines-append xs ys = ap (map hex_line) (grouped-append 16 some_group xs ys) ∙ map-append hex_line (grouped 16 xs) (grouped 16 (ungrouped 16 xs ++ ys))

pub gives_lines : (m : Meaning) → IsMeaningOf pipe.Hex m → m.gives ≡ Lines
gives_lines m h = (from_bytes-some Lines m.takes m.gives (meaning_is pipe.Hex m h).1).1

-- the answer to a load
pub hex_feed : (a b : HexPipe) (bytes : List ℕ) (given : List (List ℕ)) → given ≡ hex_lines (a.held.items ++ bytes) → b.held.items ≡ ungrouped 16 (a.held.items ++ bytes)
    → (m : Meaning) (xs ys : List Element) → ys ≡ map Byte bytes → StandsFor a m xs → Extends m xs ys (load.Lines given) None × StandsFor b m (xs ++ ys)
hex_feed a b bytes given lines held m xs ys e h =
    let old = bytes_of xs in
    let same : bytes_of (xs ++ ys) ≡ old ++ bytes = ap (λ l. bytes_of (xs ++ l)) e ∙ bytes_of-load xs bytes in
    let all : hex_lines (bytes_of (xs ++ ys)) ≡ hex_lines old ++ given =
    ap hex_lines same ∙ (lines-append old bytes ∙ ap (λ l. hex_lines old ++ l) (sym (lines ∙ ap (λ l. hex_lines (l ++ bytes)) h.1))) in
    let rest : ungrouped 16 (bytes_of (xs ++ ys)) ≡ b.held.items =
    ap (ungrouped 16) same ∙ (ungrouped-append 16 some_group old bytes ∙ sym (held ∙ ap (λ l. ungrouped 16 (l ++ bytes)) h.1)) in
    let kind = (meaning_is pipe.Hex m h.0).1 ∙ ap (λ k. Some k) (gives_lines m h.0) in
    (extends_from pipe.Hex m h.0 xs ys (load.Lines given) None kind (sym (map-append Line (hex_lines old) given) ∙ ap (map Line) (sym all)) refl, (h.0, sym rest))

-- a line of what is held is the last
pub hex_whole : (q : HexPipe) (m : Meaning) (xs : List Element) (answer : Fed) (Next : List Element → Option Code → Type 0) → StandsFor q m xs
    → Continues m.gives (map Line (if_any (hex_line q.held.items))) None answer Next → Finishes m xs answer Next
hex_whole q m xs answer Next h given =
    let old = bytes_of xs in
    let last = if_any (hex_line q.held.items) in
    let whole : map Line (hex_lines old) ++ map Line last ≡ map Line (hex_lines old ++ if_any (hex_line (ungrouped 16 old))) =
    sym (map-append Line (hex_lines old) last) ∙ ap (λ l. map Line (hex_lines old ++ if_any (hex_line l))) h.1 in
    finishes_from pipe.Hex m h.0 xs (map Line last) answer Next whole given

if_any-hex : (bytes : List ℕ) → 0 < length bytes → if_any (hex_line bytes) ≡ hex_line bytes ∷ []
if_any-hex [] some = absurd (omega arith)
if_any-hex (b ∷ bytes) some = refl

-- that line comes, and then the end
pub hex_comes : (q b : HexPipe) (kind : LoadKind) → kind ≡ Lines → 0 < length q.held.items → b.held.items ≡ []
    → Continues kind (map Line (if_any (hex_line q.held.items))) None (fed.Out (load.Lines (hex_line q.held.items ∷ []))) (Comes b kind)
hex_comes q b kind k some none =
    let later : [] ≡ map Line (if_any (hex_line b.held.items)) = sym (ap (λ l. map Line (if_any (hex_line l))) none) in
    (sym k, omega arith, [], ap (map Line) (if_any-hex q.held.items some), (k, later, refl))

-- a line was put behind the others
pub lines_more : (lines pushed : List (List ℕ)) (left back line : List ℕ) → 16 ≤ length left → line ≡ hex_line (take 16 left) → back ≡ drop 16 left
    → pushed ≡ lines ++ line ∷ [] → pushed ++ hex_lines back ≡ lines ++ hex_lines left
lines_more lines pushed left back line le is rest more =
    ap (λ l. l ++ hex_lines back) more
    ∙ (append_assoc lines (line ∷ []) (hex_lines back)
    ∙ ap (λ l. lines ++ l) ((λ i. is i ∷ hex_lines (rest i)) ∙ sym (lines-step left le)))
