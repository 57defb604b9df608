-- What a pipe of lines answers, as a pipe.
use Rattle.std.proofs.Common.{◌≡◌, ℕ, ◌<◌, Bool, false, cond, List, [], ◌∷◌, ◌++◌, map, length, Option, Some, None, refl, ap, ◌∙◌, sym, subst, arith}
use Rattle.std.proofs.lemmas.List.{map-append}
use Rattle.std.specs.List.{before_first}
use Rattle.chunk_core.specs.Elements.{Element, Byte, Line, LoadKind}
use Rattle.chunk_core.specs.Elements.LoadKind.{Lines}
use Rattle.chunk_core.specs.Feed.{Meaning, Extends, Continues, Finishes}
use Rattle.chunk_core.specs.declared.code.Code.{Code}
use Rattle.chunk_core.specs.declared.feed.Fed.{Fed}
use Rattle.chunk_core.specs.declared.feed.Fed.TheVariants as fed
use Rattle.chunk_core.specs.declared.load.Load.TheVariants as load
use Rattle.pull_nodes.specs.Lines.{without_pairs, ended_lines, open_line, is_long, has_long, long_fault, last_line}
use Rattle.pull_nodes.specs.Pipes.{IsMeaningOf}
use Rattle.pull_nodes.specs.Plain.{bytes_of, if_any}
use Rattle.pull_nodes.specs.declared.pipe.Pipe.TheVariants as pipe
use Rattle.pull_nodes.proofs.Meanings.{meaning_is, from_bytes-some, extends_from, finishes_from, bytes_of-load}
use Rattle.text_pipes.specs.LinesState.{StandsAt, StandsFor, Comes, found_in, lines_given, TakesBytes}
use Rattle.text_pipes.specs.declared.lines.LinesPipe.{LinesPipe}

pub gives_lines : (m : Meaning) → IsMeaningOf pipe.Lines m → m.gives ≡ Lines
gives_lines m h = (from_bytes-some Lines m.takes m.gives (meaning_is pipe.Lines m h).1).1

-- the answer to a load
pub lines_feed : (a b : LinesPipe) (bytes : List ℕ) (lines given : List (List ℕ)) (long : Bool) → TakesBytes a bytes lines long b → given ≡ lines
    → (m : Meaning) (xs ys : List Element) → ys ≡ map Byte bytes → StandsFor a m xs
    → Extends m xs ys (load.Lines given) (long_fault long) × (long ≡ false → StandsFor b m (xs ++ ys))
unfolding found_in
lines_feed a b bytes lines given long takes is m xs ys e h =
    let t = takes (bytes_of xs) h.1 in
    let same : bytes_of (xs ++ ys) ≡ bytes_of xs ++ bytes = ap (λ l. bytes_of (xs ++ l)) e ∙ bytes_of-load xs bytes in
    let all : lines_given (bytes_of (xs ++ ys)) ≡ ((lines_given (bytes_of xs)).0 ++ lines, long) = ap lines_given same ∙ t.0 in
    let kind = (meaning_is pipe.Lines m h.0).1 ∙ ap (λ k. Some k) (gives_lines m h.0) in
    let list : map Line (lines_given (bytes_of xs)).0 ++ map Line given ≡ map Line (lines_given (bytes_of (xs ++ ys))).0 =
    ap (λ l. map Line (lines_given (bytes_of xs)).0 ++ map Line l) is ∙ (sym (map-append Line (lines_given (bytes_of xs)).0 lines) ∙ sym (ap (λ p. map Line p.0) all)) in (
      extends_from pipe.Lines m h.0 xs ys (load.Lines given) (long_fault long) kind list (ap (λ p. long_fault p.1) all),
      λ short. (h.0, subst (λ l. StandsAt b.held.items b.after_cr l) (sym same) (t.1 short)),
    )

-- the open line, which is the last
pub lines_whole : (q : LinesPipe) (m : Meaning) (xs : List Element) (answer : Fed) (Next : List Element → Option Code → Type 0) → StandsFor q m xs
    → Continues m.gives (map Line (if_any q.held.items)) None answer Next → Finishes m xs answer Next
lines_whole q m xs answer Next h given =
    let text = without_pairs 0 (bytes_of xs) in
    let ended = before_first is_long (ended_lines text) in
    let short : has_long text ≡ false = h.1.short in
    let last : last_line text ≡ if_any q.held.items = ap (λ b. cond b [] (if_any (open_line text))) short ∙ ap if_any (sym h.1.held) in
    let whole : map Line ended ++ map Line (if_any q.held.items) ≡ map Line (ended ++ last_line text) = ap (λ l. map Line ended ++ map Line l) (sym last) ∙ sym (map-append Line ended (last_line text)) in
    let fault : long_fault (has_long text) ≡ None = ap long_fault short in
    finishes_from pipe.Lines m h.0 xs (map Line (if_any q.held.items)) answer Next whole
    (subst (λ c. Continues m.gives (map Line (if_any q.held.items)) c answer Next) (sym fault) given)

if_any-some : (line : List ℕ) → 0 < length line → if_any line ≡ line ∷ []
if_any-some [] some = absurd (omega arith)
if_any-some (c ∷ line) some = refl

-- the open line comes, and then the end
pub last_comes : (q b : LinesPipe) (kind : LoadKind) → kind ≡ Lines → 0 < length q.held.items → b.held.items ≡ []
    → Continues kind (map Line (if_any q.held.items)) None (fed.Out (load.Lines (q.held.items ∷ []))) (Comes b kind)
last_comes q b kind k some none =
    let later : [] ≡ map Line (if_any b.held.items) = sym (ap (λ l. map Line (if_any l)) none) in
    (sym k, omega arith, [], ap (map Line) (if_any-some q.held.items some), (k, later, refl))
