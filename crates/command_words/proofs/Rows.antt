-- What a command of clap matches in words that it takes.
use Rattle.std.proofs.Common.{◌≡◌, true, List, [], Option, Some, ap, ◌∙◌}
use Rattle.std.proofs.lemmas.Bool.{and_parts}
use Rattle.std.specs.Prelude.{codes, option_and_then, option_map}
use Rattle.clap.specs.Words.{App, Row, Text, all_of, fault_of, first_of, first_value, is_simple, is_simple_and_free, matches_of, rows_of}
use Rattle.clap.specs.declared.parser.matches.Found.{Found}
use Rattle.clap.specs.Matches.{matched_of, raw_values}
use Rattle.clap.proofs.WalkLemmas.{first_value-rows, raw_values-rows}
use Rattle.command_words.specs.Words.{cat_app, cat_at, cat_of, eval_app, eval_at, eval_of, gen_app, gen_at, gen_of, tee_app, tee_at, tee_of, rotate_app, rotate_at, rotate_of, rows_read, run_app, run_at, run_of}

pub simple_if_free : (app : App) → is_simple_and_free app ≡ true → is_simple app ≡ true
simple_if_free app e = (and_parts (is_simple app) _ e).0

pub read_if_taken : (app : App) (words : List Text) (rows : List Row) → fault_of app words ≡ [] → rows ≡ matches_of app words → Some rows ≡ rows_read app words
read_if_taken app words rows free is = rw (free, is)

-- the command and the words by their other names
pub rows_at : (called app : App) (given words : List Text) (rows : Option (List Row)) → called ≡ app → given ≡ words → rows ≡ rows_read called given → rows ≡ rows_read app words
rows_at called app given words rows e i h = h ∙ (ap (λ a. rows_read a given) e ∙ ap (λ ws. rows_read app ws) i)

-- what the getters give is what the words ask for
pub cat_read : (words : List Text) (f : Found) (chunk path : Option Text) → Some (rows_of f) ≡ rows_read cat_app words → chunk ≡ first_value f (codes "chunk") → path ≡ first_value f (codes "path") → cat_at chunk path ≡ cat_of words
cat_read words f chunk path is c p =
    rw (c, p, first_value-rows f (codes "chunk"), first_value-rows f (codes "path"))
    (ap (λ rows. option_and_then (λ (rs : List Row). cat_at (first_of (codes "chunk") rs) (first_of (codes "path") rs)) rows) is)

pub run_read : (words : List Text) (f : Found) (most : Option Text) → Some (rows_of f) ≡ rows_read run_app words → most ≡ first_value f (codes "max-open") → run_at most ≡ run_of words
run_read words f most is m = rw (m, first_value-rows f (codes "max-open")) (ap (λ rows. option_and_then (λ (rs : List Row). run_at (first_of (codes "max-open") rs)) rows) is)

pub gen_read : (words : List Text) (f : Found) (seed streams lines : Option Text) → Some (rows_of f) ≡ rows_read gen_app words → seed ≡ first_value f (codes "seed") → streams ≡ first_value f (codes "streams")
    → lines ≡ first_value f (codes "lines") → gen_at seed streams lines ≡ gen_of words
gen_read words f seed streams lines is s n l =
    rw (s, n, l, first_value-rows f (codes "seed"), first_value-rows f (codes "streams"), first_value-rows f (codes "lines"))
    (ap (λ rows. option_and_then (λ (rs : List Row). gen_at (first_of (codes "seed") rs) (first_of (codes "streams") rs) (first_of (codes "lines") rs)) rows) is)

pub rotate_read : (words : List Text) (f : Found) (bytes path prefix : Option Text) → Some (rows_of f) ≡ rows_read rotate_app words → bytes ≡ first_value f (codes "bytes") → path ≡ first_value f (codes "path")
    → prefix ≡ first_value f (codes "prefix") → rotate_at bytes path prefix ≡ rotate_of words
rotate_read words f bytes path prefix is b p q =
    rw (b, p, q, first_value-rows f (codes "bytes"), first_value-rows f (codes "path"), first_value-rows f (codes "prefix"))
    (ap (λ rows. option_and_then (λ (rs : List Row). rotate_at (first_of (codes "bytes") rs) (first_of (codes "path") rs) (first_of (codes "prefix") rs)) rows) is)

pub tee_read : (words : List Text) (f : Found) (chunk path : Option Text) (branches : Option (List Text)) → Some (rows_of f) ≡ rows_read tee_app words → chunk ≡ first_value f (codes "chunk") → path ≡ first_value f (codes "path")
    → branches ≡ option_map raw_values (matched_of f (codes "steps")) → tee_at chunk path branches ≡ tee_of words
tee_read words f chunk path branches is c p b =
    rw (c, p, b, first_value-rows f (codes "chunk"), first_value-rows f (codes "path"), raw_values-rows f (codes "steps"))
    (ap (λ rows. option_and_then (λ (rs : List Row). tee_at (first_of (codes "chunk") rs) (first_of (codes "path") rs) (all_of (codes "steps") rs)) rows) is)

pub eval_read : (words : List Text) (f : Found) (jobs group path steps : Option Text) → Some (rows_of f) ≡ rows_read eval_app words → jobs ≡ first_value f (codes "jobs") → group ≡ first_value f (codes "group")
    → path ≡ first_value f (codes "path") → steps ≡ first_value f (codes "steps") → eval_at jobs group path steps ≡ eval_of words
eval_read words f jobs group path steps is j g p s =
    rw (j, g, p, s, first_value-rows f (codes "jobs"), first_value-rows f (codes "group"), first_value-rows f (codes "path"), first_value-rows f (codes "steps"))
    (ap (λ rows. option_and_then (λ (rs : List Row). eval_at (first_of (codes "jobs") rs) (first_of (codes "group") rs) (first_of (codes "path") rs) (first_of (codes "steps") rs)) rows) is)
