-- What the words of a command line mean, by what `clap` says of a simple command for each.
use Rattle.std.specs.Prelude.{◌≢◌, ℕ, ◌+◌, ◌<◌, ◌≤◌, Bool, true, false, not, ◌&&◌, List, [], ◌∷◌, ◌++◌, length, drop, nat_le, nat_lt, Option, Some, None, option_and_then, option_map, IfSome, if◌then◌else◌, codes, decimal}
use Rattle.std.specs.Str.{bytes_eq}
use Rattle.clap.specs.Words.{App, Row, Rule, Text, all_of, fault_of, first_of, matches_of, new_app, new_rule, with_rule}
use Rattle.clap.specs.declared.builder.action.ArgAction.TheVariants.{Append}
use Rattle.clap.specs.Simple.{on_top}
use Rattle.clap.specs.Walk.{is_empty}
use Rattle.command_words.specs.Numbers.{number_in_word, number_of}
use Rattle.command_words.specs.declared.asked.Asked.{Asked}
use Rattle.command_words.specs.declared.asked.Asked.TheVariants.{Cat, Run, Gen, Audit, Rotate, Tee, Eval}

-- what a command matches in the words, unless it refuses them
abbrev pub rows_read : App → List Text → Option (List Row)
rows_read app words = if is_empty (fault_of app words) then Some (matches_of app words) else None

-- a command of this name that gives no help
abbrev pub silent_app : Text → App
silent_app name = on_top (λ s. record s { disable_help_flag = true }) (new_app name)

-- an option of this name, with a value
abbrev pub option_rule : Text → Rule
option_rule name = record (new_rule name) { long = Some name }

-- an option that has to stand
abbrev pub needed_rule : Text → Rule
needed_rule name = record (option_rule name) { required = true }

-- a word that has to stand
abbrev pub word_rule : Text → Rule
word_rule name = record (new_rule name) { required = true }

-- words of which one has to stand
abbrev pub words_rule : Text → Rule
words_rule name = record (word_rule name) { action = Some Append }

-- cat [--chunk N] PATH
abbrev pub cat_app : App
cat_app = with_rule (with_rule (silent_app (codes "cat")) (option_rule (codes "chunk"))) (word_rule (codes "path"))

-- run [--max-open N]
abbrev pub run_app : App
run_app = with_rule (silent_app (codes "run")) (option_rule (codes "max-open"))

-- gen SEED STREAMS LINES
abbrev pub gen_app : App
gen_app = with_rule (with_rule (with_rule (silent_app (codes "gen")) (word_rule (codes "seed"))) (word_rule (codes "streams"))) (word_rule (codes "lines"))

-- audit
abbrev pub audit_app : App
audit_app = silent_app (codes "audit")

-- rotate --bytes N PATH PREFIX
abbrev pub rotate_app : App
rotate_app = with_rule (with_rule (with_rule (silent_app (codes "rotate")) (needed_rule (codes "bytes"))) (word_rule (codes "path"))) (word_rule (codes "prefix"))

-- tee [--chunk N] PATH STEPS ..
abbrev pub tee_app : App
tee_app = with_rule (with_rule (with_rule (silent_app (codes "tee")) (option_rule (codes "chunk"))) (word_rule (codes "path"))) (words_rule (codes "steps"))

-- eval [--jobs N] [--group G] PATH STEPS
abbrev pub eval_numbers : App
eval_numbers = with_rule (with_rule (silent_app (codes "eval")) (option_rule (codes "jobs"))) (option_rule (codes "group"))

abbrev pub eval_app : App
eval_app = with_rule (with_rule eval_numbers (word_rule (codes "path"))) (word_rule (codes "steps"))

-- a path of 1 to 1,024 bytes
abbrev pub is_file_path : Text → Bool
is_file_path path = nat_le 1 (length path) && nat_le (length path) 1024

-- how many bytes a frame has at most, by the text of the option
abbrev pub chunk_of : Option Text → Option ℕ
chunk_of None = Some 4096
chunk_of (Some text) = number_in_word 1 65536 text

-- one file, by the texts of the option and of the path
abbrev pub cat_at : Option Text → Option Text → Option Asked
cat_at chunk None = None
cat_at chunk (Some path) = option_and_then (λ n. if is_file_path path then Some (Cat n path) else None) (chunk_of chunk)

-- a description, by the text of the option
abbrev pub run_at : Option Text → Option Asked
run_at None = Some (Run None)
run_at (Some text) = option_map (λ n. Run (Some n)) (number_in_word 1 64 text)

-- a case, by its three numbers
abbrev pub gen_of_numbers : Option ℕ → Option ℕ → Option ℕ → Option Asked
gen_of_numbers (Some seed) (Some streams) (Some lines) = Some (Gen seed streams lines)
gen_of_numbers (Some seed) (Some streams) None = None
gen_of_numbers (Some seed) None lines = None
gen_of_numbers None streams lines = None

-- a case, by the texts of its numbers
abbrev pub gen_at : Option Text → Option Text → Option Text → Option Asked
gen_at seed streams lines =
    gen_of_numbers (option_and_then (number_in_word 0 4294967295) seed) (option_and_then (number_in_word 1 64) streams) (option_and_then (number_in_word 0 100000) lines)

-- a prefix of 1 to 1,019 bytes
abbrev pub is_prefix : Text → Bool
is_prefix prefix = nat_le 1 (length prefix) && nat_le (length prefix) 1019

-- the most files that a rotation makes
abbrev pub most_files : ℕ
most_files = 1024

-- the name of file i
abbrev pub file_name : Text → ℕ → Text
file_name prefix i = prefix ++ (codes "." ++ decimal i)

-- this number is one of a file, and the path its name
abbrev pub names_file : Text → Text → ℕ → Bool
names_file prefix path i = nat_lt i most_files && bytes_eq path (file_name prefix i)

-- a file that the rotation may make has this name: the number is what stands behind the prefix and the dot
abbrev pub is_file_of : Text → Text → Bool
is_file_of prefix path = elim (number_of (drop (length prefix + 1) path)) [ Some i ↦ names_file prefix path i | None ↦ false ]

-- a rotation, by its number and its two words
abbrev pub rotation_of : ℕ → Text → Text → Option Asked
rotation_of n path prefix = if is_file_path path && is_prefix prefix && not (is_file_of prefix path) then Some (Rotate n path prefix) else None

-- a rotation, by the texts of the option and of the two words
abbrev pub rotate_at : Option Text → Option Text → Option Text → Option Asked
rotate_at bytes path prefix =
    option_and_then (λ n. option_and_then (λ p. option_and_then (λ q. rotation_of n p q) prefix) path) (option_and_then (number_in_word 1 1000000000) bytes)

-- branches of a file, by the number, the path and the words of their steps, of which there are 1 to 16
abbrev pub branches_of : ℕ → Text → List Text → Option Asked
branches_of n path branches = if is_file_path path && (nat_le 1 (length branches) && nat_le (length branches) 16) then Some (Tee n path branches) else None

-- branches of a file, by the texts of the option, of the path and of the words behind it
abbrev pub tee_at : Option Text → Option Text → Option (List Text) → Option Asked
tee_at chunk path branches = option_and_then (λ n. option_and_then (λ p. option_and_then (λ bs. branches_of n p bs) branches) path) (chunk_of chunk)

-- a number from low to high, by the text of its option, where a default stands for none
abbrev pub number_or : ℕ → ℕ → ℕ → Option Text → Option ℕ
number_or default low high None = Some default
number_or default low high (Some text) = number_in_word low high text

-- an evaluation of a file, by its numbers, the path and the word of its steps
abbrev pub evaluation_of : ℕ → ℕ → Text → Text → Option Asked
evaluation_of jobs group path steps = if is_file_path path then Some (Eval jobs group path steps) else None

-- an evaluation of a file, by the texts of the options and of the two words
abbrev pub eval_at : Option Text → Option Text → Option Text → Option Text → Option Asked
eval_at jobs group path steps =
    option_and_then (λ j. option_and_then (λ g. option_and_then (λ p. option_and_then (λ s. evaluation_of j g p s) steps) path) (number_or 256 1 65536 group)) (number_or 4 1 64 jobs)

-- what the words of `cat` ask for
abbrev pub cat_of : List Text → Option Asked
cat_of words = option_and_then (λ rows. cat_at (first_of (codes "chunk") rows) (first_of (codes "path") rows)) (rows_read cat_app words)

-- what the words of `run` ask for
abbrev pub run_of : List Text → Option Asked
run_of words = option_and_then (λ rows. run_at (first_of (codes "max-open") rows)) (rows_read run_app words)

-- what the words of `gen` ask for
abbrev pub gen_of : List Text → Option Asked
gen_of words = option_and_then (λ rows. gen_at (first_of (codes "seed") rows) (first_of (codes "streams") rows) (first_of (codes "lines") rows)) (rows_read gen_app words)

-- what the words of `audit` ask for
abbrev pub audit_of : List Text → Option Asked
audit_of words = option_map (λ rows. Audit) (rows_read audit_app words)

-- what the words of `rotate` ask for
abbrev pub rotate_of : List Text → Option Asked
rotate_of words = option_and_then (λ rows. rotate_at (first_of (codes "bytes") rows) (first_of (codes "path") rows) (first_of (codes "prefix") rows)) (rows_read rotate_app words)

-- what the words of `tee` ask for
abbrev pub tee_of : List Text → Option Asked
tee_of words = option_and_then (λ rows. tee_at (first_of (codes "chunk") rows) (first_of (codes "path") rows) (all_of (codes "steps") rows)) (rows_read tee_app words)

-- what the words of `eval` ask for
abbrev pub eval_of : List Text → Option Asked
eval_of words = option_and_then (λ rows. eval_at (first_of (codes "jobs") rows) (first_of (codes "group") rows) (first_of (codes "path") rows) (first_of (codes "steps") rows)) (rows_read eval_app words)

-- what the words ask for; the first one names the command
abbrev pub command_of : List Text → Option Asked
command_of [] = None
command_of (name ∷ rest) =
    if bytes_eq name (codes "cat") then cat_of (name ∷ rest) else (if bytes_eq name (codes "run") then run_of (name ∷ rest) else (if bytes_eq name (codes "gen") then gen_of (name ∷ rest) else (if bytes_eq name (codes "audit") then audit_of (name ∷ rest) else (if bytes_eq name (codes "rotate") then rotate_of (name ∷ rest) else (if bytes_eq name (codes "tee") then tee_of (name ∷ rest) else (if bytes_eq name (codes "eval") then eval_of (name ∷ rest) else None))))))

-- each file has bytes, the words are as long as they may be, and no file that is made is the one that is read
pub record MayRotate (bytes : ℕ) (path prefix : Text) : Type 0 where
  pub some : 1 ≤ bytes
  pub most : bytes ≤ 1000000000
  pub path_size : (1 ≤ length path) × (length path ≤ 1024)
  pub prefix_size : (1 ≤ length prefix) × (length prefix ≤ 1019)
  pub apart : (i : ℕ) → i < most_files → path ≢ file_name prefix i

-- what is asked for is within its limits
abbrev pub IsLimited : Asked → Type 0
IsLimited (Cat chunk path) = (1 ≤ chunk) × (chunk ≤ 65536)
IsLimited (Run most) = IfSome most (λ n. (1 ≤ n) × (n ≤ 64))
IsLimited (Gen seed streams lines) = (seed ≤ 4294967295) × (1 ≤ streams) × (streams ≤ 64) × (lines ≤ 100000)
IsLimited Audit = Unit {0}
IsLimited (Rotate bytes path prefix) = MayRotate bytes path prefix
IsLimited (Tee chunk path branches) = (1 ≤ chunk) × (chunk ≤ 65536) × (1 ≤ length branches) × (length branches ≤ 16)
IsLimited (Eval jobs group path steps) = (1 ≤ jobs) × (jobs ≤ 64) × (1 ≤ group) × (group ≤ 65536)
