-- Command lines that are written out.
use Rattle.std.specs.Prelude.{◌≡◌, ℕ, List, [], ◌∷◌, Some, None, if◌then◌else◌, nat_eq}
use Rattle.clap.specs.Words.{Text}
use Rattle.command_words.specs.declared.asked.Asked.{Asked}
use Rattle.command_words.specs.Words.{command_of}

-- a byte at the front of the first word
abbrev pub onto : ℕ → List Text → List Text
onto c [] = (c ∷ []) ∷ []
onto c (word ∷ words) = (c ∷ word) ∷ words

-- what stands between the spaces of a line
abbrev pub words_in : List ℕ → List Text
words_in [] = [] ∷ []
words_in (c ∷ cs) = if nat_eq c 32 then [] ∷ words_in cs else onto c (words_in cs)

-- the words of the line ask for this
abbrev pub Asks : List ℕ → Asked → Type 0
Asks line asked = command_of (words_in line) ≡ Some asked

-- the words of the line mean nothing
abbrev pub AsksNothing : List ℕ → Type 0
AsksNothing line = command_of (words_in line) ≡ None

-- a word of each byte
abbrev pub one_by_one : List ℕ → List Text
one_by_one [] = []
one_by_one (c ∷ cs) = (c ∷ []) ∷ one_by_one cs
