-- Words that are read, and words that are refused.
use Rattle.std.specs.Prelude.{◌≡◌, ℕ, List, [], ◌∷◌, ◌++◌, codes, Ok, IsErr}
use Rattle.pipeline_desc.specs.declared.step.Step.{Step}
use Rattle.pipeline_desc.specs.declared.step.Step.TheVariants as step
use Rattle.pull_nodes.specs.declared.pipe.Pipe.{Pipe}
use Rattle.pull_nodes.specs.declared.pipe.Pipe.TheVariants as pipe
use Rattle.step_words.specs.Words.{steps_of}

abbrev pub piped : Pipe → Step
piped p = step.Pipe p

-- the word is refused
abbrev pub IsBad : List ℕ → Type 0
IsBad word = IsErr (steps_of word)

-- fifteen steps, each with a bar behind it
abbrev pub fifteen : List ℕ
fifteen = codes "upper|upper|upper|upper|upper|upper|upper|upper|upper|upper|upper|upper|upper|upper|upper|"

pub record AreRead : Type 0 where
  pub none : steps_of [] ≡ Ok []
  pub one : steps_of (codes "lines") ≡ Ok (piped pipe.Lines ∷ [])
  pub two : steps_of (codes "lines|count") ≡ Ok (piped pipe.Lines ∷ piped pipe.Count ∷ [])
  pub with_texts : steps_of (codes "utf8|lines|filter a b|take 07") ≡ Ok (piped pipe.Utf8 ∷ piped pipe.Lines ∷ piped (pipe.Filter (codes "a b")) ∷ step.Take 7 ∷ [])
  pub empty_text : steps_of (codes "lines|intersperse |number") ≡ Ok (piped pipe.Lines ∷ piped (pipe.Intersperse []) ∷ piped pipe.Number ∷ [])
  pub other_bytes : steps_of (codes "lines|filter " ++ 255 ∷ []) ≡ Ok (piped pipe.Lines ∷ piped (pipe.Filter (255 ∷ [])) ∷ [])

pub record AreRefused : Type 0 where
  pub unknown : IsBad (codes "line")
  pub empty_part : IsBad (codes "lines|")
  pub only_bar : IsBad (codes "|")
  pub first_empty : IsBad (codes "|lines")
  pub too_far : IsBad (codes "chunk 65")
  pub without_table : IsBad (codes "csv|lookup t 0")
  pub bar_in_text : IsBad (codes "lines|filter a|b")
  pub clash : IsBad (codes "field 0")
  pub later_clash : IsBad (codes "lines|utf8")
  pub twice_between : IsBad (codes "lines|intersperse a|intersperse b")
  pub seventeen : IsBad (fifteen ++ codes "upper|upper")

-- sixteen are not too many
abbrev pub IsSixteenRead : Type 0
IsSixteenRead = IsErr (steps_of (fifteen ++ codes "upper")) → ⊥
