-- How the parts of a word are read one after another.
use Rattle.std.proofs.Common.{◌≡◌, ℕ, true, List, [], ◌∷◌, ◌++◌, Option, Some, None, Result, Ok, Err, IsErrAnd, refl, ap, ◌∙◌, sym, subst, append_assoc, append-nil}
use Rattle.std.proofs.lemmas.Bool.{false≢true}
use Rattle.std.specs.Prelude.{IsErr}
use Rattle.pipeline_desc.specs.Reading.{Reading, ◌>>=◌, RefusesAs}
use Rattle.pipeline_desc.specs.Sound.{is_sound_step}
use Rattle.pipeline_desc.specs.Steps.{step_meant}
use Rattle.pipeline_desc.specs.declared.refusal.Refused.{Refused}
use Rattle.pipeline_desc.specs.declared.refusal.Refused.TheVariants as refused
use Rattle.pipeline_desc.specs.declared.step.Step.{Step}
use Rattle.pipeline_desc.specs.declared.step.Step.TheVariants as step
use Rattle.pipeline_desc.proofs.Each.{after}
use Rattle.pull_nodes.specs.declared.pipe.Pipe.TheVariants as pipe
use Rattle.step_words.specs.Words.{Reads, each_meant, needs_no_table, no_setting, refused_as}
use Rattle.step_words.specs.declared.word.StepsRefused.{StepsRefused}
use Rattle.step_words.specs.declared.word.StepsRefused.TheVariants as steps_refused

after_one : (found : List Step) (s : Step) (reading : Reading (List Step)) → after found (reading >>= (λ steps. Ok (s ∷ steps))) ≡ after (found ++ s ∷ []) reading
after_one found s (Ok steps) = ap (λ (z : List Step). Ok z) (sym (append_assoc found (s ∷ []) steps))
after_one found s (Err e) = refl

module _ (whole : Reading (List Step)) (found : List Step) (parts : List (List ℕ)) (so_far : whole ≡ after found (each_meant parts)) (part : List ℕ) (rest : List (List ℕ)) (first : parts ≡ part ∷ rest) where
  here : whole ≡ after found (step_meant no_setting 0 0 part >>= (λ s. each_meant rest >>= (λ steps. Ok (s ∷ steps))))
  here = so_far ∙ ap (λ ps. after found (each_meant ps)) first

  -- one more part
  pub part_read : (s : Step) → step_meant no_setting 0 0 part ≡ Ok s → whole ≡ after (found ++ s ∷ []) (each_meant rest)
  part_read s is = here ∙ (ap (λ r. after found (r >>= (λ z. each_meant rest >>= (λ steps. Ok (z ∷ steps))))) is ∙ after_one found s (each_meant rest))

  -- a part that is refused
  pub part_fails : (e : Refused) → RefusesAs e (step_meant no_setting 0 0 part) → RefusesAs e whole
  part_fails refused.Memory h = tt
  part_fails (refused.Desc e) h = here ∙ ap (λ r. after found (r >>= (λ z. each_meant rest >>= (λ steps. Ok (z ∷ steps))))) h

-- no part is left
pub parts_end : (whole : Reading (List Step)) (found : List Step) → whole ≡ after found (each_meant []) → whole ≡ Ok found
parts_end whole found so_far = so_far ∙ ap (λ (z : List Step). Ok z) (append-nil found)

-- beside no tables a step within its limits looks nothing up
pub looks_nothing_up : (s : Step) → is_sound_step [] s ≡ true → needs_no_table s ≡ true
looks_nothing_up (step.Take n) h = refl
looks_nothing_up (step.Pipe (pipe.Lookup t i)) h = absurd (false≢true h)
looks_nothing_up (step.Pipe _) h = refl

-- the failure of a description is that of a word
pub refused_word : (answer : Result (List Step) StepsRefused) (r : Refused) (meant : Reading (List Step)) → IsErrAnd answer (λ e. e ≡ refused_as r) → RefusesAs r meant → Reads answer meant
refused_word (Ok steps) r meant is h = absurd is
refused_word (Err e) r meant is h = subst (λ d. Reads (Err d) meant) (sym is) (go r h)
  where
    go : (r : Refused) → RefusesAs r meant → Reads (Err (refused_as r)) meant
    go refused.Memory h = tt
    go (refused.Desc d) h = subst IsErr (sym h) refl
