-- Answers that are written out.
use Rattle.std.specs.Prelude.{◌≡◌, ℕ, List, [], ◌∷◌, ◌++◌, map, codes}
use Rattle.chunk_core.specs.Elements.{Element, Line}
use Rattle.chunk_core.specs.Outcomes.{Cut, Done, End, Fault}
use Rattle.chunk_core.specs.Texts.{Frame}
use Rattle.chunk_core.specs.declared.code.Code.TheVariants as code
use Rattle.pipeline_desc.specs.declared.step.Step.{Step}
use Rattle.pipeline_desc.specs.declared.step.Step.TheVariants as step
use Rattle.pull_nodes.specs.declared.pipe.Pipe.{Pipe}
use Rattle.pull_nodes.specs.declared.pipe.Pipe.TheVariants as pipe
use Rattle.eval_rules.specs.Answers.{Answer, answer_of, answer_to, groups_of}

abbrev pub piped : Pipe → Step
piped p = step.Pipe p

abbrev pub answer : List (List ℕ) → End → Answer
answer texts e = record { frames = map (λ p. let f : Frame = record { stream = 0; payload = p } in f) texts; end = e }

abbrev pub lines : List (List ℕ) → List Element
lines ls = map Line ls

-- lines that hold an x, each behind its number
abbrev pub numbered : List Step
numbered = piped pipe.Lines ∷ piped (pipe.Filter (codes "x")) ∷ piped pipe.Number ∷ []

-- the second field
abbrev pub second_field : List Step
second_field = piped pipe.Csv ∷ piped (pipe.Field 1) ∷ []

pub record AreWorked : Type 0 where
  pub groups : groups_of 2 (lines (codes "a" ∷ codes "b" ∷ codes "c" ∷ [])) ≡ lines (codes "a" ∷ codes "b" ∷ []) ∷ lines (codes "c" ∷ []) ∷ []
  pub no_groups : groups_of 2 [] ≡ []
  -- each group begins with the number 0
  pub numbers : answer_to numbered 2 (codes "x1\ny\nx2\n") ≡ answer (codes "0 x1\n" ∷ codes "0 x2\n" ∷ []) Done
  -- a group of which nothing comes has no frame
  pub empty : answer_to numbered 1 (codes "y\nx1") ≡ answer (codes "0 x1\n" ∷ []) Done
  -- what comes behind the first group that fails isn't printed
  pub fields : answer_to second_field 1 (codes "p,q\nr\ns,t\n") ≡ answer (codes "q\n" ∷ []) (Fault code.NoField)
  pub malformed : answer_to (piped pipe.Utf8 ∷ []) 1 (codes "a\n" ++ 255 ∷ 10 ∷ codes "b\n") ≡ answer (codes "a\n" ∷ []) (Fault code.Malformed)
  -- the lines that came before a fault of the file are answered
  pub before_a_fault : answer_of [] 2 (lines (codes "a" ∷ [])) (Fault code.Read) ≡ answer (codes "a\n" ∷ []) (Fault code.Read)
  pub nothing : answer_to numbered 2 [] ≡ answer [] Done
