-- The first flaw of a list that a description has.
use Rattle.std.specs.Prelude.{◌≡◌, ◌⊎◌, List, [], ◌∷◌}
use Rattle.pipeline_desc.specs.declared.refusal.Refusal.{Refusal}
use Rattle.desc_laws.specs.Flaws.{Flaw, refusal_for}

-- none of these flaws is there
abbrev pub NoneOf : (Flaw → Type 0) → List Flaw → Type 0
NoneOf Has [] = Unit {0}
NoneOf Has (f ∷ fs) = (Has f → ⊥) × NoneOf Has fs

-- one of these flaws is there, and of the first that is this is told
abbrev pub IsFirst : (Flaw → Type 0) → List Flaw → Refusal → Type 0
IsFirst Has [] r = ⊥
IsFirst Has (f ∷ fs) r = (Has f × (r ≡ refusal_for f)) ⊎ ((Has f → ⊥) × IsFirst Has fs r)
