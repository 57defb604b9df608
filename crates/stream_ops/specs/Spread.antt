-- Elements with a line between, of an input that comes in parts.
use Rattle.std.specs.Prelude.{ℕ, Bool, true, false, List, [], ◌∷◌}
use Rattle.std.specs.List.{flat_map}
use Rattle.chunk_core.specs.Elements.{Element, Line}
use Rattle.pull_nodes.specs.Intersperse.{with_between}

-- the list isn't empty
abbrev pub is_any : {A : Type 0} → List A → Bool
is_any [] = false
is_any (x ∷ xs) = true

-- each element behind the line, and the first one too where others came before
abbrev pub spread : Bool → List ℕ → List Element → List Element
spread true line xs = flat_map (λ y. Line line ∷ y ∷ []) xs
spread false line xs = with_between line xs
