-- What was handed to a seat and ended there.
use Rattle.std.specs.Prelude.{ℕ, Bool, List}
use Rattle.chunk_core.specs.declared.code.Exit.{Exit}
use Rattle.chunk_core.specs.Lists.{IsAmong}
use Rattle.scope_tree.specs.declared.branch.Spent.{Spent}

-- the row of x was handed over with a payload that was finished into that of x, as x says
abbrev pub WasGiven : {P : Type 0} → (P → Exit → Bool → P → Type 0) → List (ℕ × P) → Spent P → Type 0
WasGiven {P} ends given x = (p : P) × IsAmong (x.row, p) given × ends p x.exit x.ok x.pay
