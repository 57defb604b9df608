-- What a step tells the seat that makes it: the step's word is the context, and n is what it found there.
use Rattle.std.specs.Prelude.{◌≡◌, ℕ, ◌+◌, true, Option, Some, None}
use Rattle.atomic_table.specs.Table.{Me, Step}
use Rattle.interrupt_ctx.specs.declared.view.View.{View}
use Rattle.interrupt_ctx.specs.declared.why.Stop.{Stop}
use Rattle.interrupt_ctx.specs.Codes.{code_of, word_of}
use Rattle.interrupt_ctx.specs.Views.{FindsKnown, HasSetAll, IsOfOneBoard, IsOwn, with_seen, with_set}

-- what was found in the context, in agreement with what the seat knows of it
pub record Finds (me : Me ℕ View) (context n : ℕ) (found : Option Stop) : Type 0 where
  pub is : n ≡ word_of found
  pub known : FindsKnown me.0 context found
  pub own : IsOwn me.0 context found

-- where nothing was found the code was set, else what was found was seen
abbrev pub SetsOrSees : View → ℕ → ℕ → Option Stop → View → Type 0
SetsOrSees v context code None w = (stop : Stop) × (code ≡ code_of stop) × (w ≡ with_set v context stop)
SetsOrSees v context code (Some there) w = w ≡ with_seen v context (Some there)

-- the step of `set`
abbrev pub SetTells : Step ℕ → Me ℕ View → ℕ → Me ℕ View → Type 0
SetTells s me n after = (after.1 ≡ me.1) × ((found : Option Stop) × Finds me s.word n found × SetsOrSees me.0 s.word s.second found after.0)

-- a look that has loaded the context's own word
abbrev pub looked : View → ℕ → Option Stop → View
looked v context own = record (with_seen v context own) { looks = v.looks + 1; last = record { context = context; own = own; root = None } }

-- and then that of context 0
abbrev pub looked_up : View → Option Stop → View
looked_up v root = record (with_seen v 0 root) { last = record v.last { root = root } }

-- the first step of `look`
abbrev pub OwnTells : Step ℕ → Me ℕ View → ℕ → Me ℕ View → Type 0
OwnTells s me n after = (after.1 ≡ me.1) × ((found : Option Stop) × Finds me s.word n found × (after.0 ≡ looked me.0 s.word found))

-- the second one, whatever its word
abbrev pub RootTells : Step ℕ → Me ℕ View → ℕ → Me ℕ View → Type 0
RootTells s me n after = (after.1 ≡ me.1) × ((found : Option Stop) × Finds me 0 n found × (after.0 ≡ looked_up me.0 found))

-- the last step of `join`: the view stays, and tells of the whole board
abbrev pub LearnTells : Step ℕ → Me ℕ View → ℕ → Me ℕ View → Type 0
LearnTells s me n after = (after ≡ me) × IsOfOneBoard me.0 × (me.0.first ≡ true → me.0.out ≡ 0 → HasSetAll me.0)
