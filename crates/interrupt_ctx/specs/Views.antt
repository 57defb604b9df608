-- What a seat knows, and what each call does to it.
use Rattle.std.specs.Prelude.{◌≡◌, ◌⊎◌, ℕ, ◌+◌, ◌-◌, ◌≤◌, ◌==◌, true, false, if◌then◌else◌, List, [], ◌∷◌, ◌++◌, Option, Some, None}
use Rattle.chunk_core.specs.Lists.{IsAmong}
use Rattle.chunk_core.specs.Totals.{total}
use Rattle.interrupt_ctx.specs.declared.view.Interruption.{Interruption}
use Rattle.interrupt_ctx.specs.declared.view.Look.{Look}
use Rattle.interrupt_ctx.specs.declared.view.View.{View}
use Rattle.interrupt_ctx.specs.declared.why.Stop.{Stop}

-- a context with the cause of its interruption
abbrev pub interruption : ℕ → Stop → Interruption
interruption context stop = record { context = context; stop = stop }

-- before the first look
abbrev pub no_look : Look
no_look = record { context = 0; own = None; root = None }

-- the seat that comes with a board
abbrev pub first_view : View
first_view = record { first = true; live = true; set = []; seen = []; out = 0; looks = 0; last = no_look }

-- a seat that was taken in: it has nothing
abbrev pub blank_view : View
blank_view = record { first = false; live = false; set = []; seen = []; out = 0; looks = 0; last = no_look }

-- the first seat where one more is out
abbrev pub giving : View → View
giving v = record v { out = v.out + 1 }

-- a seat that has seen what another knows, and has set nothing
abbrev pub split_off : View → View
split_off v = record { first = false; live = true; set = []; seen = v.set ++ v.seen; out = 0; looks = 0; last = no_look }

-- the first seat with what another has set and seen, where one less is out
abbrev pub joined : View → View → View
joined v w = record v { set = v.set ++ w.set; seen = v.seen ++ w.seen; out = v.out - 1 }

-- one interruption more was set
abbrev pub with_set : View → ℕ → Stop → View
with_set v context stop = record v { set = v.set ++ interruption context stop ∷ [] }

-- what was found in a context is noted, where there is something
abbrev pub noted : List Interruption → ℕ → Option Stop → List Interruption
noted seen context None = seen
noted seen context (Some stop) = seen ++ interruption context stop ∷ []

-- it was seen
abbrev pub with_seen : View → ℕ → Option Stop → View
with_seen v context found = record v { seen = noted v.seen context found }

-- one look more, at this context, which found so much in its own word and in that of context 0
abbrev pub after_look : View → ℕ → Option Stop → Option Stop → View
after_look v context own root = record v { seen = noted (noted v.seen context own) 0 root; looks = v.looks + 1; last = record { context = context; own = own; root = root } }

-- the seat has set or seen that the context was interrupted for this cause
abbrev pub Knows : View → ℕ → Stop → Type 0
Knows v context stop = IsAmong (interruption context stop) v.set ⊎ IsAmong (interruption context stop) v.seen

-- what the seat knows of the context is what was found there
abbrev pub FindsKnown : View → ℕ → Option Stop → Type 0
FindsKnown v context found = (stop : Stop) → Knows v context stop → found ≡ Some stop

-- if this is the first seat and no other is out, what was found in the context is what it has set or taken in as set
abbrev pub IsOwn : View → ℕ → Option Stop → Type 0
IsOwn v context found = v.first ≡ true → v.out ≡ 0 → (stop : Stop) → found ≡ Some stop → IsAmong (interruption context stop) v.set

-- all that the seat knows of it has set or taken in as set
abbrev pub HasSetAll : View → Type 0
HasSetAll v = (context : ℕ) (stop : Stop) → Knows v context stop → IsAmong (interruption context stop) v.set

-- how often the context stands in the list
abbrev pub context_times : ℕ → List Interruption → ℕ
context_times context xs = total (λ (x : Interruption). if x.context == context then 1 else 0) xs

-- a context is interrupted for one cause, and was set once
pub record IsOfOneBoard (v : View) : Type 0 where
  pub one_cause : (context : ℕ) (stop other : Stop) → Knows v context stop → Knows v context other → stop ≡ other
  pub set_once : (context : ℕ) → context_times context v.set ≤ 1
