-- What holds of the words and of all views between any two steps.
use Rattle.std.specs.Prelude.{◌≡◌, ℕ, ◌≤◌, ◌&&◌, not, true, false, if◌then◌else◌, List, length, slice_index}
use Rattle.chunk_core.specs.Totals.{IsAt, total}
use Rattle.interrupt_ctx.specs.declared.view.View.{View}
use Rattle.interrupt_ctx.specs.declared.why.Stop.{Stop}
use Rattle.interrupt_ctx.specs.Codes.{IsWord, code_of}
use Rattle.interrupt_ctx.specs.Views.{Knows, context_times, blank_view}

-- how often a seat has set the context
abbrev pub sets_of : ℕ → View → ℕ
sets_of context v = context_times context v.set

-- 1 for the first seat
abbrev pub first_count : View → ℕ
first_count v = if v.first then 1 else 0

-- 1 for another seat in use
abbrev pub out_count : View → ℕ
out_count v = if v.live && not v.first then 1 else 0

-- a word is 0 or a code; an interrupted context stands once in what all seats together have set; what a seat has set or seen is the word
pub record WordsAgree (contexts : ℕ) (words : List ℕ) (views : List View) : Type 0 where
  pub count : length words ≡ contexts
  pub coded : (context : ℕ) → IsWord (slice_index words context)
  pub once : (context : ℕ) → 1 ≤ slice_index words context → total (sets_of context) views ≡ 1
  pub told : (i : ℕ) (v : View) → IsAt views i v → (context : ℕ) (stop : Stop) → Knows v context stop → slice_index words context ≡ code_of stop

-- there is one first seat, which knows how many others are in use; a seat that is no longer in use has nothing
pub record SeatsAgree (views : List View) : Type 0 where
  pub one : total first_count views ≡ 1
  pub out : (i : ℕ) (v : View) → IsAt views i v → v.first ≡ true → v.out ≡ total out_count views
  pub taken_in : (i : ℕ) (v : View) → IsAt views i v → v.live ≡ false → v ≡ blank_view

-- the rule of a board with so many contexts
pub record BoardRule (contexts : ℕ) (words : List ℕ) (views : List View) : Type 0 where
  pub words_agree : WordsAgree contexts words views
  pub seats_agree : SeatsAgree views
