-- The numbers that a board keeps.
use Rattle.std.specs.Prelude.{◌≡◌, ℕ, ◌+◌, ◌*◌, Option, Some, None}
use Rattle.interrupt_ctx.specs.declared.why.Stop.{Stop}
use Rattle.interrupt_ctx.specs.declared.why.Why.{Why}
use Rattle.interrupt_ctx.specs.declared.why.Why.TheVariants.{Take, Until, Sink, Memory, Fault}

-- the number of each cause
abbrev pub why_code : Why → ℕ
why_code Take = 1
why_code Until = 2
why_code Sink = 3
why_code Memory = 4
why_code Fault = 5

-- 0 where there is no cause
abbrev pub why_word : Option Why → ℕ
why_word None = 0
why_word (Some why) = why_code why

-- the code of an interruption: the number of its cause, and 8 times its place in the ledger
abbrev pub code_of : Stop → ℕ
code_of stop = stop.at * 8 + why_code stop.why

-- the word of a context that wasn't interrupted, or was
abbrev pub word_of : Option Stop → ℕ
word_of None = 0
word_of (Some stop) = code_of stop

-- it is 0 or a code
abbrev pub IsWord : ℕ → Type 0
IsWord n = (found : Option Stop) × (n ≡ word_of found)
