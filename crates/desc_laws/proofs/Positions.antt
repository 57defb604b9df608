-- The positions of refusals, whose type is pipeline_desc's own: as its definitions name them.
use Rattle.std.proofs.Common.{◌≡◌, ℕ, List, length, Option, Ok, refl, nat_le}
use Rattle.toml.specs.Data.{Data, as_table}
use Rattle.pipeline_desc.specs.Limits.{is_another_stream}
use Rattle.pipeline_desc.specs.Reading.{◌>>=◌, passes}
use Rattle.pipeline_desc.specs.Meant.{SettingMeant}
use Rattle.pipeline_desc.specs.Steps.{before_space, behind_space, step_meant, step_named}
use Rattle.pipeline_desc.specs.Streams.{until_meant}
use Rattle.pipeline_desc.specs.Values.{list_at, number_or, tables_at}
use Rattle.pipeline_desc.specs.declared.refusal.RefusalKind.TheVariants as refused

-- where no number is told
abbrev pub at_top : (position : _) × ((d : Option Data) → tables_at 8 d ≡ (list_at as_table position d >>= (λ tables. passes (nat_le (length tables) 8) refused.OutOfRange position >>= (λ _. Ok tables))))
at_top = (_, λ d. refl)

-- where that of stream k is told
abbrev pub at_stream : (k : ℕ) → (position : _) × ((count : ℕ) (d : Data) → until_meant count k d ≡ number_or refused.BadUntil (is_another_stream count k) position d)
at_stream k = (_, λ count d. refl)

-- where that of step i of it is told too
abbrev pub at_step : (k i : ℕ) → (position : _) × ((setting : SettingMeant) (word : List ℕ) → step_meant setting k i word ≡ step_named setting.tables position (before_space word) (behind_space word))
at_step k i = (_, λ setting word. refl)
