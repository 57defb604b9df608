-- What each call says of the source of a description.
use Rattle.std.specs.Prelude.{◌≡◌, ◌≢◌, ◌⊎◌, ℕ, true, false, Option, Some}
use Rattle.device_port.specs.Source.{without_front}
use Rattle.command_words.specs.Words.{command_of}
use Rattle.command_words.specs.declared.asked.Asked.TheVariants.{Run}
use Rattle.flume_cli.specs.Input.{most_input}
use Rattle.flume_cli.specs.Status.{status_number}
use Rattle.flume_cli.specs.Headline.{Call, Headline}

-- the source told its end, or gave one byte more than a description may have
abbrev pub IsReadWhole : Call → Type 0
IsReadWhole c = (c.source_new.ended ≡ true) ⊎ (c.source_new ≡ record (without_front most_input c.source_old) { ended = false })

-- so it is for run, unless memory was wanting or a read failed
abbrev pub DescriptionsAreReadWhole : Type 0
DescriptionsAreReadWhole = (c : Call) (most : Option ℕ) → Headline c → command_of c.words ≡ Some (Run most) → status_number c.status ≢ 5 → status_number c.status ≢ 6 → IsReadWhole c
