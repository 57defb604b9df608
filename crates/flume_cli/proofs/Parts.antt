-- Which part of the headline tells of a call.
use Rattle.std.proofs.Common.{◌≡◌, Bool, true, false, Option, Some, inl, inr, sym, ◌∙◌, ap}
use Rattle.std.proofs.lemmas.Bool.{false≢true}
use Rattle.command_words.specs.Words.{command_of}
use Rattle.command_words.specs.declared.asked.Asked.{Asked}
use Rattle.command_words.specs.declared.asked.Asked.TheVariants.{Audit}
use Rattle.flume_cli.specs.Headline.{Call, Headline, RunsStreams}

-- an audit is asked for
abbrev pub asks_audit : Option Asked → Bool
asks_audit (Some Audit) = true
asks_audit asked = false

-- a call of other words runs streams, or does nothing
pub runs_streams : (c : Call) (asked : Option Asked) → command_of c.words ≡ asked → asks_audit asked ≡ false → Headline c → RunsStreams c
runs_streams c asked is other (inl r) = r
runs_streams c asked is other (inr a) = absurd (false≢true (sym other ∙ ap asks_audit (sym is ∙ a.asked)))
