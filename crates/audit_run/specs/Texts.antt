-- Which texts of a source are judged.
use Rattle.std.specs.Prelude.{◌≡◌, ◌≢◌, ℕ, ◌+◌, ◌<◌, ◌≤◌, List, length}
use Rattle.device_port.specs.Source.{SourceTold}
use Rattle.res_ledger.specs.declared.event.Event.{Event}
use Rattle.res_ledger.specs.Limits.{IsLedger}
use Rattle.res_ledger.specs.Texts.{ledger_text}
use Rattle.ledger_text.specs.Reading.{IsFirstBadLine, IsSpelled}
use Rattle.source_input.specs.Input.{IsRead}
use Rattle.audit_run.specs.declared.reading.LedgerRefusal.{LedgerRefusal}
use Rattle.audit_run.specs.declared.reading.LedgerRefusal.TheVariants.{Size, Line, Count}

-- the most bytes that the text of a ledger has
abbrev pub most_text : ℕ
most_text = 524288

-- the most that are read of a source: so a text that is too long is told from one that isn't
abbrev pub most_read : ℕ
most_read = most_text + 1

-- the bytes are the text of this ledger, and few enough
abbrev pub IsTextOf : List ℕ → List Event → Type 0
IsTextOf bytes L = (length bytes ≤ most_text) × IsLedger L × (ledger_text L ≡ bytes)

-- why the bytes are the text of none: they are too many; this line is the first that isn't well spelled; or the head says so many events, and there are others
abbrev pub IsNoText : List ℕ → LedgerRefusal → Type 0
IsNoText bytes Size = most_text < length bytes
IsNoText bytes (Line i) = (length bytes ≤ most_text) × IsFirstBadLine bytes i
IsNoText bytes (Count said found) = (length bytes ≤ most_text) × IsSpelled bytes said found × (said ≢ found)

-- the source was read to its end or to that limit, and this is said of what it gave
abbrev pub ReadsText : SourceTold → SourceTold → (List ℕ → Type 0) → Type 0
ReadsText old new Says = (bytes : List ℕ) × IsRead most_read old new bytes × Says bytes
