-- The text of a ledger.
use Rattle.std.specs.Prelude.{true, false, ℕ, List, ◌++◌, length, flat_map, codes, decimal}
use Rattle.chunk_core.specs.Texts.{exit_text}
use Rattle.res_ledger.specs.declared.event.Event.{Event}
use Rattle.res_ledger.specs.declared.event.StreamNo.{StreamNo}
use Rattle.res_ledger.specs.declared.event.StreamNo.TheVariants.{Outer, Inner}
use Rattle.res_ledger.specs.declared.event.What.{What}
use Rattle.res_ledger.specs.declared.event.What.TheVariants.{Open, Acquire, Lease, Cancel, Close, Final}

-- the name of a stream
abbrev pub name_text : StreamNo → List ℕ
name_text Outer = codes "outer"
name_text (Inner k) = decimal k

-- one line of a ledger's text, without the stream and without its end
abbrev pub what_text : What → List ℕ
what_text (Open s p) = codes "open " ++ decimal s ++ codes " " ++ decimal p
what_text (Acquire r s) = codes "acquire " ++ decimal r ++ codes " " ++ decimal s
what_text (Lease j s) = codes "lease " ++ decimal j ++ codes " " ++ decimal s
what_text (Cancel j x) = codes "cancel " ++ decimal j ++ codes " " ++ exit_text x
what_text (Close s x) = codes "close " ++ decimal s ++ codes " " ++ exit_text x
what_text (Final r x true) = codes "final " ++ decimal r ++ codes " " ++ exit_text x ++ codes " ok"
what_text (Final r x false) = codes "final " ++ decimal r ++ codes " " ++ exit_text x ++ codes " fault"

-- one line of a ledger's text
abbrev pub event_line : Event → List ℕ
event_line e = name_text e.by ++ codes " " ++ what_text e.what ++ codes "\n"

-- the number of events, and a line for each
abbrev pub ledger_text : List Event → List ℕ
ledger_text L = codes "ledger " ++ decimal (length L) ++ codes "\n" ++ flat_map event_line L
