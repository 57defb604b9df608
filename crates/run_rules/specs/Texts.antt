-- What is printed behind the frames.
use Rattle.std.specs.Prelude.{ℕ, List, ◌++◌, flat_map, codes}
use Rattle.chunk_core.specs.Texts.{how_text}
use Rattle.res_ledger.specs.declared.event.Event.{Event}
use Rattle.res_ledger.specs.Texts.{name_text, ledger_text}
use Rattle.run_rules.specs.declared.end.EndOf.{EndOf}

-- how one stream ended
abbrev pub end_line : EndOf → List ℕ
end_line e = codes "end " ++ name_text e.who ++ codes " " ++ how_text e.how ++ codes "\n"

-- the end lines, and the ledger's text
abbrev pub tail_text : List EndOf → List Event → List ℕ
tail_text ends L = flat_map end_line ends ++ ledger_text L
