-- How a verdict is told.
use Rattle.std.specs.Prelude.{ℕ, List, ◌++◌, codes, decimal}
use Rattle.ledger_verdict.specs.declared.verdict.Rule.TheVariants.{Legal, Ordered, Complete}
use Rattle.ledger_verdict.specs.declared.verdict.Verdict.{Verdict}
use Rattle.ledger_verdict.specs.declared.verdict.Verdict.TheVariants.{Clean, Broken}

-- the event at this place, from 0, breaks the rule of this name
abbrev pub place_line : ℕ → List ℕ → List ℕ
place_line i rule = codes "audit line " ++ decimal i ++ rule ++ codes "\n"

-- the line that is printed
abbrev pub verdict_line : Verdict → List ℕ
verdict_line Clean = codes "audit ok\n"
verdict_line (Broken i Legal) = place_line i (codes " legal")
verdict_line (Broken i Ordered) = place_line i (codes " ordered")
verdict_line (Broken i Complete) = codes "audit end complete\n"
