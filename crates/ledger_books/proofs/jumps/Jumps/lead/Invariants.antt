use Rattle.res_ledger.specs.Ledger.{LiesWithin}
use Rattle.ledger_books.specs.Jumps.{LeadsUp}
use Rattle.ledger_books.proofs.jumps.Jumps.lead.Given as goal

abbrev pub invariant-loop : goal.invariant-loop
invariant-loop l = LeadsUp l.self l.past × LiesWithin l.past l.by l.scope l.at
