-- The ways up from scopes.
use Rattle.std.specs.Prelude.{◌≡◌, ℕ, Option, Some, List}
use Rattle.std.specs.HashMap.{get}
use Rattle.res_ledger.specs.declared.event.StreamNo.{StreamNo}
use Rattle.res_ledger.specs.declared.event.Event.{Event}
use Rattle.res_ledger.specs.Ledger.{LiesWithin}
use Rattle.ledger_books.specs.declared.index.Key.{Key}
use Rattle.ledger_books.specs.declared.index.Key.TheVariants.{Opened}
use Rattle.ledger_books.specs.declared.jumps.Jump.{Jump}
use Rattle.ledger_books.specs.declared.jumps.Jumps.{Jumps}
use Rattle.ledger_books.specs.Key.{same_key}
use Rattle.ledger_books.specs.Keyed.{number_of}

-- the way up from what has this key
abbrev pub jump_of : Jumps → Key → Option Jump
jump_of x q = get same_key x.at q

-- each way leads up, by what is opened in P
abbrev pub LeadsUp : Jumps → List Event → Type 0
LeadsUp x P = (k : StreamNo) (s : ℕ) (j : Jump) → jump_of x (Opened (number_of k) s) ≡ Some j → LiesWithin P k s j.parent × LiesWithin P k s j.above
