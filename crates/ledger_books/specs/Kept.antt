-- What an audit keeps of the events so far.
use Rattle.std.specs.Prelude.{List}
use Rattle.res_ledger.specs.declared.event.Event.{Event}
use Rattle.ledger_books.specs.declared.books.Books.{Books}
use Rattle.ledger_books.specs.Keyed.{IsFirst, Indexes, Listed, is_acquire, is_lease}
use Rattle.ledger_books.specs.Ends.{Foresees, Foretells}
use Rattle.ledger_books.specs.Jumps.{LeadsUp}
use Rattle.ledger_books.specs.Lasts.{HasLasts}
use Rattle.ledger_books.specs.Waits.{HasWaits}

-- what an audit keeps of the events so far
pub record Keeps (b : Books) (P : List Event) : Type 0 where
  pub index : Indexes b.index P
  pub jumps : LeadsUp b.jumps P
  pub ends : Foretells b.ends P
  pub lasts : HasLasts b.lasts b.ends P
  pub waits : HasWaits b.waits P
  pub first : IsFirst b.index P
  pub leases : Listed is_lease b.leases.items P
  pub rows : Listed is_acquire b.rows.items P

-- what an audit of L keeps of its front P
abbrev pub Follows : Books → List Event → List Event → Type 0
Follows b L P = Keeps b P × Foresees b.ends L P
