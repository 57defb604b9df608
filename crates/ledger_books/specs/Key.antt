-- The keys of an audit's index.
use Rattle.std.specs.Prelude.{ℕ, Bool, false, ◌&&◌, nat_eq, Option}
use Rattle.std.specs.HashMap.{get}
use Rattle.ledger_books.specs.declared.index.Index.{Index}
use Rattle.ledger_books.specs.declared.index.Key.{Key}
use Rattle.ledger_books.specs.declared.index.Key.TheVariants.{Begun, Opened, Closed, Acquired, Leased, Canceled, Finalized}

abbrev pub same_key : Key → Key → Bool
same_key (Begun k) (Begun l) = nat_eq k l
same_key (Opened k s) (Opened l t) = nat_eq k l && nat_eq s t
same_key (Closed k s) (Closed l t) = nat_eq k l && nat_eq s t
same_key (Acquired r) (Acquired q) = nat_eq r q
same_key (Leased r) (Leased q) = nat_eq r q
same_key (Canceled r) (Canceled q) = nat_eq r q
same_key (Finalized r) (Finalized q) = nat_eq r q
same_key a b = false

-- the place of the event that has this key
abbrev pub place_of : Index → Key → Option ℕ
place_of x q = get same_key x.at q
