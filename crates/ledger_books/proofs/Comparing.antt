-- Keys are compared as they are told.
use Rattle.std.proofs.Common.{◌≡◌, refl}
use Rattle.ledger_books.specs.Key.{same_key}
use Rattle.ledger_books.specs.declared.index.Key.{Key}
use Rattle.ledger_books.specs.declared.index.Key.TheVariants.{Begun, Opened, Closed, Acquired, Leased, Canceled, Finalized}
use Rattle.ledger_books.specs.contracts.index.KeyPartialEq as derived

pub same_at : (k q : Key) → derived.TheImpl.ghosts.eq k q ≡ same_key k q
same_at (Begun k) (Begun l) = refl
same_at (Opened k s) (Opened l t) = refl
same_at (Closed k s) (Closed l t) = refl
same_at (Acquired r) (Acquired q) = refl
same_at (Leased r) (Leased q) = refl
same_at (Canceled r) (Canceled q) = refl
same_at (Finalized r) (Finalized q) = refl
same_at a b = refl
