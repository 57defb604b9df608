-- Rooms of seats for the scopes of a ledger.
use Rattle.std.specs.Prelude.{ℕ, Option, unwrap_or}
use Rattle.std.specs.HashMap.{get}
use Rattle.ledger_books.specs.declared.index.Key.TheVariants.{Leased, Opened}
use Rattle.ledger_books.specs.declared.rooms.Room.{Room}
use Rattle.ledger_books.specs.declared.rooms.Rooms.{Rooms}
use Rattle.ledger_books.specs.Key.{place_of, same_key}

-- the room of the scope s of the stream with number k
abbrev pub room_of : Rooms → ℕ → ℕ → Room
room_of x k s = unwrap_or (get same_key x.at (Opened k s)) (record { parent = 0; from = 0; to = 0 })

-- the seat of the lease for j
abbrev pub seat_of : Rooms → ℕ → Option ℕ
seat_of x j = place_of x.seats (Leased j)
