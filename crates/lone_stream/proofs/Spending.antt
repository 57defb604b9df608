-- What turns leave of the room.
use Rattle.std.proofs.Common.{arith}
use Rattle.pull_turns.specs.Around.{Around, Affords}
use Rattle.pull_turns.specs.Turned.{Spends, SpendsWithin}
use Rattle.pull_turns.specs.declared.rest.Rest.{Rest}

-- what is left needs some room still
pub spends_all : {F : Type 0} (a b : Around) (old new : Rest F) → Spends a b old new → SpendsWithin a b old
spends_all a b old new s = record { events = omega (arith, s.events); scopes = omega (arith, s.scopes); rows = omega (arith, s.rows) }

-- what closing a scope gives back is no use of room
pub spends_stopped : {F : Type 0} (a b c : Around) (old : Rest F) → SpendsWithin a b old → Affords b c → SpendsWithin a c old
spends_stopped a b c old s l = record { events = omega (arith, s.events, l.events); scopes = omega (arith, s.scopes, l.scopes); rows = omega (arith, s.rows, l.rows) }
