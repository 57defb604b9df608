-- Ledgers in which a row is lent.
use Rattle.std.specs.Prelude.{true, List, [], ◌∷◌}
use Rattle.chunk_core.specs.declared.code.Exit.TheVariants.{Succeeded}
use Rattle.res_ledger.specs.declared.event.StreamNo.TheVariants.{Inner, Outer}
use Rattle.res_ledger.specs.declared.event.What.TheVariants.{Acquire, Cancel, Close, Final, Lease}
use Rattle.res_ledger.specs.declared.event.Event.{Event}
use Rattle.res_ledger.specs.Ledger.{stamped}

-- the lease covers row 0, which ends once it is canceled; row 1 was acquired after it
abbrev pub lent : List Event
lent = stamped 0 ((Outer, Acquire 0 0) ∷ (Outer, Lease 0 0) ∷ (Outer, Acquire 1 0) ∷ (Outer, Close 0 Succeeded) ∷ (Outer, Final 1 Succeeded true) ∷ (Inner 0, Cancel 0 Succeeded) ∷ (Inner 0, Final 0 Succeeded true) ∷ [])

-- the lease isn't canceled
abbrev pub kept : List Event
kept = stamped 0 ((Outer, Acquire 0 0) ∷ (Outer, Lease 0 0) ∷ (Outer, Acquire 1 0) ∷ (Outer, Close 0 Succeeded) ∷ (Outer, Final 1 Succeeded true) ∷ [])

-- row 2, which no lease covers, should end before row 1
abbrev pub overtaken : List Event
overtaken = stamped 0 ((Outer, Acquire 0 0) ∷ (Outer, Acquire 1 0) ∷ (Outer, Acquire 2 0) ∷ (Outer, Close 0 Succeeded) ∷ (Outer, Final 1 Succeeded true) ∷ [])
