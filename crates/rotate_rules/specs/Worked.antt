-- Rotations that are written out.
use Rattle.std.specs.Prelude.{true, List, [], ◌∷◌}
use Rattle.chunk_core.specs.declared.code.Exit.TheVariants.{Succeeded, Errored}
use Rattle.res_ledger.specs.declared.event.StreamNo.TheVariants.{Inner}
use Rattle.res_ledger.specs.declared.event.What.TheVariants.{Open, Acquire, Close, Final}
use Rattle.res_ledger.specs.declared.event.Event.{Event}
use Rattle.res_ledger.specs.Ledger.{stamped}

-- two files, the first of which is let go when the second is there
abbrev pub two_files : List Event
two_files = stamped 0 ((Inner 0, Acquire 0 0) ∷ (Inner 0, Open 1 0) ∷ (Inner 0, Acquire 1 1) ∷ (Inner 0, Open 2 0) ∷ (Inner 0, Acquire 2 2) ∷ (Inner 0, Close 1 Succeeded) ∷ (Inner 0, Final 1 Succeeded true) ∷ (Inner 0, Close 0 Succeeded) ∷ (Inner 0, Final 2 Succeeded true) ∷ (Inner 0, Final 0 Succeeded true) ∷ [])

-- the second file couldn't be opened
abbrev pub failed_open : List Event
failed_open = stamped 0 ((Inner 0, Acquire 0 0) ∷ (Inner 0, Open 1 0) ∷ (Inner 0, Acquire 1 1) ∷ (Inner 0, Close 0 Errored) ∷ (Inner 0, Final 1 Errored true) ∷ (Inner 0, Final 0 Errored true) ∷ [])

-- three files that are let go at the end alone
abbrev pub late : List Event
late = stamped 0 ((Inner 0, Acquire 0 0) ∷ (Inner 0, Open 1 0) ∷ (Inner 0, Acquire 1 1) ∷ (Inner 0, Open 2 0) ∷ (Inner 0, Acquire 2 2) ∷ (Inner 0, Open 3 0) ∷ (Inner 0, Acquire 3 3) ∷ (Inner 0, Close 0 Succeeded) ∷ (Inner 0, Final 3 Succeeded true) ∷ (Inner 0, Final 2 Succeeded true) ∷ (Inner 0, Final 1 Succeeded true) ∷ (Inner 0, Final 0 Succeeded true) ∷ [])
