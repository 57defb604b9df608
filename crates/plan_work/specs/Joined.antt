-- The work of an outer stream and of the streams that it gives.
use Rattle.std.specs.Prelude.{ℕ, List, ◌++◌, flat_map, Some}
use Rattle.chunk_core.specs.Outcomes.{Outcomes}
use Rattle.chunk_core.specs.Tables.{Values}
use Rattle.device_port.specs.Device.{Place, DeviceTold}
use Rattle.run_rules.specs.Work.{Opener, Stream, Work, opener_places}

-- an outer stream gives these streams, and this is what they and its list may give, and what where nothing is left and no device fails
abbrev pub joined : Opener → List Stream → (ℕ → Values → (ℕ → DeviceTold) → Outcomes) → (ℕ → Values → (ℕ → DeviceTold) → Outcomes) → (DeviceTold → Outcomes) → (DeviceTold → Outcomes) → Work
joined opener streams runs ideal_runs listing ideal_listing =
    record { opener = Some opener; streams = streams; runs = runs; ideal_runs = ideal_runs; listing = listing; ideal_listing = ideal_listing }

-- the places of all rows, those of the outer stream first
abbrev pub places_in : Opener → List Stream → List Place
places_in opener streams = opener_places opener ++ flat_map (λ s. s.places) streams
