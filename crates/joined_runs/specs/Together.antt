-- What a run leaves of which many streams ran side by side, as plain data.
use Rattle.std.specs.Prelude.{◌≡◌, ◌⊎◌, ℕ, ◌+◌, ◌<◌, ◌≤◌, ◌^◌, List, map, length, Some}
use Rattle.chunk_core.specs.Elements.{Element, rendering_of}
use Rattle.chunk_core.specs.Outcomes.{End, Outcomes}
use Rattle.chunk_core.specs.Tables.{Values}
use Rattle.chunk_core.specs.Texts.{IsRestOf}
use Rattle.chunk_core.specs.declared.code.How.{How}
use Rattle.res_ledger.specs.declared.event.Event.{Event}
use Rattle.device_port.specs.Device.{DeviceTold}
use Rattle.run_rules.specs.Facts.{at}
use Rattle.run_rules.specs.Homes.{HaveValues, IsUntouched}
use Rattle.run_rules.specs.Opening.{OuterHasRun}
use Rattle.run_rules.specs.Outputs.{IsReported, elements_in_pieces}
use Rattle.run_rules.specs.Work.{Opener, RunRecord, Stream, first_row_of, opener_places}
use Rattle.join_tale.specs.Bounds.{bounds_of}
use Rattle.join_tale.specs.Keeping.{IsTale}
use Rattle.join_tale.specs.Records.{IsRecordOf, IsSettled, bare}
use Rattle.join_tale.specs.Tales.{Came, IsBegun, Tale, loads_received}
use Rattle.joined_runs.specs.Devices.{MadeComeBack}
use Rattle.plan_work.specs.Joined.{places_in}
use Rattle.joined_runs.specs.Shares.{AreTablesKept, IsJoinedLedger, IsShare}

-- Stream k, whose rows begin with `from`, was begun and sent this end. It noted its share as it ended, and the loads that were received of it render pieces of a run
-- with an end that is reported so.
pub record HasRun (runs : Outcomes) (home : ℕ → DeviceTold) (t : Tale) (L : List Event) (k from : ℕ) (s : Stream) : Type 0 where
  pub how : How
  pub begun : IsBegun t k
  pub came : Came t k how
  pub share : IsShare k from (from + length s.places) s.scopes home how L
  pub pieces : List (List Element)
  pub received : loads_received k t ≡ map rendering_of pieces
  pub end : End
  pub run : runs (elements_in_pieces pieces) end
  pub reported : IsReported end how

-- stream k, whose rows begin with `from`, was never begun, and nothing was done on its devices
pub record HasNotRun (home : ℕ → DeviceTold) (t : Tale) (k from : ℕ) (s : Stream) : Type 0 where
  pub unbegun : ¬ (IsBegun t k)
  pub untouched : (r : ℕ) → from ≤ r → r < from + length s.places → IsUntouched (home r)

-- The outer stream, which reads its tables and its list, and the streams that it gives, which run side by side, came to their ends. The devices that were made came back, the ledger is whole,
-- and no device of the list or of a stream was read beyond its limit. The record tells the tale of the collector, and each stream was begun and ran over its devices, or was never begun.
pub record RunsTogether (opener : Opener) (streams : List Stream) (runs : ℕ → Values → (ℕ → DeviceTold) → Outcomes) (listing : DeviceTold → Outcomes) (c : RunRecord) : Type 0 where
  pub home : ℕ → DeviceTold
  pub values : Values
  pub outer : How
  pub tale : Tale
  pub devices : MadeComeBack c.depot_old c.depot_new (places_in opener streams) home
  pub valued : HaveValues (Some opener) home values
  pub within : (r : ℕ) → length opener.tables ≤ r → r < length (places_in opener streams) → (home r).at ≤ 2 ^ 40
  pub account : IsJoinedLedger opener (length streams) outer c.events
  pub tables : AreTablesKept (length (opener_places opener)) home c.events
  pub came : OuterHasRun opener listing (length streams) c home outer
  pub is_tale : IsTale (bounds_of opener streams) tale
  pub settled : IsSettled tale
  pub recorded : IsRecordOf (bare (Some opener) streams) tale c
  pub outer_is : tale.outer ≡ Some outer
  pub each : (k : ℕ) (s : Stream) → at streams k ≡ Some s → HasRun (runs k values home) home tale c.events k (first_row_of (bare (Some opener) streams) k) s ⊎ HasNotRun home tale k (first_row_of (bare (Some opener) streams) k) s
  pub rest : IsRestOf c.cut c.rest
