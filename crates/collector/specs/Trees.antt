-- How far the main tree of a collector is.
use Rattle.std.specs.Prelude.{◌≡◌, ℕ, ◌+◌, ◌-◌, ◌<◌, ◌≤◌, List, filter, length, map, option_map, unwrap_or, Option, Some, None}
use Rattle.std.specs.List.{range_with_len, sum_by, AllByRecursion}
use Rattle.chunk_core.specs.Lists.{IsAmong}
use Rattle.chunk_core.specs.Outcomes.{exit_of}
use Rattle.chunk_core.specs.declared.code.How.{How}
use Rattle.device_port.specs.Device.{DeviceTold}
use Rattle.join_tree.specs.Given.{given as given_by}
use Rattle.join_tree.specs.Mains.{IsMain}
use Rattle.join_tree.specs.Notes.{is_table_note}
use Rattle.join_tree.specs.Progress.{Progress}
use Rattle.outer_source.specs.Standing.{events_left}
use Rattle.outer_source.specs.declared.source.OuterSource.{OuterSource}
use Rattle.pipeline_desc.specs.Meant.{PlanMeant, stream_limit}
use Rattle.pipeline_desc.specs.Nodes.{events_of}
use Rattle.pipeline_desc.specs.Places.{outer_rows, rows_of}
use Rattle.pull_stepper.specs.Held.{FinishesDevice}
use Rattle.row_seat.specs.Views.{IsWithin}
use Rattle.scope_tree.specs.Calls.{Seen}
use Rattle.scope_tree.specs.Trace.{owed}
use Rattle.scope_tree.specs.Visible.{lessee, rows_covered}
use Rattle.dealt_streams.specs.Parts.{AreTableRows, line_at}
use Rattle.dealt_streams.specs.Standing.{plan_parts}
use Rattle.collector.specs.declared.waiting.Waiting.{Waiting}

-- a lease that waits
abbrev pub waiting_of : Waiting → ℕ × List ℕ
waiting_of w = (lessee w.lease, rows_covered w.lease)

module _ (p : PlanMeant) where
  -- the events that stream k may note
  abbrev pub events_at : ℕ → ℕ
  events_at k = unwrap_or (events_of p k) 0

  -- the events that the streams from k on may note, as many as there may be
  abbrev pub events_from : ℕ → ℕ
  events_from k = sum_by events_at (range_with_len k (stream_limit p - k))

  -- the events that the outer stream may note still beside its leases and what it owes, and none once it has ended
  abbrev pub outer_left : Option How → OuterSource → ℕ
  outer_left None given = events_left p (plan_parts p) given
  outer_left (Some h) given = 0

  module _ {V : Type 0} (told : V → DeviceTold) where
    -- The main tree is as far as the streams that were dealt with, which are so many; the leases of so many streams wait at most, on rows of the outer stream. The streams behind have their rows
    -- and room for their events, and the outer stream for its own. Unless the outer stream has ended one waits, where one may.
    pub record KeepsTree (waits : ℕ) (b : Seen V) (outer : Option How) (given : OuterSource) (ws : List Waiting) (dealt : ℕ) (progress : Progress V) : Type 0 where
      pub main : IsMain (FinishesDevice told) p.max_open (stream_limit p) b progress
      pub leased_is : progress.leased ≡ given.outer.leased
      pub next_is : progress.next ≡ dealt
      pub root_is : progress.root ≡ option_map exit_of outer
      pub waits_are : progress.waits ≡ map waiting_of ws
      pub rows : AllByRecursion (λ w. AreTableRows (outer_rows p) (rows_covered w.lease)) ws
      pub few : length ws ≤ waits
      pub some : outer ≡ None → 0 < waits → 1 ≤ length ws
      pub empty : (k r : ℕ) → dealt ≤ k → k < stream_limit p → IsWithin (rows_of p k).from (rows_of p k).to r → IsAmong r b.seat.empty
      pub splits : stream_limit p ≤ b.seat.splits + dealt
      pub spare : owed b.seat + outer_left outer given + (stream_limit p - given.outer.leased) + events_from dealt ≤ b.seat.spare
      pub noted : outer ≡ None → progress.tables ≡ filter is_table_note (given_by b.seat)

  -- each stream that waits has its line, if it is one of the list
  abbrev pub HaveLines : List (List ℕ) → List Waiting → Type 0
  HaveLines lines ws = AllByRecursion (λ w. w.path ≡ line_at p lines (lessee w.lease)) ws
