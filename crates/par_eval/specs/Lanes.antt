-- The queues of each hand.
use Rattle.std.specs.Prelude.{◌≡◌, ℕ, List, length}
use Rattle.chunk_core.specs.Totals.{IsAt}
use Rattle.channel_bounded.specs.Ends.{HubSeen, SenderSeen, SenderSees}
use Rattle.channel_bounded.specs.declared.message.Msg.{Msg}

-- the queue of a hand's tasks, and that of its results
pub record LaneHubs : Type 0 where
  pub tasks : HubSeen
  pub results : HubSeen

-- a hand has at most one task, and a result is two messages
pub record IsSized (l : LaneHubs) : Type 0 where
  pub tasks : l.tasks.capacity ≡ 1
  pub results : l.results.capacity ≡ 2

abbrev pub AreSized : List LaneHubs → Type 0
AreSized lanes = (i : ℕ) (l : LaneHubs) → IsAt lanes i l → IsSized l

-- the channel's cause of Full: at one moment of the call the queue held as many messages as it can
pub record FoundFull (may : List Msg → List Msg → Type 0) (capacity : ℕ) (sender : SenderSeen) : Type 0 where
  pub queued : List Msg
  pub full : length queued ≡ capacity
  pub sees : SenderSees may sender queued
