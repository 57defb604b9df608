-- What contracts see of the hub and its ends.
use Rattle.std.specs.Prelude.{◌≡◌, ℕ, true, false, List, [], Option}
use Rattle.atomic_table.specs.Seated.{TableId}
use Rattle.crossbeam_queue.specs.Passes.{Pass, view, ruled_capacity}
use Rattle.crossbeam_queue.specs.declared.array_queue.Doing.{Doing}
use Rattle.crossbeam_queue.specs.declared.array_queue.Slotted.{Slotted}
use Rattle.channel_bounded.specs.declared.message.Msg.{Msg}
use Rattle.channel_bounded.specs.declared.rule.View.{View}
use Rattle.channel_bounded.specs.Queue.{KeptByGet, KeptBySend, ReceiverFinds, SenderFinds}

-- which hub it is, and how many messages it can hold
pub record HubSeen : Type 0 where
  pub id : TableId
  pub capacity : ℕ

-- the sender's hub, its stream and all that it sent
pub record SenderSeen : Type 0 where
  pub hub : TableId
  pub stream : ℕ
  pub sent : List Msg

-- the receiver's hub, all that it got, the streams that have or had a sender, and what each joined sender sent
pub record ReceiverSeen : Type 0 where
  pub hub : TableId
  pub got : List Msg
  pub made : List ℕ
  pub closed : List (ℕ × List Msg)

abbrev pub seen_hub : {Q A : Type 0} → Slotted (Option Msg) (Doing Msg View) Q A → HubSeen
seen_hub queue = record { id = queue.table.shared.table_id; capacity = ruled_capacity queue }

abbrev pub seen_sender : Pass Msg View → SenderSeen
seen_sender pass = record { hub = pass.table_id; stream = (view pass).stream; sent = (view pass).sent }

abbrev pub seen_receiver : Pass Msg View → ReceiverSeen
seen_receiver pass = record { hub = pass.table_id; got = (view pass).got; made = (view pass).made; closed = (view pass).closed }

-- the pass has no slot out, and is the sender's of this stream
abbrev pub IsSending : Pass Msg View → ℕ → Type 0
IsSending pass stream = (pass.me.1 ≡ []) × ((view pass).sends ≡ true) × ((view pass).stream ≡ stream)

-- the pass has no slot out, and is the receiver's
abbrev pub IsReceiving : Pass Msg View → Type 0
IsReceiving pass = (pass.me.1 ≡ []) × ((view pass).gets ≡ true) × ((view pass).sends ≡ false)

-- what the sender finds at one moment: these are queued
abbrev pub SenderSees : (List Msg → List Msg → Type 0) → SenderSeen → List Msg → Type 0
SenderSees may sender queued = SenderFinds may sender.stream sender.sent queued

-- what the receiver finds at one moment: these are queued
abbrev pub ReceiverSees : (List Msg → List Msg → Type 0) → ReceiverSeen → List Msg → Type 0
ReceiverSees may receiver queued = ReceiverFinds may receiver.got receiver.made receiver.closed queued

-- the sender's next message keeps the fact
abbrev pub MaySend : (List Msg → List Msg → Type 0) → ℕ → SenderSeen → Msg → Type 0
MaySend may capacity sender m = KeptBySend may capacity sender.stream sender.sent m

-- the receiver's next receipt keeps the fact
abbrev pub MayReceive : (List Msg → List Msg → Type 0) → ReceiverSeen → Type 0
MayReceive may receiver = KeptByGet may receiver.got receiver.made receiver.closed
