-- Messages, ends and handles may go to another thread, and threads may share the hub.
use denote.RattleType.{RattleType}
use denote.Param.Send.{IsSend, IsSync, sendable}
use Rattle.channel_bounded.specs.declared.rule.May.{Ghosts}
use Rattle.channel_bounded.specs.contracts.handle.HubRef as HubRef
use Rattle.channel_bounded.specs.contracts.hub.Hub as Hub
use Rattle.channel_bounded.specs.contracts.message.Msg as Msg
use Rattle.channel_bounded.specs.contracts.receiver.Receiver as Receiver
use Rattle.channel_bounded.specs.contracts.sender.Sender as Sender
use Rattle.channel_bounded.proofs.handle.HubRef.TheSendSync as handle
use Rattle.channel_bounded.proofs.hub.Hub.TheSendSync as hub
use Rattle.channel_bounded.proofs.message.Msg.TheSendSync as message
use Rattle.channel_bounded.proofs.receiver.Receiver.TheSendSync as receiver
use Rattle.channel_bounded.proofs.sender.Sender.TheSendSync as sender

pub message_send : IsSend Msg.the_row
message_send = message.the_send

pub sender_send : IsSend Sender.the_row
sender_send = sender.the_send

pub receiver_send : IsSend Receiver.the_row
receiver_send = receiver.the_send

pub hub_send : (A : RattleType) (g : Ghosts A.Denot) → IsSend A → IsSend (Hub.the_row A g)
hub_send A g s = search (sendable, hub.the_send) depth 6

pub hub_sync : (A : RattleType) (g : Ghosts A.Denot) → IsSync A → IsSync (Hub.the_row A g)
hub_sync A g s = search (sendable, hub.the_sync) depth 6

pub handle_send : (A : RattleType) (g : Ghosts A.Denot) → IsSend A → IsSync A → IsSend (HubRef.the_row A g)
handle_send A g s t = search (sendable, handle.the_send) depth 8
