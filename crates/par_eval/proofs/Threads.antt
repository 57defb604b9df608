-- Hands may go to other threads, and threads may share their queues.
use denote.RattleType.{RattleType}
use denote.Param.Send.{IsSend, IsSync, sendable}
use Rattle.channel_bounded.specs.declared.rule.May.{Ghosts}
use Rattle.par_eval.specs.contracts.hand.Hand as Hand
use Rattle.par_eval.specs.contracts.lanes.Lanes as Lanes
use Rattle.par_eval.proofs.hand.Hand.TheSendSync as hand
use Rattle.par_eval.proofs.lanes.Lanes.TheSendSync as lanes

pub hand_send : IsSend Hand.the_row
hand_send = hand.the_send

pub lanes_send : (A : RattleType) (g : Ghosts A.Denot) → IsSend A → IsSend (Lanes.the_row A g)
lanes_send A g s = search (sendable, lanes.the_send) depth 8

pub lanes_sync : (A : RattleType) (g : Ghosts A.Denot) → IsSync A → IsSync (Lanes.the_row A g)
lanes_sync A g s = search (sendable, lanes.the_sync) depth 8
