use Rattle.std.proofs.Common.{◌≡◌, List, ap, ◌∙◌, sym, subst}
use Rattle.channel_bounded.specs.declared.message.Msg.{Msg}
use Rattle.channel_bounded.specs.Ends.{HubSeen, SenderSeen}
use Rattle.channel_bounded.specs.Queue.{KeptBySend}
use Rattle.channel_bounded.proofs.Moves.{sends, sender_learns}
use Rattle.channel_bounded.proofs.sender.Sender.try_send.Goals as goal

kept : (may : List Msg → List Msg → Type 0) (h k : HubSeen) (s t : SenderSeen) (m : Msg) → h ≡ k → s ≡ t → KeptBySend may k.capacity t.stream t.sent m → KeptBySend may h.capacity s.stream s.sent m
kept may h k s t m e f keeps = subst (λ (x : HubSeen × SenderSeen). KeptBySend may x.0.capacity x.1.stream x.1.sent m) (λ i. (sym e i, sym f i)) keeps

pub push_as-requires-clause-rule : goal.push_as-requires-clause-rule
push_as-requires-clause-rule g c =
    let i = c.self.invariant in
    (sends g.A.May.may _ _ _ _ i.1 (c.requires.stream ∙ sym (ap (λ (s : SenderSeen). s.stream) c.self.view_is)) (kept g.A.May.may _ _ _ _ _ c.hub.view_is c.self.view_is c.requires.may), sender_learns g.A.May.may _ _ i.1)
