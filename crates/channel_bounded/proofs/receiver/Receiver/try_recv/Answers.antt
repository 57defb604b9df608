use Rattle.std.proofs.Common.{subst, sym}
use Rattle.channel_bounded.specs.Ends.{ReceiverSeen}
use Rattle.channel_bounded.specs.Queue.{KeptByGet}
use Rattle.channel_bounded.proofs.Moves.{gets, receiver_learns}
use Rattle.channel_bounded.proofs.receiver.Receiver.try_recv.Goals as goal

pub pop_as-requires-clause-rule : goal.pop_as-requires-clause-rule
pop_as-requires-clause-rule g c =
    let i = c.self.invariant in
    (gets g.A.May.may _ _ i.1 (subst (λ (r : ReceiverSeen). KeptByGet g.A.May.may r.got r.made r.closed) (sym c.self.view_is) c.requires.may), receiver_learns g.A.May.may _ _ i.1)
