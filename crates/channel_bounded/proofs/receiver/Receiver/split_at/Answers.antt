use Rattle.std.proofs.Common.{ℕ, subst, sym}
use Rattle.chunk_core.specs.Lists.{IsAmong}
use Rattle.channel_bounded.specs.Ends.{ReceiverSeen}
use Rattle.channel_bounded.proofs.Moves.{splits}
use Rattle.channel_bounded.proofs.receiver.Receiver.split_at.Goals as goal

pub another-pass-requires-clause-rule : goal.another-pass-requires-clause-rule
another-pass-requires-clause-rule g c =
    let i = c.self.invariant in
    splits _ _ _ _ i.1 i.2 (λ there. c.requires.fresh (subst (λ (k : ℕ). IsAmong k c.args.self.now.made) (sym c.requires.number) (subst (λ (r : ReceiverSeen). IsAmong g.N.Numbered.number r.made) c.self.view_is there)))
