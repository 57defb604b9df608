-- What comes are ends and texts of the branches.
use Rattle.std.proofs.Common.{ℕ, ◌<◌, List, [], ◌∷◌, ◌++◌, sym, subst, append_assoc}
use Rattle.std.specs.List.{AllByRecursion}
use Rattle.chunk_core.proofs.Each.{among_each}
use Rattle.chunk_core.proofs.Members.{among_mid}
use Rattle.channel_bounded.specs.Ends.{MayReceive, ReceiverSeen, ReceiverSees}
use Rattle.channel_bounded.specs.declared.message.Msg.{Msg}
use Rattle.tee_prints.specs.Printed.{AreBelow}
use Rattle.tee_texts.specs.Texts.{AreTexts, IsText}

-- a receipt keeps the fact
pub may_receive : (r : ReceiverSeen) → MayReceive AreTexts r
may_receive r m rest f = subst (AllByRecursion (λ x. IsText x.body)) (sym (append_assoc r.got (m ∷ []) rest)) f.1

-- the message that came is an end or a text
pub text_came : (r : ReceiverSeen) (m : Msg) (rest : List Msg) → ReceiverSees AreTexts r (m ∷ rest) → IsText m.body
text_came r m rest f = among_each (λ (x : Msg). IsText x.body) m (r.got ++ m ∷ rest) f.1 (among_mid r.got rest m)

-- of a branch that is there
pub branch_came : (n : ℕ) (r : ReceiverSeen) (m : Msg) (rest : List Msg) → ReceiverSees AreTexts r (m ∷ rest) → AreBelow n r.made → m.stream < n
branch_came n r m rest f below = below m.stream (f.0.senders m (among_mid r.got rest m))
