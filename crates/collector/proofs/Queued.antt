-- What the receiver may get, and what it got.
use Rattle.std.proofs.Common.{◌≡◌, List, [], ◌∷◌, ◌++◌, sym, subst, append_assoc}
use Rattle.std.specs.List.{AllByRecursion}
use Rattle.channel_bounded.specs.Ends.{MayReceive, ReceiverSeen, ReceiverSees}
use Rattle.channel_bounded.specs.declared.message.Msg.{Msg}
use Rattle.stream_jobs.specs.Messages.{IsFullMessage}
use Rattle.chunk_core.proofs.Each.{each_snoc}
use Rattle.collector.specs.Filled.{AreFilled}
use Rattle.collector.specs.Receiving.{HasGot}

-- what is sent is full
pub may_send : (m : Msg) → IsFullMessage m → (got queued : List Msg) → AreFilled got queued → AreFilled got (queued ++ m ∷ [])
may_send m full got queued f = subst (AllByRecursion IsFullMessage) (append_assoc got queued (m ∷ [])) (each_snoc IsFullMessage (got ++ queued) m f full)

-- a message that is got stays among those that are full
pub may_receive : (had : ReceiverSeen) → MayReceive AreFilled had
may_receive had m rest f = subst (AllByRecursion IsFullMessage) (sym (append_assoc had.got (m ∷ []) rest)) f.1

pub has_got : (had r : ReceiverSeen) (m : Msg) → r ≡ record had { got = had.got ++ m ∷ [] } → (rest : List Msg) → ReceiverSees AreFilled had (m ∷ rest) → HasGot had m r
has_got had r m is rest sees = record { is = is; rest = rest; sees = sees }
