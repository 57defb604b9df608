-- Full and None can't be answered without a cause: under a fact of a caller's own, which the call keeps, the false answer would be a contradiction.
use Rattle.std.specs.Prelude.{◌≡◌, ◌≢◌, ℕ, ◌<◌, ⊤, true, List, [], ◌∷◌, length}
use Rattle.chunk_core.specs.Totals.{IsAt}
use Rattle.channel_bounded.specs.declared.message.Msg.{Msg}
use Rattle.channel_bounded.specs.declared.rule.View.{View}
use Rattle.channel_bounded.specs.Streams.{IsWhole}
use Rattle.channel_bounded.specs.Queue.{QueueRule, SenderFinds, ReceiverFinds, KeptBySend, KeptByGet}

-- as long as the sender of stream k has sent just this, the queue isn't full
abbrev pub NotFullYet : ℕ → ℕ → List Msg → List Msg → List Msg → Type 0
NotFullYet capacity k sent got queued = IsWhole k sent got queued → length queued ≢ capacity

-- as long as just this was got, the queue holds something
abbrev pub NotEmptyYet : List Msg → List Msg → List Msg → Type 0
NotEmptyYet had got queued = got ≡ had → queued ≢ []

-- wherever the rule holds and the queue isn't full, a sender's fact holds that its call keeps, and by which no moment of the call is one where the queue was full
abbrev pub FullHasACause : Type 0
FullHasACause = (capacity : ℕ) (m : Msg) (queued : List Msg) (views : List View) (p : ℕ) (v : View)
    → QueueRule (λ _ _. ⊤) queued views → IsAt views p v → v.sends ≡ true → m.stream ≡ v.stream → length queued < capacity
    → QueueRule (NotFullYet capacity v.stream v.sent) queued views
    × KeptBySend (NotFullYet capacity v.stream v.sent) capacity v.stream v.sent m
    × ¬ ((found : List Msg) × (length found ≡ capacity) × SenderFinds (NotFullYet capacity v.stream v.sent) v.stream v.sent found)

-- wherever the rule holds and something is queued, a receiver's fact holds that its call keeps, and by which no moment of the call is one where the queue was empty
abbrev pub NoneHasACause : Type 0
NoneHasACause = (m : Msg) (rest : List Msg) (views : List View) (p : ℕ) (v : View)
    → QueueRule (λ _ _. ⊤) (m ∷ rest) views → IsAt views p v → v.gets ≡ true
    → QueueRule (NotEmptyYet v.got) (m ∷ rest) views
    × KeptByGet (NotEmptyYet v.got) v.got v.made v.closed
    × ¬ ReceiverFinds (NotEmptyYet v.got) v.got v.made v.closed []
