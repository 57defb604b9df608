-- The rule of the queue: what was got of each sender, followed by what is queued of it, is what it sent; and each queued message is of a sender.
use Rattle.std.specs.Prelude.{◌≡◌, ℕ, ◌<◌, true, false, List, [], ◌∷◌, ◌++◌, length}
use Rattle.chunk_core.specs.Lists.{IsAmong}
use Rattle.chunk_core.specs.Totals.{IsAt}
use Rattle.channel_bounded.specs.declared.message.Msg.{Msg}
use Rattle.channel_bounded.specs.declared.rule.View.{View}
use Rattle.channel_bounded.specs.Streams.{IsWhole}

-- the view of an end that is no more
abbrev pub blank_view : View
blank_view = record { sends = false; gets = false; stream = 0; sent = []; got = []; made = []; closed = [] }

-- the receiver's view at the start
abbrev pub first_view : View
first_view = record blank_view { gets = true }

-- the view of a new sender of stream k
abbrev pub sender_view : ℕ → View
sender_view k = record blank_view { sends = true; stream = k }

-- m was sent
abbrev pub with_sent : View → Msg → View
with_sent v m = record v { sent = v.sent ++ m ∷ [] }

-- m was got
abbrev pub with_got : View → Msg → View
with_got v m = record v { got = v.got ++ m ∷ [] }

-- a sender of stream k was made
abbrev pub with_made : View → ℕ → View
with_made v k = record v { made = v.made ++ k ∷ [] }

-- the sender of stream k was joined, which had sent this
abbrev pub with_closed : View → ℕ → List Msg → View
with_closed v k sent = record v { closed = v.closed ++ (k, sent) ∷ [] }

-- what was got and what is queued are all of what each joined sender sent, and nothing of a stream that had no sender
pub record Accounts (made : List ℕ) (closed : List (ℕ × List Msg)) (got queued : List Msg) : Type 0 where
  pub joined : (k : ℕ) (sent : List Msg) → IsAmong (k, sent) closed → IsWhole k sent got queued
  pub senders : (m : Msg) → IsAmong m (got ++ queued) → IsAmong m.stream made

-- what the rule speaks of beside the queue: the pass that receives, the pass of each stream's sender, what was got, the streams that have or had a sender, and what each joined sender sent
pub record Books : Type 0 where
  pub reader : ℕ
  pub seat : ℕ → ℕ
  pub got : List Msg
  pub made : List ℕ
  pub closed : List (ℕ × List Msg)

-- each sender that wasn't joined has one pass, which knows what it sent
pub record FitsSender (books : Books) (queued : List Msg) (p : ℕ) (v : View) : Type 0 where
  pub seat : p ≡ books.seat v.stream
  pub whole : IsWhole v.stream v.sent books.got queued
  pub made : IsAmong v.stream books.made
  pub unjoined : (sent : List Msg) → ¬ IsAmong (v.stream, sent) books.closed

-- one pass receives, which knows what was got, made and joined
pub record FitsReceiver (books : Books) (p : ℕ) (v : View) : Type 0 where
  pub reader : p ≡ books.reader
  pub got : v.got ≡ books.got
  pub made : v.made ≡ books.made
  pub closed : v.closed ≡ books.closed

-- what a pass knows is so
abbrev pub Fits : Books → List Msg → ℕ → View → Type 0
Fits books queued p v = (v.sends ≡ true → FitsSender books queued p v) × (v.gets ≡ true → FitsReceiver books p v)

-- the rule, beside a fact of the caller's own of what was got and is queued
pub record QueueRule (may : List Msg → List Msg → Type 0) (queued : List Msg) (views : List View) : Type 0 where
  pub books : Books
  pub holds : may books.got queued
  pub accounts : Accounts books.made books.closed books.got queued
  pub were_made : (k : ℕ) (sent : List Msg) → IsAmong (k, sent) books.closed → IsAmong k books.made
  pub fits : (p : ℕ) (v : View) → IsAt views p v → Fits books queued p v

-- what a sender of this stream, which has sent this, finds at one moment: these are queued behind what was got
abbrev pub SenderFinds : (List Msg → List Msg → Type 0) → ℕ → List Msg → List Msg → Type 0
SenderFinds may stream sent queued = (got : List Msg) × IsWhole stream sent got queued × may got queued

-- what the receiver, which has got this, finds at one moment: these are queued
abbrev pub ReceiverFinds : (List Msg → List Msg → Type 0) → List Msg → List ℕ → List (ℕ × List Msg) → List Msg → Type 0
ReceiverFinds may got made closed queued = Accounts made closed got queued × may got queued

-- the fact stays where m joins the queue that the sender finds, and that isn't full
abbrev pub KeptBySend : (List Msg → List Msg → Type 0) → ℕ → ℕ → List Msg → Msg → Type 0
KeptBySend may capacity stream sent m = (got queued : List Msg) → length queued < capacity → IsWhole stream sent got queued → may got queued → may got (queued ++ m ∷ [])

-- the fact stays where the receiver gets the first message of the queue that it finds
abbrev pub KeptByGet : (List Msg → List Msg → Type 0) → List Msg → List ℕ → List (ℕ × List Msg) → Type 0
KeptByGet may got made closed = (m : Msg) (rest : List Msg) → ReceiverFinds may got made closed (m ∷ rest) → may (got ++ m ∷ []) rest

-- the receiver got m, which stood first in the queue
abbrev pub Got : (List Msg → List Msg → Type 0) → View → Msg → View → Type 0
Got may v m w = (w ≡ with_got v m) × ((rest : List Msg) × ReceiverFinds may v.got v.made v.closed (m ∷ rest))
