-- What is known of branches that were taken in.
use Rattle.std.specs.Prelude.{◌≡◌, ◌-◌, ◌≤◌, ℕ, List, [], ◌∷◌, ◌++◌}
use Rattle.chunk_core.specs.Feed.{Meaning}
use Rattle.chunk_core.specs.Totals.{IsAt}
use Rattle.chunk_core.specs.declared.code.How.{How}
use Rattle.channel_bounded.specs.Ends.{ReceiverSeen}
use Rattle.channel_bounded.specs.Queue.{Accounts}
use Rattle.channel_bounded.specs.Streams.{IsWhole}
use Rattle.channel_bounded.specs.declared.message.Body.{Body}
use Rattle.channel_bounded.specs.declared.message.Msg.{Msg}
use Rattle.interrupt_ctx.specs.Ends.{SeatSeen}
use Rattle.interrupt_ctx.specs.Views.{HasSetAll, Knows}
use Rattle.interrupt_ctx.specs.declared.view.View.{View}
use Rattle.interrupt_ctx.specs.declared.why.Stop.{Stop}
use Rattle.pull_nodes.specs.Plain.{IsFront}
use Rattle.tee_branches.specs.Stands.{HasEnded}
use Rattle.tee_texts.specs.Texts.{AreTexts, end_message}

-- Branch i, whose pipe has this meaning, ended so: it received a front of what was published, and what it said and its end was received of it, or is queued still;
-- and what it knew of an interruption of the run is known.
pub record IsSettled (i : ℕ) (m : Meaning) (all : List Body) (got : List Msg) (view : View) : Type 0 where
  pub how : How
  pub said : List Msg
  pub received : List Body
  pub seen : View
  pub front : IsFront received all
  pub ended : HasEnded i m seen received said how
  pub queued : List Msg
  pub whole : IsWhole i (said ++ end_message i how ∷ []) got queued
  pub knows : (stop : Stop) → Knows seen 0 stop → Knows view 0 stop

-- each of the branches from k on
abbrev pub AreSettledFrom : ℕ → List Meaning → List Body → List Msg → View → Type 0
AreSettledFrom k ms all got view = (i : ℕ) (m : Meaning) → k ≤ i → IsAt ms i m → IsSettled i m all got view

-- what was received are ends and texts of those branches
pub record HasTexts (made : List ℕ) (got : List Msg) : Type 0 where
  pub closed : List (ℕ × List Msg)
  pub queued : List Msg
  pub accounts : Accounts made closed got queued
  pub texts : AreTexts got queued

-- a sender was taken in
pub record JoinsSender (a b : ReceiverSeen) : Type 0 where
  pub hub : b.hub ≡ a.hub
  pub got : b.got ≡ a.got
  pub made : b.made ≡ a.made
  pub texts : HasTexts a.made a.got

-- a seat was taken in that has set nothing
pub record JoinsSeat (a b : SeatSeen) : Type 0 where
  pub board_is : b.board ≡ a.board
  pub first : b.view.first ≡ a.view.first
  pub out : b.view.out ≡ a.view.out - 1
  pub set : b.view.set ≡ a.view.set
  pub knows : (stop : Stop) → Knows a.view 0 stop → Knows b.view 0 stop
  pub all : b.view.out ≡ 0 → HasSetAll b.view
