-- What is kept of a stream that is open no longer.
use Rattle.std.specs.Prelude.{◌≡◌, ℕ, List, [], ◌∷◌, Some}
use Rattle.channel_bounded.specs.Ends.{ReceiverSeen}
use Rattle.channel_bounded.specs.Streams.{of_stream}
use Rattle.channel_bounded.specs.declared.message.Body.TheVariants as body
use Rattle.channel_bounded.specs.declared.message.Msg.{Msg}
use Rattle.chunk_core.specs.Elements.{elements, rendering_of}
use Rattle.chunk_core.specs.Lists.{IsAmong}
use Rattle.chunk_core.specs.Tables.{Values}
use Rattle.device_port.specs.Device.{DeviceTold}
use Rattle.join_tale.specs.Tales as tales
use Rattle.join_tale.specs.Tales.{Message, Tale}
use Rattle.join_tree.specs.Progress.{Progress}
use Rattle.pull_nodes.specs.declared.node.Node.{Node}
use Rattle.pull_turns.specs.Piping.{StateMeaning}
use Rattle.row_seat.specs.declared.view.View.{View}
use Rattle.run_rules.specs.Facts.{at}
use Rattle.scope_tree.specs.Calls.{Seen}
use Rattle.stream_jobs.specs.declared.job.JobEnd.{JobEnd}
use Rattle.stream_jobs.specs.Jobs.{EndsJob}
use Rattle.stream_jobs.specs.Running.{Origin}
use Rattle.dealt_streams.specs.declared.leftover.Leftover.{Leftover}
use Rattle.dealt_streams.specs.Parts.{Part}
use Rattle.dealt_streams.specs.Parts.Part.{Begun, Unmade}

-- a message as the tale has it: a load by its rendering
abbrev pub told_message : Msg → Message
told_message m = record { stream = m.stream; body = elim m.body [ body.Load l ↦ tales.Body.Load (rendering_of (elements l)) | body.End h ↦ tales.Body.End h ] }

-- A stream that is no longer open: it was begun over this node and these devices, its job came of this origin, and this is what was left of it; or there was no memory to make it, and
-- these devices were made for it, which are never opened.
pub data Gone (S V F : Type 0) : Type 0 where
  Came : Node → List V → Origin V F → JobEnd S V → Gone S V F
  Missed : ℕ → List V → Gone S V F

abbrev pub number_of : {S V F : Type 0} → Gone S V F → ℕ
number_of (Came n ds w e) = w.stream
number_of (Missed k ds) = k

module _ {S V F : Type 0} (view : S → View V) (told : V → DeviceTold) (P : Values → StateMeaning F) where
  -- what was left of a stream that was begun: its end was received, with all that was sent, its tree is among those that came back, and its devices were kept
  pub record HasComeBack (parts : List (Part V F)) (progress : Progress V) (receiver : ReceiverSeen) (tale : Tale) (x : Leftover V) (n : Node) (ds : List V) (w : Origin V F) (e : JobEnd S V) : Type 0 where
    pub begun : at parts w.stream ≡ Some (Begun n ds w)
    pub ends : EndsJob view told P w e
    pub came : tales.Came tale w.stream e.how
    pub got : of_stream w.stream receiver.got ≡ e.sender.sent
    pub closed : IsAmong (w.stream, e.sender.sent) receiver.closed
    pub back : Seen V
    pub taken_in : IsAmong back progress.back
    pub seat_is : view e.seat ≡ back.seat
    pub shelf_is : x.shelf ≡ e.shelf
    pub unopened_is : x.unopened ≡ e.unopened

  -- what is kept of a stream that is no longer open
  abbrev pub IsKept : List (Part V F) → Progress V → ReceiverSeen → Tale → Leftover V → Gone S V F → Type 0
  IsKept parts progress receiver tale x (Came n ds w e) = HasComeBack parts progress receiver tale x n ds w e
  IsKept parts progress receiver tale x (Missed k ds) = (at parts k ≡ Some (Unmade ds)) × (x.shelf ≡ []) × (x.unopened ≡ ds)

  abbrev pub AreKept : List (Part V F) → Progress V → ReceiverSeen → Tale → List (Leftover V) → List (Gone S V F) → Type 0
  AreKept parts progress receiver tale [] [] = Unit {0}
  AreKept parts progress receiver tale (x ∷ xs) (g ∷ gs) = IsKept parts progress receiver tale x g × AreKept parts progress receiver tale xs gs
  AreKept parts progress receiver tale _ _ = ⊥
