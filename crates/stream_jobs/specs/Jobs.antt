-- What callers see of a job, and what a turn does.
use Rattle.std.specs.Prelude.{◌≡◌, ℕ, ◌+◌, ◌<◌, ◌^◌, List, ◌++◌, length, Option, Some, None, IfSome, IsSome}
use Rattle.chunk_core.specs.Tables.{Values}
use Rattle.channel_bounded.specs.Ends.{HubSeen, SenderSeen, SenderSees}
use Rattle.channel_bounded.specs.Queue.{KeptBySend}
use Rattle.channel_bounded.specs.declared.message.Msg.{Msg}
use Rattle.device_port.specs.Device.{DeviceTold}
use Rattle.interrupt_ctx.specs.Ends.{BoardSeen, SeatSeen}
use Rattle.pull_turns.specs.Piping.{StateMeaning}
use Rattle.row_seat.specs.declared.view.View.{View}
use Rattle.pull_stepper.specs.Stepping.{Stepping}
use Rattle.stream_jobs.specs.declared.job.Job.{Job}
use Rattle.stream_jobs.specs.declared.job.JobEnd.{JobEnd}
use Rattle.stream_jobs.specs.declared.job.JobTurn.{JobTurn}
use Rattle.stream_jobs.specs.declared.job.JobTurn.TheVariants.{More, Blocked, Over}
use Rattle.stream_jobs.specs.declared.running.Stage.{Stage}
use Rattle.stream_jobs.specs.Learned.{HasLearned}
use Rattle.stream_jobs.specs.Messages.{IsFullMessage, held}
use Rattle.stream_jobs.specs.Places.{HasPlaces}
use Rattle.stream_jobs.specs.Running.{FitsStage, IsEndedJob, Origin, StagePlaces, Stands, ended_at, running_at}
use Rattle.stream_jobs.specs.Steps.{MovesOn}

-- its stepper, unless that has ended, its seat at the board, its sender, and the message that waits for room in the queue
pub record JobSeen (V F : Type 0) : Type 0 where
  pub running : Option (Stepping V F)
  pub board : SeatSeen
  pub sender : SenderSeen
  pub waiting : Option Msg

module _ {V F : Type 0} where
  -- all that was said: what was sent, and what waits
  abbrev pub said : JobSeen V F → List Msg
  said j = j.sender.sent ++ held j.waiting

  -- the job is over: its stepper has ended, and nothing waits
  pub record IsOver (j : JobSeen V F) : Type 0 where
    pub ended : j.running ≡ None
    pub sent : j.waiting ≡ None

  -- it is at the hub and at the board, which has the context of its stream
  pub record IsAt (j : JobSeen V F) (hub : HubSeen) (board : BoardSeen) : Type 0 where
    pub hub_is : j.sender.hub ≡ hub.id
    pub board_is : j.board.board ≡ board.id
    pub context : 1 + j.sender.stream < board.contexts
    pub number : 1 + j.sender.stream < 2 ^ 32

  -- it stays the job of its stream, at its hub and its board
  pub record IsSameJob (a b : JobSeen V F) : Type 0 where
    pub stream : b.sender.stream ≡ a.sender.stream
    pub hub : b.sender.hub ≡ a.sender.hub
    pub board : b.board.board ≡ a.board.board

  -- nothing waited, and the stepper s was run on by one look; what is to be said of it was said
  pub record Advances (P : Values → StateMeaning F) (told : V → DeviceTold) (s : Stepping V F) (a b : JobSeen V F) : Type 0 where
    pub fresh : List Msg
    pub moves : MovesOn P told a.sender.stream s b.running a.board b.board fresh
    pub says : said b ≡ said a ++ fresh

  -- a message waited: there was no look and no turn of the stepper, and nothing else was said
  pub record OnlySends (a b : JobSeen V F) : Type 0 where
    pub running : b.running ≡ a.running
    pub board : b.board ≡ a.board
    pub says : said b ≡ said a

-- at one moment the queue held as many messages as it can, and the sender's fact held of them
pub record FoundFull (may : List Msg → List Msg → Type 0) (capacity : ℕ) (sender : SenderSeen) : Type 0 where
  pub queued : List Msg
  pub full : length queued ≡ capacity
  pub sees : SenderSees may sender queued

module _ {V F : Type 0} where
  -- all was sent, and more is to come; or a message waits, since the queue was full at one moment of the call; or all was sent, and that was the end
  abbrev pub Sends : (List Msg → List Msg → Type 0) → ℕ → JobSeen V F → JobSeen V F → JobTurn → Type 0
  Sends may capacity a b More = IsSome b.running × (b.waiting ≡ None)
  Sends may capacity a b Blocked = IsSome b.waiting × (b.sender ≡ a.sender) × FoundFull may capacity a.sender
  Sends may capacity a b Over = IsOver b

-- each message of the stream that is an end, or whose load has elements, keeps the caller's fact
abbrev pub MaySendAll : (List Msg → List Msg → Type 0) → ℕ → ℕ → Type 0
MaySendAll may capacity k = (sent : List Msg) (m : Msg) → m.stream ≡ k → IsFullMessage m → KeptBySend may capacity k sent m

module _ {S V F D T : Type 0} (view : S → View V) (values : T → Values) where
  abbrev pub running_in : Option (Stage S V F V D T) → Option (Stepping V F)
  running_in None = None
  running_in (Some s) = running_at view values s

  -- what callers see of it
  abbrev pub seen_job : Job S V F V D T → JobSeen V F
  seen_job j = record { running = running_in j.stage; board = j.board; sender = j.sender; waiting = j.waiting }

  module _ (told : V → DeviceTold) where
    -- it is the job of this origin: what was said are the texts of loads of a run, and its end, where it has ended; and its seat at the board has set and seen what goes with that, where it is to
    pub record IsJob (P : Values → StateMeaning F) (w : Origin V F) (j : Job S V F V D T) : Type 0 where
      pub number : j.stream ≡ w.stream
      pub sender : j.sender.stream ≡ w.stream
      pub waits : IfSome j.waiting (λ m. m.stream ≡ w.stream)
      pub full : IfSome j.waiting IsFullMessage
      pub stage : Stage S V F V D T
      pub stage_is : j.stage ≡ Some stage
      pub stands : Stands told P view values w stage (j.sender.sent ++ held j.waiting)
      pub learned : HasLearned w.stream w.board j.board (ended_at stage)
      pub places : StagePlaces view w.stream j.board.view stage

module _ {S V F : Type 0} (view : S → View V) (told : V → DeviceTold) (P : Values → StateMeaning F) where
  -- what is left of a job: the texts of the loads of a run were sent, and then its end; and its seat at the board has set and seen what goes with that, where it is to
  pub record EndsJob (w : Origin V F) (e : JobEnd S V) : Type 0 where
    pub sender : e.sender.stream ≡ w.stream
    pub left : IsEndedJob told P w (view e.seat) e.shelf e.unopened e.how e.sender.sent
    pub learned : HasLearned w.stream w.board e.board (Some e.how)
    pub places : HasPlaces w.stream (view e.seat) e.board.view e.how

-- its tree and devices, or its seat, fit the desk
abbrev pub FitsJob : {S V F D T : Type 0} → (S → View V) → (V → DeviceTold) → (S → D → Type 0) → Job S V F V D T → D → Type 0
FitsJob view told fits j d = (s : Stage _ _ _ _ _ _) × (j.stage ≡ Some s) × FitsStage told view fits s d
