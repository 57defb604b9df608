-- A stream on its way.
use Rattle.std.specs.Prelude.{◌≡◌, ℕ, ◌+◌, ◌*◌, ◌≤◌, List, [], ◌∷◌, ◌++◌, length, Option, Some, None}
use Rattle.chunk_core.specs.Elements.{elements_of}
use Rattle.chunk_core.specs.Tables.{Values}
use Rattle.chunk_core.specs.declared.code.How.{How}
use Rattle.chunk_core.specs.declared.load.Load.{Load}
use Rattle.channel_bounded.specs.declared.message.Msg.{Msg}
use Rattle.device_port.specs.Device.{DeviceTold}
use Rattle.interrupt_ctx.specs.Ends.{SeatSeen}
use Rattle.interrupt_ctx.specs.declared.view.View.{View as BoardView}
use Rattle.pull_turns.specs.Around.{Goes}
use Rattle.pull_turns.specs.Led.{Led, end_of}
use Rattle.pull_turns.specs.Piping.{StateMeaning}
use Rattle.pull_turns.specs.Failures.{IsToldRunOfRest}
use Rattle.pull_turns.specs.Rest.{rows_left, scopes_left}
use Rattle.pull_turns.specs.Turned.{Spends, SpendsWithin}
use Rattle.row_seat.specs.declared.view.View.{View}
use Rattle.scope_tree.specs.declared.branch.Spent.{Spent}
use Rattle.scope_tree.specs.Visible.{lessee, rows_covered}
use Rattle.tree_laws.specs.Visits.{IsNewGuest}
use Rattle.pull_stepper.specs.Held.{FinishesDevice}
use Rattle.pull_stepper.specs.Sites.{Since, around, told_at}
use Rattle.pull_stepper.specs.Steppers.{Works, stepping}
use Rattle.pull_stepper.specs.Stepping.{CanGo, Stepping}
use Rattle.stream_jobs.specs.declared.running.Running.{Running}
use Rattle.stream_jobs.specs.declared.running.Stage.{Stage}
use Rattle.stream_jobs.specs.declared.running.Stage.TheVariants as stage
use Rattle.stream_jobs.specs.Leaving.{Leaves}
use Rattle.stream_jobs.specs.Messages.{AreFilled, AreTextsOf, end_message, load_messages}
use Rattle.stream_jobs.specs.Places.{HasPlaces}

-- what a job is of: its stream, the rows of its lease, and its stepper and its seat at the board as they were at first
pub record Origin (V F : Type 0) : Type 0 where
  pub stream : ℕ
  pub leased : List ℕ
  pub start : Stepping V F
  pub board : SeatSeen

module _ {V F : Type 0} (told : V → DeviceTold) where
  -- its seat was just split off, with its lease; and beyond what its node needs there is room for the Cancel, and for each row of the lease
  pub record IsBegun (w : Origin V F) : Type 0 where
    pub guest : IsNewGuest w.start.site.tree.seat w.stream w.start.site.tree.seat.floor w.leased
    pub events : 1 + length w.leased + (2 * rows_left w.start.rest + 2 * scopes_left w.start.rest) ≤ (around told w.start.site).events
    pub rows : length w.leased + rows_left w.start.rest ≤ (around told w.start.site).rows

  module _ (P : Values → StateMeaning F) where
    -- its stepper gave these loads, and may go on
    pub record HasGiven (w : Origin V F) (s : Stepping V F) (loads : List Load) : Type 0 where
      pub led : Led (P w.start.tables) (told_at told w.start.site) (told_at told s.site) w.start.rest s.rest (elements_of loads)
      pub filled : AreFilled loads
      pub since : Since told (FinishesDevice told) w.start.site s.site
      pub tables : s.tables ≡ w.start.tables
      pub spends : Spends (around told w.start.site) (around told s.site) w.start.rest s.rest
      pub can : CanGo P told s

    -- its stepper gave these loads and has ended so: they are those of a run, by what its devices tell at the end, and the end tells of each failure of these
    pub record HasRun (w : Origin V F) (s : Stepping V F) (h : How) (loads : List Load) : Type 0 where
      pub run : IsToldRunOfRest (P w.start.tables) (told_at told s.site) w.start.rest (elements_of loads) (end_of h)
      pub filled : AreFilled loads
      pub since : Since told (FinishesDevice told) w.start.site s.site
      pub goes : (p : ℕ) → Goes (told_at told w.start.site p) (told_at told s.site p)
      pub spends : SpendsWithin (around told w.start.site) (around told s.site) w.start.rest

    -- it has ended so: the texts of the loads of a run were said, and then its end; and its seat, its shelf and its unopened devices are what it left
    pub record IsEndedJob (w : Origin V F) (seat : View V) (shelf : List (Spent V)) (unopened : List V) (h : How) (said : List Msg) : Type 0 where
      pub begun : IsBegun w
      pub loads : List Load
      pub texts : List Load
      pub texts_are : AreTextsOf loads texts
      pub said_is : said ≡ load_messages w.stream texts ++ end_message w.stream h ∷ []
      pub last_step : Stepping V F
      pub run : HasRun w last_step h loads
      pub leaves : Leaves told w.stream w.leased w.start.site last_step seat shelf unopened h

    module _ {S D T : Type 0} (view : S → View V) (values : T → Values) where
      -- it runs, and has given the loads whose texts were said
      pub record RunsOn (w : Origin V F) (r : Running S V F V D T) (said : List Msg) : Type 0 where
        pub stream : r.stream ≡ w.stream
        pub lease : lessee r.lease.0 ≡ w.stream
        pub leased : rows_covered r.lease.0 ≡ w.leased
        pub begun : IsBegun w
        pub loads : List Load
        pub given : HasGiven w (stepping view values r.stepper) loads
        pub texts : List Load
        pub texts_are : AreTextsOf loads texts
        pub said_is : said ≡ load_messages w.stream texts

      -- what was said, by how far it is
      abbrev pub Stands : Origin V F → Stage S V F V D T → List Msg → Type 0
      Stands w (stage.Running r) said = RunsOn w r said
      Stands w (stage.Left l) said = IsEndedJob w (view l.seat) l.shelf l.unopened l.how said

  -- its tree and devices, or its seat, fit the desk
  abbrev pub FitsStage : {S D T : Type 0} → (S → View V) → (S → D → Type 0) → Stage S V F V D T → D → Type 0
  FitsStage view fits (stage.Running r) d = Works view told fits r.stepper d
  FitsStage view fits (stage.Left l) d = fits l.seat d

-- where it has left, what it set and obeyed lies where it is to
abbrev pub StagePlaces : {S V F D T : Type 0} → (S → View V) → ℕ → BoardView → Stage S V F V D T → Type 0
StagePlaces view k board (stage.Running r) = Unit {0}
StagePlaces view k board (stage.Left l) = HasPlaces k (view l.seat) board l.how

-- its stepper, unless that has ended
abbrev pub running_at : {S V F D T : Type 0} → (S → View V) → (T → Values) → Stage S V F V D T → Option (Stepping V F)
running_at view values (stage.Running r) = Some (stepping view values r.stepper)
running_at view values (stage.Left l) = None

-- how its stepper has ended, if it has
abbrev pub ended_at : {S V F D T : Type 0} → Stage S V F V D T → Option How
ended_at (stage.Running r) = None
ended_at (stage.Left l) = Some l.how
