-- How a collector begins, and what its small calls do.
use Rattle.std.specs.Prelude.{◌≡◌, ◌≢◌, ◌⊎◌, ℕ, ◌+◌, ◌*◌, ◌<◌, ◌≤◌, Bool, true, List, [], ◌∷◌, ◌++◌, length, option_to_list, Option, Some, None, IsSome, vec_capacity}
use Rattle.std.specs.VecDeque.{deque_capacity}
use Rattle.chunk_core.specs.Lists.{IsAmong}
use Rattle.chunk_core.specs.Outcomes.{exit_of}
use Rattle.chunk_core.specs.Tables.{Values}
use Rattle.chunk_core.specs.declared.code.Exit.{Exit}
use Rattle.chunk_core.specs.declared.code.How.{How}
use Rattle.chunk_core.specs.declared.code.How.TheVariants as how
use Rattle.device_port.specs.Device.{DeviceTold}
use Rattle.interrupt_ctx.specs.Ends.{first_seat}
use Rattle.interrupt_ctx.specs.Views.{Knows, interruption, split_off}
use Rattle.interrupt_ctx.specs.declared.why.Stop.{Stop}
use Rattle.interrupt_ctx.specs.declared.why.Why.{Why}
use Rattle.interrupt_ctx.specs.declared.why.Why.TheVariants as why
use Rattle.join_report.specs.Reports.{IsReport}
use Rattle.join_report.specs.Stopping.{Interrupts, IsSeated, IsUnknown, view_of, with_seat_out}
use Rattle.join_report.specs.declared.stops.Stops.{Stops}
use Rattle.join_tale.specs.Steps.{first_tale}
use Rattle.join_tree.specs.Given.{GivesMore}
use Rattle.join_tree.specs.Mains.{IsMain}
use Rattle.join_tree.specs.Progress.{Progress, closing_root, none_done, skipping}
use Rattle.join_tree.specs.Steps.{KeepsGuests, KeepsRows, TakesEvents}
pub use Rattle.outer_source.specs.Standing.{unpulled}
use Rattle.pipeline_desc.specs.Meant.{PlanMeant, stream_limit}
use Rattle.pipeline_desc.specs.Places.{first_row, outer_rows}
use Rattle.pipeline_desc.specs.Sound.{IsSoundPlan}
use Rattle.pull_nodes.specs.Shape.{places_of, scope_count}
use Rattle.pull_nodes.specs.declared.node.Node.{Node}
use Rattle.pull_stepper.specs.Held.{FinishesDevice}
use Rattle.pull_stepper.specs.Placing.{first_of}
use Rattle.pull_stepper.specs.Stepping.{begun}
use Rattle.res_ledger.specs.declared.event.Event.{Event}
use Rattle.res_ledger.specs.declared.event.StreamNo.TheVariants.{Outer}
use Rattle.res_ledger.specs.declared.event.What.TheVariants.{Close}
use Rattle.row_seat.specs.declared.view.View.{View}
use Rattle.row_seat.specs.Views.{IsWithin, start}
use Rattle.scope_tree.specs.Calls.{KeepsScopes, Seen, TakesRoom, used}
use Rattle.scope_tree.specs.Released.{away}
use Rattle.scope_tree.specs.declared.room.Room.{Room}
use Rattle.scope_tree.specs.Trees.{Fits, seen}
use Rattle.scope_tree.specs.Visible.{row_room, scope_room}
use Rattle.tree_laws.specs.Called.{Called}
use Rattle.stream_jobs.specs.declared.job.Job.{Job}
use Rattle.stream_jobs.specs.Jobs.{FitsJob, IsAt, IsJob, seen_job}
use Rattle.stream_jobs.specs.Running.{Origin}
use Rattle.stream_jobs.specs.Unmade.{IsOfNode}
use Rattle.collector.specs.declared.collector.Collector.{Collector}
use Rattle.collector.specs.declared.collector.JoinRoom.{JoinRoom}
use Rattle.dealt_streams.specs.Standing.{plan_parts}
use Rattle.collector.specs.Members.{Members}
use Rattle.collector.specs.Trees.{events_from}

-- Room for the streams of a plan: the board, on which nothing is set, with its first seat; a channel in which nothing was sent, which queues as many messages as the plan says; a report in which nothing was noted; and no lease, no job and nothing that was left.
pub record IsRoomFor {S V F D T : Type 0} (p : PlanMeant) (r : JoinRoom S V F D T) : Type 0 where
  pub seated : IsSeated r.stops
  pub seat : r.stops.seat ≡ first_seat r.stops.board.id
  pub contexts : r.stops.board.contexts ≡ stream_limit p + 1
  pub receiver : r.receiver ≡ record { hub = r.hub.id; got = []; made = []; closed = [] }
  pub queue : r.hub.capacity ≡ p.queue
  pub some : p.take ≢ Some 0 → IsReport p.take (stream_limit p) first_tale r.report
  pub none : p.take ≡ Some 0 → IsReport p.take (stream_limit p) (record first_tale { ceased = true }) r.report
  pub waiting : r.queues.waiting.items ≡ []
  pub waiting_room : deque_capacity r.queues.waiting ≡ 2
  pub jobs : r.queues.jobs.items ≡ []
  pub jobs_room : deque_capacity r.queues.jobs ≡ p.max_open
  pub left : r.left.items ≡ []
  pub left_room : stream_limit p ≤ vec_capacity r.left
  pub parts : r.parts ≡ plan_parts p

-- what a collector took for good
abbrev pub room_of : {S V F D T : Type 0} → Collector S V F D T → JoinRoom S V F D T
room_of c = record { stops = c.stops; hub = c.hub; receiver = c.receiver; report = c.report; queues = record { waiting = c.waiting; jobs = c.jobs }; left = c.left; parts = c.parts }

-- the scopes that the outer stream opens at most: one for each group, and one for the list
abbrev pub child_scopes : PlanMeant → ℕ
child_scopes p = length p.groups + length (option_to_list p.list)

-- the events that it notes at most beside its leases and the Close of its root: an Acquire and a Final for each of its rows, and an Open and a Close for each of these scopes
abbrev pub outer_events : PlanMeant → ℕ
outer_events p = 2 * outer_rows p + 2 * child_scopes p

-- The seat is the main one, with all rows of a plan, and room for all events and seats of its streams and of its outer stream.
pub record IsFirstSeat {P : Type 0} (p : PlanMeant) (v : View P) : Type 0 where
  pub rows : ℕ
  pub events : ℕ
  pub splits : ℕ
  pub is : v ≡ start Outer rows events splits
  pub all_rows : first_row p (stream_limit p) ≤ rows
  pub all_events : 1 + outer_events p + stream_limit p + events_from p 0 ≤ events
  pub all_splits : stream_limit p ≤ splits

-- the collector of a plan is about to begin, over a main tree that has just begun, with room for the rows and the scopes of the outer stream
pub record IsFresh {S V F D T : Type 0} (M : Members S V F D T) (p : PlanMeant) (d : D) (c : Collector S V F D T) : Type 0 where
  pub sound : IsSoundPlan p
  pub fits_desk : Fits M.view M.fits c.tree d
  pub main : IsMain (FinishesDevice M.told) p.max_open (stream_limit p) (seen M.view c.tree) (none_done V)
  pub seat : IsFirstSeat p (seen M.view c.tree).seat
  pub rows : outer_rows p ≤ (seen M.view c.tree).rows
  pub used : used (seen M.view c.tree) ≡ 0
  pub scopes : 1 + child_scopes p ≤ (seen M.view c.tree).scopes
  pub outer : c.outer ≡ None
  pub given : c.outer_stream ≡ unpulled
  pub next : c.next ≡ 0
  pub room : IsRoomFor p (room_of c)

module _ {P : Type 0} (ends : P → Exit → Bool → P → Type 0) where
  -- the lease of the next stream, on the rows T, was cancelled
  pub record PassesOver (j : ℕ) (T : List ℕ) (a b : Seen P) : Type 0 where
    pub main : (width n : ℕ) (p : Progress P) (us : List (ℕ × List ℕ)) → IsMain ends width n a p → p.waits ≡ (j, T) ∷ us → IsMain ends width n b (skipping p us)
    pub guests : KeepsGuests a b
    pub rows : KeepsRows a.seat b.seat
    pub scopes : KeepsScopes a b
    pub room : TakesRoom 0 0 a b
    pub gives : GivesMore [] a b
    pub opened : b.seat.opened ≡ a.seat.opened
    pub events : TakesEvents (1 + away T a.seat.opened) a b

  -- the root was closed as the outer stream ended
  pub record ClosesOuter (h : How) (a b : Seen P) : Type 0 where
    pub main : (width n : ℕ) (p : Progress P) → IsMain ends width n a p → p.root ≡ None → IsMain ends width n b (closing_root p (exit_of h))
    pub guests : KeepsGuests a b
    pub rows : KeepsRows a.seat b.seat
    pub gives : GivesMore [] a b
    pub events : TakesEvents 0 a b
    pub called : Called ends a [] b

-- the outer stream closed its root behind the first n events of the ledger
abbrev pub ClosesOuterBehind : {P : Type 0} → ℕ → Seen P → Type 0
ClosesOuterBehind n b = (e : Event) (x : Exit) → IsAmong e b.seat.events → e.by ≡ Outer → e.what ≡ Close 0 x → n ≤ e.stamp

-- the whole run was interrupted for this cause, behind all that the main tree has noted, or found interrupted
abbrev pub StopsBehind : {P : Type 0} → Seen P → Stops → Stops → Why → Type 0
StopsBehind b old new why = (w : Stop) × (w.why ≡ why) × ((e : Event) → IsAmong e b.seat.events → e.stamp < w.at) × Interrupts old new 0 w

-- why the run is interrupted where the outer stream is over so: it failed, or memory was wanting
abbrev pub cause_of : How → Option Why
cause_of how.Done = None
cause_of how.Halted = None
cause_of (how.Fault f) = Some why.Fault
cause_of how.Memory = Some why.Memory

-- a code was found for the next stream, its own, which was set by then where there is room for one job alone, or that of the whole run, or the outer stream was stopped
abbrev pub MaySkip : {S V F D T : Type 0} → Collector S V F D T → Type 0
MaySkip c = ((w : Stop) × IsAmong (interruption 0 w) (view_of c.stops).seen) ⊎ ((w : Stop) × IsAmong (interruption (1 + c.next) w) (view_of c.stops).seen × (deque_capacity c.jobs ≡ 1 → IsAmong (interruption (1 + c.next) w) (view_of c.stops).set)) ⊎ ((h : How) × (c.outer ≡ Some h) × (h ≢ how.Done))

-- where the whole run is known to be interrupted, the outer stream has ended, and gave no further stream
abbrev pub GivesNoneIfStopped : {S V F D T : Type 0} → Collector S V F D T → Collector S V F D T → Type 0
GivesNoneIfStopped old new = (w : Stop) → old.outer ≡ None → Knows (view_of old.stops) 0 w → IsSome new.outer × (new.outer_stream.outer.leased ≡ old.outer_stream.outer.leased)

-- a further stream waits, or the outer stream has ended
abbrev pub IsAhead : {S V F D T : Type 0} → Collector S V F D T → Type 0
IsAhead c = c.outer ≡ None → 1 ≤ length c.waiting.items

-- neither the whole run nor the next stream is interrupted
abbrev pub MayBegin : {S V F D T : Type 0} → Collector S V F D T → Type 0
MayBegin c = IsUnknown (view_of c.stops) 0 × IsUnknown (view_of c.stops) (1 + c.next)

-- the rows of a node are empty in the seat of a stream, which has room for all its events, for the Cancel of its lease on the rows T and for their Finals; its tree has room for just its scopes, and for its rows and these
pub record HasRoomAsGuest {V P : Type 0} (v : View V) (n : Node) (room : Room P) (T : List ℕ) : Type 0 where
  pub empty : (r : ℕ) → IsWithin (first_of (places_of n)) (first_of (places_of n) + length (places_of n)) r → IsAmong r v.empty
  pub events : 2 * length (places_of n) + 2 * scope_count n + 1 + 1 + length T ≤ v.spare
  pub scopes : scope_room room ≡ scope_count n + 1
  pub rows : length (places_of n) + length T ≤ row_room room

-- the next stream of a collector, with a lease on the rows T, is about to run a node over this tree, these devices and tables with these values, in reads of at most so many bytes
abbrev pub origin_of : {S V F D T : Type 0} → Collector S V F D T → List ℕ → Node → Seen V → List V → Values → ℕ → Origin V F
origin_of c rows n a ds values chunk = record { stream = c.next; leased = rows; start = begun n a ds values chunk; board = record c.stops.seat { view = split_off (view_of c.stops) } }

-- a seat at the board and a sender are out for the next stream
abbrev pub with_seats_out : {S V F D T : Type 0} → Collector S V F D T → Collector S V F D T
with_seats_out c = record c { stops = with_seat_out c.stops; receiver = record c.receiver { made = c.receiver.made ++ c.next ∷ [] } }

-- The job of the next stream was made over a tree whose seat stood so: it is of such an origin, fits the desk, and is at the hub and at the board.
pub record MakesJob {S V F D T : Type 0} (M : Members S V F D T) (c : Collector S V F D T) (v : View V) (rows : List ℕ) (n : Node) (ds : List V) (t : Values) (chunk : ℕ) (d : D) (j : Job S V F V D T) : Type 0 where
  pub site : Seen V
  pub seat : site.seat ≡ v
  pub scopes : site.scopes ≡ scope_count n + 1
  pub is_of : IsOfNode M.told n site ds (origin_of c rows n site ds t chunk)
  pub job : IsJob M.view M.values M.told M.stands (origin_of c rows n site ds t chunk) j
  pub fits_desk : FitsJob M.view M.told M.fits j d
  pub place : IsAt (seen_job M.view M.values j) c.hub c.stops.board
