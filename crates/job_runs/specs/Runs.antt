-- What a job has done that is over.
use Rattle.std.specs.Prelude.{◌≡◌, ℕ, ◌+◌, ◌^◌, ◌≤◌, nat_eq, List, [], ◌∷◌, ◌++◌, map, length}
use Rattle.std.specs.List.{IsDistinct, range_with_len}
use Rattle.std.specs.List.Sorted.{IsPermutation}
use Rattle.chunk_core.specs.Lists.{IsAmong}
use Rattle.chunk_core.specs.Tables.{Values}
use Rattle.chunk_core.specs.declared.code.How.{How}
use Rattle.chunk_core.specs.declared.load.Load.{Load}
use Rattle.chunk_core.specs.Elements.{elements_of}
use Rattle.device_port.specs.Device.{DeviceTold}
use Rattle.pull_nodes.specs.Failures.{IsToldRun}
use Rattle.pull_nodes.specs.Shape.{scope_count}
use Rattle.pull_nodes.specs.declared.node.Node.{Node}
use Rattle.pull_turns.specs.Led.{end_of}
use Rattle.pull_turns.specs.Piping.{StateMeaning}
use Rattle.res_ledger.specs.declared.event.Event.{Event}
use Rattle.res_ledger.specs.Order.{firsts}
use Rattle.row_seat.specs.declared.view.View.{View}
use Rattle.row_seat.specs.Views.{IsWithin}
use Rattle.scope_tree.specs.declared.branch.Spent.{Spent}
use Rattle.scope_tree.specs.Calls.{Seen}
use Rattle.scope_tree.specs.Released.{said}
use Rattle.tree_laws.specs.Ends.{IsFinishedLedger}
use Rattle.tree_laws.specs.Visits.{HasNothingOpen, Visits}
use Rattle.tree_laws.specs.Whole.{IsWholeLedger}
use Rattle.tree_families.specs.Leaving.{LeavesLast}
use Rattle.pull_stepper.specs.Held.{FinishesDevice}
use Rattle.stream_jobs.specs.declared.job.JobEnd.{JobEnd}
use Rattle.stream_jobs.specs.Jobs.{EndsJob}
use Rattle.stream_jobs.specs.Messages.{AreFilled, AreTextsOf, end_message, load_messages}
use Rattle.stream_jobs.specs.Running.{Origin}
use Rattle.stream_jobs.specs.Unmade.{IsOfNode}
use Rattle.stream_parts.specs.Retire.{devices_of}
use Rattle.stream_parts.specs.Same.{AreSame}
use Rattle.joined_runs.specs.Devices.{IsAtRest}
use Rattle.joined_runs.specs.Shares.{IsShare}
use Rattle.job_runs.specs.Rows.{CoversNone, EndsAs, from_row, to_row}

module _ {V : Type 0} (told : V → DeviceTold) where
  -- Stream k ran the node over these devices, which came to tell `home`, with this floor and a lease on the rows T, and ended so; this is what its tree left. The tree, as it stood
  -- last, closed its root and then cancelled the lease. Each of the devices stands on the shelf or was never opened; behind these stand the rows of T that it was the last to leave.
  -- Of a ledger that has its events, in which no lease covers a row of its own, this is its share, wherever its rows and those of T have devices that ended so.
  pub record HasVisited (n : Node) (devices : List V) (k floor : ℕ) (T : List ℕ) (home : ℕ → DeviceTold) (seat : View V) (shelf : List (Spent V)) (unopened : List V) (how : How) : Type 0 where
    pub last : Seen V
    pub seat_is : seat ≡ last.seat
    pub shelf_is : shelf ≡ last.shelf
    pub visit : Visits (FinishesDevice told) k floor T last
    pub bare : visit.first.shelf ≡ []
    pub rest : HasNothingOpen last.seat
    pub leaves : LeavesLast last
    pub mine : List (Spent V)
    pub lent : List (Spent V)
    pub parts : shelf ≡ mine ++ lent
    pub once : IsDistinct nat_eq (firsts (said shelf))
    pub leased : (x : Spent V) → IsAmong x lent → IsAmong x.row T
    pub stood : (x : Spent V) → IsAmong x mine → IsWithin (from_row n) (to_row n) x.row × (told x.pay ≡ home x.row)
    pub same : AreSame told home (from_row n) devices
    pub each : IsPermutation (map home (range_with_len (from_row n) (length devices))) (devices_of told mine unopened)
    pub still : (q : ℕ) → IsWithin (from_row n) (to_row n) q → IsAtRest (home q)
    pub within : (q : ℕ) → IsWithin (from_row n) (to_row n) q → (home q).at ≤ 2 ^ 40
    pub share : (w : ℕ → DeviceTold) (u : View V) (L : List Event) → IsFinishedLedger last u L → IsWholeLedger L → CoversNone (from_row n) (to_row n) L → ((q : ℕ) → IsWithin (from_row n) (to_row n) q → w q ≡ home q) → ((x : Spent V) → IsAmong x lent → EndsAs w x)
        → IsShare k (from_row n) (to_row n) (scope_count n) w how L

  -- a job whose stream k was to run the node is over: it sent the texts of the loads of a run, by what the devices tell that came back, and then its end
  pub record RunsJob {S : Type 0} (view : S → View V) (values : Values) (n : Node) (devices : List V) (k floor : ℕ) (T : List ℕ) (e : JobEnd S V) : Type 0 where
    pub home : ℕ → DeviceTold
    pub visited : HasVisited n devices k floor T home (view e.seat) e.shelf e.unopened e.how
    pub loads : List Load
    pub filled : AreFilled loads
    pub run : IsToldRun values home n (elements_of loads) (end_of e.how)
    pub texts : List Load
    pub texts_are : AreTextsOf loads texts
    pub sent : e.sender.sent ≡ load_messages k texts ++ end_message k e.how ∷ []

-- what is left of a job whose stream was to run a node in a tree with just room for its scopes
abbrev pub JobsEnd : {S V F : Type 0} → (S → View V) → (V → DeviceTold) → (Values → StateMeaning F) → Type 0
JobsEnd {S} {V} {F} view told P = (n : Node) (a : Seen V) (devices : List V) (w : Origin V F) (e : JobEnd S V) → IsOfNode told n a devices w → a.scopes ≡ scope_count n + 1 → EndsJob view told P w e
    → RunsJob told view (P w.start.tables).values n devices w.stream a.seat.floor w.leased e
