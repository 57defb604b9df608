-- What a rotation did, before its devices go back.
use Rattle.std.specs.Prelude.{◌≡◌, ◌⊎◌, ℕ, false, List, [], ◌∷◌, Option, Some, None, Result, Ok, Err}
use Rattle.chunk_core.specs.Outcomes.{exit_of}
use Rattle.chunk_core.specs.declared.code.Code.TheVariants as code
use Rattle.chunk_core.specs.declared.code.Exit.TheVariants.{Errored}
use Rattle.chunk_core.specs.declared.code.How.{How}
use Rattle.chunk_core.specs.declared.code.How.TheVariants as how
use Rattle.device_port.specs.Device.{DeviceTold, to_read}
use Rattle.device_port.specs.Depot.{DepotTold}
use Rattle.res_ledger.specs.declared.event.StreamNo.TheVariants.{Inner}
use Rattle.row_seat.specs.declared.view.View.{View}
use Rattle.row_seat.specs.Views.{IsLedgerOf}
use Rattle.run_rules.specs.Facts.{is_memory}
use Rattle.scope_tree.specs.declared.branch.Spent.{Spent}
use Rattle.scope_tree.specs.Calls.{ClosesScope, IsClosedScope, Seen}
use Rattle.pull_stepper.specs.Held.{FinishesDevice}
use Rattle.hot_swap.specs.declared.swap.Held.{Held}
use Rattle.hot_swap.specs.Swaps.{EndsAll}
use Rattle.rotate_files.specs.declared.stop.Stop.{Stop}
use Rattle.rotate_files.specs.declared.stop.Stop.TheVariants as stop
use Rattle.rotate_files.specs.Beginning.{IsUnused}
use Rattle.rotate_files.specs.Copies.{Copies}
use Rattle.rotate_files.specs.Told.{HasMade, unopened_device}
use Rattle.rotate_run.specs.declared.ran.Ran.{Ran}

-- how a rotation ended whose copying ended so
abbrev pub how_of : {T V : Type 0} → Result T (Stop V) → How
how_of (Ok _) = how.Done
how_of (Err stop.Unread) = how.Fault code.Read
how_of (Err (stop.Unopened d)) = how.Fault code.Open
how_of (Err stop.Unwritten) = how.Fault code.Write
how_of (Err stop.TooMany) = how.Fault code.TooMany
how_of (Err stop.Memory) = how.Memory

-- one device or none
abbrev pub waiting_of : {V : Type 0} → Option V → List V
waiting_of None = []
waiting_of (Some d) = d ∷ []

-- the device that couldn't be opened
abbrev pub unopened_of : {T V : Type 0} → Result T (Stop V) → Option V
unopened_of (Ok _) = None
unopened_of (Err (stop.Unopened d)) = Some d
unopened_of (Err s) = None

module _ {V : Type 0} (told : V → DeviceTold) where
  -- nothing was copied, since the file that is read couldn't be opened: the root was closed, and no row had been acquired
  pub record ClosesUnopened (d : V) (a : Seen V) (seat : View V) (shelf : List (Spent V)) (h : How) (unopened : Option V) : Type 0 where
    pub how : h ≡ how.Fault code.Open
    pub device : unopened ≡ Some d
    pub bare : shelf ≡ []
    pub ends : EndsAll (FinishesDevice told) a None Errored (record a { seat = seat; shelf = shelf })
    pub closes : ClosesScope (FinishesDevice told) a 0 Errored (record a { seat = seat; shelf = shelf })
    pub root : IsClosedScope (record a { seat = seat; shelf = shelf }) 0

  -- it was copied as far as it is told, and then the root was closed as that ended
  pub record ClosesRotation (old : DepotTold) (prefix : List ℕ) (n : ℕ) (path : List ℕ) (now : DepotTold) (seat : View V) (shelf : List (Spent V)) (h : How) (unopened : Option V) : Type 0 where
    pub tree : Seen V
    pub held : Option Held
    pub files : ℕ
    pub left : ℕ
    pub copied : Result (Unit {0}) (Stop V)
    pub copies : Copies told old prefix n path tree held now files left copied
    pub how : h ≡ how_of copied
    pub device : unopened ≡ unopened_of copied
    pub ends : EndsAll (FinishesDevice told) tree held (exit_of h) (record tree { seat = seat; shelf = shelf })
    pub closes : ClosesScope (FinishesDevice told) tree 0 (exit_of h) (record tree { seat = seat; shelf = shelf })
    pub root : IsClosedScope (record tree { seat = seat; shelf = shelf }) 0

  -- the file that is read couldn't be opened, or it was copied
  abbrev pub ClosesEither : DepotTold → List ℕ → ℕ → List ℕ → DepotTold → View V → List (Spent V) → How → Option V → Type 0
  ClosesEither old prefix n path now seat shelf h unopened =
      ((a : Seen V) × (d : V) × IsUnused a × (told d ≡ unopened_device old 0 (to_read path)) × HasMade old path prefix 0 now × ClosesUnopened d a seat shelf h unopened) ⊎ ClosesRotation old prefix n path now seat shelf h unopened

  -- it ran so, and its ledger and its end are told
  pub record RanRotation (old : DepotTold) (prefix : List ℕ) (n : ℕ) (path : List ℕ) (now : DepotTold) (r : Ran V) : Type 0 where
    pub seat : View V
    pub how : How
    pub closes : ClosesEither old prefix n path now seat r.shelf how r.unopened
    pub ledger : IsLedgerOf seat r.outcome.ledger
    pub ends : r.outcome.ends ≡ record { who = Inner 0; how = how } ∷ []
    pub sink : r.outcome.sink_failed ≡ false
    pub memory : r.outcome.memory ≡ is_memory how
