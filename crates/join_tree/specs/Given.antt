-- What the outer stream noted as it gave streams: of its child scopes, its rows and its leases.
use Rattle.std.specs.Prelude.{◌≡◌, ℕ, List, [], ◌∷◌, ◌++◌, filter, Option, Some, None}
use Rattle.res_ledger.specs.declared.event.What.{What}
use Rattle.res_ledger.specs.declared.event.What.TheVariants.{Lease}
use Rattle.row_seat.specs.declared.view.View.{View}
use Rattle.run_rules.specs.Giving.{is_giving}
use Rattle.scope_tree.specs.Calls.{Seen}
use Rattle.scope_tree.specs.Trace.{trace}

module _ {P : Type 0} where
  -- what is neither a Final, nor a Cancel, nor a Close of the root, of what the seat's own stream noted
  abbrev pub given : View P → List What
  given v = filter is_giving (trace v)

  -- so much more was noted so
  abbrev pub GivesMore : List What → Seen P → Seen P → Type 0
  GivesMore E a b = given b.seat ≡ given a.seat ++ E

-- what a pull noted so: a lease of the root for the stream j, where it gave one
abbrev pub pulled : {L : Type 0} → ℕ → Option L → List What
pulled j (Some l) = Lease j 0 ∷ []
pulled j None = []
