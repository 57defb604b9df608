-- What the stream of a seat noted, and what it owes.
use Rattle.std.specs.Prelude.{ℕ, suc, ◌+◌, Bool, cond, flat_map, List, [], ◌∷◌, length}
use Rattle.chunk_core.specs.declared.code.Exit.{Exit}
use Rattle.res_ledger.specs.declared.event.Event.{Event}
use Rattle.res_ledger.specs.declared.event.What.{What}
use Rattle.res_ledger.specs.declared.event.What.TheVariants.{Open, Acquire, Lease, Cancel, Close, Final}
use Rattle.res_ledger.specs.Own.{own, opens, rows, is_closed}
use Rattle.row_seat.specs.declared.view.View.{View}
use Rattle.row_seat.specs.Views.{noted}

-- the numbers of scopes or rows
abbrev pub numbers : List (ℕ × ℕ) → List ℕ
numbers [] = []
numbers (o ∷ os) = o.0 ∷ numbers os

-- how many of the scopes are open
abbrev pub open_of : List What → List ℕ → ℕ
open_of E [] = 0
open_of E (s ∷ ss) = cond (is_closed E s) (open_of E ss) (suc (open_of E ss))

-- how many scopes are open, with the root
abbrev pub open_scopes : List What → ℕ
open_scopes E = open_of E (0 ∷ numbers (opens E))

-- the row that an event ends, with its outcome
abbrev pub ends_of : What → List (ℕ × Bool)
ends_of (Final r x ok) = (r, ok) ∷ []
ends_of w = []

-- the rows that have a Final, with their outcomes, in order
abbrev pub ended_rows : List What → List (ℕ × Bool)
ended_rows E = flat_map ends_of E

module _ {P : Type 0} where
  -- what the seat's own stream noted
  abbrev pub trace : View P → List What
  trace v = own v.by v.events

  -- the rows that it acquired
  abbrev pub own_rows : View P → List ℕ
  own_rows v = numbers (rows (trace v))

  -- the events that close all that is open: a Close for each scope, a Final for each row
  abbrev pub owed : View P → ℕ
  owed v = open_scopes (trace v) + length v.opened

  -- an event of the seat
  abbrev pub opening : View P → ℕ → ℕ → ℕ → Event
  opening v c p n = record { stamp = n; by = v.by; what = Open c p }

  abbrev pub acquiring : View P → ℕ → ℕ → ℕ → Event
  acquiring v r s n = record { stamp = n; by = v.by; what = Acquire r s }

  abbrev pub leasing : View P → ℕ → ℕ → ℕ → Event
  leasing v j s n = record { stamp = n; by = v.by; what = Lease j s }

  abbrev pub canceling : View P → ℕ → Exit → ℕ → Event
  canceling v j x n = record { stamp = n; by = v.by; what = Cancel j x }

  abbrev pub closing : View P → ℕ → Exit → ℕ → Event
  closing v s x n = record { stamp = n; by = v.by; what = Close s x }

  -- the Close of s is noted
  abbrev pub shutting : View P → ℕ → Exit → ℕ → View P
  shutting v s x n = noted v (closing v s x n)
