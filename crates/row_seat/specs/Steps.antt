-- What each step does to what a seat knows: the same as to its view, but for its open rows, of which it has no payloads.
use Rattle.std.specs.Prelude.{ℕ, Bool, true, false, nat_eq, cond, List, [], ◌∷◌, ◌++◌, Option, Some, None}
use Rattle.res_ledger.specs.declared.event.Event.{Event}
use Rattle.res_ledger.specs.declared.event.StreamNo.{StreamNo}
use Rattle.row_seat.specs.declared.token.Token.{Token}
use Rattle.row_seat.specs.declared.view.View.{View}
use Rattle.row_seat.specs.Rule.{view_of}
use Rattle.row_seat.specs.Views as views

-- without the first r
abbrev pub without_one : ℕ → List ℕ → List ℕ
without_one r [] = []
without_one r (x ∷ xs) = cond (nat_eq x r) xs (x ∷ without_one r xs)

module _ {P : Type 0} where
  -- what a seat with this view knows, where these rows are open
  abbrev pub token_of : Bool → List ℕ → View P → Token P
  token_of live rows u = record { live = live; main = u.main; by = u.by; empty = u.empty; opened = rows; pairs = u.pairs; kept = u.kept; handed = u.handed; taken = u.taken; given = u.given; left = u.left; events = u.events; floor = u.floor; spare = u.spare; had = u.had; out = u.out; splits = u.splits }

  -- a step of the view, after which these rows are open
  abbrev pub stepped : Token P → List ℕ → (View P → View P) → Token P
  stepped v rows step = token_of v.live rows (step (view_of v []))

  -- what the first seat knows
  abbrev pub first_token : StreamNo → ℕ → ℕ → ℕ → Token P
  first_token by rows events splits = token_of true [] (views.start by rows events splits)

  -- an event is noted
  abbrev pub noted : Token P → Event → Token P
  noted v e = stepped v v.opened (λ u. views.noted u e)

  -- a row is placed
  abbrev pub placed : Token P → ℕ → Token P
  placed v r = stepped v (v.opened ++ r ∷ []) (λ u. views.emptied u r)

  -- a lease more
  abbrev pub leased : Token P → ℕ → ℕ → Token P
  leased v j r = stepped v v.opened (λ u. views.leased u j r)

  -- a lease less
  abbrev pub gone : Token P → ℕ → ℕ → Token P
  gone v j r = stepped v v.opened (λ u. views.gone u j r)

  -- a row is handed over with a payload
  abbrev pub handed_over : Token P → ℕ → P → Token P
  handed_over v r p = stepped v v.opened (λ u. views.handed_over u r p)

  -- the payload in a slot
  abbrev pub from_slot : ℕ → Option P → List (ℕ × P)
  from_slot r (Some p) = (r, p) ∷ []
  from_slot r None = []

  -- a row is handed over with the payload in its slot
  abbrev pub handed_from : Token P → ℕ → Option P → Token P
  handed_from v r x = stepped v v.opened (λ u. views.handed_with u r (from_slot r x))

  -- a row is closed
  abbrev pub shut : Token P → ℕ → P → Token P
  shut v r p = stepped v (without_one r v.opened) (λ u. views.left_in u r p)

  -- a handed row is taken
  abbrev pub took : Token P → ℕ → Token P
  took v r = stepped v v.opened (λ u. views.took u r)

  -- what the main seat keeps
  abbrev pub split_main : Token P → ℕ → ℕ → ℕ → ℕ → Token P
  split_main v j from to n = stepped v v.opened (λ u. views.split_main u j from to n)

  -- what the seat that is split off gets
  abbrev pub split_off : Token P → ℕ → ℕ → ℕ → ℕ → Token P
  split_off v j from to n = token_of true [] (views.split_off (view_of v []) j from to n)

  -- a seat is taken in
  abbrev pub joined : Token P → Token P → Token P
  joined v w = stepped v v.opened (λ u. views.joined u (view_of w []))

  -- a seat that was taken in
  abbrev pub taken_in : Token P → Token P
  taken_in v = record (first_token v.by 0 0 0) { live = false; main = false }
