-- How a row's standing changes while a ledger grows.
use Rattle.std.specs.Prelude.{◌≡◌, ◌≢◌, ◌⊎◌, ℕ, ◌≤◌, List, [], ◌∷◌, ◌++◌}
use Rattle.res_ledger.specs.declared.event.What.TheVariants.{Acquire}
use Rattle.res_ledger.specs.declared.event.Event.{Event}
use Rattle.res_ledger.specs.Ledger.{IsLegal}
use Rattle.res_ledger.specs.Standing.{Standing, HasStanding}
use Rattle.res_ledger.specs.Standing.Standing.{Open, Awaiting, Handed, Finalized}

-- the place of a standing in the order
abbrev pub rank : Standing → ℕ
rank Open = 0
rank Awaiting = 1
rank Handed = 2
rank Finalized = 3

-- one event takes a row that stands at s to t: only forward, and awaiting alone may be left out
abbrev pub IsNext : Standing → Standing → Type 0
IsNext Open t = t ≢ Finalized
IsNext Awaiting t = (t ≡ Awaiting) ⊎ (t ≡ Handed)
IsNext Handed t = (t ≡ Handed) ⊎ (t ≡ Finalized)
IsNext Finalized t = t ≡ Finalized

-- in a legal ledger a row that is acquired last is open
abbrev pub StandingBeginsOpen : Type 0
StandingBeginsOpen = (P : List Event) (e : Event) (r s : ℕ) → IsLegal (P ++ e ∷ []) → e.what ≡ Acquire r s → HasStanding (P ++ e ∷ []) r Open

-- each event of a legal ledger leaves a row where it stood or takes it to a next standing
abbrev pub StandingGoesForward : Type 0
StandingGoesForward = (P : List Event) (e : Event) (r : ℕ) (s t : Standing) → IsLegal (P ++ e ∷ []) → HasStanding P r s → HasStanding (P ++ e ∷ []) r t → IsNext s t

-- in a legal ledger no row stands further back than it stood in a front of it
abbrev pub StandingNeverGoesBack : Type 0
StandingNeverGoesBack = (P Q : List Event) (r : ℕ) (s t : Standing) → IsLegal (P ++ Q) → HasStanding P r s → HasStanding (P ++ Q) r t → rank s ≤ rank t

-- a row has one standing
abbrev pub StandingIsOne : Type 0
StandingIsOne = (L : List Event) (r : ℕ) (s t : Standing) → HasStanding L r s → HasStanding L r t → s ≡ t
