-- What one stream noted, in order, and what its scopes and rows are by it.
use Rattle.std.specs.Prelude.{ℕ, Bool, nat_eq, ◌&&◌, ◌||◌, not, if◌then◌else◌, List, [], ◌∷◌, ◌++◌, flat_map, reverse}
use Rattle.std.specs.List.{list_any as any}
use Rattle.chunk_core.specs.Lists.{has}
use Rattle.res_ledger.specs.Streams.{same_stream}
use Rattle.res_ledger.specs.declared.event.StreamNo.{StreamNo}
use Rattle.res_ledger.specs.declared.event.What.{What}
use Rattle.res_ledger.specs.declared.event.What.TheVariants.{Open, Acquire, Lease, Cancel, Close}
use Rattle.res_ledger.specs.declared.event.Event.{Event}

-- what k noted, in order
abbrev pub own : StreamNo → List Event → List What
own k [] = []
own k (e ∷ L) = if same_stream e.by k then e.what ∷ own k L else own k L

-- the scope that an event opens, with its parent
abbrev pub opens_of : What → List (ℕ × ℕ)
opens_of (Open s p) = (s, p) ∷ []
opens_of w = []

-- the row that an event acquires, with its scope
abbrev pub acquires_of : What → List (ℕ × ℕ)
acquires_of (Acquire r s) = (r, s) ∷ []
acquires_of w = []

-- the scope that an event closes
abbrev pub closes_of : What → List ℕ
closes_of (Close s x) = s ∷ []
closes_of w = []

-- the stream that an event leases a scope for, with the scope
abbrev pub leased_of : What → List (ℕ × ℕ)
leased_of (Lease j s) = (j, s) ∷ []
leased_of w = []

-- the stream whose lease an event cancels
abbrev pub canceled_of : What → List ℕ
canceled_of (Cancel j x) = j ∷ []
canceled_of w = []

-- the scopes that were opened, each with its parent, in order
abbrev pub opens : List What → List (ℕ × ℕ)
opens E = flat_map opens_of E

-- the rows that were acquired, each with its scope, in order
abbrev pub rows : List What → List (ℕ × ℕ)
rows E = flat_map acquires_of E

-- the scopes that have a Close of their own
abbrev pub closes : List What → List ℕ
closes E = flat_map closes_of E

-- the rows of the scope s, latest acquired first
abbrev pub latest : List (ℕ × ℕ) → ℕ → List ℕ
latest [] s = []
latest (x ∷ xs) s = latest xs s ++ (if nat_eq x.1 s then x.0 ∷ [] else [])

-- the rows of the scopes below s that were opened in os and are open, latest opened first; a scope below another is opened after it
abbrev pub rows_beneath : List (ℕ × ℕ) → (ℕ → Bool) → List (ℕ × ℕ) → ℕ → List ℕ
rows_beneath [] shut xs s = []
rows_beneath (o ∷ os) shut xs s = rows_beneath os shut xs s ++ (if nat_eq o.1 s && not (shut o.0) then rows_beneath os shut xs o.0 ++ latest xs o.0 else [])

-- what a Close of s after E takes down: the open children of s, latest opened first, and then the rows of s, latest acquired first
abbrev pub teardown : List What → ℕ → List ℕ
teardown E s = rows_beneath (opens E) (λ c. has c (closes E)) (rows E) s ++ latest (rows E) s

-- s and the scopes above it, by the scopes os that were opened, the latest first
abbrev pub up : List (ℕ × ℕ) → ℕ → List ℕ
up [] s = s ∷ []
up (o ∷ os) s = if nat_eq o.0 s then s ∷ up os o.1 else up os s

-- s and the scopes above it
abbrev pub ancestors : List What → ℕ → List ℕ
ancestors E s = up (reverse (opens E)) s

-- s or a scope above it has a Close
abbrev pub is_closed : List What → ℕ → Bool
is_closed E s = any (λ a. has a (closes E)) (ancestors E s)

-- c was opened as a child of s
abbrev pub is_child : List (ℕ × ℕ) → ℕ → ℕ → Bool
is_child os c s = any (λ o. nat_eq o.0 c && nat_eq o.1 s) os

-- a Lease on s after E covers rows of the scope t: t is s, a child of s or above s, and isn't closed
abbrev pub reaches : List What → ℕ → ℕ → Bool
reaches E s t = not (is_closed E t) && (has t (ancestors E s) || is_child (opens E) t s)

-- the rows in the scopes that pass
abbrev pub picked : (ℕ → Bool) → List (ℕ × ℕ) → List ℕ
picked f [] = []
picked f (x ∷ xs) = if f x.1 then x.0 ∷ picked f xs else picked f xs

-- the rows that a Lease on s after E covers, in the order of acquisition
abbrev pub leased_rows : List What → ℕ → List ℕ
leased_rows E s = picked (reaches E s) (rows E)
