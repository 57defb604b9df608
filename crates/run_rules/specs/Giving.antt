-- In which order the outer stream reads its tables and its list, gives its streams, and opens and closes scopes for them.
use Rattle.std.specs.Prelude.{◌≡◌, ℕ, zero, suc, ◌+◌, Bool, true, false, List, [], ◌∷◌, ◌++◌, filter, map}
use Rattle.std.specs.List.{range_with_len}
use Rattle.chunk_core.specs.declared.code.Exit.TheVariants.{Succeeded}
use Rattle.res_ledger.specs.declared.event.StreamNo.TheVariants.{Outer}
use Rattle.res_ledger.specs.declared.event.What.{What}
use Rattle.res_ledger.specs.declared.event.What.TheVariants.{Open, Acquire, Lease, Cancel, Close, Final}
use Rattle.res_ledger.specs.declared.event.Event.{Event}
use Rattle.res_ledger.specs.Own.{own}
use Rattle.run_rules.specs.Work.{Opener, Part, parts_of, top_of}

-- what is neither a Final, nor a Cancel, nor a Close of the root
abbrev pub is_giving : What → Bool
is_giving (Open s p) = true
is_giving (Acquire r s) = true
is_giving (Lease j s) = true
is_giving (Cancel j x) = false
is_giving (Close zero x) = false
is_giving (Close (suc s) x) = true
is_giving (Final r x ok) = false

-- what the outer stream noted of this, in order
abbrev pub givings : List Event → List What
givings L = filter is_giving (own Outer L)

-- n rows from r on are acquired in the scope s
abbrev pub acquires : ℕ → ℕ → ℕ → List What
acquires s r n = map (λ q. Acquire q s) (range_with_len r n)

-- the scope s is leased for n streams from j on
abbrev pub leases_for : ℕ → ℕ → ℕ → List What
leases_for s j n = map (λ k. Lease k s) (range_with_len j n)

-- a part in the scope s, with its rows from r and its streams from j on
abbrev pub giving_part : ℕ → ℕ → ℕ → Part → List What
giving_part s r j p = acquires s r p.tables ++ leases_for s j p.streams

-- each of these parts in a child of the root, from the scope s on, which is opened before it and closed behind it
abbrev pub giving_children : ℕ → ℕ → ℕ → List Part → List What
giving_children s r j [] = []
giving_children s r j (p ∷ ps) = Open s 0 ∷ (giving_part s r j p ++ Close s Succeeded ∷ giving_children (suc s) (r + p.tables) (j + p.streams) ps)

-- all that an outer stream with n streams notes of this: the top's part in its root, and then the others
abbrev pub giving_all : Opener → ℕ → List What
giving_all o n = giving_part 0 0 0 (top_of o n) ++ giving_children 1 (top_of o n).tables (top_of o n).streams (parts_of o)

-- it noted a front of that
abbrev pub GivesInOrder : Opener → ℕ → List Event → Type 0
GivesInOrder o n L = (rest : List What) × (givings L ++ rest ≡ giving_all o n)

-- it noted all of that
abbrev pub GivesAll : Opener → ℕ → List Event → Type 0
GivesAll o n L = givings L ≡ giving_all o n
