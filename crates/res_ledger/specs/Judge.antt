-- Tests of the rules of a ledger.
use Rattle.std.specs.Prelude.{ℕ, Bool, true, ◌&&◌, ◌||◌, not, nat_eq, List, [], ◌∷◌, ◌++◌, flat_map}
use Rattle.std.specs.List.{list_any as any, list_all as all}
use Rattle.res_ledger.specs.declared.event.StreamNo.{StreamNo}
use Rattle.res_ledger.specs.declared.event.StreamNo.TheVariants.{Inner}
use Rattle.res_ledger.specs.declared.event.What.{What}
use Rattle.res_ledger.specs.declared.event.What.TheVariants.{Open, Acquire, Lease, Cancel, Close, Final}
use Rattle.res_ledger.specs.declared.event.Event.{Event}
use Rattle.res_ledger.specs.Own.{own, opens, rows, acquires_of, leased_of, canceled_of, is_closed}
use Rattle.chunk_core.specs.Lists.{has}
use Rattle.res_ledger.specs.Streams.{same_stream}
use Rattle.res_ledger.specs.Order.{covered_by}
use Rattle.res_ledger.specs.Whole.{is_final, is_cancel, final_count, cancel_count}

-- each event passes with the list of those before it, which begins with P
abbrev pub each_after : (List Event → Event → Bool) → List Event → List Event → Bool
each_after test P [] = true
each_after test P (e ∷ L) = test P e && each_after test (P ++ e ∷ []) L

-- an event of some stream passes
abbrev pub is_noted : (What → Bool) → List Event → Bool
is_noted p P = any (λ e. p e.what) P

-- the first number of a pair is x
abbrev pub is_of : ℕ → ℕ × ℕ → Bool
is_of x y = nat_eq y.0 x

-- the row r was acquired
abbrev pub is_acquired : List Event → ℕ → Bool
is_acquired P r = is_noted (λ w. any (is_of r) (acquires_of w)) P

-- there is a lease for j
abbrev pub is_leased : List Event → ℕ → Bool
is_leased P j = is_noted (λ w. any (is_of j) (leased_of w)) P

-- s is the root or was opened, and isn't closed
abbrev pub is_usable : List What → ℕ → Bool
is_usable E s = (nat_eq s 0 || any (is_of s) (opens E)) && not (is_closed E s)

-- the scope in which r was acquired is closed
abbrev pub is_row_closed : List Event → ℕ → Bool
is_row_closed P r = any (λ e. any (λ x. nat_eq x.0 r && is_closed (own e.by P) x.1) (acquires_of e.what)) P

-- each lease in L that covers the row r was canceled in P
abbrev pub is_released : List Event → List Event → ℕ → Bool
is_released L P r = all (λ e. all (λ l. is_noted (is_cancel l.0) P || not (has r (covered_by L l.0))) (leased_of e.what)) L

-- the row r is closed, free of leases and not final
abbrev pub is_handed : List Event → ℕ → Bool
is_handed P r = is_row_closed P r && (is_released P P r && not (is_noted (is_final r) P))

-- k canceled a lease that covers the row r
abbrev pub is_inherited : List Event → StreamNo → ℕ → Bool
is_inherited P k r = any (λ j. has r (covered_by P j)) (flat_map canceled_of (own k P))

-- k is stream j, and each row that it acquired is final
abbrev pub is_finished : List Event → StreamNo → ℕ → Bool
is_finished P k j = same_stream k (Inner j) && all (λ x. is_noted (is_final x.0) P) (rows (own k P))

-- k noted the lease for j, and j noted nothing
abbrev pub is_unstarted : List Event → StreamNo → ℕ → Bool
is_unstarted P k j = any (is_of j) (flat_map leased_of (own k P)) && not (any (λ e. same_stream e.by (Inner j)) P)

-- the event meets its condition on the events before it
abbrev pub may_follow : List Event → StreamNo → What → Bool
may_follow P k (Open s p) = not (nat_eq s 0) && (not (any (is_of s) (opens (own k P))) && is_usable (own k P) p)
may_follow P k (Acquire r s) = not (is_acquired P r) && is_usable (own k P) s
may_follow P k (Lease j s) = not (is_leased P j) && (not (same_stream k (Inner j)) && is_usable (own k P) s)
may_follow P k (Cancel j x) = is_leased P j && (not (is_noted (is_cancel j) P) && (is_finished P k j || is_unstarted P k j))
may_follow P k (Close s x) = is_usable (own k P) s
may_follow P k (Final r x ok) = is_handed P r && (any (is_of r) (rows (own k P)) || is_inherited P k r)

-- a test of IsLegal
abbrev pub is_legal : List Event → Bool
is_legal L = each_after (λ P e. may_follow P e.by e.what) [] L

-- what has to stand in the ledger for an event
abbrev pub is_answered : List Event → StreamNo → What → Bool
is_answered L k (Open s p) = is_closed (own k L) s
is_answered L k (Acquire r s) = nat_eq (final_count r L) 1 && is_closed (own k L) 0
is_answered L k (Lease j s) = nat_eq (cancel_count j L) 1
is_answered L k w = true

-- an event stands behind what has to stand before it
abbrev pub is_late : List Event → List Event → What → Bool
is_late L P (Final r x ok) = is_row_closed P r && is_released L P r
is_late L P w = true

-- a test of IsComplete
abbrev pub is_complete : List Event → Bool
is_complete L = all (λ e. is_answered L e.by e.what) L && each_after (λ P e. is_late L P e.what) [] L
