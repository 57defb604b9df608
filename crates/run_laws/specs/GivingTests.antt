-- Tests of what the outer stream gives and in which order. They compute on a run that is written out.
use Rattle.std.specs.Prelude.{ℕ, Bool, true, false, ◌&&◌, ◌||◌, not, nat_eq, List, [], ◌∷◌, length, flat_map, Option, Some, None}
use Rattle.std.specs.List.{list_all as all}
use Rattle.chunk_core.specs.Lists.{has}
use Rattle.res_ledger.specs.declared.event.StreamNo.TheVariants.{Outer}
use Rattle.res_ledger.specs.declared.event.What.{What}
use Rattle.res_ledger.specs.declared.event.What.TheVariants.{Open, Acquire, Lease, Cancel, Close, Final}
use Rattle.res_ledger.specs.declared.event.Event.{Event}
use Rattle.res_ledger.specs.Judge.{is_leased}
use Rattle.res_ledger.specs.Order.{covered_by, same_exit}
use Rattle.res_ledger.specs.Own.{leased_of, own}
use Rattle.device_port.specs.Device.{DeviceTold}
use Rattle.run_rules.specs.Facts.{first_numbers}
use Rattle.run_rules.specs.Giving.{givings, giving_all}
use Rattle.run_rules.specs.Homes.{is_tried}
use Rattle.run_rules.specs.Work.{Opener, all_parts, is_lent, opener_places, streams_before}
use Rattle.run_laws.specs.LedgerTests.{is_paced}

abbrev pub same_flag : Bool → Bool → Bool
same_flag true b = b
same_flag false b = not b

abbrev pub same_what : What → What → Bool
same_what (Open s p) (Open t q) = nat_eq s t && nat_eq p q
same_what (Acquire r s) (Acquire q t) = nat_eq r q && nat_eq s t
same_what (Lease j s) (Lease k t) = nat_eq j k && nat_eq s t
same_what (Cancel j x) (Cancel k y) = nat_eq j k && same_exit x y
same_what (Close s x) (Close t y) = nat_eq s t && same_exit x y
same_what (Final r x a) (Final q y b) = nat_eq r q && (same_exit x y && same_flag a b)
same_what v w = false

-- the second list begins with the first
abbrev pub is_front_of : List What → List What → Bool
is_front_of [] ys = true
is_front_of (x ∷ xs) [] = false
is_front_of (x ∷ xs) (y ∷ ys) = same_what x y && is_front_of xs ys

-- the lists are one
abbrev pub are_same : List What → List What → Bool
are_same [] [] = true
are_same [] (y ∷ ys) = false
are_same (x ∷ xs) [] = false
are_same (x ∷ xs) (y ∷ ys) = same_what x y && are_same xs ys

-- the outer stream noted a front of all that it gives
abbrev pub gives_in_order : Opener → ℕ → List Event → Bool
gives_in_order o n L = is_front_of (givings L) (giving_all o n)

-- it noted all of that
abbrev pub gives_all : Opener → ℕ → List Event → Bool
gives_all o n L = are_same (givings L) (giving_all o n)

-- these rows are those of the outer stream that the stream j is lent
abbrev pub are_lent : Opener → ℕ → ℕ → List ℕ → Bool
are_lent o n j covered = all (λ r. not (is_lent o n r j) || has r covered) (first_numbers (length (opener_places o))) && all (λ r. is_lent o n r j) covered

-- each lease of the outer stream covers them
abbrev pub lends_tables : Opener → ℕ → List Event → Bool
lends_tables o n L = all (λ l. are_lent o n l.0 (covered_by L l.0)) (flat_map leased_of (own Outer L))

-- the n streams are given in order, with their tables, and in pace
abbrev pub is_given_well : Opener → ℕ → List Event → Bool
is_given_well o n L = gives_in_order o n L && (lends_tables o n L && is_paced o.max_open n L)

-- where there is an outer stream
abbrev pub is_given_by : Option Opener → ℕ → List Event → Bool
is_given_by None n L = true
is_given_by (Some o) n L = is_given_well o n L

-- the row r was not tried, or the streams of the parts before were leased
abbrev pub is_its_turn : Opener → ℕ → List Event → (ℕ → DeviceTold) → ℕ → Bool
is_its_turn o n L w r = not (is_tried (w r)) || all (is_leased L) (first_numbers (streams_before 0 0 (all_parts o n) r))

-- a row of the outer stream is tried only once the streams of the parts before were leased
abbrev pub takes_turns : Opener → ℕ → List Event → (ℕ → DeviceTold) → Bool
takes_turns o n L w = all (is_its_turn o n L w) (first_numbers (length (opener_places o)))
