-- Tests of a run's ledger, devices, rows and frames beyond those of res_ledger. They compute on a run that is written out.
use Rattle.std.specs.Prelude.{ℕ, ◌+◌, Bool, true, false, ◌&&◌, ◌||◌, not, nat_eq, nat_le, nat_lt, Option, Some, None, List, [], ◌∷◌, ◌++◌, length, count_by, flat_map}
use Rattle.std.specs.List.{list_any as any, list_all as all, range_with_len}
use Rattle.chunk_core.specs.Texts.{Frame}
use Rattle.chunk_core.specs.declared.code.Exit.TheVariants.{Succeeded}
use Rattle.res_ledger.specs.declared.event.StreamNo.{StreamNo}
use Rattle.res_ledger.specs.declared.event.StreamNo.TheVariants.{Outer, Inner}
use Rattle.res_ledger.specs.declared.event.What.{What}
use Rattle.res_ledger.specs.declared.event.What.TheVariants.{Cancel, Close, Lease}
use Rattle.res_ledger.specs.declared.event.Event.{Event}
use Rattle.res_ledger.specs.Judge.{each_after, is_leased}
use Rattle.res_ledger.specs.Order.{same_exit}
use Rattle.res_ledger.specs.Own.{leased_of, own}
use Rattle.res_ledger.specs.Streams.{same_stream}
use Rattle.res_ledger.specs.Whole.{is_cancel}
use Rattle.device_port.specs.declared.device.Mode.TheVariants as mode
use Rattle.device_port.specs.Device.{DeviceTold, faults_of}
use Rattle.run_rules.specs.Facts.{acquired_row, acts, at, first_numbers, has_event, is_mode, leased_stream}
use Rattle.run_rules.specs.Pace.{is_active, is_standing}
use Rattle.run_rules.specs.Work.{RunRecord, Work, first_row_of, names_of, owners_of, places_by}
use Rattle.run_laws.specs.EndTests.{is_root_closed}

-- Whose the events are.

-- only the outer stream leases, and for streams that are there
abbrev pub may_lease : ℕ → StreamNo → Option ℕ → Bool
may_lease n k None = true
may_lease n k (Some j) = same_stream k Outer && nat_lt j n

-- the row is one of the stream's own
abbrev pub is_owned : List StreamNo → StreamNo → Option ℕ → Bool
is_owned owners k None = true
is_owned owners k (Some r) = elim (at owners r) [ Some q ↦ same_stream q k | None ↦ false ]

-- an event is by a stream of the work, leases as it may, and acquires a row of its own stream
abbrev pub is_ours : Work → Event → Bool
is_ours work e = any (same_stream e.by) (names_of work) && (may_lease (length work.streams) e.by (leased_stream e.what) && is_owned (owners_of work) e.by (acquired_row e.what))

-- a stream cancels its own lease only where it closed its root
abbrev pub leaves_closed : List Event → StreamNo → What → Bool
leaves_closed P (Inner j) (Cancel i x) = not (nat_eq i j) || is_root_closed P (Inner j)
leaves_closed P k w = true

abbrev pub is_leaving_closed : List Event → Bool
is_leaving_closed L = each_after (λ P e. leaves_closed P e.by e.what) [] L

-- Pace.

-- the outer stream leased for j
abbrev pub is_given : List Event → ℕ → Bool
is_given P j = any (λ l. nat_eq l.0 j) (flat_map leased_of (own Outer P))

-- a Close of the root that succeeded
abbrev pub is_good_close : What → Bool
is_good_close (Close s x) = nat_eq s 0 && same_exit x Succeeded
is_good_close w = false

-- the outer stream closed its root, which succeeded
abbrev pub is_closed_well : List Event → Bool
is_closed_well P = any is_good_close (own Outer P)

-- an event of an inner stream was announced
abbrev pub is_announced : List Event → StreamNo → Bool
is_announced P Outer = true
is_announced P (Inner k) = is_given P k && (is_given P (k + 1) || is_closed_well P)

abbrev pub is_ahead : List Event → Bool
is_ahead L = each_after (λ P e. is_announced P e.by) [] L

-- at each event at most `width` of the n inner streams are open
abbrev pub is_within : ℕ → ℕ → List Event → Bool
is_within width n L = each_after (λ P e. nat_le (count_by (is_active P e) (first_numbers n)) width) [] L

-- a lease stands behind those for the streams before
abbrev pub leases_in_turn : List Event → What → Bool
leases_in_turn P (Lease j s) = all (is_leased P) (first_numbers j)
leases_in_turn P w = true

abbrev pub leases_in_order : List Event → Bool
leases_in_order L = each_after (λ P e. leases_in_turn P e.what) [] L

-- at each event the leases of at most `width` of the n inner streams stand, and one more
abbrev pub outer_waits : ℕ → ℕ → List Event → Bool
outer_waits width n L = each_after (λ P e. nat_le (count_by (is_standing (P ++ e ∷ [])) (first_numbers n)) (width + 1)) [] L

-- the leases of all streams before it but fewer than `width` have their Cancel
abbrev pub begins_in_turn : ℕ → List Event → StreamNo → Bool
begins_in_turn width P Outer = true
begins_in_turn width P (Inner k) = nat_lt (count_by (λ i. not (has_event (is_cancel i) P)) (first_numbers k)) width

abbrev pub begin_in_order : ℕ → List Event → Bool
begin_in_order width L = each_after (λ P e. begins_in_turn width P e.by) [] L

-- all of it
abbrev pub is_paced : ℕ → ℕ → List Event → Bool
is_paced width n L = is_ahead L && (is_within width n L && (leases_in_order L && (outer_waits width n L && begin_in_order width L)))

-- Devices, rows and frames.

abbrev pub is_empty : List ℕ → Bool
is_empty [] = true
is_empty (b ∷ bs) = false

-- the path isn't there
abbrev pub is_absent : Option Bool → Bool
is_absent None = false
is_absent (Some b) = not b

-- no more was read of the device than there is
abbrev pub is_read_within : DeviceTold → Bool
is_read_within d = elim d.content [ Some bytes ↦ nat_le d.at (length bytes) | None ↦ true ]

-- the device isn't open: it was closed as often as it was opened, which was once at most, and where its path was there, and no more of it was read than there is
abbrev pub is_shut : DeviceTold → Bool
is_shut d = not d.is_open && (nat_eq d.closes d.opens && (nat_le d.opens 1 && ((not (is_mode d.place.mode mode.Read && is_absent d.present) || nat_eq d.opens 0) && is_read_within d)))

-- nothing was done on the device
abbrev pub is_untouched : DeviceTold → Bool
is_untouched d = nat_eq d.opens 0 && (nat_eq d.at 0 && (elim d.written [ Some w ↦ is_empty w | None ↦ true ] && nat_eq (faults_of d) 0))

-- stream k noted something, or nothing was done on its devices
abbrev pub is_left_alone : Work → RunRecord → (ℕ → DeviceTold) → ℕ → Bool
is_left_alone work c w k = acts (Inner k) c.events || all (λ r. is_untouched (w r)) (range_with_len (first_row_of work k) (length (places_by work (Inner k))))

abbrev pub are_left_alone : Work → RunRecord → (ℕ → DeviceTold) → Bool
are_left_alone work c w = all (is_left_alone work c w) (first_numbers (length work.streams))

-- no frame of a later stream stands before one of an earlier one
abbrev pub never_fall : List Frame → Bool
never_fall [] = true
never_fall (f ∷ F) = all (λ g. nat_le f.stream g.stream) F && never_fall F
