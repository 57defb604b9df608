-- The devices of a case, on which no call failed.
use Rattle.std.proofs.Common.{◌≡◌, ℕ, zero, suc, ◌+◌, ◌<◌, ◌≤◌, ◌&&◌, ◌||◌, Bool, true, false, cond, not, nat_eq, List, [], ◌∷◌, map, length, refl, sym, ap, subst, ⊎_elim, append-nil, arith}
use Rattle.std.specs.Prelude.{count_by, flat_map}
use Rattle.std.specs.List.{AllByRecursion, range_with_len}
use Rattle.std.specs.Str.{bytes_eq}
use Rattle.std.proofs.lemmas.Bool.{and_parts, eqb-true}
use Rattle.std.proofs.lemmas.List.Sorted.{IsPermutation-sym}
use Rattle.std.proofs.lemmas.List.Sums.{sum_by-cons}
use Rattle.chunk_core.specs.Lists.{IsAmong}
use Rattle.chunk_core.specs.Lists.IsAmong.{here, there}
use Rattle.chunk_core.proofs.Each.{among_each, among_permuted, each_among}
use Rattle.chunk_core.proofs.Members.{among_cons, among_nil}
use Rattle.res_ledger.specs.declared.event.Event.{Event}
use Rattle.res_ledger.proofs.Mapped.{map_among}
use Rattle.device_port.specs.declared.device.Mode.{Mode}
use Rattle.device_port.specs.declared.device.Mode.TheVariants as mode
use Rattle.device_port.specs.Depot.{DepotTold}
use Rattle.device_port.specs.Device.{DeviceTold, Place, faults_of, is_read}
use Rattle.run_rules.specs.Devices.{DevicesAccounted, came_back, made_for, named, numbered}
use Rattle.run_rules.specs.Facts.{is_mode, is_place}
use Rattle.pipeline_desc.specs.declared.stream.StreamSpec.{StreamSpec}
use Rattle.run_rules.specs.Work.{Stream, row_places}
use Rattle.joined_runs.proofs.Places.{place_itself}
use Rattle.plan_work.specs.Plans.{run_work, stream_of}
use Rattle.gen_case.specs.Plan.{plan_of_case, stream_spec}
use Rattle.gen_case.specs.Runs.{depot_of}
use Rattle.gen_case.specs.Sure.{are_unfailed, faults_but_writes, is_unwritten}
use Rattle.gen_case.specs.declared.case.Case.{Case}

-- the place is for reading
abbrev pub IsForReading : Place → Type 0
IsForReading p = p.mode ≡ mode.Read

-- as a place of the same mode is
reads_as : (m n : Mode) → is_mode m n ≡ true → n ≡ mode.Read → m ≡ mode.Read
reads_as mode.Read n t e = refl
reads_as mode.Write mode.Read t e = cc
reads_as mode.Write mode.Write t e = e

-- a place that stands once among these is for reading, where each of these is
counted_reads : (qs : List Place) → AllByRecursion IsForReading qs → (p : Place) → 0 < count_by (is_place p) qs → IsForReading p
counted_reads [] h p l = absurd (omega arith)
counted_reads (q ∷ qs) h p l = (elim (is_place p q) as (λ b. is_place p q ≡ b → 0 < cond b 1 0 + count_by (is_place p) qs → IsForReading p) [
  | true ↦ λ e k. let parts = and_parts (bytes_eq p.path q.path) (is_mode p.mode q.mode) e in reads_as p.mode q.mode parts.1 h.0
  | false ↦ λ e k. counted_reads qs h.1 p (omega (arith, k))
]) refl (let c = sum_by-cons (λ y. cond (is_place p y) 1 0) q qs in omega (arith, c, l))

one_more : (b : Bool) → b ≡ true → (m : ℕ) → 0 < cond b 1 0 + m
one_more true e m = omega arith
one_more false e m = cc

-- what is among them stands once
counts_itself : (p : Place) (qs : List Place) → IsAmong p qs → 0 < count_by (is_place p) qs
counts_itself p us (here qs) = let c = sum_by-cons (λ y. cond (is_place p y) 1 0) p qs in let l = one_more (is_place p p) (place_itself p) (count_by (is_place p) qs) in omega (arith, c, l)
counts_itself p us (there {xs = rest} q m) = let c = sum_by-cons (λ y. cond (is_place p y) 1 0) q rest in let l = counts_itself p rest m in omega (arith, c, l)

numbered_among : (n : ℕ) (ps : List Place) (x : ℕ × Place) → IsAmong x (numbered n ps) → IsAmong x.1 ps
numbered_among n [] x m = absurd (among_nil m)
numbered_among n (p ∷ ps) x m = ⊎_elim (λ e. subst (λ (y : ℕ × Place). IsAmong y.1 (p ∷ ps)) (sym e) (here ps)) (λ i. there p (numbered_among (n + 1) ps x i)) (among_cons m)

-- where a run makes no more devices than it has rows, all of which are for reading, each that came back is for reading
came_to_read : (old new : DepotTold) (places : List Place) (L : List Event) → AllByRecursion IsForReading places → DevicesAccounted old new places L → AllByRecursion (λ d. IsForReading d.place) (came_back old new)
came_to_read old new places L reads d = each_among (λ x. IsForReading x.place) (came_back old new) (λ x m.
    let made = numbered_among (length old.made) (made_for old new) (named x)
    (among_permuted (map named (came_back old new)) (numbered (length old.made) (made_for old new)) (IsPermutation-sym (numbered (length old.made) (made_for old new)) (map named (came_back old new)) d.once) (named x) (map_among named x (came_back old new) m)) in
    let some = counts_itself x.place (made_for old new) made in
    let few = among_each (λ p. count_by (is_place p) (made_for old new) ≤ count_by (is_place p) places) x.place (made_for old new) d.few made in
    counted_reads places reads x.place (omega (arith, some, few)))

-- the rows of a case's streams are for reading
streams_read : (n a : ℕ) → AllByRecursion IsForReading (flat_map (λ s. s.places) (map stream_of (map stream_spec (range_with_len a n))))
streams_read zero a = tt
streams_read (suc n) a = (refl, streams_read n (a + 1))

-- none of its calls failed
without_faults : (d : DeviceTold) → IsForReading d.place → (nat_eq (faults_but_writes d) 0 && is_unwritten d) ≡ true → faults_of d ≡ 0
without_faults d reads h =
    let parts = and_parts (nat_eq (faults_but_writes d) 0) (is_unwritten d) h in
    let others = eqb-true (faults_but_writes d) 0 parts.0 in
    let writes = eqb-true d.write_faults 0 (subst (λ m. (not (is_read m) || nat_eq d.write_faults 0) ≡ true) reads parts.1) in
    omega (arith, others, writes)

each_without : (ds : List DeviceTold) → are_unfailed ds ≡ true → AllByRecursion (λ d. IsForReading d.place) ds → AllByRecursion (λ d. faults_of d ≡ 0) ds
each_without [] h reads = tt
each_without (d ∷ ds) h reads = let parts = and_parts (nat_eq (faults_but_writes d) 0 && is_unwritten d) (are_unfailed ds) h in (without_faults d reads.0 parts.0, each_without ds parts.1 reads.1)

-- the streams of its work are those that are described
streams_are : (case : Case) → (run_work (plan_of_case case) []).streams ≡ map stream_of (map stream_spec (range_with_len 0 case.streams))
streams_are case = ap (λ (ss : List StreamSpec). map stream_of ss) (append-nil (map stream_spec (range_with_len 0 case.streams)))

-- a run of a case over a depot of which nothing but writes fail had no fault
pub no_faults : (case : Case) (depot : DepotTold) (L : List Event) → are_unfailed depot.retired ≡ true → DevicesAccounted (depot_of case) depot (row_places (run_work (plan_of_case case) [])) L → AllByRecursion (λ d. faults_of d ≡ 0) (came_back (depot_of case) depot)
no_faults case depot L quiet d = each_without depot.retired quiet (came_to_read (depot_of case) depot (row_places (run_work (plan_of_case case) [])) L (refl, subst (λ (ss : List Stream). AllByRecursion IsForReading (flat_map (λ s. s.places) ss)) (sym (streams_are case)) (streams_read case.streams 0)) d)
