-- Rotations that are written out were done.
use Rattle.std.proofs.Common.{◌≡◌, ◌≢◌, ◌⊎◌, ◌↔◌, ◌+◌, ◌<◌, ◌≤◌, ℕ, zero, suc, Bool, true, false, nat_eq, List, [], ◌∷◌, ◌++◌, length, map, filter, Option, Some, None, IfSome, refl, sym, ap, ◌∙◌, subst, ⊎_elim, inl, inr, arith}
use Rattle.std.specs.Prelude.{codes}
use Rattle.std.specs.Fmt.{digits}
use Rattle.std.specs.List.{AllByRecursion, IsDistinct, count_by, range_with_len}
use Rattle.std.specs.Str.{bytes_eq}
use Rattle.std.proofs.lemmas.Bool.{cases_Bool, false≢true}
use Rattle.std.proofs.lemmas.List.Sorted.{IsPermutation-refl}
use Rattle.std.proofs.lemmas.List.Sums.{length-filter}
use Rattle.std.proofs.lemmas.Slice.Eq.{bytes_eq-Decides}
use Rattle.chunk_core.specs.Lists.{IsAmong}
use Rattle.chunk_core.specs.Lists.IsAmong.{here, there}
use Rattle.chunk_core.specs.Outcomes.{Done, Fault}
use Rattle.chunk_core.specs.declared.code.Code.TheVariants as code
use Rattle.chunk_core.specs.declared.code.Exit.{Exit}
use Rattle.chunk_core.specs.declared.code.Exit.TheVariants.{Succeeded, Errored, Canceled}
use Rattle.chunk_core.specs.declared.code.How.{How}
use Rattle.chunk_core.specs.declared.code.How.TheVariants as how
use Rattle.chunk_core.proofs.Members.{among_cons, among_nil}
use Rattle.device_port.specs.Device.{DeviceTold, Place, to_read, to_write}
use Rattle.device_port.specs.Depot.{DepotTold, content_at}
use Rattle.device_port.specs.declared.device.Mode.TheVariants as mode
use Rattle.res_ledger.specs.declared.event.Event.{Event}
use Rattle.res_ledger.specs.declared.event.StreamNo.TheVariants.{Inner}
use Rattle.res_ledger.specs.Ledger.{NotesClose}
use Rattle.run_rules.specs.Devices.{AreAsMany, AreNoMore, DevicesAccounted, IsWrittenBy, is_closed_with}
use Rattle.run_rules.specs.Ends.{HaveEnds, IsLast as IsLastStream, IsShown}
use Rattle.run_rules.specs.Facts.{acquired_row, at, ended_row, is_place}
use Rattle.run_rules.specs.Homes.{AreAtHome, AreLeftAlone, IsBack, IsUntouched}
use Rattle.run_rules.specs.Run.{Performs}
use Rattle.run_rules.specs.declared.end.EndOf.{EndOf}
use Rattle.res_ledger.specs.declared.event.What.TheVariants.{Close}
use Rattle.chunk_core.proofs.Each.{among_each}
use Rattle.run_rules.specs.Work.{RunRecord, Values, row_places}
use Rattle.rotate_rules.specs.Pieces.{IsLast, Rotated, file_name, piece_of, rotate_places, rotate_work}
use Rattle.rotate_rules.specs.Rotation.{RotatesFiles, TellsFaults}
use Rattle.rotate_rules.specs.Worked.{failed_open, two_files}
use Rattle.headline_laws.proofs.Ledgers.{failed_open_hold, failed_open_keep, two_files_hold, two_files_keep}
use Rattle.headline_laws.proofs.Misrotated.{first_name, second_name}
use Rattle.headline_laws.specs.Calls.{a, closed_device, depot_before, end_of_0, file}
use Rattle.headline_laws.specs.Rotated.{failed_devices, p, piece_device, rotated_depot, rotation_record, six, two_devices, unopened_device, with_both, with_first}

-- a rotation has no tables
abbrev no_values : Values
no_values t key = None

-- a file for which no device was made
abbrev idle_file : ℕ → DeviceTold
idle_file i = record (piece_device 0 (file_name p i) [] Succeeded) { opens = 0; closes = 0; exit = None }

-- the devices of the rows, of which three were made
abbrev home : DeviceTold → DeviceTold → DeviceTold → ℕ → DeviceTold
home d0 d1 d2 zero = d0
home d0 d1 d2 (suc zero) = d1
home d0 d1 d2 (suc (suc zero)) = d2
home d0 d1 d2 (suc (suc (suc k))) = idle_file (suc (suc k))

-- a row at its place
abbrev IsHomeAt : RunRecord → (ℕ → DeviceTold) → ℕ → Place → Type 0
IsHomeAt c w r q = ((w r).place ≡ q) × ((w r).content ≡ content_at c.depot_old.files q.path) × (IsBack c (w r) ⊎ IsUntouched (w r))

rows_at_home : (c : RunRecord) (w : ℕ → DeviceTold) (r : ℕ) (ps : List Place) → ((i : ℕ) (q : Place) → at ps i ≡ Some q → IsHomeAt c w (r + i) q) → AreAtHome c w r ps
rows_at_home c w r [] h = tt
rows_at_home c w r (q ∷ ps) h =
    let first : IsHomeAt c w r q = let e : r + 0 ≡ r = omega arith in subst (λ s. IsHomeAt c w s q) e (h 0 q refl) in
    (first.0, first.1, first.2, rows_at_home c w (r + 1) ps (λ i s e. let n : r + suc i ≡ r + 1 + i = omega arith in subst (λ x. IsHomeAt c w x s) n (h (suc i) s e)))

-- what stands at a place of a list by numbers
at_number : (f : ℕ → Place) (x n i : ℕ) (q : Place) → at (map f (range_with_len x n)) i ≡ Some q → q ≡ f (x + i)
at_number f x zero i q e = let no : ⊥ = cc in absurd no
at_number f x (suc n) zero q e = let same : f x ≡ q = cc in let m : x ≡ x + 0 = omega arith in sym same ∙ ap f m
at_number f x (suc n) (suc i) q e = let m : x + 1 + i ≡ x + suc i = omega arith in at_number f (x + 1) n i q e ∙ ap f m

no_fault : 0 < 0 → ⊥
no_fault l = omega (arith, l)

reads_only : mode.Read ≢ mode.Write
reads_only e = cc

picked : (q : Place) (ps : List Place) (i : ℕ) → is_place q q ≡ true → at ps i ≡ Some q → 1 ≤ length (filter (is_place q) ps)
picked q [] i same e = let no : ⊥ = cc in absurd no
picked q (r ∷ ps) zero same e = let is : r ≡ q = cc in let t : is_place q r ≡ true = ap (λ x. is_place q x) is ∙ same in rw t (omega arith)
picked q (r ∷ ps) (suc i) same e = let l = picked q ps i same e in ⊎_elim (λ t. rw t (omega arith)) (λ f. rw f l) (cases_Bool (is_place q r))

-- a place that stands among others is counted
counted : (q : Place) (ps : List Place) (i : ℕ) → is_place q q ≡ true → at ps i ≡ Some q → 1 ≤ count_by (is_place q) ps
counted q ps i same e = let l = picked q ps i same e in let n = length-filter (is_place q) ps in omega (arith, l, n)

first_place : at (rotate_places a p) 1 ≡ Some (to_write (codes "p.0"))
first_place = ap (λ x. Some (to_write x)) first_name

second_place : at (rotate_places a p) 2 ≡ Some (to_write (codes "p.1"))
second_place = ap (λ x. Some (to_write x)) second_name

-- three devices were made, in their order
few_made : AreNoMore (to_read a ∷ to_write (codes "p.0") ∷ to_write (codes "p.1") ∷ []) (row_places (rotate_work a p 4))
few_made = (
  counted (to_read a) (row_places (rotate_work a p 4)) 0 refl refl,
  (counted (to_write (codes "p.0")) (row_places (rotate_work a p 4)) 1 refl first_place, (counted (to_write (codes "p.1")) (row_places (rotate_work a p 4)) 2 refl second_place, tt)),
)

-- a path that isn't there was opened by no reader
not_missing : ◌≢◌ {A = Option Bool} (Some true) (Some false)
not_missing e = cc

module _ (h : How) (L : List Event) (new : DepotTold) (d0 d1 d2 : DeviceTold) where
  abbrev run : RunRecord
  run = rotation_record new h L false

  abbrev w : ℕ → DeviceTold
  w = home d0 d1 d2

  module _ (came : new.retired ≡ d0 ∷ d1 ∷ d2 ∷ []) (p0 : d0.place ≡ to_read a) (p1 : d1.place ≡ to_write (codes "p.0")) (p2 : d2.place ≡ to_write (codes "p.1")) (c0 : d0.content ≡ Some six) (c1 : d1.content ≡ Some []) (c2 : d2.content ≡ Some []) where
    is_back : (d : DeviceTold) → IsAmong d (d0 ∷ d1 ∷ d2 ∷ []) → IsBack run d
    is_back d m = subst (λ ds. IsAmong d ds) (sym came) m

    file_at_home : (i : ℕ) → IsHomeAt run w (suc i) (to_write (file_name p i))
    file_at_home zero = (p1 ∙ sym (ap to_write first_name), c1, inl (is_back d1 (there d0 (here _))))
    file_at_home (suc zero) = (p2 ∙ sym (ap to_write second_name), c2, inl (is_back d2 (there d0 (there d1 (here _)))))
    file_at_home (suc (suc i)) = (refl, refl, inr (record { opens = refl; at = refl; written = refl; faults = refl }))

    row_at_home : (i : ℕ) (q : Place) → at (row_places (rotate_work a p 4)) i ≡ Some q → IsHomeAt run w (0 + i) q
    row_at_home zero q e = let is : to_read a ≡ q = cc in subst (λ x. IsHomeAt run w 0 x) is (p0, c0, inl (is_back d0 (here _)))
    row_at_home (suc i) q e =
        let is : q ≡ to_write (file_name p (0 + i)) = at_number (λ i. to_write (file_name p i)) 0 1024 i q e in
        let n : 0 + i ≡ i = omega arith in
        let m : suc i ≡ 0 + suc i = omega arith in
        subst (λ r. IsHomeAt run w r q) m (subst (λ x. IsHomeAt run w (suc i) x) (sym (is ∙ ap (λ j. to_write (file_name p j)) n)) (file_at_home i))

    all_at_home : AreAtHome run w 0 (row_places (rotate_work a p 4))
    all_at_home = rows_at_home run w 0 (row_places (rotate_work a p 4)) row_at_home

    housed_by : (d : DeviceTold) → IsBack run d → (r : ℕ) × (r < 1025) × (d ≡ w r)
    housed_by d b =
        ⊎_elim (λ (e : d ≡ d0). (0, omega arith, e)) (λ m. ⊎_elim (λ (e : d ≡ d1). (1, omega arith, e)) (λ m. ⊎_elim (λ (e : d ≡ d2). (2, omega arith, e)) (λ m. absurd (among_nil m)) (among_cons m)) (among_cons m)) (among_cons (subst (λ ds. IsAmong d ds) came b))

-- nobody but stream 0 noted anything
last_of : (L : List Event) → ((e : Event) → IsAmong e L → e.by ≡ Inner 0) → (k : ℕ) → IsLastStream k L
last_of L mine k j n = let e : Inner j ≡ Inner 0 = sym n.2 ∙ mine n.0 n.1 in let z : j ≡ 0 = cc in omega (arith, z)

by_0 : (L : List Event) → AllByRecursion (λ e. e.by ≡ Inner 0) L → (e : Event) → IsAmong e L → e.by ≡ Inner 0
by_0 L all e m = among_each (λ (e : Event). e.by ≡ Inner 0) e L all m

-- an end that isn't want of memory
ends_of : (h : How) (L : List Event) (new : DepotTold) (w : ℕ → DeviceTold) → h ≢ how.Halted → h ≢ how.Memory → IsShown new.retired (rotate_places a p ++ []) h → NotesClose L (Inner 0) 0 → ((e : Event) → IsAmong e L → e.by ≡ Inner 0)
    → HaveEnds (rotate_work a p 4) (rotation_record new h L false) w
ends_of h L new w going ample fault root mine = record {
  named = refl;
  caused = (record { halted = λ e. absurd (going e); fault = fault; root = λ b. root }, tt);
  outer = tt;
  stopped = record { failed = λ t. absurd (false≢true t); silenced = λ t. absurd (false≢true t); ended = λ t. absurd (false≢true t); halted = λ e k m who is early. inr (last_of L mine k); nobody = λ t. let no : ⊥ = cc in absurd no };
  begins = tt;
  memory = λ e m is. ⊎_elim (λ (q : e ≡ end_of_0 h). absurd (ample (sym (ap (λ (x : EndOf). x.how) q) ∙ is))) (λ m. absurd (among_nil m)) (among_cons m);
}

-- Two files.

abbrev both : DepotTold
both = rotated_depot (with_both (codes "abcd") (codes "ef")) (two_devices (codes "abcd") (codes "ef"))

abbrev first : DeviceTold
first = piece_device 1 (codes "p.0") (codes "abcd") Succeeded

abbrev second : DeviceTold
second = piece_device 2 (codes "p.1") (codes "ef") Succeeded

abbrev reader : DeviceTold
reader = closed_device six 6 true Succeeded 0 0

abbrev run_of_two : RunRecord
run_of_two = rotation_record both how.Done two_files false

abbrev home_of_two : ℕ → DeviceTold
home_of_two = home reader first second

-- the path is that of the test, or it isn't
same_path : (x y : List ℕ) → bytes_eq x y ≡ true → y ≡ x
same_path x y t = sym ((bytes_eq-Decides x y).0 t)

neither : (path x y : List ℕ) → bytes_eq (codes "p.1") path ≡ false → bytes_eq (codes "p.0") path ≡ false → with_both x y path ≡ file a six path
neither path x y f g = rw (f, g) refl

not_first : (path x : List ℕ) → bytes_eq (codes "p.0") path ≡ false → with_first x path ≡ file a six path
not_first path x g = rw g refl

kept_but_two : (path : List ℕ) → IsWrittenBy both.retired path ⊎ (with_both (codes "abcd") (codes "ef") path ≡ file a six path)
kept_but_two path =
    ⊎_elim
    (λ t. inl (second, there _ (there _ (here _)), refl, refl, same_path (codes "p.1") path t))
    (λ f. ⊎_elim (λ t. inl (first, there _ (here _), refl, refl, same_path (codes "p.0") path t)) (λ g. inr (neither path (codes "abcd") (codes "ef") f g)) (cases_Bool (bytes_eq (codes "p.0") path)))
    (cases_Bool (bytes_eq (codes "p.1") path))

acquired_two : AreAsMany (λ d. nat_eq d.opens 1) acquired_row both.retired (row_places (rotate_work a p 4)) two_files
unfolding digits
acquired_two = (refl, (refl, (refl, (refl, (refl, (refl, tt))))))

exits_of_two : (x : Exit) → AreAsMany (is_closed_with x) (ended_row x) both.retired (row_places (rotate_work a p 4)) two_files
unfolding digits
exits_of_two Succeeded = (refl, (refl, (refl, (refl, (refl, (refl, tt))))))
exits_of_two Errored = tt
exits_of_two Canceled = tt

accounted_two : DevicesAccounted (depot_before six) both (row_places (rotate_work a p 4)) two_files
accounted_two = record {
  made = refl;
  few = few_made;
  retired = refl;
  once = IsPermutation-refl _;
  shut = (record { shut = refl; closes = refl; once = omega arith; there = λ reads missing. absurd (not_missing missing); within = omega arith }, (record { shut = refl; closes = refl; once = omega arith; there = λ reads missing. let no : ⊥ = cc in absurd no; within = omega arith }, (record { shut = refl; closes = refl; once = omega arith; there = λ reads missing. let no : ⊥ = cc in absurd no; within = omega arith }, tt)));
  rows = (omega arith, (tt, (omega arith, (tt, (omega arith, (tt, (tt, (tt, (tt, (tt, tt))))))))));
  acquired = acquired_two;
  failed = tt;
  exits = exits_of_two;
  files = kept_but_two;
  stored = ((λ writes. absurd (reads_only writes)), ((λ writes opened. refl), ((λ writes opened. refl), tt)));
}

pieces_of_two : Rotated 4 home_of_two Done
pieces_of_two = record {
  given = six;
  files = 2;
  few = omega arith;
  front = ([], refl);
  opened = opened;
  enough = λ i. ((λ l. omega (arith, l)), (λ l. omega (arith, l)));
  whole = whole;
  last = last;
  says = record { ended = refl; count = refl; bytes = refl };
}
  where
    opened_at : (i : ℕ) → (i < 2) ↔ ((home_of_two (suc i)).opens ≡ 1)
    opened_at zero = ((λ l. refl), (λ e. omega arith))
    opened_at (suc zero) = ((λ l. refl), (λ e. omega arith))
    opened_at (suc (suc i)) = ((λ l. absurd (omega (arith, l))), (λ e. absurd (omega (arith, e))))

    opened : (i : ℕ) → i < 1024 → (i < 2) ↔ ((home_of_two (1 + i)).opens ≡ 1)
    opened i l = let n : suc i ≡ 1 + i = omega arith in subst (λ r. (i < 2) ↔ ((home_of_two r).opens ≡ 1)) n (opened_at i)

    whole : (i : ℕ) → i + 1 < 2 → IfSome (home_of_two (1 + i)).written (λ b. b ≡ piece_of 4 six i)
    whole zero l = refl
    whole (suc i) l = absurd (omega (arith, l))

    last : (i : ℕ) → i + 1 ≡ 2 → IfSome (home_of_two (1 + i)).written (λ b. IsLast Done b (piece_of 4 six i))
    last zero e = absurd (omega (arith, e))
    last (suc zero) e = refl
    last (suc (suc i)) e = absurd (omega (arith, e))

apart_two : IsDistinct nat_eq (0 ∷ 1 ∷ 2 ∷ [])
unfolding IsDistinct
apart_two = ((refl, (refl, tt)), ((refl, tt), (tt, tt)))

root_of_two : NotesClose two_files (Inner 0) 0
root_of_two = (Succeeded, (record { stamp = 7; by = Inner 0; what = Close 0 Succeeded }, there _ (there _ (there _ (there _ (there _ (there _ (there _ (here _))))))), refl, refl))

mine_two : (e : Event) → IsAmong e two_files → e.by ≡ Inner 0
mine_two = by_0 two_files (refl, (refl, (refl, (refl, (refl, (refl, (refl, (refl, (refl, (refl, tt))))))))))

pub two_performs : Performs (rotate_work a p 4) run_of_two
two_performs = record {
  devices = accounted_two;
  ledger = two_files_keep 4 a p;
  ran = inr (record {
    values = no_values;
    home = home_of_two;
    rows = record {
      at_home = all_at_home how.Done two_files both reader first second refl refl refl refl refl refl refl;
      apart = apart_two;
      tied = (refl, (tt, (refl, (tt, (refl, (tt, ((refl, refl), (tt, ((refl, refl), ((refl, refl), tt))))))))));
      values = tt;
      alone = alone;
      housed = housed_by how.Done two_files both reader first second refl refl refl refl refl refl refl;
    };
    outputs = record { numbers = tt; few = tt; in_turn = λ t. absurd (false≢true t); outputs = (record { pieces = []; end = Done; run = inl (refl, pieces_of_two); printed = refl; reported = refl }, refl); rest = refl };
    ends = ends_of how.Done two_files both home_of_two (λ e. cc) (λ e. cc) tt root_of_two mine_two;
    exits = (record { how = how.Done; same = inl refl; told = (tt, (tt, (tt, (tt, (tt, (tt, (tt, (refl, (tt, (tt, tt)))))))))); ran = λ k q. ([], Done, (refl, pieces_of_two), refl) }, tt);
    wanting = λ t. absurd (false≢true t);
    completeness = λ m n. record { done = (refl, tt); clean = refl; listed = tt; output = (([], (refl, pieces_of_two, inl refl), refl), tt) };
  });
}
  where
    alone : AreLeftAlone (rotate_work a p 4) run_of_two home_of_two
    alone zero r s is idle l m = absurd (idle (root_of_two.1.0, root_of_two.1.1, root_of_two.1.2))
    alone (suc k) r s is idle l m = let no : ⊥ = cc in absurd no

calm : (d : DeviceTold) → d.open_faults ≡ 0 → d.read_faults ≡ 0 → d.write_faults ≡ 0 → (h : How) → TellsFaults h d
calm d o r w h = record { opens = λ l. absurd (omega (arith, l, o)); reads = λ l. absurd (omega (arith, l, r)); writes = λ l. absurd (omega (arith, l, w)) }

pub two_rotates : RotatesFiles a p 4 run_of_two
two_rotates = record {
  performs = two_performs;
  rotation = record {
    two = two_files_hold;
    never_halted = ((λ e. cc), tt);
    begun = λ e. let no : ⊥ = cc in absurd no;
    memory = λ t. absurd (false≢true t);
    tried = (refl, (refl, (refl, tt)));
    told = ((calm reader refl refl refl how.Done, (calm first refl refl refl how.Done, (calm second refl refl refl how.Done, tt))), tt);
  };
}

-- One file, and a second that could not be opened.

abbrev one : DepotTold
one = rotated_depot (with_first (codes "abcd")) failed_devices

abbrev stopped_reader : DeviceTold
stopped_reader = closed_device six 6 false Errored 0 0

abbrev only : DeviceTold
only = piece_device 1 (codes "p.0") (codes "abcd") Errored

abbrev unopened : DeviceTold
unopened = unopened_device 2 (codes "p.1")

abbrev run_of_one : RunRecord
run_of_one = rotation_record one (how.Fault code.Open) failed_open false

abbrev home_of_one : ℕ → DeviceTold
home_of_one = home stopped_reader only unopened

kept_but_one : (path : List ℕ) → IsWrittenBy one.retired path ⊎ (with_first (codes "abcd") path ≡ file a six path)
kept_but_one path = ⊎_elim (λ t. inl (only, there _ (here _), refl, refl, same_path (codes "p.0") path t)) (λ g. inr (not_first path (codes "abcd") g)) (cases_Bool (bytes_eq (codes "p.0") path))

acquired_one : AreAsMany (λ d. nat_eq d.opens 1) acquired_row one.retired (row_places (rotate_work a p 4)) failed_open
unfolding digits
acquired_one = (refl, (refl, (refl, (refl, tt))))

exits_of_one : (x : Exit) → AreAsMany (is_closed_with x) (ended_row x) one.retired (row_places (rotate_work a p 4)) failed_open
unfolding digits
exits_of_one Succeeded = tt
exits_of_one Errored = (refl, (refl, (refl, (refl, tt))))
exits_of_one Canceled = tt

accounted_one : DevicesAccounted (depot_before six) one (row_places (rotate_work a p 4)) failed_open
accounted_one = record {
  made = refl;
  few = few_made;
  retired = refl;
  once = IsPermutation-refl _;
  shut = (record { shut = refl; closes = refl; once = omega arith; there = λ reads missing. absurd (not_missing missing); within = omega arith }, (record { shut = refl; closes = refl; once = omega arith; there = λ reads missing. let no : ⊥ = cc in absurd no; within = omega arith }, (record { shut = refl; closes = refl; once = omega arith; there = λ reads missing. refl; within = omega arith }, tt)));
  rows = (omega arith, (tt, (omega arith, (tt, (tt, (tt, tt))))));
  acquired = acquired_one;
  failed = tt;
  exits = exits_of_one;
  files = kept_but_one;
  stored = ((λ writes. absurd (reads_only writes)), ((λ writes opened. refl), ((λ writes opened. let no : ⊥ = cc in absurd no), tt)));
}

pieces_of_one : Rotated 4 home_of_one (Fault code.Open)
pieces_of_one = record {
  given = codes "abcd";
  files = 1;
  few = omega arith;
  front = (codes "ef", refl);
  opened = opened;
  enough = λ i. ((λ l. omega (arith, l)), (λ l. omega (arith, l)));
  whole = λ i l. absurd (omega (arith, l));
  last = last;
  says = tt;
}
  where
    opened_at : (i : ℕ) → (i < 1) ↔ ((home_of_one (suc i)).opens ≡ 1)
    opened_at zero = ((λ l. refl), (λ e. omega arith))
    opened_at (suc zero) = ((λ l. absurd (omega (arith, l))), (λ e. absurd (omega (arith, e))))
    opened_at (suc (suc i)) = ((λ l. absurd (omega (arith, l))), (λ e. absurd (omega (arith, e))))

    opened : (i : ℕ) → i < 1024 → (i < 1) ↔ ((home_of_one (1 + i)).opens ≡ 1)
    opened i l = let n : suc i ≡ 1 + i = omega arith in subst (λ r. (i < 1) ↔ ((home_of_one r).opens ≡ 1)) n (opened_at i)

    last : (i : ℕ) → i + 1 ≡ 1 → IfSome (home_of_one (1 + i)).written (λ b. IsLast (Fault code.Open) b (piece_of 4 (codes "abcd") i))
    last zero e = refl
    last (suc i) e = absurd (omega (arith, e))

root_of_one : NotesClose failed_open (Inner 0) 0
root_of_one = (Errored, (record { stamp = 3; by = Inner 0; what = Close 0 Errored }, there _ (there _ (there _ (here _))), refl, refl))

mine_one : (e : Event) → IsAmong e failed_open → e.by ≡ Inner 0
mine_one = by_0 failed_open (refl, (refl, (refl, (refl, (refl, (refl, tt))))))

shown_one : IsShown one.retired (rotate_places a p ++ []) (how.Fault code.Open)
shown_one = (unopened, there _ (there _ (here _)), subst (λ x. IsAmong (to_write x) (rotate_places a p ++ [])) second_name (there _ (there _ (here _))), omega arith)

pub one_performs : Performs (rotate_work a p 4) run_of_one
one_performs = record {
  devices = accounted_one;
  ledger = failed_open_keep 4 a p;
  ran = inr (record {
    values = no_values;
    home = home_of_one;
    rows = record {
      at_home = all_at_home (how.Fault code.Open) failed_open one stopped_reader only unopened refl refl refl refl refl refl refl;
      apart = apart_two;
      tied = (refl, (tt, (refl, (tt, ((refl, refl), ((refl, refl), tt))))));
      values = tt;
      alone = alone;
      housed = housed_by (how.Fault code.Open) failed_open one stopped_reader only unopened refl refl refl refl refl refl refl;
    };
    outputs = record { numbers = tt; few = tt; in_turn = λ t. absurd (false≢true t); outputs = (record { pieces = []; end = Fault code.Open; run = inl (refl, pieces_of_one); printed = refl; reported = refl }, refl); rest = refl };
    ends = ends_of (how.Fault code.Open) failed_open one home_of_one (λ e. cc) (λ e. cc) shown_one root_of_one mine_one;
    exits = (record { how = how.Fault code.Open; same = inl refl; told = (tt, (tt, (tt, (refl, (tt, (tt, tt)))))); ran = λ k q. ([], Fault code.Open, (refl, pieces_of_one), refl) }, tt);
    wanting = λ t. absurd (false≢true t);
    completeness = λ m n. let z : 1 ≡ 0 = n.devices.1.1.0 in absurd (omega (arith, z));
  });
}
  where
    alone : AreLeftAlone (rotate_work a p 4) run_of_one home_of_one
    alone zero r s is idle l m = absurd (idle (root_of_one.1.0, root_of_one.1.1, root_of_one.1.2))
    alone (suc k) r s is idle l m = let no : ⊥ = cc in absurd no

pub one_rotates : RotatesFiles a p 4 run_of_one
one_rotates = record {
  performs = one_performs;
  rotation = record {
    two = failed_open_hold;
    never_halted = ((λ e. cc), tt);
    begun = λ e. let no : ⊥ = cc in absurd no;
    memory = λ t. absurd (false≢true t);
    tried = (refl, (refl, (refl, tt)));
    told = ((calm stopped_reader refl refl refl (how.Fault code.Open), (calm only refl refl refl (how.Fault code.Open), (record { opens = λ l. refl; reads = λ l. absurd (omega (arith, l)); writes = λ l. absurd (omega (arith, l)) }, tt))), tt);
  };
}
