-- Each run that no user would accept is refused.
use Rattle.std.proofs.Common.{◌≡◌, ◌+◌, ◌<◌, ℕ, true, List, [], ◌∷◌, ◌++◌, map, length, Some, None, inl, inr, refl, sym, ap, ◌∙◌, subst, arith, ⊎_elim, length-append}
use Rattle.std.specs.Prelude.{codes}
use Rattle.std.proofs.lemmas.Bool.{false≢true, lt-ltb}
use Rattle.chunk_core.specs.Lists.{IsAmong}
use Rattle.chunk_core.specs.Lists.IsAmong.{here, there}
use Rattle.chunk_core.specs.Texts.{frame_text}
use Rattle.chunk_core.specs.Outcomes.{End, Done, exit_of}
use Rattle.chunk_core.specs.declared.code.Code.TheVariants as code
use Rattle.chunk_core.specs.declared.code.Exit.TheVariants.{Canceled, Succeeded}
use Rattle.chunk_core.specs.declared.code.How.{How}
use Rattle.chunk_core.specs.declared.code.How.TheVariants as how
use Rattle.res_ledger.specs.Streams.{same_stream}
use Rattle.res_ledger.specs.declared.event.StreamNo.TheVariants.{Inner, Outer}
use Rattle.device_port.specs.Device.{DeviceTold, Place, faults_of, to_read}
use Rattle.run_rules.specs.Devices.{IsWrittenBy}
use Rattle.run_rules.specs.Homes.{IsUntouched}
use Rattle.chunk_core.specs.Elements.{Element, Line, element_text, rendering_of}
use Rattle.chunk_core.proofs.Cuts.{cut}
use Rattle.chunk_core.proofs.Each.{among_each}
use Rattle.chunk_core.proofs.Members.{among_cons, among_nil}
use Rattle.run_rules.specs.declared.end.EndOf.{EndOf}
use Rattle.device_port.specs.Depot.{DepotTold}
use Rattle.pull_nodes.specs.Plain.{IsFront}
use Rattle.pull_nodes.specs.Runs.{OpensThen, Reads, StopsReading}
use Rattle.run_rules.specs.Outputs.{IsReported, StartsRunOf, elements_in_pieces, payloads_by}
use Rattle.run_rules.specs.Run.{IsUnmade, Performs, Ran}
use Rattle.run_laws.specs.Files.{lines_work, path_a, taker_stops_work}
use Rattle.run_laws.specs.FiveFiles.{five_work}
use Rattle.run_rules.specs.Ends.{EndIsCaused}
use Rattle.run_rules.specs.Work.{RunRecord, Work}
use Rattle.std.specs.List.{list_all as all}
use Rattle.run_laws.specs.OneStream.{one_stream_work}
use Rattle.run_laws.specs.Others.{hello, no_streams, silent_work, stopped_work, u_csv}
use Rattle.run_laws.specs.Refused.{in_turn_work}
use Rattle.run_laws.specs.Streams.{InFile, Leaves, file_stream, opener, two_files}
use Rattle.run_laws.specs.Tables.{a_csv, lookup_work, path_b, t_csv}
use Rattle.run_laws.specs.InTime.{AreCaused, AreCausedInTime, halted_before_the_end, halted_before_the_fault, halted_behind_the_end, halted_behind_the_fault, outer_halted_before_the_fault, outer_halted_behind_the_fault, side_by_side_work, until_beside_work}
use Rattle.run_laws.specs.Unacceptable.{AreUnacceptable, all_fail, backwards, begins_before_its_turn, begins_behind_its_until, begins_behind_one_unmade, begins_behind_the_last_frame, begins_beside_its_until, both_devices, done_behind_a_fault, ends_swapped, failed_though_written, fault_hidden_by_until, frames_before_their_turn, frames_out_of_turn, given_without_waiting, gives_on_behind_a_fault, gives_on_behind_one_passed_over, half_table, halted_beforehand, halted_by_a_later_end, halted_by_later_memory, halted_though_whole, leased_before_table, leased_for_nobody, line_cut_in_two, looked_up_unopened, lost_file, memory_for_a_missing_table, memory_for_an_until, memory_for_the_last_frame, missing_opened, one_device_for_both, one_of_three_work, opened_twice, passed_over, passed_over_for_nothing, printed_by_nobody, ran_behind_missing_table, ran_over_half_a_table, read_beyond_the_end, read_file_changed, read_for_nobody, same_file_work, second_table_alone, silent_copy_work, succeeded_though_left, tabled_work, tables_backwards, three_work, told_two_exits, tried_unbegun, tried_unmade, until_later_work, until_second_work, wanting_at_no_end}
use Rattle.run_laws.proofs.Deciding.{acts_so, each_so}
use Rattle.run_laws.specs.EndTests.{is_caused}
use Rattle.run_laws.proofs.EndsTested.{caused_so}
use Rattle.run_laws.proofs.Files.{cut_all, cut_part}
use Rattle.run_laws.proofs.Housed.{below_two, first_byte, moved, only_one, path_byte}
use Rattle.run_laws.proofs.Judging.{by_causes, by_exits, by_memory, by_ours, by_pace, by_room, by_shut, by_stops, by_giving, by_turn, no_nil, ran}
use Rattle.run_laws.specs.Written.{missing_device, read_device, used_device}
use Rattle.run_laws.proofs.Performing.{read_write}
use Rattle.run_laws.proofs.Refusing.{done, lines_within, size_of}
use Rattle.run_laws.specs.Sides.{LinesIn}
use Rattle.run_laws.proofs.Within.{cut_done, fault_done, front_trans, or_left_within}

lost_file_refused : ¬ (Performs silent_copy_work lost_file)
lost_file_refused h = ⊎_elim (λ w. among_nil w.1) (λ (e : Some [] ≡ Some hello). let l = ap size_of e in omega (arith, l)) (h.devices.files path_b)

-- a front of two lines is no text without its line end
cut_front : (p : List Element) → IsFront p (Line path_a ∷ Line path_b ∷ []) → codes "a" ≡ rendering_of p → ⊥
cut_front [] f e = no_nil 97 [] e
cut_front (z ∷ zs) f e =
    let first : Line path_a ≡ z = cc in
    let text : codes "a" ≡ codes "a\n" ++ rendering_of zs = e ∙ ap (λ x. element_text x ++ rendering_of zs) (sym first) in
    let l = ap length text in
    let m = length-append (codes "a\n") (rendering_of zs) in
    omega (arith, l, m)

cut_pieces : (ps : List (List Element)) → IsFront (elements_in_pieces ps) (Line path_a ∷ Line path_b ∷ []) → codes "a" ∷ codes "\nb\n" ∷ [] ≡ map rendering_of ps → ⊥
cut_pieces [] f e = no_nil (codes "a") (codes "\nb\n" ∷ []) e
cut_pieces (p ∷ ps) f e =
    let text = cut (codes "a") (codes "\nb\n" ∷ []) (map rendering_of ps) (rendering_of p) e in
    cut_front p (front_trans p (elements_in_pieces (p ∷ ps)) (Line path_a ∷ Line path_b ∷ []) (elements_in_pieces ps, refl) f) text.0

line_cut_in_two_refused : ¬ (Performs lines_work line_cut_in_two)
line_cut_in_two_refused h =
    let r = ran lines_work line_cut_in_two (no_nil _ _) h in
    let o = r.outputs.outputs.0 in
    let content : (r.home 0).content ≡ Some (codes "a\r\nb") = r.rows.at_home.1 in
    cut_pieces o.pieces (or_left_within (LinesIn (r.home 0)) (Line path_a ∷ Line path_b ∷ []) (lines_within (r.home 0) (codes "a\r\nb") (Line path_a ∷ Line path_b ∷ []) content cut_part cut_all) (elements_in_pieces o.pieces) o.end o.run).0 o.printed

read_for_nobody_refused : ¬ (Performs silent_work read_for_nobody)
read_for_nobody_refused h = let r = ran silent_work read_for_nobody (no_nil _ _) h in (r.ends.outer.nobody refl).1 (inl refl)

tried_unmade_refused : ¬ (Performs (one_stream_work None) tried_unmade)
tried_unmade_refused h = ⊎_elim
    (λ (u : IsUnmade tried_unmade). no_nil _ _ (ap (λ (d : DepotTold). d.made) u.depot))
    (λ (r : Ran (one_stream_work None) tried_unmade). no_nil _ _ (sym r.ends.named))
    h.ran

one_device_refused : ¬ (Performs same_file_work one_device_for_both)
one_device_refused h = let e : 1 ≡ 2 = h.devices.acquired.0 in omega (arith, e)

swapped_refused : ¬ (Performs side_by_side_work ends_swapped)
swapped_refused h =
    let r = ran side_by_side_work ends_swapped (no_nil _ _) h in
    let named : Outer ∷ Inner 1 ∷ Inner 0 ∷ [] ≡ Outer ∷ Inner 0 ∷ Inner 1 ∷ [] = r.ends.named in
    false≢true (ap (λ ks. elim ks [ [] ↦ true | k ∷ ls ↦ elim ls [ [] ↦ true | l ∷ ms ↦ same_stream l (Inner 0) ] ]) named)

-- no device of these was opened to be written
unwritten : (path : List ℕ) → ¬ (IsWrittenBy both_devices path)
unwritten path w = ⊎_elim
    (λ e. read_write (ap (λ (d : DeviceTold). d.place.mode) (sym e) ∙ w.2))
    (λ m. ⊎_elim (λ e. read_write (ap (λ (d : DeviceTold). d.place.mode) (sym e) ∙ w.2)) (λ n. among_nil n) (among_cons m))
    (among_cons w.1)

changed_refused : ¬ (Performs side_by_side_work read_file_changed)
changed_refused h = ⊎_elim (unwritten path_b) (λ (e : Some [] ≡ Some (codes "y\n")). let l = ap size_of e in omega (arith, l)) (h.devices.files path_b)

by_nobody_refused : ¬ (Performs side_by_side_work printed_by_nobody)
by_nobody_refused h = let r = ran side_by_side_work printed_by_nobody (no_nil _ _) h in let l : 2 < 2 = r.outputs.numbers.1.1.0.0 in omega (arith, l)

-- what a text is the front of, and all of, has nothing more
nothing_more : (xs ys zs : List ℕ) → 0 < length ys → xs ++ ys ≡ zs → xs ≡ zs → ⊥
nothing_more xs ys zs some e same = let a = length-append xs ys in let b = ap length e in let c = ap length same in omega (arith, some, a, b, c)

written_refused : ¬ (Performs side_by_side_work failed_though_written)
written_refused h =
    let r = ran side_by_side_work failed_though_written (no_nil _ _) h in
    nothing_more (frame_text 1 (codes "y\n")) r.outputs.rest.more (frame_text 1 (codes "y\n")) r.outputs.rest.front r.outputs.rest.text refl

-- the device of the table is the one that was read in part
half_is : (d x y : DeviceTold) → d.place ≡ to_read t_csv → y.place ≡ to_read path_a → IsAmong d (x ∷ y ∷ []) → d ≡ x
half_is d x y at other m = ⊎_elim
    (λ e. e)
    (λ n. ⊎_elim
    (λ e. let p : to_read t_csv ≡ to_read path_a = sym at ∙ (ap (λ (z : DeviceTold). z.place) e ∙ other) in let b = ap (λ (z : Place). length z.path) p in absurd (omega (arith, b)))
    (λ k. absurd (among_nil k))
    (among_cons n))
    (among_cons m)

half_a_table_refused : ¬ (Performs tabled_work ran_over_half_a_table)
half_a_table_refused h =
    let r = ran tabled_work ran_over_half_a_table (no_nil _ _) h in
    let ended : (r.home 0).ended ≡ true = (r.ends.outer.gives 0 0 (_, there _ (here _), refl, refl)).0.ended in
    ⊎_elim
    (λ b. let d = half_is (r.home 0) half_table (read_device 1 path_a (codes "x\n") Succeeded) r.rows.at_home.0 refl b in false≢true (ap (λ (z : DeviceTold). z.ended) (sym d) ∙ ended))
    (λ (n : IsUntouched (r.home 0)). let z = n.opens in let o : (r.home 0).opens ≡ 1 = r.rows.tied.0 in omega (arith, z, o))
    r.rows.at_home.2

-- Streams that are left, and tables without memory.

tried_so : Ran in_turn_work tried_unbegun → ⊥
tried_so r =
    let at = r.rows.housed (missing_device 1 path_b) (there _ (here _)) in
    let first : (r.home 0).place ≡ to_read path_a = r.rows.at_home.0 in
    ⊎_elim
    (λ z. let same : missing_device 1 path_b ≡ r.home 0 = moved r.home (missing_device 1 path_b) at.0 0 at.2 z in let b = ap first_byte same ∙ path_byte (r.home 0) (to_read path_a) first in omega (arith, b))
    (λ z.
    let same : missing_device 1 path_b ≡ r.home 1 = moved r.home (missing_device 1 path_b) at.0 1 at.2 z in
    let alone : IsUntouched (r.home 1) = r.rows.alone 1 1 (file_stream path_b) refl (λ a. false≢true ((acts_so (Inner 1) tried_unbegun.events).1 a)) (omega arith) (omega arith) in
    let none = ap (λ (d : DeviceTold). faults_of d) same ∙ alone.faults in
    omega (arith, none))
    (below_two at.0 at.1)

tried_unbegun_refused : ¬ (Performs in_turn_work tried_unbegun)
tried_unbegun_refused h = tried_so (ran in_turn_work tried_unbegun (no_nil _ _) h)

missing_so : Ran lookup_work memory_for_a_missing_table → ⊥
missing_so r =
    let at = r.rows.housed (missing_device 0 t_csv) (here _) in
    let second : (r.home 1).place ≡ to_read a_csv = r.rows.at_home.3.0 in
    ⊎_elim
    (λ l. ⊎_elim
    (λ z. let f = ap (λ (d : DeviceTold). d.open_faults) (moved r.home (missing_device 0 t_csv) at.0 0 at.2 z) in let g : (r.home 0).open_faults ≡ 0 = l.0 in omega (arith, f, g))
    (λ z. let b = ap first_byte (moved r.home (missing_device 0 t_csv) at.0 1 at.2 z) ∙ path_byte (r.home 1) (to_read a_csv) second in omega (arith, b))
    (below_two at.0 at.1))
    (λ t. false≢true (ap (λ (d : DeviceTold). d.ended) (sym (only_one (r.home 0) (missing_device 0 t_csv) t.0.back)) ∙ t.0.ended))
    r.ends.outer.end.0

memory_for_a_missing_table_refused : ¬ (Performs lookup_work memory_for_a_missing_table)
memory_for_a_missing_table_refused h = missing_so (ran lookup_work memory_for_a_missing_table (no_nil _ _) h)

second_table_alone_refused : ¬ (Performs (no_streams (t_csv ∷ u_csv ∷ [])) second_table_alone)
second_table_alone_refused h =
    let r = ran (no_streams (t_csv ∷ u_csv ∷ [])) second_table_alone (no_nil _ _) h in
    let opened : (r.home 1).opens ≡ 1 = r.rows.tied.0 in
    let first : (r.home 0).place ≡ to_read t_csv = r.rows.at_home.0 in
    ⊎_elim
    (λ l. false≢true (sym l.2.0 ∙ lt-ltb 0 ((r.home 1).opens + (r.home 1).open_faults) (omega (arith, opened))))
    (λ t. let e = only_one (r.home 0) (read_device 0 u_csv (codes "k,w\n") Canceled) t.0.back in let b = ap first_byte (sym e) ∙ path_byte (r.home 0) (to_read t_csv) first in omega (arith, b))
    r.ends.outer.end.0

-- Left and told otherwise.

-- an exit that succeeded is that of an end that is done
succeeded_done : (h : How) → Succeeded ≡ exit_of h → h ≡ how.Done
succeeded_done how.Done e = refl
succeeded_done (how.Fault f) e = let x : ⊥ = cc in absurd x
succeeded_done how.Halted e = let x : ⊥ = cc in absurd x
succeeded_done how.Memory e = let x : ⊥ = cc in absurd x

-- a file whose stream is done was read to its end
read_to_end : (d : DeviceTold) (ys : List Element) (e : End) → e ≡ Done → InFile d (Reads d) ys e → d.ended ≡ true
read_to_end d ys e q (inl (inl (o, f, inl r))) = let s : StopsReading d Done = subst (λ x. StopsReading d x) q r.1 in s.0
read_to_end d ys e q (inl (inl (o, f, inr x))) = absurd (cut_done (sym x.0 ∙ q))
read_to_end d ys e q (inl (inr x)) = absurd (fault_done code.Open (sym x.3 ∙ q))
read_to_end d ys e q (inr x) = absurd (cut_done (sym x.0 ∙ q))

abbrev half_file : DeviceTold
half_file = record (used_device 1 (to_read path_b) (codes "y\n") Succeeded) { at = 1 }

though_left_so : Ran (two_files (opener [] 4 (Some 1)) None) succeeded_though_left → ⊥
though_left_so r =
    let at = r.rows.housed half_file (there _ (here _)) in
    let first : (r.home 0).place ≡ to_read path_a = r.rows.at_home.0 in
    let x = r.exits.1.1.0 in
    let run = x.ran 1 refl in
    let end : run.1 ≡ Done = done run.1 (subst (λ h. IsReported run.1 h) (succeeded_done x.how x.told.1.0) run.3) in
    ⊎_elim
    (λ z. let b = ap first_byte (moved r.home half_file at.0 0 at.2 z) ∙ path_byte (r.home 0) (to_read path_a) first in omega (arith, b))
    (λ z. false≢true (ap (λ (d : DeviceTold). d.ended) (moved r.home half_file at.0 1 at.2 z) ∙ read_to_end (r.home 1) run.0 run.1 end run.2))
    (below_two at.0 at.1)

succeeded_though_left_refused : ¬ (Performs (two_files (opener [] 4 (Some 1)) None) succeeded_though_left)
succeeded_though_left_refused h = though_left_so (ran (two_files (opener [] 4 (Some 1)) None) succeeded_though_left (no_nil _ _) h)

-- Want of memory for nothing.

-- what gives no elements goes on with nothing
no_more : (ps : List (List Element)) (x : List ℕ) → elements_in_pieces ps ≡ [] → x ∷ [] ≡ map rendering_of ps → 0 < length x → ⊥
no_more [] x none e some = no_nil x [] e
no_more ([] ∷ ps) x none e some = let c = cut x [] (map rendering_of ps) [] e in let l = ap length c.0 in omega (arith, l, some)
no_more ((z ∷ zs) ∷ ps) x none e some = no_nil z (zs ++ elements_in_pieces ps) none

inner_is : (j k : ℕ) → Inner j ≡ Inner k → j ≡ k
inner_is j k e = cc

-- a file that was never tried was neither opened nor failed to be
never_opens : (d : DeviceTold) (ys : List Element) (e : End) → IsUntouched d → OpensThen d (Leaves (Reads d)) (Unit {0}) ys e → ⊥
never_opens d ys e u (inl (o, f, r)) = let z = u.opens in omega (arith, z, o)
never_opens d ys e u (inr (o, f, n, q, r)) = let z : faults_of d ≡ 0 = u.faults in omega (arith, z, f)

-- a file that was never tried gives nothing
untouched_gives : (d : DeviceTold) (ys : List Element) (e : End) → IsUntouched d → InFile d (Reads d) ys e → ys ≡ []
untouched_gives d ys e u (inl r) = absurd (never_opens d ys e u r)
untouched_gives d ys e u (inr (c, inl n)) = n.0
untouched_gives d ys e u (inr (c, inr (more, g, r))) = absurd (never_opens d (ys ++ more) g u r)

no_front : (xs ys : List Element) → xs ++ ys ≡ [] → xs ≡ []
no_front [] ys h = refl
no_front (x ∷ xs) ys h = cc

-- no end says that memory was wanting, and the second stream alone was halted
abbrev Fits : EndOf → Type 0
Fits e = (e.how ≡ how.Memory → ⊥) × (e.how ≡ how.Halted → e.who ≡ Inner 1)

for_an_until_so : Ran stopped_work memory_for_an_until → ⊥
for_an_until_so r =
    let w = r.wanting refl in
    let fits : Fits w.0 = among_each Fits w.0 memory_for_an_until.ends ((λ e. cc, λ e. cc), ((λ e. cc, λ e. cc), ((λ e. cc, λ e. refl), tt))) w.1 in
    let alone : IsUntouched (r.home 1) = r.rows.alone 1 1 (record (file_stream path_b) { until = Some 0 }) refl (λ a. false≢true ((acts_so (Inner 1) memory_for_an_until.events).1 a)) (omega arith) (omega arith) in
    ⊎_elim
    (λ m. fits.0 m)
    (λ l.
    let one : l.stream ≡ 1 = inner_is l.stream 1 (sym l.who ∙ fits.1 l.halted) in
    let run : StartsRunOf (InFile (r.home 1) (Reads (r.home 1))) (elements_in_pieces l.pieces) = subst (λ k. StartsRunOf (InFile (r.home k) (Reads (r.home k))) (elements_in_pieces l.pieces)) one l.run in
    let payload : l.payload ∷ [] ≡ map rendering_of l.pieces = subst (λ k. payloads_by k memory_for_an_until.frames ++ l.payload ∷ [] ≡ map rendering_of l.pieces) one l.goes_on in
    no_more l.pieces l.payload (no_front (elements_in_pieces l.pieces) run.0 (untouched_gives (r.home 1) (elements_in_pieces l.pieces ++ run.0) run.1 alone run.2)) payload l.some)
    w.2

for_an_until_refused : ¬ (Performs stopped_work memory_for_an_until)
for_an_until_refused h = for_an_until_so (ran stopped_work memory_for_an_until (no_nil _ _) h)

pub unacceptable : AreUnacceptable
unacceptable = record {
  leased_before = by_giving lookup_work leased_before_table refl;
  ran_behind_missing = by_giving lookup_work ran_behind_missing_table refl;
  unopened = by_giving lookup_work looked_up_unopened refl;
  lost = lost_file_refused;
  backward = λ h. by_pace backwards.events refl h.ledger.given.pace;
  out_of_turn = by_turn in_turn_work frames_out_of_turn (no_nil _ _) refl refl;
  two_exits = by_exits (one_stream_work (Some 1)) told_two_exits (no_nil _ _) refl;
  beforehand = λ h. by_pace halted_beforehand.events refl h.ledger.given.pace;
  by_a_later_end = by_causes until_later_work halted_by_a_later_end (no_nil _ _) refl;
  twice = by_shut (one_stream_work (Some 0)) opened_twice refl;
  cut_line = line_cut_in_two_refused;
  beyond = by_shut taker_stops_work read_beyond_the_end refl;
  for_nobody = read_for_nobody_refused;
  tables_back = by_giving (no_streams (t_csv ∷ u_csv ∷ [])) tables_backwards refl;
  unmade = tried_unmade_refused;
  whole = by_exits (two_files (opener [] 4 None) None) halted_though_whole (no_nil _ _) refl;
  hidden = by_exits (two_files (opener [] 4 None) (Some 0)) fault_hidden_by_until (no_nil _ _) refl;
  missing = by_shut (one_stream_work None) missing_opened refl;
  wanting = by_memory lookup_work wanting_at_no_end (no_nil _ _) refl;
  before_its_turn = λ h. by_pace begins_before_its_turn.events refl h.ledger.given.pace;
  without_waiting = λ h. by_pace given_without_waiting.events refl h.ledger.given.pace;
  for_nothing = by_causes side_by_side_work passed_over_for_nothing (no_nil _ _) refl;
  to_nobody = by_ours side_by_side_work leased_for_nobody refl;
  one_device = one_device_refused;
  swapped = swapped_refused;
  changed = changed_refused;
  by_nobody = by_nobody_refused;
  written = written_refused;
  half_a_table = half_a_table_refused;
  unbegun = tried_unbegun_refused;
  passed = by_stops (three_work 4) passed_over (no_nil _ _) refl;
  by_later_memory = by_stops in_turn_work halted_by_later_memory (no_nil _ _) refl;
  though_left = succeeded_though_left_refused;
  missing_table = memory_for_a_missing_table_refused;
  second_alone = second_table_alone_refused;
  all_failed = by_room (three_work 2) all_fail (no_nil _ _) refl;
  before_their_turn = by_room (three_work 2) frames_before_their_turn (no_nil _ _) refl;
  behind_its_until = by_room until_second_work begins_behind_its_until (no_nil _ _) refl;
  behind_the_last = by_room one_of_three_work begins_behind_the_last_frame (no_nil _ _) refl;
  beside_its_until = by_room until_second_work begins_beside_its_until (no_nil _ _) refl;
  behind_a_fault = by_room five_work gives_on_behind_a_fault (no_nil _ _) refl;
  done_behind = by_room in_turn_work done_behind_a_fault (no_nil _ _) refl;
  behind_one_passed = by_room (three_work 4) gives_on_behind_one_passed_over (no_nil _ _) refl;
  behind_one_unmade = by_room (three_work 4) begins_behind_one_unmade (no_nil _ _) refl;
  for_an_until = for_an_until_refused;
  for_the_last = by_memory one_of_three_work memory_for_the_last_frame (no_nil _ _) refl;
  before_the_fault = by_causes side_by_side_work halted_before_the_fault (no_nil _ _) refl;
  outer_before_the_fault = by_causes side_by_side_work outer_halted_before_the_fault (no_nil _ _) refl;
  before_the_end = by_causes until_beside_work halted_before_the_end (no_nil _ _) refl;
}

causes : (work : Work) (c : RunRecord) → all (is_caused work c) c.ends ≡ true → AreCaused work c
causes work c t = (each_so (is_caused work c) (EndIsCaused work c) (caused_so work c) c.ends).0 t

pub caused_in_time : AreCausedInTime
caused_in_time = record {
  fault = causes side_by_side_work halted_behind_the_fault refl;
  outer_fault = causes side_by_side_work outer_halted_behind_the_fault refl;
  end = causes until_beside_work halted_behind_the_end refl;
}
