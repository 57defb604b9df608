-- Each run over two sides is right.
use Rattle.std.proofs.Common.{◌≡◌, ◌<◌, ℕ, Bool, true, false, List, [], ◌∷◌, ◌++◌, map, length, None, inl, inr, refl, ap, arith}
use Rattle.std.specs.Prelude.{codes}
use Rattle.std.specs.Fmt.{digits}
use Rattle.std.specs.List.{AllByRecursion}
use Rattle.std.proofs.lemmas.Bool.{false≢true}
use Rattle.csv.specs.Writing.{fields_text, is_blank}
use Rattle.chunk_core.specs.Elements.{Element, Byte, Line, Row, rendering_of}
use Rattle.chunk_core.specs.Lists.IsAmong.{here, there}
use Rattle.chunk_core.specs.Outcomes.{Cut, Done, Outcomes}
use Rattle.chunk_core.specs.Tables.{no_values}
use Rattle.chunk_core.specs.Texts.{Frame, frames_text, payloads_of}
use Rattle.chunk_core.specs.declared.code.Exit.TheVariants.{Succeeded}
use Rattle.chunk_core.proofs.Distinct.{test_distinct}
use Rattle.device_port.specs.Device.{DeviceTold, to_read}
use Rattle.pull_nodes.specs.PipeRule.{without_fault}
use Rattle.pull_nodes.specs.Lines.{without_pairs, ended_lines, open_line}
use Rattle.pull_nodes.specs.Pipes.{part_of, all_of}
use Rattle.pull_nodes.specs.Runs.{Reads, ReadsWhole}
use Rattle.pull_nodes.specs.declared.pipe.Pipe.TheVariants as pipe
use Rattle.run_rules.specs.Outputs.{elements_in_pieces, payloads_by}
use Rattle.run_rules.specs.Run.{Performs}
use Rattle.run_rules.specs.Texts.{tail_text}
use Rattle.run_rules.specs.Work.{RunRecord}
use Rattle.run_laws.specs.Sides.{LinesIn, MergeIn, PairsIn, WholeLines, WholeMerge, WholePairs, merge_work, merged, merged_back, merged_back_text, merged_text, paired, paired_text, pairs_work, path_p, path_q, sides_run, sides_work, three_lines, two_lines}
use Rattle.run_laws.specs.Streams.{Leaves}
use Rattle.run_laws.specs.Written.{IsRightRun, homes_of, read_device}
use Rattle.run_laws.proofs.Devices.{accounted, read_shut, shut_passes}
use Rattle.run_laws.proofs.Performing.{piped_done, piped_left, read_only}
use Rattle.run_laws.proofs.EndsTested.{unbounded}
use Rattle.run_laws.proofs.RoomTested.{ends_by}
use Rattle.run_laws.proofs.WorksLeft.{MayBeLeft, merge_left, pairs_left}
use Rattle.run_laws.proofs.ExitsTested.{ran_by}
use Rattle.run_laws.proofs.RowsTested.{housed_by, left_alone_so}
use Rattle.run_laws.proofs.GivingTested.{outer_by, rules_by}

-- a run of two sides that is done
module _ (runs ideal : DeviceTold → DeviceTold → Outcomes) (p_bytes q_bytes : List ℕ) (ended : Bool) (frames : List Frame) where
  abbrev p_device : DeviceTold
  p_device = record (read_device 0 path_p p_bytes Succeeded) { ended = ended }

  abbrev q_device : DeviceTold
  q_device = read_device 1 path_q q_bytes Succeeded

  abbrev c : RunRecord
  c = sides_run p_bytes ended q_bytes frames

  sides_done : (pieces : List (List Element)) → AllByRecursion (λ (f : Frame). (f.stream < 1) × (0 < length f.payload)) frames → payloads_by 0 frames ≡ map rendering_of pieces → payloads_of 0 frames ≡ rendering_of (elements_in_pieces pieces) → MayBeLeft (sides_work runs ideal) → runs p_device q_device (elements_in_pieces pieces) Done → ideal p_device q_device (elements_in_pieces pieces) Done
      → Performs (sides_work runs ideal) c
  sides_done pieces numbers printed text leaves run whole = record {
    devices = accounted (p_device ∷ q_device ∷ []) (to_read path_p ∷ to_read path_q ∷ []) c.events ((path_p, p_bytes) ∷ (path_q, q_bytes) ∷ []) ((path_p, p_bytes) ∷ (path_q, q_bytes) ∷ []) refl
        (shut_passes (p_device ∷ q_device ∷ []) (read_shut 0 path_p p_bytes Succeeded ended, (read_shut 1 path_q q_bytes Succeeded true, tt))) refl refl refl refl refl refl refl (λ path. inr refl) (read_only c.depot_new.files p_device refl, (read_only c.depot_new.files q_device refl, tt));
    ledger = rules_by (sides_work runs ideal) c.events refl refl refl refl refl (omega arith, (omega arith, tt)) refl refl;
    ran = inr (ran_by (sides_work runs ideal) c no_values (homes_of (p_device ∷ q_device ∷ [])) leaves
        (record { at_home = (refl, refl, inl (here _), (refl, refl, inl (there _ (here _)), tt)); apart = test_distinct (0 ∷ 1 ∷ []) refl; tied = (tt, (tt, (refl, (refl, (tt, ((refl, refl), ((refl, refl), (tt, tt)))))))); values = λ t key l. absurd (omega (arith, l)); alone = (left_alone_so (sides_work runs ideal) c (homes_of (p_device ∷ q_device ∷ []))).0 refl; housed = housed_by (sides_work runs ideal) c (homes_of (p_device ∷ q_device ∷ [])) ((0, omega arith, refl), ((1, omega arith, refl), tt)) })
        (record { numbers = numbers; few = tt; in_turn = λ t. absurd (false≢true t); outputs = (record { pieces = pieces; end = Done; run = inl run; printed = printed; reported = refl }, refl); rest = refl })
        (ends_by (sides_work runs ideal) c (homes_of (p_device ∷ q_device ∷ [])) refl refl (outer_by (tt, refl, tt) (tt, tt) refl tt tt unbounded) refl refl refl)
        refl
        (λ m n. record { done = (refl, (refl, tt)); clean = refl; listed = tt; output = ((elements_in_pieces pieces, whole, text), tt) }));
  }

-- The lines.

abbrev letters_of : List (List ℕ) → List Element
letters_of ls = map Line ls

abbrev pub three : List Element
three = letters_of (codes "a" ∷ codes "b" ∷ codes "c" ∷ [])

abbrev pub two : List Element
two = letters_of (codes "1" ∷ codes "2" ∷ [])

pub three_fault : (part_of no_values pipe.Lines (map Byte three_lines)).fault ≡ None
unfolding without_pairs ended_lines open_line
three_fault = refl

three_part : (part_of no_values pipe.Lines (map Byte three_lines)).list ≡ three
unfolding without_pairs ended_lines open_line
three_part = refl

pub three_all : all_of no_values pipe.Lines (map Byte three_lines) ≡ without_fault three
unfolding without_pairs ended_lines open_line
three_all = refl

pub two_fault : (part_of no_values pipe.Lines (map Byte two_lines)).fault ≡ None
unfolding without_pairs ended_lines open_line
two_fault = refl

pub two_all : all_of no_values pipe.Lines (map Byte two_lines) ≡ without_fault two
unfolding without_pairs ended_lines open_line
two_all = refl

x_fault : (part_of no_values pipe.Lines (map Byte (codes "x\n"))).fault ≡ None
unfolding without_pairs ended_lines open_line
x_fault = refl

x_all : all_of no_values pipe.Lines (map Byte (codes "x\n")) ≡ without_fault (Line (codes "x") ∷ [])
unfolding without_pairs ended_lines open_line
x_all = refl

y_fault : (part_of no_values pipe.Lines (map Byte (codes "y\n"))).fault ≡ None
unfolding without_pairs ended_lines open_line
y_fault = refl

y_all : all_of no_values pipe.Lines (map Byte (codes "y\n")) ≡ without_fault (Line (codes "y") ∷ [])
unfolding without_pairs ended_lines open_line
y_all = refl

-- a file of these bytes was read to its end, and gives these lines
module _ (d : DeviceTold) (bytes : List ℕ) (lines : List Element) (good : (part_of no_values pipe.Lines (map Byte bytes)).fault ≡ None) (all_lines : all_of no_values pipe.Lines (map Byte bytes) ≡ without_fault lines) where
  lines_done : d.opens ≡ 1 → d.open_faults ≡ 0 → Reads d (map Byte bytes) Done → LinesIn d lines Done
  lines_done o f r = inl (inl (o, f, inl (piped_done (part_of no_values pipe.Lines) (all_of no_values pipe.Lines) (Leaves (Reads d)) (map Byte bytes) lines (inl r) good all_lines)))

  whole_lines : ReadsWhole d (map Byte bytes) Done → WholeLines d lines Done
  whole_lines r = piped_done (part_of no_values pipe.Lines) (all_of no_values pipe.Lines) (ReadsWhole d) (map Byte bytes) lines r good all_lines

-- In pairs.

abbrev pub pairs : List Element
pairs = Row (codes "a" ∷ codes "1" ∷ []) ∷ Row (codes "b" ∷ codes "2" ∷ []) ∷ []

pub pairs_text : codes "a,1\nb,2\n" ≡ rendering_of pairs
unfolding fields_text is_blank
pairs_text = refl

printed_paired : frames_text paired.frames ++ tail_text paired.ends paired.events ≡ paired_text
unfolding digits
printed_paired = refl

abbrev three_device : DeviceTold
three_device = record (read_device 0 path_p three_lines Succeeded) { ended = false }

abbrev two_device : DeviceTold
two_device = read_device 1 path_q two_lines Succeeded

-- the first file was left behind its lines
three_left : LinesIn three_device three Cut
three_left = inl (inl (refl, refl, inl (piped_left (part_of no_values pipe.Lines) (all_of no_values pipe.Lines) (Leaves (Reads three_device)) (map Byte three_lines) three (inl (refl, tt)) three_fault three_part)))

pub paired_right : IsRightRun pairs_work paired paired_text
paired_right = record {
  performs = sides_done PairsIn WholePairs three_lines two_lines false paired.frames (pairs ∷ []) ((omega arith, omega arith), tt) (ap (λ t. t ∷ []) pairs_text) pairs_text pairs_left
      (inl (three, two, Cut, Done, three_left, lines_done two_device two_lines two two_fault two_all refl refl (refl, (refl, omega arith, refl, refl)), refl, inr (omega arith, refl)))
      (three, two, Done, Done, whole_lines three_device three_lines three three_fault three_all (inl (omega arith, refl, refl)), whole_lines two_device two_lines two two_fault two_all (inl (omega arith, refl, refl)), refl, inr (omega arith, refl));
  printed = printed_paired;
}

-- As a merge.

printed_merged : frames_text merged.frames ++ tail_text merged.ends merged.events ≡ merged_text
unfolding digits
printed_merged = refl

printed_merged_back : frames_text merged_back.frames ++ tail_text merged_back.ends merged_back.events ≡ merged_back_text
unfolding digits
printed_merged_back = refl

abbrev x_side : DeviceTold
x_side = read_device 0 path_p (codes "x\n") Succeeded

abbrev y_side : DeviceTold
y_side = read_device 1 path_q (codes "y\n") Succeeded

abbrev x_line : Element
x_line = Line (codes "x")

abbrev y_line : Element
y_line = Line (codes "y")

x_lines : LinesIn x_side (x_line ∷ []) Done
x_lines = lines_done x_side (codes "x\n") (x_line ∷ []) x_fault x_all refl refl (refl, (refl, omega arith, refl, refl))

y_lines : LinesIn y_side (y_line ∷ []) Done
y_lines = lines_done y_side (codes "y\n") (y_line ∷ []) y_fault y_all refl refl (refl, (refl, omega arith, refl, refl))

x_whole : WholeLines x_side (x_line ∷ []) Done
x_whole = whole_lines x_side (codes "x\n") (x_line ∷ []) x_fault x_all (inl (omega arith, refl, refl))

y_whole : WholeLines y_side (y_line ∷ []) Done
y_whole = whole_lines y_side (codes "y\n") (y_line ∷ []) y_fault y_all (inl (omega arith, refl, refl))

pub merged_right : IsRightRun merge_work merged merged_text
merged_right = record {
  performs = sides_done MergeIn WholeMerge (codes "x\n") (codes "y\n") true merged.frames ((x_line ∷ []) ∷ (y_line ∷ []) ∷ []) ((omega arith, omega arith), ((omega arith, omega arith), tt)) refl refl merge_left
      (inl (x_line ∷ [], y_line ∷ [], Done, Done, inl x_lines, inl y_lines, inl ([], refl, inr ([], refl, (refl, refl))), (refl, refl)))
      (x_line ∷ [], y_line ∷ [], Done, Done, inl x_whole, inl y_whole, inl ([], refl, inr ([], refl, (refl, refl))), (refl, refl));
  printed = printed_merged;
}

pub merged_back_right : IsRightRun merge_work merged_back merged_back_text
merged_back_right = record {
  performs = sides_done MergeIn WholeMerge (codes "x\n") (codes "y\n") true merged_back.frames ((y_line ∷ []) ∷ (x_line ∷ []) ∷ []) ((omega arith, omega arith), ((omega arith, omega arith), tt)) refl refl merge_left
      (inl (x_line ∷ [], y_line ∷ [], Done, Done, inl x_lines, inl y_lines, inr ([], refl, inl ([], refl, (refl, refl))), (refl, refl)))
      (x_line ∷ [], y_line ∷ [], Done, Done, inl x_whole, inl y_whole, inr ([], refl, inl ([], refl, (refl, refl))), (refl, refl));
  printed = printed_merged_back;
}
