-- The run of five files is right.
use Rattle.std.proofs.Common.{◌≡◌, ◌⊎◌, ◌<◌, ◌≤◌, ◌^◌, ℕ, zero, suc, true, List, [], ◌∷◌, ◌++◌, map, length, Some, inl, inr, refl, sym, ap, ◌∙◌, subst, ⊎_elim, arith, append-nil}
use Rattle.std.specs.Prelude.{codes}
use Rattle.std.specs.Fmt.{digits}
use Rattle.std.specs.Prelude.{not}
use Rattle.std.specs.List.{AllByRecursion, list_all as all}
use Rattle.std.proofs.Math.Seq.{take-length}
use Rattle.chunk_core.specs.Elements.{Byte}
use Rattle.chunk_core.specs.Lists.IsAmong.{here, there}
use Rattle.chunk_core.specs.Outcomes.{Done}
use Rattle.chunk_core.specs.Tables.{no_values}
use Rattle.chunk_core.specs.Texts.{Frame, frames_text, payloads_of}
use Rattle.chunk_core.specs.declared.code.Exit.TheVariants.{Succeeded}
use Rattle.chunk_core.specs.declared.code.How.{How}
use Rattle.chunk_core.specs.declared.code.How.TheVariants as how
use Rattle.chunk_core.proofs.Cuts.{among_parts, append_assoc}
use Rattle.chunk_core.proofs.Distinct.{test_distinct}
use Rattle.chunk_core.proofs.Each.{among_each}
use Rattle.chunk_core.proofs.Members.{among_mid}
use Rattle.chunk_core.proofs.Rendering.{bytes_rendering}
use Rattle.res_ledger.specs.declared.event.StreamNo.TheVariants.{Inner}
use Rattle.device_port.specs.Device.{DeviceTold, to_read}
use Rattle.pull_nodes.specs.Runs.{Reads}
use Rattle.run_rules.specs.Ends.{BeginInRoom, HadTurn, OutlastsBegin, WasIn, WasOpen}
use Rattle.run_rules.specs.Facts.{IsFailure, first_numbers}
use Rattle.run_rules.specs.Outputs.{IsOutput, NeverFall, elements_in_pieces, payloads_by}
use Rattle.run_rules.specs.Run.{Performs}
use Rattle.run_rules.specs.Texts.{tail_text}
use Rattle.run_rules.specs.Work.{RunRecord, begun_frames, until_by}
use Rattle.run_rules.specs.declared.end.EndOf.{EndOf}
use Rattle.run_laws.specs.FiveFiles.{block, file_d, file_e, five, five_devices, five_files, five_frames, five_frames_text, five_run, five_tail_text, five_text, five_work}
use Rattle.run_laws.specs.EndTests.{passes_last, was_in}
use Rattle.run_laws.specs.LedgerTests.{never_fall}
use Rattle.run_laws.specs.Streams.{InFile}
use Rattle.run_laws.specs.Written.{IsRightRun, homes_of, read_device}
use Rattle.run_laws.proofs.Devices.{accounted, read_shut, shut_passes}
use Rattle.run_laws.proofs.EndsTested.{unbounded}
use Rattle.run_laws.proofs.Deciding.{all_so, first_so, not_so}
use Rattle.run_laws.proofs.RoomTested.{PassesLast, ends_in_room, passes_last_so}
use Rattle.run_laws.proofs.TurnsTested.{each_turn_so, was_in_so}
use Rattle.run_laws.proofs.WorksLeft.{five_left}
use Rattle.run_laws.proofs.ExitsTested.{ran_by}
use Rattle.run_laws.proofs.Performing.{byte_pieces, bytes_of_frames, bytes_rendered, read_only}
use Rattle.run_laws.proofs.RowsTested.{housed_by, left_alone_so, never_fall_so}
use Rattle.run_laws.proofs.GivingTested.{outer_by, rules_by}

-- a stream that is done stopped nothing
not_stopped : {P : Type 0} (h : How) → h ≡ how.Done → IsFailure h ⊎ (h ≡ how.Memory) ⊎ ((h ≡ how.Halted) × P) → ⊥
not_stopped h d s = ⊎_elim
    (λ f. let e : how.Done ≡ how.Fault f.0 = sym d ∙ f.1 in cc)
    (λ x. ⊎_elim (λ m. let e : how.Done ≡ how.Memory = sym d ∙ m in cc) (λ m. let e : how.Done ≡ how.Halted = sym d ∙ m.0 in cc) x)
    s

no_until : (k i : ℕ) → until_by five_work (Inner k) ≡ Some i → ⊥
no_until zero i e = cc
no_until (suc zero) i e = cc
no_until (suc (suc zero)) i e = cc
no_until (suc (suc (suc zero))) i e = cc
no_until (suc (suc (suc (suc zero)))) i e = cc
no_until (suc (suc (suc (suc (suc k))))) i e = cc

-- files of any bytes, each of which was printed whole
module _ (a b c d e : List ℕ) (frames : List Frame) where
  abbrev run : RunRecord
  run = five_run a b c d e frames

  abbrev home : ℕ → DeviceTold
  home = homes_of (five_devices a b c d e)

  module _ (a_size : length a < 2 ^ 40) (b_size : length b < 2 ^ 40) (c_size : length c < 2 ^ 40) (d_size : length d < 2 ^ 40) (e_size : length e < 2 ^ 40)
      (a_text : payloads_of 0 frames ≡ a) (b_text : payloads_of 1 frames ≡ b) (c_text : payloads_of 2 frames ≡ c) (d_text : payloads_of 3 frames ≡ d) (e_text : payloads_of 4 frames ≡ e) (turns : never_fall frames ≡ true)
      (numbers : AllByRecursion (λ (f : Frame). (f.stream < 5) × (0 < length f.payload)) frames) where
    output : (k : ℕ) (path bytes : List ℕ) → length bytes < 2 ^ 40 → payloads_of k frames ≡ bytes → home k ≡ read_device k path bytes Succeeded → IsOutput five_work no_values home frames k how.Done
    output k path bytes size text at = record {
      pieces = byte_pieces k frames;
      end = Done;
      run = inl (subst (λ (x : DeviceTold). InFile x (Reads x) (elements_in_pieces (byte_pieces k frames)) Done) (sym at)
          (subst (λ xs. InFile (read_device k path bytes Succeeded) (Reads (read_device k path bytes Succeeded)) xs Done) (sym (bytes_of_frames k frames ∙ ap (map Byte) text)) (inl (inl (refl, refl, inl (ap (map Byte) (sym (take-length bytes)), (refl, size, refl, refl)))))));
      printed = bytes_rendered (payloads_by k frames);
      reported = refl;
    }

    falls : NeverFall (begun_frames run)
    falls = subst NeverFall (sym (append-nil frames)) ((never_fall_so frames).0 turns)

    -- each had left when a later one had its turn
    abbrev AllLeft : ℕ → Type 0
    AllLeft k = (i : ℕ) → i < k → ¬ (WasIn run.events k i)

    all_left : (k : ℕ) → HadTurn run.events k → AllLeft k
    all_left = (each_turn_so (λ k. all (λ i. not (was_in run.events k i)) (first_numbers k)) AllLeft (λ k. first_so (λ i. not (was_in run.events k i)) (λ i. ¬ (WasIn run.events k i)) (λ i. not_so (was_in run.events k i) (was_in_so run.events k i)) k) run.events).0 refl

    -- none printed behind a later one, and none stops another
    none_outlasts : (k i : ℕ) → i < k → OutlastsBegin five_work run k i → ⊥
    none_outlasts k i l w = ⊎_elim
        (λ p.
        let b = among_parts p.2 p.1 p.6 in
        let is : begun_frames run ≡ (p.0 ++ p.3 ∷ b.0) ++ p.2 ∷ b.1 = p.4 ∙ (ap (λ z. p.0 ++ p.3 ∷ z) b.2 ∙ sym (append_assoc p.0 (p.3 ∷ b.0) (p.2 ∷ b.1))) in
        let rises : p.3.stream ≤ p.2.stream = falls (p.0 ++ p.3 ∷ b.0) b.1 p.3 p.2 is (among_mid p.0 b.0 p.3) in
        let by = p.5 in let of = p.7 in omega (arith, l, rises, by, of))
        (λ u. no_until k i u.0)
        w.1

    -- and all are done
    none_open : (k i : ℕ) → HadTurn run.events k → i < k → WasOpen five_work run k i → ⊥
    none_open k i h l w = ⊎_elim
        (λ s. all_left k h i l s)
        (λ x. ⊎_elim
        (λ s. not_stopped s.0.how (among_each (λ (z : EndOf). z.how ≡ how.Done) s.0 run.ends (refl, (refl, (refl, (refl, (refl, (refl, tt)))))) s.1) s.3)
        (λ y. ⊎_elim (λ s. ⊎_elim (λ n. n refl) (λ m. unbounded m) s.0) (λ u. none_outlasts k i l u) y)
        x)
        w

    in_room : BeginInRoom five_work.opener five_work run
    in_room = record {
      room = λ k h. ([], omega arith, λ i l w. absurd (none_open k i h l w));
      passed = λ e k m. (all_so (passes_last five_work run) (PassesLast five_work run) (passes_last_so five_work run) run.ends).0 refl e m k;
    }

    all_done : Performs five_work run
    all_done = record {
      devices = accounted (five_devices a b c d e) (to_read (codes "a") ∷ to_read (codes "b") ∷ to_read (codes "c") ∷ to_read (codes "d") ∷ to_read (codes "e") ∷ []) run.events (five_files a b c d e) (five_files a b c d e) refl
          (shut_passes (five_devices a b c d e) (read_shut 0 (codes "a") a Succeeded true, (read_shut 1 (codes "b") b Succeeded true, (read_shut 2 (codes "c") c Succeeded true, (read_shut 3 (codes "d") d Succeeded true, (read_shut 4 (codes "e") e Succeeded true, tt))))))
          refl refl refl refl refl refl refl (λ path. inr refl)
          (read_only run.depot_new.files (read_device 0 (codes "a") a Succeeded) refl, (read_only run.depot_new.files (read_device 1 (codes "b") b Succeeded) refl, (read_only run.depot_new.files (read_device 2 (codes "c") c Succeeded) refl, (read_only run.depot_new.files (read_device 3 (codes "d") d Succeeded) refl, (read_only run.depot_new.files (read_device 4 (codes "e") e Succeeded) refl, tt)))));
      ledger = rules_by five_work run.events refl refl refl refl refl (omega arith, (omega arith, (omega arith, (omega arith, (omega arith, (omega arith, tt)))))) refl refl;
      ran = inr (ran_by five_work run no_values home five_left
          (record {
            at_home = (refl, refl, inl (here _), (refl, refl, inl (there _ (here _)), (refl, refl, inl (there _ (there _ (here _))), (refl, refl, inl (there _ (there _ (there _ (here _)))), (refl, refl, inl (there _ (there _ (there _ (there _ (here _))))), tt)))));
            apart = test_distinct (0 ∷ 1 ∷ 2 ∷ 3 ∷ 4 ∷ []) refl;
            tied = (tt, (tt, (refl, (tt, ((refl, refl), (tt, (tt, (refl, (tt, ((refl, refl), (tt, (tt, (refl, (tt, ((refl, refl), (tt, (tt, (refl, (tt, ((refl, refl), (tt, (tt, (refl, (tt, ((refl, refl), (tt, tt))))))))))))))))))))))))));
            values = λ t key l. absurd (omega (arith, l));
            alone = (left_alone_so five_work run home).0 refl;
            housed = housed_by five_work run home ((0, omega arith, refl), ((1, omega arith, refl), ((2, omega arith, refl), ((3, omega arith, refl), ((4, omega arith, refl), tt)))));
          })
          (record {
            numbers = numbers;
            few = tt;
            in_turn = λ t. falls;
            outputs = (output 0 (codes "a") a a_size a_text refl, (output 1 (codes "b") b b_size b_text refl, (output 2 (codes "c") c c_size c_text refl, (output 3 (codes "d") d d_size d_text refl, (output 4 (codes "e") e e_size e_text refl, refl)))));
            rest = refl;
          })
          (ends_in_room five_work run home refl refl
          (outer_by (tt, refl, tt) (tt, (tt, (tt, (tt, (tt, tt))))) refl tt tt unbounded)
          refl in_room refl)
          refl
          (λ m n. record {
            done = (refl, (refl, (refl, (refl, (refl, (refl, tt))))));
            clean = refl;
            listed = tt;
            output = ((map Byte a, inl (a_size, refl, refl), a_text ∙ bytes_rendering a), ((map Byte b, inl (b_size, refl, refl), b_text ∙ bytes_rendering b), ((map Byte c, inl (c_size, refl, refl), c_text ∙ bytes_rendering c), ((map Byte d, inl (d_size, refl, refl), d_text ∙ bytes_rendering d), ((map Byte e, inl (e_size, refl, refl), e_text ∙ bytes_rendering e), tt)))));
          }));
    }

frames_printed : frames_text five.frames ≡ five_frames_text
unfolding digits
frames_printed = refl

tail_printed : tail_text five.ends five.events ≡ five_tail_text
unfolding digits
tail_printed = refl

pub five_right : IsRightRun five_work five five_text
five_right = record {
  performs = all_done (codes "a") [] (block 99) file_d file_e five_frames (omega arith) (omega arith) (omega arith) (omega arith) (omega arith) refl refl refl refl refl refl
      ((omega arith, omega arith), ((omega arith, omega arith), ((omega arith, omega arith), ((omega arith, omega arith), ((omega arith, omega arith), ((omega arith, omega arith), ((omega arith, omega arith), tt)))))));
  printed = ap (λ t. t ++ tail_text five.ends five.events) frames_printed ∙ ap (λ t. five_frames_text ++ t) tail_printed;
}
