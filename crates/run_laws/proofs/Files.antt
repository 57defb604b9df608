-- Each run of one file is right.
use Rattle.std.proofs.Common.{◌≡◌, ℕ, true, false, List, [], ◌∷◌, ◌++◌, map, Some, None, inl, refl, arith, ap}
use Rattle.std.specs.Prelude.{codes}
use Rattle.std.specs.Fmt.{digits}
use Rattle.std.specs.Str.{is_utf8, chars}
use Rattle.std.specs.Char.{encode_utf8}
use Rattle.std.specs.Str.Lossy.{utf8_valid_len, utf8_error_len, utf8_lossy}
use Rattle.csv.specs.Writing.{fields_text, is_blank}
use Rattle.chunk_core.specs.Elements.{Element, Byte, Line, Row, rendering_of}
use Rattle.chunk_core.specs.Feed.{Given}
use Rattle.chunk_core.specs.Outcomes.{Cut, Done, Outcomes}
use Rattle.chunk_core.specs.Texts.{frames_text}
use Rattle.chunk_core.specs.declared.code.Code.{Code}
use Rattle.chunk_core.specs.declared.code.Code.TheVariants as code
use Rattle.chunk_core.specs.declared.code.How.TheVariants as how
use Rattle.device_port.specs.Device.{DeviceTold}
use Rattle.pull_nodes.specs.PipeRule.{without_fault}
use Rattle.pull_nodes.specs.Lines.{without_pairs, ended_lines, open_line}
use Rattle.chunk_core.specs.Tables.{no_values}
use Rattle.pull_nodes.specs.Pipes.{part_of, all_of}
use Rattle.pull_nodes.specs.Runs.{Reads, ReadsWhole, Taken}
use Rattle.pull_nodes.specs.declared.pipe.Pipe.{Pipe}
use Rattle.pull_nodes.specs.declared.pipe.Pipe.TheVariants as pipe
use Rattle.run_rules.specs.Texts.{tail_text}
use Rattle.run_laws.specs.Files.{path_a, euro, file_device, log_text, cut_line_end, cut_line_end_text, filtered_log, filtered_log_text, filtered_log_work, lines_work, lossy_hexadecimal, lossy_hexadecimal_text, lossy_hexadecimal_work, malformed_character, malformed_character_text, second_field, second_field_text, second_field_work, taker_stops, taker_stops_text, taker_stops_work, truncated_character, truncated_character_text, uneven_records, uneven_records_text, uneven_records_work, utf8_work, whole_character, whole_character_text}
use Rattle.run_laws.specs.Streams.{InFile, Leaves, Gathered, ThroughPipe, ThroughPipes, ThroughWhole}
use Rattle.run_laws.specs.Written.{IsRightRun}
use Rattle.run_laws.proofs.FileRuns.{file_done, file_fault}
use Rattle.run_laws.proofs.Performing.{piped_at_end, piped_before, piped_done, piped_left}

abbrev bytes_of : List ℕ → List Element
bytes_of bytes = map Byte bytes

abbrev lines_of : List (List ℕ) → List Element
lines_of ls = map Line ls

abbrev failed : List Element → Code → Given
failed ys c = record { list = ys; fault = Some c }

-- The texts.

printed_cut_line_end : frames_text cut_line_end.frames ++ tail_text cut_line_end.ends cut_line_end.events ≡ cut_line_end_text
unfolding digits
printed_cut_line_end = refl

printed_whole_character : frames_text whole_character.frames ++ tail_text whole_character.ends whole_character.events ≡ whole_character_text
unfolding digits
printed_whole_character = refl

printed_truncated_character : frames_text truncated_character.frames ++ tail_text truncated_character.ends truncated_character.events ≡ truncated_character_text
unfolding digits
printed_truncated_character = refl

printed_malformed_character : frames_text malformed_character.frames ++ tail_text malformed_character.ends malformed_character.events ≡ malformed_character_text
unfolding digits
printed_malformed_character = refl

printed_lossy_hexadecimal : frames_text lossy_hexadecimal.frames ++ tail_text lossy_hexadecimal.ends lossy_hexadecimal.events ≡ lossy_hexadecimal_text
unfolding digits
printed_lossy_hexadecimal = refl

printed_filtered_log : frames_text filtered_log.frames ++ tail_text filtered_log.ends filtered_log.events ≡ filtered_log_text
unfolding digits
printed_filtered_log = refl

printed_taker_stops : frames_text taker_stops.frames ++ tail_text taker_stops.ends taker_stops.events ≡ taker_stops_text
unfolding digits
printed_taker_stops = refl

printed_second_field : frames_text second_field.frames ++ tail_text second_field.ends second_field.events ≡ second_field_text
unfolding digits
printed_second_field = refl

printed_uneven_records : frames_text uneven_records.frames ++ tail_text uneven_records.ends uneven_records.events ≡ uneven_records_text
unfolding digits
printed_uneven_records = refl

-- What the pipes make of these bytes.

pub cut_part : (part_of no_values pipe.Lines (bytes_of (codes "a\r\nb"))).fault ≡ None
unfolding without_pairs ended_lines open_line
cut_part = refl

pub cut_all : all_of no_values pipe.Lines (bytes_of (codes "a\r\nb")) ≡ without_fault (lines_of (path_a ∷ codes "b" ∷ []))
unfolding without_pairs ended_lines open_line
cut_all = refl

euro_part : (part_of no_values pipe.Utf8 (bytes_of euro)).fault ≡ None
unfolding utf8_valid_len is_utf8 chars encode_utf8 utf8_error_len
euro_part = refl

euro_all : all_of no_values pipe.Utf8 (bytes_of euro) ≡ without_fault (bytes_of euro)
unfolding utf8_valid_len is_utf8 chars encode_utf8 utf8_error_len
euro_all = refl

truncated_part : (part_of no_values pipe.Utf8 (bytes_of (97 ∷ 226 ∷ 130 ∷ []))).fault ≡ None
unfolding utf8_valid_len is_utf8 chars encode_utf8 utf8_error_len
truncated_part = refl

truncated_all : all_of no_values pipe.Utf8 (bytes_of (97 ∷ 226 ∷ 130 ∷ [])) ≡ failed (bytes_of path_a) code.Truncated
unfolding utf8_valid_len is_utf8 chars encode_utf8 utf8_error_len
truncated_all = refl

malformed_part : part_of no_values pipe.Utf8 (bytes_of (97 ∷ 255 ∷ [])) ≡ failed (bytes_of path_a) code.Malformed
unfolding utf8_valid_len is_utf8 chars encode_utf8 utf8_error_len
malformed_part = refl

lossy_part : (part_of no_values pipe.Lossy (bytes_of (97 ∷ 255 ∷ 226 ∷ 130 ∷ 98 ∷ []))).fault ≡ None
unfolding utf8_valid_len is_utf8 chars encode_utf8 utf8_error_len utf8_lossy
lossy_part = refl

lossy_all : all_of no_values pipe.Lossy (bytes_of (97 ∷ 255 ∷ 226 ∷ 130 ∷ 98 ∷ [])) ≡ without_fault (bytes_of (97 ∷ 239 ∷ 191 ∷ 189 ∷ 239 ∷ 191 ∷ 189 ∷ 98 ∷ []))
unfolding utf8_valid_len is_utf8 chars encode_utf8 utf8_error_len utf8_lossy
lossy_all = refl

log_utf8_part : (part_of no_values pipe.Utf8 (bytes_of log_text)).fault ≡ None
unfolding utf8_valid_len is_utf8 chars encode_utf8 utf8_error_len
log_utf8_part = refl

log_utf8_all : all_of no_values pipe.Utf8 (bytes_of log_text) ≡ without_fault (bytes_of log_text)
unfolding utf8_valid_len is_utf8 chars encode_utf8 utf8_error_len
log_utf8_all = refl

abbrev log_lines : List Element
log_lines = lines_of (codes "INFO start" ∷ codes "ERROR disk" ∷ codes "INFO x" ∷ codes "ERROR net" ∷ [])

abbrev log_errors : List Element
log_errors = lines_of (codes "ERROR disk" ∷ codes "ERROR net" ∷ [])

abbrev log_numbered : List Element
log_numbered = lines_of (codes "0 ERROR disk" ∷ codes "1 ERROR net" ∷ [])

log_lines_part : (part_of no_values pipe.Lines (bytes_of log_text)).fault ≡ None
unfolding without_pairs ended_lines open_line
log_lines_part = refl

log_lines_all : all_of no_values pipe.Lines (bytes_of log_text) ≡ without_fault log_lines
unfolding without_pairs ended_lines open_line
log_lines_all = refl

log_numbered_all : all_of no_values pipe.Number log_errors ≡ without_fault log_numbered
unfolding digits
log_numbered_all = refl

taken_part : (part_of no_values pipe.Lines (bytes_of (codes "a\nb\n"))).list ≡ lines_of (path_a ∷ codes "b" ∷ [])
unfolding without_pairs ended_lines open_line
taken_part = refl

taken_part_fault : (part_of no_values pipe.Lines (bytes_of (codes "a\nb\n"))).fault ≡ None
unfolding without_pairs ended_lines open_line
taken_part_fault = refl

taken_all : all_of no_values pipe.Lines (bytes_of (codes "a\nb\n")) ≡ without_fault (lines_of (path_a ∷ codes "b" ∷ []))
unfolding without_pairs ended_lines open_line
taken_all = refl

uneven_printed : codes "a,b\n" ≡ rendering_of (Row (path_a ∷ codes "b" ∷ []) ∷ [])
unfolding fields_text is_blank
uneven_printed = refl

-- The runs.

pipe_done : (p : Pipe) (A : Outcomes) (xs ys : List Element) → A xs Done → (part_of no_values p xs).fault ≡ None → all_of no_values p xs ≡ without_fault ys → ThroughPipe A p ys Done
pipe_done p A xs ys run part all = piped_done (part_of no_values p) (all_of no_values p) A xs ys run part all

abbrev runs_of : List Pipe → DeviceTold → Outcomes
runs_of ps d = InFile d (ThroughPipes (Reads d) ps)

abbrev ideal_of : List Pipe → DeviceTold → Outcomes
ideal_of ps d = ThroughWhole (ReadsWhole d) ps

pub cut_line_end_right : IsRightRun lines_work cut_line_end cut_line_end_text
cut_line_end_right =
    let d : DeviceTold = file_device (codes "a\r\nb") 4 true how.Done in
    let xs = bytes_of (codes "a\r\nb") in
    let ys = lines_of (path_a ∷ codes "b" ∷ []) in
    record {
      performs = file_done (runs_of (pipe.Lines ∷ [])) (ideal_of (pipe.Lines ∷ [])) (codes "a\r\nb") 4 true how.Done cut_line_end.frames (omega arith) (lines_of (path_a ∷ []) ∷ lines_of (codes "b" ∷ []) ∷ []) ((omega arith, omega arith), ((omega arith, omega arith), tt)) refl refl refl
          (inl (inl (refl, refl, inl (pipe_done pipe.Lines (Leaves (Reads d)) xs ys (inl (refl, (refl, omega arith, refl, refl))) cut_part cut_all))))
          (pipe_done pipe.Lines (ReadsWhole d) xs ys (inl (omega arith, refl, refl)) cut_part cut_all);
      printed = printed_cut_line_end;
    }

pub whole_character_right : IsRightRun utf8_work whole_character whole_character_text
whole_character_right =
    let d : DeviceTold = file_device euro 3 true how.Done in
    let xs = bytes_of euro in
    record {
      performs = file_done (runs_of (pipe.Utf8 ∷ [])) (ideal_of (pipe.Utf8 ∷ [])) euro 3 true how.Done whole_character.frames (omega arith) (xs ∷ []) ((omega arith, omega arith), tt) refl refl refl
          (inl (inl (refl, refl, inl (pipe_done pipe.Utf8 (Leaves (Reads d)) xs xs (inl (refl, (refl, omega arith, refl, refl))) euro_part euro_all))))
          (pipe_done pipe.Utf8 (ReadsWhole d) xs xs (inl (omega arith, refl, refl)) euro_part euro_all);
      printed = printed_whole_character;
    }

pub truncated_character_right : IsRightRun utf8_work truncated_character truncated_character_text
truncated_character_right =
    let bytes : List ℕ = 97 ∷ 226 ∷ 130 ∷ [] in
    let d : DeviceTold = file_device bytes 3 true (how.Fault code.Truncated) in
    record {
      performs = file_fault (runs_of (pipe.Utf8 ∷ [])) (ideal_of (pipe.Utf8 ∷ [])) bytes 3 true (how.Fault code.Truncated) truncated_character.frames (omega arith) ((bytes_of path_a) ∷ []) ((omega arith, omega arith), tt) refl refl code.Truncated refl refl
          (inl (inl (refl, refl, inl (piped_at_end (part_of no_values pipe.Utf8) (all_of no_values pipe.Utf8) (Leaves (Reads d)) (bytes_of bytes) (bytes_of path_a) code.Truncated (inl (refl, (refl, omega arith, refl, refl))) truncated_part truncated_all))))
          (piped_at_end (part_of no_values pipe.Utf8) (all_of no_values pipe.Utf8) (ReadsWhole d) (bytes_of bytes) (bytes_of path_a) code.Truncated (inl (omega arith, refl, refl)) truncated_part truncated_all);
      printed = printed_truncated_character;
    }

pub malformed_character_right : IsRightRun utf8_work malformed_character malformed_character_text
malformed_character_right =
    let bytes : List ℕ = 97 ∷ 255 ∷ [] in
    let d : DeviceTold = file_device bytes 2 false (how.Fault code.Malformed) in
    record {
      performs = file_fault (runs_of (pipe.Utf8 ∷ [])) (ideal_of (pipe.Utf8 ∷ [])) bytes 2 false (how.Fault code.Malformed) malformed_character.frames (omega arith) ((bytes_of path_a) ∷ []) ((omega arith, omega arith), tt) refl refl code.Malformed refl refl
          (inl (inl (refl, refl, inl (piped_before (part_of no_values pipe.Utf8) (all_of no_values pipe.Utf8) (Leaves (Reads d)) (bytes_of bytes) (bytes_of path_a) Cut code.Malformed (inl (refl, tt)) malformed_part))))
          (piped_before (part_of no_values pipe.Utf8) (all_of no_values pipe.Utf8) (ReadsWhole d) (bytes_of bytes) (bytes_of path_a) Done code.Malformed (inl (omega arith, refl, refl)) malformed_part);
      printed = printed_malformed_character;
    }

pub lossy_hexadecimal_right : IsRightRun lossy_hexadecimal_work lossy_hexadecimal lossy_hexadecimal_text
lossy_hexadecimal_right =
    let bytes : List ℕ = 97 ∷ 255 ∷ 226 ∷ 130 ∷ 98 ∷ [] in
    let text = bytes_of (97 ∷ 239 ∷ 191 ∷ 189 ∷ 239 ∷ 191 ∷ 189 ∷ 98 ∷ []) in
    let ys = lines_of (codes "61efbfbdefbfbd62" ∷ []) in
    let d : DeviceTold = file_device bytes 5 true how.Done in
    record {
      performs = file_done (runs_of (pipe.Lossy ∷ pipe.Hex ∷ [])) (ideal_of (pipe.Lossy ∷ pipe.Hex ∷ [])) bytes 5 true how.Done lossy_hexadecimal.frames (omega arith) (ys ∷ []) ((omega arith, omega arith), tt) refl refl refl
          (inl (inl (
            refl,
            refl,
            inl (pipe_done pipe.Hex (Leaves (ThroughPipe (Leaves (Reads d)) pipe.Lossy)) text ys
                (inl (pipe_done pipe.Lossy (Leaves (Reads d)) (bytes_of bytes) text (inl (refl, (refl, omega arith, refl, refl))) lossy_part lossy_all)) refl refl),
          )))
          (pipe_done pipe.Hex (ThroughPipe (ReadsWhole d) pipe.Lossy) text ys (pipe_done pipe.Lossy (ReadsWhole d) (bytes_of bytes) text (inl (omega arith, refl, refl)) lossy_part lossy_all) refl refl);
      printed = printed_lossy_hexadecimal;
    }

pub filtered_log_right : IsRightRun filtered_log_work filtered_log filtered_log_text
filtered_log_right =
    let ps = pipe.Utf8 ∷ pipe.Lines ∷ pipe.Filter (codes "ERROR") ∷ pipe.Number ∷ [] in
    let d : DeviceTold = file_device log_text 39 true how.Done in
    let xs = bytes_of log_text in
    let A = Reads d in
    let B = ThroughPipe (Leaves A) pipe.Utf8 in
    let C = ThroughPipe (Leaves B) pipe.Lines in
    let D = ThroughPipe (Leaves C) (pipe.Filter (codes "ERROR")) in
    let F = ReadsWhole d in
    let G = ThroughPipe F pipe.Utf8 in
    let H = ThroughPipe G pipe.Lines in
    let I = ThroughPipe H (pipe.Filter (codes "ERROR")) in
    record {
      performs = file_done (runs_of ps) (ideal_of ps) log_text 39 true how.Done filtered_log.frames (omega arith) (log_numbered ∷ []) ((omega arith, omega arith), tt) refl refl refl
          (inl (inl (
            refl,
            refl,
            inl (pipe_done pipe.Number (Leaves D) log_errors log_numbered (inl (pipe_done (pipe.Filter (codes "ERROR")) (Leaves C) log_lines log_errors (inl (pipe_done pipe.Lines (Leaves B) xs log_lines
                (inl (pipe_done pipe.Utf8 (Leaves A) xs xs (inl (refl, (refl, omega arith, refl, refl))) log_utf8_part log_utf8_all)) log_lines_part log_lines_all)) refl refl)) refl log_numbered_all),
          )))
          (pipe_done pipe.Number I log_errors log_numbered (pipe_done (pipe.Filter (codes "ERROR")) H log_lines log_errors (pipe_done pipe.Lines G xs log_lines (pipe_done pipe.Utf8 F xs xs (inl (omega arith, refl, refl)) log_utf8_part log_utf8_all) log_lines_part log_lines_all) refl refl) refl log_numbered_all);
      printed = printed_filtered_log;
    }

pub taker_stops_right : IsRightRun taker_stops_work taker_stops taker_stops_text
taker_stops_right =
    let bytes : List ℕ = codes "a\nb\n" in
    let ys = lines_of (path_a ∷ codes "b" ∷ []) in
    let d : DeviceTold = file_device bytes 4 false how.Done in
    record {
      performs = file_done (λ d. InFile d (Taken 2 (Leaves (ThroughPipe (Leaves (Reads d)) pipe.Lines)))) (λ d. Taken 2 (ThroughPipe (ReadsWhole d) pipe.Lines)) bytes 4 false how.Done taker_stops.frames (omega arith) (ys ∷ []) ((omega arith, omega arith), tt) refl refl refl
          (inl (inl (refl, refl, inl (ys, Cut, inl (piped_left (part_of no_values pipe.Lines) (all_of no_values pipe.Lines) (Leaves (Reads d)) (bytes_of bytes) ys (inl (refl, tt)) taken_part_fault taken_part), inl (omega arith, refl, refl)))))
          (ys, Done, pipe_done pipe.Lines (ReadsWhole d) (bytes_of bytes) ys (inl (omega arith, refl, refl)) taken_part_fault taken_all, inl (omega arith, refl, refl));
      printed = printed_taker_stops;
    }

pub second_field_right : IsRightRun second_field_work second_field second_field_text
second_field_right =
    let bytes : List ℕ = codes "\"a\nb\",c\n" in
    let ys = lines_of (codes "c" ∷ []) in
    let d : DeviceTold = file_device bytes 8 true how.Done in
    record {
      performs = file_done (λ d. InFile d (Gathered (Leaves (Reads d)) (without_fault ys))) (λ d. Gathered (ReadsWhole d) (without_fault ys)) bytes 8 true how.Done second_field.frames (omega arith) (ys ∷ []) ((omega arith, omega arith), tt) refl refl refl
          (inl (inl (refl, refl, inl (bytes_of bytes, Done, inl (refl, (refl, omega arith, refl, refl)), (refl, refl)))))
          (bytes_of bytes, Done, inl (omega arith, refl, refl), (refl, refl));
      printed = printed_second_field;
    }

pub uneven_records_right : IsRightRun uneven_records_work uneven_records uneven_records_text
uneven_records_right =
    let bytes : List ℕ = codes "a,b\nc\n" in
    let ys = Row (path_a ∷ codes "b" ∷ []) ∷ [] in
    let d : DeviceTold = file_device bytes 6 true (how.Fault code.Uneven) in
    record {
      performs = file_fault (λ d. InFile d (Gathered (Leaves (Reads d)) (failed ys code.Uneven))) (λ d. Gathered (ReadsWhole d) (failed ys code.Uneven)) bytes 6 true (how.Fault code.Uneven) uneven_records.frames (omega arith) (ys ∷ []) ((omega arith, omega arith), tt) (ap (λ t. t ∷ []) uneven_printed) uneven_printed code.Uneven refl refl
          (inl (inl (refl, refl, inl (bytes_of bytes, Done, inl (refl, (refl, omega arith, refl, refl)), (refl, refl)))))
          (bytes_of bytes, Done, inl (omega arith, refl, refl), (refl, refl));
      printed = printed_uneven_records;
    }
