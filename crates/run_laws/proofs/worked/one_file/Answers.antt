use Rattle.run_laws.proofs.Files.{cut_line_end_right, whole_character_right, truncated_character_right, malformed_character_right, lossy_hexadecimal_right, filtered_log_right, taker_stops_right, second_field_right, uneven_records_right}
use Rattle.run_laws.proofs.worked.one_file.Goals as goal

pub returns : goal.returns
returns c = record {
  is_cut_line_end = cut_line_end_right;
  is_whole_character = whole_character_right;
  is_truncated_character = truncated_character_right;
  is_malformed_character = malformed_character_right;
  is_lossy_hexadecimal = lossy_hexadecimal_right;
  is_filtered_log = filtered_log_right;
  is_taker_stops = taker_stops_right;
  is_second_field = second_field_right;
  is_uneven_records = uneven_records_right;
}
