-- What a list of whole lines gives.
use Rattle.std.proofs.Common.{◌≡◌, ℕ, List, [], ◌∷◌, map, inl, refl, ap}
use Rattle.std.specs.Char.{encode_utf8}
use Rattle.std.specs.Str.{chars, is_utf8}
use Rattle.std.specs.Str.Lossy.{utf8_error_len, utf8_valid_len}
use Rattle.chunk_core.specs.Elements.{Byte, Element, Line}
use Rattle.chunk_core.specs.Feed.{Given}
use Rattle.chunk_core.specs.Outcomes.{Cut, Done, Outcomes}
use Rattle.chunk_core.specs.Tables.{no_values}
use Rattle.device_port.specs.Device.{DeviceTold}
use Rattle.pull_nodes.specs.Lines.{ended_lines, open_line, without_pairs}
use Rattle.pull_nodes.specs.PipeRule.{without_fault}
use Rattle.pull_nodes.specs.Pipes.{all_of, part_of}
use Rattle.pull_nodes.specs.Runs.{Reads, ReadsWhole}
use Rattle.pull_nodes.specs.declared.pipe.Pipe.{Pipe}
use Rattle.pull_nodes.specs.declared.pipe.Pipe.TheVariants as pipe
use Rattle.run_laws.specs.Files.{path_a}
use Rattle.run_laws.specs.Lists.{IdealListRuns, ListRuns, bad_bytes, ended_lines_in, list_bytes}
use Rattle.run_laws.specs.Streams.{Leaves, ThroughPipe}
use Rattle.run_laws.specs.Tables.{path_b}
use Rattle.run_laws.proofs.Performing.{piped_done, piped_left}

-- the bytes are UTF-8, and these whole lines
pub record Spells (bytes : List ℕ) (lines : List Element) : Type 0 where
  pub utf8_part : part_of no_values pipe.Utf8 (map Byte bytes) ≡ without_fault (map Byte bytes)
  pub utf8_all : all_of no_values pipe.Utf8 (map Byte bytes) ≡ without_fault (map Byte bytes)
  pub lines_part : part_of no_values pipe.Lines (map Byte bytes) ≡ without_fault lines
  pub lines_all : all_of no_values pipe.Lines (map Byte bytes) ≡ without_fault lines

pipe_done : (p : Pipe) (A : Outcomes) (xs ys : List Element) → A xs Done → part_of no_values p xs ≡ without_fault xs → all_of no_values p xs ≡ without_fault ys → ThroughPipe A p ys Done
pipe_done p A xs ys run part all = piped_done (part_of no_values p) (all_of no_values p) A xs ys run (ap (λ (g : Given). g.fault) part) all

module _ (bytes : List ℕ) (lines : List Element) (spelled : Spells bytes lines) where
  last_pipe : (A : Outcomes) → A (map Byte bytes) Done → ThroughPipe A pipe.Lines lines Done
  last_pipe A run = piped_done (part_of no_values pipe.Lines) (all_of no_values pipe.Lines) A (map Byte bytes) lines run (ap (λ (g : Given). g.fault) spelled.lines_part) spelled.lines_all

  -- read to the end
  pub whole_list : (d : DeviceTold) → d.opens ≡ 1 → d.open_faults ≡ 0 → Reads d (map Byte bytes) Done → ListRuns d lines Done
  whole_list d opened good run = inl (inl (opened, good, inl (last_pipe (Leaves (ThroughPipe (Leaves (Reads d)) pipe.Utf8)) (inl (pipe_done pipe.Utf8 (Leaves (Reads d)) (map Byte bytes) (map Byte bytes) (inl run) spelled.utf8_part spelled.utf8_all)))))

  pub ideal_list : (d : DeviceTold) → ReadsWhole d (map Byte bytes) Done → IdealListRuns d lines Done
  ideal_list d run = last_pipe (ThroughPipe (ReadsWhole d) pipe.Utf8) (pipe_done pipe.Utf8 (ReadsWhole d) (map Byte bytes) (map Byte bytes) run spelled.utf8_part spelled.utf8_all)

  -- left behind these bytes
  pub left_list : (d : DeviceTold) → d.opens ≡ 1 → d.open_faults ≡ 0 → Reads d (map Byte bytes) Cut → ListRuns d lines Cut
  left_list d opened good run = inl (inl (
    opened,
    good,
    inl (piped_left (part_of no_values pipe.Lines) (all_of no_values pipe.Lines) (Leaves (ThroughPipe (Leaves (Reads d)) pipe.Utf8)) (map Byte bytes) lines
        (inl (piped_left (part_of no_values pipe.Utf8) (all_of no_values pipe.Utf8) (Leaves (Reads d)) (map Byte bytes) (map Byte bytes) (inl run) (ap (λ (g : Given). g.fault) spelled.utf8_part) (ap (λ (g : Given). g.list) spelled.utf8_part)))
        (ap (λ (g : Given). g.fault) spelled.lines_part) (ap (λ (g : Given). g.list) spelled.lines_part)),
  ))

abbrev pub two_lines : List Element
two_lines = Line path_a ∷ Line path_b ∷ []

pub two_spelled : Spells list_bytes two_lines
unfolding utf8_valid_len is_utf8 chars encode_utf8 utf8_error_len without_pairs ended_lines open_line
two_spelled = record { utf8_part = refl; utf8_all = refl; lines_part = refl; lines_all = refl }

-- a line, and an empty one
abbrev pub bad_lines : List Element
bad_lines = Line path_a ∷ Line [] ∷ []

pub bad_spelled : Spells bad_bytes bad_lines
unfolding utf8_valid_len is_utf8 chars encode_utf8 utf8_error_len without_pairs ended_lines open_line
bad_spelled = record { utf8_part = refl; utf8_all = refl; lines_part = refl; lines_all = refl }

-- How many lines have ended.

pub none_ended : ended_lines_in [] ≡ 0
unfolding utf8_valid_len is_utf8 chars encode_utf8 utf8_error_len without_pairs ended_lines open_line
none_ended = refl

pub two_ended : ended_lines_in list_bytes ≡ 2
unfolding utf8_valid_len is_utf8 chars encode_utf8 utf8_error_len without_pairs ended_lines open_line
two_ended = refl
