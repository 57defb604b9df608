-- What callers see of a rotation.
use Rattle.std.specs.Prelude.{ℕ, Option}
use Rattle.row_seat.specs.declared.view.View.{View}
use Rattle.scope_tree.specs.Calls.{Seen}
use Rattle.hot_swap.specs.declared.swap.Held.{Held}
use Rattle.hot_swap.specs.Swaps.{FitsSwap, held, seen_tree}
use Rattle.rotate_files.specs.declared.rotation.Rotation.{Rotation}

module _ {S P D : Type 0} where
  -- its tree, in which each file has a row
  abbrev pub seen_files : (S → View P) → Rotation S P D → Seen P
  seen_files view r = seen_tree view r.files

  -- the file that is written, with its scope
  abbrev pub held_file : Rotation S P D → Option Held
  held_file r = held r.files

  -- how many files there are
  abbrev pub files_of : Rotation S P D → ℕ
  files_of r = r.count

  -- how many bytes more the last of them takes
  abbrev pub room_of : Rotation S P D → ℕ
  room_of r = r.left

  -- its tree is in order, and its seat and the desk come from one maker
  abbrev pub FitsFiles : (S → View P) → (S → D → Type 0) → Rotation S P D → D → Type 0
  FitsFiles view fits r d = FitsSwap view fits r.files d
