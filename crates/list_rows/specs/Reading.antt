-- What reading a line of a list in its row does.
use Rattle.std.specs.Prelude.{◌≡◌, ◌≢◌, ◌⊎◌, ℕ, List}
use Rattle.chunk_core.specs.Elements.{Element}
use Rattle.chunk_core.specs.Feed.{Meaning}
use Rattle.chunk_core.specs.Lists.{IsAmong}
use Rattle.device_port.specs.Device.{DeviceTold}
use Rattle.list_lines.specs.Lists.{Comes, OnlyReads}
use Rattle.list_lines.specs.declared.lines.ListLines.{ListLines}
use Rattle.list_lines.specs.declared.listed.Listed.{Listed}
use Rattle.res_ledger.specs.declared.event.Event.{Event}
use Rattle.row_seat.specs.declared.view.View.{View}
use Rattle.row_seat.specs.Views.{paid}
use Rattle.scope_tree.specs.Calls.{Seen}

-- what was noted stays noted, what was left in a row stays left, what was handed over stays so, and the payload of an open row but this stays there or is left in it
pub record KeepsRowsBut {P : Type 0} (r : ℕ) (v w : View P) : Type 0 where
  pub noted : (e : Event) → IsAmong e v.events → IsAmong e w.events
  pub left : (y : ℕ × P) → IsAmong y v.left → IsAmong y w.left
  pub given : (y : ℕ × P) → IsAmong y v.given → IsAmong y w.given
  pub opened : (y : ℕ × P) → y.0 ≢ r → IsAmong y v.opened → IsAmong y w.opened ⊎ IsAmong y w.left

-- the device in the row r was read for the next line of the list y, of which these lines were given, and the row has it still
pub record ReadsLine {V F : Type 0} (told : V → DeviceTold) (Stands : F → Meaning → List Element → Type 0) (r : ℕ) (m : Meaning) (given : List (List ℕ)) (a b : Seen V) (y : ListLines F) (result : Listed) : Type 0 where
  pub before : V
  pub after : V
  pub held : IsAmong (r, before) a.seat.opened
  pub reads : OnlyReads (told before) (told after)
  pub comes : Comes Stands m (told after) given y result
  pub tree : b ≡ record a { seat = paid a.seat r after }
