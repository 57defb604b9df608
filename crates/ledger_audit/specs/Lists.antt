-- Lists of numbers, one for each scope of each stream.
use Rattle.std.specs.Prelude.{◌≡◌, ◌<◌, ℕ, Bool, ◌&&◌, nat_eq, List, length, Option, unwrap_or, slice_get}
use Rattle.std.specs.HashMap.{get}
use Rattle.ledger_audit.specs.declared.lists.Lists.{Lists}
use Rattle.ledger_audit.specs.declared.lists.Slot.{Slot}
use Rattle.ledger_audit.specs.declared.lists.Slot.TheVariants.{Of}
use Rattle.ledger_audit.specs.declared.lists.Item.{Item}
use Rattle.ledger_audit.specs.declared.lists.Item.TheVariants.{At}

abbrev pub same_slot : Slot → Slot → Bool
same_slot (Of k s) (Of l t) = nat_eq k l && nat_eq s t

abbrev pub same_item : Item → Item → Bool
same_item (At k s n) (At l t m) = nat_eq k l && (nat_eq s t && nat_eq n m)

-- how many were counted in the list of the scope s of stream k
abbrev pub count_of : Lists → ℕ → ℕ → Option ℕ
count_of x k s = get same_slot x.counts (Of k s)

-- what stands at place n of that list
abbrev pub item_of : Lists → ℕ → ℕ → ℕ → Option ℕ
item_of x k s n = get same_item x.items (At k s n)

-- the list of the scope s of stream k
pub record IsList (x : Lists) (k s : ℕ) (xs : List ℕ) : Type 0 where
  pub count : unwrap_or (count_of x k s) 0 ≡ length xs
  pub items : (n : ℕ) → n < length xs → item_of x k s n ≡ slice_get xs n

-- what is added to the list of s by k goes to that of t by l
abbrev pub adds : ℕ → ℕ → ℕ → ℕ → Bool
adds k s l t = nat_eq k l && nat_eq s t
