-- The streams whose seats are out.
use Rattle.std.specs.Prelude.{◌≡◌, ◌⊎◌, ℕ, ◌<◌, ◌≤◌, nat_eq, List, map, length, Some}
use Rattle.std.specs.List.{IsDistinct}
use Rattle.chunk_core.specs.declared.code.Exit.TheVariants.{Succeeded}
use Rattle.chunk_core.specs.Lists.{IsAmong}
use Rattle.scope_tree.specs.Calls.{Seen}
use Rattle.tree_laws.specs.Lent.{Lent}
use Rattle.tree_families.specs.Families.{Split}
use Rattle.join_tree.specs.Progress.{Progress}

-- a stream, the floor of its seat, and the rows of the lease that it keeps
pub record Guest : Type 0 where
  pub stream : ℕ
  pub floor : ℕ
  pub rows : List ℕ

module _ {P : Type 0} where
  -- the seat of the guest is out, with its floor, and the main tree made the lease that it keeps
  pub record IsOut (b : Seen P) (ms : List Split) (g : Guest) : Type 0 where
    pub out : IsAmong g.stream b.seat.out
    pub floor : (m : Split) → IsAmong m ms → m.stream ≡ g.stream → m.floor ≡ g.floor
    pub lent : Lent b.seat g.stream g.rows

  -- the seats that are out are those of the guests, each of another stream
  pub record AreOut (b : Seen P) (ms : List Split) (gs : List Guest) : Type 0 where
    pub each : (g : Guest) → IsAmong g gs → IsOut b ms g
    pub all : (j : ℕ) → IsAmong j b.seat.out → (g : Guest) × IsAmong g gs × (g.stream ≡ j)
    pub apart : IsDistinct nat_eq (map (λ g. g.stream) gs)

  -- the next stream may begin: the one behind it was leased or the root was closed as succeeded, and fewer than `width` seats are out
  pub record IsReady (width : ℕ) (b : Seen P) (p : Progress P) : Type 0 where
    pub ahead : (2 ≤ length p.waits) ⊎ (p.root ≡ Some Succeeded)
    pub narrow : length b.seat.out < width
