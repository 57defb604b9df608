-- How far a main tree is.
use Rattle.std.specs.Prelude.{◌≡◌, ℕ, suc, List, [], ◌∷◌, ◌++◌, map, Option, Some, None}
use Rattle.chunk_core.specs.declared.code.Exit.{Exit}
use Rattle.res_ledger.specs.declared.event.What.{What}
use Rattle.row_seat.specs.declared.view.View.{View}
use Rattle.scope_tree.specs.Calls.{Seen}
use Rattle.tree_families.specs.Families.{Split, split_of}

-- The seats that were split off; the trees that came back, each as it stood last; the leases that wait, each its stream with its rows;
-- the streams below `next` were dealt with, and those from there to `leased` - 1 wait; what the outer stream noted of its tables and of its child scopes;
-- the exit with which its root was closed, once it was; and which streams stood then (`last`), and when each stream was leased for (`ahead`), where those that may be out are told to be `out`.
pub record Progress (P : Type 0) : Type 0 where
  pub splits : List Split
  pub back : List (Seen P)
  pub waits : List (ℕ × List ℕ)
  pub next : ℕ
  pub leased : ℕ
  pub tables : List What
  pub root : Option Exit
  pub out : List ℕ
  pub ahead : List (ℕ × List ℕ)
  pub last : List ℕ

-- nothing was done
abbrev pub none_done : (P : Type 0) → Progress P
none_done P = record { splits = []; back = []; waits = []; next = 0; leased = 0; tables = []; root = None; out = []; ahead = []; last = [] }

-- the leases ws are those of the streams from `next` to `leased` - 1, in order
abbrev pub Follow : ℕ → List (ℕ × List ℕ) → ℕ → Type 0
Follow next [] leased = next ≡ leased
Follow next (w ∷ ws) leased = (w.0 ≡ next) × Follow (suc next) ws leased

module _ {P : Type 0} where
  -- the outer stream did this with its tables
  abbrev pub reading : Progress P → List What → Progress P
  reading p E = record p { tables = p.tables ++ E }

  -- the streams that stand: those that are told to be out, and those whose leases wait
  abbrev pub standing : Progress P → List ℕ
  standing p = p.out ++ map (λ w. w.0) p.waits

  -- it is told anew which streams are out
  abbrev pub telling_out : Progress P → List ℕ → Progress P
  telling_out p out = record p { out = out }

  -- a scope was leased for the next stream, on the rows T
  abbrev pub leasing_next : Progress P → List ℕ → Progress P
  leasing_next p T = record p { waits = p.waits ++ (p.leased, T) ∷ []; leased = suc p.leased; ahead = (p.leased, standing p) ∷ p.ahead }

  -- the root was closed with the exit
  abbrev pub closing_root : Progress P → Exit → Progress P
  closing_root p x = record p { root = Some x; last = standing p }

  -- the first lease that waits was cancelled, and the others wait still
  abbrev pub skipping : Progress P → List (ℕ × List ℕ) → Progress P
  skipping p us = record p { waits = us; next = suc p.next }

  -- the seat of the stream j, whose lease was the first to wait, was split off from the main seat v
  abbrev pub splitting : Progress P → View P → ℕ → List (ℕ × List ℕ) → Progress P
  splitting p v j us = record p { splits = p.splits ++ split_of v j ∷ []; waits = us; next = suc p.next; out = j ∷ p.out }

  -- the tree of a stream came back, which stood as y last
  abbrev pub joining : Progress P → Seen P → Progress P
  joining p y = record p { back = p.back ++ y ∷ [] }
