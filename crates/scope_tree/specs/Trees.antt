-- A tree that is in order.
use Rattle.std.specs.Prelude.{◌<◌, ◌≤◌, ◌^◌, vec_capacity}
use Rattle.row_seat.specs.declared.view.View.{View}
use Rattle.scope_tree.specs.declared.tree.Tree.{Tree}
use Rattle.scope_tree.specs.Calls.{Seen, used}
use Rattle.scope_tree.specs.Kept.{Kept, Shelved}

module _ {S P D : Type 0} where
  -- what callers see of the tree t
  abbrev pub seen : (S → View P) → Tree S P D → Seen P
  seen view t = record { seat = view t.seat; shelf = t.shelf.items; scopes = t.scopes; rows = t.rows }

  -- what the tree keeps agrees with its seat, and there is room for all that it may still keep
  pub record IsConsistent (view : S → View P) (t : Tree S P D) : Type 0 where
    pub kept : Kept (view t.seat) t.branches.items t.acquisitions.items
    pub shelved : Shelved (view t.seat) t.acquisitions.items t.shelf.items
    pub used : used (seen view t) ≤ t.rows
    pub branches : t.scopes ≤ vec_capacity t.branches
    pub acquisitions : t.rows ≤ vec_capacity t.acquisitions
    pub shelf : t.rows ≤ vec_capacity t.shelf
    pub limit : t.scopes < 2 ^ 32
    pub rows_limit : t.rows < 2 ^ 32

  -- the tree is in order, and its seat and the desk come from one maker
  pub record Fits (view : S → View P) (fits : S → D → Type 0) (t : Tree S P D) (d : D) : Type 0 where
    pub seat : fits t.seat d
    pub sound : IsConsistent view t
