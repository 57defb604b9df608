-- What a cancellation keeps of a tree.
use Rattle.std.proofs.Common.{ℕ, ◌+◌, ◌≤◌, Bool, List, [], ◌∷◌, sym, ap, subst, arith, append-nil, nat_eq}
use Rattle.chunk_core.specs.declared.code.Exit.{Exit}
use Rattle.chunk_core.specs.Lists.{IsAmong}
use Rattle.res_ledger.specs.declared.event.What.TheVariants.{Cancel}
use Rattle.res_ledger.specs.Order.{finals}
use Rattle.res_ledger.proofs.Growth.{noted_new}
use Rattle.row_seat.specs.declared.view.View.{View}
use Rattle.row_seat.specs.Views.{HasRow, noted}
use Rattle.scope_tree.specs.declared.branch.Branch.{Branch}
use Rattle.scope_tree.specs.declared.branch.AcquiredRow.{AcquiredRow}
use Rattle.scope_tree.specs.declared.branch.Spent.{Spent}
use Rattle.scope_tree.specs.Kept.{Kept}
use Rattle.scope_tree.specs.Released.{CanRelease, Released, away, said}
use Rattle.scope_tree.specs.Released.Holder.{lease}
use Rattle.std.specs.List.{IsDistinct}
use Rattle.scope_tree.specs.Trace.{canceling, owed}
use Rattle.scope_tree.proofs.Follows.{released_follows, same_empty}
use Rattle.scope_tree.proofs.Grown.{Grown, closes_finals, grown_noted, grown_release, kept_still, lends_less, opens_finals, rows_finals}
use Rattle.scope_tree.proofs.Lessee.{lease_opened}
use Rattle.scope_tree.proofs.Releasing.{released_can, released_most, released_spare}

module _ {P : Type 0} (v : View P) (bs : List Branch) (hs : List AcquiredRow) (j n : ℕ) (T : List ℕ) (x : Exit) (k : Kept v bs hs) (d : IsDistinct nat_eq T) (p : (r : ℕ) → IsAmong r T → IsAmong (j, r) v.pairs) (f : owed v + 1 + away T v.opened ≤ v.spare) where
  pub cancel_can : CanRelease (lease j) T (noted v (canceling v j x n))
  cancel_can = record {
    distinct = d;
    rows = λ r m. (p r m, (x, noted_new v.events (canceling v j x n)));
    handed = k.rests.handed;
    taken = k.rests.taken;
    spare = omega arith;
  }

  module _ {ends : P → Exit → Bool → P → Type 0} (w : View P) (ys : List (Spent P)) (t : Released ends x (lease j) T (noted v (canceling v j x n)) ys w) where
    pub cancel_grown : Grown v w (Cancel j x ∷ finals x (said ys))
    cancel_grown = grown_release v n (Cancel j x) t

    pub cancel_keeps : Kept w bs hs
    cancel_keeps =
        let o = lease_opened t in let s = released_follows t in
        let rest : CanRelease (lease j) [] w = released_can t (subst (λ S. CanRelease (lease j) S (noted v (canceling v j x n))) (sym (append-nil T)) cancel_can) in
        let empty : (r : ℕ) → IsAmong r w.empty → IsAmong r v.empty = λ r m. subst (λ l. IsAmong r l) (same_empty s) m in
        let most = released_most [] t in let spare = released_spare t in let e = ap (λ S. away S v.opened) (append-nil T) in
        kept_still v w cancel_grown (opens_finals x (said ys)) (rows_finals x (said ys)) (closes_finals x (said ys)) o empty rest.handed rest.taken (omega (f, most, spare, e, arith))
        (lends_less v w s.pairs (λ r h. subst (λ l. HasRow l r) o h) empty (λ i c m. grown_noted cancel_grown m) k.lends) k
