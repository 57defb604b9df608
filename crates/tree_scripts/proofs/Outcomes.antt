-- Which rows a close ends, and with which payloads.
use Rattle.std.proofs.Common.{◌≡◌, ℕ, Bool, List, [], ◌∷◌, sym, ap, subst, ⊎_elim}
use Rattle.chunk_core.specs.declared.code.Exit.{Exit}
use Rattle.chunk_core.specs.Lists.{IsAmong}
use Rattle.chunk_core.specs.Lists.IsAmong.{here, there}
use Rattle.chunk_core.proofs.Members.{among_cons, among_last, among_nil}
use Rattle.res_ledger.specs.Order.{firsts}
use Rattle.row_seat.specs.declared.view.View.{View}
use Rattle.row_seat.specs.Views.{HasPair, HasRow}
use Rattle.scope_tree.specs.declared.branch.Spent.{Spent}
use Rattle.scope_tree.specs.Released.{Released, said}
use Rattle.scope_tree.specs.Released.Holder.{owner}
use Rattle.scope_tree.specs.Released.Released.{done, stays, ends_so}
use Rattle.scope_tree.proofs.Follows.{released_follows}
use Rattle.scope_tree.proofs.Owning.{loses, owner_pays}

module _ {P : Type 0} where
  pub said_found : (r : ℕ) (xs : List (Spent P)) → IsAmong r (firsts (said xs)) → (x : Spent P) × IsAmong x xs × (x.row ≡ r)
  said_found r [] m = absurd (among_nil m)
  said_found r (x ∷ xs) m = ⊎_elim (λ e. (x, here xs, sym e)) (λ n. let t = said_found r xs n in (t.0, there x t.1, t.2)) (among_cons m)

  module _ {ends : P → Exit → Bool → P → Type 0} {x : Exit} where
    -- what ends was open, and no lease stood on it
    pub owner_opens : {T : List ℕ} {v w : View P} {ys : List (Spent P)} (r : ℕ) → Released ends x owner T v ys w → IsAmong r (firsts (said ys)) → HasRow v.opened r × ¬ (HasPair v r)
    owner_opens {v = v} {ys = ys} r t m =
        let s = said_found r ys m in
        let y = owner_pays s.0 t s.1 in
        subst (λ z. HasRow v.opened z × ¬ (HasPair v z)) s.2 ((y.0, y.1), y.4)

    -- what is let go was open, and the payload that it had is left in it
    pub owner_leaves : {T : List ℕ} {v w : View P} {ys : List (Spent P)} (r : ℕ) → Released ends x owner T v ys w → IsAmong r T → (p : P) × IsAmong (r, p) v.opened × IsAmong (r, p) w.left
    owner_leaves r (done v) m = absurd (among_nil m)
    owner_leaves {w = w} r (stays v u q l t) m = ⊎_elim
        (λ e. subst (λ z. (p : P) × IsAmong (z, p) v.opened × IsAmong (z, p) w.left) (sym e) (l.0, l.1, (released_follows t).left (q, l.0) (subst (λ z. IsAmong (q, l.0) z.left) (sym l.2) (among_last v.left (q, l.0)))))
        (λ i. let y = owner_leaves r t i in (y.0, loses v u q (r, y.0) (ap (λ z. z.opened) l.2) y.1, y.2))
        (among_cons m)
    owner_leaves {w = w} r (ends_so v u y n l f t) m = ⊎_elim
        (λ e. subst (λ z. (p : P) × IsAmong (z, p) v.opened × IsAmong (z, p) w.left) (sym e) (l.0, l.1, (released_follows t).left (y.row, l.0) (subst (λ z. IsAmong (y.row, l.0) z.left) (sym l.2) (among_last v.left (y.row, l.0)))))
        (λ i. let z = owner_leaves r t i in (z.0, loses v u y.row (r, z.0) (ap (λ a. a.opened) l.2) z.1, z.2))
        (among_cons m)
