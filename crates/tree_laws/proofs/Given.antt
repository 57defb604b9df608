-- What ended in a tree was handed to its seat.
use Rattle.std.proofs.Common.{◌≡◌, ℕ, Bool, List, [], ◌++◌, sym, ap, subst, ⊎_elim}
use Rattle.chunk_core.specs.declared.code.Exit.{Exit}
use Rattle.chunk_core.specs.Lists.{IsAmong}
use Rattle.chunk_core.proofs.Filters.{among_append}
use Rattle.chunk_core.proofs.Members.{among_cons, among_left, among_nil}
use Rattle.row_seat.specs.declared.view.Left.{Left}
use Rattle.row_seat.specs.declared.view.Left.TheVariants.{Stays, Yours}
use Rattle.row_seat.specs.declared.view.View.{View}
use Rattle.scope_tree.specs.declared.branch.Spent.{Spent}
use Rattle.scope_tree.specs.Calls.{Seen}
use Rattle.scope_tree.specs.Released.{Holder, LetsGo, Released}
use Rattle.scope_tree.specs.Released.Holder.{owner, lease}
use Rattle.scope_tree.specs.Released.Released.{done, stays, ends_so}
use Rattle.tree_laws.specs.Called.{Called}
use Rattle.tree_laws.specs.Called.Called.{none, opened, acquired, written, leased, cancelled, closed, split, taken_in}
use Rattle.tree_laws.specs.Given.{WasGiven}

-- more was handed
given_more : {P : Type 0} (ends : P → Exit → Bool → P → Type 0) (L M : List (ℕ × P)) → ((y : ℕ × P) → IsAmong y L → IsAmong y M) → (x : Spent P) → WasGiven ends L x → WasGiven ends M x
given_more ends L M h x g = (g.0, h (x.row, g.0) g.1, g.2)

-- the shelf keeps what ended, and the seat what it was handed
step_given : {P : Type 0} (ends : P → Exit → Bool → P → Type 0) (b c : Seen P) → c.seat.given ≡ b.seat.given → c.shelf ≡ b.shelf → ((x : Spent P) → IsAmong x b.shelf → WasGiven ends b.seat.given x) → (x : Spent P) → IsAmong x c.shelf → WasGiven ends c.seat.given x
step_given ends b c g s h x m = subst (λ l. WasGiven ends l x) (sym g) (h x (subst (λ l. IsAmong x l) s m))

-- letting a row go keeps what was handed
module _ {P : Type 0} where
  go_given : (h : Holder) (v u : View P) (r : ℕ) (a : Left) → LetsGo h v r a u → (y : ℕ × P) → IsAmong y v.given → IsAmong y u.given
  go_given owner v u r Stays l y m = subst (λ z. IsAmong y z.given) (sym l.2) m
  go_given owner v u r Yours l y m = subst (λ z. IsAmong y z.given) (sym l.2) (among_left _ m)
  go_given (lease j) v u r Stays l y m = subst (λ z. IsAmong y z.given) (sym l.0) m
  go_given (lease j) v u r Yours l y m = subst (λ z. IsAmong y z.given) (sym l.1) (among_left _ m)

module _ {P : Type 0} {ends : P → Exit → Bool → P → Type 0} where
  released_more : {x : Exit} {h : Holder} {T : List ℕ} {v w : View P} {ys : List (Spent P)} → Released ends x h T v ys w → (y : ℕ × P) → IsAmong y v.given → IsAmong y w.given
  released_more (done v) y m = m
  released_more {h = h} (stays v u r l t) y m = released_more t y (go_given h v u r Stays l y m)
  released_more {h = h} (ends_so v u z n l f t) y m = released_more t y (go_given h v u z.row Yours l y m)

  released_given : {x : Exit} {h : Holder} {T : List ℕ} {v w : View P} {ys : List (Spent P)} → Released ends x h T v ys w → (z : Spent P) → IsAmong z ys → WasGiven ends w.given z
  released_given (done v) z m = absurd (among_nil m)
  released_given (stays v u r l t) z m = released_given t z m
  released_given {w = w} (ends_so v u y n l f t) z m = ⊎_elim
      (λ s. subst (λ q. WasGiven ends w.given q) (sym s) (f.pay, released_more t (y.row, f.pay) f.given, subst (λ q. ends f.pay q y.ok y.pay) (sym f.exit) f.finish))
      (λ o. released_given t z o)
      (among_cons m)

  pub called_given : {a b : Seen P} {Cs : List (ℕ × List ℕ)} → a.shelf ≡ [] → Called ends a Cs b → (x : Spent P) → IsAmong x b.shelf → WasGiven ends b.seat.given x
  called_given e none x m = absurd (among_nil (subst (λ l. IsAmong x l) e m))
  called_given e (opened b c at s k m o) x i = step_given ends b c (ap (λ v. v.given) o.seat) o.shelf (called_given e k) x i
  called_given e (acquired b c s r p k m o) x i = step_given ends b c (ap (λ v. v.given) o.seat) o.shelf (called_given e k) x i
  called_given e (written b c r p k m o) x i = step_given ends b c (ap (λ (y : Seen P). y.seat.given) o) (ap (λ (y : Seen P). y.shelf) o) (called_given e k) x i
  called_given e (leased b c s j T k m o) x i = step_given ends b c (ap (λ v. v.given) o.seat) o.shelf (called_given e k) x i
  called_given e (cancelled b c j T y k m o) x i = ⊎_elim
      (λ n. given_more ends b.seat.given c.seat.given (released_more o.left.2) x (called_given e k x n))
      (λ n. released_given o.left.2 x n)
      (among_append x b.shelf o.left.0 (subst (λ l. IsAmong x l) o.left.1 i))
  called_given e (closed b c s y k m o) x i = ⊎_elim
      (λ n. given_more ends b.seat.given c.seat.given (released_more o.torn.2) x (called_given e k x n))
      (λ n. released_given o.torn.2 x n)
      (among_append x b.shelf o.torn.0 (subst (λ l. IsAmong x l) o.torn.1 i))
  called_given e (split b c j from to n k m o) x i = step_given ends b c (ap (λ (y : Seen P). y.seat.given) o) (ap (λ (y : Seen P). y.shelf) o) (called_given e k) x i
  called_given e (taken_in b c w k m p o) x i =
      let g : c.seat.given ≡ b.seat.given ++ w.given = ap (λ (y : Seen P). y.seat.given) o in
      let s : c.shelf ≡ b.shelf = ap (λ (y : Seen P). y.shelf) o in
      subst (λ l. WasGiven ends l x) (sym g) (given_more ends b.seat.given (b.seat.given ++ w.given) (λ y n. among_left w.given n) x (called_given e k x (subst (λ l. IsAmong x l) s i)))
