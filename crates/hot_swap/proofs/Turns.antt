-- Rows that end one after the other, where no lease keeps one.
use Rattle.std.proofs.Common.{◌≡◌, ℕ, ◌+◌, Bool, List, [], ◌∷◌, ◌++◌, length, Option, None, Some, refl, sym, ap, ◌∙◌, subst, ⊎_elim, append-nil, append_assoc}
use Rattle.chunk_core.specs.declared.code.Exit.{Exit}
use Rattle.chunk_core.specs.declared.code.Exit.TheVariants.{Succeeded}
use Rattle.chunk_core.specs.Lists.{IsAmong}
use Rattle.chunk_core.proofs.Members.{among_nil}
use Rattle.res_ledger.specs.declared.event.What.TheVariants.{Open, Acquire, Close}
use Rattle.res_ledger.specs.Order.{finals}
use Rattle.res_ledger.specs.Own.{latest, rows, teardown}
use Rattle.row_seat.specs.declared.view.Left.TheVariants.{Stays, Yours}
use Rattle.row_seat.specs.declared.view.View.{View}
use Rattle.scope_tree.specs.declared.branch.Spent.{Spent}
use Rattle.scope_tree.specs.Calls.{Seen, OpensScope, AcquiresRow, ClosesScope}
use Rattle.scope_tree.specs.Released.{Released, said}
use Rattle.scope_tree.specs.Released.Holder.{owner}
use Rattle.scope_tree.specs.Released.Released.{done, stays, ends_so}
use Rattle.scope_tree.specs.Trace.{trace}
use Rattle.scope_tree.proofs.Follows.{let_go}
use Rattle.scope_tree.proofs.Owning.{finished_open}
use Rattle.scope_tree.proofs.Use.{opened_said, acquired_said, closed_said}
use Rattle.tree_laws.specs.Alone.{StaysAlone}
use Rattle.tree_laws.proofs.Alone.{alone_acquires, alone_closes, alone_opens, alone_then}
use Rattle.hot_swap.specs.declared.swap.Held.{Held}
use Rattle.hot_swap.specs.Swaps.{EndInTurn, EndsAll, IsHolding, IsUnleased, TakesPlace, held_row}
use Rattle.hot_swap.proofs.Holding.{Between, torn_held, torn_root}

module _ {P : Type 0} {ends : P → Exit → Bool → P → Type 0} {x : Exit} where
  -- where no lease may keep a row, each ends
  in_turn : {T : List ℕ} {v w : View P} {ys : List (Spent P)} → Released ends x owner T v ys w → v.pairs ≡ [] → v.out ≡ [] → EndInTurn ends x T v.opened ys w.opened
  in_turn (done v) p o = refl
  in_turn (stays v u r l t) p o =
      absurd (⊎_elim (λ i. among_nil (subst (λ xs. IsAmong (l.3.1.0, r) xs) p i)) (λ i. among_nil (subst (λ xs. IsAmong l.3.1.0 xs) o i)) l.3.1.1.1)
  in_turn {w = w} (ends_so {T = T} {ys = ys} v u y n l f t) p o =
      let g = let_go owner v y.row Yours u l in
      let h = finished_open v u y n l f in
      (refl, f.exit, (f.pay, h.0, f.finish), subst (λ os. EndInTurn ends x T os ys w.opened) g.opened (in_turn t (g.pairs ∙ p) (ap (λ z. z.out) g.same ∙ o)))

  closes_in_turn : {a b : Seen P} {s : ℕ} (T : List ℕ) (c : ClosesScope ends a s x b) → IsUnleased a.seat → teardown (trace a.seat) s ≡ T → EndInTurn ends x T a.seat.opened c.torn.0 b.seat.opened
  closes_in_turn {a = a} {b = b} T c u e = subst (λ U. EndInTurn ends x U a.seat.opened c.torn.0 b.seat.opened) e (in_turn c.torn.2 u.0 u.1)

module _ {P : Type 0} (a b d : Seen P) (k : Held) (p : P) (o : OpensScope a 0 k.scope b) (q : AcquiresRow b k.scope k.row p d) where
  opened_is : d.seat.opened ≡ a.seat.opened ++ (k.row, p) ∷ []
  opened_is = ap (λ v. v.opened) q.seat ∙ ap (λ v. v.opened ++ (k.row, p) ∷ []) o.seat

  noted_is : o.parent ≡ 0 → trace d.seat ≡ trace a.seat ++ Open k.scope 0 ∷ Acquire k.row k.scope ∷ []
  noted_is root = acquired_said q ∙ ap (λ l. l ++ Acquire k.row k.scope ∷ []) (opened_said o ∙ ap (λ z. trace a.seat ++ Open k.scope z ∷ []) root) ∙ append_assoc (trace a.seat) (Open k.scope 0 ∷ []) (Acquire k.row k.scope ∷ [])

  pub stays_two : StaysAlone a.seat d.seat
  stays_two = alone_then a.seat b.seat d.seat (alone_opens o) (alone_acquires q)

  module _ {ends : P → Exit → Bool → P → Type 0} where
    pub takes_none : o.parent ≡ 0 → TakesPlace ends a None k.row p d k
    takes_none root = record {
      row = refl;
      scope = o.number;
      ended = [];
      rows = opened_is;
      shelf = q.shelf ∙ o.shelf ∙ sym (append-nil a.shelf);
      noted = noted_is root;
    }

    pub takes_some : o.parent ≡ 0 → (e : Seen P) (g : Held) → Between d (Some g) k → IsUnleased a.seat → ClosesScope ends d g.scope Succeeded e → TakesPlace ends a (Some g) k.row p e k
    takes_some root e g t u c =
        let free : IsUnleased d.seat = (ap (λ v. v.pairs) q.seat ∙ ap (λ v. v.pairs) o.seat ∙ u.0, ap (λ v. v.out) q.seat ∙ ap (λ v. v.out) o.seat ∙ u.1) in
        let F = Close g.scope Succeeded ∷ finals Succeeded (said c.torn.0) in
        record {
          row = refl;
          scope = o.number;
          ended = c.torn.0;
          rows = subst (λ os. EndInTurn ends Succeeded (g.row ∷ []) os c.torn.0 e.seat.opened) opened_is (closes_in_turn (g.row ∷ []) c free (torn_held d g k t));
          shelf = c.torn.1 ∙ ap (λ l. l ++ c.torn.0) (q.shelf ∙ o.shelf);
          noted = closed_said c ∙ ap (λ l. l ++ F) (noted_is root) ∙ append_assoc (trace a.seat) (Open k.scope 0 ∷ Acquire k.row k.scope ∷ []) F;
        }

    pub stays_three : (e : Seen P) {s : ℕ} {x : Exit} → ClosesScope ends d s x e → StaysAlone a.seat e.seat
    stays_three e c = alone_then a.seat d.seat e.seat stays_two (alone_closes c)

-- the root was closed, and the seat and the shelf are those of the tree afterwards
pub all_end : {P : Type 0} {ends : P → Exit → Bool → P → Type 0} {x : Exit} (a b : Seen P) (h : Option Held) (v : View P) (shelf : List (Spent P)) → IsHolding a h → IsUnleased a.seat → ClosesScope ends a 0 x b → v ≡ b.seat → shelf ≡ b.shelf → EndsAll ends a h x (record a { seat = v; shelf = shelf })
all_end {P = P} {ends = ends} {x = x} a b h v shelf i u c seat_is shelf_is = record {
  ended = c.torn.0;
  rows = subst (λ (w : View P). EndInTurn ends x (held_row h ++ latest (rows (trace a.seat)) 0) a.seat.opened c.torn.0 w.opened) (sym seat_is) (closes_in_turn (held_row h ++ latest (rows (trace a.seat)) 0) c u (torn_root a h i));
  shelf = shelf_is ∙ c.torn.1;
  noted = ap trace seat_is ∙ closed_said c;
}
