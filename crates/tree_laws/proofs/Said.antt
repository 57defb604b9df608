-- The shelf has the Finals that calls noted.
use Rattle.std.proofs.Common.{◌≡◌, ℕ, Bool, List, [], ◌∷◌, ◌++◌, refl, sym, ap, ◌∙◌, subst, append-nil}
use Rattle.std.proofs.lemmas.Grind.{flat_map-append}
use Rattle.chunk_core.specs.declared.code.Exit.{Exit}
use Rattle.res_ledger.specs.declared.event.What.{What}
use Rattle.res_ledger.specs.declared.event.What.TheVariants.{Open, Acquire, Lease, Cancel, Close, Final}
use Rattle.res_ledger.specs.Order.{finals}
use Rattle.res_ledger.specs.Own.{own}
use Rattle.row_seat.specs.declared.view.View.{View}
use Rattle.scope_tree.specs.declared.branch.Spent.{Spent}
use Rattle.scope_tree.specs.Calls.{AtStart, Seen}
use Rattle.scope_tree.specs.Released.{Holder, Released, said}
use Rattle.scope_tree.specs.Released.Released.{done, stays, ends_so}
use Rattle.scope_tree.specs.Trace.{ended_rows, trace}
use Rattle.scope_tree.proofs.Parting.{join_trace}
use Rattle.scope_tree.proofs.Use.{acquired_said, canceled_said, closed_said, leased_said, opened_said}
use Rattle.tree_laws.specs.Called.{Called}
use Rattle.tree_laws.specs.Called.Called.{none, opened, acquired, written, leased, cancelled, closed, split, taken_in}
use Rattle.tree_laws.specs.Shelves.{finals_of, noted_ends, shelf_ends}

-- an event that is no Final, and then further ones, behind what was noted
ends_run : (E F G : List What) (w : What) → F ≡ E ++ w ∷ G → finals_of w ≡ [] → noted_ends F ≡ noted_ends E ++ noted_ends G
ends_run E F G w is plain = ap noted_ends is ∙ flat_map-append finals_of E (w ∷ G) ∙ ap (λ l. noted_ends E ++ (l ++ noted_ends G)) plain

-- without their exits
abbrev bare : List (ℕ × Exit × Bool) → List (ℕ × Bool)
bare [] = []
bare (t ∷ ts) = (t.0, t.2) ∷ bare ts

bare_ends : (E : List What) → ended_rows E ≡ bare (noted_ends E)
bare_ends [] = refl
bare_ends (Open s p ∷ E) = bare_ends E
bare_ends (Acquire r s ∷ E) = bare_ends E
bare_ends (Lease j s ∷ E) = bare_ends E
bare_ends (Cancel j x ∷ E) = bare_ends E
bare_ends (Close s x ∷ E) = bare_ends E
bare_ends (Final r x ok ∷ E) = ap (λ l. (r, ok) ∷ l) (bare_ends E)

module _ {P : Type 0} where
  bare_shelf : (ys : List (Spent P)) → said ys ≡ bare (shelf_ends ys)
  bare_shelf [] = refl
  bare_shelf (y ∷ ys) = ap (λ l. (y.row, y.ok) ∷ l) (bare_shelf ys)

  shelf_append : (xs ys : List (Spent P)) → shelf_ends (xs ++ ys) ≡ shelf_ends xs ++ shelf_ends ys
  shelf_append [] ys = refl
  shelf_append (x ∷ xs) ys = ap (λ l. (x.row, x.exit, x.ok) ∷ l) (shelf_append xs ys)

  -- nothing ended
  quiet : (b c : Seen P) (w : What) → trace c.seat ≡ trace b.seat ++ w ∷ [] → finals_of w ≡ [] → c.shelf ≡ b.shelf → noted_ends (trace b.seat) ≡ shelf_ends b.shelf → noted_ends (trace c.seat) ≡ shelf_ends c.shelf
  quiet b c w is plain shelf e = ends_run (trace b.seat) (trace c.seat) [] w is plain ∙ append-nil (noted_ends (trace b.seat)) ∙ e ∙ ap shelf_ends (sym shelf)

module _ {P : Type 0} {ends : P → Exit → Bool → P → Type 0} where
  -- each row that ends does so with the exit that its finalizer was told
  released_ends : {x : Exit} {h : Holder} {T : List ℕ} {v w : View P} {ys : List (Spent P)} → Released ends x h T v ys w → noted_ends (finals x (said ys)) ≡ shelf_ends ys
  released_ends (done v) = refl
  released_ends (stays v u r l t) = released_ends t
  released_ends {x = x} (ends_so {ys = ys} v u y n l f t) = ap (λ e. (y.row, e, y.ok) ∷ noted_ends (finals x (said ys))) (sym f.exit) ∙ ap (λ l. (y.row, y.exit, y.ok) ∷ l) (released_ends t)

  -- rows ended
  ended : {x : Exit} {h : Holder} {T : List ℕ} {v u : View P} (b c : Seen P) (w : What) (ys : List (Spent P)) → trace c.seat ≡ trace b.seat ++ w ∷ finals x (said ys) → finals_of w ≡ [] → c.shelf ≡ b.shelf ++ ys → Released ends x h T v ys u → noted_ends (trace b.seat) ≡ shelf_ends b.shelf → noted_ends (trace c.seat) ≡ shelf_ends c.shelf
  ended {x = x} b c w ys is plain shelf t e = ends_run (trace b.seat) (trace c.seat) (finals x (said ys)) w is plain ∙ ap (λ l. l ++ noted_ends (finals x (said ys))) e ∙ ap (λ l. shelf_ends b.shelf ++ l) (released_ends t) ∙ sym (shelf_append b.shelf ys) ∙ ap shelf_ends (sym shelf)

  ends_along : {a b : Seen P} {Cs : List (ℕ × List ℕ)} → noted_ends (trace a.seat) ≡ shelf_ends a.shelf → Called ends a Cs b → noted_ends (trace b.seat) ≡ shelf_ends b.shelf
  ends_along e none = e
  ends_along e (opened b c at s h m o) = quiet b c (Open s o.parent) (opened_said o) refl o.shelf (ends_along e h)
  ends_along e (acquired b c s r p h m o) = quiet b c (Acquire r s) (acquired_said o) refl o.shelf (ends_along e h)
  ends_along e (written b c r p h m o) = subst (λ (y : Seen P). noted_ends (trace y.seat) ≡ shelf_ends y.shelf) (sym o) (ends_along e h)
  ends_along e (leased b c s j T h m o) = quiet b c (Lease j s) (leased_said o) refl o.shelf (ends_along e h)
  ends_along e (cancelled b c j T x h m o) = ended b c (Cancel j x) o.left.0 (canceled_said o) refl o.left.1 o.left.2 (ends_along e h)
  ends_along e (closed b c s x h m o) = ended b c (Close s x) o.torn.0 (closed_said o) refl o.torn.1 o.torn.2 (ends_along e h)
  ends_along e (split b c j from to n h m o) = subst (λ (y : Seen P). noted_ends (trace y.seat) ≡ shelf_ends y.shelf) (sym o) (ends_along e h)
  ends_along e (taken_in b c w h m p o) = subst (λ (y : Seen P). noted_ends (trace y.seat) ≡ shelf_ends y.shelf) (sym o) (ap noted_ends (join_trace b.seat w p) ∙ ends_along e h)

  pub called_ends : {a b : Seen P} {Cs : List (ℕ × List ℕ)} → AtStart a.seat → a.shelf ≡ [] → Called ends a Cs b → noted_ends (trace b.seat) ≡ shelf_ends b.shelf
  called_ends {a = a} s e c = ends_along (ap (λ L. noted_ends (own a.seat.by L)) s.events ∙ ap shelf_ends (sym e)) c

  pub called_said : {a b : Seen P} {Cs : List (ℕ × List ℕ)} → AtStart a.seat → a.shelf ≡ [] → Called ends a Cs b → ended_rows (trace b.seat) ≡ said b.shelf
  called_said {b = b} s e c = bare_ends (trace b.seat) ∙ ap bare (called_ends s e c) ∙ sym (bare_shelf b.shelf)
