-- What each call notes as it gives streams.
use Rattle.std.proofs.Common.{◌≡◌, ℕ, zero, suc, ◌≤◌, Bool, List, [], ◌∷◌, ◌++◌, append-nil, filter, refl, sym, ap, ◌∙◌, arith}
use Rattle.std.proofs.lemmas.List.Elements.{filter-append}
use Rattle.chunk_core.specs.declared.code.Exit.{Exit}
use Rattle.res_ledger.specs.declared.event.What.{What}
use Rattle.res_ledger.specs.declared.event.What.TheVariants.{Cancel, Close, Lease, Open}
use Rattle.res_ledger.specs.Order.{finals}
use Rattle.res_ledger.specs.Own.{own}
use Rattle.row_seat.specs.declared.view.View.{View}
use Rattle.row_seat.specs.Views.{AreApart, joined, split_main}
use Rattle.scope_tree.specs.Calls.{Cancels, ClosesScope, IsOpenScope, Leases, OpensScope, Seen}
use Rattle.scope_tree.specs.Released.{said}
use Rattle.scope_tree.specs.Trace.{trace}
use Rattle.scope_tree.proofs.Parting.{join_trace}
use Rattle.scope_tree.proofs.Use.{canceled_said, closed_said, first_is, leased_said, opened_said}
use Rattle.run_rules.specs.Giving.{is_giving}
use Rattle.join_tree.specs.Given.{GivesMore, given}

-- the ends of rows give nothing
finals_give : (x : Exit) (fs : List (ℕ × Bool)) → filter is_giving (finals x fs) ≡ []
finals_give x [] = refl
finals_give x (f ∷ fs) = finals_give x fs

module _ {P : Type 0} where
  gives_by : (a b : Seen P) (E : List What) → trace b.seat ≡ trace a.seat ++ E → GivesMore (filter is_giving E) a b
  gives_by a b E e = ap (filter is_giving) e ∙ filter-append is_giving (trace a.seat) E

  pub gives_none : (a b : Seen P) → trace b.seat ≡ trace a.seat → GivesMore [] a b
  gives_none a b e = ap (filter is_giving) e ∙ sym (append-nil (given a.seat))

  pub gives_same : (a b : Seen P) → b ≡ a → GivesMore [] a b
  gives_same a b e = gives_none a b (ap (λ (x : Seen P). trace x.seat) e)

  pub start_gives : (v w : View P) → v ≡ w → w.events ≡ [] → given v ≡ []
  start_gives v w e s = ap given e ∙ ap (λ L. filter is_giving (own w.by L)) s

  pub open_gives : (a b : Seen P) (s : ℕ) → IsOpenScope a 0 → OpensScope a 0 s b → GivesMore (Open s 0 ∷ []) a b
  open_gives a b s root o = gives_by a b (Open s o.parent ∷ []) (opened_said o) ∙ ap (λ p. given a.seat ++ Open s p ∷ []) (first_is root.1 o.nearest)

  pub lease_gives : (a b : Seen P) (s j : ℕ) (T : List ℕ) → Leases a s j T b → GivesMore (Lease j s ∷ []) a b
  lease_gives a b s j T o = gives_by a b (Lease j s ∷ []) (leased_said o)

  pub split_gives : (a b : Seen P) (j from to n : ℕ) → b ≡ record a { seat = split_main a.seat j from to n } → GivesMore [] a b
  split_gives a b j from to n e = gives_none a b (ap (λ (x : Seen P). trace x.seat) e)

  pub join_gives : (a b : Seen P) (w : View P) → AreApart a.seat w → b ≡ record a { seat = joined a.seat w } → GivesMore [] a b
  join_gives a b w apart e = gives_none a b (ap (λ (x : Seen P). trace x.seat) e ∙ join_trace a.seat w apart)

module _ {P : Type 0} {ends : P → Exit → Bool → P → Type 0} where
  pub close_gives : (a b : Seen P) (x : Exit) → ClosesScope ends a 0 x b → GivesMore [] a b
  close_gives a b x o = gives_by a b (Close 0 x ∷ finals x (said o.torn.0)) (closed_said o) ∙ ap (λ E. given a.seat ++ E) (finals_give x (said o.torn.0))

  pub close_child_gives : (a b : Seen P) (s : ℕ) (x : Exit) → 1 ≤ s → ClosesScope ends a s x b → GivesMore (Close s x ∷ []) a b
  close_child_gives a b zero x some o = absurd (omega (some, arith))
  close_child_gives a b (suc s) x some o = gives_by a b (Close (suc s) x ∷ finals x (said o.torn.0)) (closed_said o) ∙ ap (λ E. given a.seat ++ Close (suc s) x ∷ E) (finals_give x (said o.torn.0))

  pub cancel_gives : (a b : Seen P) (j : ℕ) (T : List ℕ) (x : Exit) → Cancels ends a j T x b → GivesMore [] a b
  cancel_gives a b j T x o = gives_by a b (Cancel j x ∷ finals x (said o.left.0)) (canceled_said o) ∙ ap (λ E. given a.seat ++ E) (finals_give x (said o.left.0))
