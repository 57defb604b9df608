-- Whose shelf a row stands on.
use Rattle.std.proofs.Common.{◌≡◌, ◌≢◌, ℕ, Bool, List, [], ◌∷◌, ◌++◌, refl, sym, ap, ◌∙◌, subst, ⊎_elim, append_assoc}
use Rattle.chunk_core.specs.declared.code.Exit.{Exit}
use Rattle.chunk_core.specs.Lists.{IsAmong}
use Rattle.chunk_core.proofs.Cuts.{among_parts}
use Rattle.chunk_core.proofs.Filters.{among_append}
use Rattle.chunk_core.proofs.Members.{among_cons, among_mid}
use Rattle.res_ledger.specs.declared.event.Event.{Event}
use Rattle.res_ledger.specs.declared.event.What.TheVariants.{Final}
use Rattle.res_ledger.specs.Ledger.{IsLegal, MayFollow, NotesFinal}
use Rattle.res_ledger.specs.Order.{firsts}
use Rattle.row_seat.specs.declared.view.View.{View}
use Rattle.scope_tree.specs.Calls.{AtStart, Seen}
use Rattle.scope_tree.specs.Released.{said}
use Rattle.scope_tree.proofs.Parting.{ended_final}
use Rattle.tree_laws.specs.Called.{Called}
use Rattle.tree_laws.specs.Ends.{IsFinishedLedger}
use Rattle.tree_laws.proofs.Said.{called_said}

-- behind a Final of the row r stands none of it
none_behind : (L A B : List Event) (e f : Event) (r : ℕ) (x y : Exit) (o p : Bool) → IsLegal L → L ≡ A ++ e ∷ B → e.what ≡ Final r x o → IsAmong f A → ¬ (f.what ≡ Final r y p)
none_behind L A B e f r x y o p legal is w m v = (subst (λ z. MayFollow A e.by z) w (legal A B e is)).0.2 (f.by, p, (y, (f, m, refl, v)))

-- a row has one Final
pub one_final : (L : List Event) (e f : Event) (r : ℕ) (x y : Exit) (o p : Bool) → IsLegal L → IsAmong e L → IsAmong f L → e.what ≡ Final r x o → f.what ≡ Final r y p → e ≡ f
one_final L e f r x y o p legal m n w v =
    let t = among_parts e L m in
    ⊎_elim
    (λ i. absurd (none_behind L t.0 t.1 e f r x y o p legal t.2 w i v))
    (λ i. ⊎_elim
    (λ q. sym q)
    (λ k.
    let u = among_parts f t.1 k in
    absurd (none_behind L (t.0 ++ e ∷ u.0) u.1 f e r y x p o legal (t.2 ∙ ap (λ l. t.0 ++ e ∷ l) u.2 ∙ sym (append_assoc t.0 (e ∷ u.0) (f ∷ u.1))) v (among_mid t.0 u.0 e) w))
    (among_cons i))
    (among_append f t.0 (e ∷ t.1) (subst (λ l. IsAmong f l) t.2 n))

module _ {P : Type 0} {ends : P → Exit → Bool → P → Type 0} where
  -- what stands on the shelf has its Final in the ledger, by the tree's stream
  shelf_in : {a b : Seen P} {Cs : List (ℕ × List ℕ)} (u : View P) (L : List Event) → AtStart a.seat → a.shelf ≡ [] → Called ends a Cs b → IsFinishedLedger b u L → (r : ℕ) → IsAmong r (firsts (said b.shelf)) → (ok : Bool) × NotesFinal L b.seat.by r ok
  shelf_in {b = b} u L start none calls end r m =
      let f = ended_final b.seat (said b.shelf) (called_said start none calls) r m in let n = f.1.1 in
      (f.0, (f.1.0, (n.0, (end.ledger.whole n.0).1 ((end.own n.0 n.2).1 n.1), n.2, n.3)))

  pub shelves_apart : {a b c d : Seen P} {Cs Ds : List (ℕ × List ℕ)} (u : View P) (L : List Event) → AtStart a.seat → a.shelf ≡ [] → Called ends a Cs b → IsFinishedLedger b u L → AtStart c.seat → c.shelf ≡ [] → Called ends c Ds d → IsFinishedLedger d u L → b.seat.by ≢ d.seat.by → (r : ℕ) → IsAmong r (firsts (said b.shelf)) → ¬ (IsAmong r (firsts (said d.shelf)))
  shelves_apart u L sa ea ka fa sc ec kc fc ne r m n =
      let x = shelf_in u L sa ea ka fa r m in let y = shelf_in u L sc ec kc fc r n in let i = x.1.1 in let j = y.1.1 in
      ne (sym i.2 ∙ ap (λ (e : Event). e.by) (one_final L i.0 j.0 r x.1.0 y.1.0 x.0 y.0 fa.ledger.legal i.1 j.1 i.3 j.3) ∙ j.2)
