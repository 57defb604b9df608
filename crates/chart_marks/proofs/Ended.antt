-- In a ledger that is legal and complete each mark has an end.
use Rattle.std.proofs.Common.{◌≡◌, ◌⊎◌, ℕ, ◌≤◌, Bool, true, false, cond, List, [], ◌∷◌, ◌++◌, None, Some, refl, sym, ap, ◌∙◌, subst, ⊎_elim, arith, append_assoc, count_by}
use Rattle.std.proofs.lemmas.List.Sums.{sum_by-cons}
use Rattle.chunk_core.specs.Lists.{IsAmong}
use Rattle.chunk_core.specs.Lists.IsAmong.{here, there}
use Rattle.chunk_core.proofs.Cuts.{among_parts}
use Rattle.chunk_core.proofs.Filters.{among_append}
use Rattle.chunk_core.proofs.Members.{among_mid}
use Rattle.res_ledger.specs.declared.event.Event.{Event}
use Rattle.res_ledger.specs.declared.event.What.{What}
use Rattle.res_ledger.specs.declared.event.What.TheVariants.{Open, Acquire, Lease, Cancel, Close, Final}
use Rattle.res_ledger.specs.Ledger.{IsAcquired, IsLeased, IsLegal, MayFollow, Notes}
use Rattle.res_ledger.specs.Whole.{IsComplete, is_cancel, is_final}
use Rattle.res_ledger.proofs.Noted.{is_cancel_shape, is_final_shape}
use Rattle.res_ledger.proofs.Prefixes.{front_notes}
use Rattle.chart_marks.specs.declared.marks.Thing.{Thing}
use Rattle.chart_marks.specs.declared.marks.Thing.TheVariants as thing
use Rattle.chart_marks.specs.Marks.{begun_by, ended_by}
use Rattle.chart_marks.specs.Laws.{IsEndedIn, WholeLedgerEnds}
use Rattle.chart_marks.proofs.Ends.{no_end_is_none}

some_is : (a b : Thing × ℕ) → Some a ≡ Some b → a ≡ b
some_is a b h = cc

none_is : (a : Thing × ℕ) → None ≡ Some a → ⊥
none_is a h = cc

abbrev tick : Bool → ℕ
tick b = cond b 1 0

-- where some are counted one passes
count_some : {A : Type 0} (p : A → Bool) (xs : List A) → 1 ≤ count_by p xs → (x : A) × IsAmong x xs × (p x ≡ true)
count_some p [] h = absurd (omega arith)
count_some {A} p (x ∷ xs) h = at (p x) refl (λ n. count_some p xs n)
  where
    at : (b : Bool) → p x ≡ b → (1 ≤ count_by p xs → (y : A) × IsAmong y xs × (p y ≡ true)) → (y : A) × IsAmong y (x ∷ xs) × (p y ≡ true)
    at true s more = (x, here xs, s)
    at false s more =
        let c = sum_by-cons (λ (y : A). tick (p y)) x xs in
        let z : tick (p x) ≡ 0 = ap tick s in
        let m = more (omega (arith, h, c, z)) in
        (m.0, there x m.1, m.2)

module _ (L P Q : List Event) (e : Event) (legal : IsLegal L) (whole : IsComplete L) (is : L ≡ P ++ e ∷ Q) where
  stands : IsAmong e L
  stands = subst (λ l. IsAmong e l) (sym is) (among_mid P Q e)

  -- a place in P is one in L
  before : (f : Event) (A B : List Event) → P ≡ A ++ f ∷ B → L ≡ A ++ f ∷ (B ++ e ∷ Q)
  before f A B h = is ∙ ap (λ l. l ++ e ∷ Q) h ∙ append_assoc A (f ∷ B) (e ∷ Q)

  row_ends : (r s : ℕ) → e.what ≡ Acquire r s → IsEndedIn (e ∷ Q) (thing.Row r)
  row_ends r s w =
      let n = whole.finalized_once e.by r s (e, stands, refl, w) in
      let f = count_some (λ d. is_final r d.what) L (omega (arith, n)) in
      let t = is_final_shape r f.0.what f.2 in
      ⊎_elim
      (λ m.
      let u = among_parts f.0 P m in
      let c = whole.after_close u.0 (u.1 ++ e ∷ Q) f.0 r t.0 t.1 (before f.0 u.0 u.1 u.2) t.2 in
      let a : IsAcquired P r = (c.0, c.1, subst (λ l. Notes l c.0 (Acquire r c.1)) (sym u.2) (front_notes (f.0 ∷ u.1) c.2)) in
      absurd ((subst (λ v. MayFollow P e.by v) w (legal P Q e is)).0 a))
      (λ m. (f.0, m, (t.0, t.1, ap ended_by t.2)))
      (among_append f.0 P (e ∷ Q) (subst (λ l. IsAmong f.0 l) is f.1))

  lease_ends : (j s : ℕ) → e.what ≡ Lease j s → IsEndedIn (e ∷ Q) (thing.Lease j)
  lease_ends j s w =
      let n = whole.canceled_once e.by j s (e, stands, refl, w) in
      let f = count_some (λ d. is_cancel j d.what) L (omega (arith, n)) in
      let t = is_cancel_shape j f.0.what f.2 in
      ⊎_elim
      (λ m.
      let u = among_parts f.0 P m in
      let c = (subst (λ v. MayFollow u.0 f.0.by v) t.1 (legal u.0 (u.1 ++ e ∷ Q) f.0 (before f.0 u.0 u.1 u.2))).0 in
      let a : IsLeased P j = (c.0, c.1, subst (λ l. Notes l c.0 (Lease j c.1)) (sym u.2) (front_notes (f.0 ∷ u.1) c.2)) in
      absurd ((subst (λ v. MayFollow P e.by v) w (legal P Q e is)).0 a))
      (λ m. (f.0, m, (t.0, true, ap ended_by t.1)))
      (among_append f.0 P (e ∷ Q) (subst (λ l. IsAmong f.0 l) is f.1))

  thing_ends : (w : What) (t : Thing × ℕ) → e.what ≡ w → begun_by w ≡ Some t → IsEndedIn (e ∷ Q) t.0
  thing_ends (Acquire r s) t w h = subst (λ q. IsEndedIn (e ∷ Q) q) (ap (λ (v : Thing × ℕ). v.0) (some_is (thing.Row r, s) t h)) (row_ends r s w)
  thing_ends (Lease j s) t w h = subst (λ q. IsEndedIn (e ∷ Q) q) (ap (λ (v : Thing × ℕ). v.0) (some_is (thing.Lease j, s) t h)) (lease_ends j s w)
  thing_ends (Close s x) t w h = subst (λ q. IsEndedIn (e ∷ Q) q) (ap (λ (v : Thing × ℕ). v.0) (some_is (thing.Close s, s) t h)) (e, here Q, (x, true, ap ended_by w))
  thing_ends (Open s p) t w h = absurd (none_is t h)
  thing_ends (Cancel j x) t w h = absurd (none_is t h)
  thing_ends (Final r x ok) t w h = absurd (none_is t h)

pub whole_ledger_ends : WholeLedgerEnds
whole_ledger_ends L P Q e q s legal whole is begins none = (no_end_is_none (e ∷ Q) q).0 none (thing_ends L P Q e legal whole is e.what (q, s) refl begins)
