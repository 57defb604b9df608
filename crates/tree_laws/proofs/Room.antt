-- The room of a tree stays, and its scopes are no more than there is room for.
use Rattle.std.proofs.Common.{◌≡◌, ℕ, ◌+◌, ◌≤◌, Bool, List, [], ◌∷◌, ◌++◌, length, length-append, refl, sym, ap, ◌∙◌, subst, arith, append-nil}
use Rattle.chunk_core.specs.declared.code.Exit.{Exit}
use Rattle.chunk_core.specs.declared.code.Exit.TheVariants.{Succeeded}
use Rattle.res_ledger.specs.declared.event.What.{What}
use Rattle.res_ledger.specs.declared.event.What.TheVariants.{Open, Acquire, Lease, Cancel, Close}
use Rattle.res_ledger.specs.Order.{finals}
use Rattle.res_ledger.specs.Own.{opens, opens_of, own}
use Rattle.scope_tree.specs.Calls.{AtStart, Seen}
use Rattle.scope_tree.specs.Released.{said}
use Rattle.scope_tree.specs.Trace.{trace}
use Rattle.scope_tree.proofs.Bridge.{opens_append}
use Rattle.scope_tree.proofs.Grown.{opens_finals}
use Rattle.scope_tree.proofs.Parting.{join_trace}
use Rattle.scope_tree.proofs.Use.{acquired_said, canceled_said, closed_said, leased_said, opened_said}
use Rattle.tree_laws.specs.Called.{Called}
use Rattle.tree_laws.specs.Called.Called.{none, opened, acquired, written, leased, cancelled, closed, split, taken_in}

-- an event that opens nothing, and then a run of Finals
opens_run : (E F : List What) (w : What) (x : Exit) (fs : List (ℕ × Bool)) → F ≡ E ++ w ∷ finals x fs → opens_of w ≡ [] → opens F ≡ opens E
opens_run E F w x fs is no' = ap opens is ∙ opens_append E (w ∷ finals x fs) ∙ ap (λ l. opens E ++ (l ++ opens (finals x fs))) no' ∙ ap (λ l. opens E ++ l) (opens_finals x fs) ∙ append-nil (opens E)

-- a scope more
opens_one : (E F : List What) (s p : ℕ) → F ≡ E ++ Open s p ∷ [] → length (opens F) ≡ length (opens E) + 1
opens_one E F s p is = ap (λ l. length (opens l)) is ∙ ap length (opens_append E (Open s p ∷ [])) ∙ length-append (opens E) ((s, p) ∷ [])

module _ {P : Type 0} where
  abbrev pub HasRoom : Seen P → Seen P → Type 0
  HasRoom a b = (length (opens (trace b.seat)) + 1 ≤ b.scopes) × (b.scopes ≡ a.scopes) × (b.rows ≡ a.rows)

  still_room : (a b c : Seen P) → opens (trace c.seat) ≡ opens (trace b.seat) → c.scopes ≡ b.scopes → c.rows ≡ b.rows → HasRoom a b → HasRoom a c
  still_room a b c is s r h = (subst (λ n. length (opens (trace c.seat)) + 1 ≤ n) (sym s) (subst (λ l. length l + 1 ≤ b.scopes) (sym is) h.0), s ∙ h.1, r ∙ h.2)

module _ {P : Type 0} {ends : P → Exit → Bool → P → Type 0} where
  pub room_along : {a b : Seen P} {Cs : List (ℕ × List ℕ)} → length (opens (trace a.seat)) + 1 ≤ a.scopes → Called ends a Cs b → HasRoom a b
  room_along r none = (r, refl, refl)
  room_along r (opened b c at s h m o) =
      let t = room_along r h in let n = opens_one (trace b.seat) (trace c.seat) s o.parent (opened_said o) in let l = m.room in let e = o.scopes in
      (omega (n, l, e, arith), o.scopes ∙ t.1, o.rows ∙ t.2)
  room_along {a = a} r (acquired b c s q p h m o) = still_room a b c (opens_run (trace b.seat) (trace c.seat) (Acquire q s) Succeeded [] (acquired_said o) refl) o.scopes o.rows (room_along r h)
  room_along {a = a} r (written b c q p h m o) = subst (λ x. HasRoom a x) (sym o) (room_along r h)
  room_along {a = a} r (leased b c s j T h m o) = still_room a b c (opens_run (trace b.seat) (trace c.seat) (Lease j s) Succeeded [] (leased_said o) refl) o.scopes o.rows (room_along r h)
  room_along {a = a} r (cancelled b c j T x h m o) = still_room a b c (opens_run (trace b.seat) (trace c.seat) (Cancel j x) x (said o.left.0) (canceled_said o) refl) o.scopes o.rows (room_along r h)
  room_along {a = a} r (closed b c s x h m o) = still_room a b c (opens_run (trace b.seat) (trace c.seat) (Close s x) x (said o.torn.0) (closed_said o) refl) o.scopes o.rows (room_along r h)
  room_along {a = a} r (split b c j from to n h m o) = subst (λ x. HasRoom a x) (sym o) (room_along r h)
  room_along {a = a} r (taken_in b c w h m p o) = still_room a b c (ap (λ x. opens (trace x.seat)) o ∙ ap opens (join_trace b.seat w p)) (ap (λ x. x.scopes) o) (ap (λ x. x.rows) o) (room_along r h)

  pub called_room : {a b : Seen P} {Cs : List (ℕ × List ℕ)} → AtStart a.seat → 1 ≤ a.scopes → Called ends a Cs b → HasRoom a b
  called_room {a = a} s l c = room_along (subst (λ L. length (opens (own a.seat.by L)) + 1 ≤ a.scopes) (sym s.events) l) c
