-- What the calls say one after the other.
use Rattle.std.proofs.Common.{◌≡◌, ◌≢◌, ℕ, Bool, List, [], ◌∷◌, ◌++◌, refl, sym, ap, ◌∙◌, subst}
use Rattle.res_ledger.specs.declared.event.What.{What}
use Rattle.res_ledger.specs.declared.event.What.TheVariants.{Open, Acquire, Close}
use Rattle.chunk_core.specs.Lists.{IsAmong}
use Rattle.row_seat.proofs.Members.{among_kept}
use Rattle.row_seat.specs.Views.{without}
use Rattle.res_ledger.specs.Own.{teardown}
use Rattle.res_ledger.specs.Order.{firsts, finals}
use Rattle.scope_tree.specs.declared.branch.Spent.{Spent}
use Rattle.scope_tree.specs.Rows.{Once}
use Rattle.scope_tree.specs.Released.{said}
use Rattle.scope_tree.specs.Calls.{Seen, OpensScope, AcquiresRow, ClosesScope}
use Rattle.scope_tree.specs.Trace.{trace}
use Rattle.scope_tree.proofs.Once.{once_pay}
use Rattle.scope_tree.proofs.Use.{closed_said, closed_picks, closed_by, all_picked, no_cover, leases}
use Rattle.chunk_core.specs.declared.code.Exit.{Exit}
use Rattle.chunk_core.specs.declared.code.Exit.TheVariants.{Succeeded}
use Rattle.scope_tree.proofs.Owning.{owner_pays}

abbrev pub Four : List What
Four = Open 1 0 ∷ Acquire 0 0 ∷ Acquire 1 1 ∷ Close 0 Succeeded ∷ []

abbrev pub Three : List What
Three = Open 1 0 ∷ Acquire 0 0 ∷ Acquire 1 1 ∷ []

leases_finals : (x : Exit) (fs : List (ℕ × Bool)) → leases (finals x fs) ≡ []
leases_finals x [] = refl
leases_finals x (f ∷ fs) = leases_finals x fs

module _ {P : Type 0} where
  pub close_four : {ends : P → Exit → Bool → P → Type 0} {a b : Seen P} → trace a.seat ≡ Three → (c : ClosesScope ends a 0 Succeeded b) → trace b.seat ≡ Four ++ finals Succeeded (said c.torn.0)
  close_four w c = closed_said c ∙ ap (λ E. E ++ Close 0 Succeeded ∷ finals Succeeded (said c.torn.0)) w

  pub close_rows : {ends : P → Exit → Bool → P → Type 0} {a b : Seen P} → trace a.seat ≡ Three → (c : ClosesScope ends a 0 Succeeded b) → firsts (said c.torn.0) ≡ 1 ∷ 0 ∷ []
  close_rows {a = a} {b = b} w c =
      all_picked (λ r m. no_cover b.seat a.seat.by m.0 r (closed_by c) (ap leases (close_four w c) ∙ leases_finals Succeeded (said c.torn.0)) m.1) (closed_picks c) ∙ ap (λ E. teardown E 0) w

  -- a row that ended is one thing on the shelf
  pub one_of : (xs : List (Spent P)) (i : ℕ) → firsts (said xs) ≡ i ∷ [] → (x : Spent P) × (xs ≡ x ∷ []) × (x.row ≡ i)
  one_of [] i e = absurd (let f : [] ≡ i ∷ [] = e in cc)
  one_of (x ∷ []) i e = (x, refl, let f : x.row ∷ [] ≡ i ∷ [] = e in cc)
  one_of (x ∷ y ∷ xs) i e = absurd (let f : x.row ∷ y.row ∷ firsts (said xs) ≡ i ∷ [] = e in cc)

  -- and two are two
  pub two_of : (xs : List (Spent P)) (i j : ℕ) → firsts (said xs) ≡ i ∷ j ∷ [] → (x y : Spent P) × (xs ≡ x ∷ y ∷ []) × (x.row ≡ i) × (y.row ≡ j)
  two_of [] i j e = absurd (let f : [] ≡ i ∷ j ∷ [] = e in cc)
  two_of (x ∷ []) i j e = absurd (let f : x.row ∷ [] ≡ i ∷ j ∷ [] = e in cc)
  two_of (x ∷ y ∷ []) i j e = (x, y, refl, let f : x.row ∷ y.row ∷ [] ≡ i ∷ j ∷ [] = e in cc, let f : x.row ∷ y.row ∷ [] ≡ i ∷ j ∷ [] = e in cc)
  two_of (x ∷ y ∷ z ∷ xs) i j e = absurd (let f : x.row ∷ y.row ∷ z.row ∷ firsts (said xs) ≡ i ∷ j ∷ [] = e in cc)

  pub two_opened : {a b d e : Seen P} {c : ℕ} {p q : P} → a.seat.opened ≡ [] → OpensScope a 0 c b → AcquiresRow b 0 0 p d → AcquiresRow d c 1 q e → e.seat.opened ≡ (0, p) ∷ (1, q) ∷ []
  two_opened {p = p} {q = q} n o x y =
      let f : ℕ × P = (0, p) in let s : ℕ × P = (1, q) in
      ap (λ v. v.opened) y.seat ∙ ap (λ v. v.opened ++ s ∷ []) x.seat ∙ ap (λ v. (v.opened ++ f ∷ []) ++ s ∷ []) o.seat ∙ ap (λ l. (l ++ f ∷ []) ++ s ∷ []) n

  -- of two open rows what ends took its payload
  pub two_pays : {ends : P → Exit → Bool → P → Type 0} {x : Exit} {a b : Seen P} {p q : P} {s : ℕ} (y : Spent P) (r : ℕ) (w : P) (c : ClosesScope ends a s x b) → Once a.seat.opened → a.seat.opened ≡ (0, p) ∷ (1, q) ∷ [] → IsAmong y c.torn.0 → y.row ≡ r → IsAmong {A = ℕ × P} (r, w) ((0, p) ∷ (1, q) ∷ []) → (y.exit ≡ x) × ends w x y.ok y.pay
  two_pays {ends = ends} {x = x} {a = a} y r w c once e m i n =
      let o = owner_pays y c.torn.2 m in
      (o.2, subst (λ z. ends z x y.ok y.pay) (once_pay r o.0 w a.seat.opened once (subst (λ z. IsAmong (z, o.0) a.seat.opened) i o.1) (subst (λ l. IsAmong (r, w) l) (sym e) n)) o.3)

  -- a row that may be placed still may, after another was
  pub still_empty : {a b d : Seen P} {c q r : ℕ} {p : P} → IsAmong q a.seat.empty → q ≢ r → OpensScope a 0 c b → AcquiresRow b 0 r p d → IsAmong q d.seat.empty
  still_empty {a = a} {q = q} {r = r} m ne o s = subst (λ l. IsAmong q l) (sym (ap (λ v. v.empty) s.seat ∙ ap (λ l. without r l) (ap (λ v. v.empty) o.seat))) (among_kept r a.seat.empty q m ne)
