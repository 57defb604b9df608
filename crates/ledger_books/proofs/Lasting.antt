-- By when the rows of a stream are final, told ahead.
use Rattle.std.proofs.Common.{◌≡◌, ◌≢◌, ℕ, ◌<◌, ◌≤◌, ◌^◌, inl, List, [], ◌∷◌, ◌++◌, refl, sym, ap, ◌∙◌, subst, ⊎_elim, length, arith, Option, None, Some, slice_get}
use Rattle.std.specs.Prelude.{unwrap_or}
use Rattle.chunk_core.proofs.Members.{among_snoc}
use Rattle.res_ledger.specs.declared.event.StreamNo.{StreamNo}
use Rattle.res_ledger.specs.declared.event.What.TheVariants.{Acquire}
use Rattle.res_ledger.specs.declared.event.Event.{Event}
use Rattle.res_ledger.specs.Ledger.{IsFinalized, Notes}
use Rattle.ledger_books.specs.declared.ends.Ends.{Ends}
use Rattle.ledger_books.specs.declared.index.Index.{Index}
use Rattle.ledger_books.specs.declared.index.Key.TheVariants.{Finalized}
use Rattle.ledger_books.specs.Ends.{Foretells, final_of}
use Rattle.ledger_books.specs.Key.{place_of}
use Rattle.ledger_books.specs.Keyed.{number_of}
use Rattle.ledger_books.specs.Lasts.{HasLasts}
use Rattle.ledger_books.specs.Untils.{Raises, latest_of}
use Rattle.ledger_books.proofs.Keys.{final_key}
use Rattle.ledger_books.proofs.Placed.{at_among, at_front}

-- no row is acquired
pub lasts_still : (x : Index) (y : Ends) (P : List Event) (e : Event) → ((r s : ℕ) → e.what ≢ Acquire r s) → HasLasts x y P → HasLasts x y (P ++ e ∷ [])
lasts_still x y P e n f k r s m = ⊎_elim (λ l. f k r s (m.0, l, m.2, m.3)) (λ q. absurd (n r s (ap (λ z. z.what) (sym q) ∙ m.3))) (among_snoc P m.0 e m.1)

-- a row is acquired
pub lasts_more : (x z : Index) (y : Ends) (P : List Event) (e : Event) (r s : ℕ) → e.what ≡ Acquire r s → Raises x z (number_of e.by) (final_of y r) → HasLasts x y P → HasLasts z y (P ++ e ∷ [])
lasts_more x z y P e r s w up f k q t m = ⊎_elim
    (λ l. let a = f k q t (m.0, l, m.2, m.3) in let b = up.more (number_of k) in omega arith)
    (λ g.
    let v : Acquire r s ≡ Acquire q t = sym w ∙ ap (λ z. z.what) (sym g) ∙ m.3 in
    let i : r ≡ q = cc in
    let b : e.by ≡ k = ap (λ z. z.by) (sym g) ∙ m.2 in
    subst (λ o. final_of y o ≤ latest_of z (number_of k)) i (subst (λ o. final_of y r ≤ latest_of z (number_of o)) b up.reaches))
    (among_snoc P m.0 e m.1)

-- the ends are told by the same first places
pub lasts_same : (x : Index) (y z : Ends) (P : List Event) → z.firsts ≡ y.firsts → HasLasts x y P → HasLasts x z P
lasts_same x y z P e f k r s n = subst (λ i. unwrap_or (place_of i (Finalized r)) 18446744073709551615 ≤ latest_of x (number_of k)) (sym e) (f k r s n)

module _ (y : Ends) (P : List Event) (f : Foretells y P) (small : length P < 2 ^ 64) where
  final_by_then : (r : ℕ) → final_of y r < length P → IsFinalized P r
  final_by_then r l = there (place_of y.firsts (Finalized r)) refl l
    where
      there : (o : Option ℕ) → place_of y.firsts (Finalized r) ≡ o → unwrap_or o 18446744073709551615 < length P → IsFinalized P r
      there None h l = absurd (omega arith)
      there (Some m) h l =
          let t = f.3.firsts.found (Finalized r) m h in
          let c = final_key t.0 r (inl t.2) in
          let g : slice_get (P ++ f.1) m ≡ Some t.0 = ap (λ z. slice_get z m) (sym f.2) ∙ t.1 in
          (t.0.by, c.1, (c.0, (t.0, at_among P m t.0 (at_front P f.1 m t.0 l g), refl, c.2)))

  pub rows_over : (x : Index) → HasLasts x y P → (k : StreamNo) → latest_of x (number_of k) < length P → (r s : ℕ) → Notes P k (Acquire r s) → IsFinalized P r
  rows_over x g k l r s n = final_by_then r (let a = g k r s n in omega arith)
