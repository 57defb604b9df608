-- What may follow.
use Rattle.std.proofs.Common.{◌≡◌, ◌↔◌, ℕ, zero, suc, Bool, true, false, List, [], ◌∷◌, sym, ap, ◌∙◌, subst, Option, None, Some, slice_get}
use Rattle.std.specs.Prelude.{is_some, MatchOption}
use Rattle.std.proofs.lemmas.Bool.{false≢true}
use Rattle.chunk_core.specs.Lists.{IsAmong}
use Rattle.chunk_core.specs.Lists.IsAmong.{here, there}
use Rattle.res_ledger.specs.declared.event.StreamNo.{StreamNo}
use Rattle.res_ledger.specs.declared.event.What.TheVariants.{Acquire}
use Rattle.res_ledger.specs.declared.event.Event.{Event}
use Rattle.res_ledger.specs.Ledger.{Notes, IsClosed, IsRowClosed, IsFinalized, IsCanceled, IsHanded, IsLegal}
use Rattle.res_ledger.proofs.Prefixes.{acquired_once}
use Rattle.ledger_books.specs.Keyed.{NotesAt, IsSomeCover, Listed, is_acquire}
use Rattle.ledger_books.proofs.Placed.{place_noted, among_at}

pub nothing_so : {A : Type 0} → ¬ A → (false ≡ true) ↔ A
nothing_so n = ((λ h. absurd (false≢true h)), (λ a. absurd (n a)))

pub both_so : {A B : Type 0} (b : Bool) → A → (b ≡ true) ↔ B → (b ≡ true) ↔ (A × B)
both_so b a e = ((λ h. (a, e.0 h)), (λ p. e.1 p.1))

pub option_none : {T A : Type 0} (B : T → Type 0) (o : Option T) (b : Bool) → MatchOption o (¬ A) B → b ≡ is_some o → b ≡ false → ¬ A
option_none B None b m h f = m
option_none B (Some t) b m h f = absurd (false≢true (sym f ∙ h))

pub option_some : {T A : Type 0} (B : T → Type 0) (o : Option T) (b : Bool) → ((t : T) → B t → A) → MatchOption o (¬ A) B → b ≡ is_some o → b ≡ true → A
option_some B None b f m h e = absurd (false≢true (sym h ∙ e))
option_some B (Some t) b f m h e = f t m

module _ (P : List Event) (legal : IsLegal P) (r at : ℕ) (q : StreamNo) (t : ℕ) (row : NotesAt P at q (Acquire r t)) where
  pub row_closed_is : IsRowClosed P r → IsClosed P q t
  row_closed_is c = let u = acquired_once P legal r c.0 q c.1 t c.2 (place_noted P legal q at (Acquire r t) row) in subst (IsClosed P q) u.1 (subst (λ k. IsClosed P k c.1) u.0 c.3)

  pub row_closed : IsClosed P q t → IsRowClosed P r
  row_closed c = (q, t, place_noted P legal q at (Acquire r t) row, c)

  pub handed : IsClosed P q t → ((j : ℕ) → IsSomeCover P j r → IsCanceled P j) → ¬ (IsFinalized P r) → IsHanded P r
  handed c f n = (row_closed c, λ j k v. f j (k, v), n)

  pub mine : (k : StreamNo) → k ≡ q → (s : ℕ) × Notes P k (Acquire r s)
  mine k e = (t, subst (λ m. Notes P m (Acquire r t)) (sym e) (place_noted P legal q at (Acquire r t) row))

  pub not_mine : (k : StreamNo) (s : ℕ) → Notes P k (Acquire r s) → k ≡ q
  not_mine k s n = (acquired_once P legal r k q s t n (place_noted P legal q at (Acquire r t) row)).0

-- each row of a stream, by the list of all
pub rows_of_list : (P : List Event) (xs : List ℕ) (k : StreamNo) → Listed is_acquire xs P → ((i : ℕ) → IsAmong i xs → (r s : ℕ) → NotesAt P i k (Acquire r s) → IsFinalized P r) → (r s : ℕ) → Notes P k (Acquire r s) → IsFinalized P r
rows_of_list P xs k l f r s n =
    let p = among_at n.0 P n.1 in
    let m = l.all p.0 n.0 p.1 (ap is_acquire n.3) in
    f p.0 (among_of xs m.0 p.0 m.1) r s (n.0, p.1, n.2, n.3)
  where
    among_of : (xs : List ℕ) (m i : ℕ) → slice_get xs m ≡ Some i → IsAmong i xs
    among_of [] m i h = cc
    among_of (x ∷ xs) zero i h = let e : x ≡ i = cc in subst (λ y. IsAmong y (x ∷ xs)) e (here xs)
    among_of (x ∷ xs) (suc m) i h = there x (among_of xs m i h)

pub same_row : (P : List Event) (i r h s t : ℕ) (k q : StreamNo) → NotesAt P i k (Acquire r s) → NotesAt P i q (Acquire h t) → r ≡ h
same_row P i r h s t k q a b =
    let w : Some a.0 ≡ Some b.0 = sym a.1 ∙ b.1 in
    let e : a.0 ≡ b.0 = cc in
    let v : Acquire r s ≡ Acquire h t = sym a.3 ∙ ap (λ x. x.what) e ∙ b.3 in
    let x : r ≡ h = cc in x
