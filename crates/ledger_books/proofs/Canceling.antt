-- Leases that are canceled.
use Rattle.std.proofs.Common.{◌≡◌, ◌↔◌, ℕ, suc, ◌<◌, ◌≤◌, ◌+◌, Bool, true, List, refl, sym, ap, ◌∙◌, subst, ⊎_elim, length, arith, Option, None, Some, slice_get, get_or}
use Rattle.std.specs.Prelude.{is_some, MatchOption}
use Rattle.std.proofs.lemmas.Bool.{false≢true}
use Rattle.chunk_core.specs.Lists.{IsAmong}
use Rattle.chunk_core.specs.Lists.IsAmong.{here, there}
use Rattle.chunk_core.specs.declared.code.Exit.{Exit}
use Rattle.res_ledger.specs.declared.event.StreamNo.{StreamNo}
use Rattle.res_ledger.specs.declared.event.What.TheVariants.{Cancel, Lease}
use Rattle.res_ledger.specs.declared.event.Event.{Event}
use Rattle.res_ledger.specs.Ledger.{Notes, IsLegal}
use Rattle.ledger_books.specs.Keyed.{NotesAt}
use Rattle.ledger_books.proofs.Placed.{among_at as place_of_one, noted_before, places, may_at}

-- what holds at each place holds of each element
at_index : (j : ℕ) (xs : List ℕ) → IsAmong j xs → (i : ℕ) × (i < length xs) × (get_or xs i 0 ≡ j)
at_index j xs (here ys) = (0, (omega arith), refl)
at_index j xs (there {xs = ys} y m) = let t = at_index j ys m in (suc t.0, (let l = t.1 in omega arith), t.2)

pub each_of : (A : ℕ → Type 0) (xs : List ℕ) (n : ℕ) → length xs ≤ n → ((i : ℕ) → i < n → A (get_or xs i 0)) → (j : ℕ) → IsAmong j xs → A j
each_of A xs n l h j m = let p = at_index j xs m in subst A p.2 (h p.0 (let k = p.1 in omega arith))

pub below_more : (A : ℕ → Type 0) (n : ℕ) → ((i : ℕ) → i < n → A i) → A n → (i : ℕ) → i < n + 1 → A i
below_more A n f a i l = ⊎_elim (λ e. subst A (sym e) a) (λ o. ⊎_elim (λ h. f i h) (λ h. absurd (omega arith)) o) (places i n)

-- a lease is canceled once
pub canceled_by_one : (P : List Event) → IsLegal P → (i j : ℕ) (k q : StreamNo) (x y : Exit) → NotesAt P i k (Cancel j x) → Notes P q (Cancel j y) → k ≡ q
canceled_by_one P legal i j k q x y a n =
    let t = place_of_one n.0 P n.1 in
    let b : NotesAt P t.0 q (Cancel j y) = (n.0, t.1, n.2, n.3) in
    ⊎_elim
    (λ e. let w : Some a.0 ≡ Some n.0 = sym a.1 ∙ ap (slice_get P) e ∙ t.1 in let v : a.0 ≡ n.0 = cc in sym a.2 ∙ ap (λ z. z.by) v ∙ n.2)
    (λ o. absurd (⊎_elim
    (λ l. let m = may_at P legal q t.0 (Cancel j y) b in m.5.1 (k, (x, noted_before P t.0 m.2 m.0 m.1 k (Cancel j x) m.3 m.4 i l a)))
    (λ l. let m = may_at P legal k i (Cancel j x) a in m.5.1 (q, (y, noted_before P i m.2 m.0 m.1 q (Cancel j y) m.3 m.4 t.0 l b)))
    o))
    (places i t.0)

pub some_exactly : {T A : Type 0} (B : T → Type 0) (o : Option T) (b : Bool) → ((t : T) → B t → A) → MatchOption o (¬ A) B → b ≡ is_some o → (b ≡ true) ↔ A
some_exactly B None b f m h = ((λ e. absurd (false≢true (sym h ∙ e))), (λ a. absurd (m a)))
some_exactly B (Some t) b f m h = ((λ e. f t m), (λ a. h))

-- a stream is leased for once
pub leased_by_one : (P : List Event) → IsLegal P → (i j s t : ℕ) (k q : StreamNo) → NotesAt P i k (Lease j s) → Notes P q (Lease j t) → k ≡ q
leased_by_one P legal i j s u k q a n =
    let t = place_of_one n.0 P n.1 in
    let b : NotesAt P t.0 q (Lease j u) = (n.0, t.1, n.2, n.3) in
    ⊎_elim
    (λ e. let w : Some a.0 ≡ Some n.0 = sym a.1 ∙ ap (slice_get P) e ∙ t.1 in let v : a.0 ≡ n.0 = cc in sym a.2 ∙ ap (λ z. z.by) v ∙ n.2)
    (λ o. absurd (⊎_elim
    (λ l. let m = may_at P legal q t.0 (Lease j u) b in m.5.0 (k, s, noted_before P t.0 m.2 m.0 m.1 k (Lease j s) m.3 m.4 i l a))
    (λ l. let m = may_at P legal k i (Lease j s) a in m.5.0 (q, u, noted_before P i m.2 m.0 m.1 q (Lease j u) m.3 m.4 t.0 l b))
    o))
    (places i t.0)
