-- What was noted as parts were given.
use Rattle.std.proofs.Common.{◌≡◌, ℕ, zero, suc, ◌+◌, ◌-◌, ◌<◌, ◌≤◌, List, [], ◌∷◌, ◌++◌, append-nil, filter, length, length-append, refl, ap, ◌∙◌, ⊎_elim, arith}
use Rattle.std.proofs.lemmas.Option.{slice_get_within}
use Rattle.std.proofs.lemmas.List.Concat.{flat_map-append}
use Rattle.std.proofs.lemmas.List.Elements.{filter-append}
use Rattle.chunk_core.specs.Lists.{IsAmong}
use Rattle.chunk_core.proofs.Filters.{among_append}
use Rattle.chunk_core.proofs.Members.{among_cons, among_nil}
use Rattle.join_tree.specs.Notes.{is_table_note}
use Rattle.outer_tables.specs.Rows.{acquires}
use Rattle.res_ledger.specs.declared.event.What.{What}
use Rattle.res_ledger.specs.declared.event.What.TheVariants.{Acquire, Cancel, Close, Final, Lease, Open}
use Rattle.res_ledger.specs.Own.{opens, opens_of}
use Rattle.run_rules.specs.Giving.{is_giving}
use Rattle.outer_stream.specs.declared.next.OuterPart.{OuterPart}
use Rattle.outer_stream.specs.Parts.{Gave, beginning, closing, opening, table_count}
use Rattle.outer_stream.specs.Parts.Gave.{nothing, begun, leased, left}

-- rows that are acquired open no scope, and are told
acquires_open : (s r n : ℕ) → opens (acquires s r n) ≡ []
acquires_open s r zero = refl
acquires_open s r (suc n) = acquires_open s (suc r) n

pub acquires_give : (s r n : ℕ) → filter is_giving (acquires s r n) ≡ acquires s r n
acquires_give s r zero = refl
acquires_give s r (suc n) = ap (λ E. Acquire r s ∷ E) (acquires_give s (suc r) n)

acquires_note : (s r n : ℕ) → filter is_table_note (acquires s r n) ≡ acquires s r n
acquires_note s r zero = refl
acquires_note s r (suc n) = ap (λ E. Acquire r s ∷ E) (acquires_note s (suc r) n)

acquire_row : (s r n q t : ℕ) → IsAmong (Acquire q t) (acquires s r n) → q < r + n
acquire_row s r zero q t m = absurd (among_nil m)
acquire_row s r (suc n) q t m = ⊎_elim
    (λ (e : Acquire q t ≡ Acquire r s). let z = row_is q t r s e in omega (z, arith))
    (λ i. let l = acquire_row s (suc r) n q t i in omega (l, arith))
    (among_cons m)
  where
    row_is : (q t r s : ℕ) → Acquire q t ≡ Acquire r s → q ≡ r
    row_is q t r s e = cc

opening_opens : (k : ℕ) → length (opens (opening k)) + (k - 1) ≡ k
opening_opens zero = refl
opening_opens (suc k) = let e : 1 + (suc k - 1) ≡ suc k = omega arith in e

closing_opens : (s : ℕ) → opens (closing s) ≡ []
closing_opens zero = refl
closing_opens (suc s) = refl

opens_both : (E F : List What) → length (opens (E ++ F)) ≡ length (opens E) + length (opens F)
opens_both E F = ap length (flat_map-append opens_of E F) ∙ length-append (opens E) (opens F)

pub closing_notes : (s : ℕ) → filter is_table_note (closing s) ≡ closing s
closing_notes zero = refl
closing_notes (suc s) = refl

pub opening_notes : (s : ℕ) → filter is_table_note (opening s) ≡ opening s
opening_notes zero = refl
opening_notes (suc s) = refl

pub beginning_notes : (k : ℕ) (p : OuterPart) (m : ℕ) → filter is_table_note (beginning k p m) ≡ beginning k p m
beginning_notes k p m = filter-append is_table_note (opening k) (acquires k p.tables.from m) ∙ (ap (λ E. E ++ filter is_table_note (acquires k p.tables.from m)) (opening_notes k) ∙ ap (λ E. opening k ++ E) (acquires_note k p.tables.from m))

no_acquire : (k q t : ℕ) → IsAmong (Acquire q t) (opening k) → ⊥
no_acquire zero q t m = among_nil m
no_acquire (suc k) q t m = ⊎_elim (λ (e : Acquire q t ≡ Open (suc k) 0). cc) (λ z. among_nil z) (among_cons m)

no_acquire_closing : (k q t : ℕ) → IsAmong (Acquire q t) (closing k) → ⊥
no_acquire_closing zero q t m = among_nil m
no_acquire_closing (suc k) q t m = ⊎_elim (λ (e : Acquire q t ≡ Close (suc k) _). cc) (λ z. among_nil z) (among_cons m)

module _ {parts : List OuterPart} where
  pub gave_leased : {k s t b j : ℕ} {E : List What} → Gave parts k s t b j E → j ≤ b
  gave_leased nothing = omega arith
  gave_leased (begun p is from to few g) = few
  gave_leased (leased less g) = omega (less, arith)
  gave_leased (left g) = omega arith

  pub gave_part : {k s t b j : ℕ} {E : List What} → Gave parts k s t b j E → k ≤ length parts
  gave_part nothing = omega arith
  gave_part (begun {k = k} p is from to few g) = slice_get_within parts k p is
  gave_part (leased less g) = gave_part g
  gave_part (left g) = gave_part g

  -- where no part was begun nothing was noted
  pub gave_first : {k s t b j : ℕ} {E : List What} → Gave parts k s t b j E → k ≡ 0 → (s ≡ 0) × (t ≡ 0) × (b ≡ 0) × (E ≡ [])
  gave_first nothing e = (refl, refl, refl, refl)
  gave_first (begun p is from to few g) e = absurd (omega (e, arith))
  gave_first (leased less g) e = let h = gave_first g e in let b = h.2 in absurd (omega (b, less, arith))
  gave_first (left {s = s} {E = E} g) e = let h = gave_first g e in (refl, h.1, h.2, ap (λ i. E ++ closing i) h.0 ∙ append-nil E ∙ h.3)

  -- each part but the first opened a scope
  pub gave_opens : {k s t b j : ℕ} {E : List What} → Gave parts k s t b j E → length (opens E) ≡ k - 1
  gave_opens nothing = refl
  gave_opens (begun {k = k} {E = E} p is from to few g) =
      let h = gave_opens g in
      let a = opens_both E (beginning k p (table_count p)) in
      let b = opens_both (opening k) (acquires k p.tables.from (table_count p)) in
      let c = ap length (acquires_open k p.tables.from (table_count p)) in
      let d = opening_opens k in
      omega (h, a, b, c, d, arith)
  gave_opens (leased {s = s} {j = j} {E = E} less g) = let h = gave_opens g in let a = opens_both E (Lease j s ∷ []) in omega (h, a, arith)
  gave_opens (left {s = s} {E = E} g) = let h = gave_opens g in let a = opens_both E (closing s) in let c = ap length (closing_opens s) in omega (h, a, c, arith)

  -- the rows that were acquired are those of tables of parts that were begun
  pub gave_rows : {k s t b j : ℕ} {E : List What} → Gave parts k s t b j E → (q i : ℕ) → IsAmong (Acquire q i) E → q < t
  gave_rows nothing q i m = absurd (among_nil m)
  gave_rows (begun {k = k} {E = E} p is from to few g) q i m = ⊎_elim
      (λ o. let l = gave_rows g q i o in omega (l, to, arith))
      (λ n. ⊎_elim (λ o. absurd (no_acquire k q i o)) (λ o. let l = acquire_row k p.tables.from (table_count p) q i o in omega (l, from, to, arith)) (among_append (Acquire q i) (opening k) (acquires k p.tables.from (table_count p)) n))
      (among_append (Acquire q i) E (beginning k p (table_count p)) m)
  gave_rows (leased {s = s} {j = j} {E = E} less g) q i m = ⊎_elim
      (λ o. gave_rows g q i o)
      (λ n. ⊎_elim (λ (e : Acquire q i ≡ Lease j s). cc) (λ z. absurd (among_nil z)) (among_cons n))
      (among_append (Acquire q i) E (Lease j s ∷ []) m)
  gave_rows (left {s = s} {E = E} g) q i m = ⊎_elim
      (λ o. gave_rows g q i o)
      (λ n. absurd (no_acquire_closing s q i n))
      (among_append (Acquire q i) E (closing s) m)

-- the scopes that were opened are told
pub opens_given : (E : List What) → opens (filter is_giving E) ≡ opens E
opens_given [] = refl
opens_given (Open s p ∷ E) = ap (λ L. (s, p) ∷ L) (opens_given E)
opens_given (Acquire r s ∷ E) = opens_given E
opens_given (Lease j s ∷ E) = opens_given E
opens_given (Cancel j x ∷ E) = opens_given E
opens_given (Close zero x ∷ E) = opens_given E
opens_given (Close (suc s) x ∷ E) = opens_given E
opens_given (Final r x ok ∷ E) = opens_given E

-- what is opened and closed between two parts acquires nothing
pub no_row : (s k q t : ℕ) → IsAmong (Acquire q t) (closing s ++ opening k) → ⊥
no_row s k q t m = ⊎_elim (λ i. no_acquire_closing s q t i) (λ i. no_acquire k q t i) (among_append (Acquire q t) (closing s) (opening k) m)
