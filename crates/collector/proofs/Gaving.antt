-- What the outer stream noted as it gave streams.
use Rattle.std.proofs.Common.{◌≡◌, ℕ, zero, suc, ◌+◌, ◌-◌, ◌<◌, ◌≤◌, List, [], ◌∷◌, ◌++◌, append_assoc, append-nil, map, drop, length, Some, None, refl, sym, ◌∙◌, ap, subst, ⊎_elim, arith, slice_get}
use Rattle.std.specs.List.{range_with_len}
use Rattle.std.proofs.lemmas.List.{map-append}
use Rattle.chunk_core.specs.Lists.{IsAmong}
use Rattle.chunk_core.specs.declared.code.How.{How}
use Rattle.chunk_core.proofs.Filters.{among_append}
use Rattle.chunk_core.proofs.Members.{among_cons, among_nil}
use Rattle.outer_stream.specs.Parts.{FollowParts, Gave, GaveLast, beginning, closing, opening, table_count}
use Rattle.outer_stream.specs.Parts.Gave.{nothing, begun, leased, left}
use Rattle.outer_stream.specs.Parts.GaveLast.{all, amid, within}
use Rattle.outer_stream.specs.declared.next.OuterPart.{OuterPart}
use Rattle.outer_tables.specs.Rows.{acquires}
use Rattle.res_ledger.specs.declared.event.What.{What}
use Rattle.res_ledger.specs.declared.event.What.TheVariants.{Acquire, Lease}
use Rattle.row_seat.specs.Views.{run}
use Rattle.run_rules.specs.Giving.{leases_for}
use Rattle.dealt_streams.specs.Standing.{streams_before}
use Rattle.collector.proofs.Lists.{acquired_within, below_is, drop_at, run_split}
use Rattle.collector.proofs.PlanParts.{streams_all, streams_up}

-- no row is acquired where a scope is opened or closed
no_opened : (k r s : ℕ) → IsAmong (Acquire r s) (opening k) → ⊥
no_opened zero r s m = among_nil m
no_opened (suc k) r s m = ⊎_elim (λ e. cc) (λ n. among_nil n) (among_cons m)

pub no_closed : (k r s : ℕ) → IsAmong (Acquire r s) (closing k) → ⊥
no_closed zero r s m = among_nil m
no_closed (suc k) r s m = ⊎_elim (λ e. cc) (λ n. among_nil n) (among_cons m)

-- the rows of a part that were acquired as it was begun
pub begun_rows : (k : ℕ) (p : OuterPart) (m r s : ℕ) → IsAmong (Acquire r s) (beginning k p m) → (p.tables.from ≤ r) × (r < p.tables.from + m)
begun_rows k p m r s i = ⊎_elim (λ o. absurd (no_opened k r s o)) (λ a. acquired_within k p.tables.from m r s a) (among_append (Acquire r s) (opening k) (acquires k p.tables.from m) i)

pub closed_rows : (k : ℕ) (E : List What) (r s : ℕ) → IsAmong (Acquire r s) (closing k ++ E) → IsAmong (Acquire r s) E
closed_rows k E r s i = ⊎_elim (λ c. absurd (no_closed k r s c)) (λ a. a) (among_append (Acquire r s) (closing k) E i)

pub no_lease : (j c r s : ℕ) → IsAmong (Acquire r s) (Lease j c ∷ []) → ⊥
no_lease j c r s m = ⊎_elim (λ e. cc) (λ n. among_nil n) (among_cons m)

module _ {parts : List OuterPart} where
  -- the streams of the parts that were begun end behind those that were leased for
  pub gave_behind : {k s t behind j : ℕ} {E : List What} → Gave parts k s t behind j E → (behind ≡ streams_before parts k) × (j ≤ behind)
  gave_behind (nothing) = (refl, omega arith)
  gave_behind (begun p is from to more g) = (sym (ap (λ o. elim o [ Some part ↦ part.behind | None ↦ 0 ]) is), more)
  gave_behind (leased less g) = ((gave_behind g).0, less)
  gave_behind (left g) = gave_behind g

  pub gave_begun : {k s t behind j : ℕ} {E : List What} → Gave parts k s t behind j E → k ≤ length parts
  gave_begun (nothing) = omega arith
  gave_begun (begun {k = k} p is from to more g) = below_is parts k p is
  gave_begun (leased less g) = gave_begun g
  gave_begun (left g) = gave_begun g

  -- they acquired rows of tables of these parts
  pub gave_rows : {k s t behind j : ℕ} {E : List What} → Gave parts k s t behind j E → (r c : ℕ) → IsAmong (Acquire r c) E → r < t
  gave_rows (nothing) r c m = absurd (among_nil m)
  gave_rows (begun {k = k} {E = E} p is from to more g) r c m =
      ⊎_elim (λ a. let l = gave_rows g r c a in omega (arith, l, to)) (λ b. let w = begun_rows k p (table_count p) r c b in let h = w.1 in omega (arith, h, from, to)) (among_append (Acquire r c) E (beginning k p (table_count p)) m)
  gave_rows (leased {s = s} {j = j} {E = E} less g) r c m = ⊎_elim (λ a. gave_rows g r c a) (λ b. absurd (no_lease j s r c b)) (among_append (Acquire r c) E (Lease j s ∷ []) m)
  gave_rows (left {s = s} {E = E} g) r c m = ⊎_elim (λ a. gave_rows g r c a) (λ b. absurd (no_closed s r c b)) (among_append (Acquire r c) E (closing s) m)

  module _ (T n : ℕ) (f : FollowParts 0 0 parts T n) where
    -- each part was begun once all streams of those before were given
    pub gave_turns : {k s t behind j : ℕ} {E : List What} → Gave parts k s t behind j E → (i : ℕ) → i < k → streams_before parts i ≤ j
    gave_turns (nothing) i l = absurd (omega (arith, l))
    gave_turns (begun {k = k} p is from to more g) i l =
        let b = gave_behind g in
        let e = b.0 in
        let u = streams_up parts T n f i k (omega (arith, l)) (gave_begun g) in
        omega (arith, u, e)
    gave_turns (leased less g) i l = let h = gave_turns g i l in omega (arith, h)
    gave_turns (left g) i l = gave_turns g i l

    -- and none of the streams of the other parts was given
    pub gave_ahead : {k s t behind j : ℕ} {E : List What} → Gave parts k s t behind j E → (i : ℕ) → k ≤ i → i < length parts → j ≤ streams_before parts i
    gave_ahead {k = k} g i l m =
        let b = gave_behind g in
        let e = b.0 in
        let h = b.1 in
        let u = streams_up parts T n f k i l (omega (arith, m)) in
        omega (arith, u, e, h)

    -- no more streams were given than there are
    pub gave_few : {k s t behind j : ℕ} {E : List What} → Gave parts k s t behind j E → j ≤ n
    gave_few {k = k} g =
        let b = gave_behind g in
        let e = b.0 in
        let h = b.1 in
        let u = streams_up parts T n f k (length parts) (gave_begun g) (omega arith) in
        let a = streams_all parts T n f in
        omega (arith, u, e, h, a)

-- what is left to note of these parts, the first of which is part k, with the streams from j on
abbrev pub parts_left : ℕ → ℕ → List OuterPart → List What
parts_left k j [] = []
parts_left k j (p ∷ ps) = beginning k p (table_count p) ++ (leases_for k j (p.behind - j) ++ (closing k ++ parts_left (suc k) p.behind ps))

-- what is left where k parts were begun, the last of them in the scope s, and the streams below j were leased for
abbrev pub left_at : List OuterPart → ℕ → ℕ → ℕ → ℕ → List What
left_at parts k s behind j = leases_for s j (behind - j) ++ (closing s ++ parts_left k behind (drop k parts))

leases_none : (s j : ℕ) → leases_for s j (j - j) ≡ []
leases_none s j = let z : j - j ≡ 0 = omega arith in ap (λ n. leases_for s j n) z

module _ (parts : List OuterPart) where
  left_again : (k s j : ℕ) → left_at parts k s j j ≡ closing s ++ parts_left k j (drop k parts)
  left_again k s j = ap (λ l. l ++ (closing s ++ parts_left k j (drop k parts))) (leases_none s j)

  next_left : (k j : ℕ) (p : OuterPart) → slice_get parts k ≡ Some p → left_at parts k 0 j j ≡ beginning k p (table_count p) ++ left_at parts (suc k) k p.behind j
  next_left k j p is = left_again k 0 j ∙ ap (λ l. parts_left k j l) (drop_at parts k p is)

  pub lease_left : (k s behind j : ℕ) → j < behind → left_at parts k s behind j ≡ Lease j s ∷ left_at parts k s behind (suc j)
  lease_left k s behind j less =
      let n : behind - j ≡ suc (behind - suc j) = omega (arith, less) in
      let e : j + 1 ≡ suc j = omega arith in
      ap (λ m. leases_for s j m ++ (closing s ++ parts_left k behind (drop k parts))) n
      ∙ ap (λ i. Lease j s ∷ (leases_for s i (behind - suc j) ++ (closing s ++ parts_left k behind (drop k parts)))) e

  -- it is all that there is to note of the parts
  pub gave_front : {k s t behind j : ℕ} {E : List What} → Gave parts k s t behind j E → E ++ left_at parts k s behind j ≡ parts_left 0 0 parts
  gave_front (nothing) = left_again 0 0 0
  gave_front (begun {k = k} {j = j} {E = E} p is from to more g) =
      append_assoc E (beginning k p (table_count p)) (left_at parts (suc k) k p.behind j) ∙ (ap (λ l. E ++ l) (sym (next_left k j p is)) ∙ gave_front g)
  gave_front (leased {k = k} {s = s} {behind = behind} {j = j} {E = E} less g) =
      append_assoc E (Lease j s ∷ []) (left_at parts k s behind (suc j)) ∙ (ap (λ l. E ++ l) (sym (lease_left k s behind j less)) ∙ gave_front g)
  gave_front (left {k = k} {s = s} {j = j} {E = E} g) =
      append_assoc E (closing s) (left_at parts k 0 j j)
      ∙ (ap (λ l. E ++ (closing s ++ l)) (left_again k 0 j) ∙ (ap (λ l. E ++ l) (sym (left_again k s j)) ∙ gave_front g))

  drop_all : (ps : List OuterPart) → drop (length ps) ps ≡ []
  drop_all [] = refl
  drop_all (p ∷ ps) = drop_all ps

  begin_more : (k : ℕ) (p : OuterPart) (m : ℕ) → m ≤ table_count p → beginning k p (table_count p) ≡ beginning k p m ++ acquires k (p.tables.from + m) (table_count p - m)
  begin_more k p m few =
      let e : table_count p ≡ m + (table_count p - m) = omega (arith, few) in
      ap (λ n. beginning k p n) e
      ∙ (ap (λ l. opening k ++ map (λ q. Acquire q k) l) (run_split p.tables.from m (table_count p - m))
      ∙ (ap (λ l. opening k ++ l) (map-append (λ q. Acquire q k) (run p.tables.from m) (run (p.tables.from + m) (table_count p - m)))
      ∙ sym (append_assoc (opening k) (acquires k p.tables.from m) (acquires k (p.tables.from + m) (table_count p - m)))))

  -- where it is over it noted a front of that
  pub last_front : {n : ℕ} {h : How} {E : List What} → GaveLast parts n h E → (rest : List What) × (E ++ rest ≡ parts_left 0 0 parts)
  last_front {n = n} (all {E = E} g) = (left_at parts (length parts) 0 n n, gave_front g)
  last_front (amid {k = k} {s = s} {behind = behind} {j = j} g) = (left_at parts k s behind j, gave_front g)
  last_front (within {k = k} {j = j} {E = E} p m is from few g) =
      let more = acquires k (p.tables.from + m) (table_count p - m) in
      let rest = left_at parts (suc k) k p.behind j in (
        more ++ rest,
        append_assoc E (beginning k p m) (more ++ rest)
            ∙ (ap (λ l. E ++ l) (sym (append_assoc (beginning k p m) more rest) ∙ (ap (λ l. l ++ rest) (sym (begin_more k p m few)) ∙ sym (next_left k j p is))) ∙ gave_front g),
      )

  -- and where it gave all streams, all of it
  pub all_front : {t n : ℕ} {E : List What} → Gave parts (length parts) 0 t n n E → E ≡ parts_left 0 0 parts
  all_front {n = n} {E = E} g =
      let none : left_at parts (length parts) 0 n n ≡ [] = left_again (length parts) 0 n ∙ ap (λ l. parts_left (length parts) n l) (drop_all parts) in
      sym (append-nil E) ∙ (ap (λ l. E ++ l) (sym none) ∙ gave_front g)
