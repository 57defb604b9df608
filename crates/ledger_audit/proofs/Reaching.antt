-- What a Cancel of a lease still has to come.
use Rattle.std.proofs.Common.{◌≡◌, ℕ, zero, suc, ◌<◌, ◌≤◌, Bool, true, false, cond, nat_eq, List, [], ◌∷◌, ◌++◌, refl, sym, ap, ◌∙◌, subst, ⊎_elim, append_assoc, append-nil, length, reverse, take, drop, arith, None, Some, slice_get}
use Rattle.std.proofs.lemmas.List.{reverse-append}
use Rattle.std.specs.List.{flat_map}
use Rattle.std.proofs.lemmas.Grind.{flat_map-append}
use Rattle.std.proofs.lemmas.Option.{slice_get_within}
use Rattle.chunk_core.specs.Lists.{IsAmong}
use Rattle.chunk_core.specs.Lists.IsAmong.{here, there}
use Rattle.chunk_core.proofs.Bools.{itself}
use Rattle.chunk_core.proofs.Members.{among_cons, among_nil, among_left, among_snoc, among_mid}
use Rattle.res_ledger.specs.declared.event.StreamNo.{StreamNo}
use Rattle.res_ledger.specs.declared.event.What.TheVariants.{Acquire, Lease}
use Rattle.res_ledger.specs.declared.event.Event.{Event}
use Rattle.res_ledger.specs.Ledger.{Notes, IsCoveredBy, IsLeased, IsAcquired, IsLegal, MayFollow}
use Rattle.res_ledger.specs.Own.{own, rows, acquires_of, leased_of, picked, reaches, leased_rows}
use Rattle.res_ledger.specs.Streams.{same_stream}
use Rattle.res_ledger.specs.Order.{any_row, covered_by, covered_for}
use Rattle.res_ledger.proofs.Noted.{rows_notes, notes_rows}
use Rattle.res_ledger.proofs.Scopes.{own_append}
use Rattle.res_ledger.proofs.Tests.{named}
use Rattle.res_ledger.proofs.Leases.{leased_sound, leased_found, covered_by_sound}
use Rattle.res_ledger.proofs.Ledgers.{covers_leased}
use Rattle.res_ledger.proofs.Prefixes.{acquired_once, front_notes, front_legal}
use Rattle.ledger_verdict.specs.Pending.{behind}
use Rattle.ledger_verdict.proofs.Fronts.{covered_by_front, gathered_then}
use Rattle.ledger_books.specs.Keyed.{NotesAt, CoversAt}
use Rattle.ledger_books.proofs.Placed.{at_split, at_among, at_front, at_more, among_at, noted_before, places, may_at, place_noted}
use Rattle.ledger_books.proofs.Covering.{covers_mine}
use Rattle.ledger_audit.specs.Marks.{covered_until}
use Rattle.ledger_audit.proofs.Fronts.{parts, front_length}
use Rattle.ledger_audit.proofs.Standing.{behind_none, behind_some}

pub take_front : {A : Type 0} (xs ys : List A) → take (length xs) (xs ++ ys) ≡ xs
take_front [] ys = refl
take_front (x ∷ xs) ys = ap (λ l. x ∷ l) (take_front xs ys)

-- where a place splits a list
pub place_split : (L : List Event) (i : ℕ) (e : Event) → slice_get L i ≡ Some e → (B : List Event) × (L ≡ take i L ++ e ∷ B) × (i < length L)
place_split L i e h =
    let s = at_split L i e h in
    let t : take i L ≡ s.0 = ap (λ n. take n L) (sym s.3) ∙ ap (take (length s.0)) s.2 ∙ take_front s.0 (e ∷ s.1) in
    (s.1, s.2 ∙ ap (λ l. l ++ e ∷ s.1) (sym t), slice_get_within L i e h)

nothing_among : (xs : List ℕ) → ((r : ℕ) → IsAmong r xs → ⊥) → xs ≡ []
nothing_among [] f = refl
nothing_among (x ∷ xs) f = absurd (f x (here xs))

picked_found : (f : ℕ → Bool) (xs : List (ℕ × ℕ)) (r : ℕ) → IsAmong r (picked f xs) → (t : ℕ) × IsAmong (r, t) xs × (f t ≡ true)
picked_found f [] r m = absurd (among_nil m)
picked_found f (x ∷ xs) r m = at_case (f x.1) refl m (λ n. picked_found f xs r n)
  where
    at_case : (b : Bool) → f x.1 ≡ b → IsAmong r (cond b (x.0 ∷ picked f xs) (picked f xs)) → (IsAmong r (picked f xs) → (t : ℕ) × IsAmong (r, t) xs × (f t ≡ true)) → (t : ℕ) × IsAmong (r, t) (x ∷ xs) × (f t ≡ true)
    at_case true h m rest = ⊎_elim (λ e. (x.1, subst (λ y. IsAmong (y, x.1) (x ∷ xs)) (sym e) (here xs), h)) (λ n. let i = rest n in (i.0, there x i.1, i.2)) (among_cons m)
    at_case false h m rest = let i = rest m in (i.0, there x i.1, i.2)

picked_append : (f : ℕ → Bool) (xs ys : List (ℕ × ℕ)) → picked f (xs ++ ys) ≡ picked f xs ++ picked f ys
picked_append f [] ys = refl
picked_append f (x ∷ xs) ys = elim (f x.1) as (λ b. cond b (x.0 ∷ picked f (xs ++ ys)) (picked f (xs ++ ys)) ≡ cond b (x.0 ∷ picked f xs) (picked f xs) ++ picked f ys) [ true ↦ ap (λ l. x.0 ∷ l) (picked_append f xs ys) | false ↦ picked_append f xs ys ]

among_reverse : (xs : List ℕ) (r : ℕ) → IsAmong r (reverse xs) → IsAmong r xs
among_reverse [] r m = m
among_reverse (x ∷ xs) r m = ⊎_elim
    (λ n. there x (among_reverse xs r n))
    (λ e. subst (λ y. IsAmong y (x ∷ xs)) (sym e) (here xs))
    (among_snoc (reverse xs) r x (subst (IsAmong r) (reverse-append (x ∷ []) xs) m))

module _ (L : List Event) (legal : IsLegal L) (q : StreamNo) (i j s : ℕ) (lease : NotesAt L i q (Lease j s)) where
  abbrev front : List Event
  front = take i L

  split : (B : List Event) × (L ≡ front ++ lease.0 ∷ B) × (i < length L)
  split = place_split L i lease.0 lease.1

  legal_front : IsLegal front
  legal_front = front_legal front (lease.0 ∷ split.0) (subst IsLegal split.1 legal)

  -- the lease covers rows by its own event alone
  covered_by_is : covered_by L j ≡ leased_rows (own q front) s
  covered_by_is =
      let P = front ++ lease.0 ∷ [] in
      let whole : L ≡ P ++ split.0 = split.1 ∙ sym (append_assoc front (lease.0 ∷ []) split.0) in
      let leased : IsLeased P j = (q, s, (lease.0, at_among P (length front) lease.0 (mid front), lease.2, lease.3)) in
      let may : MayFollow front q (Lease j s) = subst (λ k. MayFollow front k (Lease j s)) lease.2 (subst (MayFollow front lease.0.by) lease.3 (legal front split.0 lease.0 split.1)) in
      let none : covered_by front j ≡ [] = nothing_among (covered_by front j) (λ r m. let c = covered_by_sound front legal_front j r m in let l = covers_leased front j r c.0 c.1 in may.0 (c.0, l.0, l.1)) in
      ap (λ l. covered_by l j) whole ∙ covered_by_front j P split.0 (subst IsLegal whole legal) leased
      ∙ gathered_then (covered_for j) [] front (lease.0 ∷ [])
      ∙ ap (λ l. l ++ (covered_for j front lease.0 ++ [])) none
      ∙ append-nil (covered_for j front lease.0)
      ∙ ap (λ w. flat_map (λ l. cond {A = List ℕ} (nat_eq l.0 j) (leased_rows (own lease.0.by front) l.1) []) (leased_of w)) lease.3
      ∙ append-nil (cond {A = List ℕ} (nat_eq j j) (leased_rows (own lease.0.by front) s) [])
      ∙ ap (λ b. cond {A = List ℕ} b (leased_rows (own lease.0.by front) s) []) (itself j)
      ∙ ap (λ k. leased_rows (own k front) s) lease.2
    where
      mid : (A : List Event) → slice_get (A ++ lease.0 ∷ []) (length A) ≡ Some lease.0
      mid [] = refl
      mid (x ∷ A) = mid A

  pub due_is : reverse (covered_by L j) ≡ covered_until L q i s i
  due_is = ap reverse covered_by_is

  -- a row that is due was acquired in front of the place, in a scope that the lease reaches
  row_due : (n r : ℕ) → IsAmong r (covered_until L q i s n) → (t : ℕ) × Notes (take n L) q (Acquire r t) × (reaches (own q front) s t ≡ true)
  row_due n r m =
      let f = picked_found (reaches (own q front) s) (rows (own q (take n L))) r (among_reverse (picked (reaches (own q front) s) (rows (own q (take n L)))) r m) in
      (f.0, rows_notes (take n L) q (r, f.0) f.1, f.2)

  noted_in : (n r t : ℕ) → n ≤ length L → Notes (take n L) q (Acquire r t) → (m : ℕ) × (m < n) × NotesAt L m q (Acquire r t)
  noted_in n r t w a =
      let p = among_at a.0 (take n L) a.1 in
      let u = at_more (take n L) (drop n L) p.0 a.0 p.1 in
      let l = u.1 in
      let e = front_length L n w in
      (p.0, (omega (arith, l, e)), (a.0, ap (λ z. slice_get z p.0) (parts L n) ∙ u.0, a.2, a.3))

  pub not_acquired : (n r : ℕ) → n ≤ i → ¬ (IsAcquired L r) → behind any_row r (covered_until L q i s n) ≡ None
  not_acquired n r w a = behind_none any_row r (covered_until L q i s n)
      (λ m. let d = row_due n r m in a (q, d.0, subst (λ l. Notes l q (Acquire r d.0)) (sym (parts L n)) (front_notes (drop n L) d.1)))

  module _ (n r at : ℕ) (owner : StreamNo) (of : ℕ) (within : n ≤ i) (row : NotesAt L at owner (Acquire r of)) where
    short : n ≤ length L
    short = let l = split.2 in omega (arith, l, within)

    -- a row is acquired at one place
    one_place : (m t : ℕ) (k : StreamNo) → NotesAt L m k (Acquire r t) → m ≡ at
    one_place m t k a = ⊎_elim (λ e. e)
        (λ o. absurd (⊎_elim
        (λ l. let f = may_at L legal owner at (Acquire r of) row in f.5.0 (k, t, noted_before L at f.2 f.0 f.1 k (Acquire r t) f.3 f.4 m l a))
        (λ l. let f = may_at L legal k m (Acquire r t) a in f.5.0 (owner, of, noted_before L m f.2 f.0 f.1 owner (Acquire r of) f.3 f.4 at l row))
        o))
        (places m at)

    pub too_late : n ≤ at → behind any_row r (covered_until L q i s n) ≡ None
    too_late l = behind_none any_row r (covered_until L q i s n)
        (λ m. let d = row_due n r m in let a = noted_in n r d.0 short d.1 in let e = one_place a.0 d.0 q a.2 in let b = a.1 in omega (arith, l, e, b))

    pub not_covered : ¬ (CoversAt L i q s r) → behind any_row r (covered_until L q i s n) ≡ None
    not_covered c = behind_none any_row r (covered_until L q i s n)
        (λ m.
        let d = row_due n r m in
        let a = noted_in n r d.0 short d.1 in
        let b = a.1 in
        let g = slice_get_within L a.0 a.2.0 a.2.1 in
        let e = front_length L i (let l = split.2 in omega (arith, l)) in
        let here_is : Notes front q (Acquire r d.0) = (a.2.0, at_among front a.0 a.2.0 (at_front front (lease.0 ∷ split.0) a.0 a.2.0 (omega (arith, b, within, e)) (ap (λ z. slice_get z a.0) (sym split.1) ∙ a.2.1)), a.2.2, a.2.3) in
        c (front, split.0, lease.0, split.1, e, leased_sound front legal_front q s r (picked_holds (reaches (own q front) s) (rows (own q front)) r d.0 (notes_rows front q r d.0 here_is) d.2)))
      where
        picked_holds : (f : ℕ → Bool) (xs : List (ℕ × ℕ)) (r t : ℕ) → IsAmong (r, t) xs → f t ≡ true → IsAmong r (picked f xs)
        picked_holds f [] r t m h = absurd (among_nil m)
        picked_holds f (x ∷ xs) r t m h = ⊎_elim
            (λ e.
            let r_is : r ≡ x.0 = ap (λ (y : ℕ × ℕ). y.0) e in
            let t_is : t ≡ x.1 = ap (λ (y : ℕ × ℕ). y.1) e in
            subst (λ b. IsAmong r (cond b (x.0 ∷ picked f xs) (picked f xs))) (sym (subst (λ y. f y ≡ true) t_is h)) (subst (λ y. IsAmong y (x.0 ∷ picked f xs)) (sym r_is) (here (picked f xs))))
            (λ n. elim (f x.1) as (λ b. IsAmong r (cond b (x.0 ∷ picked f xs) (picked f xs))) [ true ↦ there x.0 (picked_holds f xs r t n h) | false ↦ picked_holds f xs r t n h ])
            (among_cons m)

    pub is_reached : at < n → CoversAt L i q s r → behind any_row r (covered_until L q i s n) ≡ Some (covered_until L q i s at)
    is_reached l c =
        let f = reaches (own q front) s in
        let mine : q ≡ owner = (covers_mine L legal q owner i j s r at of lease row c).0 in
        let A_is : c.0 ≡ front = same_front c.0 front c.1 split.0 c.2 lease.0 (sym c.3 ∙ split.1) (c.4 ∙ sym (front_length L i (let l = split.2 in omega (arith, l)))) in
        let cov : IsCoveredBy front q s r = subst (λ A. IsCoveredBy A q s r) A_is c.5 in
        let g = picked_found f (rows (own q front)) r (leased_found front legal_front q s r cov) in
        let acquired : Notes L q (Acquire r g.0) = subst (λ z. Notes z q (Acquire r g.0)) (sym split.1) (front_notes (lease.0 ∷ split.0) (rows_notes front q (r, g.0) g.1)) in
        let t_is : g.0 ≡ of = (acquired_once L legal r q owner g.0 of acquired (place_noted L legal owner at (Acquire r of) row)).1 in
        let yes_is : f of ≡ true = subst (λ x. f x ≡ true) t_is g.2 in
        let P = take n L in
        let in_P : slice_get P at ≡ Some row.0 = at_front P (drop n L) at row.0 (let e = front_length L n short in omega (arith, l, e)) (ap (λ z. slice_get z at) (sym (parts L n)) ∙ row.1) in
        let p = place_split P at row.0 in_P in
        let Q = take at P in
        let Q_is : Q ≡ take at L = take_take L at n (omega (arith, l)) in
        let own_is : own q P ≡ own q Q ++ (Acquire r of ∷ own q p.0) =
        ap (own q) p.1 ∙ own_append q Q (row.0 ∷ p.0)
        ∙ ap (λ b. own q Q ++ cond b (row.0.what ∷ own q p.0) (own q p.0)) (subst (λ k. same_stream k q ≡ true) (sym (row.2 ∙ sym mine)) (named q))
        ∙ ap (λ w. own q Q ++ w ∷ own q p.0) row.3 in
        let rows_is : rows (own q P) ≡ rows (own q Q) ++ (r, of) ∷ rows (own q p.0) = ap rows own_is ∙ flat_map-append acquires_of (own q Q) (Acquire r of ∷ own q p.0) in
        let cut_is : picked f (rows (own q P)) ≡ picked f (rows (own q Q)) ++ r ∷ picked f (rows (own q p.0)) =
        ap (picked f) rows_is ∙ picked_append f (rows (own q Q)) ((r, of) ∷ rows (own q p.0))
        ∙ ap (λ b. picked f (rows (own q Q)) ++ cond b (r ∷ picked f (rows (own q p.0))) (picked f (rows (own q p.0)))) yes_is in
        let bare : ¬ (IsAmong r (reverse (picked f (rows (own q p.0))))) = λ m.
        let d = picked_found f (rows (own q p.0)) r (among_reverse (picked f (rows (own q p.0))) r m) in
        let e = rows_notes p.0 q (r, d.0) d.1 in
        twice P (front_legal P (drop n L) (subst IsLegal (parts L n) legal)) Q p.0 row.0 p.1 owner q of d.0 row.2 row.3 e in
        ap (λ z. behind any_row r (reverse z)) cut_is
        ∙ ap (behind any_row r) (reverse-append (picked f (rows (own q Q))) (r ∷ picked f (rows (own q p.0))) ∙ ap (λ z. z ++ reverse (picked f (rows (own q Q)))) (reverse-append (r ∷ []) (picked f (rows (own q p.0)))) ∙ append_assoc (reverse (picked f (rows (own q p.0)))) (r ∷ []) (reverse (picked f (rows (own q Q)))))
        ∙ behind_some any_row r (reverse (picked f (rows (own q p.0)))) (reverse (picked f (rows (own q Q)))) (λ x. refl) bare
        ∙ ap (λ z. Some (reverse (picked f (rows (own q z))))) Q_is
      where
        same_front : (A B C D : List Event) (e g : Event) → A ++ e ∷ C ≡ B ++ g ∷ D → length A ≡ length B → A ≡ B
        same_front A B C D e g h l = sym (take_front A (e ∷ C)) ∙ ap (take (length A)) h ∙ ap (λ m. take m (B ++ g ∷ D)) l ∙ take_front B (g ∷ D)

        take_take : (L : List Event) (m n : ℕ) → m ≤ n → take m (take n L) ≡ take m L
        take_take L zero n l = refl
        take_take [] (suc m) zero l = refl
        take_take [] (suc m) (suc n) l = refl
        take_take (x ∷ L) (suc m) zero l = absurd (omega (arith, l))
        take_take (x ∷ L) (suc m) (suc n) l = ap (λ z. x ∷ z) (take_take L m n (omega (arith, l)))

        twice : (P : List Event) → IsLegal P → (A B : List Event) (e : Event) → P ≡ A ++ e ∷ B → (k m : StreamNo) (t u : ℕ) → e.by ≡ k → e.what ≡ Acquire r t → Notes B m (Acquire r u) → ⊥
        twice P lp A B e c k m t u by is n =
            let p = among_at n.0 B n.1 in
            let d = at_split B p.0 n.0 p.1 in
            let whole : P ≡ (A ++ e ∷ d.0) ++ n.0 ∷ d.1 = c ∙ ap (λ z. A ++ e ∷ z) d.2 ∙ sym (append_assoc A (e ∷ d.0) (n.0 ∷ d.1)) in
            let may : MayFollow (A ++ e ∷ d.0) n.0.by (Acquire r u) = subst (MayFollow (A ++ e ∷ d.0) n.0.by) n.3 (lp (A ++ e ∷ d.0) d.1 n.0 whole) in
            may.0 (k, t, (e, among_mid A d.0 e, by, is))
