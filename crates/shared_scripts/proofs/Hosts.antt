-- A main seat with rows that streams lease, call by call.
use Rattle.std.proofs.Common.{◌≡◌, ◌≢◌, ℕ, zero, suc, ◌+◌, ◌-◌, ◌*◌, ◌<◌, ◌≤◌, ◌⊎◌, ◌↔◌, Bool, true, false, not, cond, leb, ltb, eqb, filter, List, [], ◌∷◌, ◌++◌, inl, inr, refl, sym, ap, ◌∙◌, subst, ⊎_elim, arith}
use Rattle.std.proofs.lemmas.Bool.{cases_eq, le-ltb}
use Rattle.std.proofs.lemmas.List.{map-append}
use Rattle.chunk_core.specs.declared.code.Exit.TheVariants.{Succeeded}
use Rattle.chunk_core.specs.Lists.{IsAmong}
use Rattle.chunk_core.specs.Lists.IsAmong.{here}
use Rattle.chunk_core.proofs.Filters.{among_append, among_filter, among_right, filter_among}
use Rattle.chunk_core.proofs.Members.{among_last, among_left, among_nil, among_snoc}
use Rattle.res_ledger.specs.declared.event.Event.{Event}
use Rattle.res_ledger.specs.declared.event.StreamNo.TheVariants.{Inner, Outer}
use Rattle.res_ledger.specs.declared.event.What.{What}
use Rattle.res_ledger.specs.declared.event.What.TheVariants.{Acquire, Close, Final, Lease, Open}
use Rattle.res_ledger.specs.Ledger.{IsAcquired, IsCoveredBy, Notes}
use Rattle.res_ledger.specs.Ledger.LiesWithin.{same}
use Rattle.row_seat.specs.declared.view.Left.TheVariants.{Stays, Yours}
use Rattle.row_seat.specs.declared.view.View.{View}
use Rattle.row_seat.specs.Views.{AreApart, CanJoin, CanLease, CanSplit, ClosesRow, MayNote, handed_over, joined, leased, name_of, run, shut, split_main, split_off, start, took, within, without, without_row}
use Rattle.row_seat.proofs.Hands.{row_held, rows_without}
use Rattle.row_seat.proofs.Members.{among_kept, among_without}
use Rattle.row_seat.specs.Steps.{without_one}
use Rattle.std.specs.Map.{keys_of}
use Rattle.shared_scripts.specs.Crowds.{IsGathered, IsHost, IsLiving, IsRested, lent, with_lent}
use Rattle.shared_scripts.specs.Rows.{AllPast, CanOpenRow, CanShutRow, ShutsRow, with_note, with_row_open}
use Rattle.shared_scripts.proofs.Lendings.{among_lent, keys_nil, lent_below, lent_mine, lent_none, lent_snoc, none_left, one_kept, run_snoc, run_without, without_last}
use Rattle.shared_scripts.proofs.Noted.{acquired_before, note_cases}
use Rattle.res_ledger.proofs.Ledgers.{acquire_row}
use Rattle.shared_scripts.proofs.Pasts.{among_run, grow, more_notes, not_closed, not_leased, past_note, root_open, widen}
use Rattle.shared_scripts.proofs.RowSteps.{last_note}
use Rattle.shared_scripts.proofs.Racing.{outer_inner}

module _ {P : Type 0} where
  pub host_begins : (v : View P) → v ≡ start Outer 520 2160 8 → IsHost v [] 0 0 1
  host_begins v e = subst (λ z. IsHost z [] 0 0 1) (sym e) (record {
    main = refl;
    by = refl;
    past = λ x m. absurd (among_nil m);
    rows = λ r a b. absurd (omega arith);
    opened = refl;
    pairs = refl;
    kept = refl;
    handed = refl;
    taken = refl;
    fresh = λ r m a. among_nil a.2.1;
    common = λ r a b. among_run 520 0 r (omega arith) (omega arith);
    empty = λ r a b. among_run 520 0 r (omega arith) (omega arith);
    had = λ i m. absurd (among_nil m);
    outs = λ i m. absurd (among_nil m);
    out_is = refl;
    room = omega arith;
    splits = omega arith;
  })

  -- one more row is opened
  module _ (v : View P) (out : List ℕ) (m : ℕ) (lt : m < 8) (i : IsHost v out m 0 1) where
    pub host_opens : CanOpenRow v m
    host_opens = let room = i.room in (1, (λ x a. widen m m 1 m (omega arith) (omega arith) (omega arith) (omega arith) x.what (i.past x a)), i.common m (omega arith) lt, omega arith)

    module _ (p : P) (s t : ℕ) where
      abbrev opening : View P
      opening = with_note v s (Open (m + 1) 0)

      abbrev opened : View P
      opened = with_row_open v m p s t

      past_open : AllPast opening (m + 1) m 1 0
      past_open = grow v.events i.past (m + 1) m 1 0 (omega arith) (omega arith) (omega arith) (omega arith) (record { stamp = s; by = v.by; what = Open (m + 1) 0 }) (omega arith, omega arith, refl)

      not_again : (r : ℕ) → r ≢ m → IsAcquired opened.events r → IsAcquired v.events r
      not_again r ne c =
          let d : IsAcquired opening.events r = ⊎_elim (λ o. (c.0, c.1, o)) (λ e. absurd (ne (sym (acquire_row m (m + 1) r c.1 e)))) (note_cases opening.events _ c.0 (Acquire r c.1) c.2) in
          acquired_before v.events _ r d refl

      pub host_opened : IsHost opened out (m + 1) 0 1
      host_opened = let room = i.room in record {
        main = i.main;
        by = i.by;
        past = grow opening.events past_open (m + 1) (m + 1) 1 0 (omega arith) (omega arith) (omega arith) (omega arith) (record { stamp = t; by = v.by; what = Acquire m (m + 1) }) (omega arith, refl);
        rows = λ r a b. ⊎_elim
            (λ e. subst (λ z. Notes opened.events v.by (Open (z + 1) 0) × Notes opened.events v.by (Acquire z (z + 1))) (sym e) (more_notes _ (last_note v s (Open (m + 1) 0)), last_note opening t (Acquire m (m + 1))))
            (λ ne. let x = i.rows r a (omega arith) in (more_notes _ (more_notes _ x.0), more_notes _ (more_notes _ x.1)))
            (cases_eq r m);
        opened = map-append (λ (x : ℕ × P). x.0) v.opened ((m, p) ∷ []) ∙ (ap (λ l. l ++ m ∷ []) i.opened ∙ (ap (λ k. run 0 k ++ m ∷ []) (let e : m - 0 ≡ m = omega arith in e) ∙ (ap (λ (k : ℕ). run 0 m ++ k ∷ []) (let e : m ≡ 0 + m = omega arith in e) ∙ (run_snoc 0 m ∙ ap (λ k. run 0 k) (let e : suc m ≡ m + 1 - 0 = omega arith in e)))));
        pairs = i.pairs;
        kept = i.kept;
        handed = i.handed;
        taken = i.taken;
        fresh = λ r a b. let w = among_without m v.empty r a in i.fresh r w.0 (not_again r w.1 b);
        common = λ r a b. among_kept m v.empty r (i.common r (omega arith) b) (λ e. omega arith);
        empty = λ r a b. among_kept m v.empty r (i.empty r a b) (λ e. omega arith);
        had = i.had;
        outs = i.outs;
        out_is = i.out_is;
        room = omega arith;
        splits = i.splits;
      }

  -- the rows are leased for a stream
  module _ (v : View P) (out : List ℕ) (j : ℕ) (i : IsHost v out 8 0 j) where
    pub none_lent : v ≡ with_lent v j 0
    none_lent = ap (λ l. let z : View P = record v { pairs = l } in z) i.pairs

    pub host_leases : (m : ℕ) → m < 8 → CanLease (with_lent v j m) j m
    host_leases m lt = (
      i.main,
      row_held m v.opened (run 0 8) i.opened (among_run 8 0 m (omega arith) (omega arith)),
      (λ a. let b = (lent_below j 0 m j m a).2 in omega arith),
      (λ e. outer_inner j (sym i.by ∙ e)),
      (λ a. let b = i.had j a in omega arith),
      not_leased v.events i.past j (omega arith),
    )

    pub one_more_lent : (m : ℕ) → leased (with_lent v j m) j m ≡ with_lent v j (m + 1)
    one_more_lent m = ap (λ l. let z : View P = record v { pairs = l } in z) (ap (λ (k : ℕ). let x : ℕ × ℕ = (j, k) in lent j 0 m ++ x ∷ []) (let e : m ≡ 0 + m = omega arith in e) ∙ (lent_snoc j 0 m ∙ ap (λ k. lent j 0 k) (let e : suc m ≡ m + 1 = omega arith in e)))

    abbrev lending : View P
    lending = with_lent v j 8

    covers : (r : ℕ) → IsAmong (j, r) (lent j 0 8) ↔ IsCoveredBy v.events v.by 0 r
    covers r = (
      (λ a. let b = (lent_below j 0 8 j r a).2 in let x = i.rows r (omega arith) (omega arith) in (r + 1, x.1, inl x.0, not_closed v.events i.past v.by (r + 1) (omega arith))),
      (λ c. let q = (past_note v.events i.past v.by (Acquire r c.0) c.1).0 in among_lent j 0 8 r (omega arith) (omega arith)),
    )

    pub host_notes : 1 ≤ j → j ≤ 8 → MayNote lending (Lease j 0) × (1 ≤ lending.spare)
    host_notes from most = let room = i.room in ((i.main, (λ e. outer_inner j (sym i.by ∙ e)), (λ a. let b = i.had j a in omega arith), not_leased v.events i.past j (omega arith), (inl refl, root_open v.events i.past v.by), covers), omega arith)

    module _ (from : 1 ≤ j) (most : j ≤ 8) (n : ℕ) where
      abbrev pub lent_out : View P
      lent_out = with_note lending n (Lease j 0)

      fresh_still : (r : ℕ) → IsAmong r v.empty → ¬ (IsAcquired lent_out.events r)
      fresh_still r a b = i.fresh r a (acquired_before v.events _ r b refl)

      pub host_splits : CanSplit lent_out j (64 * j - 56) (64 * j - 56 + 64) 265
      host_splits = let room = i.room in let splits = i.splits in (
        i.main,
        (λ e. outer_inner j (sym i.by ∙ e)),
        (λ a. let b = i.had j a in omega arith),
        (λ r w. let x = w.0 in let y = w.1 in let m = i.empty r (omega arith) (omega arith) in (m, fresh_still r m)),
        omega arith,
        omega arith,
        (λ r a. (v.by, 0, last_note lending n (Lease j 0))),
      )

      out_of : (x y r : ℕ) → y ≤ r → within x y r ≡ false
      out_of x y r l = (elim (leb x r) as (λ c. cond c (ltb r y) false ≡ false) [ true ↦ le-ltb r y l | false ↦ refl ])

      pub host_after : IsHost (split_main lent_out j (64 * j - 56) (64 * j - 56 + 64) 265) (out ++ j ∷ []) 8 0 (j + 1)
      host_after = let room = i.room in let splits = i.splits in record {
        main = i.main;
        by = i.by;
        past = grow v.events i.past 8 8 (j + 1) 0 (omega arith) (omega arith) (omega arith) (omega arith) (record { stamp = n; by = v.by; what = Lease j 0 }) (omega arith);
        rows = λ r a b. let x = i.rows r a b in (more_notes _ x.0, more_notes _ x.1);
        opened = i.opened;
        pairs = lent_none j 0 8;
        kept = ap (λ l. without j (l ++ j ∷ [])) i.kept ∙ none_left j;
        handed = i.handed;
        taken = i.taken;
        fresh = λ r a b. fresh_still r (among_filter (λ (x : ℕ). not (within (64 * j - 56) (64 * j - 56 + 64) x)) r v.empty a).0 b;
        common = λ r a b. absurd (omega arith);
        empty = λ r a b. filter_among (λ (x : ℕ). not (within (64 * j - 56) (64 * j - 56 + 64) x)) r v.empty (i.empty r (omega arith) b) (ap not (out_of (64 * j - 56) (64 * j - 56 + 64) r (omega arith)));
        had = λ k m. ⊎_elim (λ x. let l = i.had k x in omega arith) (λ e. omega arith) (among_snoc v.had k j m);
        outs = λ k m. ⊎_elim (λ x. let l = i.outs k x in omega arith) (λ e. omega arith) (among_snoc v.out k j m);
        out_is = ap (λ l. l ++ j ∷ []) i.out_is;
        room = omega arith;
        splits = omega arith;
      }

      pub guest_lives : IsLiving (split_off lent_out j (64 * j - 56) (64 * j - 56 + 64) 265) j (64 * j - 56)
      guest_lives = record {
        from = omega arith;
        side = refl;
        by = refl;
        past = λ x m. absurd (among_nil m);
        opened = refl;
        pairs = lent_mine j 0 8;
        kept = ap (λ l. filter (λ x. eqb x j) (l ++ j ∷ [])) i.kept ∙ one_kept j;
        handed = refl;
        taken = refl;
        fresh = λ r m a. among_nil a.2.1;
        empty = λ r a b. among_run (64 * j - 56 + 64 - (64 * j - 56)) (64 * j - 56) r a (omega arith);
        final = λ r s a. absurd (among_nil a.1);
        room = omega arith;
      }

  -- one more of the rows is closed
  module _ (v : View P) (out : List ℕ) (k j : ℕ) (lt : k < 8) (i : IsHost v out 8 k j) where
    pub host_shuts : CanShutRow v k
    host_shuts = let room = i.room in let x = i.rows k (omega arith) lt in (
      row_held k v.opened (run k (8 - k)) i.opened (among_run (8 - k) k k (omega arith) (omega arith)),
      x.1,
      (inr (0, x.0), not_closed v.events i.past v.by (k + 1) (omega arith)),
      (λ n m. absurd (among_nil (subst (λ l. IsAmong (n, k) l) i.pairs m))),
      (λ m. among_nil (subst (λ l. IsAmong k l) i.taken m)),
      omega arith,
    )

    rows_left : keys_of (without_row k v.opened) ≡ run (k + 1) (8 - (k + 1))
    rows_left = rows_without k v.opened ∙ (ap (λ l. without_one k l) (i.opened ∙ ap (λ q. run k q) (let e : 8 - k ≡ suc (8 - (k + 1)) = omega arith in e)) ∙ (run_without k (8 - (k + 1)) ∙ ap (λ q. run q (8 - (k + 1))) (let e : suc k ≡ k + 1 = omega arith in e)))

    module _ (s : ℕ) (p : P) where
      abbrev closing : View P
      closing = with_note v s (Close (k + 1) Succeeded)

      past_close : AllPast closing 8 8 j (k + 1)
      past_close = grow v.events i.past 8 8 j (k + 1) (omega arith) (omega arith) (omega arith) (omega arith) (record { stamp = s; by = v.by; what = Close (k + 1) Succeeded }) (omega arith, omega arith)

      shut_stays : IsHost (shut closing k p) out 8 (k + 1) j
      shut_stays = let room = i.room in record {
        main = i.main;
        by = i.by;
        past = past_close;
        rows = λ r a b. let x = i.rows r (omega arith) b in (more_notes _ x.0, more_notes _ x.1);
        opened = rows_left;
        pairs = i.pairs;
        kept = i.kept;
        handed = i.handed;
        taken = i.taken;
        fresh = λ r a b. i.fresh r a (acquired_before v.events _ r b refl);
        common = λ r a b. absurd (omega arith);
        empty = i.empty;
        had = i.had;
        outs = i.outs;
        out_is = i.out_is;
        room = omega arith;
        splits = i.splits;
      }

      shut_ends : (m : ℕ) (ok : Bool) → IsHost (with_note (took (handed_over (shut closing k p) k p) k) m (Final k Succeeded ok)) out 8 (k + 1) j
      shut_ends m ok = let room = i.room in record {
        main = i.main;
        by = i.by;
        past = grow closing.events past_close 8 8 j (k + 1) (omega arith) (omega arith) (omega arith) (omega arith) (record { stamp = m; by = v.by; what = Final k Succeeded ok }) tt;
        rows = λ r a b. let x = i.rows r (omega arith) b in (more_notes _ (more_notes _ x.0), more_notes _ (more_notes _ x.1));
        opened = rows_left;
        pairs = i.pairs;
        kept = i.kept;
        handed = ap (λ l. without k (l ++ k ∷ [])) i.handed ∙ none_left k;
        taken = ap (λ l. without k (l ++ k ∷ [])) i.taken ∙ none_left k;
        fresh = λ r a b. i.fresh r a (acquired_before v.events _ r (acquired_before closing.events _ r b refl) refl);
        common = λ r a b. absurd (omega arith);
        empty = i.empty;
        had = i.had;
        outs = i.outs;
        out_is = i.out_is;
        room = omega arith;
        splits = i.splits;
      }

    pub host_shut : (w : View P) → ShutsRow v k w → IsHost w out 8 (k + 1) j
    host_shut w x = ⊎_elim
        (λ stays. subst (λ u. IsHost u out 8 (k + 1) j) (sym stays.2) (shut_stays x.0 stays.0))
        (λ ends. let y = ends.1 in let z = ends.2 in
        let f : View P → View P = λ u. with_note (took u k) z.1.0 (Final k Succeeded z.0) in
        subst (λ u. IsHost u out 8 (k + 1) j) (sym (z.1.1 ∙ ap f y.2)) (shut_ends x.0 y.0 z.1.0 z.0))
        x.1

  pub host_gathers : (v : View P) (out : List ℕ) (j : ℕ) → IsHost v out 8 8 j → IsGathered v out
  host_gathers v out j i = record { main = i.main; by = i.by; rest = (keys_nil v.opened i.opened, i.fresh, i.pairs, i.kept, i.handed, i.taken); out_is = i.out_is }

  -- the seat of a stream is taken in
  module _ (v w : View P) (out : List ℕ) (j : ℕ) (i : IsGathered v (out ++ j ∷ [])) (r : IsRested w j) where
    pub may_gather : CanJoin v w
    may_gather = (i.main, (j, r.by, subst (λ l. IsAmong j l) (sym i.out_is) (among_last out j)), r.rest)

    pub gathers : ¬ (IsAmong j out) → AreApart v w → IsGathered (joined v w) out
    gathers not apart = record {
      main = i.main;
      by = i.by;
      rest = (i.rest.0, fresh, i.rest.2, i.rest.3, i.rest.4, i.rest.5);
      out_is = ap (λ k. without k v.out) (ap name_of r.by) ∙ (ap (λ l. without j l) i.out_is ∙ without_last j out not);
    }
      where
        whose : (q : ℕ) → IsAcquired (v.events ++ w.events) q → IsAcquired v.events q ⊎ IsAcquired w.events q
        whose q a = let n = a.2 in ⊎_elim (λ x. inl (a.0, a.1, (n.0, x, n.2, n.3))) (λ x. inr (a.0, a.1, (n.0, x, n.2, n.3))) (among_append n.0 v.events w.events n.1)

        fresh : (q : ℕ) → IsAmong q (v.empty ++ w.empty) → ¬ (IsAcquired (v.events ++ w.events) q)
        fresh q m a = ⊎_elim
            (λ x. ⊎_elim (λ b. i.rest.1 q x b) (λ b. i.rest.1 q x (apart.kept q x b)) (whose q a))
            (λ x. ⊎_elim (λ b. r.rest.1 q x (apart.taken q x b)) (λ b. r.rest.1 q x b) (whose q a))
            (among_append q v.empty w.empty m)
