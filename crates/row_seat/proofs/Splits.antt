-- A seat is split off.
use Rattle.std.proofs.Common.{◌≡◌, ◌≢◌, ℕ, suc, ◌+◌, ◌-◌, ◌^◌, ◌<◌, ◌≤◌, ◌⊎◌, true, false, not, cond, eqb, leb, ltb, filter, map, List, [], ◌∷◌, ◌++◌, length, slice_set, inl, inr, refl, sym, ap, ◌∙◌, subst, ⊎_elim, arith, ne_eqb, eq-eqb}
use Rattle.std.specs.Prelude.{Some, Option}
use Rattle.std.proofs.lemmas.Bool.{cases_eq, le-leb, lt-leb, lt-ltb, le-ltb, leb-true, leb-false, cases_Bool}
use Rattle.res_ledger.specs.declared.event.What.TheVariants.{Acquire, Lease}
use Rattle.row_seat.specs.Totals.{IsAt, pair_times, row_times, stamp_times, times}
use Rattle.row_seat.specs.Rule.{Book, BooksAgree, OwnershipsAgree, GivenIn, Hold, LeasesAgree, LeftIn, PaysAgree, Purse, RowsAgree, IsBlankView, IsSeated, RuleHolds, SeatsAgree, Who, Holdings, book, ownership, empties, hands, hold, leases, open_count, purse, who, work}
use Rattle.res_ledger.specs.Ledger.{Covers, IsAcquired, IsCanceled, IsLeased, Notes}
use Rattle.res_ledger.specs.declared.event.Event.{Event}
use Rattle.res_ledger.specs.Streams.{HasRight, by_stream}
use Rattle.res_ledger.specs.declared.event.StreamNo.TheVariants.{Inner}
use Rattle.chunk_core.specs.Lists.{IsAmong}
use Rattle.res_ledger.specs.declared.event.StreamNo.{StreamNo}
use Rattle.row_seat.specs.declared.token.Token.{Token}
use Rattle.row_seat.specs.Views.{next_stamp, run, within}
use Rattle.chunk_core.proofs.Members.{among_cons, among_last, among_left, among_nil, among_snoc}
use Rattle.chunk_core.proofs.Filters.{among_filter, bool_not, filter_among}
use Rattle.row_seat.proofs.Members.{all_there, among_kept, among_without, length_cut}
use Rattle.row_seat.proofs.Ticked.{at_book, at_ownership, at_hold, at_purse, at_who, at_work, live_not}
use Rattle.res_ledger.proofs.Ledgers.{by_none, inner_is, stamp_below}
use Rattle.row_seat.proofs.Changes.{each_more, map_more, more_here, some_less, some_more, sorted, total_more}
use Rattle.chunk_core.specs.Lists.IsAmong.{here, there}
use Rattle.row_seat.proofs.Parts.{pays_same}
use Rattle.row_seat.proofs.Times.{if_so, pair_cut, row_cut, run_in, run_out, times_cut, times_filter, times_some}
use Rattle.row_seat.proofs.Tick.{one_empty, stands_is}
use Rattle.row_seat.specs.Steps.{split_main, split_off}
use Rattle.row_seat.proofs.Totals.{total_at}

pub above_le : (L : List Event) (n : ℕ) → ((e : Event) → IsAmong e L → e.stamp < n) → next_stamp L ≤ n
above_le [] n h = omega arith
above_le (e ∷ L) n h = let t = above_le L n (λ x m. h x (there e m)) in let s = h e (here L) in elim (leb (suc e.stamp) (next_stamp L)) as (λ b. cond b (next_stamp L) (suc e.stamp) ≤ n) [ true ↦ t | false ↦ omega arith ]

pub above_each : (L : List Event) (e : Event) → IsAmong e L → e.stamp < next_stamp L
above_each [] e m = absurd (among_nil m)
above_each (x ∷ L) e m = let k : e.stamp < next_stamp L ⊎ (e ≡ x) = ⊎_elim (λ s. inr s) (λ n. inl (above_each L e n)) (among_cons m) in
    (elim (leb (suc x.stamp) (next_stamp L)) as (λ b. leb (suc x.stamp) (next_stamp L) ≡ b → e.stamp < cond b (next_stamp L) (suc x.stamp)) [
      | true ↦ λ t. let l = leb-true (suc x.stamp) (next_stamp L) t in ⊎_elim (λ s. s) (λ s. let q : e.stamp ≡ x.stamp = ap (λ (y : Event). y.stamp) s in omega arith) k
      | false ↦ λ f. let l = leb-false (suc x.stamp) (next_stamp L) f in ⊎_elim (λ s. omega arith) (λ s. let q : e.stamp ≡ x.stamp = ap (λ (y : Event). y.stamp) s in omega arith) k
    ]) refl

pub within_in : (from to r : ℕ) → from ≤ r → r < to → within from to r ≡ true
within_in from to r a b = subst (λ c. cond c (ltb r to) false ≡ true) (sym (le-leb from r a)) (lt-ltb r to b)

within_out : (from to r : ℕ) → (r < from) ⊎ (to ≤ r) → within from to r ≡ false
within_out from to r h = ⊎_elim (λ a. subst (λ c. cond c (ltb r to) false ≡ false) (sym (lt-leb from r a)) refl) (λ b. elim (leb from r) as (λ c. cond c (ltb r to) false ≡ false) [ true ↦ le-ltb r to b | false ↦ refl ]) h

pub span_cases : (from to r : ℕ) → ((from ≤ r) × (r < to)) ⊎ ((r < from) ⊎ (to ≤ r))
span_cases from to r = (elim (leb from r) as (λ b. leb from r ≡ b → ((from ≤ r) × (r < to)) ⊎ ((r < from) ⊎ (to ≤ r))) [
  | true ↦ λ e. (elim (leb to r) as (λ c. leb to r ≡ c → ((from ≤ r) × (r < to)) ⊎ ((r < from) ⊎ (to ≤ r))) [ true ↦ λ f. inr (inr (leb-true to r f)) | false ↦ λ f. inl (leb-true from r e, leb-false to r f) ]) refl
  | false ↦ λ e. inr (inl (leb-false from r e))
]) refl

pub far_or : (from to r : ℕ) → to ≤ r → (r < from) ⊎ (from + (to - from) ≤ r)
far_or from to r h = (elim (leb from r) as (λ b. leb from r ≡ b → (r < from) ⊎ (from + (to - from) ≤ r)) [ true ↦ λ e. let l = leb-true from r e in inr (omega arith) | false ↦ λ e. inl (leb-false from r e) ]) refl

pub in_run : (from to r : ℕ) → IsAmong r (run from (to - from)) → (from ≤ r) × (r < to)
in_run from to r m = let t = times_some r (run from (to - from)) m in ⊎_elim (λ s. s) (λ s. let i = run_out r from (to - from) (⊎_elim (λ a. inl a) (λ b. far_or from to r b) s) in absurd (omega arith)) (span_cases from to r)

-- the numbers of a span leave the list
pub run_fits : (from to : ℕ) (xs : List ℕ) → ((r : ℕ) → (from ≤ r) × (r < to) → IsAmong r xs) → length (filter (λ r. not (within from to r)) xs) + (to - from) ≤ length xs
run_fits from to xs h = let c = length_cut (within from to) xs in
    let t = all_there from (to - from) (filter (within from to) xs) (λ r a b. let b' : r < to = omega arith in filter_among (within from to) r xs (h r (a, b')) (within_in from to r a b')) in omega arith

is_eq : (a j : ℕ) → eqb a j ≡ true → a ≡ j
is_eq a j e = ⊎_elim (λ s. s) (λ ne. absurd (bool_not (sym e ∙ ne_eqb a j ne))) (cases_eq a j)

module _ {P : Type 0} {rows room : ℕ} {word : ℕ → ℕ} {slot : ℕ → Option P} {log : List Event} {views : List (Token P)} (rule : RuleHolds rows room word slot log views) {id : ℕ} {v : Token P} (seat : IsSeated views id v)
    (j from to n : ℕ) (main : v.main ≡ true) (foreign : v.by ≢ Inner j) (no_seat : ¬ (IsAmong j v.had)) (IsWithin : (r : ℕ) → (from ≤ r) × (r < to) → IsAmong r v.empty × ¬ (IsAcquired v.events r)) (enough : n ≤ v.spare) (named : (r : ℕ) → IsAmong (j, r) v.pairs → IsLeased v.events j) where
  open seat use {at, live}

  aw : IsAt (map who views) id (who v)
  aw = at_who rule seat

  ab : IsAt (map book views) id (book v)
  ab = at_book rule seat

  ak : IsAt (map work views) id (work v)
  ak = at_work rule seat

  ad : IsAt (map ownership views) id (ownership v)
  ad = at_ownership rule seat

  ah : IsAt (map hold views) id (hold v)
  ah = at_hold rule seat

  ap' : IsAt (map purse views) id (purse v)
  ap' = at_purse rule seat

  abbrev ma : Token P
  ma = split_main v j from to n

  abbrev nb : Token P
  nb = split_off v j from to n

  no_event : (e : Event) → IsAmong e log → e.by ≢ Inner j
  no_event e m is = let t = rule.seats.noted id (who v) e aw main m (λ s. foreign (sym s ∙ is)) in no_seat (subst (λ x. IsAmong x v.had) (inner_is t.0 j (sym t.1 ∙ is)) t.2)

  -- a live seat has another name
  other_name : (i : ℕ) (u : Who) → i ≢ id → IsAt (map who views) i u → u.live ≡ true → u.by ≢ Inner j
  other_name i u ne g l is = ⊎_elim
      (λ m. ne (rule.seats.one i id u (who v) g aw m main))
      (λ f. let t = rule.seats.out id i (who v) u aw g main l f in no_seat (subst (λ x. IsAmong x v.had) (inner_is t.0 j (sym t.1 ∙ is)) (rule.seats.had id t.0 (who v) aw main t.2)))
      (cases_Bool u.main)

  seats' : SeatsAgree log (slice_set (map who views) id (who ma) ++ who nb ∷ [])
  seats' = let ws = map who views in let k = rule.seats in
      let only : (i : ℕ) (u : Who) → IsAt (slice_set ws id (who ma) ++ who nb ∷ []) i u → u.main ≡ true → (i ≡ id) × (who ma ≡ u) = λ i u g m.
      ⊎_elim (λ t. t) (λ o. ⊎_elim (λ t. absurd (t.0 (k.one i id u (who v) t.1 aw m main))) (λ t. absurd (live_not m (ap (λ (z : Who). z.main) (sym t.1)))) o) (sorted ws id (who v) (who ma) (who nb) aw i u g) in record {
        main = (id, who ma, more_here ws id (who v) (who ma) (who nb) aw, main);
        one = λ i l u z g g' m m'. (only i u g m).0 ∙ sym (only l z g' m').0;
        alive = λ i u g m. ap (λ (z : Who). z.live) (sym (only i u g m).1) ∙ live;
        out = λ i l u z g g' m lv f. subst (λ (y : Who). (x : ℕ) × (z.by ≡ Inner x) × IsAmong x y.out) (only i u g m).1
            (⊎_elim (λ t. absurd (live_not main (ap (λ (y : Who). y.main) t.1 ∙ f)))
            (λ o. ⊎_elim (λ t. let s = k.out id l (who v) z aw t.1 main lv f in (s.0, s.1, among_left (j ∷ []) s.2)) (λ t. (j, ap (λ (y : Who). y.by) (sym t.1), among_last v.out j)) o)
            (sorted ws id (who v) (who ma) (who nb) aw l z g'));
        had = λ i x u g m a. subst (λ (y : Who). IsAmong x y.had) (only i u g m).1
            (⊎_elim (λ o. among_left (j ∷ []) (k.had id x (who v) aw main o)) (λ e. subst (λ y. IsAmong y (v.had ++ j ∷ [])) (sym e) (among_last v.had j)) (among_snoc v.out x j (subst (λ (y : Who). IsAmong x y.out) (sym (only i u g m).1) a)));
        apart = λ i x u g m a. subst (λ (y : Who). y.by ≢ Inner x) (only i u g m).1
            (⊎_elim (λ o. k.apart id x (who v) aw main o) (λ e s. foreign (s ∙ ap Inner e)) (among_snoc v.had x j (subst (λ (y : Who). IsAmong x y.had) (sym (only i u g m).1) a)));
        names = λ i l u z g g'. each_more ws id (who v) (who ma) (who nb) aw (λ i u. u.live ≡ true → z.live ≡ true → u.by ≡ z.by → i ≡ l)
            (each_more ws id (who v) (who ma) (who nb) aw (λ l z. v.live ≡ true → z.live ≡ true → v.by ≡ z.by → id ≡ l) (λ a b c. refl) (λ l z ne h. k.names id l (who v) z aw h) (λ a b c. absurd (foreign c)) l z g')
            (λ i u ne h. each_more ws id (who v) (who ma) (who nb) aw (λ l z. u.live ≡ true → z.live ≡ true → u.by ≡ z.by → i ≡ l) (k.names i id u (who v) h aw) (λ l z ne' h'. k.names i l u z h h') (λ a b c. absurd (other_name i u ne h a c)) l z g')
            (each_more ws id (who v) (who ma) (who nb) aw (λ l z. true ≡ true → z.live ≡ true → Inner j ≡ z.by → length ws ≡ l) (λ a b c. absurd (foreign (sym c))) (λ l z ne h a b c. absurd (other_name l z ne h b (sym c))) (λ a b c. refl) l z g')
            i u g;
        noted = λ i u e g m a ne. subst (λ (y : Who). (x : ℕ) × (e.by ≡ Inner x) × IsAmong x y.had) (only i u g m).1
            (let t = k.noted id (who v) e aw main a (λ s. ne (s ∙ ap (λ (y : Who). y.by) (only i u g m).1)) in (t.0, t.1, among_left (j ∷ []) t.2));
      }

  books' : BooksAgree room log (slice_set (map book views) id (book ma) ++ book nb ∷ [])
  books' = let bs = map book views in let k = rule.books in let E = each_more bs id (book v) (book ma) (book nb) ab in record {
    stamped = k.stamped;
    legal = k.legal;
    sum = let t = total_more bs id (book v) (book ma) (book nb) ab (λ (u : Book). u.spare) in let o = k.sum in let l = total_at (λ (u : Book). u.spare) bs id (book v) ab in omega arith;
    inside = λ i u e. E (λ i u. IsAmong e u.events → IsAmong e log) (k.inside id (book v) e ab) (λ i u ne g. k.inside i u e g) (λ m. absurd (among_nil m)) i u;
    whole = λ e m. some_more bs id (book v) (book ma) (book nb) ab (λ (u : Book). IsAmong e u.events) (λ a. inl a) (k.whole e m);
    once = λ n. let t = total_more bs id (book v) (book ma) (book nb) ab (λ (u : Book). stamp_times n u.events) in let o = k.once n in omega arith;
    one = λ i l u w c d g h. E (λ i u. IsAmong c u.events → IsAmong d w.events → c.by ≡ d.by → i ≡ l)
        (E (λ l w. IsAmong c v.events → IsAmong d w.events → c.by ≡ d.by → id ≡ l) (λ x y s. refl) (λ l w ne h. k.one id l (book v) w c d ab h) (λ x y. absurd (among_nil y)) l w h)
        (λ i u ne g. E (λ l w. IsAmong c u.events → IsAmong d w.events → c.by ≡ d.by → i ≡ l) (k.one i id u (book v) c d g ab) (λ l w ne' h. k.one i l u w c d g h) (λ x y. absurd (among_nil y)) l w h)
        (λ x. absurd (among_nil x)) i u g;
    order = λ i u e. E (λ i u. IsAmong e u.events → by_stream e.by u.events ≡ by_stream e.by log) (k.order id (book v) e ab) (λ i u ne g. k.order i u e g) (λ m. absurd (among_nil m)) i u;
    own = E (λ i u. u.live ≡ true → by_stream u.by u.events ≡ by_stream u.by log) (k.own id (book v) ab) (λ i u ne g. k.own i u g) (λ l. sym (by_none (Inner j) log no_event));
    pure = λ i u e. E (λ i u. u.main ≡ false → IsAmong e u.events → e.by ≡ u.by) (k.pure id (book v) e ab) (λ i u ne g. k.pure i u e g) (λ f m. absurd (among_nil m)) i u;
    floor = E (λ i u. u.floor ≤ length log) (k.floor id (book v) ab) (λ i u ne g. k.floor i u g) (above_le v.events (length log) (λ e m. stamp_below log e k.stamped (k.inside id (book v) e ab m)));
    above = λ i u e. E (λ i u. IsAmong e u.events → e.by ≡ u.by → u.floor ≤ e.stamp) (k.above id (book v) e ab) (λ i u ne g. k.above i u e g) (λ m. absurd (among_nil m)) i u;
  }

  -- the rows are divided, none is lost
  cut_rows : (r : ℕ) → times r (filter (λ x. not (within from to x)) v.empty) + times r (run from (to - from)) ≡ times r v.empty
  cut_rows r = let f = times_filter (λ x. not (within from to x)) r v.empty in ⊎_elim
      (λ s. let w = ap (λ b. if_so (not b) (times r v.empty)) (within_in from to r s.0 s.1) in let s0 = s.0 in let s1 = s.1 in
      let i = run_in r from (to - from) s.0 (omega arith) in let o = times_some r v.empty (IsWithin r s).0 in
      let l = total_at (λ (u : Holdings). times r u.empty) (map work views) id (work v) ak in let m = one_empty (rule.words r) in omega arith)
      (λ s. let w = ap (λ b. if_so (not b) (times r v.empty)) (within_out from to r s) in
      let i = run_out r from (to - from) (⊎_elim (λ a. inl a) (λ b. far_or from to r b) s) in omega arith)
      (span_cases from to r)

  words' : RowsAgree rows word log (slice_set (map work views) id (work ma) ++ work nb ∷ [])
  words' r = let ws = map work views in let T = total_more ws id (work v) (work ma) (work nb) ak in
      let a = T (λ (u : Holdings). times r u.empty) in let b = T (λ (u : Holdings). times r u.opened) in let c = T (λ (u : Holdings). row_times r u.pairs) in let d = T (λ (u : Holdings). times r u.handed) in
      let ca = cut_rows r in let cc' = row_cut (λ x. eqb x.0 j) r v.pairs in
      let ea : empties r ws ≡ empties r (slice_set ws id (work ma) ++ work nb ∷ []) = omega arith in
      let eb : open_count r ws ≡ open_count r (slice_set ws id (work ma) ++ work nb ∷ []) = omega arith in
      let ec : leases r ws ≡ leases r (slice_set ws id (work ma) ++ work nb ∷ []) = omega arith in
      let ed : hands r ws ≡ hands r (slice_set ws id (work ma) ++ work nb ∷ []) = omega arith in
      stands_is (rule.words r) refl ea eb ec ed

  ownerships' : OwnershipsAgree log (slice_set (map ownership views) id (ownership ma) ++ ownership nb ∷ [])
  ownerships' = let ds = map ownership views in let k = rule.ownerships in let E = each_more ds id (ownership v) (ownership ma) (ownership nb) ad in record {
    fresh = λ i r t q u. E (λ i u. IsAmong r u.empty → Notes log q (Acquire r t) → Notes u.events q (Acquire r t))
        (λ m. k.fresh id r t q (ownership v) ad (among_filter (λ x. not (within from to x)) r v.empty m).0) (λ i u ne g. k.fresh i r t q u g)
        (λ m x. let s = IsWithin r (in_run from to r m) in absurd (s.1 (q, t, k.fresh id r t q (ownership v) ad s.0 x))) i u;
    opened = λ i r u. E (λ i u. IsAmong r u.opened → (s : ℕ) × Notes log u.by (Acquire r s)) (k.opened id r (ownership v) ad) (λ i u ne g. k.opened i r u g) (λ m. absurd (among_nil m)) i u;
    handed = λ i r u. E (λ i u. IsAmong r u.handed → HasRight log u.by r) (k.handed id r (ownership v) ad) (λ i u ne g. k.handed i r u g) (λ m. absurd (among_nil m)) i u;
  }

  leased_log : IsLeased v.events j → IsLeased log j
  leased_log l = (l.0, l.1, (l.2.0, rule.books.inside id (book v) l.2.0 ab l.2.1, l.2.2, l.2.3))

  leases' : LeasesAgree log (slice_set (map hold views) id (hold ma) ++ hold nb ∷ [])
  leases' = let hs = map hold views in let k = rule.leases in let E = each_more hs id (hold v) (hold ma) (hold nb) ah in
      let S = some_more hs id (hold v) (hold ma) (hold nb) ah in let T = total_more hs id (hold v) (hold ma) (hold nb) ah in record {
        by_main = λ i a b q u. E (λ i u. u.main ≡ true → Notes log q (Lease a b) → q ≡ u.by) (k.by_main id a b q (hold v) ah) (λ i u ne g. k.by_main i a b q u g) (λ m. absurd (bool_not (sym m))) i u;
        stand = λ a r q c. ⊎_elim (λ x. inl x)
            (λ x. inr (S (λ (u : Hold). IsAmong (a, r) u.pairs) (λ m. ⊎_elim (λ e. inr (filter_among (λ (x : ℕ × ℕ). eqb x.0 j) (a, r) v.pairs m (eq-eqb a j e))) (λ ne. inl (filter_among (λ (x : ℕ × ℕ). not (eqb x.0 j)) (a, r) v.pairs m (ap not (ne_eqb a j ne)))) (cases_eq a j)) x))
            (k.stand a r q c);
        paired = λ i a r u. E (λ i u. IsAmong (a, r) u.pairs → ((q : StreamNo) × Covers log a q r) ⊎ (¬ (IsLeased log a) × (u.main ≡ true) × IsAmong r u.opened))
            (λ m. k.paired id a r (hold v) ah (among_filter (λ (x : ℕ × ℕ). not (eqb x.0 j)) (a, r) v.pairs m).0) (λ i u ne g. k.paired i a r u g)
            (λ m. let t = among_filter (λ (x : ℕ × ℕ). eqb x.0 j) (a, r) v.pairs m in let e = is_eq a j t.1 in
            ⊎_elim (λ o. inl o) (λ o. absurd (o.0 (subst (λ x. IsLeased log x) (sym e) (leased_log (named r (subst (λ (x : ℕ). IsAmong (x, r) v.pairs) e t.0)))))) (k.paired id a r (hold v) ah t.0)) i u;
        holder = λ i a r u. E (λ i u. IsAmong (a, r) u.pairs → ((u.main ≡ true) × ¬ (IsAmong a u.had)) ⊎ (u.by ≡ Inner a)) (λ m. let t = among_filter (λ (x : ℕ × ℕ). not (eqb x.0 j)) (a, r) v.pairs m in ⊎_elim (λ o. inl (o.0, λ y. ⊎_elim o.1 (λ e. bool_not (sym t.1 ∙ ap not (eq-eqb a j e))) (among_snoc v.had a j y))) (λ o. inr o) (k.holder id a r (hold v) ah t.0)) (λ i u ne g. k.holder i a r u g)
            (λ m. let t = among_filter (λ (x : ℕ × ℕ). eqb x.0 j) (a, r) v.pairs m in inr (ap Inner (sym (is_eq a j t.1)))) i u;
        kept = λ i a u. E (λ i u. IsAmong a u.kept → IsLeased log a × ¬ (IsCanceled log a) × (((u.main ≡ true) × ¬ (IsAmong a u.had)) ⊎ (u.by ≡ Inner a)))
            (λ m. let t = among_without j v.kept a m in let o = k.kept id a (hold v) ah t.0 in (o.0, o.1, ⊎_elim (λ x. inl (x.0, λ y. ⊎_elim x.1 t.1 (among_snoc v.had a j y))) (λ x. inr x) o.2))
            (λ i u ne g. k.kept i a u g)
            (λ m. let t = among_filter (λ x. eqb x j) a v.kept m in let o = k.kept id a (hold v) ah t.0 in (o.0, o.1, inr (ap Inner (sym (is_eq a j t.1))))) i u;
        keeper = λ a l. ⊎_elim (λ c. inl c)
            (λ x. inr (S (λ (u : Hold). IsAmong a u.kept) (λ m. ⊎_elim (λ e. inr (filter_among (λ x. eqb x j) a v.kept m (eq-eqb a j e))) (λ ne. inl (among_kept j v.kept a m ne)) (cases_eq a j)) x)) (k.keeper a l);
        kept_once = λ a. let t = T (λ (u : Hold). times a u.kept) in let o = k.kept_once a in let c = times_cut (λ x. eqb x j) a v.kept in omega arith;
        pair_once = λ a r. let t = T (λ (u : Hold). pair_times a r u.pairs) in let o = k.pair_once a r in let c = pair_cut (λ x. eqb x.0 j) a r v.pairs in omega arith;
      }

  pays' : PaysAgree word slot log (slice_set (map purse views) id (purse ma) ++ purse nb ∷ [])
  pays' = let ps = map purse views in let k = rule.pays in let qs = slice_set ps id (purse ma) ++ purse nb ∷ [] in
      let left : (q : ℕ) (y : P) → LeftIn qs q y → LeftIn ps q y = λ q y. some_less ps id (purse v) (purse ma) (purse nb) ap' (λ (u : Purse P). IsAmong (q, y) u.left) (λ m. m) (λ m. among_nil m) in
      let left' : (q : ℕ) (y : P) → LeftIn ps q y → LeftIn qs q y = λ q y. some_more ps id (purse v) (purse ma) (purse nb) ap' (λ (u : Purse P). IsAmong (q, y) u.left) (λ m. inl m) in
      let given : (q : ℕ) (y : P) → GivenIn qs q y → GivenIn ps q y = λ q y. some_less ps id (purse v) (purse ma) (purse nb) ap' (λ (u : Purse P). IsAmong (q, y) u.given) (λ m. m) (λ m. among_nil m) in
      let given' : (q : ℕ) (y : P) → GivenIn ps q y → GivenIn qs q y = λ q y. some_more ps id (purse v) (purse ma) (purse nb) ap' (λ (u : Purse P). IsAmong (q, y) u.given) (λ m. inl m) in
      pays_same k left left' given (λ q m e le. refl)
      (λ i q u. each_more ps id (purse v) (purse ma) (purse nb) ap' (λ i u. IsAmong q u.handed → (y : P) × IsAmong (q, y) u.given × (¬ (IsAmong q u.taken) → slot q ≡ Some y)) (k.handed id q (purse v) ap') (λ i u ne g. k.handed i q u g) (λ m. absurd (among_nil m)) i u)
      (λ q f. let t = k.final q f in (t.0, given' q t.0 t.1))

  pub split_keeps : RuleHolds rows room word slot log (slice_set views id (split_main v j from to n) ++ split_off v j from to n ∷ [])
  split_keeps = record {
    seats = subst (λ l. SeatsAgree log l) (sym (map_more who views id ma nb)) seats';
    books = subst (λ l. BooksAgree room log l) (sym (map_more book views id ma nb)) books';
    words = subst (λ l. RowsAgree rows word log l) (sym (map_more work views id ma nb)) words';
    ownerships = subst (λ l. OwnershipsAgree log l) (sym (map_more ownership views id ma nb)) ownerships';
    leases = subst (λ l. LeasesAgree log l) (sym (map_more hold views id ma nb)) leases';
    pays = subst (λ l. PaysAgree word slot log l) (sym (map_more purse views id ma nb)) pays';
    taken_in = each_more views id v ma nb at (λ i u. u.live ≡ false → IsBlankView u) (λ f. absurd (live_not live f)) (λ i u ne g. rule.taken_in i u g) (λ f. absurd (bool_not f));
    small = λ i q r u. each_more views id v ma nb at (λ i u. IsAmong (q, r) u.pairs → q < 2 ^ 32) (λ m. rule.small id q r v at (among_filter (λ (x : ℕ × ℕ). not (eqb x.0 j)) (q, r) v.pairs m).0) (λ i u ne g. rule.small i q r u g) (λ m. rule.small id q r v at (among_filter (λ (x : ℕ × ℕ). eqb x.0 j) (q, r) v.pairs m).0) i u;
  }
