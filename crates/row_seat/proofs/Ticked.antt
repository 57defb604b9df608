-- The whole rule under a tick.
use Rattle.std.proofs.Common.{◌≡◌, ◌≢◌, ℕ, ◌-◌, ◌^◌, ◌<◌, ◌≤◌, Bool, true, false, map, List, [], ◌∷◌, ◌++◌, length, slice_set, inl, inr, refl, sym, ap, ◌∙◌, subst, ⊎_elim, arith}
use Rattle.std.specs.Prelude.{Option}
use Rattle.res_ledger.specs.declared.event.What.TheVariants.{Acquire, Cancel, Close, Final, Lease, Open}
use Rattle.chunk_core.specs.declared.code.Exit.{Exit}
use Rattle.row_seat.specs.Totals.{IsAt, row_times, times}
use Rattle.row_seat.specs.Rule.{Book, BooksAgree, Ownership, OwnershipsAgree, Hold, LeasesAgree, PaysAgree, RowsAgree, IsBlankView, IsSeated, RuleHolds, SeatsAgree, Holdings, book, ownership, hold, leases, purse, view_of, who, work}
use Rattle.res_ledger.specs.declared.event.Event.{Event}
use Rattle.chunk_core.specs.Lists.{IsAmong}
use Rattle.res_ledger.specs.Ledger.{IsClosed, IsHanded, IsUsable, MayFollow, Notes}
use Rattle.row_seat.specs.Views.{MayNote}
use Rattle.row_seat.specs.declared.token.Token.{Token}
use Rattle.res_ledger.specs.declared.event.What.{What}
use Rattle.res_ledger.proofs.Apart.{apart as kinds_apart}
use Rattle.res_ledger.proofs.Ledgers.{acquire_row, closed_map, covered_map, inner_is, lease_other, noted_own, usable_map}
use Rattle.row_seat.proofs.Members.{among_without}
use Rattle.chunk_core.proofs.Places.{at_map, set_again}
use Rattle.res_ledger.specs.Streams.{by_stream}
use Rattle.row_seat.proofs.Tick.{cancel_leases, final_pays, final_rows, is_handed, is_inside, lease_leases, one_empty, tick_books, tick_ownerships, tick_leases, tick_pays, tick_rows, tick_seats}
use Rattle.row_seat.proofs.Totals.{each, map_back, map_put, total_at, total_one}
use Rattle.row_seat.specs.Steps.{noted}
use Rattle.row_seat.proofs.Times.{row_some, times_some}

pub keep : {W : Type 0} (X : List W → Type 0) (ws : List W) (id : ℕ) (b : W) → IsAt ws id b → X ws → X (slice_set ws id b)
keep X ws id b at x = subst X (sym (set_again ws id b at)) x

pub live_not : {b : Bool} → b ≡ true → b ≡ false → ⊥
live_not t f = let e = sym t ∙ f in cc

module _ {P : Type 0} (rows room : ℕ) (word : ℕ → ℕ) (slot : ℕ → Option P) (log : List Event) (views : List (Token P)) (id : ℕ) (w : Token P) where
  -- the rule from its parts, where one view is new
  pub rule_put : SeatsAgree log (slice_set (map who views) id (who w)) → BooksAgree room log (slice_set (map book views) id (book w)) → RowsAgree rows word log (slice_set (map work views) id (work w))
      → OwnershipsAgree log (slice_set (map ownership views) id (ownership w)) → LeasesAgree log (slice_set (map hold views) id (hold w)) → PaysAgree word slot log (slice_set (map purse views) id (purse w))
      → ((i : ℕ) (v : Token P) → IsAt (slice_set views id w) i v → v.live ≡ false → IsBlankView v)
      → ((i j r : ℕ) (v : Token P) → IsAt (slice_set views id w) i v → IsAmong (j, r) v.pairs → j < 2 ^ 32)
      → RuleHolds rows room word slot log (slice_set views id w)
  rule_put a b c d e f g h = record {
    seats = subst (λ l. SeatsAgree log l) (sym (map_put who views id w)) a;
    books = subst (λ l. BooksAgree room log l) (sym (map_put book views id w)) b;
    words = subst (λ l. RowsAgree rows word log l) (sym (map_put work views id w)) c;
    ownerships = subst (λ l. OwnershipsAgree log l) (sym (map_put ownership views id w)) d;
    leases = subst (λ l. LeasesAgree log l) (sym (map_put hold views id w)) e;
    pays = subst (λ l. PaysAgree word slot log l) (sym (map_put purse views id w)) f;
    taken_in = g;
    small = h;
  }

module _ {P : Type 0} {rows room : ℕ} {word : ℕ → ℕ} {slot : ℕ → Option P} {log : List Event} {views : List (Token P)} (rule : RuleHolds rows room word slot log views) {id : ℕ} {v : Token P} (seat : IsSeated views id v) where
  open seat use {at, live}

  pub taken_in_put : (w : Token P) → w.live ≡ true → (i : ℕ) (u : Token P) → IsAt (slice_set views id w) i u → u.live ≡ false → IsBlankView u
  taken_in_put w l = each views id w (λ i u. u.live ≡ false → IsBlankView u) (λ d. absurd (live_not l d)) (λ i u ne g. rule.taken_in i u g)

  pub small_put : (w : Token P) → ((j r : ℕ) → IsAmong (j, r) w.pairs → j < 2 ^ 32) → (i j r : ℕ) (u : Token P) → IsAt (slice_set views id w) i u → IsAmong (j, r) u.pairs → j < 2 ^ 32
  small_put w h i j r u = each views id w (λ i u. IsAmong (j, r) u.pairs → j < 2 ^ 32) (h j r) (λ i u ne g. rule.small i j r u g) i u

  pub at_who : IsAt (map who views) id (who v)
  at_who = at_map who views id v at

  pub at_book : IsAt (map book views) id (book v)
  at_book = at_map book views id v at

  pub at_work : IsAt (map work views) id (work v)
  at_work = at_map work views id v at

  pub at_ownership : IsAt (map ownership views) id (ownership v)
  at_ownership = at_map ownership views id v at

  pub at_hold : IsAt (map hold views) id (hold v)
  at_hold = at_map hold views id v at

  pub at_purse : IsAt (map purse views) id (purse v)
  at_purse = at_map purse views id v at

  pub own_is : by_stream v.by v.events ≡ by_stream v.by log
  own_is = rule.books.own id (book v) at_book live

  -- this stream's events are this view's
  pub back : (w : What) → Notes log v.by w → Notes v.events v.by w
  back = noted_own v.by log v.events (sym own_is)

  pub forth : (w : What) → Notes v.events v.by w → Notes log v.by w
  forth = noted_own v.by v.events log own_is

  pub closed_back : (s : ℕ) → IsClosed log v.by s → IsClosed v.events v.by s
  closed_back = closed_map log v.events v.by back

  pub closed_forth : (s : ℕ) → IsClosed v.events v.by s → IsClosed log v.by s
  closed_forth = closed_map v.events log v.by forth

  pub usable : (s : ℕ) → IsUsable v.events v.by s → IsUsable log v.by s
  usable s u = usable_map v.events log v.by forth s closed_back u

  -- the row has no pair where it is handed
  no_pair : (j r i : ℕ) (h : Hold) → IsAt (map hold views) i h → IsAmong (j, r) h.pairs → leases r (map work views) ≡ 0 → ⊥
  no_pair j r i h g m none =
      let t = map_back hold views i h g in
      let l = total_at (λ (u : Holdings). row_times r u.pairs) (map work views) i (work t.0) (at_map work views i t.0 t.1) in
      let s = row_some j r t.0.pairs (subst (λ (x : Hold). IsAmong (j, r) x.pairs) (sym t.2) m) in omega arith

  pub handed_log : (r : ℕ) → IsAmong r v.handed → IsHanded log r
  handed_log r m =
      let l = total_at (λ (u : Holdings). times r u.handed) (map work views) id (work v) at_work in
      let s = times_some r v.handed m in
      let t = is_handed (rule.words r) (omega arith) in
      (t.1, (λ j k c. ⊎_elim (λ x. x) (λ x. absurd (no_pair j r x.0 x.1 x.2 x.3 t.0)) (rule.leases.stand j r k c)), t.2)

  pub one_right : (r i : ℕ) (u : Token P) → IsAt views i u → IsAmong r v.empty → IsAmong r u.empty → i ≡ id
  one_right r i u g m n = total_one (λ (u : Holdings). times r u.empty) (map work views) i id (work u) (work v) (one_empty (rule.words r)) (at_map work views i u g) at_work (times_some r u.empty n) (times_some r v.empty m)

  module _ (hands : List (ℕ × P)) where
    -- each event meets its condition on all events
    pub meets : (w : What) → MayNote (view_of v hands) w → MayFollow log v.by w
    meets (Open s p) m = (m.0, (λ o. m.1 (o.0, back (Open s o.0) o.1)), usable p m.2)
    meets (Acquire r s) m = ((λ a. m.1 (a.0, a.1, rule.ownerships.fresh id r a.1 a.0 (ownership v) at_ownership m.0 a.2)), usable s m.2)
    meets (Lease j s) m = (
      (λ l. m.3 (v.by, l.1, back (Lease j l.1) (subst (λ k. Notes log k (Lease j l.1)) (rule.leases.by_main id j l.1 l.0 (hold v) at_hold m.0 l.2) l.2))),
      m.1,
      usable s m.4,
    )
    meets (Cancel j how) m =
        let k = rule.leases.kept id j (hold v) at_hold m.0 in (
          k.0,
          k.1,
          ⊎_elim
              (λ a. let by = rule.leases.by_main id j k.0.1 k.0.0 (hold v) at_hold a.0 k.0.2 in
              let n : Notes log v.by (Lease j k.0.1) = subst (λ q. Notes log q (Lease j k.0.1)) by k.0.2 in
              inr ((k.0.1, n), λ e h is. let t = rule.seats.noted id (who v) e at_who a.0 h (λ s. lease_other log j k.0.1 v.by rule.books.legal n (sym s ∙ is)) in a.1 (subst (λ x. IsAmong x v.had) (inner_is t.0 j (sym t.1 ∙ is)) t.2)))
              (λ b. inl (b, λ r s n. let f = m.1 b r s (back (Acquire r s) n) in (f.0, f.1, (f.2.0, (f.2.1.0, rule.books.inside id (book v) f.2.1.0 at_book f.2.1.1, f.2.1.2, f.2.1.3)))))
              k.2,
        )
    meets (Close s how) m = usable s m
    meets (Final r how ok) m = (handed_log r m.1, rule.ownerships.handed id r (ownership v) at_ownership m.1)

module _ {P : Type 0} {rows room : ℕ} {word : ℕ → ℕ} {slot : ℕ → Option P} {log : List Event} {views : List (Token P)} (rule : RuleHolds rows room word slot log views) {id : ℕ} {v : Token P} (seat : IsSeated views id v)
    (sp : 1 ≤ v.spare) (hands : List (ℕ × P)) where
  open seat use {at, live}

  apart : (i : ℕ) (u : Book) → i ≢ id → IsAt (map book views) i u → u.live ≡ true → u.by ≢ v.by
  apart i u ne g l e =
      let t = map_back book views i u g in
      ne (rule.seats.names i id (who t.0) (who v) (at_map who views i t.0 t.1) (at_who rule seat) (ap (λ (x : Book). x.live) t.2 ∙ l) live (ap (λ (x : Book). x.by) t.2 ∙ e))

  only_main : v.main ≡ true → (i : ℕ) (u : Hold) → IsAt (map hold views) i u → u.main ≡ true → i ≡ id
  only_main m i u g n =
      let t = map_back hold views i u g in
      rule.seats.one i id (who t.0) (who v) (at_map who views i t.0 t.1) (at_who rule seat) (ap (λ (x : Hold). x.main) t.2 ∙ n) m

  new_books : (x : What) → MayNote (view_of v hands) x → let e : Event = record { stamp = length log; by = v.by; what = x } in let b : Book = record { live = v.live; main = v.main; by = v.by; events = v.events ++ e ∷ []; floor = v.floor; spare = v.spare - 1 } in BooksAgree room (log ++ e ∷ []) (slice_set (map book views) id b)
  new_books x may = let e : Event = record { stamp = length log; by = v.by; what = x } in
      tick_books log e room (map book views) rule.books id (book v) (at_book rule seat) live sp refl refl (meets rule seat hands x may) apart

  new_seats : (x : What) → let e : Event = record { stamp = length log; by = v.by; what = x } in SeatsAgree (log ++ e ∷ []) (slice_set (map who views) id (who v))
  new_seats x = let e : Event = record { stamp = length log; by = v.by; what = x } in let g = at_who rule seat in
      keep (λ l. SeatsAgree (log ++ e ∷ []) l) (map who views) id (who v) g (tick_seats log e (map who views) rule.seats id (who v) g live refl)

  -- an event of no row is nobody's Acquire
  new_ownerships : (x : What) (d : Ownership) → d.by ≡ v.by → d.events ≡ v.events ++ record { stamp = length log; by = v.by; what = x } ∷ [] → d.empty ≡ v.empty → d.opened ≡ v.opened → ((r : ℕ) → IsAmong r d.handed → IsAmong r v.handed) → ((r s : ℕ) → x ≡ Acquire r s → IsAmong r v.empty)
      → OwnershipsAgree (log ++ record { stamp = length log; by = v.by; what = x } ∷ []) (slice_set (map ownership views) id d)
  new_ownerships x d by events empty opened handed mine = let e : Event = record { stamp = length log; by = v.by; what = x } in
      tick_ownerships log e (map ownership views) rule.ownerships id (ownership v) d (at_ownership rule seat) by events empty opened handed
      (λ i r s u ne g m is. let t = map_back ownership views i u g in ne (one_right rule seat r i t.0 t.1 (mine r s is) (subst (λ (y : Ownership). IsAmong r y.empty) (sym t.2) m)))

  new_rows : (x : What) → ((r : ℕ) (how : Exit) (ok : Bool) → x ≢ Final r how ok) → ((r s : ℕ) → x ≡ Acquire r s → IsAmong r v.empty) → RowsAgree rows word (log ++ record { stamp = length log; by = v.by; what = x } ∷ []) (slice_set (map work views) id (work v))
  new_rows x no_final mine = let e : Event = record { stamp = length log; by = v.by; what = x } in let g = at_work rule seat in
      keep (λ l. RowsAgree rows word (log ++ e ∷ []) l) (map work views) id (work v) g
      (tick_rows log e rows word (map work views) rule.words no_final (λ r s is. let l = total_at (λ (u : Holdings). times r u.empty) (map work views) id (work v) g in let t = times_some r v.empty (mine r s is) in is_inside (rule.words r) (omega arith)))

  new_pays : (x : What) → ((r : ℕ) (how : Exit) (ok : Bool) → x ≢ Final r how ok) → PaysAgree word slot (log ++ record { stamp = length log; by = v.by; what = x } ∷ []) (slice_set (map purse views) id (purse v))
  new_pays x no_final = let e : Event = record { stamp = length log; by = v.by; what = x } in
      keep (λ l. PaysAgree word slot (log ++ e ∷ []) l) (map purse views) id (purse v) (at_purse rule seat) (tick_pays log e word slot (map purse views) rule.pays no_final)

  new_leases : (x : What) → ((j s : ℕ) → x ≢ Lease j s) → ((j : ℕ) (how : Exit) → x ≢ Cancel j how) → LeasesAgree (log ++ record { stamp = length log; by = v.by; what = x } ∷ []) (slice_set (map hold views) id (hold v))
  new_leases x no_lease no_cancel = let e : Event = record { stamp = length log; by = v.by; what = x } in
      keep (λ l. LeasesAgree (log ++ e ∷ []) l) (map hold views) id (hold v) (at_hold rule seat) (tick_leases log e (map hold views) rule.leases no_lease no_cancel)

  -- an event that changes no row and no lease
  plain_tick : (x : What) → MayNote (view_of v hands) x → ((r : ℕ) (how : Exit) (ok : Bool) → x ≢ Final r how ok) → ((r s : ℕ) → x ≡ Acquire r s → IsAmong r v.empty) → ((j s : ℕ) → x ≢ Lease j s) → ((j : ℕ) (how : Exit) → x ≢ Cancel j how)
      → let e : Event = record { stamp = length log; by = v.by; what = x } in let w : Token P = record v { events = v.events ++ e ∷ []; spare = v.spare - 1 } in RuleHolds rows room word slot (log ++ e ∷ []) (slice_set views id w)
  plain_tick x may no_final mine no_lease no_cancel = let e : Event = record { stamp = length log; by = v.by; what = x } in let w : Token P = record v { events = v.events ++ e ∷ []; spare = v.spare - 1 } in
      rule_put rows room word slot (log ++ e ∷ []) views id w (new_seats x) (new_books x may) (new_rows x no_final mine) (new_ownerships x (ownership w) refl refl refl refl (λ r m. m) mine) (new_leases x no_lease no_cancel) (new_pays x no_final)
      (taken_in_put rule seat w live) (small_put rule seat w (λ i q m. rule.small id i q v at m))

  -- every tick keeps the rule
  pub tick_keeps : (x : What) → MayNote (view_of v hands) x → let e : Event = record { stamp = length log; by = v.by; what = x } in RuleHolds rows room word slot (log ++ e ∷ []) (slice_set views id (noted v e))
  tick_keeps (Open s p) may = plain_tick (Open s p) may (λ r how ok h. cc) (λ r t h. absurd (kinds_apart h refl)) (λ j t h. cc) (λ j how h. cc)
  tick_keeps (Acquire r s) may = plain_tick (Acquire r s) may (λ q how ok h. cc) (λ q t h. subst (λ n. IsAmong n v.empty) (acquire_row r s q t h) may.0) (λ j t h. cc) (λ j how h. cc)
  tick_keeps (Close s how) may = plain_tick (Close s how) may (λ q x ok h. cc) (λ q t h. absurd (kinds_apart h refl)) (λ j t h. cc) (λ j how h. cc)
  tick_keeps (Lease j s) may =
      let x = Lease j s in let e : Event = record { stamp = length log; by = v.by; what = x } in let w : Token P = noted v e in
      let m = meets rule seat hands x may in
      rule_put rows room word slot (log ++ e ∷ []) views id w (new_seats x) (new_books x may) (new_rows x (λ q how ok h. cc) (λ q t h. absurd (kinds_apart h refl))) (new_ownerships x (ownership w) refl refl refl refl (λ r m. m) (λ q t h. absurd (kinds_apart h refl)))
      (lease_leases log e (map hold views) rule.leases id j s (hold v) (at_hold rule seat) may.0 (only_main may.0) rule.books.legal refl refl m.0 may.2
      (λ r. (
        (λ a. covered_map v.events log v.by (forth rule seat) s r (closed_back rule seat) ((may.5 r).0 a)),
        (λ c. (may.5 r).1 (covered_map log v.events v.by (back rule seat) s r (closed_forth rule seat) c)),
      )))
      (new_pays x (λ q how ok h. cc)) (taken_in_put rule seat w live) (small_put rule seat w (λ i q m. rule.small id i q v at m))
  tick_keeps (Cancel j how) may =
      let x = Cancel j how in let e : Event = record { stamp = length log; by = v.by; what = x } in let w : Token P = noted v e in
      rule_put rows room word slot (log ++ e ∷ []) views id w (new_seats x) (new_books x may) (new_rows x (λ q how ok h. cc) (λ q t h. absurd (kinds_apart h refl))) (new_ownerships x (ownership w) refl refl refl refl (λ r m. m) (λ q t h. absurd (kinds_apart h refl)))
      (cancel_leases log e (map hold views) rule.leases id j how (hold v) (at_hold rule seat) refl may.0)
      (new_pays x (λ q how ok h. cc)) (taken_in_put rule seat w live) (small_put rule seat w (λ i q m. rule.small id i q v at m))
  tick_keeps (Final r how ok) may =
      let x = Final r how ok in let e : Event = record { stamp = length log; by = v.by; what = x } in let w : Token P = noted v e in
      rule_put rows room word slot (log ++ e ∷ []) views id w (new_seats x) (new_books x may)
      (final_rows log e rows word (map work views) rule.words id r how ok (work v) (at_work rule seat) refl may.1)
      (new_ownerships x (ownership w) refl refl refl refl (λ q m. (among_without r v.handed q m).0) (λ q t h. absurd (kinds_apart h refl)))
      (new_leases x (λ j t h. cc) (λ j how h. cc))
      (final_pays log e word slot (map purse views) rule.pays id r how ok (purse v) (at_purse rule seat) refl may.1)
      (taken_in_put rule seat w live) (small_put rule seat w (λ i q m. rule.small id i q v at m))
