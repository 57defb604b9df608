-- A mark sits at the table, where it has nothing.
use Rattle.std.proofs.Common.{◌≡◌, ℕ, ◌+◌, ◌^◌, ◌<◌, ◌≤◌, true, false, map, List, [], ◌∷◌, ◌++◌, length, slice_set, inl, inr, refl, sym, ap, ◌∙◌, subst, ⊎_elim, arith, zero-le}
use Rattle.std.specs.Prelude.{Option}
use Rattle.chunk_core.specs.Lists.{IsAmong}
use Rattle.chunk_core.proofs.Filters.{bool_not}
use Rattle.chunk_core.proofs.Members.{among_nil}
use Rattle.chunk_core.proofs.Places.{at_map}
use Rattle.res_ledger.specs.declared.event.Event.{Event}
use Rattle.row_seat.specs.Rule.{Book, BooksAgree, GivenIn, Hold, IsBlankView, IsSeated, LeasesAgree, LeftIn, OwnershipsAgree, PaysAgree, Purse, RowsAgree, RuleHolds, SeatsAgree, book, empties, hands, hold, leases, open_count, ownership, purse, who, work}
use Rattle.row_seat.specs.Totals.{IsAt, pair_times, row_times, stamp_times, times, total}
use Rattle.row_seat.specs.declared.token.Token.{Token}
use Rattle.row_seat.proofs.Changes.{each_more, map_more, some_less, some_more, total_more}
use Rattle.row_seat.proofs.Parts.{pays_same}
use Rattle.row_seat.proofs.Tick.{stands_is}
use Rattle.row_shared.specs.Places.{nobody}

module _ {P : Type 0} {rows room : ℕ} {word : ℕ → ℕ} {slot : ℕ → Option P} {log : List Event} {views : List (Token P)} (rule : RuleHolds rows room word slot log views) {id : ℕ} {v : Token P} (seat : IsSeated views id v) where
  -- the views as some part of the rule reads them, and one that has nothing
  abbrev more : {X : Type 0} → (Token P → X) → List X
  more f = slice_set (map f views) id (f v) ++ f nobody ∷ []

  place : {X : Type 0} (f : Token P → X) → IsAt (map f views) id (f v)
  place f = at_map f views id v seat.at

  -- a view for which something holds that doesn't of one that has nothing was there before
  back : {X : Type 0} (f : Token P → X) (Q : X → Type 0) → ¬ (Q (f nobody)) → (i : ℕ) (u : X) → IsAt (more f) i u → Q u → IsAt (map f views) i u
  back f Q none i u = each_more (map f views) id (f v) (f v) (f nobody) (place f) (λ i u. Q u → IsAt (map f views) i u) (λ q. place f) (λ i u ne g q. g) (λ q. absurd (none q)) i u

  -- what holds of each, and of one that has nothing
  every : {X : Type 0} (f : Token P → X) (Q : X → Type 0) → ((i : ℕ) (u : X) → IsAt (map f views) i u → Q u) → Q (f nobody) → (i : ℕ) (u : X) → IsAt (more f) i u → Q u
  every f Q old none i u = each_more (map f views) id (f v) (f v) (f nobody) (place f) (λ i u. Q u) (old id (f v) (place f)) (λ i u ne g. old i u g) none i u

  was : {X : Type 0} (f : Token P → X) (Q : X → Type 0) → (i : ℕ) × (u : X) × IsAt (map f views) i u × Q u → (i : ℕ) × (u : X) × IsAt (more f) i u × Q u
  was f Q = some_more (map f views) id (f v) (f v) (f nobody) (place f) Q (λ q. inl q)

  -- one that has nothing adds nothing
  same : {X : Type 0} (f : Token P → X) (m : X → ℕ) → m (f nobody) ≡ 0 → total m (slice_set (map f views) id (f v) ++ f nobody ∷ []) ≡ total m (map f views)
  same f m z = let t = total_more (map f views) id (f v) (f v) (f nobody) (place f) m in omega arith

  seats' : SeatsAgree log (more who)
  seats' = let k = rule.seats in
      let m = back who (λ u. u.main ≡ true) (λ q. bool_not (sym q)) in
      let l = back who (λ u. u.live ≡ true) (λ q. bool_not (sym q)) in record {
        main = was who (λ u. u.main ≡ true) k.main;
        one = λ i j u w g h a b. k.one i j u w (m i u g a) (m j w h b) a b;
        alive = λ i u g a. k.alive i u (m i u g a) a;
        out = λ i j u w g h a b c. k.out i j u w (m i u g a) (l j w h b) a b c;
        had = λ i n u g a o. k.had i n u (m i u g a) a o;
        apart = λ i n u g a o. k.apart i n u (m i u g a) a o;
        names = λ i j u w g h a b c. k.names i j u w (l i u g a) (l j w h b) a b c;
        noted = λ i u e g a o ne. k.noted i u e (m i u g a) a o ne;
      }

  books' : BooksAgree room log (more book)
  books' = let k = rule.books in
      let n : (e : Event) (i : ℕ) (u : Book) → IsAt (more book) i u → IsAmong e u.events → IsAt (map book views) i u = λ e. back book (λ u. IsAmong e u.events) (λ q. among_nil q) in record {
        stamped = k.stamped;
        legal = k.legal;
        sum = ap (λ n. n + length log) (same book (λ u. u.spare) refl) ∙ k.sum;
        inside = λ i u e g a. k.inside i u e (n e i u g a) a;
        whole = λ e a. was book (λ u. IsAmong e u.events) (k.whole e a);
        once = λ x. subst (λ n. n ≤ 1) (sym (same book (λ u. stamp_times x u.events) refl)) (k.once x);
        one = λ i j u w c d g h a b is. k.one i j u w c d (n c i u g a) (n d j w h b) a b is;
        order = λ i u e g a. k.order i u e (n e i u g a) a;
        own = λ i u g a. k.own i u (back book (λ u. u.live ≡ true) (λ q. bool_not (sym q)) i u g a) a;
        pure = λ i u e g f a. k.pure i u e (n e i u g a) f a;
        floor = every book (λ u. u.floor ≤ length log) k.floor zero-le;
        above = λ i u e g a by. k.above i u e (n e i u g a) a by;
      }

  words' : RowsAgree rows word log (more work)
  words' r =
      let ea : empties r (map work views) ≡ empties r (more work) = sym (same work (λ u. times r u.empty) refl) in
      let eb : open_count r (map work views) ≡ open_count r (more work) = sym (same work (λ u. times r u.opened) refl) in
      let ec : leases r (map work views) ≡ leases r (more work) = sym (same work (λ u. row_times r u.pairs) refl) in
      let ed : hands r (map work views) ≡ hands r (more work) = sym (same work (λ u. times r u.handed) refl) in
      stands_is (rule.words r) refl ea eb ec ed

  ownerships' : OwnershipsAgree log (more ownership)
  ownerships' = let k = rule.ownerships in record {
    fresh = λ i r t q u g a. k.fresh i r t q u (back ownership (λ u. IsAmong r u.empty) (λ q. among_nil q) i u g a) a;
    opened = λ i r u g a. k.opened i r u (back ownership (λ u. IsAmong r u.opened) (λ q. among_nil q) i u g a) a;
    handed = λ i r u g a. k.handed i r u (back ownership (λ u. IsAmong r u.handed) (λ q. among_nil q) i u g a) a;
  }

  leases' : LeasesAgree log (more hold)
  leases' = let k = rule.leases in
      let p : (j r i : ℕ) (u : Hold) → IsAt (more hold) i u → IsAmong (j, r) u.pairs → IsAt (map hold views) i u = λ j r. back hold (λ u. IsAmong (j, r) u.pairs) (λ q. among_nil q) in record {
        by_main = λ i j s q u g a. k.by_main i j s q u (back hold (λ u. u.main ≡ true) (λ q. bool_not (sym q)) i u g a) a;
        stand = λ j r q c. ⊎_elim (λ x. inl x) (λ x. inr (was hold (λ u. IsAmong (j, r) u.pairs) x)) (k.stand j r q c);
        paired = λ i j r u g a. k.paired i j r u (p j r i u g a) a;
        holder = λ i j r u g a. k.holder i j r u (p j r i u g a) a;
        kept = λ i j u g a. k.kept i j u (back hold (λ u. IsAmong j u.kept) (λ q. among_nil q) i u g a) a;
        keeper = λ j l. ⊎_elim (λ x. inl x) (λ x. inr (was hold (λ u. IsAmong j u.kept) x)) (k.keeper j l);
        kept_once = λ j. subst (λ n. n ≤ 1) (sym (same hold (λ u. times j u.kept) refl)) (k.kept_once j);
        pair_once = λ j r. subst (λ n. n ≤ 1) (sym (same hold (λ u. pair_times j r u.pairs) refl)) (k.pair_once j r);
      }

  pays' : PaysAgree word slot log (more purse)
  pays' = let k = rule.pays in let ps = map purse views in
      let left : (q : ℕ) (y : P) → LeftIn (more purse) q y → LeftIn ps q y = λ q y. some_less ps id (purse v) (purse v) (purse nobody) (place purse) (λ (u : Purse P). IsAmong (q, y) u.left) (λ m. m) (λ m. among_nil m) in
      let left' : (q : ℕ) (y : P) → LeftIn ps q y → LeftIn (more purse) q y = λ q y. was purse (λ u. IsAmong (q, y) u.left) in
      let given : (q : ℕ) (y : P) → GivenIn (more purse) q y → GivenIn ps q y = λ q y. some_less ps id (purse v) (purse v) (purse nobody) (place purse) (λ (u : Purse P). IsAmong (q, y) u.given) (λ m. m) (λ m. among_nil m) in
      let given' : (q : ℕ) (y : P) → GivenIn ps q y → GivenIn (more purse) q y = λ q y. was purse (λ u. IsAmong (q, y) u.given) in
      pays_same k left left' given (λ q m e le. refl)
      (λ i q u g m. k.handed i q u (back purse (λ u. IsAmong q u.handed) (λ q. among_nil q) i u g m) m)
      (λ q f. let t = k.final q f in (t.0, given' q t.0 t.1))

  pub guest_keeps : RuleHolds rows room word slot log (slice_set views id v ++ nobody ∷ [])
  guest_keeps = record {
    seats = subst (λ l. SeatsAgree log l) (sym (map_more who views id v nobody)) seats';
    books = subst (λ l. BooksAgree room log l) (sym (map_more book views id v nobody)) books';
    words = subst (λ l. RowsAgree rows word log l) (sym (map_more work views id v nobody)) words';
    ownerships = subst (λ l. OwnershipsAgree log l) (sym (map_more ownership views id v nobody)) ownerships';
    leases = subst (λ l. LeasesAgree log l) (sym (map_more hold views id v nobody)) leases';
    pays = subst (λ l. PaysAgree word slot log l) (sym (map_more purse views id v nobody)) pays';
    small = λ i j r u. each_more views id v v nobody seat.at (λ i u. IsAmong (j, r) u.pairs → j < 2 ^ 32) (rule.small id j r v seat.at) (λ i u ne g. rule.small i j r u g) (λ m. absurd (among_nil m)) i u;
    taken_in = each_more views id v v nobody seat.at (λ i u. u.live ≡ false → IsBlankView u) (rule.taken_in id v seat.at) (λ i u ne g. rule.taken_in i u g)
        (λ f. record { empty = refl; opened = refl; pairs = refl; kept = refl; handed = refl; given = refl; left = refl; events = refl });
  }
