-- A seat is taken in.
use Rattle.std.proofs.Common.{◌≡◌, ◌≢◌, ℕ, ◌^◌, ◌<◌, ◌≤◌, ◌⊎◌, true, false, map, List, [], ◌++◌, length, slice_set, inl, inr, refl, sym, ap, ◌∙◌, subst, ⊎_elim, arith}
use Rattle.std.specs.Prelude.{Some, Option}
use Rattle.res_ledger.specs.declared.event.What.TheVariants.{Acquire, Lease}
use Rattle.row_seat.specs.Totals.{IsAt, pair_times, row_times, stamp_times, times}
use Rattle.row_seat.specs.Rule.{Book, BooksAgree, OwnershipsAgree, GivenIn, Hold, LeasesAgree, LeftIn, PaysAgree, Purse, RowsAgree, IsBlankView, IsSeated, RuleHolds, SeatsAgree, Who, Holdings, book, ownership, empties, hands, hold, leases, open_count, purse, who, work}
use Rattle.res_ledger.specs.Ledger.{Covers, IsCanceled, IsLeased, Notes}
use Rattle.res_ledger.specs.declared.event.Event.{Event}
use Rattle.res_ledger.specs.Streams.{HasRight, by_stream}
use Rattle.res_ledger.specs.declared.event.StreamNo.TheVariants.{Inner}
use Rattle.chunk_core.specs.Lists.{IsAmong}
use Rattle.res_ledger.specs.declared.event.StreamNo.{StreamNo}
use Rattle.row_seat.specs.declared.token.Token.{Token}
use Rattle.chunk_core.proofs.Filters.{among_append, among_right, bool_not}
use Rattle.row_seat.proofs.Members.{among_kept, among_without}
use Rattle.chunk_core.proofs.Members.{among_left, among_nil}
use Rattle.chunk_core.proofs.Cuts.{append_nil}
use Rattle.chunk_core.proofs.Places.{at_map}
use Rattle.res_ledger.proofs.Ledgers.{by_both, by_none}
use Rattle.row_seat.proofs.Changes.{each_two, map_two, some_two, sorted_two, total_both, two_back, two_first}
use Rattle.row_seat.specs.Steps.{joined, taken_in}
use Rattle.row_seat.proofs.Ticked.{live_not}
use Rattle.row_seat.specs.Views.{name_of}
use Rattle.row_seat.proofs.Totals.{one_at}
use Rattle.row_seat.proofs.Tick.{stands_is}
use Rattle.row_seat.proofs.Parts.{pays_same}
use Rattle.row_seat.proofs.Times.{stamp_both, times_both}
use Rattle.std.proofs.lemmas.Bool.{cases_Bool}

module _ {P : Type 0} {rows room : ℕ} {word : ℕ → ℕ} {slot : ℕ → Option P} {log : List Event} {views : List (Token P)} (rule : RuleHolds rows room word slot log views) {id : ℕ} {v : Token P} (seat : IsSeated views id v)
    {jd : ℕ} {w : Token P} (other : IsSeated views jd w) (main : v.main ≡ true) (n : ℕ) (by : w.by ≡ Inner n) (out : IsAmong n v.out) (no_open : w.opened ≡ []) (no_pair : w.pairs ≡ []) (no_kept : w.kept ≡ []) (no_hand : w.handed ≡ []) where
  open seat use {at, live}

  aw : IsAt (map who views) id (who v)
  aw = at_map who views id v at

  aw' : IsAt (map who views) jd (who w)
  aw' = at_map who views jd w other.at

  foreign : v.by ≢ Inner n
  foreign = rule.seats.apart id n (who v) aw main (rule.seats.had id n (who v) aw main out)

  pub apart : id ≢ jd
  apart e = foreign (ap (λ (x : Token P). x.by) (one_at views jd v w (subst (λ k. IsAt views k v) e at) other.at) ∙ by)

  side : w.main ≡ false
  side = ⊎_elim (λ m. absurd (apart (rule.seats.one id jd (who v) (who w) aw aw' main m))) (λ f. f) (cases_Bool w.main)

  abbrev ma : Token P
  ma = joined v w

  abbrev nb : Token P
  nb = taken_in w

  seats' : SeatsAgree log (slice_set (slice_set (map who views) id (who ma)) jd (who nb))
  seats' = let ws = map who views in let k = rule.seats in let is : name_of w.by ≡ n = ap name_of by in
      let only : (i : ℕ) (u : Who) → IsAt (slice_set (slice_set ws id (who ma)) jd (who nb)) i u → u.main ≡ true → (i ≡ id) × (who ma ≡ u) = λ i u g m.
      ⊎_elim (λ t. t) (λ o. ⊎_elim (λ t. absurd (live_not m (ap (λ (z : Who). z.main) (sym t.1)))) (λ t. absurd (t.0 (k.one i id u (who v) t.2 aw m main))) o) (sorted_two ws id jd (who v) (who w) (who ma) (who nb) aw aw' apart i u g) in record {
        main = (id, who ma, two_first ws id jd (who v) (who w) (who ma) (who nb) aw aw' apart, main);
        one = λ i l u z g g' m m'. (only i u g m).0 ∙ sym (only l z g' m').0;
        alive = λ i u g m. ap (λ (z : Who). z.live) (sym (only i u g m).1) ∙ live;
        out = λ i l u z g g' m lv f. subst (λ (y : Who). (x : ℕ) × (z.by ≡ Inner x) × IsAmong x y.out) (only i u g m).1
            (⊎_elim (λ t. absurd (live_not main (ap (λ (y : Who). y.main) t.1 ∙ f)))
            (λ o. ⊎_elim (λ t. absurd (live_not lv (ap (λ (y : Who). y.live) (sym t.1))))
            (λ t. let s = k.out id l (who v) z aw t.2 main lv f in (s.0, s.1, among_kept (name_of w.by) v.out s.0 s.2 (λ e. t.1 (k.names l jd z (who w) t.2 aw' lv other.live (s.1 ∙ (ap Inner (e ∙ is) ∙ sym by)))))) o)
            (sorted_two ws id jd (who v) (who w) (who ma) (who nb) aw aw' apart l z g'));
        had = λ i x u g m a. subst (λ (y : Who). IsAmong x y.had) (only i u g m).1 (k.had id x (who v) aw main (among_without (name_of w.by) v.out x (subst (λ (y : Who). IsAmong x y.out) (sym (only i u g m).1) a)).0);
        apart = λ i x u g m a. subst (λ (y : Who). y.by ≢ Inner x) (only i u g m).1 (k.apart id x (who v) aw main (subst (λ (y : Who). IsAmong x y.had) (sym (only i u g m).1) a));
        names = λ i l u z g g'. each_two ws id jd (who v) (who w) (who ma) (who nb) aw aw' apart (λ i u. u.live ≡ true → z.live ≡ true → u.by ≡ z.by → i ≡ l)
            (each_two ws id jd (who v) (who w) (who ma) (who nb) aw aw' apart (λ l z. v.live ≡ true → z.live ≡ true → v.by ≡ z.by → id ≡ l) (λ a b c. refl) (λ a b c. absurd (bool_not (sym b))) (λ l z ne ne' h. k.names id l (who v) z aw h) l z g')
            (λ a b c. absurd (bool_not (sym a)))
            (λ i u ne ne' h. each_two ws id jd (who v) (who w) (who ma) (who nb) aw aw' apart (λ l z. u.live ≡ true → z.live ≡ true → u.by ≡ z.by → i ≡ l) (k.names i id u (who v) h aw) (λ a b c. absurd (bool_not (sym b))) (λ l z me me' h'. k.names i l u z h h') l z g')
            i u g;
        noted = λ i u e g m a ne. subst (λ (y : Who). (x : ℕ) × (e.by ≡ Inner x) × IsAmong x y.had) (only i u g m).1 (k.noted id (who v) e aw main a (λ s. ne (s ∙ ap (λ (y : Who). y.by) (only i u g m).1)));
      }

  books' : BooksAgree room log (slice_set (slice_set (map book views) id (book ma)) jd (book nb))
  books' = let bs = map book views in let k = rule.books in let ab = at_map book views id v at in let ab' = at_map book views jd w other.at in
      let E = each_two bs id jd (book v) (book w) (book ma) (book nb) ab ab' apart in record {
        stamped = k.stamped;
        legal = k.legal;
        sum = let t = total_both bs id jd (book v) (book w) (book ma) (book nb) ab ab' apart (λ (u : Book). u.spare) in let o = k.sum in omega arith;
        inside = λ i u e. E (λ i u. IsAmong e u.events → IsAmong e log) (λ m. ⊎_elim (k.inside id (book v) e ab) (k.inside jd (book w) e ab') (among_append e v.events w.events m)) (λ m. absurd (among_nil m)) (λ i u ne me g. k.inside i u e g) i u;
        whole = λ e m. some_two bs id jd (book v) (book w) (book ma) (book nb) ab ab' apart (λ (u : Book). IsAmong e u.events) (among_left w.events) (among_right e v.events w.events) (k.whole e m);
        once = λ m. let t = total_both bs id jd (book v) (book w) (book ma) (book nb) ab ab' apart (λ (u : Book). stamp_times m u.events) in let o = k.once m in let s = stamp_both m v.events w.events in omega arith;
        one = λ i l u z c d g h. E (λ i u. IsAmong c u.events → IsAmong d z.events → c.by ≡ d.by → i ≡ l)
            (E (λ l z. IsAmong c ma.events → IsAmong d z.events → c.by ≡ d.by → id ≡ l) (λ x y s. refl) (λ x y. absurd (among_nil y))
            (λ l z ne me h x y s. ⊎_elim (λ o. k.one id l (book v) z c d ab h o y s) (λ o. absurd (me (sym (k.one jd l (book w) z c d ab' h o y s)))) (among_append c v.events w.events x)) l z h)
            (λ x. absurd (among_nil x))
            (λ i u ne me g. E (λ l z. IsAmong c u.events → IsAmong d z.events → c.by ≡ d.by → i ≡ l)
            (λ x y s. ⊎_elim (λ o. k.one i id u (book v) c d g ab x o s) (λ o. absurd (me (k.one i jd u (book w) c d g ab' x o s))) (among_append d v.events w.events y))
            (λ x y. absurd (among_nil y)) (λ l z ne' me' h. k.one i l u z c d g h) l z h) i u g;
        order = λ i u e. E (λ i u. IsAmong e u.events → by_stream e.by u.events ≡ by_stream e.by log)
            (λ m. by_both e.by v.events w.events ∙ ⊎_elim
            (λ o. ap (λ (x : List Event). by_stream e.by v.events ++ x) (by_none e.by w.events (λ d q s. apart (k.one id jd (book v) (book w) e d ab ab' o q (sym s)))) ∙ (append_nil (by_stream e.by v.events) ∙ k.order id (book v) e ab o))
            (λ o. ap (λ (x : List Event). x ++ by_stream e.by w.events) (by_none e.by v.events (λ d q s. apart (k.one id jd (book v) (book w) d e ab ab' q o s))) ∙ k.order jd (book w) e ab' o)
            (among_append e v.events w.events m))
            (λ m. absurd (among_nil m)) (λ i u ne me g. k.order i u e g) i u;
        own = E (λ i u. u.live ≡ true → by_stream u.by u.events ≡ by_stream u.by log)
            (λ l. by_both v.by v.events w.events ∙ (ap (λ (x : List Event). by_stream v.by v.events ++ x) (by_none v.by w.events (λ e m s. foreign (sym s ∙ (k.pure jd (book w) e ab' side m ∙ by)))) ∙ (append_nil (by_stream v.by v.events) ∙ k.own id (book v) ab live)))
            (λ f. absurd (bool_not (sym f))) (λ i u ne me g. k.own i u g);
        pure = λ i u e. E (λ i u. u.main ≡ false → IsAmong e u.events → e.by ≡ u.by) (λ f. absurd (live_not main f)) (λ f m. absurd (among_nil m)) (λ i u ne me g. k.pure i u e g) i u;
        floor = E (λ i u. u.floor ≤ length log) (k.floor id (book v) ab) (omega arith) (λ i u ne me g. k.floor i u g);
        above = λ i u e. E (λ i u. IsAmong e u.events → e.by ≡ u.by → u.floor ≤ e.stamp)
            (λ m s. ⊎_elim (λ o. k.above id (book v) e ab o s) (λ o. absurd (foreign (sym s ∙ (k.pure jd (book w) e ab' side o ∙ by)))) (among_append e v.events w.events m))
            (λ m. absurd (among_nil m)) (λ i u ne me g. k.above i u e g) i u;
      }

  words' : RowsAgree rows word log (slice_set (slice_set (map work views) id (work ma)) jd (work nb))
  words' r = let ws = map work views in let ak = at_map work views id v at in let ak' = at_map work views jd w other.at in
      let T = total_both ws id jd (work v) (work w) (work ma) (work nb) ak ak' apart in
      let a = T (λ (u : Holdings). times r u.empty) in let b = T (λ (u : Holdings). times r u.opened) in let c = T (λ (u : Holdings). row_times r u.pairs) in let d = T (λ (u : Holdings). times r u.handed) in
      let m = times_both r v.empty w.empty in
      let zb : times r w.opened ≡ 0 = ap (λ l. times r l) no_open in let zc : row_times r w.pairs ≡ 0 = ap (λ l. row_times r l) no_pair in let zd : times r w.handed ≡ 0 = ap (λ l. times r l) no_hand in
      let new = slice_set (slice_set ws id (work ma)) jd (work nb) in
      let ea : empties r ws ≡ empties r new = omega arith in
      let eb : open_count r ws ≡ open_count r new = omega arith in
      let ec : leases r ws ≡ leases r new = omega arith in
      let ed : hands r ws ≡ hands r new = omega arith in
      stands_is (rule.words r) refl ea eb ec ed

  ownerships' : OwnershipsAgree log (slice_set (slice_set (map ownership views) id (ownership ma)) jd (ownership nb))
  ownerships' = let ds = map ownership views in let k = rule.ownerships in let ad = at_map ownership views id v at in let ad' = at_map ownership views jd w other.at in
      let E = each_two ds id jd (ownership v) (ownership w) (ownership ma) (ownership nb) ad ad' apart in record {
        fresh = λ i r t q u. E (λ i u. IsAmong r u.empty → Notes log q (Acquire r t) → Notes u.events q (Acquire r t))
            (λ m x. ⊎_elim (λ o. let f = k.fresh id r t q (ownership v) ad o x in (f.0, among_left w.events f.1, f.2, f.3)) (λ o. let f = k.fresh jd r t q (ownership w) ad' o x in (f.0, among_right f.0 v.events w.events f.1, f.2, f.3)) (among_append r v.empty w.empty m))
            (λ m. absurd (among_nil m)) (λ i u ne me g. k.fresh i r t q u g) i u;
        opened = λ i r u. E (λ i u. IsAmong r u.opened → (s : ℕ) × Notes log u.by (Acquire r s)) (k.opened id r (ownership v) ad) (λ m. absurd (among_nil m)) (λ i u ne me g. k.opened i r u g) i u;
        handed = λ i r u. E (λ i u. IsAmong r u.handed → HasRight log u.by r) (k.handed id r (ownership v) ad) (λ m. absurd (among_nil m)) (λ i u ne me g. k.handed i r u g) i u;
      }

  leases' : LeasesAgree log (slice_set (slice_set (map hold views) id (hold ma)) jd (hold nb))
  leases' = let hs = map hold views in let k = rule.leases in let ah = at_map hold views id v at in let ah' = at_map hold views jd w other.at in
      let E = each_two hs id jd (hold v) (hold w) (hold ma) (hold nb) ah ah' apart in let S = some_two hs id jd (hold v) (hold w) (hold ma) (hold nb) ah ah' apart in let T = total_both hs id jd (hold v) (hold w) (hold ma) (hold nb) ah ah' apart in record {
        by_main = λ i a b q u. E (λ i u. u.main ≡ true → Notes log q (Lease a b) → q ≡ u.by) (k.by_main id a b q (hold v) ah) (λ m. absurd (bool_not (sym m))) (λ i u ne me g. k.by_main i a b q u g) i u;
        stand = λ a r q c. ⊎_elim (λ x. inl x) (λ x. inr (S (λ (u : Hold). IsAmong (a, r) u.pairs) (λ m. m) (λ m. absurd (among_nil (subst (λ l. IsAmong (a, r) l) no_pair m))) x)) (k.stand a r q c);
        paired = λ i a r u. E (λ i u. IsAmong (a, r) u.pairs → ((q : StreamNo) × Covers log a q r) ⊎ (¬ (IsLeased log a) × (u.main ≡ true) × IsAmong r u.opened)) (k.paired id a r (hold v) ah) (λ m. absurd (among_nil m)) (λ i u ne me g. k.paired i a r u g) i u;
        holder = λ i a r u. E (λ i u. IsAmong (a, r) u.pairs → ((u.main ≡ true) × ¬ (IsAmong a u.had)) ⊎ (u.by ≡ Inner a)) (k.holder id a r (hold v) ah) (λ m. absurd (among_nil m)) (λ i u ne me g. k.holder i a r u g) i u;
        kept = λ i a u. E (λ i u. IsAmong a u.kept → IsLeased log a × ¬ (IsCanceled log a) × (((u.main ≡ true) × ¬ (IsAmong a u.had)) ⊎ (u.by ≡ Inner a))) (k.kept id a (hold v) ah) (λ m. absurd (among_nil m)) (λ i u ne me g. k.kept i a u g) i u;
        keeper = λ a l. ⊎_elim (λ c. inl c) (λ x. inr (S (λ (u : Hold). IsAmong a u.kept) (λ m. m) (λ m. absurd (among_nil (subst (λ l. IsAmong a l) no_kept m))) x)) (k.keeper a l);
        kept_once = λ a. let t = T (λ (u : Hold). times a u.kept) in let o = k.kept_once a in let z : times a w.kept ≡ 0 = ap (λ l. times a l) no_kept in omega arith;
        pair_once = λ a r. let t = T (λ (u : Hold). pair_times a r u.pairs) in let o = k.pair_once a r in let z : pair_times a r w.pairs ≡ 0 = ap (λ l. pair_times a r l) no_pair in omega arith;
      }

  pays' : PaysAgree word slot log (slice_set (slice_set (map purse views) id (purse ma)) jd (purse nb))
  pays' = let ps = map purse views in let k = rule.pays in let ap' = at_map purse views id v at in let aq = at_map purse views jd w other.at in let qs = slice_set (slice_set ps id (purse ma)) jd (purse nb) in
      let left : (q : ℕ) (y : P) → LeftIn qs q y → LeftIn ps q y = λ q y. two_back ps id jd (purse v) (purse w) (purse ma) (purse nb) ap' aq apart (λ (u : Purse P). IsAmong (q, y) u.left) (λ m. among_append (q, y) v.left w.left m) (λ m. among_nil m) in
      let left' : (q : ℕ) (y : P) → LeftIn ps q y → LeftIn qs q y = λ q y. some_two ps id jd (purse v) (purse w) (purse ma) (purse nb) ap' aq apart (λ (u : Purse P). IsAmong (q, y) u.left) (λ m. among_left w.left m) (λ m. among_right (q, y) v.left w.left m) in
      let given : (q : ℕ) (y : P) → GivenIn qs q y → GivenIn ps q y = λ q y. two_back ps id jd (purse v) (purse w) (purse ma) (purse nb) ap' aq apart (λ (u : Purse P). IsAmong (q, y) u.given) (λ m. among_append (q, y) v.given w.given m) (λ m. among_nil m) in
      let given' : (q : ℕ) (y : P) → GivenIn ps q y → GivenIn qs q y = λ q y. some_two ps id jd (purse v) (purse w) (purse ma) (purse nb) ap' aq apart (λ (u : Purse P). IsAmong (q, y) u.given) (λ m. among_left w.given m) (λ m. among_right (q, y) v.given w.given m) in
      pays_same k left left' given (λ q m e le. refl)
      (λ i q u. each_two ps id jd (purse v) (purse w) (purse ma) (purse nb) ap' aq apart (λ i u. IsAmong q u.handed → (y : P) × IsAmong (q, y) u.given × (¬ (IsAmong q u.taken) → slot q ≡ Some y))
      (λ m. let t = k.handed id q (purse v) ap' m in (t.0, among_left w.given t.1, t.2)) (λ m. absurd (among_nil m)) (λ i u ne me g. k.handed i q u g) i u)
      (λ q f. let t = k.final q f in (t.0, given' q t.0 t.1))

  pub join_keeps : RuleHolds rows room word slot log (slice_set (slice_set views id (joined v w)) jd (taken_in w))
  join_keeps = record {
    seats = subst (λ l. SeatsAgree log l) (sym (map_two who views id jd ma nb)) seats';
    books = subst (λ l. BooksAgree room log l) (sym (map_two book views id jd ma nb)) books';
    words = subst (λ l. RowsAgree rows word log l) (sym (map_two work views id jd ma nb)) words';
    ownerships = subst (λ l. OwnershipsAgree log l) (sym (map_two ownership views id jd ma nb)) ownerships';
    leases = subst (λ l. LeasesAgree log l) (sym (map_two hold views id jd ma nb)) leases';
    pays = subst (λ l. PaysAgree word slot log l) (sym (map_two purse views id jd ma nb)) pays';
    taken_in = each_two views id jd v w ma nb at other.at apart (λ i u. u.live ≡ false → IsBlankView u) (λ f. absurd (live_not live f)) (λ f. record { empty = refl; opened = refl; pairs = refl; kept = refl; handed = refl; given = refl; left = refl; events = refl }) (λ i u ne me g. rule.taken_in i u g);
    small = λ i j r u. each_two views id jd v w ma nb at other.at apart (λ i u. IsAmong (j, r) u.pairs → j < 2 ^ 32) (rule.small id j r v at) (λ m. absurd (among_nil m)) (λ i u ne me g. rule.small i j r u g) i u;
  }
