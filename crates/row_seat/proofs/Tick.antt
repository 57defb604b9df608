-- A tick keeps the rule: each event meets its condition.
use Rattle.std.proofs.Common.{◌≡◌, ◌≢◌, ℕ, ◌+◌, ◌-◌, ◌<◌, ◌≤◌, ◌⊎◌, Bool, true, false, List, [], ◌∷◌, ◌++◌, length, slice_set, inl, inr, refl, sym, ap, ◌∙◌, subst, ⊎_elim, arith}
use Rattle.std.specs.Prelude.{Some, Option}
use Rattle.std.proofs.lemmas.List.{length_push}
use Rattle.std.proofs.lemmas.Bool.{cases_eq}
use Rattle.res_ledger.specs.declared.event.What.TheVariants.{Acquire, Cancel, Final, Lease}
use Rattle.chunk_core.specs.declared.code.Exit.{Exit}
use Rattle.row_seat.specs.Totals.{IsAt, pair_times, row_times, stamp_times, times, total}
use Rattle.row_seat.specs.Rule.{Book, BooksAgree, Ownership, OwnershipsAgree, GivenIn, Hold, LeasesAgree, LeftIn, PaysAgree, Purse, RowsAgree, SeatsAgree, RowStands, Who, Holdings, empties, hands, leases, open_count}
use Rattle.res_ledger.specs.Ledger.{Covers, IsCanceled, IsCoveredBy, IsLeased, IsLegal, MayFollow, Notes}
use Rattle.res_ledger.specs.declared.event.Event.{Event}
use Rattle.res_ledger.specs.Streams.{HasRight, by_stream}
use Rattle.res_ledger.specs.declared.event.StreamNo.TheVariants.{Inner}
use Rattle.chunk_core.specs.Lists.{IsAmong}
use Rattle.res_ledger.specs.declared.event.StreamNo.{StreamNo}
use Rattle.res_ledger.proofs.Apart.{apart as kinds_apart}
use Rattle.res_ledger.proofs.Ledgers.{acquired_more, acquired_snoc, by_both, by_in, by_other, by_out, cancel_stream, canceled_leased, canceled_more, canceled_snoc, covers_more, covers_new, covers_snoc, final_row, lease_stream, leased_more, leased_snoc, right_more, stamp_below, stream_cases}
use Rattle.row_seat.proofs.Members.{among_kept, among_without}
use Rattle.chunk_core.proofs.Members.{among_last, among_left, among_snoc}
use Rattle.row_seat.specs.Rule.RowStands.{awaits, beyond, final, handed, opened, vacant}
use Rattle.row_seat.proofs.Totals.{each, one_at, put_else, put_here, some_back, some_put, total_one, total_set, total_some}
use Rattle.res_ledger.proofs.Growth.{finalized_more, finalized_snoc, legal_snoc, noted_more, noted_snoc, row_closed_more, stamped_snoc}
use Rattle.row_seat.proofs.Parts.{pays_same}
use Rattle.row_seat.proofs.Times.{push_other, push_same, stamp_here, stamp_in, stamp_push, times_in, times_some, without_other, without_same, zero_or}
use Rattle.row_seat.specs.Views.{without}

-- what is read of the row's counts
module _ {rows r word e o n h : ℕ} {A C F : Type 0} where
  pub is_handed : RowStands rows r word e o n h A C F → 1 ≤ h → (n ≡ 0) × C × ¬ F
  is_handed (vacant a b c d i j k) l = absurd (omega arith)
  is_handed (opened a b c d i j k) l = absurd (omega arith)
  is_handed (awaits a b c d i j k m) l = absurd (omega arith)
  is_handed (handed a b c d i j k m) l = (i, k, m)
  is_handed (final a b c d i j k m) l = absurd (omega arith)
  is_handed (beyond a b c d i j) l = absurd (omega arith)

  pub one_empty : RowStands rows r word e o n h A C F → e ≤ 1
  one_empty (vacant a b c d i j k) = omega arith
  one_empty (opened a b c d i j k) = omega arith
  one_empty (awaits a b c d i j k m) = omega arith
  one_empty (handed a b c d i j k m) = omega arith
  one_empty (final a b c d i j k m) = omega arith
  one_empty (beyond a b c d i j) = omega arith

  pub is_inside : RowStands rows r word e o n h A C F → 1 ≤ e → r < rows
  is_inside (vacant a b c d i j k) l = a
  is_inside (opened a b c d i j k) l = a
  is_inside (awaits a b c d i j k m) l = a
  is_inside (handed a b c d i j k m) l = a
  is_inside (final a b c d i j k m) l = a
  is_inside (beyond a b c d i j) l = absurd (omega arith)

  pub stands_more : {A' C' F' : Type 0} → RowStands rows r word e o n h A C F → (A → A') → (C → C') → (F → F') → (F' → F) → (rows ≤ r → A' → A) → RowStands rows r word e o n h A' C' F'
  stands_more (vacant a b c d i j k) fa fc ff fb fe = vacant a b c d i j (λ x. k (fb x))
  stands_more (opened a b c d i j k) fa fc ff fb fe = opened a b c d i (fa j) (λ x. k (fb x))
  stands_more (awaits a b c d i j k m) fa fc ff fb fe = awaits a b c d i j (fc k) (λ x. m (fb x))
  stands_more (handed a b c d i j k m) fa fc ff fb fe = handed a b c d i j (fc k) (λ x. m (fb x))
  stands_more (final a b c d i j k m) fa fc ff fb fe = final a b c d i j (fc k) (ff m)
  stands_more (beyond a b c d i j) fa fc ff fb fe = beyond a b c d i (λ x. j (fe a x))

  pub stands_final : {A' C' F' : Type 0} {g : ℕ} → RowStands rows r word e o n h A C F → (t : ℕ) → 1 ≤ t → g + t ≡ h → (C → C') → F' → RowStands rows r word e o n g A' C' F'
  stands_final (vacant a b c d i j k) t m l fc f = absurd (omega arith)
  stands_final (opened a b c d i j k) t m l fc f = absurd (omega arith)
  stands_final (awaits a b c d i j k x) t m l fc f = absurd (omega arith)
  stands_final (handed a b c d i j k x) t m l fc f = final a b c d i (omega arith) (fc k) f
  stands_final (final a b c d i j k x) t m l fc f = absurd (omega arith)
  stands_final (beyond a b c d i j) t m l fc f = absurd (omega arith)

  pub stands_is : {word' e' o' n' h' : ℕ} → RowStands rows r word e o n h A C F → word ≡ word' → e ≡ e' → o ≡ o' → n ≡ n' → h ≡ h' → RowStands rows r word' e' o' n' h' A C F
  stands_is (vacant a b c d i j k) p q s t u = vacant a (omega arith) (omega arith) (omega arith) (omega arith) (omega arith) k
  stands_is (opened a b c d i j k) p q s t u = opened a (omega arith) (omega arith) (omega arith) (omega arith) j k
  stands_is (awaits a b c d i j k m) p q s t u = awaits a (omega arith) (omega arith) (omega arith) (omega arith) (omega arith) k m
  stands_is (handed a b c d i j k m) p q s t u = handed a (omega arith) (omega arith) (omega arith) (omega arith) (omega arith) k m
  stands_is (final a b c d i j k m) p q s t u = final a (omega arith) (omega arith) (omega arith) (omega arith) (omega arith) k m
  stands_is (beyond a b c d i j) p q s t u = beyond a (omega arith) (omega arith) (omega arith) (omega arith) j

-- the parts of the rule one by one
module _ (log : List Event) (e : Event) where
  pub tick_books : (room : ℕ) (bs : List Book) → BooksAgree room log bs → (id : ℕ) (b : Book) → IsAt bs id b → b.live ≡ true → 1 ≤ b.spare → e.stamp ≡ length log → e.by ≡ b.by → MayFollow log e.by e.what
      → ((i : ℕ) (u : Book) → i ≢ id → IsAt bs i u → u.live ≡ true → u.by ≢ b.by)
      → BooksAgree room (log ++ e ∷ []) (slice_set bs id (record b { events = b.events ++ e ∷ []; spare = b.spare - 1 }))
  tick_books room bs k id b at live left stamp by meets apart = let b' : Book = record b { events = b.events ++ e ∷ []; spare = b.spare - 1 } in
      -- this stream's events stand here alone
      let mine : (d : Event) → IsAmong d log → d.by ≡ b.by → IsAmong d b.events = λ d m s. (by_in b.by b.events d (subst (λ l. IsAmong d l) (sym (k.own id b at live)) (by_out b.by log d m s))).0 in
      let other : (i : ℕ) (u : Book) (d : Event) → i ≢ id → IsAt bs i u → IsAmong d u.events → d.by ≢ b.by = λ i u d ne g m s. ne (k.one i id u b d d g at m (mine d (k.inside i u d g m) s) refl) in
      let now : by_stream b.by (b.events ++ e ∷ []) ≡ by_stream b.by (log ++ e ∷ []) = by_both b.by b.events (e ∷ []) ∙ (ap (λ (x : List Event). x ++ by_stream b.by (e ∷ [])) (k.own id b at live) ∙ sym (by_both b.by log (e ∷ []))) in
      let pick : (d : Event) → IsAmong d (b.events ++ e ∷ []) → IsAmong d b.events ⊎ (d.by ≡ b.by) = λ d m. ⊎_elim (λ o. inl o) (λ q. inr (ap (λ (z : Event). z.by) q ∙ by)) (among_snoc b.events d e m) in record {
        stamped = stamped_snoc log e k.stamped stamp;
        legal = legal_snoc log e k.legal meets;
        sum = let t = total_set (λ (u : Book). u.spare) bs id b b' at in let o = k.sum in let l = length_push log e in omega arith;
        inside = λ i u d. each bs id b' (λ i u. IsAmong d u.events → IsAmong d (log ++ e ∷ []))
            (λ a. ⊎_elim (λ o. among_left (e ∷ []) (k.inside id b d at o)) (λ q. subst (λ z. IsAmong z (log ++ e ∷ [])) (sym q) (among_last log e)) (among_snoc b.events d e a))
            (λ i u ne g a. among_left (e ∷ []) (k.inside i u d g a)) i u;
        whole = λ d m. ⊎_elim
            (λ o. let t = k.whole d o in ⊎_elim
            (λ q. (id, b', put_here bs id b b' at, among_left (e ∷ []) (subst (λ (u : Book). IsAmong d u.events) (one_at bs id t.1 b (subst (λ n. IsAt bs n t.1) q t.2) at) t.3)))
            (λ ne. (t.0, t.1, put_else bs id t.0 t.1 b' ne t.2, t.3)) (cases_eq t.0 id))
            (λ q. (id, b', put_here bs id b b' at, subst (λ z. IsAmong z (b.events ++ e ∷ [])) (sym q) (among_last b.events e)))
            (among_snoc log d e m);
        once = λ n. let t = total_set (λ (u : Book). stamp_times n u.events) bs id b b' at in let o = k.once n in ⊎_elim
            (λ q. let h : stamp_times n (b.events ++ e ∷ []) ≡ stamp_times n b.events + 1 = subst (λ z. stamp_times z (b.events ++ e ∷ []) ≡ stamp_times z b.events + 1) q (stamp_here b.events e) in
            let none : total (λ (u : Book). stamp_times n u.events) bs ≡ 0 = ⊎_elim (λ z. z) (λ le. let x = total_some (λ (u : Book). stamp_times n u.events) bs le in let y = stamp_in n x.1.events x.3 in
            let y2 = y.2 in let l = stamp_below log y.0 k.stamped (k.inside x.0 x.1 y.0 x.2 y.1) in absurd (omega arith)) (zero_or (total (λ (u : Book). stamp_times n u.events) bs)) in omega arith)
            (λ ne. let p = stamp_push n b.events e ne in omega arith)
            (cases_eq e.stamp n);
        one = λ i j u w c d g h. each bs id b' (λ i u. IsAmong c u.events → IsAmong d w.events → c.by ≡ d.by → i ≡ j)
            (each bs id b' (λ j w. IsAmong c b'.events → IsAmong d w.events → c.by ≡ d.by → id ≡ j)
            (λ m n s. refl)
            (λ j w ne h m n s. ⊎_elim (λ o. k.one id j b w c d at h o n s) (λ q. absurd (other j w d ne h n (sym s ∙ q))) (pick c m)) j w h)
            (λ i u ne g. each bs id b' (λ j w. IsAmong c u.events → IsAmong d w.events → c.by ≡ d.by → i ≡ j)
            (λ m n s. ⊎_elim (λ o. k.one i id u b c d g at m o s) (λ q. absurd (other i u c ne g m (s ∙ q))) (pick d n))
            (λ j w ne' h. k.one i j u w c d g h) j w h) i u g;
        order = λ i u d. each bs id b' (λ i u. IsAmong d u.events → by_stream d.by u.events ≡ by_stream d.by (log ++ e ∷ []))
            (λ m. ⊎_elim (λ s. subst (λ q. by_stream q b'.events ≡ by_stream q (log ++ e ∷ [])) (sym s.0) now)
            (λ ne. ⊎_elim (λ o. let no : e.by ≢ d.by = λ s. ne.0 (sym s ∙ by) in by_other d.by b.events e no ∙ (k.order id b d at o ∙ sym (by_other d.by log e no))) (λ q. absurd (ne.0 q)) (pick d m)) (stream_cases d.by b.by))
            (λ i u ne g m. k.order i u d g m ∙ sym (by_other d.by log e (λ s. other i u d ne g m (sym s ∙ by)))) i u;
        own = each bs id b' (λ i u. u.live ≡ true → by_stream u.by u.events ≡ by_stream u.by (log ++ e ∷ []))
            (λ l. now)
            (λ i u ne g l. k.own i u g l ∙ sym (by_other u.by log e (λ s. apart i u ne g l (sym s ∙ by))));
        pure = λ i u d. each bs id b' (λ i u. u.main ≡ false → IsAmong d u.events → d.by ≡ u.by)
            (λ m a. ⊎_elim (λ o. k.pure id b d at m o) (λ q. ap (λ (z : Event). z.by) q ∙ by) (among_snoc b.events d e a))
            (λ i u ne g. k.pure i u d g) i u;
        floor = each bs id b' (λ i u. u.floor ≤ length (log ++ e ∷ [])) (let t = k.floor id b at in let l = length_push log e in omega arith) (λ i u ne g. let t = k.floor i u g in let l = length_push log e in omega arith);
        above = λ i u d. each bs id b' (λ i u. IsAmong d u.events → d.by ≡ u.by → u.floor ≤ d.stamp)
            (λ m s. ⊎_elim (λ o. k.above id b d at o s) (λ q. let f = k.floor id b at in let z : d.stamp ≡ e.stamp = ap (λ (z : Event). z.stamp) q in omega arith) (among_snoc b.events d e m))
            (λ i u ne g. k.above i u d g) i u;
      }

  pub tick_seats : (ws : List Who) → SeatsAgree log ws → (id : ℕ) (w : Who) → IsAt ws id w → w.live ≡ true → e.by ≡ w.by → SeatsAgree (log ++ e ∷ []) ws
  tick_seats ws k id w at live by = record {
    main = k.main;
    one = k.one;
    alive = k.alive;
    out = k.out;
    had = k.had;
    apart = k.apart;
    names = k.names;
    noted = λ i v d g m a ne. ⊎_elim (λ o. k.noted i v d g m o ne)
        (λ q. elim w.main as (λ b. w.main ≡ b → (n : ℕ) × (d.by ≡ Inner n) × IsAmong n v.had) [
          | true ↦ λ is. absurd (ne (ap (λ (z : Event). z.by) q ∙ (by ∙ ap (λ (z : Who). z.by) (one_at ws i w v (subst (λ n. IsAt ws n w) (sym (k.one i id v w g at m is)) at) g))))
          | false ↦ λ is. let t = k.out i id v w g at m live is in (t.0, ap (λ (z : Event). z.by) q ∙ (by ∙ t.1), k.had i t.0 v g m t.2)
        ] refl)
        (among_snoc log d e a);
  }

  -- an event that ends no row
  pub tick_rows : (rows : ℕ) (word : ℕ → ℕ) (ws : List Holdings) → RowsAgree rows word log ws → ((r : ℕ) (how : Exit) (ok : Bool) → e.what ≢ Final r how ok) → ((r s : ℕ) → e.what ≡ Acquire r s → r < rows) → RowsAgree rows word (log ++ e ∷ []) ws
  tick_rows rows word ws k no_final within r =
      stands_more (k r) (acquired_more log e) (row_closed_more log e) (finalized_more log e) (λ f. ⊎_elim (λ o. o) (λ t. absurd (no_final r t.0 t.1 t.2)) (finalized_snoc log e r f))
      (λ far a. ⊎_elim (λ o. o) (λ t. let l = within r t.0 t.1 in absurd (omega arith)) (acquired_snoc log e r a))

  pub tick_ownerships : (ds : List Ownership) → OwnershipsAgree log ds → (id : ℕ) (d d' : Ownership) → IsAt ds id d → d'.by ≡ d.by → d'.events ≡ d.events ++ e ∷ [] → d'.empty ≡ d.empty → d'.opened ≡ d.opened → ((r : ℕ) → IsAmong r d'.handed → IsAmong r d.handed)
      → ((i r s : ℕ) (u : Ownership) → i ≢ id → IsAt ds i u → IsAmong r u.empty → e.what ≢ Acquire r s) → OwnershipsAgree (log ++ e ∷ []) (slice_set ds id d')
  tick_ownerships ds k id d d' at by events empty open_count hands apart = record {
    fresh = λ i r t q u. each ds id d' (λ i u. IsAmong r u.empty → Notes (log ++ e ∷ []) q (Acquire r t) → Notes u.events q (Acquire r t))
        (λ a n. subst (λ l. Notes l q (Acquire r t)) (sym events) (⊎_elim (λ o. noted_more d.events e (k.fresh id r t q d at (subst (λ l. IsAmong r l) empty a) o)) (λ x. (e, among_last d.events e, x.0, x.1)) (noted_snoc log e q (Acquire r t) n)))
        (λ i u ne g a n. ⊎_elim (λ o. k.fresh i r t q u g a o) (λ x. absurd (apart i r t u ne g a x.1)) (noted_snoc log e q (Acquire r t) n)) i u;
    opened = λ i r u. each ds id d' (λ i u. IsAmong r u.opened → (s : ℕ) × Notes (log ++ e ∷ []) u.by (Acquire r s))
        (λ a. let t = k.opened id r d at (subst (λ l. IsAmong r l) open_count a) in (t.0, noted_more log e (subst (λ b. Notes log b (Acquire r t.0)) (sym by) t.1)))
        (λ i u ne g a. let t = k.opened i r u g a in (t.0, noted_more log e t.1)) i u;
    handed = λ i r u. each ds id d' (λ i u. IsAmong r u.handed → HasRight (log ++ e ∷ []) u.by r)
        (λ a. right_more log e d'.by r (subst (λ b. HasRight log b r) (sym by) (k.handed id r d at (hands r a))))
        (λ i u ne g a. right_more log e u.by r (k.handed i r u g a)) i u;
  }

  pub tick_pays : {P : Type 0} (word : ℕ → ℕ) (slot : ℕ → Option P) (ps : List (Purse P)) → PaysAgree word slot log ps → ((r : ℕ) (how : Exit) (ok : Bool) → e.what ≢ Final r how ok) → PaysAgree word slot (log ++ e ∷ []) ps
  tick_pays word slot ps k no_final = record { left_when = k.left_when; given_when = k.given_when; left_one = k.left_one; given_is = k.given_is; waits = k.waits; handed = k.handed; final = λ r f. ⊎_elim (k.final r) (λ t. absurd (no_final r t.0 t.1 t.2)) (finalized_snoc log e r f) }

  -- an event that makes and ends no lease
  pub tick_leases : (hs : List Hold) → LeasesAgree log hs → ((j s : ℕ) → e.what ≢ Lease j s) → ((j : ℕ) (how : Exit) → e.what ≢ Cancel j how) → LeasesAgree (log ++ e ∷ []) hs
  tick_leases hs k no_lease no_cancel = record {
    by_main = λ i j s q h g m n. ⊎_elim (k.by_main i j s q h g m) (λ t. absurd (no_lease j s t.1)) (noted_snoc log e q (Lease j s) n);
    stand = λ j r q c. ⊎_elim (λ o. ⊎_elim (λ x. inl (canceled_more log e x)) (λ x. inr x) (k.stand j r q o)) (λ t. absurd (no_lease j t.0 t.2)) (covers_snoc log e j r q c);
    paired = λ i j r h g m. ⊎_elim (λ o. inl (o.0, covers_more log e o.1)) (λ o. inr ((λ l. ⊎_elim o.0 (λ t. no_lease j t.0 t.1) (leased_snoc log e j l)), o.1, o.2)) (k.paired i j r h g m);
    holder = k.holder;
    kept = λ i j h g m. let o = k.kept i j h g m in (leased_more log e o.0, (λ c. ⊎_elim o.1 (λ t. no_cancel j t.0 t.1) (canceled_snoc log e j c)), o.2);
    keeper = λ j l. ⊎_elim (λ o. ⊎_elim (λ c. inl (canceled_more log e c)) (λ x. inr x) (k.keeper j o)) (λ t. absurd (no_lease j t.0 t.1)) (leased_snoc log e j l);
    kept_once = k.kept_once;
    pair_once = k.pair_once;
  }

  pub lease_leases : (hs : List Hold) → LeasesAgree log hs → (id j s : ℕ) (h : Hold) → IsAt hs id h → h.main ≡ true → ((i : ℕ) (u : Hold) → IsAt hs i u → u.main ≡ true → i ≡ id) → IsLegal log → e.by ≡ h.by → e.what ≡ Lease j s
      → ¬ (IsLeased log j) → ¬ (IsAmong j h.had) → ((r : ℕ) → (IsAmong (j, r) h.pairs → IsCoveredBy log h.by s r) × (IsCoveredBy log h.by s r → IsAmong (j, r) h.pairs)) → LeasesAgree (log ++ e ∷ []) (slice_set hs id (record h { kept = h.kept ++ j ∷ [] }))
  lease_leases hs k id j s h at main only legal by is new no_seat pairs = let h' : Hold = record h { kept = h.kept ++ j ∷ [] } in
      let no_cancel : (i : ℕ) (how : Exit) → e.what ≢ Cancel i how = λ i how c. kinds_apart (sym is ∙ c) refl in
      let stream : (i t : ℕ) → e.what ≡ Lease i t → (j ≡ i) × (s ≡ t) = λ i t w. lease_stream j i s t (sym is ∙ w) in record {
        by_main = λ i a b q u. each hs id h' (λ i u. u.main ≡ true → Notes (log ++ e ∷ []) q (Lease a b) → q ≡ u.by)
            (λ m n. ⊎_elim (k.by_main id a b q h at m) (λ t. sym t.0 ∙ by) (noted_snoc log e q (Lease a b) n))
            (λ i u ne g m n. absurd (ne (only i u g m))) i u;
        stand = λ i r q c. ⊎_elim
            (λ o. ⊎_elim (λ x. inl (canceled_more log e x)) (λ x. inr (some_put hs id h h' at (λ (u : Hold). IsAmong (i, r) u.pairs) (λ m. m) x)) (k.stand i r q o))
            (λ t. inr (id, h', put_here hs id h h' at, let w = stream i t.0 t.2 in subst (λ (n : ℕ). IsAmong (n, r) h.pairs) w.0 ((pairs r).1 (subst (λ n. IsCoveredBy log h.by n r) (sym w.1) (subst (λ n. IsCoveredBy log n t.0 r) (sym t.1 ∙ by) t.3)))))
            (covers_snoc log e i r q c);
        paired = λ i a r u. each hs id h' (λ i u. IsAmong (a, r) u.pairs → ((q : StreamNo) × Covers (log ++ e ∷ []) a q r) ⊎ (¬ (IsLeased (log ++ e ∷ []) a) × (u.main ≡ true) × IsAmong r u.opened))
            (λ m. ⊎_elim (λ o. inl (o.0, covers_more log e o.1))
            (λ o. ⊎_elim
            (λ w. inl (e.by, covers_new log e a s r (is ∙ ap (λ n. Lease n s) (sym w)) (subst (λ n. IsCoveredBy log n s r) (sym by) ((pairs r).0 (subst (λ (n : ℕ). IsAmong (n, r) h.pairs) w m)))))
            (λ ne. inr ((λ l. ⊎_elim o.0 (λ t. ne (sym (stream a t.0 t.1).0)) (leased_snoc log e a l)), o.1, o.2))
            (cases_eq a j))
            (k.paired id a r h at m))
            (λ i u ne g m. ⊎_elim (λ o. inl (o.0, covers_more log e o.1)) (λ o. absurd (ne (only i u g o.1))) (k.paired i a r u g m)) i u;
        holder = λ i a r u. each hs id h' (λ i u. IsAmong (a, r) u.pairs → ((u.main ≡ true) × ¬ (IsAmong a u.had)) ⊎ (u.by ≡ Inner a)) (k.holder id a r h at) (λ i u ne g. k.holder i a r u g) i u;
        kept = λ i a u. each hs id h' (λ i u. IsAmong a u.kept → IsLeased (log ++ e ∷ []) a × ¬ (IsCanceled (log ++ e ∷ []) a) × (((u.main ≡ true) × ¬ (IsAmong a u.had)) ⊎ (u.by ≡ Inner a)))
            (λ m. ⊎_elim
            (λ o. let t = k.kept id a h at o in (leased_more log e t.0, (λ c. ⊎_elim t.1 (λ w. no_cancel a w.0 w.1) (canceled_snoc log e a c)), t.2))
            (λ w. subst (λ n. IsLeased (log ++ e ∷ []) n × ¬ (IsCanceled (log ++ e ∷ []) n) × (((h.main ≡ true) × ¬ (IsAmong n h.had)) ⊎ (h.by ≡ Inner n))) (sym w)
            ((e.by, s, (e, among_last log e, refl, is)), (λ c. ⊎_elim (λ o. new (canceled_leased log j legal o)) (λ w. no_cancel j w.0 w.1) (canceled_snoc log e j c)), inl (main, no_seat)))
            (among_snoc h.kept a j m))
            (λ i u ne g m. let t = k.kept i a u g m in (leased_more log e t.0, (λ c. ⊎_elim t.1 (λ w. no_cancel a w.0 w.1) (canceled_snoc log e a c)), t.2)) i u;
        keeper = λ a l. ⊎_elim
            (λ o. ⊎_elim (λ c. inl (canceled_more log e c)) (λ x. inr (some_put hs id h h' at (λ (u : Hold). IsAmong a u.kept) (among_left (j ∷ [])) x)) (k.keeper a o))
            (λ t. inr (id, h', put_here hs id h h' at, subst (λ n. IsAmong n (h.kept ++ j ∷ [])) (stream a t.0 t.1).0 (among_last h.kept j)))
            (leased_snoc log e a l);
        kept_once = λ a. let t = total_set (λ (u : Hold). times a u.kept) hs id h h' at in let o = k.kept_once a in
            ⊎_elim
            (λ w. let p = push_same j h.kept in
            let none : total (λ (u : Hold). times a u.kept) hs ≡ 0 = ⊎_elim (λ z. z) (λ le. let x = total_some (λ (u : Hold). times a u.kept) hs le in absurd (new (subst (λ n. IsLeased log n) w (k.kept x.0 a x.1 x.2 (times_in a x.1.kept x.3)).0))) (zero_or (total (λ (u : Hold). times a u.kept) hs)) in
            let p' : times a (h.kept ++ j ∷ []) ≡ times a h.kept + 1 = subst (λ n. times n (h.kept ++ j ∷ []) ≡ times n h.kept + 1) (sym w) p in omega arith)
            (λ ne. let p = push_other a j h.kept ne in omega arith)
            (cases_eq a j);
        pair_once = λ a r. let t = total_set (λ (u : Hold). pair_times a r u.pairs) hs id h h' at in let o = k.pair_once a r in omega arith;
      }

  pub cancel_leases : (hs : List Hold) → LeasesAgree log hs → (id j : ℕ) (how : Exit) (h : Hold) → IsAt hs id h → e.what ≡ Cancel j how → IsAmong j h.kept → LeasesAgree (log ++ e ∷ []) (slice_set hs id (record h { kept = without j h.kept }))
  cancel_leases hs k id j how h at is mine = let h' : Hold = record h { kept = without j h.kept } in
      let no_lease : (i t : ℕ) → e.what ≢ Lease i t = λ i t c. kinds_apart (sym c ∙ is) refl in
      let stream : (i : ℕ) (x : Exit) → e.what ≡ Cancel i x → j ≡ i = λ i x w. cancel_stream j i how x (sym is ∙ w) in record {
        by_main = λ i a b q u. each hs id h' (λ i u. u.main ≡ true → Notes (log ++ e ∷ []) q (Lease a b) → q ≡ u.by)
            (λ m n. ⊎_elim (k.by_main id a b q h at m) (λ t. absurd (no_lease a b t.1)) (noted_snoc log e q (Lease a b) n))
            (λ i u ne g m n. ⊎_elim (k.by_main i a b q u g m) (λ t. absurd (no_lease a b t.1)) (noted_snoc log e q (Lease a b) n)) i u;
        stand = λ i r q c. ⊎_elim
            (λ o. ⊎_elim (λ x. inl (canceled_more log e x)) (λ x. inr (some_put hs id h h' at (λ (u : Hold). IsAmong (i, r) u.pairs) (λ m. m) x)) (k.stand i r q o))
            (λ t. absurd (no_lease i t.0 t.2)) (covers_snoc log e i r q c);
        paired = λ i a r u. each hs id h' (λ i u. IsAmong (a, r) u.pairs → ((q : StreamNo) × Covers (log ++ e ∷ []) a q r) ⊎ (¬ (IsLeased (log ++ e ∷ []) a) × (u.main ≡ true) × IsAmong r u.opened))
            (λ m. ⊎_elim (λ o. inl (o.0, covers_more log e o.1)) (λ o. inr ((λ l. ⊎_elim o.0 (λ t. no_lease a t.0 t.1) (leased_snoc log e a l)), o.1, o.2)) (k.paired id a r h at m))
            (λ i u ne g m. ⊎_elim (λ o. inl (o.0, covers_more log e o.1)) (λ o. inr ((λ l. ⊎_elim o.0 (λ t. no_lease a t.0 t.1) (leased_snoc log e a l)), o.1, o.2)) (k.paired i a r u g m)) i u;
        holder = λ i a r u. each hs id h' (λ i u. IsAmong (a, r) u.pairs → ((u.main ≡ true) × ¬ (IsAmong a u.had)) ⊎ (u.by ≡ Inner a)) (k.holder id a r h at) (λ i u ne g. k.holder i a r u g) i u;
        kept = λ i a u. each hs id h' (λ i u. IsAmong a u.kept → IsLeased (log ++ e ∷ []) a × ¬ (IsCanceled (log ++ e ∷ []) a) × (((u.main ≡ true) × ¬ (IsAmong a u.had)) ⊎ (u.by ≡ Inner a)))
            (λ m. let b = among_without j h.kept a m in let t = k.kept id a h at b.0 in (leased_more log e t.0, (λ c. ⊎_elim t.1 (λ w. b.1 (sym (stream a w.0 w.1))) (canceled_snoc log e a c)), t.2))
            (λ i u ne g m. let t = k.kept i a u g m in (leased_more log e t.0, (λ c. ⊎_elim t.1 (λ w. ne (total_one (λ (u : Hold). times a u.kept) hs i id u h (k.kept_once a) g at (times_some a u.kept m) (times_some a h.kept (subst (λ n. IsAmong n h.kept) (stream a w.0 w.1) mine)))) (canceled_snoc log e a c)), t.2)) i u;
        keeper = λ a l. ⊎_elim
            (λ o. ⊎_elim (λ c. inl (canceled_more log e c))
            (λ x. ⊎_elim (λ w. inl (e.by, (how, (e, among_last log e, refl, is ∙ ap (λ n. Cancel n how) (sym w))))) (λ ne. inr (some_put hs id h h' at (λ (u : Hold). IsAmong a u.kept) (λ m. among_kept j h.kept a m ne) x)) (cases_eq a j))
            (k.keeper a o))
            (λ t. absurd (no_lease a t.0 t.1))
            (leased_snoc log e a l);
        kept_once = λ a. let t = total_set (λ (u : Hold). times a u.kept) hs id h h' at in let o = k.kept_once a in
            ⊎_elim (λ w. let p : times a (without j h.kept) ≡ 0 = subst (λ n. times n (without j h.kept) ≡ 0) (sym w) (without_same j h.kept) in omega arith) (λ ne. let p = without_other j a h.kept ne in omega arith) (cases_eq a j);
        pair_once = λ a r. let t = total_set (λ (u : Hold). pair_times a r u.pairs) hs id h h' at in let o = k.pair_once a r in omega arith;
      }

  pub final_rows : (rows : ℕ) (word : ℕ → ℕ) (ws : List Holdings) → RowsAgree rows word log ws → (id r : ℕ) (how : Exit) (ok : Bool) (w : Holdings) → IsAt ws id w → e.what ≡ Final r how ok → IsAmong r w.handed → RowsAgree rows word (log ++ e ∷ []) (slice_set ws id (record w { handed = without r w.handed }))
  final_rows rows word ws k id r how ok w at is mine q =
      let w' : Holdings = record w { handed = without r w.handed } in
      let a = total_set (λ (u : Holdings). times q u.empty) ws id w w' at in
      let b = total_set (λ (u : Holdings). times q u.opened) ws id w w' at in
      let c = total_set (λ (u : Holdings). row_times q u.pairs) ws id w w' at in
      let d = total_set (λ (u : Holdings). times q u.handed) ws id w w' at in
      let ta = times q w.empty in let tb = times q w.opened in let tc = row_times q w.pairs in
      let ea : empties q ws ≡ empties q (slice_set ws id w') = omega arith in
      let eb : open_count q ws ≡ open_count q (slice_set ws id w') = omega arith in
      let ec : leases q ws ≡ leases q (slice_set ws id w') = omega arith in
      ⊎_elim
      (λ s. let z : times q (without r w.handed) ≡ 0 = subst (λ n. times n (without r w.handed) ≡ 0) (sym s) (without_same r w.handed) in
      let y = times_some q w.handed (subst (λ n. IsAmong n w.handed) (sym s) mine) in
      stands_is (stands_final (k q) (times q w.handed) y (omega arith) (row_closed_more log e) (e.by, ok, (how, (e, among_last log e, refl, is ∙ ap (λ n. Final n how ok) (sym s))))) refl ea eb ec refl)
      (λ ne. let z = without_other r q w.handed ne in
      let ed : hands q ws ≡ hands q (slice_set ws id w') = omega arith in
      stands_is (stands_more (k q) (acquired_more log e) (row_closed_more log e) (finalized_more log e) (λ f. ⊎_elim (λ o. o) (λ t. absurd (ne (final_row q r t.0 how t.1 ok (sym t.2 ∙ is)))) (finalized_snoc log e q f))
      (λ far x. ⊎_elim (λ o. o) (λ t. absurd (kinds_apart (sym t.1 ∙ is) refl)) (acquired_snoc log e q x))) refl ea eb ec ed)
      (cases_eq q r)

  pub final_pays : {P : Type 0} (word : ℕ → ℕ) (slot : ℕ → Option P) (ps : List (Purse P)) → PaysAgree word slot log ps → (id r : ℕ) (how : Exit) (ok : Bool) (p : Purse P) → IsAt ps id p → e.what ≡ Final r how ok → IsAmong r p.handed
      → PaysAgree word slot (log ++ e ∷ []) (slice_set ps id (record p { handed = without r p.handed; taken = without r p.taken }))
  final_pays {P} word slot ps k id r how ok p at is mine =
      let p' : Purse P = record p { handed = without r p.handed; taken = without r p.taken } in
      let left : (q : ℕ) (x : P) → LeftIn (slice_set ps id p') q x → LeftIn ps q x = λ q x. some_back ps id p p' at (λ (u : Purse P). IsAmong (q, x) u.left) (λ m. m) in
      let given : (q : ℕ) (x : P) → GivenIn (slice_set ps id p') q x → GivenIn ps q x = λ q x. some_back ps id p p' at (λ (u : Purse P). IsAmong (q, x) u.given) (λ m. m) in
      let left' : (q : ℕ) (x : P) → LeftIn ps q x → LeftIn (slice_set ps id p') q x = λ q x. some_put ps id p p' at (λ (u : Purse P). IsAmong (q, x) u.left) (λ m. m) in
      let given' : (q : ℕ) (x : P) → GivenIn ps q x → GivenIn (slice_set ps id p') q x = λ q x. some_put ps id p p' at (λ (u : Purse P). IsAmong (q, x) u.given) (λ m. m) in
      pays_same k left left' given (λ q n e le. refl)
      (λ i q u. each ps id p' (λ i u. IsAmong q u.handed → (x : P) × IsAmong (q, x) u.given × (¬ (IsAmong q u.taken) → slot q ≡ Some x))
      (λ m. let b = among_without r p.handed q m in let t = k.handed id q p at b.0 in (t.0, t.1, λ f. t.2 (λ n. f (among_kept r p.taken q n b.1))))
      (λ i u ne g. k.handed i q u g) i u)
      (λ q f. ⊎_elim (λ o. let t = k.final q o in (t.0, given' q t.0 t.1))
      (λ t. let b = k.handed id r p at mine in subst (λ n. (x : P) × GivenIn (slice_set ps id p') n x) (sym (final_row q r t.0 how t.1 ok (sym t.2 ∙ is))) (b.0, given' r b.0 (id, p, at, b.1)))
      (finalized_snoc log e q f))
