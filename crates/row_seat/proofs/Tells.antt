-- What the rule tells of a row's leases, and of how many events there are.
use Rattle.std.proofs.Common.{◌≡◌, ◌≢◌, ℕ, zero, suc, ◌+◌, ◌*◌, ◌^◌, ◌<◌, ◌≤◌, map, List, [], ◌∷◌, ◌++◌, length, refl, sym, ap, ◌∙◌, subst, ⊎_elim, arith}
use Rattle.std.specs.Prelude.{Some, Option}
use Rattle.std.proofs.lemmas.Bool.{cases_eq}
use Rattle.chunk_core.specs.Lists.{IsAmong}
use Rattle.chunk_core.proofs.Members.{among_mid}
use Rattle.chunk_core.proofs.Places.{at_map}
use Rattle.res_ledger.specs.Ledger.{IsStamped}
use Rattle.res_ledger.proofs.Ledgers.{stamp_below}
use Rattle.res_ledger.specs.declared.event.Event.{Event}
use Rattle.row_seat.specs.declared.token.Token.{Token}
use Rattle.row_seat.specs.Totals.{total, times, row_times, pair_times, stamp_times}
use Rattle.std.specs.Map.{keys_of}
use Rattle.row_seat.specs.Views.{IsLastLease, without_pair}
use Rattle.row_seat.specs.Rule.{IsSeated, RuleHolds, Book, Holdings, Hold, book, work, hold, purse, view_of, leases}
use Rattle.row_seat.proofs.Hands.{row_among}
use Rattle.row_seat.proofs.Totals.{total_at, total_map, total_sum}
use Rattle.row_seat.proofs.Times.{stamp_some, times_some, row_some, pair_some, row_less, pair_kept}
use Rattle.row_seat.proofs.Pigeonholes.{pairs_below, stamps_each}
use Rattle.row_seat.proofs.Rows.{is_leased}
use Rattle.row_seat.proofs.Moves.{some_is}

parts_at : {A : Type 0} (L : List A) (n : ℕ) → n < length L → (P Q : List A) × (x : A) × (L ≡ P ++ x ∷ Q) × (length P ≡ n)
parts_at [] n l = absurd (omega arith)
parts_at (x ∷ L) zero l = ([], L, x, refl, refl)
parts_at (x ∷ L) (suc n) l = let t = parts_at L n (omega arith) in (x ∷ t.0, t.1, t.2, ap (λ l. x ∷ l) t.3, ap suc t.4)

-- each number below the length of the ledger is the stamp of an event
stamp_at : (L : List Event) (n : ℕ) → IsStamped L → n < length L → (e : Event) × IsAmong e L × (e.stamp ≡ n)
stamp_at L n stamped l = let t = parts_at L n l in (t.2, subst (λ z. IsAmong t.2 z) (sym t.3) (among_mid t.0 t.1 t.2), stamped t.0 t.1 t.2 t.3 ∙ t.4)

two_pairs : (i j r : ℕ) (xs : List (ℕ × ℕ)) → i ≢ j → IsAmong (i, r) xs → IsAmong (j, r) xs → 2 ≤ row_times r xs
two_pairs i j r xs ne a b = let k = row_less i r xs in let p = pair_some i r xs a in let q = row_some j r (without_pair i r xs) (pair_kept i r j r xs b (λ e f. ne (sym e))) in omega arith

module _ {P : Type 0} {rows room : ℕ} {word : ℕ → ℕ} {slot : ℕ → Option P} {log : List Event} {views : List (Token P)} (rule : RuleHolds rows room word slot log views) where
  -- streams are numbered in 32 bits, and none leases a row twice
  pub leases_below : (r : ℕ) → leases r (map work views) ≤ 2 ^ 32
  leases_below r =
      let a = pairs_below (λ (u : Token P). u.pairs) r (2 ^ 32) views (λ i j u g m. rule.small i j r u g m) (λ j. subst (λ n. n ≤ 1) (total_map hold (λ (h : Hold). pair_times j r h.pairs) views) (rule.leases.pair_once j r)) in
      subst (λ n. n ≤ 2 ^ 32) (sym (total_map work (λ (u : Holdings). row_times r u.pairs) views)) a

  -- each event stands in one view, once
  pub all_told : total (λ (b : Book). length b.events) (map book views) ≡ length log
  all_told =
      let bs = map book views in let k = rule.books in
      stamps_each (λ (b : Book). b.events) (length log) bs (λ i b e g m. stamp_below log e k.stamped (k.inside i b e g m))
      (λ n l. let o = k.once n in let e = stamp_at log n k.stamped l in let w = k.whole e.0 e.1 in
      let s = subst (λ z. 1 ≤ stamp_times z w.1.events) e.2 (stamp_some e.0 w.1.events w.3) in let t = total_at (λ (b : Book). stamp_times n b.events) bs w.0 w.1 w.2 in omega arith)

  -- the events noted and the spare of all views together are the room
  pub tally : total (λ (b : Book). length b.events + b.spare) (map book views) ≡ room
  tally = let s = rule.books.sum in let t = all_told in let both = total_sum (λ (b : Book). length b.events) (λ (b : Book). b.spare) (map book views) in omega arith

  module _ {id : ℕ} {v : Token P} (seat : IsSeated views id v) where
    open seat use {at, live}

    -- the last lease of a closed row: the slot has what was left in it
    pub told_last : (j r : ℕ) (p : P) (hands : List (ℕ × P)) → keys_of hands ≡ v.opened → IsAmong (j, r) v.pairs → word r ≡ 7 → slot r ≡ Some p → IsLastLease (view_of v hands) j r p
    told_last j r p hands held m seven lies =
        let ws = map work views in let at' = at_map work views id v at in let l = total_at (λ (u : Holdings). row_times r u.pairs) ws id (work v) at' in let y = row_some j r v.pairs m in
        let s = is_leased (rule.words r) (omega arith) in
        let c = ⊎_elim (λ a. let a0 = a.0 in absurd (omega arith)) (λ a. a) s.4 in let c0 = c.0 in let c1 = c.1 in
        let x = rule.pays.waits r 1 (let a : 7 ≡ 3 + 4 * 1 = refl in seven ∙ a) (omega arith) in record {
          closed = λ o. let k = total_at (λ (u : Holdings). times r u.opened) ws id (work v) at' in let z = times_some r v.opened (row_among r hands v.opened held o) in omega arith;
          alone = λ i n. ⊎_elim (λ e. e) (λ ne. let w = two_pairs i j r v.pairs ne n m in absurd (omega arith)) (cases_eq i j);
          left = λ q n. rule.pays.left_one r q x.0 (id, purse v, at_map purse views id v at, n) x.1 ∙ some_is x.0 p (sym x.2 ∙ lies);
        }
