-- A seat is split off, and taken in.
use Rattle.std.proofs.Common.{◌≡◌, ◌≢◌, ℕ, ◌-◌, ◌≤◌, ◌⊎◌, true, eqb, not, [], inl, inr, sym, subst, ⊎_elim, arith}
use Rattle.atomic_table.specs.Table.{Splits, Joins}
use Rattle.chunk_core.specs.Lists.{IsAmong}
use Rattle.chunk_core.proofs.Filters.{among_filter}
use Rattle.chunk_core.proofs.Members.{among_nil}
use Rattle.chunk_core.proofs.Places.{at_set}
use Rattle.res_ledger.specs.declared.event.StreamNo.TheVariants.{Inner}
use Rattle.res_ledger.specs.Ledger.{IsAcquired, IsLeased}
use Rattle.row_seat.specs.Fronts.{IsSight}
use Rattle.row_seat.specs.declared.token.Token.{Token}
use Rattle.row_seat.specs.Rule.{IsInside, RuleHolds}
use Rattle.row_seat.specs.Steps.{joined, split_main, split_off}
use Rattle.row_seat.specs.Totals.{IsAt}
use Rattle.row_seat.specs.Views.{IsWithin, within}
use Rattle.row_seat.proofs.Changes.{each_more, each_two, map_more, map_two, some_more, some_two}
use Rattle.row_seat.proofs.Joins.{join_keeps}
use Rattle.row_seat.proofs.Members.{length_cut}
use Rattle.row_seat.proofs.Splits.{in_run, split_keeps}
use Rattle.row_seat.proofs.Times.{run_length, zero_or}
use Rattle.row_shared.specs.declared.table.Place.{Place}
use Rattle.row_shared.specs.declared.table.Start.{Start}
use Rattle.row_shared.specs.Places.{IsRows, TookIn, at_rest, gone_by, row_slot, row_word, token_of}
use Rattle.row_shared.proofs.Keeping.{seated}

module _ {P : Type 0} (k : Start) (id : ℕ) (t : Token P) (live : t.live ≡ true) where
  pub splits : (j from to n : ℕ) → t.main ≡ true → t.by ≢ Inner j → ¬ (IsAmong j t.had) → ((r : ℕ) → IsWithin from to r → IsAmong r t.empty × ¬ (IsAcquired t.events r)) → n ≤ t.spare → ((r : ℕ) → IsAmong (j, r) t.pairs → IsLeased t.events j)
      → Splits (λ s. IsRows k s) id (at_rest t) (at_rest (split_main t j from to n)) (at_rest (split_off t j from to n))
  splits j from to n main foreign no_seat span enough named s h at = let left = at_rest (split_main t j from to n) in let right = at_rest (split_off t j from to n) in record {
    log = h.log;
    small = h.small;
    words = h.words;
    slots = h.slots;
    stamp = h.stamp;
    rule = subst (λ l. RuleHolds k.rows k.events (row_word s.words) (row_slot s.homes) h.log l) (sym (map_more token_of s.views id left right))
        (split_keeps h.rule (seated h id at live) j from to n main foreign no_seat span enough named);
    homes = λ r l. ⊎_elim (λ o. inl o) (λ o. inr (some_more s.views id (at_rest t) left right at (λ (u : Place P). IsAmong r u.lifted) (λ m. inl m) o)) (h.homes r l);
    lifts = λ i r u. each_more s.views id (at_rest t) left right at (λ i u. IsAmong r u.lifted → IsAmong r u.token.opened ⊎ IsAmong r u.token.handed) (λ m. absurd (among_nil m)) (λ i u ne g. h.lifts i r u g) (λ m. absurd (among_nil m)) i u;
    sights = λ i u x. each_more s.views id (at_rest t) left right at (λ i u. IsAmong x u.sights → IsSight h.log x) (λ m. absurd (among_nil m)) (λ i u ne g. h.sights i u x g) (λ m. absurd (among_nil m)) i u;
  }

  pub joins : (jd : ℕ) (w : Token P) → w.live ≡ true → t.main ≡ true → TookIn (joined t w) t w → w.pairs ≡ [] → w.kept ≡ [] → w.handed ≡ [] → Joins (λ s. IsRows k s) id (at_rest t) jd (at_rest w) (at_rest (joined t w)) (gone_by w.by)
  joins jd w live' main two no_pair no_kept no_hand s h at ne at1 =
      let a = at_rest (joined t w) in let b : Place P = gone_by w.by in
      let at' : IsAt s.views jd (at_rest w) = ⊎_elim (λ t. absurd (ne t.0)) (λ t. t.1) (at_set s.views id jd a (at_rest w) at1) in
      let apart : id ≢ jd = λ e. ne (sym e) in record {
        log = h.log;
        small = h.small;
        words = h.words;
        slots = h.slots;
        stamp = h.stamp;
        rule = subst (λ l. RuleHolds k.rows k.events (row_word s.words) (row_slot s.homes) h.log l) (sym (map_two token_of s.views id jd a b))
            (join_keeps h.rule (seated h id at live) (seated h jd at' live') main two.name two.by two.out two.shut no_pair no_kept no_hand);
        homes = λ r l. ⊎_elim (λ o. inl o) (λ o. inr (some_two s.views id jd (at_rest t) (at_rest w) a b at at' apart (λ (u : Place P). IsAmong r u.lifted) (λ m. m) (λ m. absurd (among_nil m)) o)) (h.homes r l);
        lifts = λ i r u. each_two s.views id jd (at_rest t) (at_rest w) a b at at' apart (λ i u. IsAmong r u.lifted → IsAmong r u.token.opened ⊎ IsAmong r u.token.handed) (λ m. absurd (among_nil m)) (λ m. absurd (among_nil m)) (λ i u ne ne' g. h.lifts i r u g) i u;
        sights = λ i u x. each_two s.views id jd (at_rest t) (at_rest w) a b at at' apart (λ i u. IsAmong x u.sights → IsSight h.log x) (λ m. absurd (among_nil m)) (λ m. absurd (among_nil m)) (λ i u ne ne' g. h.sights i u x g) i u;
      }

-- the rows of a seat that is split off, and of what is left
module _ {P : Type 0} (rows : ℕ) (v : Token P) (is : IsInside rows v) (j from to n : ℕ) where
  pub main_inside : IsInside rows (split_main v j from to n)
  main_inside = record {
    empty = λ r m. is.empty r (among_filter (λ r. not (within from to r)) r v.empty m).0;
    opened = is.opened;
    pairs = λ i r m. is.pairs i r (among_filter (λ (x : ℕ × ℕ). not (eqb x.0 j)) (i, r) v.pairs m).0;
    handed = is.handed;
    few = let a = is.few in let l = length_cut (λ r. not (within from to r)) v.empty in omega arith;
  }

  pub off_inside : ((r : ℕ) → IsWithin from to r → IsAmong r v.empty × ¬ (IsAcquired v.events r)) → IsInside rows (split_off v j from to n)
  off_inside span = record {
    empty = λ r m. is.empty r (span r (in_run from to r m)).0;
    opened = λ r m. absurd (among_nil m);
    pairs = λ i r m. is.pairs i r (among_filter (λ (x : ℕ × ℕ). eqb x.0 j) (i, r) v.pairs m).0;
    handed = λ r m. absurd (among_nil m);
    few = let l = run_length from (to - from) in ⊎_elim (λ z. omega arith) (λ t. let a = is.empty (to - 1) (span (to - 1) (omega arith, omega arith)).0 in omega arith) (zero_or (to - from));
  }
