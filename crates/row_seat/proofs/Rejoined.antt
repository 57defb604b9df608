-- A main seat that has just taken another in, read off by one look at the rule: the two were apart, where each kept of itself what a seat knows of itself alone.
use Rattle.std.proofs.Common.{◌≡◌, ◌≢◌, ℕ, ◌≤◌, ◌⊎◌, map, List, [], ◌++◌, sym, ◌∙◌, subst, ⊎_elim, arith}
use Rattle.std.specs.Prelude.{Option}
use Rattle.chunk_core.specs.Lists.{IsAmong}
use Rattle.chunk_core.proofs.Filters.{among_right}
use Rattle.chunk_core.proofs.Members.{among_left, among_nil}
use Rattle.chunk_core.proofs.Places.{at_map}
use Rattle.res_ledger.specs.Ledger.{IsAcquired, IsFinalized}
use Rattle.res_ledger.specs.declared.event.Event.{Event}
use Rattle.res_ledger.specs.declared.event.StreamNo.TheVariants.{Inner}
use Rattle.row_seat.specs.declared.token.Token.{Token}
use Rattle.row_seat.specs.Rule.{RuleHolds, Holdings, KnowsRows, book, purse, view_of, work}
use Rattle.row_seat.specs.Steps.{joined}
use Rattle.row_seat.specs.Totals.{IsAt, row_times, times}
use Rattle.row_seat.specs.Views.{AreApart}
use Rattle.row_seat.proofs.Rows.{is_vacant}
use Rattle.row_seat.proofs.Times.{row_some, times_both, times_some}
use Rattle.row_seat.proofs.Totals.{total_at}
use Rattle.res_ledger.proofs.Ledgers.{inner_is}

module _ {P : Type 0} where
  -- each of its events is in its own name or in that of a stream whose seat isn't out
  abbrev pub KnowsNames : Token P → Type 0
  KnowsNames v = (e : Event) → IsAmong e v.events → (e.by ≡ v.by) ⊎ ((m : ℕ) × (e.by ≡ Inner m) × ¬ (IsAmong m v.out))

  module _ {rows room : ℕ} {word : ℕ → ℕ} {slot : ℕ → Option P} {log : List Event} {views : List (Token P)} (rule : RuleHolds rows room word slot log views) (id : ℕ) (v w : Token P) (at : IsAt views id (joined v w))
      (n : ℕ) (by : w.by ≡ Inner n) (out : IsAmong n v.out) (foreign : v.by ≢ Inner n) (names : KnowsNames v) (pure : (e : Event) → IsAmong e w.events → e.by ≡ w.by)
      (mine : KnowsRows v) (theirs : KnowsRows w) (shut : w.opened ≡ []) (unused : (r : ℕ) → IsAmong r w.empty → ¬ (IsAcquired w.events r)) where
    ak : IsAt (map work views) id (work (joined v w))
    ak = at_map work views id (joined v w) at

    empty_row : (r : ℕ) → 1 ≤ times r (v.empty ++ w.empty) → (word r ≡ 0) × (times r (v.empty ++ w.empty) ≤ 1) × (times r v.opened ≡ 0) × (row_times r v.pairs ≡ 0) × ¬ (IsFinalized log r)
    empty_row r m =
        let ws = map work views in
        let l = total_at (λ (u : Holdings). times r u.empty) ws id (work (joined v w)) ak in
        let o = total_at (λ (u : Holdings). times r u.opened) ws id (work (joined v w)) ak in
        let k = total_at (λ (u : Holdings). row_times r u.pairs) ws id (work (joined v w)) ak in
        let s = is_vacant (rule.words r) (omega (l, m, arith)) in let s2 = s.2 in let s3 = s.3 in let s4 = s.4 in
        (s.1, omega (l, s2, arith), omega (o, s3, arith), omega (k, s4, arith), s.6)

    not_left : (r : ℕ) (p : P) → IsAmong (r, p) (v.left ++ w.left) → word r ≡ 0 → ⊥
    not_left r p m z = let k = rule.pays.left_when r p (id, purse (joined v w), at_map purse views id (joined v w) at, m) in let k1 = k.1 in absurd (omega (k1, z, arith))

    in_mine : (r : ℕ) → IsAmong r v.empty → 1 ≤ times r (v.empty ++ w.empty)
    in_mine r m = let t = times_both r v.empty w.empty in let s = times_some r v.empty m in omega (t, s, arith)

    in_theirs : (r : ℕ) → IsAmong r w.empty → 1 ≤ times r (v.empty ++ w.empty)
    in_theirs r m = let t = times_both r v.empty w.empty in let s = times_some r w.empty m in omega (t, s, arith)

    -- no other empty row has an Acquire of the other seat
    no_kept : (r : ℕ) → IsAmong r v.empty → ¬ (IsAcquired w.events r)
    no_kept r m a = let e = empty_row r (in_mine r m) in ⊎_elim
        (λ h. unused r h a)
        (λ b. ⊎_elim (λ o. among_nil (subst (λ l. IsAmong r l) shut o)) (λ l. not_left r l.0 (among_right _ v.left w.left l.1) e.0) b)
        (theirs r a)

    no_taken : (r : ℕ) → IsAmong r w.empty → ¬ (IsAcquired v.events r)
    no_taken r m a = let e = empty_row r (in_theirs r m) in let e1 = e.1 in let e2 = e.2 in ⊎_elim
        (λ h. let t = times_both r v.empty w.empty in let s = times_some r v.empty h in let u = times_some r w.empty m in absurd (omega (t, s, u, e1, arith)))
        (λ b. ⊎_elim (λ o. let s = times_some r v.opened o in absurd (omega (s, e2, arith))) (λ l. not_left r l.0 (among_left w.left l.1) e.0) b)
        (mine r a)

    pub were_apart : (hs ks : List (ℕ × P)) → AreApart (view_of v hs) (view_of w ks)
    were_apart hs ks = record {
      events = λ e m b. foreign (sym b ∙ (pure e m ∙ by));
      own = pure;
      mine = λ e m b. ⊎_elim (λ s. foreign (sym s ∙ (b ∙ by))) (λ s. s.2 (subst (λ i. IsAmong i v.out) (inner_is n s.0 (sym by ∙ (sym b ∙ s.1))) out)) (names e m);
      kept = λ r m a. absurd (no_kept r m a);
      taken = λ r m a. absurd (no_taken r m a);
      vacant = λ r m. let e = empty_row r (in_theirs r m) in let e3 = e.3 in (
        (λ f. e.4 (f.0, f.1, (f.2.0, (f.2.1.0, rule.books.inside id (book (joined v w)) f.2.1.0 (at_map book views id (joined v w) at) (among_left w.events f.2.1.1), f.2.1.2, f.2.1.3)))),
        λ j p. let q = row_some j r v.pairs p in absurd (omega (q, e3, arith)),
      );
    }
