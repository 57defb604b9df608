-- The rule under each step on one row.
use Rattle.std.proofs.Common.{◌≡◌, ◌≢◌, ℕ, ◌+◌, ◌-◌, ◌*◌, ◌<◌, ◌≤◌, ◌^◌, ◌⊎◌, true, map, List, [], ◌∷◌, ◌++◌, slice_set, inl, inr, refl, sym, ap, ◌∙◌, subst, ⊎_elim, arith}
use Rattle.std.specs.Prelude.{Some, None, Option}
use Rattle.std.proofs.lemmas.Bool.{cases_eq}
use Rattle.res_ledger.specs.declared.event.What.TheVariants.{Acquire, Cancel, Lease}
use Rattle.row_seat.specs.Totals.{IsAt, pair_times, row_times, times, total}
use Rattle.row_seat.specs.Rule.{BooksAgree, OwnershipsAgree, GivenIn, Hold, LeasesAgree, LeftIn, PaysAgree, Purse, RowsAgree, IsSeated, RuleHolds, SeatsAgree, RowStands, Who, Holdings, book, ownership, empties, hands, hold, leases, open_count, purse, who, work}
use Rattle.res_ledger.specs.Ledger.{Covers, IsAcquired, IsCanceled, IsClosed, IsFinalized, IsLeased, IsRowClosed, Notes, NotesCancel}
use Rattle.res_ledger.specs.declared.event.Event.{Event}
use Rattle.res_ledger.specs.Streams.{HasRight}
use Rattle.chunk_core.specs.Lists.{IsAmong}
use Rattle.res_ledger.specs.declared.event.StreamNo.{StreamNo}
use Rattle.row_seat.specs.declared.token.Token.{Token}
use Rattle.res_ledger.specs.declared.event.What.{What}
use Rattle.chunk_core.proofs.Members.{among_last, among_left, among_snoc}
use Rattle.row_seat.proofs.Members.{among_without}
use Rattle.row_seat.proofs.Ticked.{at_book, at_ownership, at_hold, at_purse, at_who, at_work, back, closed_forth, forth, keep, rule_put, small_put, taken_in_put}
use Rattle.chunk_core.proofs.Places.{at_map}
use Rattle.row_seat.specs.Rule.RowStands.{awaits, handed, opened}
use Rattle.res_ledger.proofs.Ledgers.{canceled_leased}
use Rattle.row_seat.proofs.Parts.{close_pays, covered_leased, ownership_step, give_pays, hold_step, pay_word, pays_same, shut_pays}
use Rattle.row_seat.proofs.Totals.{total_one, each, map_back, one_at, some_back, some_put, total_at, total_set, total_some}
use Rattle.row_seat.specs.Steps.{gone, handed_over, leased, placed, shut, took, without_one}
use Rattle.row_seat.proofs.Times.{gone_pair, one_among, one_kept, one_less, one_other, other_pair, pair_among, pair_in, pair_is, pair_kept, pair_push_other, pair_push_same, pair_some, push_other, push_same, row_else, row_less, row_push_other, row_push_same, row_some, times_some, without_other, without_same, zero_or}
use Rattle.row_seat.proofs.Rows.{handed_word, is_leased, is_open, is_vacant, row_step}
use Rattle.row_seat.specs.Views.{without_pair}

pub some_none : {A : Type 0} (x : A) → (let a : Option A = Some x in a ≡ None) → ⊥
some_none x e = cc

pub some_is : {A : Type 0} (x y : A) → (let a : Option A = Some x in let b : Option A = Some y in a ≡ b) → x ≡ y
some_is x y e = cc

module _ {P : Type 0} {rows room : ℕ} {word : ℕ → ℕ} {slot : ℕ → Option P} {log : List Event} {views : List (Token P)} (rule : RuleHolds rows room word slot log views) {id : ℕ} {v : Token P} (seat : IsSeated views id v) where
  open seat use {at, live}

  aw : IsAt (map who views) id (who v)
  aw = at_who rule seat

  ab : IsAt (map book views) id (book v)
  ab = at_book rule seat

  ak : IsAt (map work views) id (work v)
  ak = at_work rule seat

  ad : IsAt (map ownership views) id (ownership v)
  ad = at_ownership rule seat

  ah : IsAt (map hold views) id (hold v)
  ah = at_hold rule seat

  ap' : IsAt (map purse views) id (purse v)
  ap' = at_purse rule seat

  log_of : (w : What) → Notes v.events v.by w → Notes log v.by w
  log_of = forth rule seat

  same_ownerships : OwnershipsAgree log (slice_set (map ownership views) id (ownership v))
  same_ownerships = keep (λ l. OwnershipsAgree log l) (map ownership views) id (ownership v) ad rule.ownerships

  same_pays : (word' : ℕ → ℕ) → PaysAgree word' slot log (map purse views) → PaysAgree word' slot log (slice_set (map purse views) id (purse v))
  same_pays word' = keep (λ l. PaysAgree word' slot log l) (map purse views) id (purse v) ap'

  abbrev ws : List Holdings
  ws = map work views

  -- what the rule tells of a row that the seat has
  empty_here : (r : ℕ) → IsAmong r v.empty → (r < rows) × (word r ≡ 0) × (empties r ws ≡ 1) × (open_count r ws ≡ 0) × (leases r ws ≡ 0) × (hands r ws ≡ 0) × ¬ (IsFinalized log r)
  empty_here r m = let l = total_at (λ (u : Holdings). times r u.empty) ws id (work v) ak in let t = times_some r v.empty m in is_vacant (rule.words r) (omega arith)

  open_here : (r : ℕ) → IsAmong r v.opened → (r < rows) × (word r ≡ 1 + 4 * leases r ws) × (empties r ws ≡ 0) × (open_count r ws ≡ 1) × (hands r ws ≡ 0) × IsAcquired log r × ¬ (IsFinalized log r)
  open_here r m = let l = total_at (λ (u : Holdings). times r u.opened) ws id (work v) ak in let t = times_some r v.opened m in is_open (rule.words r) (omega arith)

  leased_here : (j r : ℕ) → IsAmong (j, r) v.pairs → (r < rows) × (empties r ws ≡ 0) × (hands r ws ≡ 0) × ¬ (IsFinalized log r) × (((word r ≡ 1 + 4 * leases r ws) × (open_count r ws ≡ 1) × IsAcquired log r) ⊎ ((word r ≡ 3 + 4 * leases r ws) × (open_count r ws ≡ 0) × IsRowClosed log r)) × (1 ≤ leases r ws)
  leased_here j r m = let l = total_at (λ (u : Holdings). row_times r u.pairs) ws id (work v) ak in let y = row_some j r v.pairs m in
      let many : 1 ≤ leases r ws = omega arith in let s = is_leased (rule.words r) many in (s.0, s.1, s.2, s.3, s.4, many)

  handed_here : (r : ℕ) → IsAmong r v.handed → (r < rows) × (word r ≡ 3) × (leases r ws ≡ 0) × (hands r ws ≡ 1)
  handed_here r m = let l = total_at (λ (u : Holdings). times r u.handed) ws id (work v) ak in let t = times_some r v.handed m in handed_word (rule.words r) (omega arith)

  pub row_empty : (r : ℕ) → IsAmong r v.empty → (r < rows) × (word r ≡ 0)
  row_empty r m = let s = empty_here r m in (s.0, s.1)

  pub row_open : (r : ℕ) → IsAmong r v.opened → (r < rows) × (word r ≡ 1 + 4 * leases r ws)
  row_open r m = let s = open_here r m in (s.0, s.1)

  pub row_leased : (j r : ℕ) → IsAmong (j, r) v.pairs → (r < rows) × (4 ≤ word r)
  row_leased j r m = let s = leased_here j r m in let s5 = s.5 in (s.0, ⊎_elim (λ a. let a0 = a.0 in omega arith) (λ a. let a0 = a.0 in omega arith) s.4)

  pub row_handed : (r : ℕ) → IsAmong r v.handed → (r < rows) × (word r ≡ 3)
  row_handed r m = let s = handed_here r m in (s.0, s.1)

  -- no pair stands on an empty row
  pub no_pair_on : (r : ℕ) → IsAmong r v.empty → (i : ℕ) (u : Token P) → IsAt views i u → (j : ℕ) → ¬ (IsAmong (j, r) u.pairs)
  no_pair_on r m i u g j p = let s4 = (empty_here r m).4 in let k = total_at (λ (u : Holdings). row_times r u.pairs) ws i (work u) (at_map work views i u g) in let q = row_some j r u.pairs p in omega arith

  -- a handed row is handed to one seat
  pub one_hand : (r i : ℕ) (u : Purse P) → IsAt (map purse views) i u → IsAmong r v.handed → IsAmong r u.handed → i ≡ id
  one_hand r i u g m n =
      let y = map_back purse views i u g in let s3 = (handed_here r m).3 in
      total_one (λ (u : Holdings). times r u.handed) ws i id (work y.0) (work v) (omega arith) (at_map work views i y.0 y.1) ak (times_some r y.0.handed (subst (λ (z : Purse P). IsAmong r z.handed) (sym y.2) n)) (times_some r v.handed m)

  -- the rule from its parts, where the seats and their events stay
  move : {word' : ℕ → ℕ} {slot' : ℕ → Option P} (w : Token P) → who w ≡ who v → book w ≡ book v → RowsAgree rows word' log (slice_set ws id (work w)) → OwnershipsAgree log (slice_set (map ownership views) id (ownership w)) → LeasesAgree log (slice_set (map hold views) id (hold w))
      → PaysAgree word' slot' log (slice_set (map purse views) id (purse w)) → ((j r : ℕ) → IsAmong (j, r) w.pairs → j < 2 ^ 32) → RuleHolds rows room word' slot' log (slice_set views id w)
  move {word' = word'} {slot' = slot'} w seats books words ownerships leases pays small = rule_put rows room word' slot' log views id w
      (subst (λ b. SeatsAgree log (slice_set (map who views) id b)) (sym seats) (keep (λ l. SeatsAgree log l) (map who views) id (who v) aw rule.seats))
      (subst (λ b. BooksAgree room log (slice_set (map book views) id b)) (sym books) (keep (λ l. BooksAgree room log l) (map book views) id (book v) ab rule.books))
      words ownerships leases pays (taken_in_put rule seat w (ap (λ (b : Who). b.live) seats ∙ live)) (small_put rule seat w small)

  -- an open row is handed to nobody
  pub not_handed : (r n : ℕ) → word r ≡ 1 + 4 * n → (i : ℕ) (p : Purse P) → IsAt (map purse views) i p → ¬ (IsAmong r p.handed)
  not_handed r n is i p g m =
      let y = map_back purse views i p g in let t = times_some r y.0.handed (subst (λ (z : Purse P). IsAmong r z.handed) (sym y.2) m) in
      let l = total_at (λ (u : Holdings). times r u.handed) ws i (work y.0) (at_map work views i y.0 y.1) in let w1 = (handed_word (rule.words r) (omega arith)).1 in omega arith

  gone_leases : (j r : ℕ) → IsCanceled log j → let h : Hold = record { main = v.main; by = v.by; had = v.had; pairs = without_pair j r v.pairs; kept = v.kept; opened = v.opened } in LeasesAgree log (slice_set (map hold views) id h)
  gone_leases j r lost = let hs = map hold views in let h : Hold = record { main = v.main; by = v.by; had = v.had; pairs = without_pair j r v.pairs; kept = v.kept; opened = v.opened } in
      hold_step log hs rule.leases id (hold v) h ah refl refl refl refl
      (λ i q m. ⊎_elim (λ e. inl (subst (λ n. IsCanceled log n) (sym e.0) lost)) (λ e. inr (pair_kept j r i q v.pairs m e.0)) (pair_is i q j r))
      (λ i q m. rule.leases.paired id i q (hold v) ah (pair_among j r i q v.pairs m).0)
      (λ i q m. rule.leases.holder id i q (hold v) ah (pair_among j r i q v.pairs m).0)
      (λ i q. let x = total_set (λ (u : Hold). pair_times i q u.pairs) hs id (hold v) h ah in let o = rule.leases.pair_once i q in let t = total_at (λ (u : Hold). pair_times i q u.pairs) hs id (hold v) ah in
      ⊎_elim (λ e. let g : pair_times i q (without_pair j r v.pairs) ≡ 0 = subst (λ n. pair_times n q (without_pair j r v.pairs) ≡ 0) (sym e.0) (subst (λ n. pair_times j n (without_pair j r v.pairs) ≡ 0) (sym e.1) (gone_pair j r v.pairs)) in omega arith)
      (λ e. let g = other_pair j r i q v.pairs e.0 in omega arith) (pair_is i q j r))

  module _ (word' : ℕ → ℕ) (r : ℕ) (other : (q : ℕ) → q ≢ r → word' q ≡ word q) where
    -- the rows, where this one alone changes: e, o, n, h are its counts after the step
    row_put : (w : Token P) → ((q : ℕ) → q ≢ r → (times q w.empty ≡ times q v.empty) × (times q w.opened ≡ times q v.opened) × (row_times q w.pairs ≡ row_times q v.pairs) × (times q w.handed ≡ times q v.handed))
        → ((e o n h : ℕ) → e + times r v.empty ≡ empties r ws + times r w.empty → o + times r v.opened ≡ open_count r ws + times r w.opened → n + row_times r v.pairs ≡ leases r ws + row_times r w.pairs → h + times r v.handed ≡ hands r ws + times r w.handed
        → RowStands rows r (word' r) e o n h (IsAcquired log r) (IsRowClosed log r) (IsFinalized log r)) → RowsAgree rows word' log (slice_set ws id (work w))
    row_put w same now = row_step rows word word' log ws rule.words id r (work v) (work w) ak other same
        (let new = slice_set ws id (work w) in now (empties r new) (open_count r new) (leases r new) (hands r new)
        (total_set (λ (u : Holdings). times r u.empty) ws id (work v) (work w) ak) (total_set (λ (u : Holdings). times r u.opened) ws id (work v) (work w) ak)
        (total_set (λ (u : Holdings). row_times r u.pairs) ws id (work v) (work w) ak) (total_set (λ (u : Holdings). times r u.handed) ws id (work v) (work w) ak))

    pub place_keeps : word' r ≡ 1 → IsAmong r v.empty → (s : ℕ) → Notes v.events v.by (Acquire r s) → RuleHolds rows room word' slot log (slice_set views id (placed v r))
    place_keeps now can s noted =
        let w = placed v r in
        let was = empty_here r can in let t = times_some r v.empty can in
        let z = without_same r v.empty in let p = push_same r v.opened in
        let w1 = was.1 in let w2 = was.2 in let w3 = was.3 in let w4 = was.4 in let w5 = was.5 in
        move w refl refl
        (row_put w (λ q ne. (without_other r q v.empty ne, push_other q r v.opened ne, refl, refl))
        (λ e o n h a b c d. opened was.0 (omega arith) (omega arith) (omega arith) (omega arith) (v.by, s, log_of (Acquire r s) noted) was.6))
        (ownership_step log (map ownership views) rule.ownerships id (ownership v) (ownership w) ad refl refl (λ q m. (among_without r v.empty q m).0)
        (λ q m. ⊎_elim (rule.ownerships.opened id q (ownership v) ad) (λ e. (s, subst (λ n. Notes log v.by (Acquire n s)) (sym e) (log_of (Acquire r s) noted))) (among_snoc v.opened q r m)) (λ q m. rule.ownerships.handed id q (ownership v) ad m))
        (hold_step log (map hold views) rule.leases id (hold v) (hold w) ah refl refl refl refl (λ j q m. inr m)
        (λ j q m. ⊎_elim (λ o. inl o) (λ o. inr (o.0, o.1, among_left (r ∷ []) o.2)) (rule.leases.paired id j q (hold v) ah m)) (λ j q m. rule.leases.holder id j q (hold v) ah m)
        (λ j q. let x = total_set (λ (u : Hold). pair_times j q u.pairs) (map hold views) id (hold v) (hold w) ah in let o = rule.leases.pair_once j q in omega arith))
        (same_pays word' (pay_word word word' slot log (map purse views) rule.pays r other (λ n e. absurd (omega arith)) (λ e. absurd (omega arith)) (λ n e le. absurd (omega arith))))
        (λ i q m. rule.small id i q v at m)

    pub lease_keeps : word' r ≡ word r + 4 → (j : ℕ) → j < 2 ^ 32 → v.main ≡ true → IsAmong r v.opened → ¬ (IsAmong (j, r) v.pairs) → ¬ (IsLeased v.events j) → ¬ (IsAmong j v.had) → RuleHolds rows room word' slot log (slice_set views id (leased v j r))
    lease_keeps now j small main is_mine no_pair no_lease no_seat =
        let w = leased v j r in let hs = map hold views in
        let was = open_here r is_mine in
        let p = row_push_same r j v.pairs in
        let w1 = was.1 in let w2 = was.2 in let w3 = was.3 in let w4 = was.4 in
        let new : ¬ (IsLeased log j) = λ x. no_lease (v.by, x.1, back rule seat (Lease j x.1) (subst (λ k. Notes log k (Lease j x.1)) (rule.leases.by_main id j x.1 x.0 (hold v) ah main x.2) x.2)) in
        let none : total (λ (u : Hold). pair_times j r u.pairs) hs ≡ 0 = ⊎_elim (λ z. z)
        (λ le. let x = total_some (λ (u : Hold). pair_times j r u.pairs) hs le in let m = pair_in j r x.1.pairs x.3 in
        ⊎_elim (λ o. absurd (new (covered_leased log j r o.0 o.1))) (λ o.
        let y = map_back hold views x.0 x.1 x.2 in
        let i = rule.seats.one x.0 id (who y.0) (who v) (at_map who views x.0 y.0 y.1) aw (ap (λ (z : Hold). z.main) y.2 ∙ o.1) main in
        absurd (no_pair (subst (λ (z : Hold). IsAmong (j, r) z.pairs) (one_at hs id x.1 (hold v) (subst (λ n. IsAt hs n x.1) i x.2) ah) m))) (rule.leases.paired x.0 j r x.1 x.2 m))
        (zero_or (total (λ (u : Hold). pair_times j r u.pairs) hs)) in
        move w refl refl
        (row_put w (λ q ne. (refl, refl, row_push_other q j r v.pairs ne, refl))
        (λ e o n h a b c d. opened was.0 (omega arith) (omega arith) (omega arith) (omega arith) was.5 was.6))
        same_ownerships
        (hold_step log hs rule.leases id (hold v) (hold w) ah refl refl refl refl (λ i q m. inr (among_left ((j, r) ∷ []) m))
        (λ i q m. ⊎_elim (rule.leases.paired id i q (hold v) ah)
        (λ e. inr ((λ x. new (subst (λ n. IsLeased log n) (ap (λ (y : ℕ × ℕ). y.0) e) x)), main, subst (λ n. IsAmong n v.opened) (sym (ap (λ (y : ℕ × ℕ). y.1) e)) is_mine)) (among_snoc v.pairs (i, q) (j, r) m))
        (λ i q m. ⊎_elim (rule.leases.holder id i q (hold v) ah) (λ e. inl (main, λ x. no_seat (subst (λ n. IsAmong n v.had) (ap (λ (y : ℕ × ℕ). y.0) e) x))) (among_snoc v.pairs (i, q) (j, r) m))
        (λ i q. let x = total_set (λ (u : Hold). pair_times i q u.pairs) hs id (hold v) (hold w) ah in let o = rule.leases.pair_once i q in
        ⊎_elim (λ e. let n : total (λ (u : Hold). pair_times i q u.pairs) hs ≡ 0 = subst (λ a. total (λ (u : Hold). pair_times a q u.pairs) hs ≡ 0) e.0 (subst (λ a. total (λ (u : Hold). pair_times j a u.pairs) hs ≡ 0) e.1 none) in
        let f = pair_push_same i q j r v.pairs e.2 in let g = total_at (λ (u : Hold). pair_times i q u.pairs) hs id (hold v) ah in omega arith)
        (λ e. let f = pair_push_other i q j r v.pairs e.1 in omega arith) (pair_is j r i q)))
        (same_pays word' (pay_word word word' slot log (map purse views) rule.pays r other (λ n e. absurd (omega arith)) (λ e. absurd (omega arith)) (λ n e le. absurd (omega arith))))
        (λ i q m. ⊎_elim (rule.small id i q v at) (λ e. let f : i ≡ j = ap (λ (y : ℕ × ℕ). y.0) e in omega arith) (among_snoc v.pairs (i, q) (j, r) m))

    -- a pair goes, and others stay on the row, or the row stays open
    pub leave_keeps : (j : ℕ) → IsAmong (j, r) v.pairs → NotesCancel v.events v.by j → word' r + 4 ≡ word r → word' r ≢ 3 → RuleHolds rows room word' slot log (slice_set views id (gone v j r))
    leave_keeps j pair cancel now stays =
        let w = gone v j r in let hs = map hold views in
        let t = row_some j r v.pairs pair in
        let once = rule.leases.pair_once j r in let lh = total_at (λ (u : Hold). pair_times j r u.pairs) hs id (hold v) ah in let th = pair_some j r v.pairs pair in
        let less = row_less j r v.pairs in
        let was = leased_here j r pair in let w1 = was.1 in let w2 = was.2 in
        let lost : IsCanceled log j = (v.by, (cancel.0, log_of (Cancel j cancel.0) cancel.1)) in
        move w refl refl
        (row_put w (λ q ne. (refl, refl, row_else j r q v.pairs ne, refl))
        (λ e o n h a b c d. ⊎_elim (λ s. let s0 = s.0 in let s1 = s.1 in opened was.0 (omega arith) (omega arith) (omega arith) (omega arith) s.2 was.3)
        (λ s. let s0 = s.0 in let s1 = s.1 in awaits was.0 (omega arith) (omega arith) (omega arith) (omega arith) (omega arith) s.2 was.3) was.4))
        same_ownerships
        (gone_leases j r lost)
        (same_pays word' (⊎_elim
        (λ s. let s0 = s.0 in pay_word word word' slot log (map purse views) rule.pays r other (λ n e. absurd (omega arith)) (λ e. absurd (omega arith)) (λ n e le. absurd (omega arith)))
        (λ s. let s0 = s.0 in pay_word word word' slot log (map purse views) rule.pays r other (λ n e. (leases r ws - 1, omega arith)) (λ e. absurd (omega arith)) (λ n e le. (n + 1, omega arith, omega arith)))
        was.4))
        (λ i q m. rule.small id i q v at (pair_among j r i q v.pairs m).0)

    -- the last pair goes from a closed row
    pub leave_last : (j : ℕ) (p : P) → IsAmong (j, r) v.pairs → NotesCancel v.events v.by j → word' r + 4 ≡ word r → word' r ≡ 3 → slot r ≡ Some p → RuleHolds rows room word' slot log (slice_set views id (handed_over (gone v j r) r p))
    leave_last j p pair cancel now last there =
        let w = handed_over (gone v j r) r p in let hs = map hold views in let ps = map purse views in
        let t = row_some j r v.pairs pair in
        let once = rule.leases.pair_once j r in let lh = total_at (λ (u : Hold). pair_times j r u.pairs) hs id (hold v) ah in let th = pair_some j r v.pairs pair in
        let less = row_less j r v.pairs in let push = push_same r v.handed in
        let was = leased_here j r pair in let w1 = was.1 in let w2 = was.2 in
        let lost : IsCanceled log j = (v.by, (cancel.0, log_of (Cancel j cancel.0) cancel.1)) in
        let covers : (q : StreamNo) × Covers log j q r = ⊎_elim (λ o. o) (λ o. absurd (o.0 (canceled_leased log j rule.books.legal lost))) (rule.leases.paired id j r (hold v) ah pair) in
        let closed = ⊎_elim (λ s. let s0 = s.0 in absurd (omega arith)) (λ s. s) was.4 in let c0 = closed.0 in let c1 = closed.1 in
        let seven : word r ≡ 3 + 4 * 1 = omega arith in
        let stay = rule.pays.waits r 1 seven (omega arith) in
        let left_here : LeftIn ps r p = subst (λ x. LeftIn ps r x) (some_is stay.0 p (sym stay.2 ∙ there)) stay.1 in
        let old_given : (x : P) → ¬ (GivenIn ps r x) = λ x g. let y = rule.pays.given_when r x g in absurd (omega arith) in
        move w refl refl
        (row_put w (λ q ne. (refl, refl, row_else j r q v.pairs ne, push_other q r v.handed ne))
        (λ e o n h a b c d. handed was.0 last (omega arith) (omega arith) (omega arith) (omega arith) closed.2 was.3))
        (ownership_step log (map ownership views) rule.ownerships id (ownership v) (ownership w) ad refl refl (λ q m. m) (λ q m. rule.ownerships.opened id q (ownership v) ad m)
        (λ q m. ⊎_elim (rule.ownerships.handed id q (ownership v) ad) (λ e. subst (λ n. HasRight log v.by n) (sym e) (inr (j, covers.0, covers.1, lost.1))) (among_snoc v.handed q r m)))
        (gone_leases j r lost)
        (give_pays word word' slot log ps rule.pays r other id (purse v) p ap' last left_here there old_given)
        (λ i q m. rule.small id i q v at (pair_among j r i q v.pairs m).0)

    -- what a close leaves in the leases, whether it hands the row over or not
    shut_leases : word r ≡ 1 + 4 * leases r (map work views) → ((j : ℕ) → IsAmong (j, r) v.pairs → (s : ℕ) × Notes v.events v.by (Lease j s))
        → let h : Hold = record { main = v.main; by = v.by; had = v.had; pairs = v.pairs; kept = v.kept; opened = without_one r v.opened } in LeasesAgree log (slice_set (map hold views) id h)
    shut_leases is named = let hs = map hold views in let h : Hold = record { main = v.main; by = v.by; had = v.had; pairs = v.pairs; kept = v.kept; opened = without_one r v.opened } in
        hold_step log hs rule.leases id (hold v) h ah refl refl refl refl (λ j q m. inr m)
        (λ j q m. ⊎_elim (λ o. inl o)
        (λ o. ⊎_elim (λ e. let n = named j (subst (λ (x : ℕ). IsAmong (j, x) v.pairs) e m) in absurd (o.0 (v.by, n.0, log_of (Lease j n.0) n.1))) (λ ne. inr (o.0, o.1, one_kept r q v.opened o.2 ne)) (cases_eq q r))
        (rule.leases.paired id j q (hold v) ah m))
        (λ j q m. rule.leases.holder id j q (hold v) ah m)
        (λ j q. let x = total_set (λ (u : Hold). pair_times j q u.pairs) hs id (hold v) h ah in let o = rule.leases.pair_once j q in omega arith)

    module _ (slot' : ℕ → Option P) (p : P) (elsewhere : (q : ℕ) → q ≢ r → slot' q ≡ slot q) (there : slot' r ≡ Some p) (s : ℕ) (noted : Notes v.events v.by (Acquire r s)) (closed : IsClosed v.events v.by s)
        (mine : IsAmong r v.opened) (named : (j : ℕ) → IsAmong (j, r) v.pairs → (t : ℕ) × Notes v.events v.by (Lease j t)) (now : word' r ≡ word r + 2) where
      row_closed : IsRowClosed log r
      row_closed = (v.by, s, log_of (Acquire r s) noted, closed_forth rule seat s closed)

      -- leases stand
      pub close_stays : word' r ≢ 3 → RuleHolds rows room word' slot' log (slice_set views id (shut v r p))
      close_stays stays =
          let w = shut v r p in
          let was = open_here r mine in let w1 = was.1 in let w2 = was.2 in let w3 = was.3 in let w4 = was.4 in
          let less = one_less r v.opened mine in
          move w refl refl
          (row_put w (λ q ne. (refl, one_other r q v.opened ne, refl, refl))
          (λ e o n h a b c d. awaits was.0 (omega arith) (omega arith) (omega arith) (omega arith) (omega arith) row_closed was.6))
          (ownership_step log (map ownership views) rule.ownerships id (ownership v) (ownership w) ad refl refl (λ q m. m) (λ q m. rule.ownerships.opened id q (ownership v) ad (one_among r q v.opened m)) (λ q m. rule.ownerships.handed id q (ownership v) ad m))
          (shut_leases was.1 named)
          (shut_pays word word' slot log (map purse views) rule.pays r other slot' elsewhere id (purse v) p ap' (leases r ws) (omega arith) there (λ n e. omega arith) (not_handed r (leases r ws) was.1))
          (λ i q m. rule.small id i q v at m)

      -- no lease stands
      pub close_yours : word' r ≡ 3 → RuleHolds rows room word' slot' log (slice_set views id (handed_over (shut v r p) r p))
      close_yours last =
          let u' = shut v r p in let w = handed_over u' r p in let ps = map purse views in
          let was = open_here r mine in let w1 = was.1 in let w2 = was.2 in let w3 = was.3 in let w4 = was.4 in
          let less = one_less r v.opened mine in let push = push_same r v.handed in
          move w refl refl
          (row_put w (λ q ne. (refl, one_other r q v.opened ne, refl, push_other q r v.handed ne))
          (λ e o n h a b c d. handed was.0 last (omega arith) (omega arith) (omega arith) (omega arith) row_closed was.6))
          (ownership_step log (map ownership views) rule.ownerships id (ownership v) (ownership w) ad refl refl (λ q m. m) (λ q m. rule.ownerships.opened id q (ownership v) ad (one_among r q v.opened m))
          (λ q m. ⊎_elim (rule.ownerships.handed id q (ownership v) ad) (λ e. subst (λ n. HasRight log v.by n) (sym e) (inl (s, log_of (Acquire r s) noted))) (among_snoc v.handed q r m)))
          (shut_leases was.1 named)
          (close_pays word word' slot log ps rule.pays r other slot' elsewhere id (purse v) p ap' last there (λ n e. omega arith) (not_handed r (leases r ws) was.1))
          (λ i q m. rule.small id i q v at m)

  -- the payload is lifted out of the slot
  pub take_keeps : (slot' : ℕ → Option P) (r : ℕ) → ((q : ℕ) → q ≢ r → slot' q ≡ slot q) → IsAmong r v.handed → RuleHolds rows room word slot' log (slice_set views id (took v r))
  take_keeps slot' r elsewhere mine =
      let w = took v r in let ps = map purse views in let p' : Purse P = purse w in let is = row_handed r mine in let i1 = is.1 in let k = rule.pays in
      let left : (q : ℕ) (y : P) → LeftIn (slice_set ps id p') q y → LeftIn ps q y = λ q y. some_back ps id (purse v) p' ap' (λ (u : Purse P). IsAmong (q, y) u.left) (λ m. m) in
      let left' : (q : ℕ) (y : P) → LeftIn ps q y → LeftIn (slice_set ps id p') q y = λ q y. some_put ps id (purse v) p' ap' (λ (u : Purse P). IsAmong (q, y) u.left) (λ m. m) in
      let given : (q : ℕ) (y : P) → GivenIn (slice_set ps id p') q y → GivenIn ps q y = λ q y. some_back ps id (purse v) p' ap' (λ (u : Purse P). IsAmong (q, y) u.given) (λ m. m) in
      let given' : (q : ℕ) (y : P) → GivenIn ps q y → GivenIn (slice_set ps id p') q y = λ q y. some_put ps id (purse v) p' ap' (λ (u : Purse P). IsAmong (q, y) u.given) (λ m. m) in
      move w refl refl (keep (λ l. RowsAgree rows word log l) (map work views) id (work v) ak rule.words) same_ownerships (keep (λ l. LeasesAgree log l) (map hold views) id (hold v) ah rule.leases)
      (pays_same k left left' given (λ q n e le. elsewhere q (λ s. let z : word r ≡ 3 + 4 * n = subst (λ a. word a ≡ 3 + 4 * n) s e in absurd (omega arith)))
      (λ i q u. each ps id p' (λ i u. IsAmong q u.handed → (y : P) × IsAmong (q, y) u.given × (¬ (IsAmong q u.taken) → slot' q ≡ Some y))
      (λ m. let t = k.handed id q (purse v) ap' m in (t.0, t.1, λ f. elsewhere q (λ s. f (subst (λ n. IsAmong n (v.taken ++ r ∷ [])) (sym s) (among_last v.taken r))) ∙ t.2 (λ n. f (among_left (r ∷ []) n))))
      (λ i u ne g m. let t = k.handed i q u g m in (t.0, t.1, λ f. elsewhere q (λ s. ne (one_hand r i u g mine (subst (λ n. IsAmong n u.handed) s m))) ∙ t.2 f)) i u)
      (λ q f. let t = k.final q f in (t.0, given' q t.0 t.1)))
      (λ i q m. rule.small id i q v at m)
