-- Why a row stays where the main seat leaves a lease of it.
use Rattle.std.proofs.Common.{◌≡◌, ◌≢◌, ℕ, ◌+◌, ◌≤◌, ◌⊎◌, true, map, List, [], ◌∷◌, inl, inr, refl, sym, ◌∙◌, subst, ⊎_elim, arith}
use Rattle.std.specs.Prelude.{Option}
use Rattle.chunk_core.specs.Lists.{IsAmong}
use Rattle.chunk_core.proofs.Members.{among_nil}
use Rattle.chunk_core.proofs.Places.{at_map}
use Rattle.res_ledger.specs.Ledger.{Covers}
use Rattle.res_ledger.specs.declared.event.Event.{Event}
use Rattle.res_ledger.specs.declared.event.StreamNo.TheVariants.{Inner}
use Rattle.res_ledger.proofs.Ledgers.{covers_acquired, covers_leased, covers_own, inner_is, one_acquire, stream_cases}
use Rattle.row_seat.specs.declared.token.Token.{Token}
use Rattle.row_seat.specs.Totals.{IsAt, pair_times, row_times, times, total}
use Rattle.std.specs.Map.{keys_of}
use Rattle.row_seat.specs.Views.{IsHeldStill, without_pair}
use Rattle.row_seat.specs.Rule.{Hold, IsSeated, RuleHolds, Holdings, ownership, hold, view_of, who, work}
use Rattle.row_seat.proofs.Hands.{row_held}
use Rattle.row_seat.proofs.Rows.{is_leased}
use Rattle.std.proofs.lemmas.Bool.{cases_Bool}
use Rattle.row_seat.proofs.Ticked.{own_is}
use Rattle.row_seat.proofs.Times.{pair_among, row_in, row_less, row_some, times_in}
use Rattle.row_seat.proofs.Totals.{map_back, one_at, total_at, total_map, total_some}

module _ {P : Type 0} where
  cut : (j r : ℕ) (ts : List (Token P)) → total (λ (t : Token P). row_times r (without_pair j r t.pairs)) ts + total (λ (t : Token P). pair_times j r t.pairs) ts ≡ total (λ (t : Token P). row_times r t.pairs) ts
  cut j r [] = refl
  cut j r (t ∷ ts) = let a = row_less j r t.pairs in let b = cut j r ts in omega (a, b, arith)

module _ {P : Type 0} {rows room : ℕ} {word : ℕ → ℕ} {slot : ℕ → Option P} {log : List Event} {views : List (Token P)} (rule : RuleHolds rows room word slot log views) {id : ℕ} {v : Token P} (seat : IsSeated views id v) (main : v.main ≡ true) where
  open seat use {at, live}

  -- a pair on the row r is of a Lease of this seat, or the row is open here
  covering : (i r x : ℕ) (u : Token P) → IsAt views x u → IsAmong (i, r) u.pairs → Covers log i v.by r ⊎ IsAmong r v.opened
  covering i r x u g m = ⊎_elim
      (λ o. let b = covers_leased log i r o.0 o.1 in inl (subst (λ k. Covers log i k r) (rule.leases.by_main id i b.0 o.0 (hold v) (at_map hold views id v at) main b.1) o.1))
      (λ o. let e = rule.seats.one x id (who u) (who v) (at_map who views x u g) (at_map who views id v at) o.1 main in inr (subst (λ (z : Token P). IsAmong r z.opened) (one_at views id u v (subst (λ n. IsAt views n u) e g) at) o.2))
      (rule.leases.paired x i r (hold u) (at_map hold views x u g) m)

  -- where the row doesn't become this seat's
  pub leave_cause : (j r : ℕ) → IsAmong (j, r) v.pairs → word r ≢ 7 → (hands : List (ℕ × P)) → keys_of hands ≡ v.opened → IsHeldStill (view_of v hands) j r
  leave_cause j r pair more hands held =
      let ws = map work views in let aw = at_map who views id v at in
      let l = total_at (λ (u : Holdings). row_times r u.pairs) ws id (work v) (at_map work views id v at) in let y = row_some j r v.pairs pair in
      let s = is_leased (rule.words r) (omega (l, y, arith)) in ⊎_elim
      (λ a.
      let a1 = a.1 in
      let x = total_some (λ (u : Holdings). times r u.opened) ws (omega (a1, arith)) in let b = map_back work views x.0 x.1 x.2 in let u = b.0 in
      let m : IsAmong r u.opened = times_in r u.opened (subst (λ (z : Holdings). 1 ≤ times r z.opened) (sym b.2) x.3) in
      let d = rule.ownerships.opened x.0 r (ownership u) (at_map ownership views x.0 u b.1) m in
      let there : u.live ≡ true = ⊎_elim (λ t. t) (λ f. absurd (among_nil (subst (λ z. IsAmong r z) (rule.taken_in x.0 u b.1 f).opened m))) (cases_Bool u.live) in
      inl (row_held r hands v.opened held (⊎_elim
      (λ c. let q = covers_acquired log j r v.by c in
      let same = one_acquire log r d.0 q.0 u.by v.by rule.books.legal d.1 q.1 in
      let e = rule.seats.names x.0 id (who u) (who v) (at_map who views x.0 u b.1) aw there live same in
      subst (λ (z : Token P). IsAmong r z.opened) (one_at views id u v (subst (λ n. IsAt views n u) e b.1) at) m)
      (λ h. h)
      (covering j r id v at pair))))
      (λ a.
      let a0 = a.0 in
      let c = cut j r views in
      let p : total (λ (t : Token P). pair_times j r t.pairs) views ≤ 1 = subst (λ n. n ≤ 1) (total_map hold (λ (h : Hold). pair_times j r h.pairs) views) (rule.leases.pair_once j r) in
      let n : total (λ (u : Holdings). row_times r u.pairs) ws ≡ total (λ (t : Token P). row_times r t.pairs) views = total_map work (λ (u : Holdings). row_times r u.pairs) views in
      let two : 2 ≤ total (λ (u : Holdings). row_times r u.pairs) ws = omega (a0, l, y, more, arith) in
      let x = total_some (λ (t : Token P). row_times r (without_pair j r t.pairs)) views (omega (c, p, n, two, arith)) in let u = x.1 in
      let q = row_in r (without_pair j r u.pairs) x.3 in let i = q.0 in let k = pair_among j r i r u.pairs q.1 in
      let m = k.0 in let ne : i ≢ j = λ e. k.1 e refl in ⊎_elim
      (λ o. inr (
        i,
        ne,
        (
          covers_own v.by log v.events (sym (own_is rule seat)) i r o,
          ⊎_elim
              (λ h. let e = rule.seats.one x.0 id (who u) (who v) (at_map who views x.0 u x.2) aw h.0 main in inl (subst (λ (z : Token P). IsAmong (i, r) z.pairs) (one_at views id u v (subst (λ n. IsAt views n u) e x.2) at) m))
              (λ b. ⊎_elim
              (λ mu. let e = rule.seats.one x.0 id (who u) (who v) (at_map who views x.0 u x.2) aw mu main in inl (subst (λ (z : Token P). IsAmong (i, r) z.pairs) (one_at views id u v (subst (λ n. IsAt views n u) e x.2) at) m))
              (λ f. ⊎_elim
              (λ lu. let o = rule.seats.out id x.0 (who v) (who u) aw (at_map who views x.0 u x.2) main lu f in inr (subst (λ z. IsAmong z v.out) (inner_is o.0 i (sym o.1 ∙ b)) o.2))
              (λ du. absurd (among_nil (subst (λ z. IsAmong (i, r) z) (rule.taken_in x.0 u x.2 du).pairs m)))
              (cases_Bool u.live))
              (cases_Bool u.main))
              (rule.leases.holder x.0 i r (hold u) (at_map hold views x.0 u x.2) m),
        ),
      ))
      (λ h. inl (row_held r hands v.opened held h))
      (covering i r x.0 u x.2 m))
      s.4

  -- each event is in the seat's own name or in that of a stream that had a seat
  pub all_names : (e : Event) → IsAmong e log → (e.by ≡ v.by) ⊎ ((n : ℕ) × (e.by ≡ Inner n) × IsAmong n v.had)
  all_names e m = ⊎_elim (λ t. inl t.0) (λ t. inr (rule.seats.noted id (who v) e (at_map who views id v at) main m t.0)) (stream_cases e.by v.by)
