-- What a step tells of the other seats, and what stands at the end.
use Rattle.std.proofs.Common.{◌≡◌, ◌≢◌, ℕ, ◌≤◌, ◌⊎◌, ◌↔◌, true, map, List, [], length, inl, inr, sym, ap, ◌∙◌, subst, ⊎_elim, arith}
use Rattle.std.specs.Prelude.{Option}
use Rattle.row_seat.specs.Totals.{IsAt, row_times, times}
use Rattle.row_seat.specs.Rule.{Book, GivenIn, Hold, LeftIn, Purse, IsBlankView, IsSeated, RuleHolds, RowStands, Who, Holdings, book, ownership, hold, purse, view_of, who, work}
use Rattle.row_seat.specs.Views.{MayStay}
use Rattle.res_ledger.specs.Ledger.{Covers, IsAcquired, IsCanceled, IsFinalized, IsLeased, Notes}
use Rattle.res_ledger.specs.declared.event.Event.{Event}
use Rattle.chunk_core.specs.Lists.{IsAmong}
use Rattle.res_ledger.specs.declared.event.What.TheVariants.{Lease}
use Rattle.row_seat.specs.declared.token.Token.{Token}
use Rattle.chunk_core.proofs.Members.{among_nil}
use Rattle.row_seat.proofs.Ticked.{at_book, at_ownership, at_purse, at_who, at_work, own_is}
use Rattle.chunk_core.proofs.Places.{at_map}
use Rattle.row_seat.specs.Rule.RowStands.{awaits, beyond, final, handed, opened, vacant}
use Rattle.res_ledger.proofs.Ledgers.{covers_acquired, covers_leased, covers_own, inner_is, one_acquire}
use Rattle.row_seat.proofs.Rows.{is_open}
use Rattle.row_seat.proofs.Tells.{all_told}
use Rattle.row_seat.proofs.Totals.{map_back, one_at, total_alone, total_at, total_one, total_some}
use Rattle.row_seat.proofs.Times.{row_in, times_in, times_some}
use Rattle.std.proofs.lemmas.Bool.{cases_Bool}

-- where no view has the row it is final
ends : {rows r word e o n h : ℕ} {A C F : Type 0} → RowStands rows r word e o n h A C F → (1 ≤ e → ⊥) → (1 ≤ o → ⊥) → (1 ≤ n → ⊥) → (1 ≤ h → ⊥) → A → F
ends (vacant a b c d i j k) ve vo vn vh x = absurd (ve (omega arith))
ends (opened a b c d i j k) ve vo vn vh x = absurd (vo (omega arith))
ends (awaits a b c d i j k m) ve vo vn vh x = absurd (vn (omega arith))
ends (handed a b c d i j k m) ve vo vn vh x = absurd (vh (omega arith))
ends (final a b c d i j k m) ve vo vn vh x = m
ends (beyond a b c d i j) ve vo vn vh x = absurd (j x)

module _ {P : Type 0} {rows room : ℕ} {word : ℕ → ℕ} {slot : ℕ → Option P} {log : List Event} {views : List (Token P)} (rule : RuleHolds rows room word slot log views) {id : ℕ} {v : Token P} (seat : IsSeated views id v) where
  open seat use {at, live}

  -- a close leaves the row to a lease: the seat is the main one, and a Lease of its own covers the row, which it has a pair of or whose stream's seat is out
  pub close_cause : (r : ℕ) → IsAmong r v.opened → word r ≢ 1 → ((j : ℕ) → IsAmong (j, r) v.pairs → (t : ℕ) × Notes v.events v.by (Lease j t)) → MayStay (view_of v []) r
  close_cause r mine more named =
      let ws = map work views in let ak = at_work rule seat in
      let l = total_at (λ (u : Holdings). times r u.opened) ws id (work v) ak in let t = times_some r v.opened mine in
      let was = is_open (rule.words r) (omega arith) in let w1 = was.1 in let w3 = was.3 in
      let x = total_some (λ (u : Holdings). row_times r u.pairs) ws (omega arith) in
      let y = map_back work views x.0 x.1 x.2 in let u = y.0 in
      let p = row_in r x.1.pairs x.3 in let j = p.0 in
      let m : IsAmong (j, r) u.pairs = subst (λ (z : Holdings). IsAmong (j, r) z.pairs) (sym y.2) p.1 in
      let gh = at_map hold views x.0 u y.1 in
      let here_main : (i : ℕ) (z : Token P) → IsAt views i z → z.main ≡ true → v.by ≡ z.by → v.main ≡ true = λ i z g mz s.
      let e = rule.seats.names id i (who v) (who z) (at_who rule seat) (at_map who views i z g) live (rule.seats.alive i (who z) (at_map who views i z g) mz) s in
      subst (λ (a : Token P). a.main ≡ true) (one_at views i z v g (subst (λ n. IsAt views n v) e at)) mz in
      let acquired = rule.ownerships.opened id r (ownership v) (at_ownership rule seat) mine in
      let both : (v.main ≡ true) × Covers log j v.by r = ⊎_elim
      (λ o. let a = covers_acquired log j r o.0 o.1 in let b = covers_leased log j r o.0 o.1 in
      let same = one_acquire log r a.0 acquired.0 o.0 v.by rule.books.legal a.1 acquired.1 in
      let mm = rule.seats.main in let mz = map_back who views mm.0 mm.1 mm.2 in
      let mt : mz.0.main ≡ true = ap (λ (z : Who). z.main) mz.2 ∙ mm.3 in
      let bm = rule.leases.by_main mm.0 j b.0 o.0 (hold mz.0) (at_map hold views mm.0 mz.0 mz.1) mt b.1 in
      (here_main mm.0 mz.0 mz.1 mt (sym same ∙ bm), subst (λ k. Covers log j k r) same o.1))
      (λ o. let e = total_one (λ (z : Holdings). times r z.opened) ws x.0 id (work u) (work v) (omega arith) (at_map work views x.0 u y.1) ak (times_some r u.opened o.2) (times_some r v.opened mine) in
      let same : u ≡ v = one_at views id u v (subst (λ n. IsAt views n u) e y.1) at in
      let n = named j (subst (λ (z : Token P). IsAmong (j, r) z.pairs) same m) in
      absurd (o.0 (v.by, n.0, (n.1.0, rule.books.inside id (book v) n.1.0 (at_book rule seat) n.1.1, n.1.2, n.1.3))))
      (rule.leases.paired x.0 j r (hold u) gh m) in
      let mine' : u.main ≡ true → IsAmong (j, r) v.pairs = λ mu. let e = rule.seats.one x.0 id (who u) (who v) (at_map who views x.0 u y.1) (at_who rule seat) mu both.0 in
      subst (λ (z : Token P). IsAmong (j, r) z.pairs) (one_at views id u v (subst (λ n. IsAt views n u) e y.1) at) m in (
        both.0,
        (
          j,
          (
            covers_own v.by log v.events (sym (own_is rule seat)) j r both.1,
            ⊎_elim (λ a. inl (mine' a.0))
                (λ b. ⊎_elim (λ a. inl (mine' a))
                (λ f. ⊎_elim
                (λ lu. let o = rule.seats.out id x.0 (who v) (who u) (at_who rule seat) (at_map who views x.0 u y.1) both.0 lu f in inr (subst (λ z. IsAmong z v.out) (inner_is o.0 j (sym o.1 ∙ b)) o.2))
                (λ du. absurd (among_nil (subst (λ z. IsAmong (j, r) z) (rule.taken_in x.0 u y.1 du).pairs m)))
                (cases_Bool u.live))
                (cases_Bool u.main))
                (rule.leases.holder x.0 j r (hold u) gh m),
          ),
        ),
      )

  -- a row is given with one payload
  pub given_one : (r : ℕ) (x y : P) → IsAmong (r, x) v.given → IsAmong (r, y) v.given → x ≡ y
  given_one r x y a b = let k = rule.pays in let g = at_purse rule seat in k.left_one r x y (k.given_is r x (id, purse v, g, a)) (k.given_is r y (id, purse v, g, b))

  module _ (main : v.main ≡ true) (no_out : v.out ≡ []) where
    -- every other seat was taken in
    pub alone : (i : ℕ) (u : Token P) → IsAt views i u → ((i ≡ id) × (u ≡ v)) ⊎ IsBlankView u
    alone i u g = ⊎_elim
        (λ l. ⊎_elim
        (λ m. let e = rule.seats.one i id (who u) (who v) (at_map who views i u g) (at_who rule seat) m main in inl (e, one_at views id u v (subst (λ n. IsAt views n u) e g) at))
        (λ f. let o = rule.seats.out id i (who v) (who u) (at_who rule seat) (at_map who views i u g) main l f in absurd (among_nil (subst (λ z. IsAmong o.0 z) no_out o.2)))
        (cases_Bool u.main))
        (λ d. inr (rule.taken_in i u g d))
        (cases_Bool u.live)

    pub all_events : (e : Event) → IsAmong e log ↔ IsAmong e v.events
    all_events e = (
      (λ m. let t = rule.books.whole e m in let y = map_back book views t.0 t.1 t.2 in let m' : IsAmong e y.0.events = subst (λ (z : Book). IsAmong e z.events) (sym y.2) t.3 in
          ⊎_elim (λ s. subst (λ (z : Token P). IsAmong e z.events) s.1 m') (λ s. absurd (among_nil (subst (λ z. IsAmong e z) s.events m'))) (alone t.0 y.0 y.1)),
      (λ m. rule.books.inside id (book v) e (at_book rule seat) m),
    )

    -- and each stands there once
    pub all_noted : length v.events ≡ length log
    all_noted =
        let bs = map book views in let t = all_told rule in
        let a = total_alone (λ (b : Book). length b.events) bs id (book v) (at_book rule seat)
        (λ i b ne g. let y = map_back book views i b g in let e = ap (λ (z : Book). length z.events) y.2 in ⊎_elim (λ s. absurd (ne s.0)) (λ s. sym e ∙ ap length s.events) (alone i y.0 y.1)) in omega arith

    -- each Lease has its Cancel, where the seat keeps none
    pub all_canceled : v.kept ≡ [] → (j : ℕ) → IsLeased log j → IsCanceled log j
    all_canceled no_kept j l = ⊎_elim
        (λ c. c)
        (λ k. let y = map_back hold views k.0 k.1 k.2 in let m : IsAmong j y.0.kept = subst (λ (z : Hold). IsAmong j z.kept) (sym y.2) k.3 in
        let none : y.0.kept ≡ [] = ⊎_elim (λ s. ap (λ (z : Token P). z.kept) s.1 ∙ no_kept) (λ s. s.kept) (alone k.0 y.0 y.1) in absurd (among_nil (subst (λ z. IsAmong j z) none m)))
        (rule.leases.keeper j l)

    module _ (no_open : v.opened ≡ []) (no_pair : v.pairs ≡ []) (no_hand : v.handed ≡ []) (unused : (r : ℕ) → IsAmong r v.empty → ¬ (IsAcquired v.events r)) where
      none_in : (f : Token P → List ℕ) (r : ℕ) (i : ℕ) (u : Token P) → IsAt views i u → (u ≡ v → f u ≡ []) → (IsBlankView u → f u ≡ []) → 1 ≤ times r (f u) → ⊥
      none_in f r i u g a b l = let e = ⊎_elim (λ s. a s.1) b (alone i u g) in let z : times r (f u) ≡ 0 = ap (λ l. times r l) e in omega arith

      -- each acquired row is final
      pub all_final : (r : ℕ) → IsAcquired log r → IsFinalized log r
      all_final r acq = let ws = map work views in ends (rule.words r)
          (λ l. let x = total_some (λ (u : Holdings). times r u.empty) ws l in let y = map_back work views x.0 x.1 x.2 in let l' : 1 ≤ times r y.0.empty = subst (λ (z : Holdings). 1 ≤ times r z.empty) (sym y.2) x.3 in
          ⊎_elim (λ s. let m : IsAmong r v.empty = times_in r v.empty (subst (λ (z : Token P). 1 ≤ times r z.empty) s.1 l') in unused r m (acq.0, acq.1, rule.ownerships.fresh id r acq.1 acq.0 (ownership v) (at_ownership rule seat) m acq.2))
          (λ s. let z : times r y.0.empty ≡ 0 = ap (λ l. times r l) s.empty in omega arith) (alone x.0 y.0 y.1))
          (λ l. let x = total_some (λ (u : Holdings). times r u.opened) ws l in let y = map_back work views x.0 x.1 x.2 in
          none_in (λ (z : Token P). z.opened) r x.0 y.0 y.1 (λ s. ap (λ (z : Token P). z.opened) s ∙ no_open) (λ s. s.opened) (subst (λ (z : Holdings). 1 ≤ times r z.opened) (sym y.2) x.3))
          (λ l. let x = total_some (λ (u : Holdings). row_times r u.pairs) ws l in let y = map_back work views x.0 x.1 x.2 in let l' : 1 ≤ row_times r y.0.pairs = subst (λ (z : Holdings). 1 ≤ row_times r z.pairs) (sym y.2) x.3 in
          let e : y.0.pairs ≡ [] = ⊎_elim (λ s. ap (λ (z : Token P). z.pairs) s.1 ∙ no_pair) (λ s. s.pairs) (alone x.0 y.0 y.1) in let z : row_times r y.0.pairs ≡ 0 = ap (λ l. row_times r l) e in omega arith)
          (λ l. let x = total_some (λ (u : Holdings). times r u.handed) ws l in let y = map_back work views x.0 x.1 x.2 in
          none_in (λ (z : Token P). z.handed) r x.0 y.0 y.1 (λ s. ap (λ (z : Token P). z.handed) s ∙ no_hand) (λ s. s.handed) (subst (λ (z : Holdings). 1 ≤ times r z.handed) (sym y.2) x.3))
          acq

    given_mine : (r : ℕ) (x : P) → GivenIn (map purse views) r x → IsAmong (r, x) v.given
    given_mine r x t = let y = map_back purse views t.0 t.1 t.2 in let m : IsAmong (r, x) y.0.given = subst (λ (z : Purse P). IsAmong (r, x) z.given) (sym y.2) t.3 in
        ⊎_elim (λ s. subst (λ (z : Token P). IsAmong (r, x) z.given) s.1 m) (λ s. absurd (among_nil (subst (λ z. IsAmong (r, x) z) s.given m))) (alone t.0 y.0 y.1)

    left_mine : (r : ℕ) (x : P) → LeftIn (map purse views) r x → IsAmong (r, x) v.left
    left_mine r x t = let y = map_back purse views t.0 t.1 t.2 in let m : IsAmong (r, x) y.0.left = subst (λ (z : Purse P). IsAmong (r, x) z.left) (sym y.2) t.3 in
        ⊎_elim (λ s. subst (λ (z : Token P). IsAmong (r, x) z.left) s.1 m) (λ s. absurd (among_nil (subst (λ z. IsAmong (r, x) z) s.left m))) (alone t.0 y.0 y.1)

    -- each row with a Final was handed over, once, with what its owner left, once
    pub all_payloads : (r : ℕ) → IsFinalized log r → (p : P) × IsAmong (r, p) v.left × IsAmong (r, p) v.given × ((q : P) → IsAmong (r, q) v.left → q ≡ p) × ((q : P) → IsAmong (r, q) v.given → q ≡ p)
    all_payloads r f =
        let k = rule.pays in let t = k.final r f in let l = k.given_is r t.0 t.1 in let g = at_purse rule seat in
        (t.0, left_mine r t.0 l, given_mine r t.0 t.1, (λ q m. k.left_one r q t.0 (id, purse v, g, m) l), (λ q m. k.left_one r q t.0 (k.given_is r q (id, purse v, g, m)) l))
