-- What keeps a main tree with its seats a family, and that its ledger is whole.
use Rattle.std.proofs.Common.{◌≡◌, ◌≢◌, ℕ, Bool, List, [], ◌∷◌, ◌++◌, inl, inr, sym, ap, ◌∙◌, subst, ⊎_elim}
use Rattle.std.proofs.lemmas.Bool.{cases_eq}
use Rattle.chunk_core.specs.declared.code.Exit.{Exit}
use Rattle.chunk_core.specs.Lists.{IsAmong}
use Rattle.chunk_core.proofs.Filters.{among_append, among_right}
use Rattle.chunk_core.proofs.Members.{among_last, among_left, among_nil, among_snoc}
use Rattle.res_ledger.specs.declared.event.Event.{Event}
use Rattle.res_ledger.specs.declared.event.StreamNo.TheVariants.{Inner}
use Rattle.res_ledger.proofs.Ledgers.{inner_is}
use Rattle.res_ledger.proofs.Noted.{only}
use Rattle.row_seat.specs.Views.{AreApart, CanJoin, CanSplit, IsLedgerOf, joined, name_of, split_main}
use Rattle.row_seat.proofs.Members.{among_kept, among_without}
use Rattle.scope_tree.specs.Calls.{AtStart, IsClosedScope, Seen}
use Rattle.tree_laws.specs.Alone.{HasNoOthers}
use Rattle.tree_laws.specs.Called.{Called}
use Rattle.tree_laws.specs.Called.Called.{none, split, taken_in}
use Rattle.tree_laws.specs.Ends.{AreCovered, IsFinishedLedger}
use Rattle.tree_laws.specs.Lent.{Lent}
use Rattle.tree_laws.specs.Names.{HasReturned}
use Rattle.tree_laws.specs.Visits.{Visits}
use Rattle.tree_laws.specs.Whole.{IsWholeLedger, IsWholeFor}
use Rattle.tree_laws.proofs.After.{IsAfter, folio}
use Rattle.tree_laws.proofs.Along.{called_after}
use Rattle.tree_laws.proofs.Covered.{lent_covered}
use Rattle.tree_laws.proofs.Ends.{called_events, called_whole, own_leases_covered, whole_each}
use Rattle.tree_laws.proofs.Follows.{called_then}
use Rattle.tree_laws.proofs.Kept.{events_stay, lent_stays}
use Rattle.tree_laws.proofs.Shelved.{shelves_apart}
use Rattle.tree_families.specs.Families.{CameBack, IsFamily, Split, split_of}
use Rattle.tree_families.specs.Laws.{ShelvesOfFamily}

own_finished : {P : Type 0} (b : Seen P) (L : List Event) → IsLedgerOf b.seat L → IsFinishedLedger b b.seat L
own_finished b L ledger = record { ledger = ledger; own = λ e i. ((λ m. m), (λ m. m)) }

module _ {P : Type 0} {ends : P → Exit → Bool → P → Type 0} where
  pub family_starts : (a : Seen P) → AtStart a.seat → HasNoOthers a.seat → IsFamily ends a []
  family_starts a s h = record {
    first = a;
    start = s;
    alone = h;
    cancelled = [];
    calls = none;
    lent = λ j T m. absurd (among_nil m);
    listed = λ j m. absurd (among_nil (subst (λ l. IsAmong j l) h.had m));
    met = λ m i. absurd (among_nil i);
  }

  -- what came back stays so
  back_stays : {b c : Seen P} {Ds : List (ℕ × List ℕ)} {j n : ℕ} → Called ends b Ds c → CameBack ends b j n → CameBack ends c j n
  back_stays {b = b} {c = c} {j = j} k t =
      let x = (called_after k).back j t.returned in record {
        returned = x.0;
        rows = t.rows;
        last = t.last;
        visit = t.visit;
        lent = lent_stays k t.lent;
        own = λ e i. ((λ m. (t.own e i).0 (x.1 e m i)), (λ m. events_stay k e ((t.own e i).1 m)));
      }

  pub family_calls : (b c : Seen P) (ms : List Split) (Ds : List (ℕ × List ℕ)) → IsFamily ends b ms → Called ends b Ds c → c.seat.had ≡ b.seat.had → c.seat.out ≡ b.seat.out → ((j : ℕ) (T : List ℕ) → IsAmong (j, T) Ds → Lent b.seat j T) → IsFamily ends c ms
  family_calls b c ms Ds f k h o l = record {
    first = f.first;
    start = f.start;
    alone = f.alone;
    cancelled = f.cancelled ++ Ds;
    calls = called_then f.calls k;
    lent = λ j T m. lent_stays k (⊎_elim (λ i. f.lent j T i) (λ i. l j T i) (among_append (j, T) f.cancelled Ds m));
    listed = λ j m. f.listed j (subst (λ xs. IsAmong j xs) h m);
    met = λ m i. ⊎_elim (λ x. inl (subst (λ xs. IsAmong m.stream xs) (sym o) x)) (λ t. inr (back_stays k t)) (f.met m i);
  }

  pub family_splits : (b c : Seen P) (ms : List Split) (j from to n : ℕ) → IsFamily ends b ms → CanSplit b.seat j from to n → c ≡ record b { seat = split_main b.seat j from to n } → IsFamily ends c (ms ++ split_of b.seat j ∷ [])
  family_splits b c ms j from to n f can is =
      let k : Called ends b [] c = split b c j from to n none can is in
      let had : c.seat.had ≡ b.seat.had ++ j ∷ [] = ap (λ x. x.seat.had) is in
      let out : c.seat.out ≡ b.seat.out ++ j ∷ [] = ap (λ x. x.seat.out) is in
      record {
        first = f.first;
        start = f.start;
        alone = f.alone;
        cancelled = f.cancelled ++ [];
        calls = called_then f.calls k;
        lent = λ i T m. lent_stays k (⊎_elim (λ x. f.lent i T x) (λ x. absurd (among_nil x)) (among_append (i, T) f.cancelled [] m));
        listed = λ i m. ⊎_elim
            (λ x. let t = f.listed i x in (t.0, among_left (split_of b.seat j ∷ []) t.1, t.2))
            (λ e. (split_of b.seat j, among_last ms (split_of b.seat j), sym e))
            (among_snoc b.seat.had i j (subst (λ xs. IsAmong i xs) had m));
        met = λ m i. ⊎_elim
            (λ x. ⊎_elim (λ y. inl (subst (λ xs. IsAmong m.stream xs) (sym out) (among_left (j ∷ []) y))) (λ t. inr (back_stays k t)) (f.met m x))
            (λ e. inl (subst (λ (z : Split). IsAmong z.stream c.seat.out) (sym e) (subst (λ xs. IsAmong j xs) (sym out) (among_last b.seat.out j))))
            (among_snoc ms m (split_of b.seat j) i);
      }

  came_back : (b c y : Seen P) (j n : ℕ) (T : List ℕ) → IsAfter (folio b.seat) (folio c.seat) → CanJoin b.seat y.seat → AreApart b.seat y.seat → c.seat ≡ joined b.seat y.seat → Visits ends j n T y → y.seat.by ≡ Inner j → Lent c.seat j T → HasReturned c.seat j → CameBack ends c j n
  came_back b c y j n T after can apart is visit by lent returned =
      let events : c.seat.events ≡ b.seat.events ++ y.seat.events = ap (λ v. v.events) is in record {
        returned = returned;
        rows = T;
        last = y;
        visit = visit;
        lent = lent;
        own = λ e i. (
          (λ m. ⊎_elim (λ o. absurd (apart.mine e o (i ∙ sym by))) (λ o. o) (among_append e b.seat.events y.seat.events (subst (λ l. IsAmong e l) events m))),
          (λ m. subst (λ l. IsAmong e l) (sym events) (among_right e b.seat.events y.seat.events m)),
        );
      }

  -- the streams whose seats are out had a seat
  out_had : {b : Seen P} {ms : List Split} → IsFamily ends b ms → (j : ℕ) → IsAmong j b.seat.out → IsAmong j b.seat.had × (b.seat.by ≢ Inner j)
  out_had f j m = (called_after f.calls).given (λ i o. absurd (among_nil (subst (λ l. IsAmong i l) f.alone.out o))) j m

  pub family_joins : (b c y : Seen P) (ms : List Split) (j : ℕ) (T : List ℕ) → IsFamily ends b ms → CanJoin b.seat y.seat → AreApart b.seat y.seat → c ≡ record b { seat = joined b.seat y.seat } → ((m : Split) → IsAmong m ms → m.stream ≡ j → Visits ends j m.floor T y) → y.seat.by ≡ Inner j → Lent b.seat j T → IsFamily ends c ms
  family_joins b c y ms j T f can apart is visit by lent =
      let k : Called ends b [] c = taken_in b c y.seat none can apart is in
      let seat : c.seat ≡ joined b.seat y.seat = ap (λ x. x.seat) is in
      let name : name_of y.seat.by ≡ j = ap name_of by in
      let same : can.1.0 ≡ j = inner_is can.1.0 j (sym can.1.1 ∙ by) in
      let given = out_had f j (subst (λ i. IsAmong i b.seat.out) same can.1.2) in
      let returned : HasReturned c.seat j = subst (λ v. HasReturned v j) (sym seat) (given.0, (λ m. (among_without (name_of y.seat.by) b.seat.out j m).1 (sym name)), given.1) in
      record {
        first = f.first;
        start = f.start;
        alone = f.alone;
        cancelled = f.cancelled ++ [];
        calls = called_then f.calls k;
        lent = λ i U m. lent_stays k (⊎_elim (λ x. f.lent i U x) (λ x. absurd (among_nil x)) (among_append (i, U) f.cancelled [] m));
        listed = λ i m. f.listed i (subst (λ v. IsAmong i v.had) seat m);
        met = λ m i. ⊎_elim
            (λ x. ⊎_elim
            (λ e. inr (subst (λ q. CameBack ends c q m.floor) (sym e) (came_back b c y j m.floor T (called_after k) can apart seat (visit m i e) by (lent_stays k lent) returned)))
            (λ ne. inl (subst (λ v. IsAmong m.stream v.out) (sym seat) (among_kept (name_of y.seat.by) b.seat.out m.stream x (λ e. ne (e ∙ name)))))
            (cases_eq m.stream j))
            (λ t. inr (back_stays k t))
            (f.met m i);
      }

  back_by : {b : Seen P} {j n : ℕ} (t : CameBack ends b j n) → t.last.seat.by ≡ Inner j
  back_by t = (called_after t.visit.calls).by ∙ t.visit.guest.by

  back_finished : (b : Seen P) (L : List Event) {j n : ℕ} (t : CameBack ends b j n) → IsLedgerOf b.seat L → IsFinishedLedger t.last b.seat L
  back_finished b L t ledger = record { ledger = ledger; own = λ e i. t.own e (i ∙ back_by t) }

  pub family_shelves : ShelvesOfFamily ends
  family_shelves = record {
    main = λ b ms L j n f t l x y r m. shelves_apart b.seat L f.start x f.calls (own_finished b L l) t.visit.guest.start y t.visit.calls (back_finished b L t l) (λ e. t.returned.2 (e ∙ back_by t)) r m;
    back = λ b L i j m n s t ne l x y r o. shelves_apart b.seat L s.visit.guest.start x s.visit.calls (back_finished b L s l) t.visit.guest.start y t.visit.calls (back_finished b L t l) (λ e. ne (inner_is i j (sym (back_by s) ∙ e ∙ back_by t))) r o;
  }

  -- the ledger of a tree that came back
  back_whole : (b : Seen P) (j n : ℕ) (L : List Event) → CameBack ends b j n → IsLedgerOf b.seat L → ((T : List ℕ) → Lent b.seat j T → AreCovered L ((j, T) ∷ [])) → IsWholeFor L (Inner j)
  back_whole b j n L t ledger covered =
      subst (λ q. IsWholeFor L q) (back_by t) (called_whole b.seat L t.visit.guest.start t.visit.calls (back_finished b L t ledger) t.visit.root (covered t.rows t.lent))

  pub family_whole : (b : Seen P) (ms : List Split) (L : List Event) → IsFamily ends b ms → b.seat.out ≡ [] → IsClosedScope b 0 → IsLedgerOf b.seat L → IsWholeLedger L
  family_whole b ms L f out root ledger =
      let end = own_finished b L ledger in
      let own : IsWholeFor L b.seat.by = called_whole b.seat L f.start f.calls end root (own_leases_covered b.seat L f.start f.calls end f.lent) in
      let events = called_events b.seat L f.start f.calls end in
      let covered : (j : ℕ) (T : List ℕ) → Lent b.seat j T → AreCovered L ((j, T) ∷ []) = λ j T l i U m. (let x : ℕ × List ℕ = (i, U) in let y : ℕ × List ℕ = (j, T) in let q = only x y m in lent_covered b.seat L i U (subst (λ (z : ℕ × List ℕ). Lent b.seat z.0 z.1) (sym q) l) ledger.legal events) in
      let each : (e : Event) → IsAmong e L → IsWholeFor L e.by = λ e m. ⊎_elim
      (λ i. subst (λ q. IsWholeFor L q) (sym i) own)
      (λ i.
      let t = f.listed i.0 i.2 in
      let home : ¬ (IsAmong t.0.stream b.seat.out) = λ o. among_nil (subst (λ l. IsAmong t.0.stream l) out o) in
      let back : CameBack ends b t.0.stream t.0.floor = ⊎_elim (λ o. absurd (home o)) (λ c. c) (f.met t.0 t.1) in
      subst (λ q. IsWholeFor L q) (ap Inner t.2 ∙ sym i.1) (back_whole b t.0.stream t.0.floor L back ledger (covered t.0.stream)))
      (ledger.names e m) in
      let all = whole_each L each in
      record { legal = ledger.legal; complete = all.0; order = all.1 }
