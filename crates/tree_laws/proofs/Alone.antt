-- A tree that only opens, acquires, writes and closes.
use Rattle.std.proofs.Common.{◌≡◌, ℕ, ◌≤◌, Bool, true, false, List, [], inl, inr, refl, sym, ap, ◌∙◌, subst, ⊎_elim}
use Rattle.chunk_core.specs.declared.code.Exit.{Exit}
use Rattle.chunk_core.specs.Lists.{IsAmong}
use Rattle.chunk_core.proofs.Filters.{among_append}
use Rattle.chunk_core.proofs.Members.{among_nil, among_snoc}
use Rattle.res_ledger.specs.declared.event.Event.{Event}
use Rattle.res_ledger.specs.declared.event.StreamNo.{StreamNo}
use Rattle.res_ledger.specs.declared.event.What.{What}
use Rattle.res_ledger.specs.declared.event.What.TheVariants.{Open, Acquire, Lease, Cancel, Close, Final}
use Rattle.res_ledger.specs.Own.{leased_of}
use Rattle.row_seat.specs.declared.view.View.{View}
use Rattle.row_seat.specs.Views.{IsLedgerOf, kept_after, noted, start as first_view}
use Rattle.scope_tree.specs.Calls.{AcquiresRow, AtStart, ClosesScope, IsClosedScope, OpensScope, Seen}
use Rattle.scope_tree.specs.Trace.{shutting}
use Rattle.scope_tree.proofs.Follows.{is_end}
use Rattle.scope_tree.proofs.Owning.{owner_pairs}
use Rattle.scope_tree.proofs.Use.{close_follows}
use Rattle.tree_laws.specs.Alone.{HasNoOthers, StaysAlone}
use Rattle.tree_laws.specs.Called.{Called}
use Rattle.tree_laws.specs.Laws.{AloneCanFinish, CallsStayAlone}
use Rattle.tree_laws.specs.Whole.{IsWholeLedger, IsWholeFor}
use Rattle.tree_laws.proofs.Ends.{called_whole, whole_each}

pub end_leaseless : (w : What) → is_end w ≡ true → leased_of w ≡ []
end_leaseless (Open s p) h = refl
end_leaseless (Acquire r s) h = refl
end_leaseless (Lease j s) h = absurd (let z : false ≡ true = h in cc)
end_leaseless (Cancel j x) h = refl
end_leaseless (Close s x) h = refl
end_leaseless (Final r x ok) h = refl

module _ {P : Type 0} where
  pub alone_same : (v : View P) → StaysAlone v v
  alone_same v = record { by = refl; main = refl; pairs = refl; kept = refl; had = refl; out = refl; events = λ e m. inl m }

  pub alone_then : (u v w : View P) → StaysAlone u v → StaysAlone v w → StaysAlone u w
  alone_then u v w a b = record {
    by = b.by ∙ a.by;
    main = b.main ∙ a.main;
    pairs = b.pairs ∙ a.pairs;
    kept = b.kept ∙ a.kept;
    had = b.had ∙ a.had;
    out = b.out ∙ a.out;
    events = λ e m. ⊎_elim (λ n. ⊎_elim (λ o. inl o) (λ k. inr (k.0 ∙ sym b.by, k.1)) (a.events e n)) (λ k. inr k) (b.events e m);
  }

  alone_noted : (v : View P) (n : ℕ) (w : What) → kept_after w v.kept ≡ v.kept → leased_of w ≡ [] → StaysAlone v (noted v (record { stamp = n; by = v.by; what = w }))
  alone_noted v n w k l =
      let x : Event = record { stamp = n; by = v.by; what = w } in
      record { by = refl; main = refl; pairs = refl; kept = k; had = refl; out = refl; events = λ e m. ⊎_elim (λ o. inl o) (λ i. inr (ap (λ (z : Event). z.by) i, ap (λ (z : Event). leased_of z.what) i ∙ l)) (among_snoc v.events e x m) }

  pub alone_opens : {a b : Seen P} {at c : ℕ} → OpensScope a at c b → StaysAlone a.seat b.seat
  alone_opens {a = a} {c = c} o = subst (λ v. StaysAlone a.seat v) (sym o.seat) (alone_noted a.seat o.stamp (Open c o.parent) refl refl)

  pub alone_acquires : {a b : Seen P} {s r : ℕ} {p : P} → AcquiresRow a s r p b → StaysAlone a.seat b.seat
  alone_acquires {a = a} {s = s} {r = r} o = subst (λ v. StaysAlone a.seat v) (sym o.seat) (let t = alone_noted a.seat o.stamp (Acquire r s) refl refl in record { by = t.by; main = t.main; pairs = t.pairs; kept = t.kept; had = t.had; out = t.out; events = t.events })

  -- the first seat of a run is at its start, alone
  pub first_at_start : (v : View P) (k : StreamNo) (rows n splits : ℕ) → v ≡ first_view k rows n splits → 1 ≤ n → AtStart v
  first_at_start v k rows n splits e l = subst AtStart (sym e) (record { events = refl; opened = refl; handed = refl; taken = refl; bare = λ j r m. absurd (among_nil m); leased = λ j r m. absurd (among_nil m); spare = l })

  pub first_alone : (v : View P) (k : StreamNo) (rows n splits : ℕ) → v ≡ first_view k rows n splits → HasNoOthers v
  first_alone v k rows n splits e = subst HasNoOthers (sym e) (record { main = refl; pairs = refl; kept = refl; had = refl; out = refl })

  no_others : (v w : View P) → HasNoOthers v → StaysAlone v w → HasNoOthers w
  no_others v w h a = record { main = a.main ∙ h.main; pairs = a.pairs ∙ h.pairs; kept = a.kept ∙ h.kept; had = a.had ∙ h.had; out = a.out ∙ h.out }

  pub alone_can_finish : AloneCanFinish P
  alone_can_finish v w h a rest = let o = no_others v w h a in (o.main, (rest.0, rest.3, o.pairs, o.kept, rest.1, rest.2), o.out)

module _ {P : Type 0} {ends : P → Exit → Bool → P → Type 0} where
  pub alone_closes : {x : Exit} {a b : Seen P} {s : ℕ} → ClosesScope ends a s x b → StaysAlone a.seat b.seat
  alone_closes {x = x} {a = a} {b = b} {s = s} c =
      let f = close_follows c in
      alone_then _ _ _ (alone_noted a.seat c.stamp (Close s x) refl refl) (record {
        by = ap (λ z. z.by) f.same;
        main = ap (λ z. z.main) f.same;
        pairs = owner_pairs c.torn.2;
        kept = ap (λ z. z.kept) f.same;
        had = ap (λ z. z.had) f.same;
        out = ap (λ z. z.out) f.same;
        events = λ e m. ⊎_elim (λ o. inl o) (λ i. let t = f.events.2 e i in inr (t.0 ∙ sym (ap (λ z. z.by) f.same), end_leaseless e.what t.1)) (among_append e (shutting a.seat s x c.stamp).events f.events.0 (subst (λ l. IsAmong e l) f.events.1 m));
      })

  pub calls_alone : CallsStayAlone ends
  calls_alone = record {
    opens = λ a b at c o. alone_opens o;
    acquires = λ a b s r p o. alone_acquires o;
    writes = λ v r p. record { by = refl; main = refl; pairs = refl; kept = refl; had = refl; out = refl; events = λ e m. inl m };
    closes = λ a b s x c. alone_closes c;
    none = alone_same;
    follow = alone_then;
  }

  pub alone_whole : {a b : Seen P} (L : List Event) → AtStart a.seat → Called ends a [] b → StaysAlone a.seat b.seat → IsClosedScope b 0 → IsLedgerOf b.seat L → IsWholeLedger L
  alone_whole {a = a} {b = b} L start calls alone root ledger =
      let own : IsWholeFor L b.seat.by = called_whole b.seat L start calls (record { ledger = ledger; own = λ e k. ((λ m. m), (λ m. m)) }) root (λ j T m. absurd (among_nil m)) in
      let by : (e : Event) → IsAmong e L → e.by ≡ b.seat.by = λ e m. ⊎_elim (λ n. absurd (among_nil (subst (λ l. IsAmong e l) start.events n))) (λ k. k.0) (alone.events e ((ledger.whole e).0 m)) in
      let all = whole_each L (λ e m. subst (λ k. IsWholeFor L k) (sym (by e m)) own) in
      record { legal = ledger.legal; complete = all.0; order = all.1 }
