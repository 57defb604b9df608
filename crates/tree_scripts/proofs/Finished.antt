-- The ledger of a seat that nobody else used, and a lease that was the last thing left.
use Rattle.std.proofs.Common.{◌≡◌, ℕ, suc, Bool, true, cond, not, List, [], ◌∷◌, ◌++◌, length, refl, sym, ap, ◌∙◌, subst, ⊎_elim, arith, append_assoc, append-nil, eq-eqb, length-append, map, nat_eq, reverse}
use Rattle.chunk_core.specs.Lists.{IsAmong}
use Rattle.chunk_core.specs.Lists.IsAmong.{here, there}
use Rattle.chunk_core.proofs.Filters.{among_append}
use Rattle.chunk_core.proofs.Members.{among_cons, among_nil}
use Rattle.res_ledger.specs.declared.event.Event.{Event}
use Rattle.res_ledger.specs.declared.event.StreamNo.{StreamNo}
use Rattle.res_ledger.specs.declared.event.What.{What}
use Rattle.res_ledger.specs.declared.event.What.TheVariants.{Acquire, Cancel, Final}
use Rattle.res_ledger.specs.Ledger.{Notes}
use Rattle.res_ledger.specs.Order.{Picks, finals, firsts}
use Rattle.res_ledger.specs.Order.Picks.{none, pass, pick}
use Rattle.res_ledger.specs.Own.{own, rows}
use Rattle.res_ledger.specs.Streams.{by_stream, same_stream}
use Rattle.res_ledger.proofs.Ledgers.{stream_same}
use Rattle.res_ledger.proofs.Noted.{flat_holds}
use Rattle.res_ledger.specs.Rising.{Rises}
use Rattle.res_ledger.specs.Ledger.{stamped}
use Rattle.row_seat.specs.declared.view.View.{View}
use Rattle.row_seat.specs.Views.{IsLedgerOf, without}
use Rattle.scope_tree.specs.declared.branch.AcquiredRow.{AcquiredRow}
use Rattle.scope_tree.specs.Calls.{Cancels, Seen}
use Rattle.scope_tree.specs.Kept.{Shelved}
use Rattle.std.specs.List.{IsDistinct}
use Rattle.scope_tree.specs.Released.{said}
use Rattle.scope_tree.specs.Rights.{HasNoLeaseBut}
use Rattle.tree_scripts.specs.Waiting.{NotesAlone, CancelsAndFinishes, WaitsForCancel, noted_by}
use Rattle.scope_tree.specs.Trace.{canceling, ends_of, trace}
use Rattle.scope_tree.proofs.Bridge.{in_noted, in_rows, noted_in}
use Rattle.scope_tree.proofs.Distinct.{picks_among}
use Rattle.chunk_core.proofs.Reversed.{among_reverse, reverse_among}
use Rattle.chunk_core.proofs.Distinct.{distinct_reverse, distinct_head, distinct_tail}
use Rattle.scope_tree.proofs.Leasing.{among_pairs, pairs_among}
use Rattle.scope_tree.proofs.Tidy.{ledger_by, own_by}
use Rattle.scope_tree.proofs.Owed.{number_among}
use Rattle.res_ledger.proofs.Growth.{noted_more}
use Rattle.chunk_core.specs.declared.code.Exit.{Exit}
use Rattle.scope_tree.proofs.Follows.{follows_alone, follows_noted, same_by}
use Rattle.scope_tree.proofs.Lessee.{lease_pairs_none, lease_pays}
use Rattle.scope_tree.proofs.Releasing.{released_picks}
use Rattle.scope_tree.proofs.Use.{cancel_follows, canceled_said}
use Rattle.tree_scripts.proofs.Alone.{alone_more}

-- where each of distinct rows is picked all are
pub picks_all : {may : ℕ → Type 0} {xs ys : List ℕ} → Picks may xs ys → IsDistinct nat_eq ys → ((r : ℕ) → IsAmong r ys → IsAmong r xs) → xs ≡ ys
picks_all none d h = refl
picks_all (pick {ys = ys} x p) d h = ap (λ l. x ∷ l) (picks_all p (distinct_tail x ys d) (λ r m. ⊎_elim (λ e. absurd (distinct_head x ys d (subst (λ z. IsAmong z ys) e m))) (λ i. i) (among_cons (h r (there x m)))))
picks_all (pass {ys = ys} y m p) d h = absurd (distinct_head y ys d (picks_among y p (h y (here ys))))

final_among : (r : ℕ) (y x : Exit) (ok : Bool) (fs : List (ℕ × Bool)) → IsAmong (Final r y ok) (finals x fs) → IsAmong r (firsts fs)
final_among r y x ok [] m = absurd (among_nil m)
final_among r y x ok (f ∷ fs) m = ⊎_elim (λ e. subst (λ z. IsAmong z (firsts (f ∷ fs))) (let a : What = Final f.0 x f.1 in let q : a ≡ Final r y ok = sym e in let i : f.0 ≡ r = cc in i) (here (firsts fs))) (λ n. there f.0 (final_among r y x ok fs n)) (among_cons m)

cancel_final : (j r : ℕ) (x y : Exit) (ok : Bool) → (let a : What = Final r y ok in a ≡ Cancel j x) → ⊥
cancel_final j r x y ok e = cc

first_of_said : (r : ℕ) (ok : Bool) (fs : List (ℕ × Bool)) → IsAmong (r, ok) fs → IsAmong r (firsts fs)
first_of_said r ok [] m = absurd (among_nil m)
first_of_said r ok (f ∷ fs) m = ⊎_elim (λ e. subst (λ z. IsAmong z (firsts (f ∷ fs))) (ap (λ y. y.0) (sym e)) (here (firsts fs))) (λ n. there f.0 (first_of_said r ok fs n)) (among_cons m)

event_is : (e : Event) (n : ℕ) (k : StreamNo) → e.stamp ≡ n → e.by ≡ k → e ≡ record { stamp = n; by = k; what = e.what }
event_is e n k s b = ap (λ i. let y : Event = record { stamp = i; by = e.by; what = e.what } in y) s ∙ ap (λ i. let y : Event = record { stamp = n; by = i; what = e.what } in y) b

-- stamped events of one stream are what it noted
stamped_is : (k : StreamNo) (A M : List Event) → ((P Q : List Event) (e : Event) → M ≡ P ++ e ∷ Q → e.stamp ≡ length (A ++ P)) → ((e : Event) → IsAmong e M → e.by ≡ k) → M ≡ stamped (length A) (noted_by k (own k M))
stamped_is k A [] h b = refl
stamped_is k A (e ∷ M) h b =
    let by = b e (here M) in let l = length-append A (e ∷ []) in let n : length (A ++ e ∷ []) ≡ suc (length A) = omega (l, arith) in
    let t = stamped_is k (A ++ e ∷ []) M (λ P Q x i. h (e ∷ P) Q x (ap (λ y. e ∷ y) i) ∙ ap length (sym (append_assoc A (e ∷ []) P))) (λ x m. b x (there e m)) in
    ap (λ y. y ∷ M) (event_is e (length A) k (h [] M e refl ∙ ap length (append-nil A)) by)
    ∙ ap (λ l. let y : Event = record { stamp = length A; by = k; what = e.what } in y ∷ l) (t ∙ ap (λ i. stamped i (noted_by k (own k M))) n)
    ∙ ap (λ c. stamped (length A) (noted_by k (cond c (e.what ∷ own k M) (own k M)))) (sym (ap (λ x. same_stream x k) by ∙ stream_same k))

module _ {P : Type 0} where
  -- a seat on which no lease stands and that keeps none has none
  pub no_leases : (v : View P) → v.pairs ≡ [] → v.kept ≡ [] → HasNoLeaseBut v []
  no_leases v p k = record { kept = λ j m. absurd (among_nil (subst (λ l. IsAmong j l) k m)); pairs = λ j r m. absurd (among_nil (subst (λ l. IsAmong (j, r) l) p m)) }

  -- the ledger of a seat with no events but its own has what it noted
  pub ledger_stamped : (v : View P) (L : List Event) → IsLedgerOf v L → NotesAlone v → Rises (by_stream v.by v.events) → L ≡ stamped 0 (noted_by v.by (trace v))
  ledger_stamped v L is a r =
      let mine : own v.by L ≡ trace v = own_by v.by L ∙ ap (map (λ (e : Event). e.what)) (ledger_by v L v.by is r) ∙ sym (own_by v.by v.events) in
      stamped_is v.by [] L is.stamped (λ e m. a e ((is.whole e).0 m)) ∙ ap (λ E. stamped 0 (noted_by v.by E)) mine

  module _ {ends : P → Exit → Bool → P → Type 0} {x : Exit} {a b : Seen P} {j : ℕ} {T : List ℕ} (c : Cancels ends a j T x b) where
    module _ (w : WaitsForCancel a j T) where
      pub cancel_rest : (b.seat.main ≡ true) × (b.seat.pairs ≡ []) × (b.seat.kept ≡ []) × (b.seat.out ≡ [])
      cancel_rest =
          let f = cancel_follows c in (
            ap (λ z. z.main) f.same ∙ w.main,
            lease_pairs_none c.left.2 (λ i r m. let t = pairs_among j i r T (subst (λ l. IsAmong (i, r) l) w.pairs m) in (t.0, reverse_among r T t.1)),
            ap (λ z. z.kept) f.same ∙ ap (without j) w.kept ∙ ap (λ t. cond (not t) (j ∷ []) []) (eq-eqb j j refl),
            ap (λ z. z.out) f.same ∙ w.out,
          )

      -- each row of the lease ends
      pub cancel_settles : (hs : List AcquiredRow) (L : List Event) → Shelved a.seat hs a.shelf → IsDistinct nat_eq T → IsLedgerOf b.seat L → Rises (by_stream b.seat.by b.seat.events) → CancelsAndFinishes ends a j T x L b.shelf
      cancel_settles hs L sh d is ri =
          let g = cancel_follows c in let xs = c.left.0 in
          let alone : NotesAlone b.seat = follows_alone g (alone_more a.seat c.stamp (Cancel j x) w.events) in
          let said' = canceled_said c in
          let all : (r : ℕ) → IsAmong r (reverse T) → IsAmong r (firsts (said xs)) = λ r m.
          let m' = among_reverse r T m in
          let t = number_among r (rows (trace a.seat)) (w.rows r m') in
          let acq = in_noted a.seat.by (Acquire r t.0) a.seat.events (in_rows r t.0 (trace a.seat) t.1) in
          let acq' : Notes b.seat.events a.seat.by (Acquire r t.0) = follows_noted g (noted_more a.seat.events (canceling a.seat j x c.stamp) acq) in
          let f = is.ended r (a.seat.by, t.0, (acq'.0, (is.whole acq'.0).1 acq'.1, acq'.2, acq'.3)) in
          let y = f.2.0 in let e = f.2.1.0 in let em = (is.whole e).0 f.2.1.1 in
          let fin : IsAmong (Final r y f.1) (trace b.seat) = noted_in b.seat.by (Final r y f.1) b.seat.events (e, em, alone e em, f.2.1.3) in
          ⊎_elim
          (λ o. absurd (sh.pairs j r (subst (λ l. IsAmong (j, r) l) (sym w.pairs) (among_pairs j r T m')) (first_of_said r f.1 (said a.shelf) (subst (λ l. IsAmong (r, f.1) l) sh.said_are (flat_holds ends_of (Final r y f.1) (trace a.seat) (r, f.1) o (here []))))))
          (λ o. ⊎_elim (λ z. absurd (cancel_final j r x y f.1 z)) (λ z. final_among r y x f.1 (said xs) z) (among_cons o))
          (among_append (Final r y f.1) (trace a.seat) (Cancel j x ∷ finals x (said xs)) (subst (λ E. IsAmong (Final r y f.1) E) said' fin)) in
          record {
            last = xs;
            shelf_is = c.left.1;
            rows = picks_all (released_picks c.left.2) (distinct_reverse T d) all;
            pays = λ y m. lease_pays y c.left.2 m;
            ledger = ledger_stamped b.seat L is alone ri ∙ ap (λ k. stamped 0 (noted_by k (trace b.seat))) (same_by g) ∙ ap (λ E. stamped 0 (noted_by a.seat.by E)) said';
          }
