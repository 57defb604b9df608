-- What splitting a seat off and taking it in again keep of a tree.
use Rattle.std.proofs.Common.{◌≡◌, ◌≢◌, ℕ, ◌+◌, ◌-◌, ◌<◌, ◌≤◌, ◌⊎◌, zero, suc, Bool, true, false, cond, not, eqb, List, [], ◌∷◌, ◌++◌, inl, inr, refl, sym, ap, ◌∙◌, subst, ⊎_elim, arith, append_assoc, append-nil, length}
use Rattle.chunk_core.specs.declared.code.Exit.{Exit}
use Rattle.chunk_core.specs.Lists.{IsAmong}
use Rattle.chunk_core.specs.Lists.IsAmong.{here, there}
use Rattle.chunk_core.proofs.Members.{among_nil, among_cons, among_left}
use Rattle.chunk_core.proofs.Filters.{among_append, among_filter}
use Rattle.res_ledger.specs.declared.event.Event.{Event}
use Rattle.res_ledger.specs.declared.event.StreamNo.{StreamNo}
use Rattle.res_ledger.specs.declared.event.StreamNo.TheVariants.{Inner}
use Rattle.res_ledger.specs.declared.event.What.{What}
use Rattle.res_ledger.specs.declared.event.What.TheVariants.{Open, Acquire, Lease, Cancel, Close, Final}
use Rattle.res_ledger.specs.Ledger.{IsAcquired, Notes, NotesFinal}
use Rattle.res_ledger.specs.Order.{firsts}
use Rattle.res_ledger.specs.Own.{closes, opens, own, rows}
use Rattle.res_ledger.specs.Streams.{same_stream}
use Rattle.res_ledger.specs.Streams.{by_stream}
use Rattle.res_ledger.proofs.Ledgers.{by_both, by_none}
use Rattle.res_ledger.proofs.Noted.{flat_found, own_notes}
use Rattle.res_ledger.specs.Rising.{Rises}
use Rattle.res_ledger.proofs.Scopes.{own_append}
use Rattle.res_ledger.proofs.Tests.{name}
use Rattle.row_seat.specs.declared.view.View.{View}
use Rattle.row_seat.specs.Views.{AreApart, AtRest, CanSplit, joined, run, split_main, split_off, within}
use Rattle.scope_tree.specs.declared.branch.Branch.{Branch}
use Rattle.scope_tree.specs.declared.branch.AcquiredRow.{AcquiredRow}
use Rattle.scope_tree.specs.declared.branch.Spent.{Spent}
use Rattle.scope_tree.specs.Calls.{AtStart}
use Rattle.scope_tree.specs.Kept.{Kept, Shelved}
use Rattle.scope_tree.specs.Released.{said}
use Rattle.scope_tree.specs.Trace.{ended_rows, ends_of, open_scopes, owed, trace}
use Rattle.scope_tree.proofs.Grown.{closed_like, holds_same, lends_less, mirrors_same, rests_less}
use Rattle.scope_tree.proofs.Parts.{eqb_eq}

run_among : (r n k : ℕ) → IsAmong r (run n k) → (n ≤ r) × (r < n + k)
run_among r n zero m = absurd (among_nil m)
run_among r n (suc k) m = ⊎_elim (λ e. (omega (e, arith), omega (e, arith))) (λ i. let t = run_among r (suc n) k i in let a = t.0 in let b = t.1 in (omega (a, arith), omega (b, arith))) (among_cons m)

module _ {P : Type 0} (v : View P) (bs : List Branch) (hs : List AcquiredRow) (xs : List (Spent P)) (k : Kept v bs hs) (s : Shelved v hs xs) (j from to n : ℕ) where
  fewer_pairs : (y : ℕ × ℕ) → IsAmong y (split_main v j from to n).pairs → IsAmong y v.pairs
  fewer_pairs y m = (among_filter (λ x. not (eqb x.0 j)) y v.pairs m).0

  fewer_empty : (r : ℕ) → IsAmong r (split_main v j from to n).empty → IsAmong r v.empty
  fewer_empty r m = (among_filter (λ r. not (within from to r)) r v.empty m).0

  pub split_keeps : owed v + n ≤ v.spare → Kept (split_main v j from to n) bs hs
  split_keeps f = record {
    mirrors = k.mirrors;
    holds = record { live = k.holds.live; only = k.holds.only; once = k.holds.once };
    lends = lends_less v (split_main v j from to n) fewer_pairs (λ r h. h) fewer_empty (λ i s m. m) k.lends;
    rests = rests_less v (split_main v j from to n) k.rests.handed k.rests.taken (λ r m. (fewer_empty r m, λ a. a)) (omega (f, arith)) k.rests;
  }

  pub split_shelved : Shelved (split_main v j from to n) hs xs
  split_shelved = record {
    said_are = s.said_are;
    distinct = s.distinct;
    opened = s.opened;
    pairs = λ i r m. s.pairs i r (fewer_pairs (i, r) m);
    empty = λ r m. s.empty r (fewer_empty r m);
    leased = λ i r m. s.leased i r (fewer_pairs (i, r) m);
    ended = s.ended;
    rises = s.rises;
  }

  pub split_start : CanSplit v j from to n → 1 ≤ n → AtStart (split_off v j from to n)
  split_start c one = record {
    events = refl;
    opened = refl;
    handed = refl;
    taken = refl;
    bare = λ i r m q. (let a = run_among r from (to - from) q in let b = a.0 in let d = a.1 in k.lends.bare i r (among_filter (λ x. eqb x.0 j) (i, r) v.pairs m).0 (c.3 r (b, omega (b, d, arith))).0);
    leased = λ i r m. ap Inner (sym (eqb_eq i j (among_filter (λ x. eqb x.0 j) (i, r) v.pairs m).1));
    spare = one;
  }

own_none : (k : StreamNo) (L : List Event) → ((e : Event) → IsAmong e L → e.by ≢ k) → own k L ≡ []
own_none k [] h = refl
own_none k (e ∷ L) h = (elim (same_stream e.by k) as (λ b. same_stream e.by k ≡ b → cond b (e.what ∷ own k L) (own k L) ≡ []) [ true ↦ λ q. absurd (h e (here L) (name e.by k q)) | false ↦ λ q. own_none k L (λ x m. h x (there e m)) ]) refl

pub first_of_said : (r : ℕ) (ok : Bool) (fs : List (ℕ × Bool)) → IsAmong (r, ok) fs → IsAmong r (firsts fs)
first_of_said r ok [] m = absurd (among_nil m)
first_of_said r ok (f ∷ fs) m = ⊎_elim (λ e. subst (λ z. IsAmong z (firsts (f ∷ fs))) (ap (λ y. y.0) (sym e)) (here (firsts fs))) (λ n. there f.0 (first_of_said r ok fs n)) (among_cons m)

pub first_said : (r : ℕ) (fs : List (ℕ × Bool)) → IsAmong r (firsts fs) → (ok : Bool) × IsAmong (r, ok) fs
first_said r [] m = absurd (among_nil m)
first_said r (f ∷ fs) m = ⊎_elim (λ e. (f.1, subst (λ z. IsAmong (z, f.1) (f ∷ fs)) (sym e) (here fs))) (λ n. let t = first_said r fs n in (t.0, there f t.1)) (among_cons m)

ends_shape : (w : What) (f : ℕ × Bool) → IsAmong f (ends_of w) → (x : Exit) × (w ≡ Final f.0 x f.1)
ends_shape (Open s p) f m = absurd (among_nil m)
ends_shape (Acquire r s) f m = absurd (among_nil m)
ends_shape (Lease j s) f m = absurd (among_nil m)
ends_shape (Cancel j x) f m = absurd (among_nil m)
ends_shape (Close s x) f m = absurd (among_nil m)
ends_shape (Final r x ok) f m = ⊎_elim (λ e. let q : ℕ × Bool = (r, ok) in (x, ap (λ (y : ℕ × Bool). Final y.0 x y.1) (sym e))) (λ n. absurd (among_nil n)) (among_cons m)

module _ {P : Type 0} where
  -- a row that ended has its Final
  pub ended_final : (v : View P) (fs : List (ℕ × Bool)) → ended_rows (trace v) ≡ fs → (r : ℕ) → IsAmong r (firsts fs) → (ok : Bool) × NotesFinal v.events v.by r ok
  ended_final v fs s r m =
      let t = first_said r fs m in let f = flat_found ends_of (trace v) (r, t.0) (subst (λ l. IsAmong (r, t.0) l) (sym s) t.1) in
      let e = ends_shape f.0 (r, t.0) f.2 in
      (t.0, (e.0, own_notes v.events v.by (Final r e.0 t.0) (subst (λ w. IsAmong w (trace v)) e.1 f.1)))

  -- what is on the shelf has its Final
  pub shelf_final : (v : View P) (hs : List AcquiredRow) (xs : List (Spent P)) → Shelved v hs xs → (r : ℕ) → IsAmong r (firsts (said xs)) → (ok : Bool) × NotesFinal v.events v.by r ok
  shelf_final v hs xs s r m = ended_final v (said xs) s.said_are r m

  -- a seat that is taken in notes nothing in the name of the main one
  pub join_trace : (v w : View P) → AreApart v w → trace (joined v w) ≡ trace v
  join_trace v w a = own_append v.by v.events w.events ∙ ap (λ l. trace v ++ l) (own_none v.by w.events a.events) ∙ append-nil (trace v)

  pub join_owed : (v w : View P) → AreApart v w → owed (joined v w) ≡ owed v
  join_owed v w a = ap (λ E. open_scopes E + length v.opened) (join_trace v w a)

module _ {P : Type 0} (v w : View P) (bs : List Branch) (hs : List AcquiredRow) (xs : List (Spent P)) (k : Kept v bs hs) (s : Shelved v hs xs) (a : AreApart v w) (rest : AtRest w) where
  same_trace : trace (joined v w) ≡ trace v
  same_trace = join_trace v w a

  up : (u : What) → Notes v.events v.by u → Notes (v.events ++ w.events) v.by u
  up u n = (n.0, among_left w.events n.1, n.2, n.3)

  acquired : (r : ℕ) → IsAcquired (v.events ++ w.events) r → IsAcquired v.events r ⊎ IsAcquired w.events r
  acquired r x = ⊎_elim (λ m. inl (x.0, x.1, (x.2.0, m, x.2.2, x.2.3))) (λ m. inr (x.0, x.1, (x.2.0, m, x.2.2, x.2.3))) (among_append x.2.0 v.events w.events x.2.1)

  pub join_keeps : Kept (joined v w) bs hs
  join_keeps =
      let o = ap opens same_trace in let c = ap closes same_trace in record {
        mirrors = mirrors_same o (ap rows same_trace) c k.mirrors;
        holds = holds_same v (joined v w) (λ r t m. (closed_like v (joined v w) (sym o) (sym c) t, closed_like (joined v w) v o c t)) (λ r. ((λ h. h), (λ h. h))) k.holds.once k.holds;
        lends = record {
          pairs = λ j r m h. let y = k.lends.pairs j r m h in (y.0, up (Lease j y.0) y.1);
          bare = λ j r m q. ⊎_elim (λ i. k.lends.bare j r m i) (λ i. (a.vacant r i).1 j m) (among_append r v.empty w.empty q);
        };
        rests = record {
          handed = k.rests.handed;
          taken = k.rests.taken;
          empty = λ r m x. ⊎_elim
              (λ i. k.rests.empty r i (⊎_elim (λ y. y) (λ y. a.kept r i y) (acquired r x)))
              (λ i. rest.1 r i (⊎_elim (λ y. a.taken r i y) (λ y. y) (acquired r x)))
              (among_append r v.empty w.empty m);
          spare = let e = join_owed v w a in let o = k.rests.spare in omega (e, o, arith);
        };
      }

  pub join_shelved : Shelved (joined v w) hs xs
  join_shelved = record {
    said_are = ap ended_rows same_trace ∙ s.said_are;
    distinct = s.distinct;
    opened = s.opened;
    pairs = s.pairs;
    empty = λ r m. ⊎_elim (λ i. s.empty r i) (λ i n. let t = shelf_final v hs xs s r n in (a.vacant r i).0 (v.by, t.0, t.1)) (among_append r v.empty w.empty m);
    leased = λ j r m. ⊎_elim (λ b. inl b) (λ y. inr (y.0, up (Lease j y.0) y.1)) (s.leased j r m);
    ended = λ r t m. ⊎_elim (λ o. inl o) (λ o. inr (⊎_elim (λ i. inl i) (λ y. inr (y.0, (y.1.0, let c = y.1.1 in (c.0, c.1 ++ w.events, c.2, c.3, ap (λ l. l ++ w.events) c.4 ∙ append_assoc c.0 (c.2 ∷ c.1) w.events, c.5, c.6, c.7)))) o)) (s.ended r t m);
    rises = subst Rises (sym (by_both v.by v.events w.events ∙ ap (λ l. by_stream v.by v.events ++ l) (by_none v.by w.events a.events) ∙ append-nil (by_stream v.by v.events))) s.rises;
  }
