-- Each call of a tree keeps the order of what its stream notes, and so the ledger is in order.
use Rattle.std.proofs.Common.{◌≡◌, ℕ, ◌↔◌, Bool, true, false, cond, filter, map, List, [], ◌∷◌, ◌++◌, length, length-append, reverse, refl, sym, ap, ◌∙◌, subst, ⊎_elim, arith, append_assoc}
use Rattle.chunk_core.specs.declared.code.Exit.{Exit}
use Rattle.chunk_core.specs.Lists.{IsAmong, has}
use Rattle.chunk_core.specs.Lists.IsAmong.{here, there}
use Rattle.chunk_core.proofs.Cuts.{among_parts}
use Rattle.chunk_core.proofs.Filters.{among_filter}
use Rattle.chunk_core.proofs.Members.{among_cons, among_left, among_last, among_nil}
use Rattle.res_ledger.specs.declared.event.Event.{Event}
use Rattle.res_ledger.specs.declared.event.StreamNo.{StreamNo}
use Rattle.res_ledger.specs.declared.event.What.TheVariants.{Lease}
use Rattle.res_ledger.specs.Ledger.{Covers, IsLegal}
use Rattle.res_ledger.specs.Order.{IsInBlocks, IsInOrder, covered, covered_by}
use Rattle.res_ledger.specs.Order.IsInBlocks.{none}
use Rattle.res_ledger.specs.Own.{own}
use Rattle.res_ledger.specs.Streams.{same_stream}
use Rattle.res_ledger.specs.Streams.{by_stream, same_stream}
use Rattle.res_ledger.proofs.Blocks.{blocks_plain}
use Rattle.res_ledger.proofs.Leases.{covered_found}
use Rattle.res_ledger.proofs.Ledgers.{by_in, by_out, covers_more, covers_own}
use Rattle.chunk_core.proofs.Bools.{in_has}
use Rattle.res_ledger.specs.Rising.{Rises}
use Rattle.row_seat.specs.declared.view.View.{View}
use Rattle.row_seat.specs.Views.{AreApart, IsLedgerOf, joined, split_main}
use Rattle.scope_tree.specs.Calls.{AcquiresRow, Cancels, ClosesScope, Leases, OpensScope, Seen}
use Rattle.scope_tree.specs.Tidy.{IsTidy}
use Rattle.scope_tree.specs.Trace.{acquiring, canceling, closing, leasing, opening, trace}
use Rattle.scope_tree.proofs.Follows.{follows_covers, released_follows, same_by}
use Rattle.scope_tree.proofs.Parting.{join_trace}
use Rattle.scope_tree.proofs.Use.{acquire_in_order, cancel_in_order, close_in_order, leased_said, open_in_order}

module _ {P : Type 0} where
  -- a lease that covered a row still does
  covers_still : (v w : View P) (e : Event) (k : StreamNo) → w.by ≡ v.by → w.events ≡ v.events ++ e ∷ [] → (j r : ℕ) → Covers v.events j v.by r → Covers w.events j w.by r
  covers_still v w e k by is j r c = subst (λ b. Covers w.events j b r) (sym by) (subst (λ L. Covers L j v.by r) (sym is) (covers_more v.events e c))

  pub start_tidy : (v : View P) → v.events ≡ [] → IsTidy v []
  start_tidy v e = λ may due m d. subst (λ L. IsInBlocks (λ r. may r ≡ true) due [] (own v.by L)) (sym e) (none [])

  pub open_tidy : {a b : Seen P} {at c : ℕ} (Cs : List (ℕ × List ℕ)) → OpensScope a at c b → IsTidy a.seat Cs → IsTidy b.seat Cs
  open_tidy {a = a} {b = b} {c = c} Cs o t = λ may due m d. open_in_order o (t may due (λ j r x. m j r (covers_still a.seat b.seat (opening a.seat c o.parent o.stamp) a.seat.by (ap (λ v. v.by) o.seat) (ap (λ v. v.events) o.seat) j r x)) d)

  pub acquire_tidy : {a b : Seen P} {s r : ℕ} {p : P} (Cs : List (ℕ × List ℕ)) → AcquiresRow a s r p b → IsTidy a.seat Cs → IsTidy b.seat Cs
  acquire_tidy {a = a} {b = b} {s = s} {r = r} Cs o t = λ may due m d. acquire_in_order o (t may due (λ j q x. m j q (covers_still a.seat b.seat (acquiring a.seat r s o.stamp) a.seat.by (ap (λ v. v.by) o.seat) (ap (λ v. v.events) o.seat) j q x)) d)

  pub lease_tidy : {a b : Seen P} {s j : ℕ} {T : List ℕ} (Cs : List (ℕ × List ℕ)) → Leases a s j T b → IsTidy a.seat Cs → IsTidy b.seat Cs
  lease_tidy {a = a} {b = b} {s = s} {j = j} Cs o t = λ may due m d.
      subst (λ E. IsInBlocks (λ r. may r ≡ true) due [] E) (sym (leased_said o))
      (blocks_plain (trace a.seat) (Lease j s) refl (t may due (λ i q x. m i q (covers_still a.seat b.seat (leasing a.seat j s o.stamp) a.seat.by (ap (λ v. v.by) o.seat) (ap (λ v. v.events) o.seat) i q x)) d))

  pub close_tidy : {ends : P → Exit → Bool → P → Type 0} {x : Exit} {a b : Seen P} {s : ℕ} (Cs : List (ℕ × List ℕ)) → ClosesScope ends a s x b → IsTidy a.seat Cs → IsTidy b.seat Cs
  close_tidy {x = e} {a = a} {b = b} {s = s} Cs c t = λ may due m d.
      let by : b.seat.by ≡ a.seat.by = same_by (released_follows c.torn.2) in
      let m' : (j r : ℕ) → Covers b.seat.events j a.seat.by r → may r ≡ true = λ j r x. m j r (subst (λ k. Covers b.seat.events j k r) (sym by) x) in
      close_in_order c (λ r j x. m' j r x) (t may due (λ j r x. m' j r (follows_covers (released_follows c.torn.2) (covers_more a.seat.events (closing a.seat s e c.stamp) x))) d)

  pub cancel_tidy : {ends : P → Exit → Bool → P → Type 0} {x : Exit} {a b : Seen P} {j : ℕ} {T : List ℕ} (Cs : List (ℕ × List ℕ)) → Cancels ends a j T x b → IsTidy a.seat Cs → IsTidy b.seat (Cs ++ (j, T) ∷ [])
  cancel_tidy {x = e} {a = a} {b = b} {j = j} {T = T} Cs c t = λ may due m d.
      let by : b.seat.by ≡ a.seat.by = same_by (released_follows c.left.2) in
      cancel_in_order c (d j T (among_last Cs (j, T)))
      (t may due (λ i r x. m i r (subst (λ k. Covers b.seat.events i k r) (sym by) (follows_covers (released_follows c.left.2) (covers_more a.seat.events (canceling a.seat j e c.stamp) x)))) (λ i U n. d i U (among_left ((j, T) ∷ []) n)))

  pub split_tidy : (v : View P) (j from to n : ℕ) (Cs : List (ℕ × List ℕ)) → IsTidy v Cs → IsTidy (split_main v j from to n) Cs
  split_tidy v j from to n Cs t = t

  pub join_tidy : (v w : View P) (Cs : List (ℕ × List ℕ)) → AreApart v w → IsTidy v Cs → IsTidy (joined v w) Cs
  join_tidy v w Cs a t = λ may due m d.
      subst (λ E. IsInBlocks (λ r. may r ≡ true) due [] E) (sym (join_trace v w a))
      (t may due (λ j r c. m j r (c.0, c.1 ++ w.events, c.2, c.3, ap (λ l. l ++ w.events) c.4 ∙ append_assoc c.0 (c.2 ∷ c.1) w.events, c.5, c.6, c.7)) d)

-- rising lists with the same events are one
rises_same : (L M : List Event) → Rises L → Rises M → ((x : Event) → IsAmong x L ↔ IsAmong x M) → L ≡ M
rises_same [] [] r s b = refl
rises_same [] (m ∷ M) r s b = absurd (among_nil ((b m).1 (here M)))
rises_same (e ∷ L) [] r s b = absurd (among_nil ((b e).0 (here L)))
rises_same (e ∷ L) (m ∷ M) r s b =
    let is : e ≡ m = ⊎_elim (λ i. i) (λ n. ⊎_elim (λ i. sym i) (λ o. let p = s.0 e n in let q = r.0 m o in absurd (omega (p, q, arith))) (among_cons ((b m).1 (here M)))) (among_cons ((b e).0 (here L))) in
    let stamp : e.stamp ≡ m.stamp = ap (λ (z : Event). z.stamp) is in
    ap (λ y. y ∷ L) is ∙ ap (λ l. m ∷ l) (rises_same L M r.1 s.1 (λ x. (
      (λ n. ⊎_elim (λ i. let p = r.0 x n in let q : x.stamp ≡ m.stamp = ap (λ (z : Event). z.stamp) i in absurd (omega (p, q, stamp, arith))) (λ o. o) (among_cons ((b x).0 (there e n)))),
      (λ n. ⊎_elim (λ i. let p = s.0 x n in let q : x.stamp ≡ e.stamp = ap (λ (z : Event). z.stamp) i in absurd (omega (p, q, stamp, arith))) (λ o. o) (among_cons ((b x).1 (there m n)))),
    )))

rises_filter : (f : Event → Bool) (L : List Event) → Rises L → Rises (filter f L)
rises_filter f [] r = tt
rises_filter f (e ∷ L) r = elim (f e) as (λ b. Rises (cond b (e ∷ filter f L) (filter f L))) [ true ↦ ((λ x m. r.0 x (among_filter f x L m).0), rises_filter f L r.1) | false ↦ rises_filter f L r.1 ]

-- a stamped list rises
stamped_rises : (L M : List Event) → ((P Q : List Event) (e : Event) → L ++ M ≡ P ++ e ∷ Q → e.stamp ≡ length P) → Rises M
stamped_rises L [] h = tt
stamped_rises L (e ∷ M) h = (
  (λ x m. let t = among_parts x M m in
      let a = h L M e refl in let b = h (L ++ e ∷ t.0) t.1 x (ap (λ l. L ++ e ∷ l) t.2 ∙ sym (append_assoc L (e ∷ t.0) (x ∷ t.1))) in let c = length-append L (e ∷ t.0) in omega (a, b, c, arith)),
  stamped_rises (L ++ e ∷ []) M (λ P Q x is. h P Q x (sym (append_assoc L (e ∷ []) M) ∙ is)),
)

pub own_by : (k : StreamNo) (L : List Event) → own k L ≡ map (λ (e : Event). e.what) (by_stream k L)
own_by k [] = refl
own_by k (e ∷ L) = (elim (same_stream e.by k) as (λ b. cond b (e.what ∷ own k L) (own k L) ≡ map (λ (e : Event). e.what) (cond b (e ∷ by_stream k L) (by_stream k L))) [ true ↦ ap (λ l. e.what ∷ l) (own_by k L) | false ↦ own_by k L ])

module _ {P : Type 0} where
  -- the events of a stream stand in the ledger as in the view of the seat that finished
  pub ledger_by : (u : View P) (L : List Event) (k : StreamNo) → IsLedgerOf u L → Rises (by_stream k u.events) → by_stream k L ≡ by_stream k u.events
  ledger_by u L k is r = rises_same (by_stream k L) (by_stream k u.events) (rises_filter (λ e. same_stream e.by k) L (stamped_rises [] L is.stamped)) r
      (λ x. ((λ m. let t = by_in k L x m in by_out k u.events x ((is.whole x).0 t.0) t.1), (λ m. let t = by_in k u.events x m in by_out k L x ((is.whole x).1 t.0) t.1)))

  -- in a legal ledger with the events that a tidy seat noted these are in order
  pub tidy_in_order : (v : View P) (Cs : List (ℕ × List ℕ)) (L : List Event) → IsTidy v Cs → IsLegal L → by_stream v.by L ≡ by_stream v.by v.events → ((j : ℕ) (T : List ℕ) → IsAmong (j, T) Cs → covered_by L j ≡ T) → IsInOrder L v.by
  tidy_in_order v Cs L t legal is due =
      let E : own v.by L ≡ trace v = own_by v.by L ∙ ap (map (λ (e : Event). e.what)) is ∙ sym (own_by v.by v.events) in
      subst (λ l. IsInBlocks (λ r. has r (covered L) ≡ true) (λ j. reverse (covered_by L j)) [] l) (sym E)
      (t (λ r. has r (covered L)) (λ j. reverse (covered_by L j))
      (λ j r c. in_has r (covered L) (covered_found L legal j r v.by (covers_own v.by v.events L (sym is) j r c)))
      (λ j T m. ap reverse (due j T m)))
