-- What the ledger of a main tree tells that gave its streams in order.
use Rattle.std.proofs.Common.{◌≡◌, ◌⊎◌, ℕ, zero, suc, ◌+◌, ◌-◌, ◌<◌, ◌≤◌, Bool, true, if◌then◌else◌, List, [], ◌∷◌, ◌++◌, inl, inr, length, Some, refl, sym, ◌∙◌, ap, subst, ⊎_elim, arith, append_assoc}
use Rattle.std.proofs.lemmas.List.Sums.{sum_by-append}
use Rattle.std.specs.List.{AllByRecursion, count_by, range_with_len}
use Rattle.chunk_core.specs.Lists.{IsAmong}
use Rattle.chunk_core.specs.Outcomes.{exit_of}
use Rattle.chunk_core.specs.declared.code.Exit.{Exit}
use Rattle.chunk_core.specs.declared.code.How.{How}
use Rattle.chunk_core.specs.declared.code.Exit.TheVariants.{Succeeded}
use Rattle.chunk_core.proofs.Each.{each_among}
use Rattle.chunk_core.proofs.Filters.{among_filter, filter_among}
use Rattle.chunk_core.proofs.Members.{among_left}
use Rattle.res_ledger.specs.declared.event.StreamNo.{StreamNo}
use Rattle.res_ledger.specs.declared.event.StreamNo.TheVariants.{Inner, Outer}
use Rattle.res_ledger.specs.declared.event.What.{What}
use Rattle.res_ledger.specs.declared.event.What.TheVariants.{Acquire, Cancel, Close, Final, Lease, Open}
use Rattle.res_ledger.specs.declared.event.Event.{Event}
use Rattle.res_ledger.specs.Ledger.{Covers, IsLeased, MayFollow, Notes}
use Rattle.res_ledger.proofs.Ledgers.{covers_acquired, covers_leased}
use Rattle.res_ledger.proofs.Noted.{notes_own, own_notes}
use Rattle.res_ledger.proofs.Permuted.{among_range}
use Rattle.res_ledger.proofs.Prefixes.{front_notes, split_at}
use Rattle.res_ledger.specs.Own.{own}
use Rattle.run_rules.specs.Facts.{first_numbers}
use Rattle.run_rules.specs.Giving.{GivesInOrder, is_giving}
use Rattle.run_rules.specs.Pace.{IsPaced, is_active, is_standing}
use Rattle.run_rules.specs.Work.{Opener, opener_places}
use Rattle.scope_tree.specs.Calls.{Seen}
use Rattle.join_tree.specs.Given.{given}
use Rattle.join_tree.specs.Progress.{Progress}
use Rattle.join_tree.specs.Settled.{Settles}
use Rattle.job_runs.specs.Rows.{CoversNone}
use Rattle.joined_runs.specs.Shares.{IsJoinedLedger, IsOuterNote}
use Rattle.collected.proofs.AllGiven.{all_close}
use Rattle.collected.proofs.TriedRows.{range_both}

some_exit : (x y : Exit) → Some x ≡ Some y → x ≡ y
some_exit x y e = cc

-- fewer of the first numbers pass
fewer_count : (f : ℕ → Bool) (n most : ℕ) → n ≤ most → count_by f (first_numbers n) ≤ count_by f (first_numbers most)
fewer_count f n most few =
    let z : n + (most - n) ≡ most = omega (arith, few) in
    let sum = sum_by-append (λ k. if f k then 1 else 0) (range_with_len 0 n) (range_with_len (0 + n) (most - n)) in
    let both = ap (count_by f) (range_both 0 n (most - n)) in
    let all = ap (λ m. count_by f (first_numbers m)) z in
    omega (arith, sum, both, all)

-- fewer streams are given in pace as well
pub fewer_paced : (width n most : ℕ) (L : List Event) → n ≤ most → IsPaced width most L → IsPaced width n L
fewer_paced width n most L few p = record {
  ahead = p.ahead;
  within = λ P Q e is. let w = p.within P Q e is in let f = fewer_count (is_active P e) n most few in omega (arith, w, f);
  leases = p.leases;
  waits = λ P Q e is. let w = p.waits P Q e is in let f = fewer_count (is_standing (P ++ e ∷ [])) n most few in omega (arith, w, f);
  begins = p.begins;
}

module _ {P : Type 0} (width most : ℕ) (b : Seen P) (q : Progress P) (L : List Event) (s : Settles width most b q L) where
  -- What was noted as streams were given.

  pub noted_given : (w : What) → is_giving w ≡ true → Notes L Outer w → IsAmong w (given b.seat)
  noted_given w is n = subst (λ E. IsAmong w E) s.gave (filter_among is_giving w (own Outer L) (notes_own L Outer w n) is)

  pub given_noted : (w : What) → IsAmong w (given b.seat) → Notes L Outer w
  given_noted w m = own_notes L Outer w (among_filter is_giving w (own Outer L) (subst (λ E. IsAmong w E) (sym s.gave) m)).0

  -- a row that a lease covers was acquired by the outer stream
  pub covered_row : (j r : ℕ) (k : StreamNo) → Covers L j k r → (t : ℕ) × Notes L Outer (Acquire r t)
  covered_row j r k c =
      let l = covers_leased L j r k c in
      let a = covers_acquired L j r k c in
      (a.0, subst (λ x. Notes L x (Acquire r a.0)) (s.told.lessor k j l.0 l.1) a.1)

  -- a row that has a Final was acquired by the stream that noted it, or by the outer one
  pub ended_row : (k : StreamNo) (r : ℕ) (x : Exit) (ok : Bool) → Notes L k (Final r x ok) → ((t : ℕ) × Notes L k (Acquire r t)) ⊎ ((t : ℕ) × Notes L Outer (Acquire r t))
  ended_row k r x ok n =
      let at = split_at n.0 L n.1 in
      let may : MayFollow at.0 k (Final r x ok) = subst (λ w. MayFollow at.0 w (Final r x ok)) n.2 (subst (λ w. MayFollow at.0 n.0.by w) n.3 (s.whole.legal at.0 at.1 n.0 at.2)) in
      ⊎_elim
      (λ a. inl (a.0, subst (λ l. Notes l k (Acquire r a.0)) (sym at.2) (front_notes (n.0 ∷ at.1) a.1)))
      (λ c. inr (covered_row c.0 r c.1 (longer at.0 (n.0 ∷ at.1) at.2 c.0 c.1 c.2)))
      may.1
    where
      longer : (A B : List Event) → L ≡ A ++ B → (j : ℕ) (p : StreamNo) → Covers A j p r → Covers L j p r
      longer A B is j p c = (c.0, c.1 ++ B, c.2, c.3, is ∙ (ap (λ l. l ++ B) c.4 ∙ append_assoc c.0 (c.2 ∷ c.1) B), c.5, c.6, c.7)

  -- and where the outer stream noted it, by the outer one
  pub outer_row : (r : ℕ) (x : Exit) (ok : Bool) → Notes L Outer (Final r x ok) → (t : ℕ) × Notes L Outer (Acquire r t)
  outer_row r x ok n = ⊎_elim (λ a. a) (λ a. a) (ended_row Outer r x ok n)

  -- the outer stream's rows are the first so many
  module _ (rows : ℕ) (few : (r t : ℕ) → Notes L Outer (Acquire r t) → r < rows) where
    pub uncovered : (from to : ℕ) → rows ≤ from → CoversNone from to L
    uncovered from to less j r k w c = let a = covered_row j r k c in let l = few r a.0 a.1 in let f = w.0 in omega (arith, less, l, f)

    module _ (o : Opener) (n : ℕ) (order : GivesInOrder o n L) (leased : q.leased ≤ n) where
      closed_so : (z : ℕ) (x : Exit) → Notes L Outer (Close (suc z) x) → x ≡ Succeeded
      closed_so z x k = all_close o n (suc z) x (subst (λ E. IsAmong (Close (suc z) x) E) order.1 (among_left order.0 (filter_among is_giving (Close (suc z) x) (own Outer L) (notes_own L Outer (Close (suc z) x) k) refl)))

      note_so : (h : How) → q.root ≡ Some (exit_of h) → (w : What) → Notes L Outer w → IsOuterNote rows n h w
      note_so h root (Lease j z) k = let l = s.told.outer (Lease j z) k in omega (arith, l, leased)
      note_so h root (Cancel j x) k = (s.told.outer (Cancel j x) k).0
      note_so h root (Close zero x) k = some_exit x (exit_of h) (sym (s.told.outer (Close 0 x) k) ∙ root)
      note_so h root (Close (suc z) x) k = closed_so z x k
      note_so h root (Open z p) k = tt
      note_so h root (Acquire r z) k = few r z k
      note_so h root (Final r x ok) k = let a = outer_row r x ok k in few r a.0 a.1

      named : (e : Event) → IsAmong e L → (e.by ≡ Outer) ⊎ ((k : ℕ) × (k < n) × (e.by ≡ Inner k))
      named e i =
          ⊎_elim
          (λ by. inl by)
          (λ y.
          let t = s.told.back y.0 y.1 in
          let older = s.older t.2.0 t.2.1 in
          let dealt = s.dealt in
          let is = t.2.2 in
          inr (t.0, omega (arith, older, dealt, leased, is), y.2 ∙ t.1))
          (s.told.whose e i)

      -- it is a whole ledger of the outer stream, which ended so, and of those that it gave
      pub joined_ledger : (h : How) → n ≤ most → width ≡ o.max_open → rows ≡ length (opener_places o) → q.root ≡ Some (exit_of h) → IsJoinedLedger o n h L
      joined_ledger h less same count root = record {
        stamped = s.ledger.stamped;
        legal = s.whole.legal;
        complete = s.whole.complete;
        ordered = s.whole.order;
        order = order;
        paced = subst (λ w. IsPaced w n L) same (fewer_paced width n most L less s.paced);
        names = named;
        outer_notes = λ e i by. subst (λ t. IsOuterNote t n h e.what) count (note_so h root e.what (e, i, by, refl));
        root = (exit_of h, s.told.root (exit_of h) root);
      }

  -- these streams were leased for
  pub leased_from : (j m : ℕ) → j + m ≤ q.leased → AllByRecursion (λ k. IsLeased L k) (range_with_len j m)
  leased_from j m few = each_among (λ k. IsLeased L k) (range_with_len j m) (λ k i. let l = (among_range j m k i).1 in let x = s.told.leases k (omega (arith, l, few)) in (Outer, x.0, x.1))
