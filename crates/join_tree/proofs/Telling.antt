-- What events tell, as there are more.
use Rattle.std.proofs.Common.{Bool, ◌≡◌, ℕ, zero, suc, ◌<◌, ◌≤◌, ◌⊎◌, true, false, List, [], ◌∷◌, ◌++◌, Some, inl, inr, refl, sym, ap, ◌∙◌, subst, ⊎_elim, arith}
use Rattle.std.proofs.lemmas.Bool.{cases_eq}
use Rattle.chunk_core.specs.declared.code.Exit.{Exit}
use Rattle.chunk_core.specs.declared.code.Exit.TheVariants.{Canceled}
use Rattle.chunk_core.specs.Lists.{IsAmong}
use Rattle.chunk_core.proofs.Members.{among_last, among_left, among_snoc}
use Rattle.res_ledger.specs.declared.event.Event.{Event}
use Rattle.res_ledger.specs.declared.event.StreamNo.{StreamNo}
use Rattle.res_ledger.specs.declared.event.StreamNo.TheVariants.{Inner, Outer}
use Rattle.res_ledger.specs.declared.event.What.{What}
use Rattle.res_ledger.specs.declared.event.What.TheVariants.{Acquire, Cancel, Close, Final, Lease, Open}
use Rattle.res_ledger.specs.Ledger.{Notes}
use Rattle.scope_tree.specs.Calls.{Seen}
use Rattle.scope_tree.proofs.Follows.{is_end}
use Rattle.tree_families.specs.Families.{Split}
use Rattle.join_tree.specs.Progress.{Progress}
use Rattle.join_tree.specs.Notes.{IsBegun, IsOuterNote, IsTold, is_table_note}

pub notes_more : {L M : List Event} {k : StreamNo} {w : What} → ((e : Event) → IsAmong e L → IsAmong e M) → Notes L k w → Notes M k w
notes_more h n = (n.0, h n.0 n.1, n.2, n.3)

pub below_or : (j n : ℕ) → j < suc n → (j < n) ⊎ (j ≡ n)
below_or j n l = ⊎_elim (λ e. inr e) (λ ne. inl (omega (l, ne, arith))) (cases_eq j n)

pub some_is : (x y : Exit) → Some x ≡ Some y → x ≡ y
some_is x y e = cc

module _ {P : Type 0} where
  -- what was noted stays what the outer stream may note
  pub note_stays : (p q : Progress P) → p.leased ≤ q.leased → p.next ≤ q.next → ((x : Exit) → p.root ≡ Some x → q.root ≡ Some x) → ((w : What) → IsAmong w p.tables → IsAmong w q.tables) → (w : What) → IsOuterNote p w → IsOuterNote q w
  note_stays p q l n r t (Open s c) h = t (Open s c) h
  note_stays p q l n r t (Acquire i s) h = t (Acquire i s) h
  note_stays p q l n r t (Lease j s) h = omega (h, l, arith)
  note_stays p q l n r t (Cancel j x) h = (h.0, (let k = h.1 in omega arith))
  note_stays p q l n r t (Close zero x) h = r x h
  note_stays p q l n r t (Close (suc s) x) h = t (Close (suc s) x) h
  note_stays p q l n r t (Final i x ok) h = (h.0, t (Acquire i h.0) h.1)

  pub end_note : (q : Progress P) (M : List Event) → ((r : ℕ) (x : Exit) (ok : Bool) → Notes M Outer (Final r x ok) → IsOuterNote q (Final r x ok)) → (w : What) → is_end w ≡ true → Notes M Outer w → IsOuterNote q w
  end_note q M ended (Open s c) h n = absurd (let z : false ≡ true = h in cc)
  end_note q M ended (Acquire i s) h n = absurd (let z : false ≡ true = h in cc)
  end_note q M ended (Lease j s) h n = absurd (let z : false ≡ true = h in cc)
  end_note q M ended (Cancel j x) h n = absurd (let z : false ≡ true = h in cc)
  end_note q M ended (Close s x) h n = absurd (let z : false ≡ true = h in cc)
  end_note q M ended (Final i x ok) h n = ended i x ok n

  -- a word on tables is one that is told
  pub table_note : (q : Progress P) (E : List What) (M : List Event) → ((w : What) → IsAmong w E → IsAmong w q.tables) → ((w : What) → IsAmong w E → is_table_note w ≡ true) → ((r : ℕ) (x : Exit) (ok : Bool) → Notes M Outer (Final r x ok) → IsOuterNote q (Final r x ok)) → (w : What) → IsAmong w E → Notes M Outer w → IsOuterNote q w
  table_note q E M more table ended (Open s c) m n = more (Open s c) m
  table_note q E M more table ended (Acquire i s) m n = more (Acquire i s) m
  table_note q E M more table ended (Lease j s) m n = absurd (let z : false ≡ true = table (Lease j s) m in cc)
  table_note q E M more table ended (Cancel j x) m n = absurd (let z : false ≡ true = table (Cancel j x) m in cc)
  table_note q E M more table ended (Close zero x) m n = absurd (let z : false ≡ true = table (Close zero x) m in cc)
  table_note q E M more table ended (Close (suc s) x) m n = more (Close (suc s) x) m
  table_note q E M more table ended (Final i x ok) m n = ended i x ok n

  -- calls of the outer stream, by which no seat comes or goes
  pub told_calls : (p q : Progress P) (L M : List Event) → IsTold p L → q.splits ≡ p.splits → q.back ≡ p.back → ((w : What) → IsOuterNote p w → IsOuterNote q w) → ((e : Event) → IsAmong e L → IsAmong e M) → ((e : Event) → IsAmong e M → IsAmong e L ⊎ ((e.by ≡ Outer) × IsOuterNote q e.what)) → ((r : ℕ) → IsAmong (Acquire r 0) q.tables → Notes M Outer (Acquire r 0)) → ((j : ℕ) → j < q.leased → (s : ℕ) × Notes M Outer (Lease j s)) → ((x : Exit) → q.root ≡ Some x → Notes M Outer (Close 0 x)) → ((j : ℕ) → j < q.next → IsBegun p j ⊎ Notes M Outer (Cancel j Canceled)) → ((j : ℕ) (x : Exit) → Notes M Outer (Cancel j x) → ¬ (IsBegun p j)) → IsTold q M
  told_calls p q L M t splits back word more new acquired leases root dealt skipped =
      let ahead : (j : ℕ) → IsBegun p j → IsBegun q j = λ j b. (b.0, subst (λ l. IsAmong b.0 l) (sym splits) b.1, b.2) in
      let before : (j : ℕ) → IsBegun q j → IsBegun p j = λ j b. (b.0, subst (λ l. IsAmong b.0 l) splits b.1, b.2) in
      let old : (y : Seen P) → IsAmong y q.back → IsAmong y p.back = λ y i. subst (λ l. IsAmong y l) back i in
      record {
        outer = λ w n. subst (λ z. IsOuterNote q z) n.3 (⊎_elim (λ i. word n.0.what (t.outer n.0.what (n.0, i, n.2, refl))) (λ i. i.1) (new n.0 n.1));
        lessor = λ k j s n. ⊎_elim (λ i. t.lessor k j s (n.0, i, n.2, n.3)) (λ i. sym n.2 ∙ i.0) (new n.0 n.1);
        acquired = acquired;
        leases = leases;
        root = root;
        dealt = λ j l. ⊎_elim (λ b. inl (ahead j b)) (λ n. inr n) (dealt j l);
        skipped = λ j x n b. skipped j x n (before j b);
        whose = λ e m. ⊎_elim
            (λ i. ⊎_elim (λ o. inl o) (λ y. inr (y.0, subst (λ l. IsAmong y.0 l) (sym back) y.1, y.2)) (t.whose e i))
            (λ i. inl i.0)
            (new e m);
        own = λ y i e by. (
          (λ m. ⊎_elim
              (λ o. (t.own y (old y i) e by).0 o)
              (λ o. absurd (let b = t.back y (old y i) in let z : Outer ≡ Inner b.0 = sym o.0 ∙ (by ∙ b.1) in cc))
              (new e m)),
          (λ m. more e ((t.own y (old y i) e by).1 m)),
        );
        back = λ y i. let b = t.back y (old y i) in (b.0, b.1, ahead b.0 b.2);
      }

  -- a seat was split off for the next stream
  pub told_splits : (p : Progress P) (L : List Event) (m : Split) (us : List (ℕ × List ℕ)) → IsTold p L → m.stream ≡ p.next → let q : Progress P = record p { splits = p.splits ++ m ∷ []; waits = us; next = suc p.next; out = m.stream ∷ p.out } in IsTold q L
  told_splits p L m us t is =
      let q : Progress P = record p { splits = p.splits ++ m ∷ []; waits = us; next = suc p.next; out = m.stream ∷ p.out } in
      let ahead : (j : ℕ) → IsBegun p j → IsBegun q j = λ j b. (b.0, among_left (m ∷ []) b.1, b.2) in
      record {
        outer = λ w n. note_stays p q (omega arith) (omega arith) (λ x r. r) (λ z i. i) w (t.outer w n);
        lessor = t.lessor;
        acquired = t.acquired;
        leases = t.leases;
        root = t.root;
        dealt = λ j l. ⊎_elim
            (λ less. ⊎_elim (λ b. inl (ahead j b)) (λ n. inr n) (t.dealt j less))
            (λ e. inl (m, among_last p.splits m, is ∙ sym e))
            (below_or j p.next l);
        skipped = λ j x n b. ⊎_elim
            (λ i. t.skipped j x n (b.0, i, b.2))
            (λ e. let l : j < p.next = (t.outer (Cancel j x) n).1 in let s : m.stream ≡ j = ap (λ (z : Split). z.stream) (sym e) ∙ b.2 in omega (l, s, is, arith))
            (among_snoc p.splits b.0 m b.1);
        whose = t.whose;
        own = t.own;
        back = λ y i. let b = t.back y i in (b.0, b.1, ahead b.0 b.2);
      }
