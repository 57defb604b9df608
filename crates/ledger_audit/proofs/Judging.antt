-- One event more in the judgement of the order.
use Rattle.std.proofs.Common.{◌≡◌, ℕ, Bool, true, false, cond, nat_eq, List, [], ◌∷◌, ◌++◌, refl, sym, ap, ◌∙◌, subst, append-nil, reverse, Option, None, Some}
use Rattle.std.specs.Prelude.{unwrap_or}
use Rattle.std.specs.HashMap.{get}
use Rattle.chunk_core.specs.Lists.{IsAmong, has}
use Rattle.chunk_core.specs.declared.code.Exit.{Exit}
use Rattle.chunk_core.proofs.Bools.{has_in, in_has}
use Rattle.chunk_core.proofs.Members.{among_left}
use Rattle.res_ledger.specs.declared.event.StreamNo.{StreamNo}
use Rattle.res_ledger.specs.declared.event.What.{What}
use Rattle.res_ledger.specs.declared.event.What.TheVariants.{Open, Acquire, Lease, Cancel, Close, Final}
use Rattle.res_ledger.specs.declared.event.Event.{Event}
use Rattle.res_ledger.specs.Ledger.{IsLegal}
use Rattle.res_ledger.specs.Streams.{same_stream}
use Rattle.res_ledger.specs.Own.{own}
use Rattle.res_ledger.specs.Order.{any_row, covered, covered_at, gathered}
use Rattle.res_ledger.proofs.Noted.{own_notes}
use Rattle.res_ledger.proofs.Scopes.{own_append}
use Rattle.res_ledger.proofs.Tests.{name, named}
use Rattle.res_ledger.proofs.Prefixes.{front_legal}
use Rattle.res_ledger.proofs.Ledgers.{canceled_leased}
use Rattle.ledger_verdict.specs.Pending.{Due, nothing_due, is_over, due_along}
use Rattle.ledger_verdict.specs.Verdict.{IsOrderedSoFar}
use Rattle.ledger_verdict.proofs.Machine.{along_append}
use Rattle.ledger_verdict.proofs.SoFar.{due_at, may_of, due_of, so_far_due, due_so_far}
use Rattle.ledger_verdict.proofs.Fronts.{along_front, along_more, covered_by_front, gathered_then}
use Rattle.ledger_books.specs.Keyed.{number_of}
use Rattle.ledger_audit.specs.declared.marks.Mark.{Mark}
use Rattle.ledger_audit.specs.declared.marks.Mark.TheVariants.{Nothing, Closed, Canceled}
use Rattle.ledger_audit.specs.declared.order.Order.{Order}
use Rattle.ledger_audit.specs.Marks.{Tells}
use Rattle.ledger_audit.specs.Orders.{IsJudged, begins, due_next, due_upto, mark_of}
use Rattle.ledger_audit.specs.Trees.{HasTrees}
use Rattle.ledger_audit.proofs.Noting.{numbers_tell}
use Rattle.ledger_audit.proofs.Standing.{stands_more}

own_case : (P : List Event) (e : Event) (k : StreamNo) (b : Bool) → same_stream e.by k ≡ b → own k (P ++ e ∷ []) ≡ own k P ++ cond b (e.what ∷ []) []
own_case P e k b h = own_append k P (e ∷ []) ∙ ap (λ c. own k P ++ cond c (e.what ∷ []) []) h

last_due : (o : Option Due) → elim o as (λ x. Option Due) [ None ↦ None | Some e ↦ Some e ] ≡ o
last_due None = refl
last_due (Some d) = refl

-- what is due after one event more
pub upto_next : (L P : List Event) (e : Event) (d : Due) → due_upto L e.by P ≡ Some d → due_upto L e.by (P ++ e ∷ []) ≡ due_next L P e.by d e.what
upto_next L P e d h =
    ap (due_along (may_of L) (due_of L) [] nothing_due) (own_case P e e.by true (named e.by))
    ∙ along_append (may_of L) (due_of L) (own e.by P) (e.what ∷ []) [] nothing_due
    ∙ ap (λ o. elim o as (λ x. Option Due) [ None ↦ None | Some x ↦ due_along (may_of L) (due_of L) (own e.by P) x (e.what ∷ []) ]) h
    ∙ last_due (due_next L P e.by d e.what)

upto_other : (L P : List Event) (e : Event) (k : StreamNo) → same_stream e.by k ≡ false → due_upto L k (P ++ e ∷ []) ≡ due_upto L k P
upto_other L P e k h = ap (due_along (may_of L) (due_of L) [] nothing_due) (own_case P e k false h ∙ append-nil (own k P))

-- an event that is no Final may come where all before may be left out
pub next_begins : (L P : List Event) (k : StreamNo) (d : Due) (w : What) → ((r : ℕ) (x : Exit) (ok : Bool) → w ≡ Final r x ok → ⊥) → (b : Bool) → is_over (λ r. has r (covered L)) d ≡ b → due_next L P k d w ≡ cond {A = Option Due} b (Some (begins L P k d w)) None
next_begins L P k d (Final r x ok) n b h = absurd (n r x ok refl)
next_begins L P k d (Cancel j y) n b h = ap (λ c. cond {A = Option Due} c (Some (begins L P k d (Cancel j y))) None) h
next_begins L P k d (Close s y) n b h = ap (λ c. cond {A = Option Due} c (Some (begins L P k d (Close s y))) None) h
next_begins L P k d (Open s p) n b h = ap (λ c. cond {A = Option Due} c (Some (begins L P k d (Open s p))) None) h
next_begins L P k d (Acquire r s) n b h = ap (λ c. cond {A = Option Due} c (Some (begins L P k d (Acquire r s))) None) h
next_begins L P k d (Lease j s) n b h = ap (λ c. cond {A = Option Due} c (Some (begins L P k d (Lease j s))) None) h

tells_more : (L : List Event) (torn xs : List ℕ) (m : Mark) (d : Due) → Tells L torn m d → Tells L (torn ++ xs) m d
tells_more L torn xs Nothing d t = t
tells_more L torn xs (Closed x i j) d t = (t.0, t.1, (t.2.0, stands_more torn xs i j t.2.0 t.2.1, t.2.2))
tells_more L torn xs (Canceled x i n) d t = t

pub judged_more : (o p : Order) (L P : List Event) (e : Event) (m : Mark) (stream : ℕ) (xs : List ℕ) → stream ≡ number_of e.by → IsJudged o L P → HasTrees p.trees (P ++ e ∷ []) → ((n : ℕ) → get nat_eq p.marks n ≡ cond (nat_eq stream n) (Some m) (get nat_eq o.marks n)) → p.torn.items ≡ o.torn.items ++ xs → (f : Due) → due_upto L e.by (P ++ e ∷ []) ≡ Some f → Tells L p.torn.items m f → IsJudged p L (P ++ e ∷ [])
judged_more o p L P e m stream xs s j t g w f u v = record { trees = t; due = λ k. at_case k (same_stream e.by k) refl }
  where
    mark_is : (k : StreamNo) (b : Bool) → same_stream e.by k ≡ b → mark_of p (number_of k) ≡ cond b m (mark_of o (number_of k))
    mark_is k b h =
        ap (λ q. unwrap_or q Nothing) (g (number_of k) ∙ ap (λ c. cond {A = Option Mark} c (Some m) (get nat_eq o.marks (number_of k))) (ap (λ n. nat_eq n (number_of k)) s ∙ numbers_tell e.by k ∙ h))
        ∙ elim b as (λ c. unwrap_or (cond {A = Option Mark} c (Some m) (get nat_eq o.marks (number_of k))) Nothing ≡ cond c m (mark_of o (number_of k))) [ true ↦ refl | false ↦ refl ]

    at_case : (k : StreamNo) (b : Bool) → same_stream e.by k ≡ b → (d : Due) × (due_upto L k (P ++ e ∷ []) ≡ Some d) × Tells L p.torn.items (mark_of p (number_of k)) d
    at_case k true h = (f, subst (λ q. due_upto L q (P ++ e ∷ []) ≡ Some f) (name e.by k h) u, subst (λ n. Tells L p.torn.items n f) (sym (mark_is k true h)) v)
    at_case k false h =
        let d = j.due k in
        (d.0, upto_other L P e k h ∙ d.1, subst (λ n. Tells L p.torn.items n d.0) (sym (mark_is k false h)) (subst (λ l. Tells L l (mark_of o (number_of k)) d.0) (sym w) (tells_more L o.torn.items xs (mark_of o (number_of k)) d.0 d.2)))

-- what is due at the end of a front is due there by what the whole says of leases
module _ (P Q : List Event) (legal : IsLegal (P ++ Q)) (k : StreamNo) where
  may_more : (r : ℕ) → may_of P r ≡ true → may_of (P ++ Q) r ≡ true
  may_more r h = in_has r (covered (P ++ Q)) (subst (IsAmong r) (sym (gathered_then covered_at [] P Q)) (among_left (gathered covered_at P Q) (has_in r (covered P) h)))

  abbrev Any : List What → Due → Type 0
  Any A d = Unit {0}

  pub along_wide : (d : Due) → due_at P k ≡ Some d → due_upto (P ++ Q) k P ≡ Some d
  along_wide d h =
      let legal_P = front_legal P Q legal in
      along_more (may_of P) (may_of (P ++ Q)) (due_of P) (due_of (P ++ Q)) Any (λ A f w e g t. tt) (own k P) [] nothing_due d
      (λ B C f s t r m q. widens f.strict r q)
      (λ j x m. ap reverse (sym (covered_by_front j P Q legal (canceled_leased P j legal_P (k, (x, own_notes P k (Cancel j x) m))))))
      tt h
    where
      widens : (b : Bool) (r : ℕ) → cond {A = ℕ → Bool} b (may_of P) any_row r ≡ true → cond {A = ℕ → Bool} b (may_of (P ++ Q)) any_row r ≡ true
      widens true r h = may_more r h
      widens false r h = h

-- each stream is in order so far where something is due at its end
pub upto_so_far : (L P Q : List Event) → L ≡ P ++ Q → IsLegal L → ((k : StreamNo) → (d : Due) × (due_upto L k P ≡ Some d)) → IsOrderedSoFar P
upto_so_far L P Q e legal f k =
    let d = f k in
    due_so_far P k d.0 (along_front P Q (subst IsLegal e legal) k d.0 (subst (λ l. due_upto l k P ≡ Some d.0) e d.1))

-- and isn't where nothing is
pub upto_not : (L P Q : List Event) (k : StreamNo) → L ≡ P ++ Q → IsLegal L → due_upto L k P ≡ None → ¬ (IsOrderedSoFar P)
upto_not L P Q k e legal h so =
    let d = so_far_due P k (so k) in
    let g : due_upto L k P ≡ Some d.0 = subst (λ l. due_upto l k P ≡ Some d.0) (sym e) (along_wide P Q (subst IsLegal e legal) k d.0 d.1) in
    let x : None ≡ Some d.0 = sym h ∙ g in
    cc
