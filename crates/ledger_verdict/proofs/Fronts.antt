-- A front of a legal ledger that is ordered so far.
use Rattle.std.proofs.Common.{◌≡◌, ◌≢◌, ℕ, Bool, true, false, cond, nat_eq, List, [], ◌∷◌, ◌++◌, refl, sym, ap, ◌∙◌, subst, ⊎_elim, append_assoc, append-nil, Option, None, Some, reverse}
use Rattle.std.proofs.lemmas.Bool.{false≢true}
use Rattle.std.specs.List.{flat_map}
use Rattle.chunk_core.specs.Lists.{IsAmong, has}
use Rattle.chunk_core.specs.Lists.IsAmong.{here, there}
use Rattle.chunk_core.specs.declared.code.Exit.{Exit}
use Rattle.chunk_core.proofs.Bools.{number, in_has, has_in, all_at, each_passes}
use Rattle.chunk_core.proofs.Members.{among_mid}
use Rattle.chunk_core.proofs.Filters.{among_right}
use Rattle.res_ledger.specs.declared.event.StreamNo.{StreamNo}
use Rattle.res_ledger.specs.declared.event.What.{What}
use Rattle.res_ledger.specs.declared.event.What.TheVariants.{Acquire, Lease, Cancel, Close, Final}
use Rattle.res_ledger.specs.declared.event.Event.{Event}
use Rattle.res_ledger.specs.Ledger.{Notes, LiesWithin, IsClosed, IsLeased, IsLegal, MayFollow}
use Rattle.res_ledger.specs.Ledger.LiesWithin.{same, below}
use Rattle.res_ledger.specs.Own.{own, opens, closes, teardown, leased_of, leased_rows}
use Rattle.res_ledger.specs.Order.{covered, covered_by, covered_for, gathered, finals, any_row, same_exit}
use Rattle.res_ledger.proofs.Noted.{own_notes, opens_notes}
use Rattle.res_ledger.proofs.Prefixes.{acquired_once, front_notes, front_within, front_legal, split_append}
use Rattle.res_ledger.proofs.Leases.{covered_found, covered_sound}
use Rattle.res_ledger.proofs.Scopes.{own_append}
use Rattle.res_ledger.proofs.Ledgers.{canceled_leased, leased_more}
use Rattle.ledger_verdict.specs.Verdict.{FrontIsOrderedSoFar}
use Rattle.ledger_verdict.specs.Pending.{Due, nothing_due, passes, is_over, behind, go_on, due_after, due_along}
use Rattle.ledger_verdict.proofs.Machine.{along_append}
use Rattle.ledger_verdict.proofs.SoFar.{may_of, due_of, due_at, so_far_due, due_so_far}
use Rattle.ledger_verdict.proofs.Legal.{torn_row}
use Rattle.ledger_verdict.proofs.Torn.{Hangs}
use Rattle.ledger_verdict.proofs.Torn.Hangs.{self, child}
use Rattle.ledger_verdict.proofs.Settled.{Since, Tracks, tracks_step, own_place}

behind_more : (m n : ℕ → Bool) (r : ℕ) (xs ys : List ℕ) → ((q : ℕ) → IsAmong q xs → m q ≡ true → n q ≡ true) → behind m r xs ≡ Some ys → behind n r xs ≡ Some ys
behind_more m n r [] ys f h = cc
behind_more m n r (x ∷ xs) ys f h = found (nat_eq x r) (m x) refl (f x (here xs)) h (λ g. behind_more m n r xs ys (λ q i. f q (there x i)) g)
  where
    found : (b c : Bool) → m x ≡ c → (m x ≡ true → n x ≡ true) → cond {A = Option (List ℕ)} b (Some xs) (cond c (behind m r xs) None) ≡ Some ys → (behind m r xs ≡ Some ys → behind n r xs ≡ Some ys) → cond {A = Option (List ℕ)} b (Some xs) (cond (n x) (behind n r xs) None) ≡ Some ys
    found true c e f h more = h
    found false true e f h more = ap (λ z. cond {A = Option (List ℕ)} z (behind n r xs) None) (f e) ∙ more h
    found false false e f h more = cc

module _ (may may' : ℕ → Bool) (due due' : ℕ → List ℕ) where
  -- each row that is due and may be left out may be so by the other rule
  abbrev pub Widens : Due → Type 0
  Widens d = (r : ℕ) → IsAmong r d.rows → passes may d r ≡ true → passes may' d r ≡ true

  over_more : (d : Due) → Widens d → is_over may d ≡ true → is_over may' d ≡ true
  over_more d f h = each_passes (passes may' d) d.rows (λ r m. f r m (all_at (passes may d) r d.rows m h))

  over_step : (d : Due) (f e : Due) → Widens d → cond {A = Option Due} (is_over may d) (Some f) None ≡ Some e → cond {A = Option Due} (is_over may' d) (Some f) None ≡ Some e
  over_step d f e w h = taken (is_over may d) refl h
    where
      taken : (b : Bool) → is_over may d ≡ b → cond {A = Option Due} b (Some f) None ≡ Some e → cond {A = Option Due} (is_over may' d) (Some f) None ≡ Some e
      taken true q h = ap (λ b. cond {A = Option Due} b (Some f) None) (over_more d w q) ∙ h
      taken false q h = cc

  step_more : (A : List What) (d : Due) (w : What) (e : Due) → Widens d → ((j : ℕ) (x : Exit) → w ≡ Cancel j x → due j ≡ due' j) → due_after may due A d w ≡ Some e → due_after may' due' A d w ≡ Some e
  step_more A d (Cancel j y) e f g h = over_step d (record { exit = y; strict = false; rows = due' j }) e f (ap (λ l. cond {A = Option Due} (is_over may d) (Some (record { exit = y; strict = false; rows = l })) None) (sym (g j y refl)) ∙ h)
  step_more A d (Close s y) e f g h = over_step d (record { exit = y; strict = true; rows = teardown A s }) e f h
  step_more A d (Final r y ok) e f g h = final_step (same_exit y d.exit) h
    where
      went : (o p : Option (List ℕ)) → ((ys : List ℕ) → o ≡ Some ys → p ≡ Some ys) → go_on d.exit d.strict o ≡ Some e → go_on d.exit d.strict p ≡ Some e
      went None p f h = cc
      went (Some ys) p f h = ap (go_on d.exit d.strict) (f ys refl) ∙ h

      final_step : (b : Bool) → cond {A = Option Due} b (go_on d.exit d.strict (behind (passes may d) r d.rows)) None ≡ Some e → cond {A = Option Due} b (go_on d.exit d.strict (behind (passes may' d) r d.rows)) None ≡ Some e
      final_step true h = went (behind (passes may d) r d.rows) (behind (passes may' d) r d.rows) (λ ys q. behind_more (passes may d) (passes may' d) r d.rows ys f q) h
      final_step false h = h
  step_more A d w e f g h = over_step d (record { exit = d.exit; strict = false; rows = [] }) e f h

  -- what is due along a list, by the other rule
  pub along_more : (Keeps : List What → Due → Type 0)
      → ((A : List What) (d : Due) (w : What) (e : Due) → due_after may due A d w ≡ Some e → Keeps A d → Keeps (A ++ w ∷ []) e)
      → (E A : List What) (d e : Due)
      → ((B C : List What) (f : Due) → E ≡ B ++ C → Keeps (A ++ B) f → Widens f)
      → ((j : ℕ) (x : Exit) → IsAmong (Cancel j x) E → due j ≡ due' j)
      → Keeps A d → due_along may due A d E ≡ Some e → due_along may' due' A d E ≡ Some e
  along_more Keeps step [] A d e wide agree k h = h
  along_more Keeps step (w ∷ E) A d e wide agree k h =
      next (due_after may due A d w) refl h
      (λ f g q. along_more Keeps step E (A ++ w ∷ []) f e (λ B C x s n. wide (w ∷ B) C x (ap (λ l. w ∷ l) s) (subst (λ l. Keeps l x) (append_assoc A (w ∷ []) B) n)) (λ j x m. agree j x (there w m)) g q)
    where
      next : (o : Option Due) → due_after may due A d w ≡ o → elim o as (λ x. Option Due) [ None ↦ None | Some f ↦ due_along may due (A ++ w ∷ []) f E ] ≡ Some e
          → ((f : Due) → Keeps (A ++ w ∷ []) f → due_along may due (A ++ w ∷ []) f E ≡ Some e → due_along may' due' (A ++ w ∷ []) f E ≡ Some e)
          → elim (due_after may' due' A d w) as (λ x. Option Due) [ None ↦ None | Some f ↦ due_along may' due' (A ++ w ∷ []) f E ] ≡ Some e
      next None g h more = cc
      next (Some f) g h more =
          ap (λ o. elim o as (λ x. Option Due) [ None ↦ None | Some z ↦ due_along may' due' (A ++ w ∷ []) z E ]) (step_more A d w f (wide [] (w ∷ E) d refl (subst (λ l. Keeps l d) (sym (append-nil A)) k)) (λ j x q. agree j x (subst (λ v. IsAmong v (w ∷ E)) q (here E))) g)
          ∙ more f (step A d w f g k) h

pub hangs_within : (P : List Event) (k : StreamNo) (shut : ℕ → Bool) {c s : ℕ} → Hangs (opens (own k P)) shut c s → LiesWithin P k c s
hangs_within P k shut (self s) = same s
hangs_within P k shut (child c p s m h u) = below c p s (opens_notes P k (c, p) m) (hangs_within P k shut u)

pub gathered_then : (of : List Event → Event → List ℕ) (P L M : List Event) → gathered of P (L ++ M) ≡ gathered of P L ++ gathered of (P ++ L) M
gathered_then of P [] M = ap (λ l. gathered of l M) (sym (append-nil P))
gathered_then of P (e ∷ L) M =
    ap (λ l. of P e ++ l) (gathered_then of (P ++ e ∷ []) L M ∙ ap (λ l. gathered of (P ++ e ∷ []) L ++ gathered of l M) (append_assoc P (e ∷ []) L))
    ∙ sym (append_assoc (of P e) (gathered of (P ++ e ∷ []) L) (gathered of (P ++ e ∷ L) M))

module _ (j : ℕ) where
  -- an event that is no Lease for j covers nothing for it
  covers_none : (P : List Event) (e : Event) (w : What) → e.what ≡ w → ((s : ℕ) → e.what ≢ Lease j s) → flat_map (λ l. cond {A = List ℕ} (nat_eq l.0 j) (leased_rows (own e.by P) l.1) []) (leased_of w) ≡ []
  covers_none P e (Lease i s) q n = none_at (nat_eq i j) refl
    where
      none_at : (b : Bool) → nat_eq i j ≡ b → cond {A = List ℕ} b (leased_rows (own e.by P) s) [] ++ [] ≡ []
      none_at true h = absurd (n s (q ∙ ap (λ x. Lease x s) (number i j h)))
      none_at false h = refl
  covers_none P e w q n = refl

  later_none : (P Q : List Event) → IsLegal (P ++ Q) → IsLeased P j → gathered (covered_for j) P Q ≡ []
  later_none P [] l h = refl
  later_none P (e ∷ Q) l h =
      let m : MayFollow P e.by e.what = l P Q e refl in
      let a : covered_for j P e ≡ [] = covers_none P e e.what refl (λ s q. (subst (MayFollow P e.by) q m).0 h) in
      ap (λ l. l ++ gathered (covered_for j) (P ++ e ∷ []) Q) a ∙ later_none (P ++ e ∷ []) Q (subst IsLegal (sym (append_assoc P (e ∷ []) Q)) l) (leased_more P e h)

  -- a lease that was noted covers the same rows later on
  pub covered_by_front : (P Q : List Event) → IsLegal (P ++ Q) → IsLeased P j → covered_by (P ++ Q) j ≡ covered_by P j
  covered_by_front P Q l h = gathered_then (covered_for j) [] P Q ∙ ap (λ l. covered_by P j ++ l) (later_none P Q l h) ∙ append-nil (covered_by P j)

module _ (P Q : List Event) (legal : IsLegal (P ++ Q)) (k : StreamNo) where
  legal_P : IsLegal P
  legal_P = front_legal P Q legal

  -- a row that a Close in P took down, and that some lease covers, is covered by a lease in P
  covered_before : (A B : List What) (d : Due) → own k P ≡ A ++ B → Since A d → (r : ℕ) → IsAmong r d.rows → may_of (P ++ Q) r ≡ true → may_of P r ≡ true
  covered_before A B d cut_at t r m h =
      let c = covered_sound (P ++ Q) legal r (has_in r (covered (P ++ Q)) h) in
      let x = c.2 in
      ⊎_elim
      (λ s. in_has r (covered P) (covered_found P legal_P c.0 r c.1 (x.0, s.0, x.2, x.3, s.1, x.5, x.6, x.7)))
      (λ s. absurd (
      let place = own_place k P t.before (finals d.exit t.fs ++ B) (Close t.scope d.exit) (cut_at ∙ ap (λ l. l ++ B) t.stands ∙ append_assoc t.before (Close t.scope d.exit ∷ finals d.exit t.fs) B) in
      let torn : IsAmong r (teardown (own k place.0) t.scope) = subst (λ l. IsAmong r (teardown l t.scope)) (sym place.4) (subst (IsAmong r) (sym t.torn) (among_right r t.gone d.rows m)) in
      let row = torn_row place.0 k t.scope r torn in
      let up : (w : What) → Notes P k w → Notes x.0 k w = λ w n. subst (λ l. Notes l k w) (sym s.1) (front_notes s.0 n) in
      let first : (w : What) → Notes place.0 k w → Notes P k w = λ w n. subst (λ l. Notes l k w) (sym place.3) (front_notes (place.2 ∷ place.1) n) in
      let closed : Notes P k (Close t.scope d.exit) = subst (λ l. Notes l k (Close t.scope d.exit)) (sym place.3) (place.2, among_mid place.0 place.1 place.2, place.5, place.6) in
      let legal_U : IsLegal x.0 = front_legal x.0 (x.2 ∷ x.1) (subst IsLegal x.4 legal) in
      let acquired : Notes x.0 c.1 (Acquire r x.7.0) = x.7.1 in
      let one = acquired_once x.0 legal_U r c.1 k x.7.0 row.0 acquired (up (Acquire r row.0) (first (Acquire r row.0) row.1)) in
      let within : LiesWithin x.0 k row.0 t.scope = subst (λ l. LiesWithin l k row.0 t.scope) (sym s.1) (front_within s.0 (subst (λ l. LiesWithin l k row.0 t.scope) (sym place.3) (front_within (place.2 ∷ place.1) (hangs_within place.0 k (λ c. has c (closes (own k place.0))) row.2)))) in
      let done : IsClosed x.0 k row.0 = (t.scope, within, (d.exit, up (Close t.scope d.exit) closed)) in
      x.7.3 (subst (λ q. IsClosed x.0 q x.7.0) (sym one.0) (subst (IsClosed x.0 k) (sym one.1) done))))
      (split_append P Q x.0 x.1 x.2 x.4)

  pub along_front : (d : Due) → due_along (may_of (P ++ Q)) (due_of (P ++ Q)) [] nothing_due (own k P) ≡ Some d → due_at P k ≡ Some d
  along_front d h =
      along_more (may_of (P ++ Q)) (may_of P) (due_of (P ++ Q)) (due_of P) Tracks (tracks_step (may_of (P ++ Q)) (due_of (P ++ Q))) (own k P) [] nothing_due d
      (λ B C f s t. widens B C f s t)
      (λ j x m. ap reverse (covered_by_front j P Q legal (canceled_leased P j legal_P (k, (x, own_notes P k (Cancel j x) m)))))
      (λ e. absurd (false≢true e))
      h
    where
      widens : (B C : List What) (f : Due) → own k P ≡ B ++ C → Tracks B f → Widens (may_of (P ++ Q)) (may_of P) (due_of (P ++ Q)) (due_of P) f
      widens B C f s t r m h = strict_or f.strict refl h
        where
          strict_or : (b : Bool) → f.strict ≡ b → cond {A = ℕ → Bool} f.strict (may_of (P ++ Q)) any_row r ≡ true → cond {A = ℕ → Bool} f.strict (may_of P) any_row r ≡ true
          strict_or true e h = ap (λ b. cond {A = ℕ → Bool} b (may_of P) any_row r) e ∙ covered_before B C f s (t e) r m (ap (λ b. cond {A = ℕ → Bool} b (may_of (P ++ Q)) any_row r) (sym e) ∙ h)
          strict_or false e h = ap (λ b. cond {A = ℕ → Bool} b (may_of P) any_row r) e

due_first : (o : Option Due) (go : Due → Option Due) (e : Due) → elim o as (λ x. Option Due) [ None ↦ None | Some d ↦ go d ] ≡ Some e → (d : Due) × (o ≡ Some d)
due_first None go e h = cc
due_first (Some d) go e h = (d, refl)

pub front_is_ordered_so_far : FrontIsOrderedSoFar
front_is_ordered_so_far P Q legal so k =
    let d = so_far_due (P ++ Q) k (so k) in
    let may = may_of (P ++ Q) in
    let due = due_of (P ++ Q) in
    let t = due_first (due_along may due [] nothing_due (own k P)) (λ f. due_along may due (own k P) f (own k Q)) d.0 (sym (along_append may due (own k P) (own k Q) [] nothing_due) ∙ ap (due_along may due [] nothing_due) (sym (own_append k P Q)) ∙ d.1) in
    due_so_far P k t.0 (along_front P Q legal k t.0 t.1)
