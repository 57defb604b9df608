-- What is left of a Close's sequence may wait, where all was ended.
use Rattle.std.proofs.Common.{◌≡◌, ℕ, Bool, true, false, cond, nat_eq, List, [], ◌∷◌, ◌++◌, refl, sym, ap, ◌∙◌, subst, ⊎_elim, append_assoc, append-nil, Option, None, Some, count_by, filter, length, arith}
use Rattle.std.proofs.lemmas.List.Sums.{length-filter}
use Rattle.std.proofs.lemmas.Bool.{false≢true}
use Rattle.std.specs.List.{list_all as all, IsDistinct}
use Rattle.chunk_core.specs.Lists.{IsAmong, has}
use Rattle.chunk_core.specs.Lists.IsAmong.{here, there}
use Rattle.chunk_core.specs.declared.code.Exit.{Exit}
use Rattle.chunk_core.proofs.Bools.{each_passes, number, tested, in_has, no}
use Rattle.chunk_core.proofs.Members.{among_cons, among_nil, among_left}
use Rattle.chunk_core.proofs.Filters.{among_append, among_right, among_filter}
use Rattle.chunk_core.proofs.Distinct.{distinct_head, distinct_tail}
use Rattle.chunk_core.proofs.Cuts.{cut, among_parts}
use Rattle.res_ledger.specs.declared.event.StreamNo.{StreamNo}
use Rattle.res_ledger.specs.declared.event.What.{What}
use Rattle.res_ledger.specs.declared.event.What.TheVariants.{Acquire, Cancel, Close, Final}
use Rattle.res_ledger.specs.declared.event.Event.{Event}
use Rattle.res_ledger.specs.Ledger.{Notes, Covers, IsRowClosed, IsLegal, MayFollow}
use Rattle.res_ledger.specs.Streams.{same_stream}
use Rattle.res_ledger.specs.Own.{own, teardown}
use Rattle.res_ledger.specs.Order.{covered, finals, firsts, any_row, same_exit}
use Rattle.res_ledger.specs.Whole.{IsComplete, is_final}
use Rattle.res_ledger.proofs.Tests.{exit_is, name}
use Rattle.res_ledger.proofs.Noted.{notes_own, is_final_shape}
use Rattle.res_ledger.proofs.Prefixes.{acquired_once, front_notes, front_row_closed, front_legal}
use Rattle.res_ledger.proofs.Leases.{covered_found}
use Rattle.res_ledger.proofs.Ledgers.{final_row}
use Rattle.ledger_verdict.specs.Verdict.{OrderedSoFarIsOrdered}
use Rattle.ledger_verdict.specs.Pending.{Due, nothing_due, passes, is_over, behind, go_on, due_after, due_along}
use Rattle.ledger_verdict.proofs.SoFar.{may_of, due_of, so_far_due, due_over}
use Rattle.ledger_verdict.proofs.Legal.{torn_once, torn_row, torn_open}

finals_then : (x : Exit) (fs gs : List (ℕ × Bool)) → finals x (fs ++ gs) ≡ finals x fs ++ finals x gs
finals_then x [] gs = refl
finals_then x (f ∷ fs) gs = ap (λ l. Final f.0 x f.1 ∷ l) (finals_then x fs gs)

firsts_then : (fs gs : List (ℕ × Bool)) → firsts (fs ++ gs) ≡ firsts fs ++ firsts gs
firsts_then [] gs = refl
firsts_then (f ∷ fs) gs = ap (λ l. f.0 ∷ l) (firsts_then fs gs)

final_first : (x : Exit) (fs : List (ℕ × Bool)) (r : ℕ) (y : Exit) (ok : Bool) → IsAmong (Final r y ok) (finals x fs) → IsAmong r (firsts fs)
final_first x [] r y ok m = absurd (among_nil m)
final_first x (f ∷ fs) r y ok m = ⊎_elim (λ e. subst (λ q. IsAmong q (f.0 ∷ firsts fs)) (sym (final_row r f.0 y x ok f.1 e)) (here (firsts fs))) (λ n. there f.0 (final_first x fs r y ok n)) (among_cons m)

-- the Close whose sequence it is, and what came of it
pub record Since (A : List What) (d : Due) : Type 0 where
  pub before : List What
  pub scope : ℕ
  pub fs : List (ℕ × Bool)
  pub gone : List ℕ
  pub stands : A ≡ before ++ Close scope d.exit ∷ finals d.exit fs
  pub torn : teardown before scope ≡ gone ++ d.rows
  pub noted : (r : ℕ) → IsAmong r (firsts fs) → IsAmong r gone

abbrev pub Tracks : List What → Due → Type 0
Tracks A d = d.strict ≡ true → Since A d

given : (b : Bool) (d e : Due) → cond {A = Option Due} b (Some d) None ≡ Some e → d ≡ e
given true d e h = cc
given false d e h = cc

behind_is : (m : ℕ → Bool) (r : ℕ) (xs ys : List ℕ) → behind m r xs ≡ Some ys → (zs : List ℕ) × (xs ≡ zs ++ r ∷ ys)
behind_is m r [] ys h = cc
behind_is m r (x ∷ xs) ys h = found (nat_eq x r) refl (m x) h (λ g. behind_is m r xs ys g)
  where
    found : (b : Bool) → nat_eq x r ≡ b → (c : Bool) → cond {A = Option (List ℕ)} b (Some xs) (cond c (behind m r xs) None) ≡ Some ys → (behind m r xs ≡ Some ys → (zs : List ℕ) × (xs ≡ zs ++ r ∷ ys)) → (zs : List ℕ) × (x ∷ xs ≡ zs ++ r ∷ ys)
    found true e c h more = let q : xs ≡ ys = cc in ([], ap (λ l. x ∷ l) q ∙ ap (λ y. y ∷ ys) (number x r e))
    found false e true h more = let t = more h in (x ∷ t.0, ap (λ l. x ∷ l) t.1)
    found false e false h more = cc

went_on : (x : Exit) (s : Bool) (o : Option (List ℕ)) (e : Due) → go_on x s o ≡ Some e → (ys : List ℕ) × (o ≡ Some ys) × (record { exit = x; strict = s; rows = ys } ≡ e)
went_on x s None e h = cc
went_on x s (Some ys) e h = (ys, refl, (cc))

more_since : (A : List What) (d : Due) (r : ℕ) (y : Exit) (ok : Bool) (ys zs : List ℕ) → y ≡ d.exit → d.rows ≡ zs ++ r ∷ ys → Since A d → Since (A ++ Final r y ok ∷ []) (record { exit = d.exit; strict = d.strict; rows = ys })
more_since A d r y ok ys zs e q t = record {
  before = t.before;
  scope = t.scope;
  fs = t.fs ++ (r, ok) ∷ [];
  gone = t.gone ++ (zs ++ r ∷ []);
  stands = ap (λ l. l ++ Final r y ok ∷ []) t.stands ∙ append_assoc t.before (Close t.scope d.exit ∷ finals d.exit t.fs) (Final r y ok ∷ []) ∙ ap (λ l. t.before ++ Close t.scope d.exit ∷ l) (ap (λ x. finals d.exit t.fs ++ Final r x ok ∷ []) e ∙ sym (finals_then d.exit t.fs ((r, ok) ∷ [])));
  torn = t.torn ∙ ap (λ l. t.gone ++ l) (q ∙ sym (append_assoc zs (r ∷ []) ys)) ∙ sym (append_assoc t.gone (zs ++ r ∷ []) ys);
  noted = λ x m. ⊎_elim (λ l. among_left (zs ++ r ∷ []) (t.noted x l)) (λ l. among_right x t.gone (zs ++ r ∷ []) (among_right x zs (r ∷ []) l)) (among_append x (firsts t.fs) (r ∷ []) (subst (IsAmong x) (firsts_then t.fs ((r, ok) ∷ [])) m));
}

module _ (may : ℕ → Bool) (due : ℕ → List ℕ) where
  pub tracks_step : (A : List What) (d : Due) (w : What) (e : Due) → due_after may due A d w ≡ Some e → Tracks A d → Tracks (A ++ w ∷ []) e
  tracks_step A d (Cancel j y) e h t s = let q = given (is_over may d) (record { exit = y; strict = false; rows = due j }) e h in absurd (false≢true (ap (λ x. x.strict) q ∙ s))
  tracks_step A d (Close c y) e h t s =
      let q = given (is_over may d) (record { exit = y; strict = true; rows = teardown A c }) e h in
      subst (Since (A ++ Close c y ∷ [])) q (record { before = A; scope = c; fs = []; gone = []; stands = refl; torn = refl; noted = λ r m. m })
  tracks_step A d (Final r y ok) e h t s = final_step (same_exit y d.exit) refl h
    where
      final_step : (b : Bool) → same_exit y d.exit ≡ b → cond {A = Option Due} b (go_on d.exit d.strict (behind (passes may d) r d.rows)) None ≡ Some e → Since (A ++ Final r y ok ∷ []) e
      final_step true g h =
          let u = went_on d.exit d.strict (behind (passes may d) r d.rows) e h in
          let v = behind_is (passes may d) r d.rows u.0 u.1 in
          subst (Since (A ++ Final r y ok ∷ [])) u.2 (more_since A d r y ok u.0 v.0 (exit_is y d.exit g) v.1 (t (ap (λ x. x.strict) u.2 ∙ s)))
      final_step false g h = cc
  tracks_step A d w e h t s = let q = given (is_over may d) (record { exit = d.exit; strict = false; rows = [] }) e h in absurd (false≢true (ap (λ x. x.strict) q ∙ s))

  tracks : (E A : List What) (d e : Due) → due_along may due A d E ≡ Some e → Tracks A d → Tracks (A ++ E) e
  tracks [] A d e h t = let q : d ≡ e = cc in subst (λ l. Tracks l e) (sym (append-nil A)) (subst (Tracks A) q t)
  tracks (w ∷ E) A d e h t = next (due_after may due A d w) refl h (λ f g u. tracks E (A ++ w ∷ []) f e g u)
    where
      next : (o : Option Due) → due_after may due A d w ≡ o → elim o as (λ x. Option Due) [ None ↦ None | Some f ↦ due_along may due (A ++ w ∷ []) f E ] ≡ Some e → ((f : Due) → due_along may due (A ++ w ∷ []) f E ≡ Some e → Tracks (A ++ w ∷ []) f → Tracks ((A ++ w ∷ []) ++ E) e) → Tracks (A ++ w ∷ E) e
      next None g h more = absurd (cc)
      next (Some f) g h more = subst (λ l. Tracks l e) (append_assoc A (w ∷ []) E) (more f h (tracks_step A d w f g t))

-- a place among what k noted is a place in the ledger
pub own_place : (k : StreamNo) (M : List Event) (A B : List What) (w : What) → own k M ≡ A ++ w ∷ B → (P Q : List Event) × (e : Event) × (M ≡ P ++ e ∷ Q) × (own k P ≡ A) × (e.by ≡ k) × (e.what ≡ w) × (own k Q ≡ B)
own_place k [] [] B w h = cc
own_place k [] (a ∷ A) B w h = cc
own_place k (x ∷ M) A B w h = placed (same_stream x.by k) refl A h (λ C g. own_place k M C B w g)
  where
    placed : (b : Bool) → same_stream x.by k ≡ b → (A : List What) → cond b (x.what ∷ own k M) (own k M) ≡ A ++ w ∷ B → ((C : List What) → own k M ≡ C ++ w ∷ B → (P Q : List Event) × (e : Event) × (M ≡ P ++ e ∷ Q) × (own k P ≡ C) × (e.by ≡ k) × (e.what ≡ w) × (own k Q ≡ B)) → (P Q : List Event) × (e : Event) × (x ∷ M ≡ P ++ e ∷ Q) × (own k P ≡ A) × (e.by ≡ k) × (e.what ≡ w) × (own k Q ≡ B)
    placed true s [] h more = let c = cut x.what (own k M) B w h in ([], M, x, refl, refl, name x.by k s, c.0, c.1)
    placed true s (a ∷ A) h more =
        let c = cut x.what (own k M) (A ++ w ∷ B) a h in
        let t = more A c.1 in
        (x ∷ t.0, t.1, t.2, ap (λ l. x ∷ l) t.3, ap (λ b. cond b (x.what ∷ own k t.0) (own k t.0)) s ∙ ap (λ l. x.what ∷ l) t.4 ∙ ap (λ v. v ∷ A) c.0, t.5, t.6, t.7)
    placed false s A h more =
        let t = more A h in
        (x ∷ t.0, t.1, t.2, ap (λ l. x ∷ l) t.3, ap (λ b. cond b (x.what ∷ own k t.0) (own k t.0)) s ∙ t.4, t.5, t.6, t.7)

some_in : (xs : List Event) → length xs ≡ 1 → (e : Event) × IsAmong e xs
some_in [] h = absurd (omega arith)
some_in (x ∷ xs) h = (x, here xs)

pub counted : (p : Event → Bool) (L : List Event) → count_by p L ≡ 1 → (e : Event) × IsAmong e L × (p e ≡ true)
counted p L h =
    let s = some_in (filter p L) (length-filter p L ∙ h) in
    let t = among_filter p s.0 L s.1 in
    (s.0, t.0, t.1)

apart : (xs ys : List ℕ) (r : ℕ) → IsDistinct nat_eq (xs ++ ys) → IsAmong r xs → IsAmong r ys → ⊥
apart [] ys r d m n = among_nil m
apart (x ∷ xs) ys r d m n = ⊎_elim (λ e. distinct_head x (xs ++ ys) d (among_right x xs ys (subst (λ q. IsAmong q ys) e n))) (λ l. apart xs ys r (distinct_tail x (xs ++ ys) d) l n) (among_cons m)

-- a row that a Close took down, that no lease covers and that has its Final, has it in the Close's sequence
module _ (L : List Event) (legal : IsLegal L) (k : StreamNo) where
  final_in : (P Q : List Event) (e : Event) (s : ℕ) (x : Exit) (r : ℕ) (f : Event) (y : Exit) (ok : Bool)
      → L ≡ P ++ e ∷ Q → e.by ≡ k → e.what ≡ Close s x → IsAmong r (teardown (own k P) s) → (IsAmong r (covered L) → ⊥)
      → IsAmong f L → f.what ≡ Final r y ok → IsAmong (Final r y ok) (own k Q)
  final_in P Q e s x r f y ok cut_at by closes torn bare m is =
      let close_ok : MayFollow P k (Close s x) = subst (λ q. MayFollow P q (Close s x)) by (subst (MayFollow P e.by) closes (legal P Q e cut_at)) in
      let legal_P : IsLegal P = front_legal P (e ∷ Q) (subst IsLegal cut_at legal) in
      let row = torn_row P k s r torn in
      let place = among_parts f L m in
      let final_ok : MayFollow place.0 f.by (Final r y ok) = subst (MayFollow place.0 f.by) is (legal place.0 place.1 f place.2) in
      let mine : Notes L k (Acquire r row.0) = subst (λ l. Notes l k (Acquire r row.0)) (sym cut_at) (front_notes (e ∷ Q) row.1) in
      let by_k : f.by ≡ k = ⊎_elim
      (λ n. (acquired_once L legal r f.by k n.0 row.0 (subst (λ l. Notes l f.by (Acquire r n.0)) (sym place.2) (front_notes (f ∷ place.1) n.1)) mine).0)
      (λ c. absurd (bare (covered_found L legal c.0 r c.1 (subst (λ l. Covers l c.0 c.1 r) (sym place.2) (more_covers place.0 (f ∷ place.1) c.0 r c.1 c.2)))))
      final_ok.1 in
      ⊎_elim
      (λ l. absurd (let p = among_parts f P l in
      let g : MayFollow p.0 f.by (Final r y ok) = subst (MayFollow p.0 f.by) is (legal_P p.0 p.1 f p.2) in
      torn_open P k s r legal_P close_ok.1 torn (subst (λ z. IsRowClosed z r) (sym p.2) (front_row_closed (f ∷ p.1) g.0.0))))
      (λ l. ⊎_elim
      (λ q. absurd (close_final s x r y ok (sym closes ∙ ap (λ z. z.what) (sym q) ∙ is)))
      (λ n. notes_own Q k (Final r y ok) (f, n, by_k, is))
      (among_cons l))
      (among_append f P (e ∷ Q) (subst (IsAmong f) cut_at m))
    where
      close_final : (s : ℕ) (x : Exit) (r : ℕ) (y : Exit) (ok : Bool) → Close s x ≡ Final r y ok → ⊥
      close_final s x r y ok e = cc

      more_covers : (P Q : List Event) (j r : ℕ) (q : StreamNo) → Covers P j q r → Covers (P ++ Q) j q r
      more_covers P Q j r q c = (c.0, c.1 ++ Q, c.2, c.3, ap (λ l. l ++ Q) c.4 ∙ append_assoc c.0 (c.2 ∷ c.1) Q, c.5, c.6, c.7)

  -- what is due at the end may wait
  waits : IsComplete L → (d : Due) → Since (own k L) d → (r : ℕ) → IsAmong r d.rows → may_of L r ≡ true
  waits full d t r m = ⊎_elim
      (λ h. h)
      (λ h. absurd (
      let place = own_place k L t.before (finals d.exit t.fs) (Close t.scope d.exit) t.stands in
      let torn : IsAmong r (teardown (own k place.0) t.scope) = subst (λ l. IsAmong r (teardown l t.scope)) (sym place.4) (subst (IsAmong r) (sym t.torn) (among_right r t.gone d.rows m)) in
      let row = torn_row place.0 k t.scope r torn in
      let mine : Notes L k (Acquire r row.0) = subst (λ l. Notes l k (Acquire r row.0)) (sym place.3) (front_notes (place.2 ∷ place.1) row.1) in
      let c = counted (λ e. is_final r e.what) L (full.finalized_once k r row.0 mine) in
      let f = is_final_shape r c.0.what c.2 in
      let i = final_in place.0 place.1 place.2 t.scope d.exit r c.0 f.0 f.1 place.3 place.5 place.6 torn (λ z. no (has r (covered L)) h (in_has r (covered L) z)) c.1 f.2 in
      let g = t.noted r (final_first d.exit t.fs r f.0 f.1 (subst (IsAmong (Final r f.0 f.1)) place.7 i)) in
      let once : IsDistinct nat_eq (t.gone ++ d.rows) = subst (IsDistinct nat_eq) (ap (λ l. teardown l t.scope) place.4 ∙ t.torn) (torn_once place.0 k t.scope (front_legal place.0 (place.2 ∷ place.1) (subst IsLegal place.3 legal))) in
      apart t.gone d.rows r once g m))
      (tested (has r (covered L)))

  over : IsComplete L → (d : Due) → Tracks (own k L) d → is_over (may_of L) d ≡ true
  over full d t = over_at d.strict refl
    where
      any_passes : (xs : List ℕ) → all any_row xs ≡ true
      any_passes [] = refl
      any_passes (x ∷ xs) = any_passes xs

      over_at : (b : Bool) → d.strict ≡ b → all (cond {A = ℕ → Bool} d.strict (may_of L) any_row) d.rows ≡ true
      over_at true e = subst (λ b. all (cond {A = ℕ → Bool} b (may_of L) any_row) d.rows ≡ true) (sym e) (each_passes (may_of L) d.rows (waits full d (t e)))
      over_at false e = subst (λ b. all (cond {A = ℕ → Bool} b (may_of L) any_row) d.rows ≡ true) (sym e) (any_passes d.rows)

pub ordered_so_far_is_ordered : OrderedSoFarIsOrdered
ordered_so_far_is_ordered L legal full so k =
    let d = so_far_due L k (so k) in
    due_over L k d.0 d.1 (over L legal k full d.0 (tracks (may_of L) (due_of L) (own k L) [] nothing_due d.0 d.1 (λ e. absurd (false≢true e))))
