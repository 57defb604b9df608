-- A main tree has no lease left once it cancelled each, or split the seat of its stream off.
use Rattle.std.proofs.Common.{◌≡◌, ℕ, ◌⊎◌, Bool, true, false, cond, not, eqb, List, [], ◌∷◌, ◌++◌, inl, inr, refl, sym, ap, ◌∙◌, subst, ⊎_elim, append-nil, eq-eqb, nat_eq}
use Rattle.std.proofs.lemmas.List.Concat.{flat_map-append}
use Rattle.std.proofs.lemmas.Bool.{cases_eq}
use Rattle.chunk_core.specs.declared.code.Exit.{Exit}
use Rattle.chunk_core.specs.declared.code.Exit.TheVariants.{Succeeded}
use Rattle.chunk_core.specs.Lists.{IsAmong}
use Rattle.chunk_core.specs.Lists.IsAmong.{here, there}
use Rattle.chunk_core.proofs.Cuts.{two_places}
use Rattle.chunk_core.proofs.Filters.{among_append, among_filter}
use Rattle.chunk_core.proofs.Members.{among_cons, among_last, among_left, among_nil, among_snoc}
use Rattle.res_ledger.specs.declared.event.What.{What}
use Rattle.res_ledger.specs.declared.event.What.TheVariants.{Acquire, Cancel, Close, Final, Lease, Open}
use Rattle.res_ledger.specs.Order.{finals}
use Rattle.res_ledger.specs.Own.{leased_of, leased_rows, own}
use Rattle.res_ledger.specs.Streams.{same_stream}
use Rattle.res_ledger.proofs.Ledgers.{lease_stream, stream_same}
use Rattle.res_ledger.proofs.Noted.{flat_found, flat_holds, leased_shape}
use Rattle.res_ledger.proofs.Scopes.{own_append}
use Rattle.row_seat.specs.declared.view.View.{View}
use Rattle.row_seat.specs.Views.{split_main, without}
use Rattle.row_seat.proofs.Members.{among_kept, among_without}
use Rattle.scope_tree.specs.Calls.{Cancels, Leases, Seen}
use Rattle.scope_tree.specs.Leased.{pairs_for}
use Rattle.std.specs.List.{IsDistinct}
use Rattle.scope_tree.specs.Released.{said}
use Rattle.scope_tree.specs.Trace.{numbers, trace}
use Rattle.scope_tree.proofs.Bridge.{in_noted, noted_in}
use Rattle.chunk_core.proofs.Reversed.{reverse_among}
use Rattle.scope_tree.proofs.Leasing.{pairs_among}
use Rattle.scope_tree.proofs.Lessee.{lease_gone}
use Rattle.scope_tree.proofs.Owed.{number_among}
use Rattle.scope_tree.proofs.Parting.{join_trace}
use Rattle.chunk_core.proofs.Distinct.{distinct_append, distinct_nil, distinct_one, distinct_mid}
use Rattle.scope_tree.proofs.Use.{acquired_said, cancel_follows, canceled_said, close_follows, close_pairs, closed_said, leased_said, leases, opened_said}
use Rattle.tree_laws.specs.Alone.{HasNoOthers}
use Rattle.tree_laws.specs.Called.{Called, MayCancel, MayLease}
use Rattle.tree_laws.specs.Called.Called.{none, opened, acquired, written, leased, cancelled, closed, split, taken_in}
use Rattle.tree_laws.specs.Lent.{Lent}
use Rattle.tree_laws.proofs.Along.{called_after}
use Rattle.tree_laws.proofs.Guests.{nothing_among}
use Rattle.tree_laws.proofs.Kept.{leases_lent, lent_stays}
use Rattle.tree_families.specs.Laws.{FamilyMayFinish}

numbers_append : (xs ys : List (ℕ × ℕ)) → numbers (xs ++ ys) ≡ numbers xs ++ numbers ys
numbers_append [] ys = refl
numbers_append (x ∷ xs) ys = ap (λ l. x.0 ∷ l) (numbers_append xs ys)

in_numbers : (j s : ℕ) (xs : List (ℕ × ℕ)) → IsAmong (j, s) xs → IsAmong j (numbers xs)
in_numbers j s [] m = absurd (among_nil m)
in_numbers j s (x ∷ xs) m = ⊎_elim (λ e. subst (λ z. IsAmong z (x.0 ∷ numbers xs)) (sym (ap (λ (y : ℕ × ℕ). y.0) e)) (here (numbers xs))) (λ n. there x.0 (in_numbers j s xs n)) (among_cons m)

-- the streams that were leased
abbrev guests : List What → List ℕ
guests E = numbers (leases E)

guests_append : (E F : List What) → guests (E ++ F) ≡ guests E ++ guests F
guests_append E F = ap numbers (flat_map-append leased_of E F) ∙ numbers_append (leases E) (leases F)

guest_in : (j s : ℕ) (E : List What) → IsAmong (Lease j s) E → IsAmong j (guests E)
guest_in j s E m = in_numbers j s (leases E) (flat_holds leased_of (Lease j s) E (j, s) m (here []))

guest_found : (j : ℕ) (E : List What) → IsAmong j (guests E) → (s : ℕ) × IsAmong (Lease j s) E
guest_found j E m =
    let t = number_among j (leases E) m in
    let f = flat_found leased_of E (j, t.0) t.1 in
    (t.0, subst (λ w. IsAmong w E) (leased_shape f.0 (j, t.0) f.2) f.1)

-- no Lease and no Cancel is among these
abbrev IsPlain : List What → Type 0
IsPlain E = (leases E ≡ []) × ((i : ℕ) (x : Exit) → ¬ (IsAmong (Cancel i x) E))

finals_leaseless : (x : Exit) (fs : List (ℕ × Bool)) → leases (finals x fs) ≡ []
finals_leaseless x [] = refl
finals_leaseless x (f ∷ fs) = finals_leaseless x fs

no_cancel_final : (i : ℕ) (y x : Exit) (fs : List (ℕ × Bool)) → ¬ (IsAmong (Cancel i y) (finals x fs))
no_cancel_final i y x [] m = among_nil m
no_cancel_final i y x (f ∷ fs) m = ⊎_elim (λ e. let a : What = Final f.0 x f.1 in let z : Cancel i y ≡ a = e in cc) (λ n. no_cancel_final i y x fs n) (among_cons m)

-- so of an event and a run of Finals
plain_run : (w : What) (x : Exit) (fs : List (ℕ × Bool)) → leased_of w ≡ [] → ((i : ℕ) (y : Exit) → (let a : What = Cancel i y in a ≡ w) → ⊥) → IsPlain (w ∷ finals x fs)
plain_run w x fs l n = (ap (λ z. z ++ leases (finals x fs)) l ∙ finals_leaseless x fs, λ i y m. ⊎_elim (λ e. n i y e) (λ o. no_cancel_final i y x fs o) (among_cons m))

cancel_run : (i j : ℕ) (y x : Exit) (fs : List (ℕ × Bool)) → IsAmong (Cancel i y) (Cancel j x ∷ finals x fs) → i ≡ j
cancel_run i j y x fs m = ⊎_elim (λ e. let z : Cancel i y ≡ Cancel j x = e in cc) (λ o. absurd (no_cancel_final i y x fs o)) (among_cons m)

module _ {P : Type 0} where
  -- what a main seat knows of leases: each that it keeps it made, and it neither cancelled it nor gave its stream a seat; a stream is leased once
  record KnowsLeases (v : View P) (Cs : List (ℕ × List ℕ)) : Type 0 where
    made : (i : ℕ) → IsAmong i v.kept → (s : ℕ) × IsAmong (Lease i s) (trace v)
    still : (i : ℕ) → IsAmong i v.kept → ((T : List ℕ) → ¬ (IsAmong (i, T) Cs)) × ¬ (IsAmong i v.had)
    gone : (i : ℕ) (x : Exit) → IsAmong (Cancel i x) (trace v) → (T : List ℕ) × IsAmong (i, T) Cs
    known : (i : ℕ) (T : List ℕ) → IsAmong (i, T) Cs → (s : ℕ) × IsAmong (Lease i s) (trace v)
    lent : (i r : ℕ) → IsAmong (i, r) v.pairs → (T : List ℕ) × Lent v i T × IsAmong r T
    held : (i r : ℕ) → IsAmong (i, r) v.pairs → (¬ (IsAmong i v.had)) × (IsAmong i v.kept ⊎ ((T : List ℕ) × IsAmong (i, T) Cs × (¬ (IsAmong r T))))
    once : IsDistinct nat_eq (guests (trace v))

  knows_plain : (v w : View P) (Cs : List (ℕ × List ℕ)) (E : List What) → trace w ≡ trace v ++ E → IsPlain E → w.kept ≡ v.kept → w.pairs ≡ v.pairs → w.had ≡ v.had → ((i : ℕ) (T : List ℕ) → Lent v i T → Lent w i T) → KnowsLeases v Cs → KnowsLeases w Cs
  knows_plain v w Cs E is plain kept pairs had lent h =
      let more : (x : What) → IsAmong x (trace v) → IsAmong x (trace w) = λ x m. subst (λ l. IsAmong x l) (sym is) (among_left E m) in
      record {
        made = λ i m. let t = h.made i (subst (λ l. IsAmong i l) kept m) in (t.0, more (Lease i t.0) t.1);
        still = λ i m. let t = h.still i (subst (λ l. IsAmong i l) kept m) in (t.0, λ n. t.1 (subst (λ l. IsAmong i l) had n));
        gone = λ i x m. ⊎_elim (λ o. h.gone i x o) (λ o. absurd (plain.1 i x o)) (among_append (Cancel i x) (trace v) E (subst (λ l. IsAmong (Cancel i x) l) is m));
        known = λ i T m. let t = h.known i T m in (t.0, more (Lease i t.0) t.1);
        lent = λ i r m. let t = h.lent i r (subst (λ l. IsAmong (i, r) l) pairs m) in (t.0, lent i t.0 t.1, t.2);
        held = λ i r m.
            let t = h.held i r (subst (λ l. IsAmong (i, r) l) pairs m) in
            ((λ n. t.0 (subst (λ l. IsAmong i l) had n)), ⊎_elim (λ k. inl (subst (λ l. IsAmong i l) (sym kept) k)) (λ c. inr c) t.1);
        once = subst (IsDistinct nat_eq) (sym (ap guests is ∙ guests_append (trace v) E ∙ ap (λ l. guests (trace v) ++ numbers l) plain.0 ∙ append-nil (guests (trace v)))) h.once;
      }

  -- a stream that has no Lease is leased
  knows_leased : {b c : Seen P} {s j : ℕ} {T : List ℕ} (Cs : List (ℕ × List ℕ)) → MayLease b s j → Leases b s j T c → ((i : ℕ) (U : List ℕ) → Lent b.seat i U → Lent c.seat i U) → KnowsLeases b.seat Cs → KnowsLeases c.seat Cs
  knows_leased {b = b} {c = c} {s = s} {j = j} {T = T} Cs m o lent h =
      let v = b.seat in let w = c.seat in
      let is : trace w ≡ trace v ++ Lease j s ∷ [] = leased_said o in
      let more : (x : What) → IsAmong x (trace v) → IsAmong x (trace w) = λ x n. subst (λ l. IsAmong x l) (sym is) (among_left (Lease j s ∷ []) n) in
      let kept : w.kept ≡ v.kept ++ j ∷ [] = ap (λ u. u.kept) o.seat in
      let had : w.had ≡ v.had = ap (λ u. u.had) o.seat in
      let pairs : w.pairs ≡ v.pairs ++ pairs_for j T = ap (λ u. u.pairs) o.seat in
      let fresh : (t : ℕ) → IsAmong (Lease j t) (trace v) → ⊥ = λ t n. m.unleased (v.by, t, in_noted v.by (Lease j t) v.events n) in
      record {
        made = λ i n. ⊎_elim
            (λ k. let t = h.made i k in (t.0, more (Lease i t.0) t.1))
            (λ e. (s, subst (λ l. IsAmong (Lease i s) l) (sym is) (subst (λ z. IsAmong (Lease z s) (trace v ++ Lease j s ∷ [])) (sym e) (among_last (trace v) (Lease j s)))))
            (among_snoc v.kept i j (subst (λ l. IsAmong i l) kept n));
        still = λ i n. ⊎_elim
            (λ k. let t = h.still i k in (t.0, λ x. t.1 (subst (λ l. IsAmong i l) had x)))
            (λ e. (
              (λ U x. let t = h.known i U x in fresh t.0 (subst (λ z. IsAmong (Lease z t.0) (trace v)) e t.1)),
              (λ x. m.new (subst (λ z. IsAmong z v.had) e (subst (λ l. IsAmong i l) had x))),
            ))
            (among_snoc v.kept i j (subst (λ l. IsAmong i l) kept n));
        gone = λ i y n. ⊎_elim (λ x. h.gone i y x) (λ e. let z : Cancel i y ≡ Lease j s = e in cc) (among_snoc (trace v) (Cancel i y) (Lease j s) (subst (λ l. IsAmong (Cancel i y) l) is n));
        known = λ i U n. let t = h.known i U n in (t.0, more (Lease i t.0) t.1);
        lent = λ i r n. ⊎_elim
            (λ x. let t = h.lent i r x in (t.0, lent i t.0 t.1, t.2))
            (λ x. let t = pairs_among j i r T x in (T, subst (λ z. Lent w z T) (sym t.0) (leases_lent o), t.1))
            (among_append (i, r) v.pairs (pairs_for j T) (subst (λ l. IsAmong (i, r) l) pairs n));
        held = λ i r n. ⊎_elim
            (λ x. let t = h.held i r x in ((λ y. t.0 (subst (λ l. IsAmong i l) had y)), ⊎_elim (λ k. inl (subst (λ l. IsAmong i l) (sym kept) (among_left (j ∷ []) k))) (λ y. inr y) t.1))
            (λ x. let e = (pairs_among j i r T x).0 in (
              (λ y. m.new (subst (λ z. IsAmong z v.had) e (subst (λ l. IsAmong i l) had y))),
              inl (subst (λ l. IsAmong i l) (sym kept) (subst (λ z. IsAmong z (v.kept ++ j ∷ [])) (sym e) (among_last v.kept j))),
            ))
            (among_append (i, r) v.pairs (pairs_for j T) (subst (λ l. IsAmong (i, r) l) pairs n));
        once = subst (IsDistinct nat_eq) (sym (ap guests is ∙ guests_append (trace v) (Lease j s ∷ []))) (distinct_append (guests (trace v)) (j ∷ []) h.once (distinct_one j) (λ x y z. ⊎_elim (λ e. let t = guest_found x (trace v) y in fresh t.0 (subst (λ q. IsAmong (Lease q t.0) (trace v)) e t.1)) (λ n. among_nil n) (among_cons z)));
      }

  -- a Lease that is kept is cancelled
  knows_cancelled : {ends : P → Exit → Bool → P → Type 0} {b c : Seen P} {j : ℕ} {T : List ℕ} {x : Exit} (Cs : List (ℕ × List ℕ)) → MayCancel b j T → Cancels ends b j T x c → ((i : ℕ) (U : List ℕ) → Lent b.seat i U → Lent c.seat i U) → KnowsLeases b.seat Cs → KnowsLeases c.seat (Cs ++ (j, T) ∷ [])
  knows_cancelled {b = b} {c = c} {j = j} {T = T} {x = how} Cs m o lent h =
      let v = b.seat in let w = c.seat in let f = cancel_follows o in
      let kept : w.kept ≡ without j v.kept = ap (λ z. z.kept) f.same in
      let had : w.had ≡ v.had = ap (λ z. z.had) f.same in
      let one : ℕ × List ℕ = (j, T) in
      let fs = said o.left.0 in
      let is : trace w ≡ trace v ++ Cancel j how ∷ finals how fs = canceled_said o in
      let more : (x : What) → IsAmong x (trace v) → IsAmong x (trace w) = λ x n. subst (λ l. IsAmong x l) (sym is) (among_left (Cancel j how ∷ finals how fs) n) in
      let old : (i : ℕ) → IsAmong i w.kept → IsAmong i v.kept × (¬ (i ≡ j)) = λ i n. among_without j v.kept i (subst (λ l. IsAmong i l) kept n) in
      record {
        made = λ i n. let t = h.made i (old i n).0 in (t.0, more (Lease i t.0) t.1);
        still = λ i n. let k = old i n in let t = h.still i k.0 in (
          (λ U x. ⊎_elim (λ y. t.0 U y) (λ e. k.1 (ap (λ (z : ℕ × List ℕ). z.0) e)) (among_snoc Cs (i, U) one x)),
          (λ x. t.1 (subst (λ l. IsAmong i l) had x)),
        );
        gone = λ i y n. ⊎_elim
            (λ x. let t = h.gone i y x in (t.0, among_left (one ∷ []) t.1))
            (λ x. (T, subst (λ z. IsAmong {A = ℕ × List ℕ} (z, T) (Cs ++ one ∷ [])) (sym (cancel_run i j y how fs x)) (among_last Cs one)))
            (among_append (Cancel i y) (trace v) (Cancel j how ∷ finals how fs) (subst (λ l. IsAmong (Cancel i y) l) is n));
        known = λ i U n. ⊎_elim
            (λ x. let t = h.known i U x in (t.0, more (Lease i t.0) t.1))
            (λ e. let t = h.made j m.kept in (t.0, more (Lease i t.0) (subst (λ z. IsAmong (Lease z t.0) (trace v)) (sym (ap (λ (z : ℕ × List ℕ). z.0) e)) t.1)))
            (among_snoc Cs (i, U) one n);
        lent = λ i r n. let t = h.lent i r (f.pairs (i, r) n) in (t.0, lent i t.0 t.1, t.2);
        held = λ i r n. let t = h.held i r (f.pairs (i, r) n) in (
          (λ x. t.0 (subst (λ l. IsAmong i l) had x)),
          ⊎_elim
              (λ k. ⊎_elim
              (λ e. inr (T, subst (λ z. IsAmong {A = ℕ × List ℕ} (z, T) (Cs ++ one ∷ [])) (sym e) (among_last Cs one), λ x. lease_gone r o.left.2 (reverse_among r T x) (subst (λ z. IsAmong (z, r) w.pairs) e n)))
              (λ ne. inl (subst (λ l. IsAmong i l) (sym kept) (among_kept j v.kept i k ne)))
              (cases_eq i j))
              (λ x. inr (x.0, among_left (one ∷ []) x.1, x.2))
              t.1,
        );
        once = subst (IsDistinct nat_eq) (sym (ap guests is ∙ guests_append (trace v) (Cancel j how ∷ finals how fs) ∙ ap (λ l. guests (trace v) ++ numbers l) (finals_leaseless how fs) ∙ append-nil (guests (trace v)))) h.once;
      }

  -- the seat of a stream is split off, with its Lease and leases
  knows_split : (v : View P) (j from to n : ℕ) (Cs : List (ℕ × List ℕ)) → ((i : ℕ) (T : List ℕ) → Lent v i T → Lent (split_main v j from to n) i T) → KnowsLeases v Cs → KnowsLeases (split_main v j from to n) Cs
  knows_split v j from to n Cs lent h =
      let old : (i r : ℕ) → IsAmong (i, r) (split_main v j from to n).pairs → IsAmong (i, r) v.pairs × (¬ (i ≡ j)) = λ i r m. let t = among_filter (λ (x : ℕ × ℕ). not (eqb x.0 j)) (i, r) v.pairs m in (t.0, λ e. let q = eq-eqb i j e in let z : true ≡ false = sym t.1 ∙ ap not q in cc) in
      let new : (i : ℕ) → (¬ (i ≡ j)) → (¬ (IsAmong i v.had)) → IsAmong i (v.had ++ j ∷ []) → ⊥ = λ i ne no m. ⊎_elim (λ x. no x) (λ e. ne e) (among_snoc v.had i j m) in
      record {
        made = λ i m. h.made i (among_without j v.kept i m).0;
        still = λ i m. let k = among_without j v.kept i m in let t = h.still i k.0 in (t.0, new i k.1 t.1);
        gone = h.gone;
        known = h.known;
        lent = λ i r m. let t = h.lent i r (old i r m).0 in (t.0, lent i t.0 t.1, t.2);
        held = λ i r m. let k = old i r m in let t = h.held i r k.0 in (new i k.1 t.0, ⊎_elim (λ x. inl (among_kept j v.kept i x k.1)) (λ x. inr x) t.1);
        once = h.once;
      }

  start_knows : (a : Seen P) → a.seat.events ≡ [] → HasNoOthers a.seat → KnowsLeases a.seat []
  start_knows a e h =
      let w : trace a.seat ≡ [] = ap (own a.seat.by) e in
      record {
        made = λ i m. absurd (among_nil (subst (λ l. IsAmong i l) h.kept m));
        still = λ i m. absurd (among_nil (subst (λ l. IsAmong i l) h.kept m));
        gone = λ i x m. absurd (among_nil (subst (λ l. IsAmong (Cancel i x) l) w m));
        known = λ i T m. absurd (among_nil m);
        lent = λ i r m. absurd (among_nil (subst (λ l. IsAmong (i, r) l) h.pairs m));
        held = λ i r m. absurd (among_nil (subst (λ l. IsAmong (i, r) l) h.pairs m));
        once = subst (λ l. IsDistinct nat_eq (guests l)) (sym w) distinct_nil;
      }

module _ {P : Type 0} {ends : P → Exit → Bool → P → Type 0} where
  knows_along : {a b : Seen P} {Cs : List (ℕ × List ℕ)} → KnowsLeases a.seat [] → Called ends a Cs b → KnowsLeases b.seat Cs
  knows_along h none = h
  knows_along h (opened {Cs = Cs} b c at s k m o) = knows_plain b.seat c.seat Cs (Open s o.parent ∷ []) (opened_said o) (plain_run (Open s o.parent) Succeeded [] refl (λ i x e. cc)) (ap (λ v. v.kept) o.seat) (ap (λ v. v.pairs) o.seat) (ap (λ v. v.had) o.seat) (λ i T l. lent_stays {ends = ends} (opened b c at s none m o) l) (knows_along h k)
  knows_along h (acquired {Cs = Cs} b c s r p k m o) = knows_plain b.seat c.seat Cs (Acquire r s ∷ []) (acquired_said o) (plain_run (Acquire r s) Succeeded [] refl (λ i x e. cc)) (ap (λ v. v.kept) o.seat) (ap (λ v. v.pairs) o.seat) (ap (λ v. v.had) o.seat) (λ i T l. lent_stays {ends = ends} (acquired b c s r p none m o) l) (knows_along h k)
  knows_along h (written {Cs = Cs} b c r p k m o) = knows_plain b.seat c.seat Cs [] (ap (λ (x : Seen P). trace x.seat) o ∙ sym (append-nil (trace b.seat))) (refl, λ i x m. among_nil m) (ap (λ (x : Seen P). x.seat.kept) o) (ap (λ (x : Seen P). x.seat.pairs) o) (ap (λ (x : Seen P). x.seat.had) o) (λ i T l. lent_stays {ends = ends} (written b c r p none m o) l) (knows_along h k)
  knows_along h (leased {Cs = Cs} b c s j T k m o) = knows_leased Cs m o (λ i U l. lent_stays {ends = ends} (leased b c s j T none m o) l) (knows_along h k)
  knows_along h (cancelled {Cs = Cs} b c j T x k m o) = knows_cancelled Cs m o (λ i U l. lent_stays {ends = ends} (cancelled b c j T x none m o) l) (knows_along h k)
  knows_along h (closed {Cs = Cs} b c s x k m o) = knows_plain b.seat c.seat Cs (Close s x ∷ finals x (said o.torn.0)) (closed_said o) (plain_run (Close s x) x (said o.torn.0) refl (λ i y e. cc)) (ap (λ z. z.kept) (close_follows o).same) (close_pairs o) (ap (λ z. z.had) (close_follows o).same) (λ i T l. lent_stays {ends = ends} (closed b c s x none m o) l) (knows_along h k)
  knows_along h (split {Cs = Cs} b c j from to n k m o) =
      let seat : c.seat ≡ split_main b.seat j from to n = ap (λ (x : Seen P). x.seat) o in
      subst (λ v. KnowsLeases v Cs) (sym seat) (knows_split b.seat j from to n Cs (λ i T l. subst (λ v. Lent v i T) seat (lent_stays {ends = ends} (split b c j from to n none m o) l)) (knows_along h k))
  knows_along h (taken_in {Cs = Cs} b c w k m p o) = knows_plain b.seat c.seat Cs [] (ap (λ (x : Seen P). trace x.seat) o ∙ join_trace b.seat w p ∙ sym (append-nil (trace b.seat))) (refl, λ i x m. among_nil m) (ap (λ (x : Seen P). x.seat.kept) o) (ap (λ (x : Seen P). x.seat.pairs) o) (ap (λ (x : Seen P). x.seat.had) o) (λ i T l. lent_stays {ends = ends} (taken_in b c w none m p o) l) (knows_along h k)

module _ {P : Type 0} (v : View P) where
  -- what a lease says of the trace
  lent_trace : (j : ℕ) (T : List ℕ) (l : Lent v j T) → trace v ≡ own v.by l.before ++ Lease j l.scope ∷ own v.by l.rest
  lent_trace j T l =
      let head : own v.by (l.event ∷ l.rest) ≡ l.event.what ∷ own v.by l.rest = ap (λ b. cond b (l.event.what ∷ own v.by l.rest) (own v.by l.rest)) (ap (λ a. same_stream a v.by) l.by ∙ stream_same v.by) in
      ap (own v.by) l.stands ∙ own_append v.by l.before (l.event ∷ l.rest) ∙ ap (λ x. own v.by l.before ++ x) (head ∙ ap (λ x. x ∷ own v.by l.rest) l.what)

  not_twice : (j s t : ℕ) (A B : List What) → trace v ≡ A ++ Lease j s ∷ B → IsDistinct nat_eq (guests (trace v)) → ¬ (IsAmong (Lease j t) A)
  not_twice j s t A B is d m = (distinct_mid (guests A) (guests B) j (subst (IsDistinct nat_eq) (ap guests is ∙ guests_append A (Lease j s ∷ B)) d)).1 (among_left (guests B) (guest_in j t A m))

  -- a stream that is leased once is leased with the same rows
  same_rows : (j : ℕ) (T U : List ℕ) → IsDistinct nat_eq (guests (trace v)) → Lent v j T → Lent v j U → T ≡ U
  same_rows j T U d l m =
      let a = lent_trace j T l in let b = lent_trace j U m in
      ⊎_elim
      (λ e. l.rows ∙ ap (λ E. leased_rows E l.scope) e.1 ∙ ap (λ s. leased_rows (own v.by m.before) s) (lease_stream j j l.scope m.scope e.0).1 ∙ sym m.rows)
      (λ o. absurd (⊎_elim (λ x. not_twice j m.scope l.scope (own v.by m.before) (own v.by m.rest) b d x) (λ x. not_twice j l.scope m.scope (own v.by l.before) (own v.by l.rest) a d x) o))
      (two_places (own v.by l.before) (own v.by l.rest) (own v.by m.before) (own v.by m.rest) (Lease j l.scope) (Lease j m.scope) (sym a ∙ b))

pub family_may_finish : {P : Type 0} {ends : P → Exit → Bool → P → Type 0} → FamilyMayFinish ends
family_may_finish b ms f out rest each =
    let v = b.seat in
    let h = knows_along (start_knows f.first f.start.events f.alone) f.calls in
    let kept : v.kept ≡ [] = nothing_among v.kept (λ i m.
    let t = h.made i m in let s = h.still i m in
    ⊎_elim s.1 (λ n. let c = h.gone i n.0 (noted_in v.by (Cancel i n.0) v.events n.1) in s.0 c.0 c.1) (each i t.0 (in_noted v.by (Lease i t.0) v.events t.1))) in
    let pairs : v.pairs ≡ [] = nothing_among v.pairs (λ x m.
    let t = h.lent x.0 x.1 m in let s = h.held x.0 x.1 m in
    ⊎_elim
    (λ k. among_nil (subst (λ l. IsAmong x.0 l) kept k))
    (λ c. c.2 (subst (λ T. IsAmong x.1 T) (same_rows v x.0 t.0 c.0 h.once t.1 (f.lent x.0 c.0 c.1)) t.2))
    s.1) in
    ((called_after f.calls).main ∙ f.alone.main, (rest.0, rest.3, pairs, kept, rest.1, rest.2), out)
