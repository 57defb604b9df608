-- How far the outer stream is ahead, and how many streams are open at once.
use Rattle.std.proofs.Common.{◌≡◌, ℕ, ◌+◌, ◌<◌, ◌≤◌, Bool, true, not, List, [], ◌∷◌, ◌++◌, length, count_by, length-append, inl, inr, sym, ap, ◌∙◌, subst, ⊎_elim, append_assoc, arith}
use Rattle.std.proofs.lemmas.Bool.{cases_eq}
use Rattle.std.specs.List.{list_any as any}
use Rattle.chunk_core.specs.declared.code.Exit.{Exit}
use Rattle.chunk_core.specs.declared.code.Exit.TheVariants.{Succeeded}
use Rattle.chunk_core.specs.Lists.{IsAmong}
use Rattle.chunk_core.specs.Lists.IsAmong.{here, there}
use Rattle.chunk_core.proofs.Cuts.{among_parts}
use Rattle.chunk_core.proofs.Filters.{among_append}
use Rattle.chunk_core.proofs.Members.{among_cons, among_left, among_mid, among_nil, among_snoc}
use Rattle.res_ledger.specs.declared.event.Event.{Event}
use Rattle.res_ledger.specs.declared.event.StreamNo.{StreamNo}
use Rattle.res_ledger.specs.declared.event.StreamNo.TheVariants.{Inner, Outer}
use Rattle.res_ledger.specs.declared.event.What.{What}
use Rattle.res_ledger.specs.declared.event.What.TheVariants.{Cancel, Close, Lease}
use Rattle.res_ledger.specs.Ledger.{IsStamped, Notes, NotesCancel}
use Rattle.res_ledger.specs.Streams.{same_stream}
use Rattle.res_ledger.specs.Whole.{is_cancel}
use Rattle.res_ledger.proofs.Ledgers.{inner_is}
use Rattle.res_ledger.proofs.Tests.{name}
use Rattle.chunk_core.proofs.Bools.{both, no, itself, any_at, any_found}
use Rattle.row_seat.specs.Views.{IsLedgerOf}
use Rattle.scope_tree.specs.Calls.{Seen}
use Rattle.tree_laws.proofs.Along.{called_after}
use Rattle.tree_families.specs.Families.{CameBack, IsFamily, Split}
use Rattle.run_rules.specs.Facts.{first_numbers}
use Rattle.run_rules.specs.Pace.{BeginInOrder, IsAnnounced, LeasesAhead, WithinWidth, is_active}
use Rattle.tree_families.specs.Pace.{IsInPace, NotesBelow}
use Rattle.tree_families.proofs.Counting.{covered_count, last_passing}
use Rattle.tree_laws.proofs.Names.{events_floored}

-- what has a lesser stamp than the event behind P stands in P
pub before : (L P Q : List Event) (e x : Event) → IsStamped L → L ≡ P ++ e ∷ Q → IsAmong x L → x.stamp < length P → IsAmong x P
before L P Q e x stamped is m l = ⊎_elim
    (λ o. o)
    (λ o. ⊎_elim
    (λ i. absurd (let s = stamped P Q e is in let t : x.stamp ≡ e.stamp = ap (λ (z : Event). z.stamp) i in omega arith))
    (λ i.
    let t = among_parts x Q i in
    let s = stamped (P ++ e ∷ t.0) t.1 x (is ∙ (ap (λ l. P ++ e ∷ l) t.2 ∙ sym (append_assoc P (e ∷ t.0) (x ∷ t.1)))) in
    let k = length-append P (e ∷ t.0) in
    absurd (omega arith))
    (among_cons o))
    (among_append x P (e ∷ Q) (subst (λ l. IsAmong x l) is m))

-- what stands in P has a stamp below its length
pub stamp_before : (L P Q : List Event) (e x : Event) → IsStamped L → L ≡ P ++ e ∷ Q → IsAmong x P → x.stamp < length P
stamp_before L P Q e x stamped is m =
    let t = among_parts x P m in
    let s = stamped t.0 (t.1 ++ e ∷ Q) x (is ∙ (ap (λ l. l ++ e ∷ Q) t.2 ∙ append_assoc t.0 (x ∷ t.1) (e ∷ Q))) in
    let k = length-append t.0 (x ∷ t.1) in
    let j = ap length t.2 in
    omega arith

-- what stands in P, or right behind it, has a stamp of at most its length
pub stamp_in : (L P Q : List Event) (e x : Event) → IsStamped L → L ≡ P ++ e ∷ Q → IsAmong x (P ++ e ∷ []) → x.stamp ≤ length P
stamp_in L P Q e x stamped is m = ⊎_elim
    (λ o. let s = stamp_before L P Q e x stamped is o in omega arith)
    (λ i. let s = stamped P Q e is in let t : x.stamp ≡ e.stamp = ap (λ (z : Event). z.stamp) i in omega arith)
    (among_snoc P x e m)

pub in_whole : (L P Q : List Event) (e x : Event) → L ≡ P ++ e ∷ Q → IsAmong x (P ++ e ∷ []) → IsAmong x L
in_whole L P Q e x is m = subst (λ l. IsAmong x l) (append_assoc P (e ∷ []) Q ∙ sym is) (among_left Q m)

cancel_is : (k : ℕ) (y : Exit) (w : What) → w ≡ Cancel k y → is_cancel k w ≡ true
cancel_is k y w i = ap (λ x. is_cancel k x) i ∙ itself k

-- where no event cancels the lease for k, no stream noted its Cancel
pub uncancelled : (P : List Event) (k : ℕ) (q : StreamNo) → not (any (λ x. is_cancel k x.what) P) ≡ true → NotesCancel P q k → ⊥
uncancelled P k q h n = no (any (λ x. is_cancel k x.what) P) h (any_at (λ x. is_cancel k x.what) n.1.0 P n.1.1 (cancel_is k n.0 n.1.0.what n.1.3))

active_event : (P : List Event) (e : Event) (k : ℕ) → is_active P e k ≡ true → (x : Event) × IsAmong x (P ++ e ∷ []) × (x.by ≡ Inner k)
active_event P e k h =
    let f = any_found (λ x. same_stream x.by (Inner k)) (P ++ e ∷ []) (both (any (λ x. same_stream x.by (Inner k)) (P ++ e ∷ [])) (not (any (λ x. is_cancel k x.what) P)) h).0 in
    (f.0, f.1, name f.0.by (Inner k) f.2)

active_open : (P : List Event) (e : Event) (k : ℕ) (q : StreamNo) → is_active P e k ≡ true → NotesCancel P q k → ⊥
active_open P e k q h n = uncancelled P k q (both (any (λ x. same_stream x.by (Inner k)) (P ++ e ∷ [])) (not (any (λ x. is_cancel k x.what) P)) h).1 n

module _ {P : Type 0} {ends : P → Exit → Bool → P → Type 0} (b : Seen P) (ms : List Split) (L : List Event) (width : ℕ) (f : IsFamily ends b ms) (outer : b.seat.by ≡ Outer) (out : b.seat.out ≡ []) (ledger : IsLedgerOf b.seat L) (paced : (m : Split) → IsAmong m ms → IsInPace width b.seat.events Outer ms m) where
  -- each event of an inner stream stands at or above the floor of its seat
  mark_at : (e : Event) (k : ℕ) → IsAmong e L → e.by ≡ Inner k → (m : Split) × IsAmong m ms × (m.stream ≡ k) × (m.floor ≤ e.stamp)
  mark_at e k i is =
      let m = (ledger.whole e).0 i in
      ⊎_elim
      (λ o. absurd (let z : Inner k ≡ Outer = sym is ∙ (o ∙ outer) in cc))
      (λ o.
      let t = f.listed o.0 o.2 in
      let back : CameBack ends b t.0.stream t.0.floor = ⊎_elim (λ x. absurd (among_nil (subst (λ l. IsAmong t.0.stream l) out x))) (λ c. c) (f.met t.0 t.1) in
      let fl = events_floored back.visit.guest.start.events back.visit.calls in
      let by : back.last.seat.by ≡ Inner t.0.stream = (called_after back.visit.calls).by ∙ back.visit.guest.by in
      let eb : e.by ≡ Inner t.0.stream = o.1 ∙ ap Inner (sym t.2) in
      let low : back.last.seat.floor ≤ e.stamp = fl.1 e ((back.own e eb).0 m) (eb ∙ sym by) in
      (t.0, t.1, inner_is t.0.stream k (sym eb ∙ is), subst (λ x. x ≤ e.stamp) (fl.0 ∙ back.visit.guest.floor) low))
      (ledger.names e i)

  -- what is noted below a floor stands before what stands at or above it
  noted_before : (R S : List Event) (e : Event) (k : StreamNo) (w : What) (x : ℕ) → L ≡ R ++ e ∷ S → x ≤ length R → NotesBelow x b.seat.events k w → Notes R k w
  noted_before R S e k w x is l h = (h.0, before L R S e h.0 ledger.stamped is ((ledger.whole h.0).1 h.1) (let s = h.4 in omega arith), h.2, h.3)

  pub family_ahead : LeasesAhead L
  family_ahead R S e k is by =
      let t = mark_at e k (subst (λ l. IsAmong e l) (sym is) (among_mid R S e)) by in
      let low : t.0.floor ≤ length R = subst (λ x. t.0.floor ≤ x) (ledger.stamped R S e is) t.3 in
      let p = paced t.0 t.1 in
      subst (λ q. IsAnnounced R q) t.2 (record {
        lease = (p.lease.0, noted_before R S e Outer (Lease t.0.stream p.lease.0) t.0.floor is low p.lease.1);
        next = ⊎_elim
            (λ q. inl (q.0, noted_before R S e Outer (Lease (t.0.stream + 1) q.0) t.0.floor is low q.1))
            (λ q. inr (noted_before R S e Outer (Close 0 Succeeded) t.0.floor is low q))
            p.next;
      })

  narrow_at : (n : ℕ) (R S : List Event) (e : Event) → L ≡ R ++ e ∷ S → (k : ℕ) → is_active R e k ≡ true → ((i : ℕ) → i < n → is_active R e i ≡ true → i ≤ k) → count_by (is_active R e) (first_numbers n) ≤ width
  narrow_at n R S e is k a most =
      let x = active_event R e k a in
      let t = mark_at x.0 k (in_whole L R S e x.0 is x.1) x.2 in
      let low : t.0.floor ≤ length R = (let s = stamp_in L R S e x.0 ledger.stamped is x.1 in let u = t.3 in omega arith) in
      let p = paced t.0 t.1 in
      let c = covered_count (is_active R e) n (k ∷ t.0.out) (λ i l h. ⊎_elim
      (λ s. subst (λ z. IsAmong z (k ∷ t.0.out)) (sym s) (here t.0.out))
      (λ ne.
      let y = active_event R e i h in
      let u = mark_at y.0 i (in_whole L R S e y.0 is y.1) y.2 in
      let less : u.0.stream < t.0.stream = (let o = most i l h in let v = u.2 in let w = t.2 in omega arith) in
      ⊎_elim
      (λ o. there k (subst (λ z. IsAmong z t.0.out) u.2 o))
      (λ o. absurd (active_open R e u.0.stream (Inner u.0.stream) (subst (λ z. is_active R e z ≡ true) (sym u.2) h) (o.0, noted_before R S e (Inner u.0.stream) (Cancel u.0.stream o.0) t.0.floor is low o.1)))
      (p.over u.0 u.1 less))
      (cases_eq i k)) in
      let m = p.narrow in omega arith

  pub family_within : (n : ℕ) → WithinWidth width n L
  family_within n R S e is = ⊎_elim
      (λ h. let c = covered_count (is_active R e) n [] (λ k l t. absurd (h k l t)) in omega arith)
      (λ h. narrow_at n R S e is h.0 h.2 h.3)
      (last_passing (is_active R e) n)

  -- of the streams below that of m those without a Cancel were out when its seat was split off
  was_out : (R S : List Event) (e : Event) (m : Split) → L ≡ R ++ e ∷ S → IsAmong m ms → m.floor ≤ length R → (i : ℕ) → i < m.stream → not (any (λ x. is_cancel i x.what) R) ≡ true → IsAmong i m.out
  was_out R S e m is a low i less h =
      let p = paced m a in
      ⊎_elim
      (λ q. ⊎_elim
      (λ o. subst (λ z. IsAmong z m.out) q.2 o)
      (λ o. absurd (uncancelled R q.0.stream (Inner q.0.stream) (subst (λ z. not (any (λ x. is_cancel z x.what) R) ≡ true) (sym q.2) h) (o.0, noted_before R S e (Inner q.0.stream) (Cancel q.0.stream o.0) m.floor is low o.1)))
      (p.over q.0 q.1 (subst (λ x. x < m.stream) (sym q.2) less)))
      (λ q. absurd (uncancelled R i Outer h (q.0, noted_before R S e Outer (Cancel i q.0) m.floor is low q.1)))
      (p.dealt i less)

  -- so a stream that hadn't left before an event of k was out when the seat of k was split off
  pub family_room : (R S : List Event) (e : Event) (k i : ℕ) → L ≡ R ++ e ∷ S → e.by ≡ Inner k → i < k → not (any (λ x. is_cancel i x.what) R) ≡ true → (m : Split) × IsAmong m ms × (m.stream ≡ k) × IsAmong i m.out
  family_room R S e k i is by l h =
      let t = mark_at e k (subst (λ l. IsAmong e l) (sym is) (among_mid R S e)) by in
      let low : t.0.floor ≤ length R = subst (λ x. t.0.floor ≤ x) (ledger.stamped R S e is) t.3 in
      (t.0, t.1, t.2, was_out R S e t.0 is t.1 low i (subst (λ x. i < x) (sym t.2) l) h)

  pub family_begins : BeginInOrder width L
  family_begins R S e k is by =
      let t = mark_at e k (subst (λ l. IsAmong e l) (sym is) (among_mid R S e)) by in
      let low : t.0.floor ≤ length R = subst (λ x. t.0.floor ≤ x) (ledger.stamped R S e is) t.3 in
      let c = covered_count (λ i. not (any (λ x. is_cancel i x.what) R)) k t.0.out (λ i l h. was_out R S e t.0 is t.1 low i (subst (λ x. i < x) (sym t.2) l) h) in
      let m = (paced t.0 t.1).narrow in omega (arith, c, m)
