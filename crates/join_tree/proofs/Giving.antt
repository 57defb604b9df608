-- How the outer stream is kept in pace as there are more events.
use Rattle.std.proofs.Common.{◌≡◌, ℕ, ◌+◌, ◌<◌, ◌≤◌, ◌⊎◌, ◌↔◌, Bool, List, [], ◌∷◌, ◌++◌, length, length-append, map, inl, inr, refl, sym, ap, ◌∙◌, subst, ⊎_elim, arith}
use Rattle.std.proofs.lemmas.List.{length-map}
use Rattle.chunk_core.specs.declared.code.Exit.{Exit}
use Rattle.chunk_core.specs.declared.code.Exit.TheVariants.{Canceled}
use Rattle.chunk_core.specs.Lists.{IsAmong}
use Rattle.chunk_core.specs.Lists.IsAmong.{here}
use Rattle.chunk_core.proofs.Filters.{among_right}
use Rattle.chunk_core.proofs.Members.{among_left, among_snoc}
use Rattle.res_ledger.specs.declared.event.Event.{Event}
use Rattle.res_ledger.specs.declared.event.StreamNo.{StreamNo}
use Rattle.res_ledger.specs.declared.event.StreamNo.TheVariants.{Inner, Outer}
use Rattle.res_ledger.specs.declared.event.What.{What}
use Rattle.res_ledger.specs.declared.event.What.TheVariants.{Acquire, Cancel, Lease}
use Rattle.res_ledger.specs.Ledger.{Notes}
use Rattle.res_ledger.proofs.Ledgers.{lease_stream}
use Rattle.row_seat.specs.Views.{next_stamp}
use Rattle.row_seat.proofs.Splits.{above_each}
use Rattle.scope_tree.specs.Calls.{Leases, Seen}
use Rattle.scope_tree.specs.Trace.{leasing as leasing_event}
use Rattle.tree_laws.proofs.Along.{called_after}
use Rattle.tree_laws.proofs.Cancels.{called_cancel}
use Rattle.tree_families.specs.Families.{CameBack, Split}
use Rattle.tree_families.specs.Pace.{IsInPace, NotesBelow}
use Rattle.join_tree.specs.Mains.{IsMain}
use Rattle.join_tree.specs.Notes.{GivesInPace, IsTold, RowsRise}
use Rattle.join_tree.specs.Progress.{Progress}
use Rattle.join_tree.proofs.Queue.{follow_among}

-- what stands below a stamp stands there among more events
pub below_more : {x : ℕ} {L M : List Event} {k : StreamNo} {w : What} → ((e : Event) → IsAmong e L → IsAmong e M) → NotesBelow x L k w → NotesBelow x M k w
below_more h n = (n.0, h n.0 n.1, n.2, n.3, n.4)

-- what is noted stands below the next stamp
pub below_next : (L : List Event) (k : StreamNo) (w : What) → Notes L k w → NotesBelow (next_stamp L) L k w
below_next L k w n = (n.0, n.1, n.2, n.3, above_each L n.0 n.1)

-- a seat that was split off in pace stays so
pub paced_more : {width : ℕ} {L M : List Event} {k : StreamNo} {ms : List Split} {m : Split} → ((e : Event) → IsAmong e L → IsAmong e M) → IsInPace width L k ms m → IsInPace width M k ms m
paced_more h p = record {
  lease = (p.lease.0, below_more h p.lease.1);
  next = ⊎_elim (λ l. inl (l.0, below_more h l.1)) (λ c. inr (below_more h c)) p.next;
  narrow = p.narrow;
  dealt = λ i l. ⊎_elim (λ q. inl q) (λ c. inr (c.0, below_more h c.1)) (p.dealt i l);
  over = λ q i l. ⊎_elim (λ o. inl o) (λ o. inr (o.0, below_more h o.1)) (p.over q i l);
}

-- a Lease is for a stream below `leased`
pub lease_below : {P : Type 0} {p : Progress P} {L : List Event} → IsTold p L → (e : Event) (j s : ℕ) → IsAmong e L → e.what ≡ Lease j s → j < p.leased
lease_below t e j s m w = let k : e.by ≡ Outer = t.lessor e.by j s (e, m, refl, w) in t.outer (Lease j s) (e, m, k, w)

-- nothing was noted
pub gives_none : {width : ℕ} (L : List Event) → ((e : Event) → IsAmong e L → ⊥) → GivesInPace width L
gives_none L nothing = record {
  rise = λ e f r s q t m n a b x y l. absurd (nothing e m);
  order = λ e f i j s t m n x y l. absurd (nothing e m);
  behind = λ e f r j s m n a x y. absurd (nothing e m);
  waits = λ e j s m x. absurd (nothing e m);
}

-- no Lease is new
gives_on : {width : ℕ} (L M : List Event) → GivesInPace width L → ((e : Event) → IsAmong e L → IsAmong e M) → ((e : Event) (j s : ℕ) → IsAmong e M → e.what ≡ Lease j s → IsAmong e L) → RowsRise M → ((e f : Event) (r j s : ℕ) → IsAmong e M → IsAmong f L → e.by ≡ Outer → e.what ≡ Acquire r 0 → f.what ≡ Lease j s → e.stamp < f.stamp) → GivesInPace width M
gives_on L M g more old rise behind = record {
  rise = rise;
  order = λ e f i j s t m n x y l. g.order e f i j s t (old e i s m x) (old f j t n y) x y l;
  behind = λ e f r j s m n a x y. behind e f r j s m (old f j s n y) a x y;
  waits = λ e j s m x. let w = g.waits e j s (old e j s m x) x in (w.0, w.1, λ i l. ⊎_elim (λ o. inl o) (λ c. inr (c.0, c.1, below_more more c.2)) (w.2 i l));
}

-- neither a Lease nor an Acquire by the outer stream is new
pub gives_calm : {width : ℕ} (L M : List Event) → GivesInPace width L → ((e : Event) → IsAmong e L → IsAmong e M) → ((e : Event) (j s : ℕ) → IsAmong e M → e.what ≡ Lease j s → IsAmong e L) → ((e : Event) (r s : ℕ) → IsAmong e M → e.by ≡ Outer → e.what ≡ Acquire r s → IsAmong e L) → GivesInPace width M
gives_calm L M g more old same = gives_on L M g more old
    (λ e f r s q t m n a b x y l. g.rise e f r s q t (same e r s m a x) (same f q t n b y) a b x y l)
    (λ e f r j s m n a x y. g.behind e f r j s (same e r 0 m a x) n a x y)

-- lists with the same events keep the same pace
pub gives_same : {width : ℕ} (L M : List Event) → ((e : Event) → IsAmong e M ↔ IsAmong e L) → GivesInPace width L → GivesInPace width M
gives_same L M same g = gives_calm L M g (λ e m. (same e).1 m) (λ e j s m w. (same e).0 m) (λ e r s m by w. (same e).0 m)

-- no Lease is new, and of the root no row was acquired behind one
pub gives_reads : {width : ℕ} {P : Type 0} (p : Progress P) (L M : List Event) → IsTold p L → GivesInPace width L → ((e : Event) → IsAmong e L → IsAmong e M) → ((e : Event) (j s : ℕ) → IsAmong e M → e.what ≡ Lease j s → IsAmong e L) → RowsRise M → ((e : Event) (r : ℕ) → IsAmong e M → e.what ≡ Acquire r 0 → IsAmong e L ⊎ (p.leased ≡ 0)) → GivesInPace width M
gives_reads p L M t g more old rise first = gives_on L M g more old rise (λ e f r j s m n a x y. ⊎_elim
    (λ i. g.behind e f r j s i n a x y)
    (λ z. absurd (let l = lease_below t f j s n y in omega (l, z, arith)))
    (first e r m x))

module _ {P : Type 0} {ends : P → Exit → Bool → P → Type 0} where
  -- of a seat that came back the Cancel is noted
  back_cancel : (b : Seen P) (m : Split) → CameBack ends b m.stream m.floor → (x : Exit) × Notes b.seat.events (Inner m.stream) (Cancel m.stream x)
  back_cancel b m t =
      let by : t.last.seat.by ≡ Inner m.stream = (called_after t.visit.calls).by ∙ t.visit.guest.by in
      let c = called_cancel m.stream t.rows t.visit.calls (here []) in
      let n = c.1 in
      let k : n.0.by ≡ Inner m.stream = n.2 ∙ by in
      (c.0, (n.0, (t.own n.0 k).1 n.1, k, n.3))

  -- and stands below the next stamp
  pub cancel_below : (b : Seen P) (m : Split) → CameBack ends b m.stream m.floor → (x : Exit) × NotesBelow (next_stamp b.seat.events) b.seat.events (Inner m.stream) (Cancel m.stream x)
  cancel_below b m t = let c = back_cancel b m t in (c.0, below_next b.seat.events (Inner m.stream) (Cancel m.stream c.0) c.1)

module _ {P : Type 0} {ends : P → Exit → Bool → P → Type 0} {width n : ℕ} (b : Seen P) (p : Progress P) (h : IsMain ends width n b p) where
  -- the streams whose seats are out, and those whose leases wait
  abbrev standing : List ℕ
  standing = b.seat.out ++ map (λ w. w.0) p.waits

  -- each stream below `leased` is one of these, or its lease has a Cancel
  pub stands_or_gone : (i : ℕ) → i < p.leased → IsAmong i standing ⊎ ((k : StreamNo) × (x : Exit) × Notes b.seat.events k (Cancel i x))
  stands_or_gone i l = ⊎_elim
      (λ low. ⊎_elim
      (λ s.
      let m = s.0 in
      ⊎_elim
      (λ o. inl (among_left (map (λ w. w.0) p.waits) (subst (λ z. IsAmong z b.seat.out) s.2 o)))
      (λ t. let c = back_cancel b m t in inr (Inner m.stream, c.0, subst (λ z. Notes b.seat.events (Inner m.stream) (Cancel z c.0)) s.2 c.1))
      (h.family.met m s.1))
      (λ c. inr (Outer, Canceled, c))
      (h.told.dealt i low))
      (λ high. inl (among_right i b.seat.out (map (λ w. w.0) p.waits) high))
      (follow_among p.next p.waits p.leased i h.order l)

  -- a scope was leased for the next stream
  pub gives_leases : (c : Seen P) (scope : ℕ) (T : List ℕ) → length b.seat.out + length p.waits ≤ width → Leases b scope p.leased T c → GivesInPace width c.seat.events
  gives_leases c scope T few o =
      let k = p.leased in
      let v = b.seat in
      let g = h.gives in
      let x : Event = leasing_event v k scope o.stamp in
      let events : c.seat.events ≡ v.events ++ x ∷ [] = ap (λ u. u.events) o.seat in
      let more : (e : Event) → IsAmong e v.events → IsAmong e c.seat.events = λ e m. subst (λ l. IsAmong e l) (sym events) (among_left (x ∷ []) m) in
      let old : (e : Event) → IsAmong e c.seat.events → IsAmong e v.events ⊎ (e ≡ x) = λ e m. among_snoc v.events e x (subst (λ l. IsAmong e l) events m) in
      let fresh : (e : Event) → IsAmong e v.events → e.stamp < o.stamp = o.fresh.1 in
      let last : (e : Event) → e ≡ x → o.stamp ≡ e.stamp = λ e q. sym (ap (λ (z : Event). z.stamp) q) in
      let next : (e : Event) (i s : ℕ) → e ≡ x → e.what ≡ Lease i s → i ≡ k = λ e i s q w. (lease_stream i k s scope (sym w ∙ ap (λ (z : Event). z.what) q)).0 in
      let acquired : (e : Event) (r s : ℕ) → IsAmong e c.seat.events → e.what ≡ Acquire r s → IsAmong e v.events = λ e r s m w. ⊎_elim (λ i. i) (λ q. let z : Acquire r s ≡ Lease k scope = sym w ∙ ap (λ (y : Event). y.what) q in cc) (old e m) in
      let below : (i : ℕ) (q : StreamNo) (y : Exit) → Notes v.events q (Cancel i y) → NotesBelow o.stamp c.seat.events q (Cancel i y) = λ i q y n. (n.0, more n.0 n.1, n.2, n.3, fresh n.0 n.1) in
      record {
        rise = λ e f r s q t m n a d w y l. g.rise e f r s q t (acquired e r s m w) (acquired f q t n y) a d w y l;
        order = λ e f i j s t m n w y l. ⊎_elim
            (λ a. ⊎_elim
            (λ d. g.order e f i j s t a d w y l)
            (λ d. subst (λ z. e.stamp < z) (last f d) (fresh e a))
            (old f n))
            (λ a. absurd (let z = next e i s a w in ⊎_elim
            (λ d. let u = lease_below h.told f j t d y in omega (u, z, l, arith))
            (λ d. let u = next f j t d y in omega (u, z, l, arith))
            (old f n)))
            (old e m);
        behind = λ e f r j s m n a w y. ⊎_elim
            (λ d. g.behind e f r j s (acquired e r 0 m w) d a w y)
            (λ d. subst (λ z. e.stamp < z) (last f d) (fresh e (acquired e r 0 m w)))
            (old f n);
        waits = λ e j s m w. ⊎_elim
            (λ a. let q = g.waits e j s a w in (q.0, q.1, λ i l. ⊎_elim (λ z. inl z) (λ z. inr (z.0, z.1, below_more {k = z.0} {w = Cancel i z.1} more z.2)) (q.2 i l)))
            (λ a.
            let z = next e j s a w in
            let size : length standing ≤ width = (let u = length-append v.out (map (λ (y : ℕ × List ℕ). y.0) p.waits) in let t = length-map p.waits (λ (y : ℕ × List ℕ). y.0) in omega (u, t, few, arith)) in (
              standing,
              size,
              λ i l. ⊎_elim
                  (λ y. inl y)
                  (λ y. inr (y.0, y.1, subst (λ u. NotesBelow u c.seat.events y.0 (Cancel i y.1)) (last e a) (below i y.0 y.1 y.2)))
                  (stands_or_gone i (omega (l, z, arith))),
            ))
            (old e m);
      }
