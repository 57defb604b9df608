-- The seats of the leases that aren't canceled.
use Rattle.std.proofs.Common.{◌≡◌, ◌≢◌, ℕ, suc, ◌<◌, ◌≤◌, Bool, true, false, cond, nat_eq, List, [], ◌∷◌, ◌++◌, ◌⊎◌, inl, inr, refl, sym, ap, ◌∙◌, subst, ⊎_elim, length, arith, Option, None, Some, slice_get}
use Rattle.std.specs.Prelude.{unwrap_or}
use Rattle.std.proofs.lemmas.Option.{slice_get_within}
use Rattle.chunk_core.specs.declared.code.Exit.{Exit}
use Rattle.chunk_core.proofs.Bools.{number, itself}
use Rattle.chunk_core.proofs.Members.{among_last, among_nil, among_snoc}
use Rattle.res_ledger.specs.declared.event.StreamNo.{StreamNo}
use Rattle.res_ledger.specs.declared.event.What.{What}
use Rattle.res_ledger.specs.declared.event.What.TheVariants.{Open, Acquire, Lease, Cancel, Close}
use Rattle.res_ledger.specs.declared.event.Event.{Event}
use Rattle.res_ledger.specs.Ledger.{Covers, IsCanceled, IsLegal, LiesWithin, MayFollow}
use Rattle.res_ledger.specs.Ledger.LiesWithin.{same, below}
use Rattle.res_ledger.proofs.Prefixes.{front_notes}
use Rattle.ledger_books.specs.declared.index.Key.{Key}
use Rattle.ledger_books.specs.declared.index.Key.TheVariants.{Closed, Opened}
use Rattle.ledger_books.specs.declared.waits.Waits.{Waits}
use Rattle.ledger_books.specs.Key.{place_of, same_key}
use Rattle.ledger_books.specs.Keyed.{CoversAt, IsUnclosedBefore, NotesAt, number_of}
use Rattle.ledger_books.specs.Peaks.{IsHeap, peak_at}
use Rattle.ledger_books.specs.Rooms.{room_of, seat_of}
use Rattle.ledger_books.specs.Waits.{HasNone, IsSeated, IsShutAt, IsWithin, Leaves, Seated, Shuts, SitsDown, next_of, until_of}
use Rattle.ledger_books.proofs.Covering.{covers_mine, covers_shape, covers_to}
use Rattle.ledger_books.proofs.Keys.{number_is}
use Rattle.ledger_books.proofs.Noting.{at_snoc, same_key_is}
use Rattle.ledger_books.proofs.Placed.{among_at, at_more, place_noted, places}
use Rattle.ledger_books.proofs.Walking.{same_lease}

pub seated_none : (w : Waits) → IsHeap w.peaks → ((q : Key) → place_of w.shuts q ≡ None) → Seated w []
seated_none w h n = record {
  heap = h;
  within = λ k s p m. absurd (among_nil m.1);
  leases = λ i k j s m. absurd (let l = slice_get_within [] i m.0 m.1 in omega arith);
  shut = λ k s z g. let u : None ≡ Some z = sym (n (Closed (number_of k) s)) ∙ g in cc;
}

canceled_more : (P : List Event) (e : Event) (j : ℕ) → IsCanceled P j → IsCanceled (P ++ e ∷ []) j
canceled_more P e j c = (c.0, (c.1.0, front_notes (e ∷ []) c.1.1))

noted_more : (P : List Event) (e : Event) (i : ℕ) (k : StreamNo) (v : What) → NotesAt P i k v → NotesAt (P ++ e ∷ []) i k v
noted_more P e i k v n = (n.0, (at_more P (e ∷ []) i n.0 n.1).0, n.2, n.3)

-- what is noted at a place was noted before, or just now
noted_old : (P : List Event) (e : Event) (i : ℕ) (k : StreamNo) (v : What) → NotesAt (P ++ e ∷ []) i k v → NotesAt P i k v ⊎ ((i ≡ length P) × (e.by ≡ k) × (e.what ≡ v))
noted_old P e i k v n = ⊎_elim (λ l. inl (n.0, l, n.2, n.3)) (λ r. inr (r.0, ap (λ z. z.by) (sym r.1) ∙ n.2, ap (λ z. z.what) (sym r.1) ∙ n.3)) (at_snoc P e n.0 i n.1)

-- what an event changes
module _ (w v : Waits) (P : List Event) (e : Event) (f : Seated w P) (rooms : v.rooms ≡ w.rooms) where
  -- the seat of an earlier lease
  seated_kept : (i : ℕ) (k : StreamNo) (j s : ℕ) → v.peaks.half ≡ w.peaks.half → (next_of w (number_of k) s ≤ next_of v (number_of k) s) → (t : IsSeated w P i k j s) → (IsCanceled P j ⊎ (peak_at w.peaks t.0 ≡ suc i) → IsCanceled (P ++ e ∷ []) j ⊎ (peak_at v.peaks t.0 ≡ suc i)) → IsSeated v (P ++ e ∷ []) i k j s
  seated_kept i k j s half next t g = (
    t.0,
    subst (λ r. seat_of r j ≡ Some t.0) (sym rooms) t.1,
    subst (λ r. (room_of r (number_of k) s).from ≤ t.0) (sym rooms) t.2,
    subst (λ r. t.0 < (room_of r (number_of k) s).to) (sym rooms) t.3,
    (let a = t.4 in omega arith),
    (let a = t.5 in omega arith),
    g t.6,
  )

  shut_kept : (k : StreamNo) (s z : ℕ) → IsShutAt w P k s z → IsShutAt v (P ++ e ∷ []) k s z
  shut_kept k s z t = (
    t.0,
    t.1,
    noted_more P e t.0 k (Close s t.1) t.2,
    λ i j x l n q.
        let m = (at_more P (e ∷ []) t.0 t.2.0 t.2.1).1 in
        let n' : NotesAt (P ++ e ∷ []) i k (Lease j (room_of w.rooms (number_of k) s).parent) = subst (λ r. NotesAt (P ++ e ∷ []) i k (Lease j (room_of r (number_of k) s).parent)) rooms n in
        ⊎_elim
        (λ o. t.3 i j x l o (subst (λ r. seat_of r j ≡ Some x) rooms q))
        (λ o. absurd (let a = o.0 in omega arith))
        (noted_old P e i k (Lease j (room_of w.rooms (number_of k) s).parent) n'),
  )

  seated_by : IsHeap v.peaks → ((k : StreamNo) (s p : ℕ) → e.by ≡ k → e.what ≡ Open s p → IsWithin w.rooms (number_of k) s p) → ((i : ℕ) (k : StreamNo) (j s : ℕ) → NotesAt P i k (Lease j s) → IsSeated v (P ++ e ∷ []) i k j s) → ((k : StreamNo) (j s : ℕ) → e.by ≡ k → e.what ≡ Lease j s → IsSeated v (P ++ e ∷ []) (length P) k j s) → ((k : StreamNo) (s z : ℕ) → place_of v.shuts (Closed (number_of k) s) ≡ Some z → IsShutAt v (P ++ e ∷ []) k s z) → Seated v (P ++ e ∷ [])
  seated_by heap opens old new shut = record {
    heap = heap;
    within = λ k s p n. subst (λ r. IsWithin r (number_of k) s p) (sym rooms) (⊎_elim
        (λ l. f.within k s p (n.0, l, n.2, n.3))
        (λ g. opens k s p (ap (λ z. z.by) (sym g) ∙ n.2) (ap (λ z. z.what) (sym g) ∙ n.3))
        (among_snoc P n.0 e n.1));
    leases = λ i k j s n. ⊎_elim
        (λ l. old i k j s l)
        (λ l. subst (λ m. IsSeated v (P ++ e ∷ []) m k j s) (sym l.0) (new k j s l.1 l.2))
        (noted_old P e i k (Lease j s) n);
    shut = shut;
  }

-- an event that leases nothing, and changes nothing
pub seated_still : (w : Waits) (P : List Event) (e : Event) → Seated w P → ((k : StreamNo) (s p : ℕ) → e.by ≡ k → e.what ≡ Open s p → IsWithin w.rooms (number_of k) s p) → ((j s : ℕ) → e.what ≢ Lease j s) → Seated w (P ++ e ∷ [])
seated_still w P e f opens none = seated_by w w P e f refl f.heap opens
    (λ i k j s n. seated_kept w w P e f refl i k j s refl (omega arith) (f.leases i k j s n) (λ c. ⊎_elim (λ a. inl (canceled_more P e j a)) (λ a. inr a) c))
    (λ k j s b h. absurd (none j s h))
    (λ k s z g. shut_kept w w P e f refl k s z (f.shut k s z g))

-- a lease sits down
pub seated_more : (w v : Waits) (P : List Event) (e : Event) (j s : ℕ) → e.what ≡ Lease j s → SitsDown w v (number_of e.by) j s (length P) → Seated w P → Seated v (P ++ e ∷ [])
seated_more w v P e j s h d f = seated_by w v P e f d.rooms (d.heap f.heap)
    (λ k t p b g. let u : Lease j s ≡ Open t p = sym h ∙ g in cc)
    (λ i k q t n. let u = f.leases i k q t n in seated_kept w v P e f d.rooms i k q t d.half (d.nexts.0 (Opened (number_of k) t)) u (λ c. ⊎_elim
    (λ a. inl (canceled_more P e q a))
    (λ a. inr (d.peaks f.heap u.0 u.5 ∙ other u.0 i a (nat_eq u.0 d.seat) refl))
    c))
    (λ k q t b g.
    let u : Lease j s ≡ Lease q t = sym h ∙ g in
    let x : j ≡ q = cc in
    let y : s ≡ t = cc in
    subst (λ z. IsSeated v (P ++ e ∷ []) (length P) k z t) x (subst (λ z. IsSeated v (P ++ e ∷ []) (length P) k j z) y (subst (λ z. IsSeated v (P ++ e ∷ []) (length P) z j s) b here)))
    (λ k t z g. shut_kept w v P e f d.rooms k t z (f.shut k t z (ap (λ x. place_of x (Closed (number_of k) t)) (sym d.shuts) ∙ g)))
  where
    other : (x i : ℕ) → peak_at w.peaks x ≡ suc i → (b : Bool) → nat_eq x d.seat ≡ b → cond b (suc (length P)) (peak_at w.peaks x) ≡ suc i
    other x i a false q = a
    other x i a true q =
        let r = number x d.seat q in
        let z : peak_at w.peaks x ≡ 0 = ap (peak_at w.peaks) r ∙ d.can.free f.heap in
        let y : 0 ≡ suc i = sym z ∙ a in cc

    here : IsSeated v (P ++ e ∷ []) (length P) e.by j s
    here = (
      d.seat,
      subst (λ r. seat_of r j ≡ Some d.seat) (sym d.rooms) d.can.seat,
      subst (λ r. (room_of r (number_of e.by) s).from ≤ d.seat) (sym d.rooms) d.can.from,
      subst (λ r. d.seat < (room_of r (number_of e.by) s).to) (sym d.rooms) d.can.to,
      (let a = d.nexts.1 in omega arith),
      (let a = d.can.within in let b = d.half in omega arith),
      inr (d.peaks f.heap d.seat d.can.within ∙ ap (λ b. cond b (suc (length P)) (peak_at w.peaks d.seat)) (itself d.seat)),
    )

-- a lease that isn't canceled leaves its seat
pub seated_less : (w v : Waits) (P : List Event) (e : Event) (j : ℕ) (x : Exit) → IsLegal (P ++ e ∷ []) → e.what ≡ Cancel j x → Leaves w v j → Seated w P → Seated v (P ++ e ∷ [])
seated_less w v P e j x legal h d f = seated_by w v P e f d.rooms (d.heap seat.0 seat.1 seat.5 f.heap)
    (λ k t p b g. let u : Cancel j x ≡ Open t p = sym h ∙ g in cc)
    (λ i k q t n. let u = f.leases i k q t n in seated_kept w v P e f d.rooms i k q t d.half (subst (λ y. next_of w (number_of k) t ≤ unwrap_or (place_of y (Opened (number_of k) t)) 0) (sym d.nexts) (omega arith)) u (λ c. ⊎_elim
    (λ a. inl (canceled_more P e q a))
    (λ a. ⊎_elim
    (λ z. inl (subst (IsCanceled (P ++ e ∷ [])) (sym z) gone))
    (λ z. inr (d.peaks seat.0 u.0 seat.1 seat.5 f.heap u.5 ∙ other i k q t u.0 n a (⊎_elim (λ l y. omega arith) (λ l y. omega arith) z) (nat_eq u.0 seat.0) refl))
    (places q j))
    c))
    (λ k q t b g. let u : Cancel j x ≡ Lease q t = sym h ∙ g in cc)
    (λ k t z g. shut_kept w v P e f d.rooms k t z (f.shut k t z (ap (λ y. place_of y (Closed (number_of k) t)) (sym d.shuts) ∙ g)))
  where
    may : MayFollow P e.by (Cancel j x)
    may = subst (MayFollow P e.by) h (legal P [] e refl)

    place : (i : ℕ) × NotesAt P i may.0.0 (Lease j may.0.1)
    place = let t = among_at may.0.2.0 P may.0.2.1 in (t.0, (may.0.2.0, t.1, may.0.2.2, may.0.2.3))

    seat : IsSeated w P place.0 may.0.0 j may.0.1
    seat = f.leases place.0 may.0.0 j may.0.1 place.1

    gone : IsCanceled (P ++ e ∷ []) j
    gone = (e.by, (x, (e, among_last P e, refl, h)))

    other : (i : ℕ) (k : StreamNo) (q t y : ℕ) → NotesAt P i k (Lease q t) → peak_at w.peaks y ≡ suc i → q ≢ j → (b : Bool) → nat_eq y seat.0 ≡ b → cond b 0 (peak_at w.peaks y) ≡ suc i
    other i k q t y n a z false g = a
    other i k q t y n a z true g = ⊎_elim
        (λ c. absurd (may.1 c))
        (λ c.
        let r : suc i ≡ suc place.0 = sym a ∙ ap (peak_at w.peaks) (number y seat.0 g) ∙ c in
        let l : i ≡ place.0 = omega arith in
        absurd (z (same_lease P place.0 q j t may.0.1 k may.0.0 (subst (λ m. NotesAt P m k (Lease q t)) l n) place.1).0))
        seat.6

same_closed : (k s l t : ℕ) → same_key (Closed k s) (Closed l t) ≡ true → (k ≡ l) × (s ≡ t)
same_closed k s l t h = let e = same_key_is (Closed k s) (Closed l t) h in ((cc), (cc))

-- a scope is closed
pub seated_shut : (w v : Waits) (P : List Event) (e : Event) (s : ℕ) (y : Exit) → e.what ≡ Close s y → Shuts w v (number_of e.by) s → Seated w P → Seated v (P ++ e ∷ [])
seated_shut w v P e s y h d f = seated_by w v P e f d.rooms (subst IsHeap (sym d.peaks) f.heap)
    (λ k t p b g. let u : Close s y ≡ Open t p = sym h ∙ g in cc)
    (λ i k j t n. let u = f.leases i k j t n in seated_kept w v P e f d.rooms i k j t (ap (λ z. z.half) d.peaks) (subst (λ z. next_of w (number_of k) t ≤ unwrap_or (place_of z (Opened (number_of k) t)) 0) (sym d.nexts) (omega arith)) u (λ c. ⊎_elim (λ a. inl (canceled_more P e j a)) (λ a. inr (ap (λ z. peak_at z u.0) d.peaks ∙ a)) c))
    (λ k j t b g. let u : Close s y ≡ Lease j t = sym h ∙ g in cc)
    (λ k t z g. at k t z (same_key (Closed (number_of e.by) s) (Closed (number_of k) t)) refl (sym (d.shuts (Closed (number_of k) t)) ∙ g))
  where
    at : (k : StreamNo) (t z : ℕ) (c : Bool) → same_key (Closed (number_of e.by) s) (Closed (number_of k) t) ≡ c → cond c (Some (next_of w (number_of e.by) (room_of w.rooms (number_of e.by) s).parent)) (place_of w.shuts (Closed (number_of k) t)) ≡ Some z → IsShutAt v (P ++ e ∷ []) k t z
    at k t z false q g = shut_kept w v P e f d.rooms k t z (f.shut k t z g)
    at k t z true q g =
        let r = same_closed (number_of e.by) s (number_of k) t q in
        let b : e.by ≡ k = number_is e.by k r.0 in
        let is : next_of w (number_of e.by) (room_of w.rooms (number_of e.by) s).parent ≡ z = cc in
        let now : next_of w (number_of k) (room_of w.rooms (number_of k) t).parent ≡ z = subst (λ a. next_of w (number_of k) (room_of w.rooms (number_of k) a).parent ≡ z) r.1 (subst (λ a. next_of w a (room_of w.rooms a s).parent ≡ z) r.0 is) in (
          length P,
          y,
          (e, end_of P, b, h ∙ ap (λ a. Close a y) r.1),
          λ i j x l n o.
              let n' : NotesAt (P ++ e ∷ []) i k (Lease j (room_of w.rooms (number_of k) t).parent) = subst (λ a. NotesAt (P ++ e ∷ []) i k (Lease j (room_of a (number_of k) t).parent)) d.rooms n in
              ⊎_elim
              (λ old.
              let u = f.leases i k j (room_of w.rooms (number_of k) t).parent old in
              let same : Some u.0 ≡ Some x = sym u.1 ∙ subst (λ a. seat_of a j ≡ Some x) d.rooms o in
              let v : u.0 ≡ x = cc in
              (let less = u.4 in omega arith))
              (λ new. absurd (let a = new.0 in omega arith))
              (noted_old P e i k (Lease j (room_of w.rooms (number_of k) t).parent) n'),
        )
      where
        end_of : (P : List Event) → slice_get (P ++ e ∷ []) (length P) ≡ Some e
        end_of [] = refl
        end_of (x ∷ P) = end_of P

module _ (w : Waits) (P : List Event) (f : Seated w P) where
  -- the room of a scope lies in that of one above it
  room_within : (k : StreamNo) {s a : ℕ} → LiesWithin P k s a → ((room_of w.rooms (number_of k) a).from ≤ (room_of w.rooms (number_of k) s).from) × ((room_of w.rooms (number_of k) s).to ≤ (room_of w.rooms (number_of k) a).to)
  room_within k (same s) = ((omega arith), (omega arith))
  room_within k (below s p a n l) =
      let t = f.within k s p n in
      let u = room_within k l in
      ((let b = t.1 in let c = u.0 in omega arith), (let b = t.2 in let c = u.1 in omega arith))

  -- where no lease sits behind a row's place in the rooms that matter, each that covers it is canceled
  pub over_now : IsLegal P → (at r t : ℕ) (q : StreamNo) → NotesAt P at q (Acquire r t) → HasNone w (room_of w.rooms (number_of q) t).from (room_of w.rooms (number_of q) t).to at → HasNone w (room_of w.rooms (number_of q) (room_of w.rooms (number_of q) t).parent).from (until_of w (number_of q) t) at → (j : ℕ) (k : StreamNo) → Covers P j k r → IsCanceled P j
  over_now legal at r t q row inside beside j k v =
      let c = covers_to P j r k v in
      let i = c.0 in
      let s = c.1 in
      let m = covers_mine P legal k q i j s r at t c.2 row c.3 in
      let lease : NotesAt P i q (Lease j s) = subst (λ z. NotesAt P i z (Lease j s)) m.0 c.2 in
      let covers : CoversAt P i q s r = subst (λ z. CoversAt P i z s r) m.0 c.3 in
      let u = f.leases i q j s lease in
      ⊎_elim
      (λ a. a)
      (λ a. ⊎_elim
      (λ l. let d = room_within q l in absurd (let b = inside u.0 f.heap (let y = d.0 in let z = u.2 in omega arith) (let y = d.1 in let z = u.3 in omega arith) u.5 in let g = m.1 in omega arith))
      (λ o.
      let d : (room_of w.rooms (number_of q) t).parent ≡ s = (f.within q t s (place_noted P legal q o.0.0 (Open t s) o.0.1)).0 in
      let from : (room_of w.rooms (number_of q) (room_of w.rooms (number_of q) t).parent).from ≤ u.0 = subst (λ z. (room_of w.rooms (number_of q) z).from ≤ u.0) (sym d) u.2 in
      let next : u.0 < next_of w (number_of q) (room_of w.rooms (number_of q) t).parent = subst (λ z. u.0 < next_of w (number_of q) z) (sym d) u.4 in
      let owed : NotesAt P i q (Lease j (room_of w.rooms (number_of q) t).parent) = subst (λ z. NotesAt P i q (Lease j z)) (sym d) lease in
      absurd (let b = beside u.0 f.heap from (until i j t u.0 q owed u.1 o.1 next (place_of w.shuts (Closed (number_of q) t)) refl) u.5 in let g = m.1 in omega arith))
      (covers_shape P legal q q i j s r at t lease row covers))
      u.6
    where
      until : (i j t x : ℕ) (q : StreamNo) → NotesAt P i q (Lease j (room_of w.rooms (number_of q) t).parent) → seat_of w.rooms j ≡ Some x → IsUnclosedBefore P q t i → x < next_of w (number_of q) (room_of w.rooms (number_of q) t).parent → (o : Option ℕ) → place_of w.shuts (Closed (number_of q) t) ≡ o → x < unwrap_or o (next_of w (number_of q) (room_of w.rooms (number_of q) t).parent)
      until i j t x q n g unshut next None h = next
      until i j t x q n g unshut next (Some z) h =
          let d = f.shut q t z h in
          let l = unshut d.0 d.1 d.2 in
          ⊎_elim
          (λ e.
          let a : Some n.0 ≡ Some d.2.0 = sym n.1 ∙ ap (slice_get P) e ∙ d.2.1 in
          let b : n.0 ≡ d.2.0 = cc in
          let c : Lease j (room_of w.rooms (number_of q) t).parent ≡ Close t d.1 = sym n.3 ∙ ap (λ y. y.what) b ∙ d.2.3 in
          absurd (cc))
          (λ b. ⊎_elim (λ k. d.3 i j x k n g) (λ k. absurd (omega arith)) b)
          (places i d.0)
