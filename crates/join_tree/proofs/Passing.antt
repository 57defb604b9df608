-- How seats go out and come back.
use Rattle.std.proofs.Common.{◌≡◌, ◌≢◌, ℕ, ◌+◌, ◌<◌, ◌≤◌, ◌⊎◌, ◌↔◌, Bool, true, false, not, nat_eq, List, [], ◌∷◌, ◌++◌, length, filter, inl, inr, sym, ap, ◌∙◌, subst, ⊎_elim, arith, eq-eqb, ne_eqb}
use Rattle.std.proofs.lemmas.Bool.{cases_eq}
use Rattle.std.specs.List.{IsDistinct}
use Rattle.chunk_core.specs.declared.code.Exit.{Exit}
use Rattle.chunk_core.specs.declared.code.Exit.TheVariants.{Canceled, Succeeded}
use Rattle.chunk_core.specs.Lists.{IsAmong}
use Rattle.chunk_core.specs.Lists.IsAmong.{here, there}
use Rattle.chunk_core.proofs.Distinct.{distinct_append, distinct_filter, distinct_one}
use Rattle.chunk_core.proofs.Filters.{among_append, among_filter, among_right, filter_among}
use Rattle.chunk_core.proofs.Members.{among_cons, among_last, among_left, among_nil, among_snoc}
use Rattle.res_ledger.specs.declared.event.Event.{Event}
use Rattle.res_ledger.specs.declared.event.StreamNo.TheVariants.{Inner, Outer}
use Rattle.res_ledger.specs.declared.event.What.{What}
use Rattle.res_ledger.specs.declared.event.What.TheVariants.{Cancel, Close, Lease}
use Rattle.res_ledger.specs.Ledger.{IsAcquired, Notes}
use Rattle.res_ledger.specs.Own.{leased_of}
use Rattle.res_ledger.proofs.Ledgers.{inner_is}
use Rattle.row_seat.specs.declared.view.View.{View}
use Rattle.row_seat.specs.Views.{AreApart, CanJoin, CanSplit, IsWithin, joined, name_of, next_stamp, split_main, split_off, without}
use Rattle.row_seat.proofs.Members.{among_kept, among_without}
use Rattle.scope_tree.specs.Calls.{AtStart, KeepsScopes, Seen}
use Rattle.tree_laws.specs.Called.{Called}
use Rattle.tree_laws.specs.Called.Called.{none, split, taken_in}
use Rattle.tree_laws.specs.Visits.{HasNothingOpen, IsNewGuest, Visits}
use Rattle.tree_laws.proofs.Along.{called_after}
use Rattle.tree_laws.proofs.Guests.{guests_rest, splits_make_guests}
use Rattle.tree_laws.proofs.Kept.{events_stay, lent_stays}
use Rattle.tree_families.specs.Families.{Split, split_of}
use Rattle.tree_families.specs.Pace.{IsInPace}
use Rattle.tree_families.proofs.Families.{family_joins, family_splits}
use Rattle.join_tree.specs.Guests.{Guest, IsOut, IsReady}
use Rattle.join_tree.specs.Mains.{IsMain, Waits}
use Rattle.join_tree.specs.Progress.{Follow, Progress, joining, splitting}
use Rattle.join_tree.specs.Notes.{GivesInPace, IsTold}
use Rattle.join_tree.proofs.Giving.{below_next, cancel_below, gives_calm, paced_more}
use Rattle.join_tree.proofs.Growing.{had_older, main_main, not_inner, onward, out_had, root_same, root_stays}
use Rattle.join_tree.proofs.Queue.{follow_length, follow_other, waits_first, waits_less, waits_same}
use Rattle.join_tree.proofs.Telling.{notes_more, told_splits}
use Rattle.join_tree.proofs.Turns.{outs_calm, outs_splits}

-- an earlier split is in pace still
paced_wider : {width : ℕ} (L : List Event) (ms : List Split) (later m : Split) → IsInPace width L Outer ms m → m.stream ≤ later.stream → IsInPace width L Outer (ms ++ later ∷ []) m
paced_wider L ms later m p less = record {
  lease = p.lease;
  next = p.next;
  narrow = p.narrow;
  dealt = λ i l. ⊎_elim (λ q. inl (q.0, among_left (later ∷ []) q.1, q.2)) (λ c. inr c) (p.dealt i l);
  over = λ q i l. ⊎_elim (λ o. p.over q o l) (λ e. absurd (let z : q.stream ≡ later.stream = ap (λ (y : Split). y.stream) e in omega arith)) (among_snoc ms q later i);
}

module _ {P : Type 0} {ends : P → Exit → Bool → P → Type 0} where
  pub visit_by : {j n : ℕ} {T : List ℕ} {y : Seen P} → Visits ends j n T y → y.seat.by ≡ Inner j
  visit_by v = (called_after v.calls).by ∙ v.guest.by

  -- all that the tree of a guest noted is in its own name, and no Lease is among it
  pub visit_own : {j n : ℕ} {T : List ℕ} {y : Seen P} → Visits ends j n T y → (e : Event) → IsAmong e y.seat.events → (e.by ≡ y.seat.by) × ((i s : ℕ) → e.what ≡ Lease i s → ⊥)
  visit_own v e m = ⊎_elim
      (λ o. absurd (among_nil (subst (λ l. IsAmong e l) v.guest.start.events o)))
      (λ o. (o.0, λ i s is. (let z : (i, s) ∷ [] ≡ [] = sym (ap leased_of is) ∙ o.1 in cc)))
      ((called_after v.calls).own v.guest.main e m)

module _ {P : Type 0} {ends : P → Exit → Bool → P → Type 0} {width n : ℕ} where
  -- the seat of the first stream that waits may be split off
  pub main_can_split : (b : Seen P) (p : Progress P) (us : List (ℕ × List ℕ)) (j from to x : ℕ) (T : List ℕ) → IsMain ends width n b p → p.waits ≡ (j, T) ∷ us → ((r : ℕ) → IsWithin from to r → IsAmong r b.seat.empty) → ((r : ℕ) → IsAmong r b.seat.empty → ¬ (IsAcquired b.seat.events r)) → x ≤ b.seat.spare → 1 ≤ b.seat.splits → CanSplit b.seat j from to x
  main_can_split b p us j from to x T h is rows bare spare splits =
      let order : Follow p.next ((j, T) ∷ us) p.leased = subst (λ l. Follow p.next l p.leased) is h.order in
      let leased : j < p.leased = (let q = follow_length p.next ((j, T) ∷ us) p.leased order in let k = order.0 in omega (q, k, arith)) in (
        main_main h,
        not_inner h j,
        (λ m. let l = had_older h j m in let k = order.0 in omega (l, k, arith)),
        (λ r i. (rows r i, bare r (rows r i))),
        spare,
        splits,
        (λ r m. let x = h.told.leases j leased in (Outer, x.0, x.1)),
      )

  -- it is a new guest then
  pub main_makes_guest : (b : Seen P) (p : Progress P) (us : List (ℕ × List ℕ)) (j from to x : ℕ) (T : List ℕ) → IsMain ends width n b p → p.waits ≡ (j, T) ∷ us → AtStart (split_off b.seat j from to x) → IsNewGuest (split_off b.seat j from to x) j (next_stamp b.seat.events) T
  main_makes_guest b p us j from to x T h is start =
      let order : Follow p.next ((j, T) ∷ us) p.leased = subst (λ l. Follow p.next l p.leased) is h.order in
      let waits : Waits b.seat ((j, T) ∷ us) = subst (λ l. Waits b.seat l) is h.waits in
      splits_make_guests P b.seat j from to x T start (waits.keeps j T (here us)) (λ r. ((λ m. waits_first b.seat us p.next p.leased j T order waits r m), (λ m. waits.holds j r T (here us) m)))

  -- it is split off in pace
  split_paced : (b : Seen P) (p : Progress P) (us : List (ℕ × List ℕ)) (j : ℕ) (T : List ℕ) → IsMain ends width n b p → p.waits ≡ (j, T) ∷ us → IsReady width b p → IsInPace width b.seat.events Outer (p.splits ++ split_of b.seat j ∷ []) (split_of b.seat j)
  split_paced b p us j T h is ready =
      let order : Follow p.next ((j, T) ∷ us) p.leased = subst (λ l. Follow p.next l p.leased) is h.order in
      let first : j ≡ p.next = order.0 in
      let size : p.leased ≡ p.next + length ((j, T) ∷ us) = follow_length p.next ((j, T) ∷ us) p.leased order in
      let long : length p.waits ≡ length ((j, T) ∷ us) = ap length is in
      let L = b.seat.events in record {
        lease = (let x = h.told.leases j (omega (size, first, arith)) in (x.0, below_next L Outer (Lease j x.0) x.1));
        next = ⊎_elim
            (λ l. let x = h.told.leases (j + 1) (omega (size, first, long, l, arith)) in inl (x.0, below_next L Outer (Lease (j + 1) x.0) x.1))
            (λ c. inr (below_next L Outer (Close 0 Succeeded) (h.told.root Succeeded c)))
            ready.ahead;
        narrow = ready.narrow;
        dealt = λ i l. ⊎_elim
            (λ q. inl (q.0, among_left (split_of b.seat j ∷ []) q.1, q.2))
            (λ c. inr (Canceled, below_next L Outer (Cancel i Canceled) c))
            (h.told.dealt i (omega (l, first, arith)));
        over = λ m i l. ⊎_elim
            (λ o. ⊎_elim (λ y. inl y) (λ t. inr (cancel_below b m t)) (h.family.met m o))
            (λ e. absurd (let z : m.stream ≡ j = ap (λ (y : Split). y.stream) e in omega (l, z, arith)))
            (among_snoc p.splits m (split_of b.seat j) i);
      }

  -- the seat of the first stream that waits was split off
  pub main_splits : (b c : Seen P) (p : Progress P) (us : List (ℕ × List ℕ)) (j : ℕ) (T : List ℕ) (from to x : ℕ) → IsMain ends width n b p → p.waits ≡ (j, T) ∷ us → IsReady width b p → CanSplit b.seat j from to x → c ≡ record b { seat = split_main b.seat j from to x } → IsMain ends width n c (splitting p b.seat j us)
  main_splits b c p us j T from to x h is ready can made =
      let v = b.seat in
      let m = split_of v j in
      let call : Called ends b [] c = split b c j from to x none can made in
      let seat : c.seat ≡ split_main v j from to x = ap (λ y. y.seat) made in
      let events : c.seat.events ≡ v.events = ap (λ u. u.events) seat in
      let kept : c.seat.kept ≡ without j v.kept = ap (λ u. u.kept) seat in
      let pairs : c.seat.pairs ≡ filter (λ y. not (nat_eq y.0 j)) v.pairs = ap (λ u. u.pairs) seat in
      let out : c.seat.out ≡ v.out ++ j ∷ [] = ap (λ u. u.out) seat in
      let order : Follow p.next ((j, T) ∷ us) p.leased = subst (λ l. Follow p.next l p.leased) is h.order in
      let first : j ≡ p.next = order.0 in
      let waits : Waits v ((j, T) ∷ us) = subst (λ l. Waits v l) is h.waits in
      let among : (i : ℕ) (U : List ℕ) → IsAmong (i, U) us → IsAmong (i, U) p.waits = λ i U a. subst (λ l. IsAmong (i, U) l) (sym is) (there (j, T) a) in
      let fresh : ¬ (IsAmong j v.out) = λ a. (let l = had_older h j (out_had h j a) in omega (l, first, arith)) in
      record {
        family = onward h.family (family_splits b c p.splits j from to x h.family can made) call (λ i U a. absurd (among_nil a));
        shelf = h.shelf;
        room = h.room;
        by = (called_after call).by ∙ h.by;
        apart = subst (IsDistinct nat_eq) (sym out) (distinct_append v.out (j ∷ []) h.apart (distinct_one j) (λ i a z. ⊎_elim (λ e. fresh (subst (λ k. IsAmong k v.out) e a)) (λ o. among_nil o) (among_cons z)));
        order = order.1;
        few = h.few;
        waits = waits_less v c.seat us j T
            (λ i a. among_without j v.kept i (subst (λ l. IsAmong i l) kept a))
            (λ i a ne. subst (λ l. IsAmong i l) (sym kept) (among_kept j v.kept i a ne))
            (λ i r a.
            let f = among_filter (λ (y : ℕ × ℕ). not (nat_eq y.0 j)) (i, r) v.pairs (subst (λ l. IsAmong (i, r) l) pairs a) in
            (f.0, λ z. let q : false ≡ true = sym (ap not (eq-eqb i j z.0)) ∙ f.1 in cc))
            (λ i r a ne. subst (λ l. IsAmong (i, r) l) (sym pairs) (filter_among (λ (y : ℕ × ℕ). not (nat_eq y.0 j)) (i, r) v.pairs a (ap not (ne_eqb i j ne))))
            (λ i U a. follow_other p.next us p.leased j i T U order a)
            waits;
        lent = λ i U a. lent_stays call (h.lent i U (among i U a));
        older = λ q i. ⊎_elim
            (λ o. let l = h.older q o in omega (l, arith))
            (λ e. let z : q.stream ≡ j = ap (λ (y : Split). y.stream) e in omega (z, first, arith))
            (among_snoc p.splits q m i);
        paced = λ q i. paced_more (λ e a. subst (λ l. IsAmong e l) (sym events) a) (⊎_elim
            (λ o. paced_wider v.events p.splits m q (h.paced q o) (let l = h.older q o in omega (l, first, arith)))
            (λ e. subst (λ z. IsInPace width v.events Outer (p.splits ++ m ∷ []) z) (sym e) (split_paced b p us j T h is ready))
            (among_snoc p.splits q m i));
        root = root_same b c p.root (ap (λ u. u.by) seat) events h.root;
        told = subst (λ L. IsTold (splitting p v j us) L) (sym events) (told_splits p v.events m us h.told first);
        gives = subst (λ L. GivesInPace width L) (sym events) h.gives;
        outs = outs_splits v c.seat j h.outs out events;
        met = λ q i. ⊎_elim
            (λ o. ⊎_elim (λ a. inl (subst (λ l. IsAmong q.stream l) (sym out) (among_left (j ∷ []) a))) (λ y. inr y) (h.met q o))
            (λ e. inl (subst (λ l. IsAmong q.stream l) (sym out) (subst (λ k. IsAmong k (v.out ++ j ∷ [])) (sym (ap (λ (y : Split). y.stream) e)) (among_last v.out j))))
            (among_snoc p.splits q m i);
        home = λ y i a e o. ⊎_elim
            (λ s. h.home y i a e s)
            (λ s.
            let t = h.told.back y a in
            let k = inner_is t.0 i (sym t.1 ∙ e) in
            let l = h.older t.2.0 t.2.1 in let z = t.2.2 in omega (k, l, z, s, first, arith))
            (among_snoc v.out i j (subst (λ l. IsAmong i l) out o));
      }

  -- what the events tell once those of y are among them
  told_joins : (b y : Seen P) (p : Progress P) (g : Guest) (M : List Event) → IsMain ends width n b p → IsOut b p.splits g → AreApart b.seat y.seat → M ≡ b.seat.events ++ y.seat.events → Visits ends g.stream g.floor g.rows y → IsTold (joining p y) M
  told_joins b y p g M h o apart made visit =
      let v = b.seat in
      let by : y.seat.by ≡ Inner g.stream = visit_by visit in
      let t = h.told in
      let more : (e : Event) → IsAmong e v.events → IsAmong e M = λ e m. subst (λ l. IsAmong e l) (sym made) (among_left y.seat.events m) in
      let cases : (e : Event) → IsAmong e M → IsAmong e v.events ⊎ IsAmong e y.seat.events = λ e m. among_append e v.events y.seat.events (subst (λ l. IsAmong e l) made m) in
      let not_outer : (e : Event) → IsAmong e y.seat.events → e.by ≡ Outer → ⊥ = λ e m k. (let z : Outer ≡ Inner g.stream = sym k ∙ ((visit_own visit e m).0 ∙ by) in cc) in
      let only : (w : What) → Notes M Outer w → Notes v.events Outer w = λ w x. ⊎_elim (λ i. (x.0, i, x.2, x.3)) (λ i. absurd (not_outer x.0 i x.2)) (cases x.0 x.1) in
      record {
        outer = λ w x. t.outer w (only w x);
        lessor = λ k j s x. ⊎_elim (λ i. t.lessor k j s (x.0, i, x.2, x.3)) (λ i. absurd ((visit_own visit x.0 i).1 j s x.3)) (cases x.0 x.1);
        acquired = λ r m. notes_more more (t.acquired r m);
        leases = λ j l. let x = t.leases j l in (x.0, notes_more more x.1);
        root = λ x e. notes_more more (t.root x e);
        dealt = λ j l. ⊎_elim (λ i. inl i) (λ x. inr (notes_more more x)) (t.dealt j l);
        skipped = λ j x m i. t.skipped j x (only (Cancel j x) m) i;
        whose = λ e m. ⊎_elim
            (λ i. ⊎_elim (λ k. inl k) (λ z. inr (z.0, among_left {x = z.0} (y ∷ []) z.1, z.2)) (t.whose e i))
            (λ i. inr (y, among_last p.back y, (visit_own visit e i).0))
            (cases e m);
        own = λ z i e k. ⊎_elim
            (λ a. (
              (λ m. ⊎_elim
                  (λ q. (t.own z a e k).0 q)
                  (λ q. absurd (let s = t.back z a in h.home z g.stream a (sym k ∙ ((visit_own visit e q).0 ∙ by)) o.out))
                  (cases e m)),
              (λ m. more e ((t.own z a e k).1 m)),
            ))
            (λ a. subst (λ (w : Seen P). IsAmong e M ↔ IsAmong e w.seat.events) (sym a) (
              (λ m. ⊎_elim (λ q. absurd (apart.mine e q (k ∙ ap (λ (w : Seen P). w.seat.by) a))) (λ q. q) (cases e m)),
              (λ m. subst (λ l. IsAmong e l) (sym made) (among_right e v.events y.seat.events m)),
            ))
            (among_snoc p.back z y i);
        back = λ z i. ⊎_elim
            (λ a. t.back z a)
            (λ a. (g.stream, ap (λ (w : Seen P). w.seat.by) a ∙ by, h.family.listed g.stream (out_had h g.stream o.out)))
            (among_snoc p.back z y i);
      }

  -- the seat of a guest was taken in
  pub main_joins : (b c y : Seen P) (p : Progress P) (g : Guest) → IsMain ends width n b p → IsOut b p.splits g → CanJoin b.seat y.seat → AreApart b.seat y.seat → c ≡ record b { seat = joined b.seat y.seat } → KeepsScopes b c → Visits ends g.stream g.floor g.rows y → IsMain ends width n c (joining p y)
  main_joins b c y p g h o can apart made keeps visit =
      let v = b.seat in
      let by : y.seat.by ≡ Inner g.stream = visit_by visit in
      let name : name_of y.seat.by ≡ g.stream = ap name_of by in
      let call : Called ends b [] c = taken_in b c y.seat none can apart made in
      let seat : c.seat ≡ joined v y.seat = ap (λ z. z.seat) made in
      let out : c.seat.out ≡ without (name_of y.seat.by) v.out = ap (λ u. u.out) seat in
      let cases : (e : Event) → IsAmong e c.seat.events → IsAmong e v.events ⊎ IsAmong e y.seat.events = λ e m. among_append e v.events y.seat.events (subst (λ l. IsAmong e l) (ap (λ u. u.events) seat) m) in
      let fewer : (i : ℕ) → IsAmong i c.seat.out → IsAmong i v.out × (i ≢ name_of y.seat.by) = λ i m. among_without (name_of y.seat.by) v.out i (subst (λ l. IsAmong i l) out m) in
      record {
        family = onward h.family (family_joins b c y p.splits g.stream g.rows h.family can apart made (λ m i e. subst (λ z. Visits ends g.stream z g.rows y) (sym (o.floor m i e)) visit) by o.lent) call (λ i U a. absurd (among_nil a));
        shelf = h.shelf;
        room = h.room;
        by = (called_after call).by ∙ h.by;
        apart = subst (IsDistinct nat_eq) (sym out) (distinct_filter (λ z. not (nat_eq z (name_of y.seat.by))) v.out h.apart);
        order = h.order;
        few = h.few;
        waits = waits_same v c.seat p.waits (ap (λ u. u.kept) seat) (ap (λ u. u.pairs) seat) h.waits;
        lent = λ j T m. lent_stays call (h.lent j T m);
        older = h.older;
        paced = λ m i. paced_more (events_stay call) (h.paced m i);
        root = root_stays b c p.root keeps h.root;
        told = told_joins b y p g c.seat.events h o apart (ap (λ u. u.events) seat) visit;
        gives = gives_calm v.events c.seat.events h.gives (events_stay call)
            (λ e j s m w. ⊎_elim (λ i. i) (λ i. absurd ((visit_own visit e i).1 j s w)) (cases e m))
            (λ e r s m k w. ⊎_elim (λ i. i) (λ i. absurd (let z : Outer ≡ Inner g.stream = sym k ∙ ((visit_own visit e i).0 ∙ by) in cc)) (cases e m));
        outs = outs_calm v c.seat h.outs (λ i m. (fewer i m).0) (events_stay call)
            (λ e j s m w. ⊎_elim (λ i. i) (λ i. absurd ((visit_own visit e i).1 j s w)) (cases e m))
            (λ e x m k w. ⊎_elim (λ i. i) (λ i. absurd (let z : Outer ≡ Inner g.stream = sym k ∙ ((visit_own visit e i).0 ∙ by) in cc)) (cases e m));
        met = λ m i. ⊎_elim
            (λ a. ⊎_elim
            (λ e. inr (y, among_last p.back y, by ∙ ap Inner (sym e)))
            (λ ne. inl (subst (λ l. IsAmong m.stream l) (sym out) (among_kept (name_of y.seat.by) v.out m.stream a (λ e. ne (e ∙ name)))))
            (cases_eq m.stream g.stream))
            (λ z. inr (z.0, among_left (y ∷ []) z.1, z.2))
            (h.met m i);
        home = λ z i a e m. ⊎_elim
            (λ q. h.home z i q e (fewer i m).0)
            (λ q. (fewer i m).1 (inner_is i g.stream (sym e ∙ (ap (λ (w : Seen P). w.seat.by) q ∙ by)) ∙ sym name))
            (among_snoc p.back z y a);
      }

  -- a guest that is out, and did all, may be taken in
  pub main_can_join : (b y : Seen P) (p : Progress P) (g : Guest) → IsMain ends width n b p → IsOut b p.splits g → Visits ends g.stream g.floor g.rows y → HasNothingOpen y.seat → CanJoin b.seat y.seat
  main_can_join b y p g h o visit rest = (main_main h, (g.stream, visit_by visit, o.out), guests_rest g.stream g.floor g.rows y visit rest)

  -- the same of a seat that is as the guest's tree stood last
  pub can_take_in : (b y : Seen P) (v : View P) (p : Progress P) (g : Guest) → IsMain ends width n b p → IsOut b p.splits g → Visits ends g.stream g.floor g.rows y → v ≡ y.seat → HasNothingOpen v → CanJoin b.seat v
  can_take_in b y v p g h o visit is rest = subst (λ u. CanJoin b.seat u) (sym is) (main_can_join b y p g h o visit (subst HasNothingOpen is rest))

  pub main_takes_in : (b c y : Seen P) (v : View P) (p : Progress P) (g : Guest) → IsMain ends width n b p → IsOut b p.splits g → CanJoin b.seat v → AreApart b.seat v → c ≡ record b { seat = joined b.seat v } → KeepsScopes b c → Visits ends g.stream g.floor g.rows y → v ≡ y.seat → IsMain ends width n c (joining p y)
  main_takes_in b c y v p g h o can apart made keeps visit is = main_joins b c y p g h o (subst (λ u. CanJoin b.seat u) is can) (subst (λ u. AreApart b.seat u) is apart) (subst (λ u. c ≡ record b { seat = joined b.seat u }) is made) keeps visit

  -- the seat that was made is that of a new guest
  pub main_makes_seat : (b : Seen P) (v : View P) (p : Progress P) (us : List (ℕ × List ℕ)) (j from to x : ℕ) (T : List ℕ) → IsMain ends width n b p → p.waits ≡ (j, T) ∷ us → v ≡ split_off b.seat j from to x → AtStart v → IsNewGuest v j (next_stamp b.seat.events) T
  main_makes_seat b v p us j from to x T h is made start = subst (λ u. IsNewGuest u j (next_stamp b.seat.events) T) (sym made) (main_makes_guest b p us j from to x T h is (subst AtStart made start))
