-- What a site is after a device was opened and its place acquired.
use Rattle.std.proofs.Common.{◌≡◌, ◌≢◌, Bool, ℕ, ◌+◌, ◌≤◌, true, List, [], ◌∷◌, ◌++◌, length, Option, Some, None, inl, inr, refl, sym, ap, ◌∙◌, subst, ⊎_elim, arith, length-append}
use Rattle.std.proofs.lemmas.Bool.{cases_eq}
use Rattle.chunk_core.specs.declared.code.Exit.{Exit}
use Rattle.chunk_core.specs.Lists.{IsAmong}
use Rattle.chunk_core.specs.Lists.IsAmong.{here, there}
use Rattle.chunk_core.proofs.Members.{among_cons, among_nil, among_last, among_left, among_snoc}
use Rattle.device_port.specs.Device.{DeviceTold}
use Rattle.pull_turns.specs.Around.{AcquiresDevice, KeepsBut, gist}
use Rattle.res_ledger.specs.declared.event.Event.{Event}
use Rattle.res_ledger.specs.declared.event.What.TheVariants.{Close, Open}
use Rattle.res_ledger.specs.Ledger.{Covers, LiesWithin}
use Rattle.res_ledger.specs.Order.{firsts}
use Rattle.res_ledger.specs.Own.{opens, rows}
use Rattle.res_ledger.proofs.Apart.{apart}
use Rattle.res_ledger.proofs.Growth.{noted_more, noted_snoc}
use Rattle.res_ledger.proofs.Ledgers.{covers_acquired, covers_snoc}
use Rattle.row_seat.specs.Views.{HasRow, noted, placed}
use Rattle.row_seat.proofs.Members.{among_kept}
use Rattle.scope_tree.specs.declared.branch.Branch.{Branch}
use Rattle.scope_tree.specs.declared.branch.AcquiredRow.{AcquiredRow}
use Rattle.scope_tree.specs.Calls.{AcquiresRow as Acquired, IsOpenScope, Seen, used}
use Rattle.scope_tree.specs.Kept.{Kept}
use Rattle.scope_tree.specs.Released.{said}
use Rattle.scope_tree.specs.Trace.{acquiring, numbers, own_rows, owed, trace}
use Rattle.scope_tree.proofs.Distinct.{strangers_less}
use Rattle.scope_tree.proofs.Grows.{acquired_opens, acquired_rows, acquired_scopes}
use Rattle.scope_tree.proofs.Grown.{within_opens}
use Rattle.scope_tree.proofs.Rooms.{open_taken}
use Rattle.scope_tree.proofs.Use.{seen_is}
use Rattle.tree_laws.specs.Called.Called.{none, acquired}
use Rattle.tree_laws.proofs.Alone.{alone_acquires}
use Rattle.pull_stepper.specs.Sites.{InOrder, SameDevice, Since, Site, around, pay_of, pays, slot, told_at, told_by, told_or}
use Rattle.pull_stepper.proofs.Ending.{pay_snoc}
use Rattle.pull_stepper.proofs.Opening.{none_still, refilled, slot_now, slot_still, slots_length, some_not}
use Rattle.pull_stepper.proofs.Payloads.{pay_back, pay_here, pay_left, pay_right}
use Rattle.pull_stepper.proofs.Tellings.{same_device}

numbers_more : (xs : List (ℕ × ℕ)) (y : ℕ × ℕ) (r : ℕ) → IsAmong r (numbers xs) → IsAmong r (numbers (xs ++ y ∷ []))
numbers_more [] y r i = absurd (among_nil i)
numbers_more (x ∷ xs) y r i = ⊎_elim (λ e. subst (λ z. IsAmong z (numbers (x ∷ (xs ++ y ∷ [])))) (sym e) (here (numbers (xs ++ y ∷ [])))) (λ m. there x.0 (numbers_more xs y r m)) (among_cons i)

module _ {V : Type 0} (told : V → DeviceTold) (x : Site V) (s p n : ℕ) (d e : V) (bs : List Branch) (hs : List AcquiredRow) (k : Kept x.tree.seat bs hs) (is : slot x p ≡ Some (Some d)) (order : InOrder told x) (u : IsOpenScope x.tree s) (open' : told e ≡ record (told d) { is_open = true; opens = 1 }) (free : owed x.tree.seat + 2 ≤ x.tree.seat.spare) where
  -- the tree with the row
  abbrev after : Seen V
  after = record x.tree { seat = placed (noted x.tree.seat (acquiring x.tree.seat p s n)) p e }

  abbrev site' : Site V
  site' = record x { tree = after; slots = refilled x p d is None }

  empty : IsAmong p x.tree.seat.empty
  empty = (order.waits p d is).0

  -- the row wasn't open
  closed : ¬ (HasRow x.tree.seat.opened p)
  closed h = open_taken x.tree.seat bs hs k p h empty

  now_none : slot site' p ≡ Some None
  now_none = slot_now x p d is None

  pay_now : pay_of after p ≡ Some e
  pay_now =
      let o = x.tree.seat.opened in
      pay_left p e (o ++ (p, e) ∷ []) (pays x.tree.shelf) (pay_right p o ((p, e) ∷ []) closed ∙ pay_here p (p, e) [] refl)

  told_now : told_at told site' p ≡ record (told_at told x p) { is_open = true; opens = 1 }
  told_now =
      ap (λ o. told_by told o (pay_of after p)) now_none ∙ ap (told_or told) pay_now ∙ open'
      ∙ sym (ap (λ o. record (told_by told o (pay_of x.tree p)) { is_open = true; opens = 1 }) is)

  told_other : (q : ℕ) → q ≢ p → told_at told site' q ≡ told_at told x q
  told_other q ne =
      ap (λ o. told_by told o (pay_of after q)) (slot_still x p d is None q ne)
      ∙ ap (told_by told (slot x q)) (pay_back q (x.tree.seat.opened ++ (p, e) ∷ []) x.tree.seat.opened (pays x.tree.shelf) (pay_snoc q x.tree.seat.opened (p, e) (λ i. ne (sym i))))

  rows_now : rows (trace after.seat) ≡ rows (trace x.tree.seat) ++ (p, s) ∷ []
  rows_now = acquired_rows x.tree.seat bs hs p s n e k u empty free

  holds_still : (q i : ℕ) → (around told x).holds q i → (around told site').holds q i
  holds_still q i h = (subst (λ l. IsAmong (q, i) l) (sym rows_now) (among_left ((p, s) ∷ []) h.0), (h.1.0, among_left ((p, e) ∷ []) h.1.1))

  -- no scope was opened
  was_within : {i j : ℕ} → LiesWithin after.seat.events x.tree.seat.by i j → LiesWithin x.tree.seat.events x.tree.seat.by i j
  was_within w =
      let v = x.tree.seat in let a : Event = acquiring v p s n in
      within_opens (λ f g m. ⊎_elim (λ z. z) (λ z. absurd (apart z.1 refl)) (noted_snoc v.events a v.by (Open f g) m)) w

  opened_still : (i : ℕ) → IsOpenScope x.tree i → IsOpenScope after i
  opened_still i o =
      let v = x.tree.seat in let a : Event = acquiring v p s n in (
        ⊎_elim (λ z. inl z) (λ z. inr (z.0, noted_more v.events a z.1)) o.0,
        λ c. o.1 (
          c.0,
          was_within c.1,
          (c.2.0, ⊎_elim (λ z. z) (λ z. absurd (apart z.1 refl)) (noted_snoc v.events a v.by (Close c.0 c.2.0) c.2.1)),
        ),
      )

  keeps : KeepsBut (around told x) p (around told site')
  keeps = record {
    told = λ q ne. ap gist (told_other q ne);
    waits = λ q ne w. (w.0, slot_still x p d is None q ne ∙ w.1, w.2);
    holds = λ q j ne i h. holds_still q j h;
    stays = λ j i. record { opened = opened_still j i.0; within = λ c. (was_within, within_opens (λ f g m. noted_more x.tree.seat.events (acquiring x.tree.seat p s n) m)) };
  }

  used_now : used after ≤ used x.tree + 1
  used_now =
      let F = firsts (said x.tree.shelf) in let own = own_rows x.tree.seat in
      let l : length (rows (trace after.seat)) ≡ length (rows (trace x.tree.seat)) + 1 = ap length rows_now ∙ length-append (rows (trace x.tree.seat)) ((p, s) ∷ []) in
      let m = strangers_less own (own_rows after.seat) F (λ r i. subst (λ l. IsAmong r (numbers l)) (sym rows_now) (numbers_more (rows (trace x.tree.seat)) (p, s) r i)) in
      omega (l, m, arith)

  acquires : AcquiresDevice (around told x) s p (around told site')
  acquires =
      let os : length (opens (trace after.seat)) ≡ length (opens (trace x.tree.seat)) = ap length (acquired_opens x.tree.seat bs hs p s n e k u empty free) in
      let sc = acquired_scopes x.tree.seat bs hs p s n e k u empty free in let l = length-append x.tree.seat.opened ((p, e) ∷ []) in let us = used_now in record {
        told = told_now;
        keeps = keeps;
        holds = holds_still;
        held = (subst (λ l. IsAmong (p, s) l) (sym rows_now) (among_last (rows (trace x.tree.seat)) (p, s)), (e, among_last x.tree.seat.opened (p, e)));
        events = omega (sc, l, free, arith);
        scopes = omega (os, arith);
        rows = omega (us, arith);
      }

  bare_now : (j r : ℕ) → HasRow after.seat.opened r → ¬ (Covers after.seat.events j after.seat.by r)
  bare_now j r h c =
      let v = x.tree.seat in let a : Event = acquiring v p s n in
      let old : Covers v.events j v.by r = ⊎_elim (λ o. o) (λ o. absurd (apart o.2 refl)) (covers_snoc v.events a j r v.by c) in
      ⊎_elim
      (λ m. order.bare j r (h.0, m) old)
      (λ m. let t = covers_acquired v.events j r v.by old in k.rests.empty r (subst (λ z. IsAmong z v.empty) (sym (ap (λ y. y.0) m)) empty) (v.by, t.0, t.1))
      (among_snoc v.opened (r, h.0) (p, e) h.1)

  acquired_order : InOrder told site'
  acquired_order = record {
    places = λ r h. ⊎_elim
        (λ m. none_still x p d is None r (order.places r (h.0, m)))
        (λ m. subst (λ q. slot site' q ≡ Some None) (sym (ap (λ y. y.0) m)) now_none)
        (among_snoc x.tree.seat.opened (r, h.0) (p, e) h.1);
    opened = λ r f m. ⊎_elim
        (λ o. order.opened r f o)
        (λ o. let i : f ≡ e = ap (λ y. y.1) o in ap (λ z. (told z).is_open) i ∙ ap (λ t. t.is_open) open')
        (among_snoc x.tree.seat.opened (r, f) (p, e) m);
    bare = bare_now;
    waits = λ q f h. ⊎_elim
        (λ i. absurd (some_not f (slot site' p) now_none (subst (λ z. slot site' z ≡ Some (Some f)) i h)))
        (λ ne. let w = order.waits q f (sym (slot_still x p d is None q ne) ∙ h) in (among_kept p x.tree.seat.empty q w.0 ne, w.1))
        (cases_eq q p);
    gone = λ q h. ⊎_elim
        (λ j. inl (e, subst (λ z. IsAmong (z, e) after.seat.opened) (sym j) (among_last x.tree.seat.opened (p, e))))
        (λ ne. ⊎_elim (λ o. inl (o.0, among_left ((p, e) ∷ []) o.1)) (λ o. inr o) (order.gone q (sym (slot_still x p d is None q ne) ∙ h)))
        (cases_eq q p);
  }

-- the device was opened, and its row acquired in an open scope
module _ {V : Type 0} (told : V → DeviceTold) (ends : V → Exit → Bool → V → Type 0) (x : Site V) (b : Seen V) (s p : ℕ) (d e : V) (bs : List Branch) (hs : List AcquiredRow) (k : Kept x.tree.seat bs hs) (is : slot x p ≡ Some (Some d)) (order : InOrder told x) (u : IsOpenScope x.tree s) (open' : told e ≡ record (told d) { is_open = true; opens = 1 }) (free : owed x.tree.seat + 2 ≤ x.tree.seat.spare) (o : Acquired x.tree s p e b) where
  is_after : b ≡ after told x s p o.stamp d e bs hs k is order u open' free
  is_after = seen_is x.tree b _ o.seat o.shelf o.scopes o.rows

  abbrev pub acquired_site : Site V
  acquired_site = record x { tree = b; slots = refilled x p d is None }

  pub acquire_order : InOrder told acquired_site
  acquire_order = subst (λ t. InOrder told (record x { tree = t; slots = refilled x p d is None })) (sym is_after) (acquired_order told x s p o.stamp d e bs hs k is order u open' free)

  pub acquire_acquires : AcquiresDevice (around told x) s p (around told acquired_site)
  acquire_acquires = subst (λ t. AcquiresDevice (around told x) s p (around told (record x { tree = t; slots = refilled x p d is None }))) (sym is_after) (acquires told x s p o.stamp d e bs hs k is order u open' free)

  same : (q : ℕ) → SameDevice (told_at told x q) (told_at told (site' told x s p o.stamp d e bs hs k is order u open' free) q)
  same q = ⊎_elim
      (λ i. subst (λ z. SameDevice (told_at told x z) (told_at told (site' told x s p o.stamp d e bs hs k is order u open' free) z)) (sym i) (subst (λ t. SameDevice (told_at told x p) t) (sym (told_now told x s p o.stamp d e bs hs k is order u open' free)) (record { number = refl; place = refl; present = refl; content = refl })))
      (λ n. subst (λ t. SameDevice (told_at told x q) t) (sym (told_other told x s p o.stamp d e bs hs k is order u open' free q n)) (same_device (told_at told x q)))
      (cases_eq q p)

  pub acquire_since : Since told ends x acquired_site
  acquire_since = record {
    calls = acquired x.tree b s p e none (record { scope = u; row = (order.waits p d is).0 }) o;
    alone = alone_acquires o;
    shelf = λ y m. inl (subst (λ l. IsAmong y l) o.shelf m);
    from = refl;
    places = slots_length x p d is None;
    same = λ q. subst (λ t. SameDevice (told_at told x q) (told_at told (record x { tree = t; slots = refilled x p d is None }) q)) (sym is_after) (same q);
    taken = λ q h. none_still x p d is None q h;
  }

  -- the same, by slots that are those
  module _ (l : List (Option V)) (emptied : l ≡ refilled x p d is None) where
    abbrev pub now_site : Site V
    now_site = record x { tree = b; slots = l }

    pub now_acquires : AcquiresDevice (around told x) s p (around told now_site)
    now_acquires = subst (λ m. AcquiresDevice (around told x) s p (around told (record x { tree = b; slots = m }))) (sym emptied) acquire_acquires

    pub now_order : InOrder told now_site
    now_order = subst (λ m. InOrder told (record x { tree = b; slots = m })) (sym emptied) acquire_order

    pub now_since : Since told ends x now_site
    now_since = subst (λ m. Since told ends x (record x { tree = b; slots = m })) (sym emptied) acquire_since
