-- What a site is after a scope was closed.
use Rattle.std.proofs.Common.{◌≡◌, ℕ, ◌+◌, ◌<◌, List, [], ◌++◌, length, true, None, inl, inr, refl, sym, ap, ◌∙◌, subst, ⊎_elim, arith, add-zero, append-nil}
use Rattle.chunk_core.specs.declared.code.Exit.{Exit}
use Rattle.chunk_core.specs.Lists.{IsAmong}
use Rattle.chunk_core.proofs.Members.{among_left}
use Rattle.chunk_core.proofs.Filters.{among_append, among_right}
use Rattle.device_port.specs.Device.{DeviceTold}
use Rattle.pull_turns.specs.Around.{Affords, IsClosedWith, Keeps, LeavesScope, gist}
use Rattle.res_ledger.specs.Ledger.{IsClosed, LiesWithin}
use Rattle.res_ledger.specs.Order.{firsts}
use Rattle.res_ledger.specs.Own.{rows}
use Rattle.res_ledger.proofs.Apart.{apart}
use Rattle.res_ledger.proofs.Noted.{notes_opens, opens_notes}
use Rattle.row_seat.specs.Views.{HasRow}
use Rattle.scope_tree.specs.declared.branch.Branch.{Branch}
use Rattle.scope_tree.specs.declared.branch.AcquiredRow.{AcquiredRow}
use Rattle.scope_tree.specs.Calls.{ClosesScope, IsOpenScope, Seen, used}
use Rattle.scope_tree.specs.Kept.{Kept, Shelved}
use Rattle.scope_tree.specs.Kids.{whole}
use Rattle.scope_tree.specs.Released.{Released, said}
use Rattle.scope_tree.specs.Released.Holder.{owner}
use Rattle.scope_tree.specs.Rows.{strangers}
use Rattle.scope_tree.specs.Trace.{closing, numbers, own_rows, shutting, trace}
use Rattle.scope_tree.proofs.Beneath.{not_true', under_within, usable_scope, whole_is, whole_under}
use Rattle.scope_tree.proofs.Distinct.{firsts_append, picks_among, said_append, strangers_append}
use Rattle.scope_tree.proofs.Follows.{same_empty}
use Rattle.scope_tree.proofs.Grown.{grown_closed, grown_noted, within_opens}
use Rattle.scope_tree.proofs.Keeps.{close_grown, close_less, old_close, old_within, opens_same, rows_same, under_root, within_trans}
use Rattle.scope_tree.proofs.Owning.{owner_count, owner_has, owner_pays}
use Rattle.scope_tree.proofs.Parts.{one_scope, row_of_pair}
use Rattle.scope_tree.proofs.Releasing.{released_most, released_picks, released_spare}
use Rattle.scope_tree.proofs.Rooms.{own_is, strangers_none}
use Rattle.scope_tree.proofs.Use.{close_follows, closed_now}
use Rattle.tree_laws.proofs.Alone.{calls_alone}
use Rattle.tree_laws.specs.Laws.{CallsStayAlone}
use Rattle.tree_laws.specs.Called.Called.{none, closed}
use Rattle.pull_stepper.specs.Held.{FinishesDevice}
use Rattle.pull_stepper.specs.Sites.{InOrder, Since, Site, around, pay_in, pay_of, pays, slot, told_at, told_or}
use Rattle.pull_stepper.proofs.Closing.{close_noted, closed_as, known_close}
use Rattle.pull_stepper.proofs.Ending.{HasOpen, IsBare, bare_noted, ended_bare, ended_device, ended_told, open_or_ended}
use Rattle.pull_stepper.proofs.Payloads.{pays_row}
use Rattle.pull_stepper.proofs.Slots.{slot_place}
use Rattle.pull_stepper.proofs.Standing.{open_row, row_scope}
use Rattle.pull_stepper.proofs.Tellings.{IsSameOrShut, same_gist, shut_exit, shut_gist, told_shut}

module _ {V : Type 0} (told : V → DeviceTold) (once : (d : V) → (told d).is_open ≡ true → ((told d).opens ≡ 1) × ((told d).closes ≡ 0) × ((told d).close_faults ≡ 0)) (x : Site V) (b : Seen V) (s : ℕ) (e : Exit) (bs : List Branch) (hs : List AcquiredRow) (k : Kept x.tree.seat bs hs) (shelved : Shelved x.tree.seat hs x.tree.shelf) (order : InOrder told x) (u : IsOpenScope x.tree s) (c : ClosesScope (FinishesDevice told) x.tree s e b) where
  shut_bare : IsBare (shutting x.tree.seat s e c.stamp)
  shut_bare = bare_noted x.tree.seat (shutting x.tree.seat s e c.stamp) (closing x.tree.seat s e c.stamp) (λ j t i. apart i refl) refl refl (λ r h. h) order.bare

  shut_open : HasOpen told (shutting x.tree.seat s e c.stamp)
  shut_open r d m = order.opened r d m

  -- the scope's number is one that the tree keeps
  kept_scope : s < length bs
  kept_scope = usable_scope x.tree.seat bs hs k s u

  closed_whole : Released (FinishesDevice told) e owner (whole bs hs s) (shutting x.tree.seat s e c.stamp) c.torn.0 b.seat
  closed_whole = subst (λ T. Released (FinishesDevice told) e owner T (shutting x.tree.seat s e c.stamp) c.torn.0 b.seat) (sym (whole_is x.tree.seat bs hs k s kept_scope)) c.torn.2

  was_in : (y : ℕ × V) → IsAmong y b.seat.opened → IsAmong y x.tree.seat.opened
  was_in y m = (close_follows c).opened y m

  -- a row that ended isn't open
  not_ended : (r : ℕ) → HasRow x.tree.seat.opened r → ¬ (HasRow (pays x.tree.shelf) r)
  not_ended r h i = shelved.opened r h (pays_row x.tree.shelf r i)

  pub left_order : InOrder told (record x { tree = b })
  left_order = record {
    places = λ r h. order.places r (h.0, was_in (r, h.0) h.1);
    opened = λ r d m. order.opened r d (was_in (r, d) m);
    bare = ended_bare told once e c.torn.2 shut_bare;
    waits = λ p d i. let w = order.waits p d i in (subst (λ l. IsAmong p l) (sym (same_empty (close_follows c))) w.0, w.1);
    gone = λ p i. ⊎_elim
        (λ o. ⊎_elim
        (λ h. inl h)
        (λ y. inr (y.0, subst (λ l. IsAmong y.0 l) (sym c.torn.1) (among_right y.0 x.tree.shelf c.torn.0 y.1), y.2, ended_device told once e y.0 c.torn.2 shut_open y.1))
        (open_or_ended told once e p c.torn.2 shut_bare o))
        (λ y. inr (y.0, subst (λ l. IsAmong y.0 l) (sym c.torn.1) (among_left c.torn.0 y.1), y.2, y.3))
        (order.gone p i);
  }

  -- each device tells what it told, or was closed with this exit
  left_told : (q : ℕ) → IsSameOrShut e (told_at told x q) (told_at told (record x { tree = b }) q)
  left_told q =
      told_shut told e (slot x q) (pay_of x.tree q) (pay_of b q)
      (subst (λ l. IsSameOrShut e (told_or told (pay_of x.tree q)) (told_or told (pay_in q (b.seat.opened ++ pays l)))) (sym c.torn.1)
      (ended_told told once e q x.tree.shelf c.torn.2 shut_bare shut_open k.holds.once not_ended))

  left_gist : (q : ℕ) → gist (told_at told (record x { tree = b }) q) ≡ gist (told_at told x q)
  left_gist q = shut_gist e (told_at told x q) (told_at told (record x { tree = b }) q) (left_told q)

  -- a row of a scope that isn't closed isn't either
  kept_row : (q m : ℕ) → (LiesWithin x.tree.seat.events x.tree.seat.by m s → ⊥) → IsAmong (q, m) (rows (trace x.tree.seat)) → HasRow x.tree.seat.opened q → HasRow b.seat.opened q
  kept_row q m l i h =
      owner_has q closed_whole
      (λ j. let w = whole_under bs hs q s kept_scope j in let z = one_scope q w.0 m hs k.mirrors.distinct w.1 (subst (λ y. IsAmong (q, m) y) k.mirrors.rows i) in l (subst (λ y. LiesWithin x.tree.seat.events x.tree.seat.by y s) z (under_within x.tree.seat bs hs k s w.0 w.2)))
      h

  still_open : (m : ℕ) → (LiesWithin x.tree.seat.events x.tree.seat.by m s → ⊥) → IsOpenScope x.tree m → IsOpenScope b m
  still_open m l o = (
    ⊎_elim (λ z. inl z) (λ n. inr (n.0, grown_noted (close_grown x.tree.seat b.seat bs hs c.torn.0 s c.stamp k u closed_whole) n.1)) o.0,
    λ d.
        let w = old_within x.tree.seat b.seat bs hs c.torn.0 s c.stamp k u closed_whole d.1 in
        ⊎_elim
        (λ n. o.1 (d.0, w, n))
        (λ z. l (subst (λ y. LiesWithin x.tree.seat.events x.tree.seat.by m y) z w))
        (old_close x.tree.seat b.seat bs hs c.torn.0 s c.stamp k u closed_whole d.0 d.2),
  )

  -- no scope was opened
  was_open : (m : ℕ) → IsOpenScope b m → IsOpenScope x.tree m
  was_open m o = (
    ⊎_elim (λ z. inl z)
        (λ n. inr (
          n.0,
          opens_notes x.tree.seat.events x.tree.seat.by (m, n.0) (subst (λ l. IsAmong (m, n.0) l) (opens_same x.tree.seat b.seat bs hs c.torn.0 s c.stamp k u closed_whole) (notes_opens b.seat.events b.seat.by m n.0 n.1)),
        ))
        o.0,
    λ d. o.1 (grown_closed (close_grown x.tree.seat b.seat bs hs c.torn.0 s c.stamp k u closed_whole) m d),
  )

  left_closed : IsClosedWith (around told (record x { tree = b })) s e
  left_closed = record { gone = λ o. o.1 (closed_now c); exit = λ y. (closed_as c u y, close_noted c y) }

  left_rows : rows (trace b.seat) ≡ rows (trace x.tree.seat)
  left_rows = rows_same x.tree.seat b.seat bs hs c.torn.0 s c.stamp k u closed_whole

  left_keeps : Keeps (around told x) (λ q. ⊥) (λ c. c ≡ s) (around told (record x { tree = b }))
  left_keeps = record {
    told = λ q n. left_gist q;
    waits = λ q n h. h;
    holds = λ q i n j h. (subst (λ y. IsAmong (q, i) y) (sym left_rows) h.0, kept_row q i (j.1 s refl) h.0 h.1);
    stays = λ i j. record {
      opened = still_open i (j.1 s refl) j.0;
      within = λ d. (
        old_within x.tree.seat b.seat bs hs c.torn.0 s c.stamp k u closed_whole,
        within_opens (λ f g m. grown_noted (close_grown x.tree.seat b.seat bs hs c.torn.0 s c.stamp k u closed_whole) m),
      );
    };
  }

  -- each row that ended is one of the tree's own
  left_used : used b ≡ used x.tree
  left_used =
      let F = firsts (said x.tree.shelf) in let own = own_rows x.tree.seat in
      let own_same : own_rows b.seat ≡ own = ap numbers left_rows in
      let ends' : firsts (said b.shelf) ≡ F ++ firsts (said c.torn.0) = ap (λ l. firsts (said l)) c.torn.1 ∙ ap firsts (said_append x.tree.shelf c.torn.0) ∙ firsts_append (said x.tree.shelf) (said c.torn.0) in
      let none' : strangers own (firsts (said c.torn.0)) ≡ 0 = strangers_none own (firsts (said c.torn.0)) (λ r m. let w = whole_under bs hs r s kept_scope (picks_among r (released_picks closed_whole) m) in subst (λ l. IsAmong r l) (sym (own_is x.tree.seat bs hs k)) (row_of_pair r w.0 hs w.1)) in
      let all : strangers (own_rows b.seat) (firsts (said b.shelf)) ≡ strangers own F = ap (λ l. strangers l (firsts (said b.shelf))) own_same ∙ ap (strangers own) ends' ∙ strangers_append own F (firsts (said c.torn.0)) ∙ ap (λ n. strangers own F + n) none' ∙ add-zero _ in
      ap (λ n. n + strangers (own_rows b.seat) (firsts (said b.shelf))) (ap length left_rows) ∙ ap (λ n. length (rows (trace x.tree.seat)) + n) all

  left_affords : Affords (around told x) (around told (record x { tree = b }))
  left_affords =
      let n = owner_count closed_whole in let m = released_spare closed_whole in let l = released_most [] closed_whole in let z = ap length (append-nil (whole bs hs s)) in
      let o = close_less x.tree.seat b.seat bs hs c.torn.0 s c.stamp k u closed_whole in let p = k.rests.spare in
      let os = ap length (opens_same x.tree.seat b.seat bs hs c.torn.0 s c.stamp k u closed_whole) in let us = left_used in let sc = c.scopes in let rs = c.rows in record {
        events = omega (n, m, l, z, o, p, arith);
        scopes = omega (os, sc, arith);
        rows = omega (us, rs, arith);
      }

  -- a scope within it is closed with it
  shut_inside : (m : ℕ) → LiesWithin x.tree.seat.events x.tree.seat.by m s → IsOpenScope b m → ⊥
  shut_inside m l o =
      let now : LiesWithin b.seat.events b.seat.by m s = within_opens (λ i p h. grown_noted (close_grown x.tree.seat b.seat bs hs c.torn.0 s c.stamp k u closed_whole) h) l in
      let shut = closed_now c in
      o.1 (shut.0, within_trans now shut.1, shut.2)

  -- each scope lies within the root
  module _ (bs' : List Branch) (hs' : List AcquiredRow) (k' : Kept b.seat bs' hs') where
    root_shut : s ≡ 0 → (m : ℕ) → IsOpenScope b m → ⊥
    root_shut i m o =
        let shut : IsClosed b.seat.events b.seat.by 0 = subst (λ z. IsClosed b.seat.events b.seat.by z) i (closed_now c) in
        o.1 (shut.0, within_trans (under_root b.seat bs' hs' k' m m (omega arith) (usable_scope b.seat bs' hs' k' m o)) shut.1, shut.2)

    -- an open row's scope is open
    holder_open : (q m : ℕ) → (around told x).holds q m → HasRow b.seat.opened q → IsOpenScope b m
    holder_open q m h r =
        let t = row_scope b.seat bs' hs' k' q r in
        let i : t.0 ≡ m = one_scope q t.0 m hs' k'.mirrors.distinct (subst (λ l. IsAmong (q, t.0) l) k'.mirrors.rows t.1) (subst (λ l. IsAmong (q, m) l) (sym left_rows ∙ k'.mirrors.rows) h.0) in
        subst (λ z. IsOpenScope b z) i t.2

    pub left_leaves : Shelved b.seat hs' b.shelf → LeavesScope (around told x) s e (around told (record x { tree = b }))
    left_leaves shelved' = record {
      told = left_gist;
      keeps = left_keeps;
      closed = left_closed;
      others = λ m y n. (
        λ h. ⊎_elim (λ i. i) (λ i. absurd (n i.0)) (known_close c m y h),
        λ h. grown_noted (close_grown x.tree.seat b.seat bs hs c.torn.0 s c.stamp k u closed_whole) h,
      );
      only = was_open;
      inside = λ i l o. shut_inside i l o;
      shut = λ q m h n. not_true' ((told_at told (record x { tree = b }) q).is_open) (λ i. n (holder_open q m h (open_row told (record x { tree = b }) hs' shelved' bs' k' left_order q i)));
      exits = λ q. shut_exit e (told_at told x q) (told_at told (record x { tree = b }) q) (left_told q);
      root = root_shut;
      affords = left_affords;
    }

  pub left_since : Since told (FinishesDevice told) x (record x { tree = b })
  left_since = record {
    calls = closed x.tree b s e none u c;
    alone = (let t : CallsStayAlone (FinishesDevice told) = calls_alone in t.closes x.tree b s e c);
    shelf = λ y m. ⊎_elim
        (λ i. inl i)
        (λ i. let a = owner_pays y c.torn.2 i in inr (slot_place y.row x.from None x.slots (order.places y.row (a.0, a.1))))
        (among_append y x.tree.shelf c.torn.0 (subst (λ l. IsAmong y l) c.torn.1 m));
    from = refl;
    places = refl;
    same = λ p. same_gist (told_at told x p) (told_at told (record x { tree = b }) p) (left_gist p);
    taken = λ p i. i;
  }
