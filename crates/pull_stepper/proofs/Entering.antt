-- What a site is after a scope was opened.
use Rattle.std.proofs.Common.{◌≡◌, ◌⊎◌, ◌↔◌, Bool, ℕ, ◌+◌, ◌<◌, ◌≤◌, List, [], ◌∷◌, length, inl, inr, refl, sym, ap, ◌∙◌, subst, ⊎_elim, arith, length-append}
use Rattle.chunk_core.specs.declared.code.Exit.{Exit}
use Rattle.chunk_core.specs.Lists.{IsAmong}
use Rattle.device_port.specs.Device.{DeviceTold}
use Rattle.pull_turns.specs.Around.{Enters, Keeps}
use Rattle.res_ledger.specs.declared.event.Event.{Event}
use Rattle.res_ledger.specs.declared.event.What.TheVariants.{Close, Open}
use Rattle.res_ledger.specs.Ledger.{IsClosed, IsUsable, LiesWithin, Notes}
use Rattle.res_ledger.specs.Ledger.LiesWithin.{below, same}
use Rattle.res_ledger.specs.Own.{opens}
use Rattle.res_ledger.proofs.Apart.{apart}
use Rattle.res_ledger.proofs.Growth.{noted_more, noted_new, noted_snoc}
use Rattle.res_ledger.proofs.Noted.{notes_closes}
use Rattle.row_seat.specs.declared.view.View.{View}
use Rattle.row_seat.specs.Views.{noted}
use Rattle.scope_tree.specs.declared.branch.Branch.{Branch}
use Rattle.scope_tree.specs.declared.branch.AcquiredRow.{AcquiredRow}
use Rattle.scope_tree.specs.Calls.{IsOpenScope, OpensScope, Seen, used}
use Rattle.scope_tree.specs.Kept.{Kept}
use Rattle.res_ledger.specs.Order.{firsts}
use Rattle.scope_tree.specs.Rows.{strangers}
use Rattle.scope_tree.specs.Released.{said}
use Rattle.scope_tree.specs.Trace.{numbers, opening, owed, trace}
use Rattle.scope_tree.proofs.Bridge.{within_cases}
use Rattle.scope_tree.proofs.Grows.{back_closed, back_within, length_marks, opened_opens, opened_rows, opened_scopes}
use Rattle.scope_tree.proofs.Beneath.{noted_scope, usable_scope}
use Rattle.scope_tree.proofs.Grown.{within_opens}
use Rattle.scope_tree.proofs.Keeps.{under_root, within_trans}
use Rattle.scope_tree.proofs.Use.{first_is, seen_is}
use Rattle.scope_tree.proofs.Walking.{above_le, within_stands}
use Rattle.tree_laws.specs.Called.Called.{none, opened}
use Rattle.tree_laws.proofs.Alone.{alone_opens}
use Rattle.pull_stepper.specs.Sites.{InOrder, SameDevice, Since, Site, around, told_at}
use Rattle.pull_stepper.proofs.Ending.{bare_noted}
use Rattle.pull_stepper.proofs.Tellings.{same_device}

open_under : (c p d q : ℕ) → Open c p ≡ Open d q → p ≡ q
open_under c p d q e = cc

-- where a scope is open, so is the root
pub root_open : {V : Type 0} (v : View V) (bs : List Branch) (hs : List AcquiredRow) (k : Kept v bs hs) (s : ℕ) → IsUsable v.events v.by s → ¬ (IsClosed v.events v.by 0)
root_open v bs hs k s u c = u.1 (c.0, within_trans (under_root v bs hs k s s (omega arith) (usable_scope v bs hs k s u)) c.1, c.2)

module _ {V : Type 0} (told : V → DeviceTold) (x : Site V) (at n : ℕ) (bs : List Branch) (hs : List AcquiredRow) (k : Kept x.tree.seat bs hs) (order : InOrder told x) (u : IsOpenScope x.tree at) (free : owed x.tree.seat + 2 ≤ x.tree.seat.spare) where
  -- the tree with a scope more
  abbrev after : Seen V
  after = record x.tree { seat = noted x.tree.seat (opening x.tree.seat (length bs) at n) }

  entered_order : InOrder told (record x { tree = after })
  entered_order = record {
    places = order.places;
    opened = order.opened;
    bare = bare_noted x.tree.seat after.seat (opening x.tree.seat (length bs) at n) (λ j t o. apart o refl) refl refl (λ r h. h) order.bare;
    waits = order.waits;
    gone = order.gone;
  }

  new_open : IsOpenScope after (length bs)
  new_open =
      let v = x.tree.seat in let e : Event = opening v (length bs) at n in (
        inr (at, noted_new v.events e),
        λ c.
            let old : Notes v.events v.by (Close c.0 c.2.0) = ⊎_elim (λ o. o) (λ o. absurd (apart o.1 refl)) (noted_snoc v.events e v.by (Close c.0 c.2.0) c.2.1) in
            let l = k.mirrors.ended c.0 (notes_closes v.events v.by c.0 (c.2.0, old)) in
            ⊎_elim
            (λ i. omega (i, l, arith))
            (λ w. ⊎_elim
            (λ o. let m = noted_scope v bs hs k (length bs) w.0 o in let z = m.1 in omega (z, arith))
            (λ o. u.1 (back_closed v bs hs at n k u free at (usable_scope v bs hs k at u) (c.0, subst (λ p. LiesWithin after.seat.events v.by p c.0) (sym (open_under (length bs) at (length bs) w.0 o.1)) w.2, c.2)))
            (noted_snoc v.events e v.by (Open (length bs) w.0) w.1))
            (within_cases c.1),
      )

  stays_open : (i : ℕ) → IsOpenScope x.tree i → IsOpenScope after i
  stays_open i o =
      let v = x.tree.seat in let e : Event = opening v (length bs) at n in
      (⊎_elim (λ z. inl z) (λ p. inr (p.0, noted_more v.events e p.1)) o.0, λ c. o.1 (back_closed v bs hs at n k u free i (usable_scope v bs hs k i o) c))

  -- what lay within a scope does so still
  more_within : {i j : ℕ} → LiesWithin x.tree.seat.events x.tree.seat.by i j → LiesWithin after.seat.events x.tree.seat.by i j
  more_within w = within_opens (λ f g m. noted_more x.tree.seat.events (opening x.tree.seat (length bs) at n) m) w

  -- of a scope that was there before nothing has changed in where it lies
  was_within : {i j : ℕ} → i < length bs → LiesWithin after.seat.events x.tree.seat.by i j → LiesWithin x.tree.seat.events x.tree.seat.by i j
  was_within l w = back_within x.tree.seat bs hs at n k u free l w

  entered_keeps : Keeps (around told x) (λ q. ⊥) (λ c. ⊥) (around told (record x { tree = after }))
  entered_keeps = record {
    told = λ q t. refl;
    waits = λ q t h. h;
    holds = λ q i t j h. (subst (λ l. IsAmong (q, i) l) (sym (opened_rows x.tree.seat bs hs at n k u free)) h.0, h.1);
    stays = λ i j. record { opened = stays_open i j.0; within = λ c. (was_within (usable_scope x.tree.seat bs hs k i j.0), more_within) };
  }

  -- the new scope lies within itself and where that lies in which it was opened
  new_within : (i : ℕ) → LiesWithin after.seat.events x.tree.seat.by (length bs) i ↔ ((i ≡ length bs) ⊎ LiesWithin x.tree.seat.events x.tree.seat.by at i)
  new_within i = (to, ⊎_elim (λ e. subst (λ j. LiesWithin after.seat.events x.tree.seat.by (length bs) j) (sym e) (same (length bs))) (λ w. below (length bs) at i (noted_new x.tree.seat.events (opening x.tree.seat (length bs) at n)) (more_within w)))
    where
      to : LiesWithin after.seat.events x.tree.seat.by (length bs) i → (i ≡ length bs) ⊎ LiesWithin x.tree.seat.events x.tree.seat.by at i
      to w = ⊎_elim
          (λ e. inl (sym e))
          (λ p.
          let at_parent : p.0 ≡ at = ⊎_elim
          (λ o. absurd (let l = (noted_scope x.tree.seat bs hs k (length bs) p.0 o).1 in omega (l, arith)))
          (λ o. sym (open_under (length bs) at (length bs) p.0 o.1))
          (noted_snoc x.tree.seat.events (opening x.tree.seat (length bs) at n) x.tree.seat.by (Open (length bs) p.0) p.1) in
          inr (was_within (usable_scope x.tree.seat bs hs k at u) (subst (λ q. LiesWithin after.seat.events x.tree.seat.by q i) at_parent p.2)))
          (within_cases w)

  -- no scope that was there before lies within the new one
  new_fresh : (i : ℕ) → i < length bs → LiesWithin after.seat.events x.tree.seat.by i (length bs) → ⊥
  new_fresh i l w = let v = x.tree.seat in let g = above_le bs i (length bs) k.mirrors.parents l (within_stands v bs hs k (was_within l w)) in omega (g, l, arith)

  entered_used : used after ≡ used x.tree
  entered_used = ap (λ l. length l + strangers (numbers l) (firsts (said x.tree.shelf))) (opened_rows x.tree.seat bs hs at n k u free)

  entered : Enters (around told x) at (length bs) (around told (record x { tree = after }))
  entered =
      let s = opened_scopes x.tree.seat bs hs at n k u free in let p = k.rests.spare in let us = entered_used in
      let os : length (opens (trace after.seat)) ≡ length (opens (trace x.tree.seat)) + 1 = ap length (opened_opens x.tree.seat bs hs at n k u free) ∙ length-append (opens (trace x.tree.seat)) ((length bs, at) ∷ []) in record {
        within = new_within;
        fresh = λ i o w. new_fresh i (usable_scope x.tree.seat bs hs k i o) w;
        opened = new_open;
        keeps = entered_keeps;
        events = omega (s, p, arith);
        scopes = omega (os, arith);
        rows = omega (us, arith);
      }

-- a scope of this number was opened in an open scope
module _ {V : Type 0} (told : V → DeviceTold) (ends : V → Exit → Bool → V → Type 0) (x : Site V) (b : Seen V) (at c : ℕ) (bs : List Branch) (hs : List AcquiredRow) (k : Kept x.tree.seat bs hs) (order : InOrder told x) (u : IsOpenScope x.tree at) (free : owed x.tree.seat + 2 ≤ x.tree.seat.spare) (o : OpensScope x.tree at c b) where
  number : c ≡ length bs
  number = let n = ap length k.mirrors.opens in let m = length_marks bs k.mirrors.size in let i = o.number in omega (n, m, i, arith)

  is_after : b ≡ after told x at o.stamp bs hs k order u free
  is_after =
      let seat : b.seat ≡ noted x.tree.seat (opening x.tree.seat (length bs) at o.stamp) = o.seat ∙ ap (λ i. noted x.tree.seat (opening x.tree.seat i o.parent o.stamp)) number ∙ ap (λ p. noted x.tree.seat (opening x.tree.seat (length bs) p o.stamp)) (first_is u.1 o.nearest) in
      seen_is x.tree b _ seat o.shelf o.scopes o.rows

  pub enter_order : InOrder told (record x { tree = b })
  enter_order = subst (λ t. InOrder told (record x { tree = t })) (sym is_after) (entered_order told x at o.stamp bs hs k order u free)

  pub enter_enters : Enters (around told x) at c (around told (record x { tree = b }))
  enter_enters =
      subst (λ n. Enters (around told x) at n (around told (record x { tree = b }))) (sym number)
      (subst (λ t. Enters (around told x) at (length bs) (around told (record x { tree = t }))) (sym is_after) (entered told x at o.stamp bs hs k order u free))

  pub enter_since : length (opens (trace x.tree.seat)) + 1 < x.tree.scopes → Since told ends x (record x { tree = b })
  enter_since room = record {
    calls = opened x.tree b at c none (record { root = root_open x.tree.seat bs hs k at u; known = u.0; room = room }) o;
    alone = alone_opens o;
    shelf = λ y m. inl (subst (λ l. IsAmong y l) o.shelf m);
    from = refl;
    places = refl;
    same = λ p. subst (λ t. SameDevice (told_at told x p) (told_at told (record x { tree = t }) p)) (sym is_after) (same_device (told_at told x p));
    taken = λ p e. e;
  }
