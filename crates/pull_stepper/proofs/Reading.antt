-- What a site is after the device in an open row was changed.
use Rattle.std.proofs.Common.{◌≡◌, ◌≢◌, Bool, ℕ, ◌+◌, ◌≤◌, List, length, take, drop, Some, None, inl, inr, refl, sym, ap, ◌∙◌, subst, ⊎_elim, arith}
use Rattle.std.specs.Prelude.{IfOk, IfSome, OnErr, Result, Ok, Err}
use Rattle.std.proofs.lemmas.Bool.{cases_eq}
use Rattle.chunk_core.specs.declared.code.Exit.{Exit}
use Rattle.chunk_core.specs.Lists.{IsAmong}
use Rattle.device_port.specs.Device.{DeviceTold, moved}
use Rattle.pull_turns.specs.Around.{Affords, FailsToRead, GivesPiece, KeepsBut, gist}
use Rattle.row_seat.specs.declared.view.View.{View}
use Rattle.row_seat.specs.Views.{HasRow, paid, with_row}
use Rattle.scope_tree.specs.Rows.{Once}
use Rattle.scope_tree.proofs.Lent.{has_with, length_with, with_among, with_has}
use Rattle.tree_laws.specs.Called.Called.{none, written}
use Rattle.tree_laws.specs.Laws.{CallsStayAlone}
use Rattle.tree_laws.proofs.Alone.{calls_alone}
use Rattle.pull_stepper.specs.Sites.{InOrder, SameDevice, Since, Site, around, pay_of, pays, slot, told_at, told_by, told_or}
use Rattle.pull_stepper.proofs.Payloads.{pay_back, pay_left, pay_once, pay_with, pay_with_other}
use Rattle.pull_stepper.proofs.Tellings.{same_device}

module _ {V : Type 0} (told : V → DeviceTold) (x : Site V) (p : ℕ) (d : V) (once : Once x.tree.seat.opened) (order : InOrder told x) (held : IsAmong (p, d) x.tree.seat.opened) where
  no_slot : slot x p ≡ Some None
  no_slot = order.places p (d, held)

  pub told_before : told_at told x p ≡ told d
  told_before = ap (λ o. told_by told o (pay_of x.tree p)) no_slot ∙ ap (told_or told) (pay_left p d x.tree.seat.opened (pays x.tree.shelf) (pay_once p d x.tree.seat.opened once held))

module _ {V : Type 0} (told : V → DeviceTold) (ends : V → Exit → Bool → V → Type 0) (x : Site V) (p : ℕ) (d e : V) (once : Once x.tree.seat.opened) (order : InOrder told x) (held : IsAmong (p, d) x.tree.seat.opened) (open' : (told e).is_open ≡ (told d).is_open) (same : SameDevice (told d) (told e)) where
  -- the row has the other payload
  abbrev pub changed : Site V
  changed = record x { tree = record x.tree { seat = paid x.tree.seat p e } }

  pub told_after : told_at told changed p ≡ told e
  told_after = ap (λ o. told_by told o (pay_of changed.tree p)) (no_slot told x p d once order held) ∙ ap (told_or told) (pay_left p e (with_row p e x.tree.seat.opened) (pays x.tree.shelf) (pay_with p e x.tree.seat.opened (d, held)))

  told_other : (q : ℕ) → q ≢ p → told_at told changed q ≡ told_at told x q
  told_other q n = ap (told_by told (slot x q)) (pay_back q (with_row p e x.tree.seat.opened) x.tree.seat.opened (pays x.tree.shelf) (pay_with_other p q e x.tree.seat.opened n))

  had : (q : ℕ) → HasRow changed.tree.seat.opened q → HasRow x.tree.seat.opened q
  had q h = with_has p e x.tree.seat.opened q h

  pub changed_holds : (q k : ℕ) → (around told x).holds q k → (around told changed).holds q k
  changed_holds q k h = (h.0, has_with p e x.tree.seat.opened q h.1)

  pub changed_keeps : KeepsBut (around told x) p (around told changed)
  changed_keeps = record {
    told = λ q n. ap gist (told_other q n);
    waits = λ q n h. h;
    holds = λ q j n i h. changed_holds q j h;
    stays = λ j i. record { opened = i.0; within = λ c. (λ w. w, λ w. w) };
  }

  pub changed_affords : Affords (around told x) (around told changed)
  changed_affords = let l = length_with p e x.tree.seat.opened in record { events = omega (l, arith); scopes = omega arith; rows = omega arith }

  pub changed_order : InOrder told changed
  changed_order =
      let o = order.opened p d held in record {
        places = λ r h. order.places r (had r h);
        opened = λ r f m. ⊎_elim
            (λ i. order.opened r f i)
            (λ i. let f_is : f ≡ e = ap (λ t. t.1) i in ap (λ z. (told z).is_open) f_is ∙ open' ∙ o)
            (with_among p e (r, f) x.tree.seat.opened m);
        bare = λ j r h. order.bare j r (had r h);
        waits = order.waits;
        gone = λ q h. ⊎_elim (λ o'. inl (has_with p e x.tree.seat.opened q o')) (λ o'. inr o') (order.gone q h);
      }

  pub changed_since : Since told ends x changed
  changed_since = record {
    calls = written x.tree changed.tree p e none (d, held) refl;
    alone = (let t : CallsStayAlone ends = calls_alone in t.writes x.tree.seat p e);
    shelf = λ s m. inl m;
    from = refl;
    places = refl;
    same = λ q. ⊎_elim
        (λ i. subst (λ z. SameDevice (told_at told x z) (told_at told changed z)) (sym i) (subst (λ t. SameDevice t (told_at told changed p)) (sym (told_before told x p d once order held)) (subst (λ t. SameDevice (told d) t) (sym told_after) same)))
        (λ n. subst (λ t. SameDevice (told_at told x q) t) (sym (told_other q n)) (same_device (told_at told x q)))
        (cases_eq q p);
    taken = λ q h. h;
  }

-- a device that was read, well or not, is the same
pub read_same : (d e : DeviceTold) (n : ℕ) → e ≡ moved n d → SameDevice d e
read_same d e n h = subst (λ t. SameDevice d t) (sym h) (record { number = refl; place = refl; present = refl; content = refl })

pub unread_same : (d e : DeviceTold) → e ≡ record d { read_faults = d.read_faults + 1 } → SameDevice d e
unread_same d e h = subst (λ t. SameDevice d t) (sym h) (record { number = refl; place = refl; present = refl; content = refl })

module _ {V : Type 0} (told : V → DeviceTold) (ends : V → Exit → Bool → V → Type 0) (x : Site V) (p : ℕ) (d e : V) (once : Once x.tree.seat.opened) (order : InOrder told x) (held : IsAmong (p, d) x.tree.seat.opened) where
  module _ (n : ℕ) (buf : List ℕ) (h : told e ≡ moved n (told d)) where
    pub gives : n ≤ length buf → IfSome (told d).content (λ c. take n buf ≡ take n (drop (told d).at c)) → (n ≡ 0 → IfSome (told d).content (λ c. length c ≤ (told d).at)) → GivesPiece (around told x) p n buf (around told (changed told ends x p d e once order held (ap (λ t. t.is_open) h) (read_same (told d) (told e) n h)))
    gives count bytes end =
        let o = ap (λ t. t.is_open) h in let s = read_same (told d) (told e) n h in
        let before = told_before told x p d once order held in record {
          count = count;
          told = told_after told ends x p d e once order held o s ∙ h ∙ ap (moved n) (sym before);
          bytes = subst (λ t. IfSome t.content (λ c. take n buf ≡ take n (drop t.at c))) (sym before) bytes;
          end = λ z. subst (λ t. IfSome t.content (λ c. length c ≤ t.at)) (sym before) (end z);
          keeps = changed_keeps told ends x p d e once order held o s;
          holds = changed_holds told ends x p d e once order held o s;
          affords = changed_affords told ends x p d e once order held o s;
        }

  module _ (h : told e ≡ record (told d) { read_faults = (told d).read_faults + 1 }) where
    pub fails : FailsToRead (around told x) p (around told (changed told ends x p d e once order held (ap (λ t. t.is_open) h) (unread_same (told d) (told e) h)))
    fails =
        let o = ap (λ t. t.is_open) h in let s = unread_same (told d) (told e) h in record {
          told = told_after told ends x p d e once order held o s ∙ h ∙ ap (λ (t : DeviceTold). record t { read_faults = t.read_faults + 1 }) (sym (told_before told x p d once order held));
          keeps = changed_keeps told ends x p d e once order held o s;
          affords = changed_affords told ends x p d e once order held o s;
        }

-- a read, well or not
module _ {V : Type 0} (told : V → DeviceTold) (d e : V) where
  pub after_read : {F : Type 0} (r : Result ℕ F) → IfOk r (λ n. told e ≡ moved n (told d)) → OnErr r (told e ≡ record (told d) { read_faults = (told d).read_faults + 1 }) → ((told e).is_open ≡ (told d).is_open) × SameDevice (told d) (told e)
  after_read (Ok n) h f = (ap (λ t. t.is_open) h, read_same (told d) (told e) n h)
  after_read (Err z) h f = (ap (λ t. t.is_open) f, unread_same (told d) (told e) f)

module _ {V : Type 0} (told : V → DeviceTold) (ends : V → Exit → Bool → V → Type 0) (x : Site V) (p : ℕ) (d e : V) (once : Once x.tree.seat.opened) (order : InOrder told x) (held : IsAmong (p, d) x.tree.seat.opened) (v : View V) (is : v ≡ paid x.tree.seat p e) where
  -- the site whose seat has this view
  abbrev pub seated : View V → Site V
  seated w = record x { tree = record x.tree { seat = w } }

  pub gives_if : {F : Type 0} (r : Result ℕ F) (buf : List ℕ) → IfOk r (λ n. n ≤ length buf) → IfOk r (λ n. told e ≡ moved n (told d)) → IfOk r (λ n. IfSome (told d).content (λ c. take n buf ≡ take n (drop (told d).at c))) → IfOk r (λ n. n ≡ 0 → IfSome (told d).content (λ c. length c ≤ (told d).at)) → IfOk r (λ n. GivesPiece (around told x) p n buf (around told (seated v)))
  gives_if (Ok n) buf count h bytes end = subst (λ w. GivesPiece (around told x) p n buf (around told (seated w))) (sym is) (gives told ends x p d e once order held n buf h count bytes end)
  gives_if (Err z) buf count h bytes end = tt

  pub fails_if : {F : Type 0} (r : Result ℕ F) → OnErr r (told e ≡ record (told d) { read_faults = (told d).read_faults + 1 }) → OnErr r (FailsToRead (around told x) p (around told (seated v)))
  fails_if (Ok n) h = tt
  fails_if (Err z) h = subst (λ w. FailsToRead (around told x) p (around told (seated w))) (sym is) (fails told ends x p d e once order held h)

  pub seated_order : ((told e).is_open ≡ (told d).is_open) × SameDevice (told d) (told e) → InOrder told (seated v)
  seated_order t = subst (λ w. InOrder told (seated w)) (sym is) (changed_order told ends x p d e once order held t.0 t.1)

  pub seated_since : ((told e).is_open ≡ (told d).is_open) × SameDevice (told d) (told e) → Since told ends x (seated v)
  seated_since t = subst (λ w. Since told ends x (seated w)) (sym is) (changed_since told ends x p d e once order held t.0 t.1)
