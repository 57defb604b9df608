-- What a site is after the device of a place was opened, or could not be.
use Rattle.std.proofs.Common.{◌≡◌, ◌≢◌, Bool, ℕ, zero, suc, ◌+◌, ◌-◌, ◌<◌, ◌≤◌, List, [], ◌∷◌, length, slice_index_or, slice_set, Option, Some, None, inl, refl, sym, ap, ◌∙◌, subst, ⊎_elim, arith}
use Rattle.std.specs.Prelude.{Err, Ok, OnErr, Result}
use Rattle.std.proofs.lemmas.Bool.{cases_eq}
use Rattle.std.proofs.lemmas.List.{get_or-set_same, length-set}
use Rattle.chunk_core.specs.declared.code.Exit.{Exit}
use Rattle.chunk_core.specs.Lists.{IsAmong}
use Rattle.device_port.specs.Device.{DeviceTold}
use Rattle.pull_turns.specs.Around.{Refuses, gist}
use Rattle.tree_laws.specs.Called.Called.{none}
use Rattle.tree_laws.proofs.Alone.{alone_same}
use Rattle.pull_stepper.specs.Sites.{InOrder, IsUnopened, SameDevice, Since, Site, around, pay_of, slot, told_at, told_by}
use Rattle.pull_stepper.proofs.Slots.{slot_at, slot_other, slot_place, slot_set}
use Rattle.pull_stepper.proofs.Tellings.{same_device}

some_is : {A : Type 0} (x y : A) → Some (Some x) ≡ Some (Some y) → x ≡ y
some_is x y e = cc

pub some_not : {A : Type 0} (x : A) (o : Option (Option A)) → o ≡ Some None → o ≡ Some (Some x) → ⊥
some_not x o n e = cc

pub on_err : {T E P : Type 0} (r : Result T E) → P → OnErr r P
on_err (Ok v) h = tt
on_err (Err z) h = h

set_twice : {A : Type 0} (xs : List A) (k : ℕ) (a b : A) → slice_set (slice_set xs k a) k b ≡ slice_set xs k b
set_twice [] k a b = refl
set_twice (x ∷ xs) zero a b = refl
set_twice (x ∷ xs) (suc k) a b = ap (λ l. x ∷ l) (set_twice xs k a b)

-- the slot of a place that has a device
module _ {V : Type 0} (x : Site V) (p : ℕ) (d : V) (is : slot x p ≡ Some (Some d)) where
  pub from_le : x.from ≤ p
  from_le = (slot_place p x.from (Some d) x.slots is).0

  pub in_slots : p - x.from < length x.slots
  in_slots = let t = slot_place p x.from (Some d) x.slots is in let l = t.0 in let m = t.1 in omega (l, m, arith)

  back_at : (p - x.from) + x.from ≡ p
  back_at = let l = from_le in omega (l, arith)

  -- what stands there in the slots
  slot_item : (y : Option V) → slice_index_or x.slots (p - x.from) y ≡ Some d
  slot_item y = slot_at (p - x.from) x.from p (Some d) y x.slots back_at is

  pub not_empty : (y i : Option V) → i ≡ slice_index_or x.slots (p - x.from) y → ¬ (i ≡ None)
  not_empty y i h n = let e : Some d ≡ None = sym (slot_item y) ∙ sym h ∙ n in cc

  pub same_item : (y i : Option V) (f : V) → i ≡ slice_index_or x.slots (p - x.from) y → i ≡ Some f → f ≡ d
  same_item y i f h n = let e : Some d ≡ Some f = sym (slot_item y) ∙ sym h ∙ n in cc

  -- and so it is the slot's
  pub slot_same : (y i : Option V) (f : V) → i ≡ slice_index_or x.slots (p - x.from) y → i ≡ Some f → slot x p ≡ Some (Some f)
  slot_same y i f h n = is ∙ ap (λ z. Some (Some z)) (sym (same_item y i f h n))

  -- the slots with something else there
  abbrev pub refilled : Option V → List (Option V)
  refilled o = slice_set x.slots (p - x.from) o

  pub slot_now : (o : Option V) → slot (record x { slots = refilled o }) p ≡ Some o
  slot_now o = slot_set (p - x.from) x.from p o x.slots back_at in_slots

  pub slot_still : (o : Option V) (q : ℕ) → q ≢ p → slot (record x { slots = refilled o }) q ≡ slot x q
  slot_still o q n = slot_other (p - x.from) x.from q o x.slots (λ e. n (sym e ∙ back_at))

  -- the device that was put there is taken out again
  pub taken_out : (e : V) (y i : Option V) (f : V) → i ≡ slice_index_or (refilled (Some e)) (p - x.from) y → i ≡ Some f → f ≡ e
  taken_out e y i f h n = let l = in_slots in let j : Some e ≡ Some f = sym (get_or-set_same x.slots (p - x.from) (Some e) y l) ∙ sym h ∙ n in cc

  pub was_there : (e : V) (y i : Option V) → i ≡ slice_index_or (refilled (Some e)) (p - x.from) y → ¬ (i ≡ None)
  was_there e y i h n = let l = in_slots in let j : Some e ≡ None = sym (get_or-set_same x.slots (p - x.from) (Some e) y l) ∙ sym h ∙ n in cc

  pub emptied : (o m : Option V) → m ≡ None → slice_set (refilled o) (p - x.from) m ≡ refilled None
  emptied o m n = ap (slice_set (refilled o) (p - x.from)) n ∙ set_twice x.slots (p - x.from) o None

  pub slots_length : (o : Option V) → length (refilled o) ≡ length x.slots
  slots_length o = length-set x.slots (p - x.from) o

  -- an empty slot isn't this one, and stays empty
  pub none_still : (o : Option V) (q : ℕ) → slot x q ≡ Some None → slot (record x { slots = refilled o }) q ≡ Some None
  none_still o q n = ⊎_elim (λ e. absurd (some_not d (slot x p) (subst (λ z. slot x z ≡ Some None) e n) is)) (λ ne. slot_still o q ne ∙ n) (cases_eq q p)

-- the device could not be opened, and stays in its slot
module _ {V : Type 0} (told : V → DeviceTold) (ends : V → Exit → Bool → V → Type 0) (x : Site V) (p : ℕ) (d e : V) (is : slot x p ≡ Some (Some d)) (order : InOrder told x) (fault : told e ≡ record (told d) { open_faults = (told d).open_faults + 1 }) where
  abbrev pub refused : Site V
  refused = record x { slots = refilled x p d is (Some e) }

  refused_told : told_at told refused p ≡ record (told_at told x p) { open_faults = (told_at told x p).open_faults + 1 }
  refused_told =
      ap (λ o. told_by told o (pay_of x.tree p)) (slot_now x p d is (Some e)) ∙ fault
      ∙ sym (ap (λ o. record (told_by told o (pay_of x.tree p)) { open_faults = (told_by told o (pay_of x.tree p)).open_faults + 1 }) is)

  refused_other : (q : ℕ) → q ≢ p → told_at told refused q ≡ told_at told x q
  refused_other q n = ap (λ o. told_by told o (pay_of x.tree q)) (slot_still x p d is (Some e) q n)

  pub refuses : Refuses (around told x) p (around told refused)
  refuses = record {
    told = refused_told;
    keeps = record {
      told = λ q n. ap gist (refused_other q n);
      waits = λ q n w. (w.0, slot_still x p d is (Some e) q n ∙ w.1, w.2);
      holds = λ q i n j h. h;
      stays = λ i j. record { opened = j.0; within = λ c. (λ w. w, λ w. w) };
    };
    affords = record { events = omega arith; scopes = omega arith; rows = omega arith };
  }

  pub refused_order : InOrder told refused
  refused_order =
      let u = (order.waits p d is).1 in record {
        places = λ r h. none_still x p d is (Some e) r (order.places r h);
        opened = order.opened;
        bare = order.bare;
        waits = λ q f h. ⊎_elim
            (λ i.
            let at : slot refused p ≡ Some (Some f) = subst (λ z. slot refused z ≡ Some (Some f)) i h in
            let f_is : told f ≡ told e = ap told (some_is f e (sym at ∙ slot_now x p d is (Some e))) in
            (subst (λ z. IsAmong z x.tree.seat.empty) (sym i) (order.waits p d is).0, subst IsUnopened (sym (f_is ∙ fault)) (record { is_open = u.is_open; opens = u.opens; closes = u.closes; exit = u.exit; close_faults = u.close_faults })))
            (λ n. order.waits q f (sym (slot_still x p d is (Some e) q n) ∙ h))
            (cases_eq q p);
        gone = λ q h. ⊎_elim
            (λ j. absurd (some_not e (slot refused p) (subst (λ z. slot refused z ≡ Some None) j h) (slot_now x p d is (Some e))))
            (λ n. order.gone q (sym (slot_still x p d is (Some e) q n) ∙ h))
            (cases_eq q p);
      }

  pub refused_since : Since told ends x refused
  refused_since = record {
    calls = none;
    alone = alone_same x.tree.seat;
    shelf = λ s m. inl m;
    from = refl;
    places = slots_length x p d is (Some e);
    same = λ q. ⊎_elim
        (λ i. subst (λ z. SameDevice (told_at told x z) (told_at told refused z)) (sym i) (subst (λ t. SameDevice (told_at told x p) t) (sym refused_told) (record { number = refl; place = refl; present = refl; content = refl })))
        (λ n. subst (λ t. SameDevice (told_at told x q) t) (sym (refused_other q n)) (same_device (told_at told x q)))
        (cases_eq q p);
    taken = λ q h. none_still x p d is (Some e) q h;
  }
