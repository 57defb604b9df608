-- A stepper that made no turn.
use Rattle.std.proofs.Common.{◌≡◌, ℕ, suc, ◌+◌, ◌<◌, ◌≤◌, List, [], ◌∷◌, length, map, Option, Some, None, refl, sym, ap, subst, ◌∙◌, ⊎_elim, IsSome, arith}
use Rattle.std.proofs.lemmas.Bool.{cases_eq, false≢true}
use Rattle.std.proofs.lemmas.List.{length-map}
use Rattle.chunk_core.specs.Lists.{IsAmong}
use Rattle.chunk_core.specs.Lists.IsAmong.{here, there}
use Rattle.chunk_core.proofs.Members.{among_nil}
use Rattle.device_port.specs.Depot.{DepotTold, Files, fresh}
use Rattle.std.specs.Prelude.{IfSome, option_map}
use Rattle.device_port.specs.Device.{DeviceTold, Place}
use Rattle.device_port.specs.declared.device.Mode.TheVariants as mode
use Rattle.pull_nodes.specs.Kinds.{node_kind}
use Rattle.pull_nodes.specs.Shape.{places_of, uses_of}
use Rattle.chunk_core.specs.Tables.{Values}
use Rattle.pull_nodes.specs.declared.kind.Kind.{Kind}
use Rattle.pull_nodes.specs.declared.node.Node.{Node}
use Rattle.pull_turns.specs.Around.{IsUntried, OpenAreHeld}
use Rattle.pull_turns.specs.Piping.{StateMeaning, PipesFitOf}
use Rattle.pull_turns.specs.Rest.{IsToRead, IsToWrite}
use Rattle.pull_turns.proofs.NodeKinds.{fits_kind}
use Rattle.row_seat.specs.Views.{HasRow}
use Rattle.scope_tree.specs.Calls.{Seen}
use Rattle.pull_stepper.specs.Laws.{around_nested}
use Rattle.pull_stepper.specs.Sites.{InOrder, IsPlace, IsUnopened, IsUnused, Site, around, pay_of, slot, slot_of, told_at, told_by}
use Rattle.pull_stepper.specs.Stepping.{CanGo, HasRoomFor, IsFor, IsSupplied, begun, site_of, span_of}
use Rattle.pull_stepper.proofs.Placing.{each_read, each_write, placed_fresh, placed_within, used_placed}
use Rattle.pull_stepper.proofs.Slots.{slot_here, slot_past, slot_place}

unopened : (d : DeviceTold) → IsUnused d → IsUnopened d
unopened d u = record { is_open = u.is_open; opens = u.opens; closes = u.closes; exit = u.exit; close_faults = u.close_faults }

-- the pipes of a node that has a kind fit
pipes_fit : (t : Values) (n : Node) → IsSome (node_kind n) → PipesFitOf t n
pipes_fit t n = by (node_kind n) refl
  where
    by : (o : Option Kind) → node_kind n ≡ o → IsSome o → PipesFitOf t n
    by None e some = absurd (false≢true some)
    by (Some j) e some = fits_kind t n j e

module _ {V : Type 0} where
  -- each device waits in the slot of a place
  slot_has : (p i : ℕ) (ds : List V) → i ≤ p → p < i + length ds → (d : V) × (slot_of p i (map Some ds) ≡ Some (Some d)) × IsAmong d ds
  slot_has p i [] l m = absurd (omega arith)
  slot_has p i (d ∷ ds) l m =
      ⊎_elim
      (λ e. (d, slot_here p i (Some d) (map Some ds) e, here ds))
      (λ n. let t = slot_has p (suc i) ds (omega arith) (omega arith) in (t.0, slot_past p i (Some d) (map Some ds) n ∙ t.1, there d t.2))
      (cases_eq i p)

  slot_from : (p i : ℕ) (d : V) (ds : List V) → slot_of p i (map Some ds) ≡ Some (Some d) → IsAmong d ds
  slot_from p i d [] h = absurd (let f : None ≡ Some (Some d) = h in cc)
  slot_from p i d (x ∷ ds) h =
      ⊎_elim
      (λ e. let f : Some (Some x) ≡ Some (Some d) = sym (slot_here p i (Some x) (map Some ds) e) ∙ h in let g : x ≡ d = cc in subst (λ y. IsAmong y (x ∷ ds)) g (here ds))
      (λ n. there x (slot_from p (suc i) d ds (sym (slot_past p i (Some x) (map Some ds) n) ∙ h)))
      (cases_eq i p)

  bare_row : (a : Seen V) → a.seat.opened ≡ [] → (r : ℕ) → HasRow a.seat.opened r → ⊥
  bare_row a e r m = among_nil (subst (λ l. IsAmong (r, m.0) l) e m.1)

module _ {V : Type 0} (told : V → DeviceTold) (n : Node) (a : Seen V) (devices : List V) (h : IsSupplied told n devices) (r : HasRoomFor a n) where
  abbrev first : Site V
  first = site_of n a devices

  within : (p : ℕ) → IsPlace first p → (first.from ≤ p) × (p < first.from + length devices)
  within p w = (w.0, omega (arith, w.1, length-map devices Some))

  at_place : (p : ℕ) → IsPlace first p → (d : V) × (slot first p ≡ Some (Some d)) × IsAmong d devices
  at_place p w = let v = within p w in slot_has p first.from devices v.0 v.1

  pub begun_in_order : InOrder told first
  begun_in_order = record {
    places = λ q m. absurd (bare_row a r.opened q m);
    opened = λ q d m. absurd (bare_row a r.opened q (d, m));
    bare = λ j q m. absurd (bare_row a r.opened q m);
    waits = λ p d e.
        let w = slot_place p first.from (Some d) first.slots e in
        (r.empty p (w.0, omega (arith, w.1, h.count, length-map devices Some)), unopened (told d) (h.unused d (slot_from p first.from d devices e)));
    gone = λ p e. let t = at_place p (slot_place p first.from None first.slots e) in let f : Some (Some t.0) ≡ Some None = sym t.1 ∙ e in absurd cc;
  }

  -- no device is open
  pub begun_held : OpenAreHeld (around told first)
  begun_held p e = by (slot first p) refl
    where
      by : (o : Option (Option V)) → slot first p ≡ o → (k : ℕ) × (around told first).holds p k × (around told first).opened k
      by None s = absurd (false≢true (sym (ap (λ o. (told_by told o (pay_of a p)).is_open) s) ∙ e))
      by (Some None) s = let t = at_place p (slot_place p first.from None first.slots s) in let f : Some (Some t.0) ≡ Some None = sym t.1 ∙ s in absurd cc
      by (Some (Some d)) s =
          let u = h.unused d (slot_from p first.from d devices s) in
          absurd (false≢true (sym u.is_open ∙ (sym (ap (λ o. (told_by told o (pay_of a p)).is_open) s) ∙ e)))

  -- the device of a place
  device_of : (p : ℕ) → IsAmong p (places_of n) → (d : V) × (slot first p ≡ Some (Some d)) × IsAmong d devices
  device_of p i = let w = placed_within (span_of n (length devices)) n h.placed p i in at_place p (w.0, omega (arith, w.1, length-map devices Some))

  used_of : (p : ℕ) → IsAmong p (uses_of n) → IsAmong p (places_of n)
  used_of p i = used_placed (around told first) 0 (span_of n (length devices)) n h.placed p i

  told_of : (p : ℕ) (i : IsAmong p (places_of n)) → told_at told first p ≡ told (device_of p i).0
  told_of p i = ap (λ o. told_by told o (pay_of a p)) (device_of p i).1

  untried_of : (p : ℕ) → IsAmong p (places_of n) → IsUntried (told_at told first p)
  untried_of p i =
      let t = device_of p i in let u = h.unused t.0 t.2 in
      subst IsUntried (sym (told_of p i)) (record { opens = u.opens; open_faults = u.open_faults })

  reads_of : (p : ℕ) → IsAmong p (places_of n) → IsFor told first.from devices mode.Read p → IsToRead (told_at told first p)
  reads_of p i f =
      let t = device_of p i in let u = h.unused t.0 t.2 in
      subst IsToRead (sym (told_of p i)) (record { mode = f t.0 t.1; at = u.at; faults = u.read_faults })

  writes_of : (p : ℕ) → IsAmong p (places_of n) → IsFor told first.from devices mode.Write p → IsToWrite (told_at told first p)
  writes_of p i f =
      let t = device_of p i in let u = h.unused t.0 t.2 in
      subst IsToWrite (sym (told_of p i)) (record { mode = f t.0 t.1; written = u.written; faults = u.write_faults })

  pub begun_can : {F : Type 0} (P : Values → StateMeaning F) (t : Values) (chunk : ℕ) → 1 ≤ chunk → CanGo P told (begun n a devices t chunk)
  begun_can P t chunk some = record {
    how = refl;
    memory = refl;
    chunk = omega (arith, some);
    step = record {
      ready = placed_fresh (around told first) 0 (span_of n (length devices)) n h.placed (λ p i. let t = device_of p i in ((t.0, t.1, h.unused t.0 t.2), untried_of p i))
          (each_read (IsFor told first.from devices mode.Read) (λ p. IsToRead (told_at told first p)) n (λ p i. reads_of p (used_of p i)) h.reads)
          (each_write (IsFor told first.from devices mode.Write) (λ p. IsToWrite (told_at told first p)) n (λ p i. writes_of p (used_of p i)) h.writes);
      pipes = pipes_fit (P t).values n h.kind;
      nested = around_nested told first;
      opened = r.root;
      events = omega (arith, r.events, r.owed);
      scopes = omega (arith, r.scopes);
      rows = omega (arith, r.rows);
    };
  }

made_unwritten : (o : Option Files) → IfSome (option_map (λ f. []) o) (λ bytes. ◌≡◌ {A = List ℕ} bytes [])
made_unwritten None = tt
made_unwritten (Some f) = refl

-- a device that was just made
pub fresh_unused : (depot : DepotTold) (place : Place) (d : DeviceTold) → d ≡ fresh depot place → IsUnused d
fresh_unused depot place d e = subst IsUnused (sym e) (record {
  is_open = refl;
  opens = refl;
  closes = refl;
  exit = refl;
  at = refl;
  written = made_unwritten depot.files;
  open_faults = refl;
  read_faults = refl;
  write_faults = refl;
  close_faults = refl;
})
