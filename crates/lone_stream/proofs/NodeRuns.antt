-- A node that was run to its end, or that couldn't be begun.
use Rattle.std.proofs.Common.{◌≡◌, ℕ, suc, ◌+◌, ◌*◌, ◌^◌, ◌≤◌, Bool, true, false, if◌then◌else◌, List, [], ◌∷◌, ◌++◌, inl, inr, map, length, Option, Some, refl, sym, ◌∙◌, ap, subst, ⊎_elim, arith, append-nil, nat_eq}
use Rattle.std.proofs.lemmas.Bool.{false≢true}
use Rattle.std.proofs.lemmas.List.{length-map}
use Rattle.std.specs.List.{filter_map, IsDistinct}
use Rattle.chunk_core.specs.Lists.{IsAmong}
use Rattle.chunk_core.specs.Lists.IsAmong.{here, there}
use Rattle.chunk_core.proofs.Members.{among_nil}
use Rattle.chunk_core.specs.Outcomes.{Cut}
use Rattle.chunk_core.specs.Tables.{Values, no_values}
use Rattle.chunk_core.specs.declared.code.Exit.{Exit}
use Rattle.chunk_core.specs.declared.code.Exit.TheVariants as exit
use Rattle.chunk_core.specs.declared.code.How.{How}
use Rattle.chunk_core.specs.declared.code.How.TheVariants as how
use Rattle.device_port.specs.Device.{DeviceTold}
use Rattle.pull_nodes.specs.Failures.{IsToldRun}
use Rattle.pull_nodes.specs.Shape.{places_of, scope_count}
use Rattle.pull_nodes.specs.declared.node.Node.{Node}
use Rattle.pull_turns.specs.Around.{Goes}
use Rattle.pull_turns.specs.Piping.{StateMeaning}
use Rattle.pull_turns.specs.Failures.{IsToldRunOfRest}
use Rattle.pull_turns.specs.Sizes.{HasNoPipeOf, widest_of}
use Rattle.pull_turns.specs.Turned.{SpendsWithin}
use Rattle.res_ledger.specs.Order.{firsts}
use Rattle.res_ledger.specs.Own.{opens}
use Rattle.row_seat.specs.Views.{IsWithin}
use Rattle.scope_tree.specs.Calls.{ClosesScope, Seen, TakesRoom, used}
use Rattle.scope_tree.specs.Released.{said}
use Rattle.scope_tree.specs.Trace.{owed, trace}
use Rattle.scope_tree.proofs.Owning.{owner_pays}
use Rattle.scope_tree.proofs.Use.{closed_now}
use Rattle.tree_laws.specs.Alone.{StaysAlone}
use Rattle.tree_laws.specs.Called.{Called}
use Rattle.tree_laws.specs.Called.Called.{none, closed}
use Rattle.tree_laws.proofs.Alone.{alone_closes}
use Rattle.tree_laws.proofs.Room.{room_along}
use Rattle.pull_stepper.specs.Held.{FinishesDevice}
use Rattle.pull_stepper.specs.Placing.{first_of}
use Rattle.pull_stepper.specs.Sites.{IsUnused, Parted, Since, around, pay_of, slot_of, told_at, told_by}
use Rattle.pull_stepper.specs.Stepping.{StepperEnds, HasRoomFor, IsSupplied, Stepping, begun, site_of}
use Rattle.pull_turns.specs.declared.rest.Rest.TheVariants as rest
use Rattle.pull_turns.proofs.Led.{cut_unwritten, over_now}
use Rattle.pull_stepper.proofs.Beginning.{begun_in_order, begun_can}
use Rattle.pull_stepper.proofs.Closing.{closed_as}
use Rattle.pull_stepper.proofs.Parting.{parted}
use Rattle.lone_stream.specs.Nodes.{LeavesNode, UsesNoMore}
use Rattle.res_ledger.specs.declared.event.StreamNo.{StreamNo}
use Rattle.lone_stream.specs.Rooms.{IsFresh}
use Rattle.lone_stream.specs.Steps.{IsBegun, IsPast}
use Rattle.chunk_core.proofs.Distinct.{distinct_nil}

nothing_in : {A : Type 0} (xs : List A) → ((x : A) → IsAmong x xs → ⊥) → xs ≡ []
nothing_in [] h = refl
nothing_in (x ∷ xs) h = absurd (h x (here xs))

module _ {P : Type 0} {ends : P → Exit → Bool → P → Type 0} {x : Exit} {a b : Seen P} where
  -- where no row is open none is taken down
  none_torn : a.seat.opened ≡ [] → (c : ClosesScope ends a 0 x b) → c.torn.0 ≡ []
  none_torn e c = nothing_in c.torn.0 (λ y m. let p = owner_pays y c.torn.2 m in among_nil (subst (λ l. IsAmong (y.row, p.0) l) e p.1))

module _ {V : Type 0} (told : V → DeviceTold) where
  -- a device that nothing was done with, or none, is at 0
  unread : (o : Option V) (p i : ℕ) (ds : List V) → ((d : V) → IsAmong d ds → IsUnused (told d)) → (told_by told (slot_of p i (map Some ds)) o).at ≡ 0
  unread o p i [] h = refl
  unread o p i (d ∷ ds) h =
      elim (nat_eq i p) as (λ b. (told_by told (if b then Some (Some d) else slot_of p (suc i) (map Some ds)) o).at ≡ 0) [ true ↦ (h d (here ds)).at | false ↦ unread o p (suc i) ds (λ x m. h x (there d m)) ]

module _ {V : Type 0} (told : V → DeviceTold) (n : Node) (devices : List V) (chunk : ℕ) (a b : Seen V) (empty : a.shelf ≡ []) (room : HasRoomFor a n) (sound : used b ≤ b.rows) (over : owed b.seat ≡ 0) where
  abbrev first : ℕ
  first = first_of (places_of n)

  -- the devices begin within the limit
  begins_within : IsSupplied told n devices → (p : ℕ) → (told_at told (site_of n a devices) p).at ≤ 2 ^ 40
  begins_within supplied p = let z = unread told (pay_of a p) p first devices supplied.unused in omega (arith, z)

  -- calls that spent no more than the node counts left that room
  uses_no_more : (x : Seen V) → b ≡ x → Called (FinishesDevice told) a [] x
      → (a.seat.spare ≤ x.seat.spare + (2 * length (places_of n) + 2 * scope_count n + 1)) → (length (opens (trace x.seat)) ≤ length (opens (trace a.seat)) + scope_count n) → (used x ≤ x.rows → used x ≤ used a + length (places_of n)) → UsesNoMore n a b
  uses_no_more x is calls events scopes rows =
      let limits = room_along (omega (arith, room.scopes)) calls in
      subst (λ (y : Seen V). owed y.seat ≡ 0 → used y ≤ y.rows → UsesNoMore n a y) (sym is) (λ o u. record { owed = o; events = events; scopes = scopes; rows = rows u; most_scopes = limits.1; most_rows = limits.2 }) over sound

  -- the node was run to its end
  pub node_ran : {F : Type 0} (t : Values) (z : Stepping V F) (h : How) (ds : List V) → IsPast told (begun n a devices t chunk) z → IsSupplied told n devices → StepperEnds told z b h ds → LeavesNode told n devices (told_at told z.site) a b h ds
  node_ran t z h ds past supplied end =
      let since = past.since in
      let spends = past.spends in
      let count : length z.site.slots ≡ length devices = since.places ∙ length-map devices Some in
      let to : z.site.from + length z.site.slots ≡ first + length devices = omega (arith, since.from, count) in
      let within : length (map Some devices) ≡ length devices = length-map devices Some in
      let limits = room_along (omega (arith, room.scopes)) since.calls in
      record {
        same = since.same;
        within = λ p. (past.goes p).within (begins_within supplied p);
        parted = subst (λ f. Parted told (told_at told z.site) b.shelf (first + length devices) f ds) since.from (subst (λ t. Parted told (told_at told z.site) b.shelf t z.site.from ds) to end.parted);
        once = end.once;
        rows = λ x m.
            ⊎_elim
            (λ i. absurd (among_nil (subst (λ l. IsAmong x l) empty i)))
            (λ w. subst (λ k. IsWithin first (first + k) x.row) within w)
            (since.shelf x (subst (λ (t : Seen V). IsAmong x t.shelf) end.tree m));
        root = end.root;
        exits = end.exit;
        calls = subst (λ t. Called (FinishesDevice told) a [] t) (sym end.tree) since.calls;
        alone = subst (λ (t : Seen V). StaysAlone a.seat t.seat) (sym end.tree) since.alone;
        room = uses_no_more z.site.tree end.tree since.calls (omega (arith, spends.events, room.owed)) (omega (arith, spends.scopes, limits.0, limits.1, room.scopes)) (λ u. omega (arith, spends.rows, limits.2, u, room.rows));
      }

  filtered : (ds : List V) → filter_map (λ o. o) (map Some ds) ≡ ds
  filtered [] = refl
  filtered (d ∷ ds) = ap (λ l. d ∷ l) (filtered ds)

  -- the node couldn't be begun, and the root was closed
  unmade_here : IsSupplied told n devices → ClosesScope (FinishesDevice told) a 0 exit.Canceled b → TakesRoom 0 0 a b → a.seat.spare ≤ b.seat.spare + owed a.seat → LeavesNode told n devices (told_at told (site_of n a devices)) a b how.Memory devices
  unmade_here supplied closes leaves spare =
      let x = site_of n a devices in
      let calls : Called (FinishesDevice told) a [] b = closed a b 0 exit.Canceled none room.root closes in
      let bare : b.shelf ≡ [] = closes.torn.1 ∙ (ap (λ xs. a.shelf ++ xs) (none_torn room.opened closes) ∙ (append-nil a.shelf ∙ empty)) in
      let distinct : IsDistinct nat_eq (firsts (said a.shelf)) = subst (λ l. IsDistinct nat_eq (firsts (said l))) (sym empty) distinct_nil in
      let vacant : (r : ℕ) → IsAmong r a.seat.empty → ¬ (IsAmong r (firsts (said a.shelf))) = λ r m i. among_nil (subst (λ l. IsAmong r (firsts (said l))) empty i) in
      let all = parted told x (begun_in_order told n a devices supplied room) room.opened distinct vacant in
      let within : length (map Some devices) ≡ length devices = length-map devices Some in
      record {
        same = λ p. record { number = refl; place = refl; present = refl; content = refl };
        within = begins_within supplied;
        parted = subst (λ l. Parted told (told_at told x) l (first + length devices) first devices) (empty ∙ sym bare)
            (subst (λ k. Parted told (told_at told x) a.shelf (first + k) first devices) within (subst (λ ds. Parted told (told_at told x) a.shelf (first + length (map Some devices)) first ds) (filtered devices) all));
        once = subst (λ l. IsDistinct nat_eq (firsts (said l))) (sym bare) distinct_nil;
        rows = λ y m. absurd (among_nil (subst (λ l. IsAmong y l) bare m));
        root = closed_now closes;
        exits = closed_as closes room.root;
        calls = calls;
        alone = alone_closes closes;
        room = uses_no_more b refl calls (omega (arith, spare, room.owed)) (omega (arith, leaves.opens)) (λ u. omega (arith, leaves.used));
      }

  -- the tree m, which came back, was closed
  record Shuts (m : Seen V) : Type 0 where
    closes : ClosesScope (FinishesDevice told) m 0 exit.Canceled b
    leaves : TakesRoom 0 0 m b
    spare : m.seat.spare ≤ b.seat.spare + owed m.seat

  pub node_unmade : IsSupplied told n devices → (m : Seen V) → m ≡ a → ClosesScope (FinishesDevice told) m 0 exit.Canceled b → TakesRoom 0 0 m b → m.seat.spare ≤ b.seat.spare + owed m.seat → LeavesNode told n devices (told_at told (site_of n a devices)) a b how.Memory devices
  node_unmade supplied m same closes leaves spare =
      let s : Shuts a = subst Shuts same (record { closes = closes; leaves = leaves; spare = spare }) in
      unmade_here supplied s.closes s.leaves s.spare

  -- it may be left before it is begun
  pub unbegun_run : {F : Type 0} (P : Values → StateMeaning F) (t : Values) → (P t).values ≡ no_values → 1 ≤ chunk → IsSupplied told n devices → IsToldRun no_values (told_at told (site_of n a devices)) n [] Cut
  unbegun_run {F = F} P t empty_values some supplied =
      let x = site_of n a devices in
      let cut : IsToldRunOfRest (P t) (told_at told x) (rest.Start n) [] Cut = cut_unwritten (P t) (around told x) (around told x) 0 (rest.Start n) (begun_can told n a devices supplied room P t chunk some).step (λ p. (refl, refl, refl, refl)) (told_at told x) (over_now (told_at told x) (rest.Start n)) in
      subst (λ v. IsToldRun v (told_at told x) n [] Cut) empty_values cut

-- A stepper that was begun over a fresh seat has ended, and left its tree so.
pub begun_ran : {V F : Type 0} (P : Values → StateMeaning F) (told : V → DeviceTold) (who : StreamNo) (n : Node) (devices : List V) (chunk : ℕ) (x z : Stepping V F) (b : Seen V) (h : How) (ds : List V) → IsBegun P told who n devices chunk x → IsPast told x z → StepperEnds told z b h ds → used b ≤ b.rows → owed b.seat ≡ 0
    → (a : Seen V) × IsFresh who n a × LeavesNode told n devices (told_at told z.site) a b h ds
begun_ran P told who n devices chunk x z b h ds i past end sound over =
    (i.tree, i.fresh, node_ran told n devices chunk i.tree b i.fresh.shelf i.room sound over i.tables z h ds (subst (λ y. IsPast told y z) i.is past) i.supplied end)
