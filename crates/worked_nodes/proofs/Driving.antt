-- A node that is run to its end by several calls.
use Rattle.std.proofs.Common.{◌≡◌, ℕ, ◌+◌, ◌*◌, ◌<◌, ◌≤◌, ◌^◌, true, List, [], ◌∷◌, length, IsSome, Some, inl, refl, sym, ap, subst, ◌∙◌, arith}
use Rattle.std.proofs.lemmas.List.{length-map}
use Rattle.chunk_core.specs.declared.code.How.{How}
use Rattle.chunk_core.specs.Elements.{Element}
use Rattle.chunk_core.specs.Tables.{Values}
use Rattle.device_port.specs.Device.{DeviceTold}
use Rattle.device_port.specs.declared.device.Mode.TheVariants as mode
use Rattle.pull_nodes.specs.Failures.{IsToldRun}
use Rattle.pull_nodes.specs.declared.node.Node.{Node}
use Rattle.pull_turns.specs.Around.{Affords}
use Rattle.pull_turns.specs.Led.{TouchesOnly, Uncons, end_by}
use Rattle.pull_turns.specs.Piping.{StateMeaning}
use Rattle.pull_turns.specs.Turned.{SpendsWithin}
use Rattle.pull_turns.specs.declared.rest.Rest.TheVariants.{Nil}
use Rattle.pull_turns.specs.declared.runner.Unconsed.{Unconsed}
use Rattle.row_seat.specs.declared.view.View.{View}
use Rattle.row_seat.specs.Views.{OthersFit, start}
use Rattle.res_ledger.specs.declared.event.StreamNo.{StreamNo}
use Rattle.res_ledger.specs.declared.event.StreamNo.TheVariants.{Inner}
use Rattle.scope_tree.proofs.Use.{all_open}
use Rattle.chunk_core.specs.Lists.{IsAmong}
use Rattle.pull_nodes.specs.Kinds.{node_kind}
use Rattle.pull_nodes.specs.Placed.{is_placed}
use Rattle.pull_nodes.specs.Shape.{EachRead, EachWrite, node_count, places_of, scope_count}
use Rattle.pull_stepper.specs.Placing.{first_of}
use Rattle.pull_stepper.proofs.Firsts.{among_run, first_is}
use Rattle.pull_stepper.proofs.Placing.{placed_distinct, placed_within}
use Rattle.scope_tree.specs.Calls.{Seen, used}
use Rattle.tree_laws.specs.Alone.{StaysAlone}
use Rattle.tree_laws.specs.Called.{Called}
use Rattle.tree_laws.proofs.Room.{room_along}
use Rattle.pull_stepper.specs.Held.{FinishesDevice}
use Rattle.pull_stepper.specs.Laws.{since_then}
use Rattle.pull_stepper.specs.Sites.{IsUnused, Parted, Since, around, told_at}
use Rattle.pull_stepper.specs.Stepping.{StepperEnds, HasRoomFor, IsFor, IsSupplied, Stepping, Unconses, begun, span_of}
use Rattle.worked_nodes.specs.Uses.{Gathers, RanNode}

-- what leaves other seats alone twice does so
pub others_then : {S V D : Type 0} (view : S → View V) (fits : S → D → Type 0) (k j : StreamNo) (d e f : D) → j ≡ k → OthersFit view fits k d e → OthersFit view fits j e f → OthersFit view fits k d f
others_then view fits k j d e f same h i o n t = i o (λ q. n (q ∙ same)) (h o n t)

-- what comes first, told over the tables that the run began with
pub uncons_at : {V F : Type 0} (M : Values → StateMeaning F) (told : V → DeviceTold) (a b z : Stepping V F) (k : ℕ) (u : Unconsed) → b.tables ≡ a.tables → Unconses M told k b z u
    → Uncons (M a.tables) (around told) b.chunk k b.site z.site b.rest z.rest z.how u
uncons_at M told a b z k u e h = subst (λ t. Uncons (M t) (around told) b.chunk k b.site z.site b.rest z.rest z.how u) e h.first

-- the first seat of a run, with a row for each place and room for as many events as the node counts, has room for the node
pub start_room : {P : Type 0} (n : Node) (a : Seen P) (v : View P) (scopes rows splits : ℕ)
    → v ≡ start (Inner 0) (length (places_of n)) (2 * length (places_of n) + 2 * scope_count n + 1) splits → a ≡ record { seat = v; shelf = []; scopes = scopes; rows = rows }
    → first_of (places_of n) ≡ 0 → scope_count n + 1 ≤ scopes → length (places_of n) ≤ rows → HasRoomFor a n
start_room {P = P} n a v scopes rows splits is e first many held =
    let first_view : View P = start (Inner 0) (length (places_of n)) (2 * length (places_of n) + 2 * scope_count n + 1) splits in
    let b : Seen P = record { seat = first_view; shelf = []; scopes = scopes; rows = rows } in
    let h : HasRoomFor b n = record {
      root = all_open first_view 0 refl (inl refl);
      owed = refl;
      opened = refl;
      empty = λ p w. among_run p 0 (length (places_of n)) (omega arith) (omega (arith, w.1, first));
      events = omega arith;
      scopes = omega (arith, many);
      rows = omega (arith, held);
    } in
    subst (λ x. HasRoomFor x n) (sym (e ∙ ap (λ w. let x : Seen P = record { seat = w; shelf = []; scopes = scopes; rows = rows } in x) is)) h

module _ {V F : Type 0} (P : Values → StateMeaning F) (told : V → DeviceTold) (n : Node) (devices : List V) (a : Seen V) (room : HasRoomFor a n) (m z : Stepping V F) (xs : List Element) where
  abbrev Goes : Values → Stepping V F → Type 0
  Goes t b = Gathers P told b m xs → SpendsWithin (around told b.site) (around told m.site) b.rest → Since told (FinishesDevice told) b.site m.site
      → (left : Seen V) (h : How) (ds : List V) → end_by z.how ≡ end_by m.how → TouchesOnly {F = F} (told_at told m.site) (told_at told z.site) Nil → Affords (around told m.site) (around told z.site)
      → Since told (FinishesDevice told) m.site z.site → StepperEnds told z left h ds → used left ≤ left.rows → RanNode told (P t).values n devices a left xs h ds

  goes_begun : (t : Values) (chunk : ℕ) → Goes t (begun n a devices t chunk)
  goes_begun t chunk gathers spends first left h ds how tells affords second end sound =
      let b : Stepping V F = begun n a devices t chunk in
      let since = since_then told (FinishesDevice told) b.site m.site z.site first second in
      let rows : z.site.tree.rows ≡ a.rows = (room_along (omega (arith, room.scopes)) since.calls).2 in
      let ended : end_by m.how ≡ end_by (Some h) = sym how ∙ ap end_by end.how in
      let count : length z.site.slots ≡ length devices = since.places ∙ length-map devices Some in
      let to : z.site.from + length z.site.slots ≡ (span_of n (length devices)).to = omega (arith, since.from, count) in
      let same_rows : left.rows ≡ z.site.tree.rows = ap (λ t. t.rows) end.tree in
      let same_used : used left ≡ used z.site.tree = ap (λ (t : Seen V). used t) end.tree in
      let spare : left.seat.spare ≡ z.site.tree.seat.spare = ap (λ t. t.seat.spare) end.tree in
      record {
        w = told_at told z.site;
        run = subst (λ e. IsToldRun (P t).values (told_at told z.site) n xs e) ended (gathers (told_at told z.site) (record { over = λ p i. tells.others p (λ l. l); goes = tells.goes }));
        same = since.same;
        parted = subst (λ f. Parted told (told_at told z.site) left.shelf (span_of n (length devices)).to f ds) since.from
            (subst (λ t. Parted told (told_at told z.site) left.shelf t z.site.from ds) to end.parted);
        root = end.root;
        exit = end.exit;
        calls = subst (λ t. Called (FinishesDevice told) a [] t) (sym end.tree) since.calls;
        alone = subst (λ (t : Seen V). StaysAlone a.seat t.seat) (sym end.tree) since.alone;
        events = omega (arith, spends.events, affords.events, room.owed, spare);
        rows = omega (arith, spends.rows, affords.rows, rows, same_rows, same_used, sound, room.rows);
      }

  pub goes : (b : Stepping V F) (t : Values) (chunk : ℕ) → b ≡ begun n a devices t chunk → Goes t b
  goes b t chunk e = subst (Goes t) (sym e) (goes_begun t chunk)

-- a node whose places are the first k rows, as many as it has
module _ (k : ℕ) (n : Node) (placed : is_placed (record { from = 0; to = k }) n ≡ true) (count : length (places_of n) ≡ k) where
  pub placed_first : first_of (places_of n) ≡ 0
  placed_first = by (places_of n) refl
    where
      by : (ps : List ℕ) → places_of n ≡ ps → first_of (places_of n) ≡ 0
      by [] e = ap first_of e
      by (p ∷ ps) e =
          let some : 0 < length (places_of n) = omega (arith, ap length e) in
          first_is (places_of n) 0 (placed_distinct (record { from = 0; to = k }) n placed) some
          (λ q i. let w = placed_within (record { from = 0; to = k }) n placed q i in (w.0, omega (arith, w.1, count)))

  pub placed_supplied : {V : Type 0} (told : V → DeviceTold) (devices : List V) → IsSome (node_kind n) → node_count n < 2 ^ 32 → length devices ≡ k
      → ((d : V) → IsAmong d devices → IsUnused (told d)) → EachRead (IsFor told 0 devices mode.Read) n → EachWrite (IsFor told 0 devices mode.Write) n → IsSupplied told n devices
  placed_supplied told devices kind few same unused reads writes =
      let to : k ≡ first_of (places_of n) + length devices = omega (arith, placed_first, same) in
      record {
        kind = kind;
        few = few;
        placed = subst (λ m. is_placed (record { from = first_of (places_of n); to = m }) n ≡ true) to (subst (λ m. is_placed (record { from = m; to = k }) n ≡ true) (sym placed_first) placed);
        count = same ∙ sym count;
        unused = unused;
        reads = subst (λ m. EachRead (IsFor told m devices mode.Read) n) (sym placed_first) reads;
        writes = subst (λ m. EachWrite (IsFor told m devices mode.Write) n) (sym placed_first) writes;
      }
