-- A rotation is over, and its devices go back.
use Rattle.std.proofs.Common.{◌≡◌, ◌≢◌, ◌↔◌, ◌⊎◌, ℕ, zero, suc, ◌+◌, ◌*◌, ◌<◌, ◌≤◌, false, true, List, [], ◌∷◌, ◌++◌, length, map, Option, Some, None, IfSome, Result, refl, sym, ap, ◌∙◌, subst, ⊎_elim, arith}
use Rattle.std.proofs.lemmas.List.Sorted.{IsPermutation-refl, IsPermutation-trans}
use Rattle.std.specs.List.{AllByRecursion}
use Rattle.std.specs.List.Sorted.{IsPermutation}
use Rattle.chunk_core.specs.Lists.{IsAmong}
use Rattle.chunk_core.specs.Outcomes.{exit_of}
use Rattle.chunk_core.specs.declared.code.Code.{Code}
use Rattle.chunk_core.specs.declared.code.Code.TheVariants as code
use Rattle.chunk_core.specs.declared.code.Exit.{Exit}
use Rattle.chunk_core.specs.declared.code.How.{How}
use Rattle.chunk_core.specs.declared.code.How.TheVariants as how
use Rattle.chunk_core.proofs.Members.{among_cons, among_nil}
use Rattle.device_port.specs.Device.{DeviceTold, Place, to_read}
use Rattle.device_port.specs.Depot.{DepotTold}
use Rattle.res_ledger.specs.declared.event.Event.{Event}
use Rattle.res_ledger.specs.declared.event.StreamNo.TheVariants.{Inner}
use Rattle.res_ledger.specs.declared.event.What.{What}
use Rattle.res_ledger.specs.Own.{closes, opens}
use Rattle.row_seat.specs.declared.view.View.{View}
use Rattle.row_seat.specs.Views.{IsLedgerOf}
use Rattle.run_rules.specs.Devices.{KeepsToWhatIsThere}
use Rattle.run_rules.specs.Ends.{act_count}
use Rattle.run_rules.specs.Facts.{at, is_memory}
use Rattle.run_rules.specs.Homes.{is_tried}
use Rattle.pull_turns.specs.Led.{end_of}
use Rattle.scope_tree.specs.declared.branch.Spent.{Spent}
use Rattle.scope_tree.specs.Calls.{Seen}
use Rattle.scope_tree.specs.Released.{said}
use Rattle.scope_tree.specs.Trace.{trace}
use Rattle.tree_laws.specs.Called.Called.{none}
use Rattle.tree_laws.proofs.Alone.{alone_same}
use Rattle.hot_swap.proofs.Holding.{root_open}
use Rattle.stream_parts.specs.Retire.{MayReturnAll, Returns, devices_of}
use Rattle.stream_parts.proofs.Exchanged.{may_permuted}
use Rattle.cat_run.specs.declared.outcome.Outcome.{Outcome}
use Rattle.lone_stream.specs.Account.{IsAccount}
use Rattle.cat_run.specs.Cat.{run_record_of}
use Rattle.lone_stream.proofs.ComingBack.{back_there}
use Rattle.rotate_rules.specs.Pieces.{IsFront, Rotated, rotate_places}
use Rattle.rotate_rules.specs.Rotation.{HoldsTwo, RotatesFiles, TellsFaults}
use Rattle.rotate_files.specs.Beginning.{IsUnused}
use Rattle.rotate_files.specs.Told.{HasMade, unopened_device}
use Rattle.rotate_run.specs.Homes.{AreLeft, AreShelved, IsLeft, devices_by_row, home_of}
use Rattle.rotate_run.specs.Rans.{ClosesEither, ClosesRotation, ClosesUnopened, how_of, unopened_of, waiting_of}
use Rattle.rotate_run.proofs.Came.{Came, came}
use Rattle.rotate_run.proofs.Closings.{none_noted}
use Rattle.rotate_run.proofs.Contents.{rotated, shelved, shown, size, unhalted}
use Rattle.rotate_run.proofs.Left.{calm_past, comes_back, devices_permuted, home_here, may_return, shelf_tells, told_back, tried_back, untouched_past}
use Rattle.rotate_run.proofs.Lists.{some_is}
use Rattle.rotate_run.proofs.Noting.{accounts, holds_none, holds_swaps}
use Rattle.rotate_run.proofs.Performing.{IsOver, performs, rotates}
use Rattle.rotate_run.proofs.Places.{ArePlaces, rotation_places}
use Rattle.rotate_run.proofs.Shelving.{left_unopened, spends}

front_none : (o : Option (List ℕ)) → IfSome o (λ c. IsFront [] c)
front_none None = tt
front_none (Some c) = (c, refl)

module _ {V : Type 0} (told : V → DeviceTold) (old : DepotTold) (path prefix : List ℕ) (n : ℕ) (places : List Place) (ps : ArePlaces path prefix places) where
  -- what a rotation left before its devices go back
  pub record Leaves (now : DepotTold) (h : How) (shelf : List (Spent V)) (unopened : List V) (L : List Event) : Type 0 where
    pub spents : List (Spent V)
    pub stands : AreShelved places old told h spents shelf unopened
    pub more : ℕ
    pub count : length (devices_by_row told spents unopened) ≡ suc more
    pub few : more ≤ 1024
    pub made : HasMade old path prefix more now
    pub account : IsAccount (length places) 1024 (home_of places old (devices_by_row told spents unopened)) h L
    pub two : HoldsTwo L
    pub held : Rotated n (home_of places old (devices_by_row told spents unopened)) (end_of h)
    pub goes_on : h ≢ how.Halted
    pub shows : (c : Code) → h ≡ how.Fault c → IfSome (act_count c) (λ m. (r : ℕ) × (r < length places) × (0 < m (home_of places old (devices_by_row told spents unopened) r)))

  module _ (now : DepotTold) (h : How) (v : View V) (shelf : List (Spent V)) (L : List Event) (ledger : IsLedgerOf v L) where
    -- the file that is read was copied
    leaves_copied : (u : Option V) → 1 ≤ n → ClosesRotation told old prefix n path now v shelf h u → Leaves now h shelf (waiting_of u) L
    leaves_copied u one c =
        let us : List V = waiting_of u in
        let same : waiting_of u ≡ waiting_of (unopened_of c.copied) = ap waiting_of c.device in
        let k0 = came told old prefix n path c.tree c.held now one c.files c.left c.copied c.copies in
        let k : Came told old prefix n path c.tree c.held now h us = subst (λ l. Came told old prefix n path c.tree c.held now h l) (sym same) (subst (λ e. Came told old prefix n path c.tree c.held now e (waiting_of (unopened_of c.copied))) (sym c.how) k0) in
        let r = k.rotating in
        let s = spends told old prefix n path (exit_of h) c.tree (record c.tree { seat = v; shelf = shelf }) c.held k.files k.given k.written k.writes k.src k.read k.ended k.reads k.device r c.ends in
        let stands = shelved told old path prefix n places ps c.tree c.held now h (exit_of h) us k shelf s.0 s.1 in
        let opened : length (opens (trace c.tree.seat)) ≤ 1024 = (let o = r.opens in let f = r.few in omega (arith, o, f)) in
        record {
          spents = s.0;
          stands = stands;
          more = k.files + length us;
          count = size told old path prefix n places ps c.tree c.held now h (exit_of h) us k shelf s.0 s.1;
          few = k.few;
          made = k.made;
          account = accounts told r.first c.tree r.start r.named r.bare r.calls r.alone opened (root_open c.tree c.held r.holding) r.holding.root h (exit_of h) refl v shelf L c.closes c.root (said c.ends.ended) c.ends.noted ledger (length places) (home_of places old (devices_by_row told s.0 us))
              (shelf_tells told places old h s.0 shelf us stands);
          two = holds_swaps told r.first c.tree r.start r.named r.bare r.calls r.alone opened (root_open c.tree c.held r.holding) r.holding.root h (exit_of h) refl v shelf L c.closes c.root (said c.ends.ended) c.ends.noted ledger r.swaps r.noted r.swapped;
          held = rotated told old path prefix n places ps c.tree c.held now h (exit_of h) us k shelf s.0 s.1;
          goes_on = unhalted told old path prefix n places ps c.tree c.held now h (exit_of h) us k shelf s.0 s.1;
          shows = shown told old path prefix n places ps c.tree c.held now h (exit_of h) us k shelf s.0 s.1;
        }

    open_fault : (h : How) → h ≡ how.Fault code.Open → h ≢ how.Halted
    open_fault h e f = let z : how.Fault code.Open ≡ how.Halted = sym e ∙ f in cc

    module _ (a : Seen V) (d : V) (unused : IsUnused a) (is : told d ≡ unopened_device old 0 (to_read path)) (made : HasMade old path prefix 0 now) (u : Option V) (c : ClosesUnopened told d a v shelf h u) where
      abbrev ds : List DeviceTold
      ds = told d ∷ []

      abbrev w : ℕ → DeviceTold
      w = home_of places old ds

      first_left : IsLeft places old h 0 (told d) × ((told d).opens ≡ 0)
      first_left = left_unopened places old h 0 (to_read path) (told d) ps.first is c.how

      left_one : AreLeft places old h ds
      left_one = record { few = (let m = ps.count in omega (arith, m)); each = each_one }
        where
          each_one : (r : ℕ) (x : DeviceTold) → at ds r ≡ Some x → IsLeft places old h r x
          each_one zero x e = subst (IsLeft places old h 0) (some_is (told d) x e) first_left.0
          each_one (suc r) x e = absurd cc

      none_stands : AreShelved places old told h [] shelf (d ∷ [])
      none_stands = record {
        same = subst (λ l. IsPermutation [] l) (sym c.bare) (IsPermutation-refl []);
        each = λ r x e. absurd cc;
        waits = λ x m. ⊎_elim (λ e. ap (λ y. (told y).opens) e ∙ first_left.1) (λ z. absurd (among_nil z)) (among_cons m);
        left = left_one;
      }

      never_opened : (i : ℕ) → (w (suc i)).opens ≡ 0
      never_opened i = (untouched_past places old h ds left_one (suc i) (omega arith)).opens

      nothing_held : Rotated n w (end_of h)
      nothing_held = subst (λ e. Rotated n w (end_of e)) (sym c.how) (record {
        given = [];
        files = 0;
        few = omega arith;
        front = front_none (w 0).content;
        opened = λ i m. (λ l. absurd (omega arith), λ e. let z : suc i ≡ 1 + i = omega arith in let o = ap (λ k. (w k).opens) z in let f = never_opened i in absurd (omega (arith, o, f, e)));
        enough = λ i. (λ l. absurd (omega arith), λ l. absurd (omega arith));
        whole = λ i l. absurd (omega arith);
        last = λ i l. absurd (omega arith);
        says = tt;
      })

      opens_shown : (x : Code) → x ≡ code.Open → IfSome (act_count x) (λ m. (r : ℕ) × (r < length places) × (0 < m (w r)))
      opens_shown x e =
          let f : (w 0).open_faults ≡ 1 = ap (λ (y : DeviceTold). y.open_faults) (home_here places old h ds left_one 0 (told d) refl ∙ is) in
          let m = ps.count in
          subst (λ y. IfSome (act_count y) (λ k. (r : ℕ) × (r < length places) × (0 < k (w r)))) (sym e) (0, omega (arith, m), omega (arith, f))

      same_code : (x y : Code) → how.Fault x ≡ how.Fault y → y ≡ x
      same_code x y e = cc

      leaves_one : Leaves now h shelf (d ∷ []) L
      leaves_one =
          let none_here : trace a.seat ≡ [] = none_noted a unused in
          let opened : length (opens (trace a.seat)) ≤ 1024 = (let o = ap (λ (E : List What). length (opens E)) none_here in omega (arith, o)) in
          let never : ¬ (IsAmong 0 (closes (trace a.seat))) = λ m. among_nil (subst (λ (E : List What). IsAmong 0 (closes E)) none_here m) in
          let exit = ap exit_of (sym c.how) in
          record {
            spents = [];
            stands = none_stands;
            more = 0;
            count = refl;
            few = omega arith;
            made = made;
            account = accounts told a a unused.start unused.named unused.shelf none (alone_same a.seat) opened unused.root never h _ exit v shelf L c.closes c.root (said c.ends.ended) c.ends.noted ledger (length places) w (shelf_tells told places old h [] shelf (d ∷ []) none_stands);
            two = holds_none told a a unused.start unused.named unused.shelf none (alone_same a.seat) opened unused.root never h _ exit v shelf L c.closes c.root (said c.ends.ended) c.ends.noted ledger none_here;
            held = nothing_held;
            goes_on = open_fault h c.how;
            shows = λ x e. opens_shown x (same_code code.Open x (sym c.how ∙ e));
          }

      leaves_unopened : Leaves now h shelf (waiting_of u) L
      leaves_unopened = subst (λ (o : Option V). Leaves now h shelf (waiting_of o) L) (sym c.device) leaves_one

    pub leaves : (u : Option V) → 1 ≤ n → ClosesEither told old prefix n path now v shelf h u → Leaves now h shelf (waiting_of u) L
    leaves u one e = ⊎_elim (λ t. leaves_unopened t.0 t.1 t.2 t.3 t.4 u t.5) (λ c. leaves_copied u one c) e

  module _ (now : DepotTold) (h : How) (shelf : List (Spent V)) (unopened : List V) (o : Outcome) (q : Leaves now h shelf unopened o.ledger) where
    abbrev row_ds : List DeviceTold
    row_ds = devices_by_row told q.spents unopened

    permuted : IsPermutation row_ds (devices_of told shelf unopened)
    permuted = devices_permuted told places old h q.spents shelf unopened q.stands

    -- its devices may go back
    pub may_go_back : MayReturnAll now (devices_of told shelf unopened)
    may_go_back = may_permuted now row_ds (devices_of told shelf unopened) permuted (may_return places old h row_ds q.stands.left path prefix ps now q.more q.count q.few q.made)

    -- and when they are back, it is over
    pub is_over : ((d : V) → KeepsToWhatIsThere (told d)) → (new : DepotTold) → Returns now new (devices_of told shelf unopened) → o.ends ≡ (record { who = Inner 0; how = h }) ∷ [] → o.memory ≡ is_memory h → IsOver places n old new (home_of places old row_ds) h o
    is_over there new back ends memory =
        let each : IsPermutation row_ds back.back = IsPermutation-trans row_ds (devices_of told shelf unopened) back.back permuted back.each in
        let come = comes_back places old h row_ds q.stands.left path prefix ps now q.more q.count q.few q.made new back.back back.exchanges each (back_there told there shelf unopened back.back back.each) in
        record {
          devices = come;
          account = q.account;
          two = q.two;
          rotated = q.held;
          unhalted = q.goes_on;
          shown = q.shows;
          calm = calm_past places old h row_ds q.stands.left;
          tried = tried_back places old h row_ds q.stands.left path prefix ps now q.more q.count q.few q.made new back.back back.exchanges each;
          told = told_back places old h row_ds q.stands.left path prefix ps now q.more q.count q.few q.made new back.back back.exchanges each;
          ends = ends;
          memory = memory;
        }
