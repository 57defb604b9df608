-- A stepper that found no memory to begin is one that was stopped for want of memory before its first turn.
use Rattle.std.proofs.Common.{◌≡◌, ℕ, suc, ◌+◌, ◌≤◌, true, false, if◌then◌else◌, List, [], ◌∷◌, ◌++◌, map, length, Option, Some, refl, sym, ◌∙◌, ap, subst, arith, append-nil, nat_eq}
use Rattle.std.specs.List.{filter_map, IsDistinct}
use Rattle.chunk_core.specs.Lists.{IsAmong}
use Rattle.chunk_core.specs.Lists.IsAmong.{here}
use Rattle.chunk_core.specs.Tables.{Values}
use Rattle.chunk_core.specs.declared.code.Exit.TheVariants as exit
use Rattle.chunk_core.specs.declared.code.How.{How}
use Rattle.chunk_core.specs.declared.code.How.TheVariants as how
use Rattle.chunk_core.proofs.Distinct.{distinct_nil}
use Rattle.chunk_core.proofs.Members.{among_nil}
use Rattle.device_port.specs.Device.{DeviceTold}
use Rattle.pull_nodes.specs.declared.node.Node.{Node}
use Rattle.pull_turns.specs.Around.{Goes}
use Rattle.pull_turns.specs.Piping.{StateMeaning}
use Rattle.pull_turns.specs.declared.rest.Rest.TheVariants as rest
use Rattle.pull_turns.proofs.Kept.{goes_same}
use Rattle.pull_turns.proofs.Led.{cut_unwritten, over_now}
use Rattle.res_ledger.specs.declared.event.StreamNo.TheVariants.{Inner}
use Rattle.res_ledger.specs.Order.{firsts}
use Rattle.row_seat.specs.declared.view.View.{View}
use Rattle.scope_tree.specs.declared.branch.Spent.{Spent}
use Rattle.scope_tree.specs.Calls.{ClosesScope, Seen, TakesRoom}
use Rattle.scope_tree.specs.Released.{said}
use Rattle.scope_tree.specs.Trace.{owed}
use Rattle.scope_tree.proofs.Owning.{owner_pays}
use Rattle.scope_tree.proofs.Use.{closed_now}
use Rattle.tree_laws.specs.Called.Called.{none, closed}
use Rattle.tree_laws.proofs.Alone.{alone_closes}
use Rattle.pull_stepper.specs.Held.{FinishesDevice}
use Rattle.pull_stepper.specs.Sites.{IsClosedDevice, IsUnopened, Parted, SameDevice, Since, Site, around, pay_of, slot_of, told_at, told_by}
use Rattle.pull_stepper.specs.Sites.Parted.{none as no_more, unopened, ended}
use Rattle.pull_stepper.specs.Stepping.{StepperEnds, Stepping, site_of}
use Rattle.pull_stepper.proofs.Beginning.{begun_can, begun_in_order}
use Rattle.pull_stepper.proofs.Closing.{closed_as}
use Rattle.pull_stepper.proofs.Parting.{parted}
use Rattle.stream_jobs.specs.Leaving.{CanLeave, IsVisiting, Leaves}
use Rattle.stream_jobs.specs.Messages.{end_message}
use Rattle.stream_jobs.specs.Running.{IsEndedJob, HasRun, Origin}
use Rattle.stream_jobs.specs.Unmade.{IsOfNode}
use Rattle.stream_jobs.proofs.Advancing.{visiting_at}
use Rattle.stream_jobs.proofs.Runs.{room_to_leave, same_end}
use Rattle.stream_jobs.proofs.Texts.{no_texts}

nothing_in : {A : Type 0} (xs : List A) → ((x : A) → IsAmong x xs → ⊥) → xs ≡ []
nothing_in [] h = refl
nothing_in (x ∷ xs) h = absurd (h x (here xs))

-- all of a list that has no gaps
all_there : {A : Type 0} (xs : List A) → filter_map (λ o. o) (map Some xs) ≡ xs
all_there [] = refl
all_there (x ∷ xs) = ap (λ l. x ∷ l) (all_there xs)

module _ {V : Type 0} (told : V → DeviceTold) where
  -- what the slots tell where no device is away, whatever the tree has
  told_slot : (o q : Option V) (p i : ℕ) (ds : List V) → told_by told (slot_of p i (map Some ds)) o ≡ told_by told (slot_of p i (map Some ds)) q
  told_slot o q p i [] = refl
  told_slot o q p i (d ∷ ds) =
      elim (nat_eq i p) as (λ b. told_by told (if b then Some (Some d) else slot_of p (suc i) (map Some ds)) o ≡ told_by told (if b then Some (Some d) else slot_of p (suc i) (map Some ds)) q) [ true ↦ refl | false ↦ told_slot o q p (suc i) ds ]

  -- devices that tell the same came apart the same
  parted_same : {w v : ℕ → DeviceTold} {shelf : List (Spent V)} {n i : ℕ} {ds : List V} → ((p : ℕ) → w p ≡ v p) → Parted told w shelf n i ds → Parted told v shelf n i ds
  parted_same h no_more = no_more
  parted_same h (unopened {i = i} d e u away t) = unopened d (e ∙ h i) (subst IsUnopened (h i) u) away (parted_same h t)
  parted_same {v = v} h (ended {i = i} x m r e s t) = ended x m r (e ∙ h i) (subst (λ d. IsClosedDevice d x.exit x.ok) (h i) s) (parted_same h t)

module _ {V F : Type 0} (told : V → DeviceTold) (n : Node) (a : Seen V) (devices : List V) (w : Origin V F) (u : IsOfNode told n a devices w) where
  -- the tree is that of the stream
  pub unmade_by : a.seat.by ≡ Inner w.stream
  unmade_by = sym (ap (λ (s : Stepping V F). s.site.tree.seat.by) u.start) ∙ u.begun.guest.by

module _ {V F : Type 0} (told : V → DeviceTold) (P : Values → StateMeaning F) (n : Node) (a b : Seen V) (devices : List V) (w : Origin V F) (u : IsOfNode told n a devices w) (closes : ClosesScope (FinishesDevice told) a 0 exit.Canceled b) (leaves : TakesRoom 0 0 a b)
    (free : a.seat.spare + owed b.seat ≤ b.seat.spare + owed a.seat) (owes : owed b.seat ≡ 0) where
  abbrev first : Site V
  first = site_of n a devices

  abbrev last_site : Site V
  last_site = site_of n b devices

  -- the stepper as it would stand that was stopped at once
  abbrev pub last_unmade : Stepping V F
  last_unmade = record { site = last_site; rest = rest.Start n; tables = w.start.tables; chunk = w.start.chunk; how = Some how.Memory; wanting = true }

  same_told : (p : ℕ) → told_at told first p ≡ told_at told last_site p
  same_told p = told_slot told (pay_of a p) (pay_of b p) p first.from devices

  torn_none : closes.torn.0 ≡ []
  torn_none = nothing_in closes.torn.0 (λ y m. let p = owner_pays y closes.torn.2 m in among_nil (subst (λ l. IsAmong (y.row, p.0) l) u.room.opened p.1))

  bare : b.shelf ≡ []
  bare = closes.torn.1 ∙ (ap (λ xs. a.shelf ++ xs) torn_none ∙ (append-nil a.shelf ∙ u.bare))

  -- each device comes back as it was
  parted_all : Parted told (told_at told last_site) b.shelf (last_site.from + length last_site.slots) last_site.from devices
  parted_all =
      let distinct : IsDistinct nat_eq (firsts (said a.shelf)) = subst (λ l. IsDistinct nat_eq (firsts (said l))) (sym u.bare) distinct_nil in
      let vacant : (r : ℕ) → IsAmong r a.seat.empty → ¬ (IsAmong r (firsts (said a.shelf))) = λ r m i. among_nil (subst (λ l. IsAmong r (firsts (said l))) u.bare i) in
      let all = parted told first (begun_in_order told n a devices u.supplied u.room) u.room.opened distinct vacant in
      parted_same told same_told (subst (λ l. Parted told (told_at told first) l (first.from + length first.slots) first.from devices) (u.bare ∙ sym bare) (subst (λ ds. Parted told (told_at told first) a.shelf (first.from + length first.slots) first.from ds) (all_there devices) all))

  pub unmade_ends : StepperEnds told last_unmade b how.Memory devices
  unmade_ends = record {
    tree = refl;
    how = refl;
    root = closed_now closes;
    exit = closed_as closes u.room.root;
    once = subst (λ l. IsDistinct nat_eq (firsts (said l))) (sym bare) distinct_nil;
    parted = parted_all;
  }

  -- the root alone was closed
  since_first : Since told (FinishesDevice told) first last_site
  since_first = record {
    calls = closed a b 0 exit.Canceled none u.room.root closes;
    alone = alone_closes closes;
    shelf = λ s m. absurd (among_nil (subst (λ l. IsAmong s l) bare m));
    from = refl;
    places = refl;
    same = λ p. subst (SameDevice (told_at told first p)) (same_told p) (record { number = refl; place = refl; present = refl; content = refl });
    taken = λ p e. e;
  }

  -- nothing was given, and the run was cut
  run_none : HasRun told P w last_unmade how.Memory []
  run_none = subst (λ (s : Stepping V F). HasRun told P (record w { start = s }) last_unmade how.Memory []) (sym u.start) (record {
    run = cut_unwritten (P w.start.tables) (around told first) (around told last_site) 0 (rest.Start n) (begun_can told n a devices u.supplied u.room P w.start.tables w.start.chunk u.chunk).step
        (λ p. (ap (λ d. d.written) (sym (same_told p)), ap (λ d. d.write_faults) (sym (same_told p)), ap (λ d. d.read_faults) (sym (same_told p)), ap (λ d. d.open_faults) (sym (same_told p)))) (told_at told last_site) (over_now (told_at told last_site) (rest.Start n));
    filled = tt;
    since = since_first;
    goes = λ p. subst (Goes (told_at told first p)) (same_told p) (goes_same (told_at told first p));
    spends = record {
      events = omega (arith, free, owes, u.room.owed);
      scopes = omega (arith, leaves.opens, leaves.scopes);
      rows = omega (arith, leaves.used, leaves.rows);
    };
  })

  pub unmade_visits : (k : ℕ) (T : List ℕ) → k ≡ w.stream → T ≡ w.leased → IsVisiting told k T w.start.site last_site
  unmade_visits k T stream leased = visiting_at told P k T w last_site stream leased u.begun run_none.since

  pub unmade_leaves : (T : List ℕ) → T ≡ w.leased → CanLeave told T last_site
  unmade_leaves T leased = subst (λ R. CanLeave told R last_site) (sym leased) (room_to_leave told P w last_unmade how.Memory [] u.begun run_none)

  -- so the stream has left, and its end is all that it said
  pub unmade_left : (k : ℕ) (T : List ℕ) → k ≡ w.stream → T ≡ w.leased → (h : How) (seat : View V) (shelf : List (Spent V)) (back : List V) → Leaves told k T w.start.site last_unmade seat shelf back h → IsEndedJob told P w seat shelf back h (end_message k how.Memory ∷ [])
  unmade_left k T stream leased h seat shelf back l =
      let same : how.Memory ≡ h = same_end last_unmade.how how.Memory h refl l.ended.how in
      record {
        begun = u.begun;
        loads = [];
        texts = [];
        texts_are = no_texts;
        said_is = ap (λ j. end_message j how.Memory ∷ []) stream ∙ ap (λ e. end_message w.stream e ∷ []) same;
        last_step = last_unmade;
        run = subst (λ e. HasRun told P w last_unmade e []) same run_none;
        leaves = subst (λ R. Leaves told w.stream R w.start.site last_unmade seat shelf back h) leased (subst (λ j. Leaves told j T w.start.site last_unmade seat shelf back h) stream l);
      }
