-- The rows of the outer stream that have ended, on the shelf of the main tree and on those of the streams that were the last to leave them.
use Rattle.std.proofs.Common.{◌≡◌, ◌≢◌, ◌⊎◌, ◌↔◌, ℕ, ◌<◌, ◌≤◌, Bool, true, false, cond, nat_eq, nat_lt, List, [], ◌∷◌, ◌++◌, inl, inr, map, Some, refl, sym, ◌∙◌, ap, subst, ⊎_elim, arith}
use Rattle.std.proofs.lemmas.Bool.{lt-ltb}
use Rattle.std.specs.List.{IsDistinct}
use Rattle.channel_bounded.specs.Ends.{ReceiverSeen}
use Rattle.chunk_core.specs.Lists.{IsAmong}
use Rattle.chunk_core.specs.Lists.IsAmong.{here, there}
use Rattle.chunk_core.specs.Tables.{Values}
use Rattle.chunk_core.specs.declared.code.How.{How}
use Rattle.chunk_core.proofs.Distinct.{distinct_append, distinct_head, distinct_nil, distinct_tail}
use Rattle.chunk_core.proofs.Filters.{among_append, among_right}
use Rattle.chunk_core.proofs.Members.{among_left, among_nil}
use Rattle.device_port.specs.Device.{DeviceTold}
use Rattle.device_port.specs.Depot.{DepotTold}
use Rattle.join_tale.specs.Tales.{Tale}
use Rattle.join_tree.specs.Settled.{Settles}
use Rattle.pipeline_desc.specs.Meant.{PlanMeant, stream_limit}
use Rattle.pipeline_desc.specs.Places.{first_row, outer_rows}
use Rattle.pipeline_desc.specs.Sound.{IsSoundPlan}
use Rattle.pull_nodes.specs.declared.node.Node.{Node}
use Rattle.pull_stepper.specs.Held.{FinishesDevice}
use Rattle.pull_stepper.specs.Sites.{blank}
use Rattle.pull_turns.specs.Piping.{StateMeaning}
use Rattle.res_ledger.specs.Ledger.{Notes}
use Rattle.res_ledger.specs.Order.{firsts}
use Rattle.res_ledger.specs.declared.event.Event.{Event}
use Rattle.res_ledger.specs.declared.event.StreamNo.TheVariants.{Inner, Outer}
use Rattle.res_ledger.specs.declared.event.What.TheVariants.{Acquire, Final}
use Rattle.res_ledger.proofs.Noted.{flat_found, flat_holds}
use Rattle.row_seat.specs.declared.view.View.{View}
use Rattle.run_rules.specs.Facts.{at}
use Rattle.scope_tree.specs.Calls.{AtStart, Seen}
use Rattle.scope_tree.specs.Released.{said}
use Rattle.scope_tree.specs.declared.branch.Spent.{Spent}
use Rattle.stream_jobs.specs.Running.{Origin}
use Rattle.stream_jobs.specs.declared.job.JobEnd.{JobEnd}
use Rattle.res_ledger.proofs.Mapped.{map_among}
use Rattle.tree_laws.specs.Called.{Called}
use Rattle.tree_laws.specs.Ends.{IsFinishedLedger}
use Rattle.tree_laws.proofs.Along.{called_after}
use Rattle.tree_laws.proofs.Shelved.{shelves_apart}
use Rattle.job_runs.proofs.Closing.{in_row, row_in}
use Rattle.job_runs.specs.Rows.{CoversNone, from_row, to_row}
use Rattle.job_runs.specs.Runs.{RunsJob}
use Rattle.collected.specs.Collected.{IsCollected}
use Rattle.dealt_streams.specs.Kept.{Gone, HasComeBack, IsKept}
use Rattle.dealt_streams.specs.Kept.Gone.{Came, Missed}
use Rattle.dealt_streams.specs.Parts.Part.{Begun}
use Rattle.dealt_streams.specs.declared.leftover.Leftover.{Leftover}
use Rattle.collected.proofs.HeldRows.{IsRow, acquired_below, outer_row_is}
use Rattle.collected.proofs.PlanPlaces.{behind_outer, not_less}
use Rattle.collected.proofs.Rested.{MadeSo, Rested, among_rest, job_of, lent_of, rest_among, rest_of}
use Rattle.collected.proofs.Settling.{ended_row, outer_row, uncovered}
use Rattle.collected.proofs.ShelfHomes.{closed_home, home_on}
use Rattle.collected.proofs.Standing.{first_so, made, zs, zs_apart}
use Rattle.collected.proofs.TableEnds.{CameIn, StandsAt, shelf_noted}

said_both : {P : Type 0} (xs ys : List (Spent P)) → firsts (said (xs ++ ys)) ≡ firsts (said xs) ++ firsts (said ys)
said_both [] ys = refl
said_both (x ∷ xs) ys = ap (λ l. x.row ∷ l) (said_both xs ys)

module _ {V : Type 0} (told : V → DeviceTold) (rows : ℕ) (b : Seen V) (L : List Event) where
  -- what the tree of a stream did from its start, of which the ledger has all that it noted, and on whose shelf these rows of the outer stream stand, which has so many; it acquired none of these itself
  pub record IsTree (z : Rested V) : Type 0 where
    pub first : Seen V
    pub last : Seen V
    pub by : last.seat.by ≡ Inner z.number
    pub start : AtStart first.seat
    pub bare : first.shelf ≡ []
    pub cancelled : List (ℕ × List ℕ)
    pub calls : Called (FinishesDevice told) first cancelled last
    pub finished : IsFinishedLedger last b.seat L
    pub lent_on : (x : Spent V) → IsAmong x z.lent → IsAmong x last.shelf
    pub lent_low : (x : Spent V) → IsAmong x z.lent → x.row < rows
    pub own_high : (r t : ℕ) → Notes L (Inner z.number) (Acquire r t) → rows ≤ r

  -- a stream left no row of the outer stream last, or its tree is such
  abbrev pub HasTree : Rested V → Type 0
  HasTree z = (z.lent ≡ []) ⊎ IsTree z

  lent_row : (z : Rested V) (y : IsTree z) (r : ℕ) → IsAmong r (firsts (said z.lent)) → IsAmong r (firsts (said y.last.shelf))
  lent_row z y r m = let x = in_row r z.lent m in subst (λ k. IsAmong k (firsts (said y.last.shelf))) x.2 (row_in x.0 y.last.shelf (y.lent_on x.0 x.1))

  none_lent : (z : Rested V) (r : ℕ) → z.lent ≡ [] → IsAmong r (firsts (said z.lent)) → ⊥
  none_lent z r e m = among_nil (subst (λ l. IsAmong r (firsts (said l))) e m)

  inner_apart : (j k : ℕ) → j ≢ k → Inner j ≢ Inner k
  inner_apart j k n e = n cc

  -- no row stands on the shelves of two streams
  lents_apart : (y z : Rested V) → HasTree y → HasTree z → y.number ≢ z.number → (r : ℕ) → IsAmong r (firsts (said y.lent)) → IsAmong r (firsts (said z.lent)) → ⊥
  lents_apart y z hy hz n r i j =
      ⊎_elim
      (λ e. none_lent y r e i)
      (λ ty. ⊎_elim
      (λ e. none_lent z r e j)
      (λ tz. shelves_apart b.seat L ty.start ty.bare ty.calls ty.finished tz.start tz.bare tz.calls tz.finished (λ e. inner_apart y.number z.number n (sym ty.by ∙ (e ∙ tz.by))) r (lent_row y ty r i) (lent_row z tz r j))
      hz)
      hy

  pub in_lents : (zs : List (Rested V)) (x : Spent V) → IsAmong x (lent_of told zs) → (z : Rested V) × IsAmong z zs × IsAmong x z.lent
  in_lents zs x m = let f = flat_found (λ (z : Rested V). z.lent) zs x m in (f.0, f.1, f.2)

  pub lents_in : (zs : List (Rested V)) (z : Rested V) (x : Spent V) → IsAmong z zs → IsAmong x z.lent → IsAmong x (lent_of told zs)
  lents_in zs z x i j = flat_holds (λ (y : Rested V). y.lent) z zs x i j

  pub lents_once : (zs : List (Rested V)) → IsDistinct nat_eq (map (λ z. z.number) zs) → ((z : Rested V) → IsAmong z zs → HasTree z × IsDistinct nat_eq (firsts (said z.lent))) → IsDistinct nat_eq (firsts (said (lent_of told zs)))
  lents_once [] d each = distinct_nil
  lents_once (z ∷ zs) d each =
      subst (IsDistinct nat_eq) (sym (said_both z.lent (lent_of told zs)))
      (distinct_append (firsts (said z.lent)) (firsts (said (lent_of told zs))) (each z (here zs)).1 (lents_once zs (distinct_tail z.number (map (λ y. y.number) zs) d) (λ y m. each y (there z m)))
      (λ r i j.
      let x = in_row r (lent_of told zs) j in
      let y = in_lents zs x.0 x.1 in
      lents_apart z y.0 (each z (here zs)).0 (each y.0 (there z y.1)).0 (λ e. distinct_head z.number (map (λ q. q.number) zs) d (subst (λ k. IsAmong k (map (λ q. q.number) zs)) (sym e) (map_among (λ q. q.number) y.0 zs y.1))) r i
      (subst (λ k. IsAmong k (firsts (said y.0.lent))) x.2 (row_in x.0 y.0.lent y.2))))

-- what the Final of a row tells of its device
abbrev final_home : {V : Type 0} → Spent V → DeviceTold
final_home x = record blank { exit = Some x.exit; close_faults = cond x.ok 0 1 }

tells_ok : (ok : Bool) → ok ≡ nat_eq (cond ok 0 1) 0
tells_ok true = refl
tells_ok false = refl

distinct_behind : (xs ys : List ℕ) → IsDistinct nat_eq (xs ++ ys) → IsDistinct nat_eq ys
distinct_behind [] ys d = d
distinct_behind (x ∷ xs) ys d = distinct_behind xs ys (distinct_tail x (xs ++ ys) d)

module _ {S V F : Type 0} (view : S → View V) (told : V → DeviceTold) (P : Values → StateMeaning F) (p : PlanMeant) (limits : IsSoundPlan p) (d0 now : DepotTold) (outer : How) (b : Seen V) (left : List (Leftover V)) (receiver : ReceiverSeen) (tale : Tale) (h : IsCollected view told P p d0 now outer b left receiver tale)
    (L : List Event) (s : Settles p.max_open (stream_limit p) b h.progress L) where
  abbrev made' : (k : ℕ) (n : Node) (ds : List V) (w : Origin V F) → at h.parts k ≡ Some (Begun n ds w) → MadeSo told p k n ds w
  made' = made view told P p d0 now outer b left receiver tale h

  abbrev rest' : (x : Leftover V) (g : Gone S V F) → IsKept view told P h.parts h.progress receiver tale x g → Rested V
  rest' = rest_of view told P p h.parts h.progress receiver tale made'

  abbrev zs' : List (Rested V)
  zs' = zs view told P p d0 now outer b left receiver tale h

  -- a row of the outer stream that has this device
  abbrev pub IsRow' : ℕ → V → Type 0
  IsRow' = IsRow view told P p limits d0 now outer b left receiver tale h

  few : (r t : ℕ) → Notes L Outer (Acquire r t) → r < outer_rows p
  few = acquired_below view told P p limits d0 now outer b left receiver tale h L s

  -- no lease covers a row behind the outer stream's
  pub none_covered : (from to : ℕ) → outer_rows p ≤ from → CoversNone from to L
  none_covered from to l = uncovered p.max_open (stream_limit p) b h.progress L s (outer_rows p) few from to l

  -- the ledger has all that the tree noted whose seat came back
  pub finished_so : (y last : Seen V) → IsAmong y h.progress.back → y.seat ≡ last.seat → IsFinishedLedger last b.seat L
  finished_so y last m e = let f = s.back y m in record { ledger = f.ledger; own = subst (λ (v : View V). (x : Event) → x.by ≡ v.by → IsAmong x b.seat.events ↔ IsAmong x v.events) e f.own }

  -- a stream acquired rows of its own alone
  module _ (x : Leftover V) (n : Node) (ds : List V) (w : Origin V F) (e : JobEnd S V) (k : HasComeBack view told P h.parts h.progress receiver tale x n ds w e) where
    abbrev job : RunsJob told view (P w.start.tables).values n ds w.stream (made' w.stream n ds w k.begun).made.site.seat.floor w.leased e
    job = job_of view told P p h.parts h.progress receiver tale made' x n ds w e k

    first : from_row n ≡ first_row p w.stream
    first = first_so view told P p d0 now outer b left receiver tale h w.stream n ds w k.begun

    behind : outer_rows p ≤ from_row n
    behind = let o = behind_outer p w.stream in omega (arith, o, first)

    lent_low : (y : Spent V) → IsAmong y job.visited.lent → y.row < outer_rows p
    lent_low y m = (made' w.stream n ds w k.begun).made.leased.below y.row (job.visited.leased y m)

    lent_once : IsDistinct nat_eq (firsts (said job.visited.lent))
    lent_once = distinct_behind (firsts (said job.visited.mine)) (firsts (said job.visited.lent)) (subst (IsDistinct nat_eq) (ap (λ l. firsts (said l)) job.visited.parts ∙ said_both job.visited.mine job.visited.lent) job.visited.once)

    -- devices of its rows as they came to be, and of the lent ones as their Finals tell
    abbrev any_home : ℕ → DeviceTold
    any_home q = cond (nat_lt q (from_row n)) (closed_home final_home job.visited.lent (λ r. blank) q) (job.home q)

    own_high : (r t : ℕ) → Notes L (Inner w.stream) (Acquire r t) → outer_rows p ≤ r
    own_high r t m =
        let v = job.visited in
        let share = v.share any_home b.seat L (finished_so k.back v.last k.taken_in (sym k.seat_is ∙ v.seat_is)) s.whole (none_covered (from_row n) (to_row n) behind)
        (λ q i. ap (λ c. cond c (closed_home final_home v.lent (λ r. blank) q) (job.home q)) (not_less q (from_row n) i.0))
        (λ y i.
        let low = lent_low y i in
        let is : any_home y.row ≡ final_home y = ap (λ c. cond c (closed_home final_home v.lent (λ r. blank) y.row) (job.home y.row)) (lt-ltb y.row (from_row n) (omega (arith, low, behind))) ∙ home_on final_home v.lent (λ r. blank) lent_once y i in
        (ap (λ (d : DeviceTold). d.exit) is, tells_ok y.ok ∙ ap (λ (d : DeviceTold). nat_eq d.close_faults 0) (sym is))) in
        let a = (share.acquired r t m).0 in
        omega (arith, a, behind)

    tree : HasTree told (outer_rows p) b L (rest' x (Came n ds w e) k) × IsDistinct nat_eq (firsts (said (rest' x (Came n ds w e) k).lent))
    tree =
        let v = job.visited in (
          inr (record {
            first = v.visit.first;
            last = v.last;
            by = (called_after v.visit.calls).by ∙ v.visit.guest.by;
            start = v.visit.guest.start;
            bare = v.bare;
            cancelled = (w.stream, w.leased) ∷ [];
            calls = v.visit.calls;
            finished = finished_so k.back v.last k.taken_in (sym k.seat_is ∙ v.seat_is);
            lent_on = λ y m. subst (λ l. IsAmong y l) (sym v.parts ∙ v.shelf_is) (among_right y v.mine v.lent m);
            lent_low = lent_low;
            own_high = own_high;
          }),
          lent_once,
        )

  tree_of : (x : Leftover V) (g : Gone S V F) (k : IsKept view told P h.parts h.progress receiver tale x g) → HasTree told (outer_rows p) b L (rest' x g k) × IsDistinct nat_eq (firsts (said (rest' x g k).lent))
  tree_of x (Came n ds w e) k = tree x n ds w e k
  tree_of x (Missed k ds) e = (inl refl, distinct_nil)

  pub has_tree : (z : Rested V) → IsAmong z zs' → HasTree told (outer_rows p) b L z × IsDistinct nat_eq (firsts (said z.lent))
  has_tree z m =
      let r = among_rest view told P p h.parts h.progress receiver tale made' left h.streams.gone h.streams.kept z m in
      subst (λ y. HasTree told (outer_rows p) b L y × IsDistinct nat_eq (firsts (said y.lent))) (sym r.4) (tree_of r.0 r.1 r.2)

  -- the rows that have ended
  abbrev pub shelf : List (Spent V)
  shelf = b.shelf ++ lent_of told zs'

  pub once : IsDistinct nat_eq (firsts (said shelf))
  once =
      subst (IsDistinct nat_eq) (sym (said_both b.shelf (lent_of told zs')))
      (distinct_append (firsts (said b.shelf)) (firsts (said (lent_of told zs'))) h.once (lents_once told (outer_rows p) b L zs' (zs_apart view told P p d0 now outer b left receiver tale h) has_tree)
      (λ r i j.
      let x = in_row r (lent_of told zs') j in
      let y = in_lents told (outer_rows p) b L zs' x.0 x.1 in
      ⊎_elim
      (λ e. among_nil (subst (λ l. IsAmong x.0 l) e y.2))
      (λ z.
      let own : IsFinishedLedger b b.seat L = record { ledger = s.ledger; own = λ e by. (λ m. m, λ m. m) } in
      shelves_apart b.seat L h.main.family.start h.main.shelf h.main.family.calls own z.start z.bare z.calls z.finished (λ e. outer_inner y.0.number (sym h.main.by ∙ (e ∙ z.by))) r i
      (subst (λ k. IsAmong k (firsts (said z.last.shelf))) x.2 (row_in x.0 z.last.shelf (z.lent_on x.0 y.2))))
      (has_tree y.0 y.1).0))
    where
      outer_inner : (k : ℕ) → Outer ≢ Inner k
      outer_inner k e = cc

  -- what the tree of a stream did whose seat came back
  pub guests : (y : Seen V) → IsAmong y h.progress.back → CameIn (FinishesDevice told) b y
  guests y m =
      let g = h.streams.home y m in
      let r = rest_among view told P p h.parts h.progress receiver tale made' left h.streams.gone h.streams.kept (Came g.0 g.1 g.2 g.3) g.4 in
      let v = (job_of view told P p h.parts h.progress receiver tale made' r.0 g.0 g.1 g.2 g.3 r.1).visited in
      let same : y.seat ≡ v.last.seat = g.5 ∙ v.seat_is in
      record {
        first = v.visit.first;
        last = v.last;
        seat = same;
        start = v.visit.guest.start;
        bare = v.bare;
        cancelled = (g.2.stream, g.2.leased) ∷ [];
        calls = v.visit.calls;
        given = λ z i. h.streams.given y m z (subst (λ (u : View V). IsAmong z u.given) (sym same) i);
      }

  -- a row that ended by the main tree, or by a stream that was the last to leave it, is one of the outer stream's
  main_row : (x : Spent V) → IsAmong x b.shelf → (d : V) × IsRow' x.row d
  main_row x m =
      let n = shelf_noted (FinishesDevice told) h.main.family.first b h.main.family.cancelled h.main.family.start h.main.shelf h.main.family.calls x m in
      let final : Notes L Outer (Final x.row x.exit x.ok) = (n.0, (s.ledger.whole n.0).1 n.1, n.2 ∙ h.main.by, n.3) in
      let a = outer_row p.max_open (stream_limit p) b h.progress L s x.row x.exit x.ok final in
      outer_row_is view told P p limits d0 now outer b left receiver tale h L s x.row a.0 a.1

  tree_row : (z : Rested V) (x : Spent V) → IsAmong x z.lent → IsTree told (outer_rows p) b L z → (d : V) × IsRow' x.row d
  tree_row z x m t =
      let n = shelf_noted (FinishesDevice told) t.first t.last t.cancelled t.start t.bare t.calls x (t.lent_on x m) in
      let in_ledger = (t.finished.ledger.whole n.0).1 ((t.finished.own n.0 n.2).1 n.1) in
      let final : Notes L (Inner z.number) (Final x.row x.exit x.ok) = (n.0, in_ledger, n.2 ∙ t.by, n.3) in
      ⊎_elim
      (λ a. absurd (let low = t.lent_low x m in let high = t.own_high x.row a.0 a.1 in omega (arith, low, high)))
      (λ a. outer_row_is view told P p limits d0 now outer b left receiver tale h L s x.row a.0 a.1)
      (ended_row p.max_open (stream_limit p) b h.progress L s (Inner z.number) x.row x.exit x.ok final)

  pub below : (x : Spent V) → IsAmong x shelf → (d : V) × IsRow' x.row d
  below x m =
      ⊎_elim
      (λ i. main_row x i)
      (λ i.
      let z = in_lents told (outer_rows p) b L zs' x i in
      ⊎_elim (λ e. absurd (among_nil (subst (λ l. IsAmong x l) e z.2))) (λ t. tree_row z.0 x z.2 t) (has_tree z.0 z.1).0)
      (among_append x b.shelf (lent_of told zs') m)

  -- a row of the outer stream that has ended stands there
  pub all_there : (x : Spent V) → StandsAt told p.max_open (stream_limit p) b h.progress L h.main s guests x → x.row < outer_rows p → IsAmong x shelf
  unfolding guests
  all_there x (inl m) l = among_left (lent_of told zs') m
  all_there x (inr (y, m, i)) l =
      let g = h.streams.home y m in
      let r = rest_among view told P p h.parts h.progress receiver tale made' left h.streams.gone h.streams.kept (Came g.0 g.1 g.2 g.3) g.4 in
      let v = (job_of view told P p h.parts h.progress receiver tale made' r.0 g.0 g.1 g.2 g.3 r.1).visited in
      let w = g.2 in
      let first : from_row g.0 ≡ first_row p w.stream = first_so view told P p d0 now outer b left receiver tale h w.stream g.0 g.1 w r.1.begun in
      let outer' = behind_outer p w.stream in
      ⊎_elim
      (λ j. absurd (let a = (v.stood x j).0.0 in omega (arith, a, first, l, outer')))
      (λ j. among_right x b.shelf (lent_of told zs') (lents_in told (outer_rows p) b L zs' (rest' r.0 (Came g.0 g.1 g.2 g.3) r.1) x r.2 j))
      (among_append x v.mine v.lent (subst (λ q. IsAmong x q) (sym v.shelf_is ∙ v.parts) i))
