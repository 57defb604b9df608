-- A job that is over has visited, and sent the texts of the loads of a run.
use Rattle.std.proofs.Common.{◌≡◌, ℕ, suc, ◌+◌, true, false, if◌then◌else◌, List, [], ◌∷◌, map, length, Option, Some, refl, ◌∙◌, subst, ⊎_elim, arith, nat_eq}
use Rattle.std.proofs.lemmas.List.{length-map}
use Rattle.std.specs.List.{IsDistinct}
use Rattle.channel_bounded.specs.declared.message.Msg.{Msg}
use Rattle.chunk_core.specs.Lists.{IsAmong}
use Rattle.chunk_core.specs.Lists.IsAmong.{here, there}
use Rattle.chunk_core.proofs.Members.{among_nil}
use Rattle.chunk_core.specs.Outcomes.{exit_of}
use Rattle.chunk_core.specs.Tables.{Values}
use Rattle.chunk_core.specs.declared.code.How.{How}
use Rattle.device_port.specs.Device.{DeviceTold}
use Rattle.pull_nodes.specs.Shape.{places_of, scope_count}
use Rattle.pull_nodes.specs.declared.node.Node.{Node}
use Rattle.pull_turns.specs.Piping.{StateMeaning}
use Rattle.res_ledger.specs.Order.{firsts}
use Rattle.row_seat.specs.declared.view.View.{View}
use Rattle.row_seat.specs.Views.{IsWithin}
use Rattle.scope_tree.specs.declared.branch.Spent.{Spent}
use Rattle.scope_tree.specs.Calls.{Seen}
use Rattle.scope_tree.specs.Released.{said}
use Rattle.tree_laws.specs.Visits.{IsNewGuest}
use Rattle.pull_stepper.specs.Placing.{first_of}
use Rattle.pull_stepper.specs.Sites.{IsUnused, Parted, pay_of, slot_of, told_at, told_by}
use Rattle.pull_stepper.specs.Stepping.{Stepping, begun}
use Rattle.stream_jobs.specs.Running.{IsEndedJob, Origin}
use Rattle.stream_jobs.specs.Unmade.{IsOfNode}
use Rattle.job_runs.specs.Runs.{HasVisited, JobsEnd}
use Rattle.job_runs.proofs.Visiting.{RunsTree, visited_so}

module _ {V : Type 0} (told : V → DeviceTold) where
  -- a device that nothing was done with, or none, is at 0
  unread : (o : Option V) (p i : ℕ) (ds : List V) → ((d : V) → IsAmong d ds → IsUnused (told d)) → (told_by told (slot_of p i (map Some ds)) o).at ≡ 0
  unread o p i [] h = refl
  unread o p i (d ∷ ds) h =
      elim (nat_eq i p) as (λ b. (told_by told (if b then Some (Some d) else slot_of p (suc i) (map Some ds)) o).at ≡ 0) [ true ↦ (h d (here ds)).at | false ↦ unread o p (suc i) ds (λ x m. h x (there d m)) ]

module _ {V F : Type 0} (told : V → DeviceTold) (P : Values → StateMeaning F) (n : Node) (a : Seen V) (devices : List V) (v : Origin V F) (u : IsOfNode told n a devices v) where
  -- the stream as it began, with its stepper written out
  abbrev w : Origin V F
  w = record v { start = begun n a devices v.start.tables v.start.chunk }

  -- the stepper that ended ran the node in the tree
  runs_tree : (seat : View V) (shelf : List (Spent V)) (unopened : List V) (h : How) (sent : List Msg) (l : IsEndedJob told P w seat shelf unopened h sent) → RunsTree told n devices (told_at told l.last_step.site) a l.last_step.site.tree h unopened
  runs_tree seat shelf unopened h sent l =
      let z = l.last_step in
      let since = l.run.since in
      let end = l.leaves.ended in
      let first = first_of (places_of n) in
      let within : length (map Some devices) ≡ length devices = length-map devices Some in
      let count : length z.site.slots ≡ length devices = since.places ∙ within in
      let to : z.site.from + length z.site.slots ≡ first + length devices = omega (arith, since.from, count) in
      record {
        same = since.same;
        within = λ p. (l.run.goes p).within (let m = unread told (pay_of a p) p first devices u.supplied.unused in omega (arith, m));
        parted = subst (λ f. Parted told (told_at told z.site) z.site.tree.shelf (first + length devices) f unopened) since.from (subst (λ t. Parted told (told_at told z.site) z.site.tree.shelf t z.site.from unopened) to end.parted);
        once = end.once;
        rows = λ x m. ⊎_elim
            (λ i. absurd (among_nil (subst (λ l. IsAmong x l) u.bare i)))
            (λ i. subst (λ k. IsWithin first (first + k) x.row) within i)
            (since.shelf x m);
        root = end.root;
        exits = end.exit;
        calls = since.calls;
        alone = since.alone;
      }

  -- the guest is that of the stream
  new_guest : IsNewGuest a.seat v.stream a.seat.floor v.leased
  new_guest = subst (λ (s : Stepping V F). IsNewGuest s.site.tree.seat v.stream s.site.tree.seat.floor v.leased) u.start u.begun.guest

  left_visited : a.scopes ≡ scope_count n + 1 → (seat : View V) (shelf : List (Spent V)) (unopened : List V) (h : How) (sent : List Msg) (l : IsEndedJob told P w seat shelf unopened h sent)
      → HasVisited told n devices v.stream a.seat.floor v.leased (told_at told l.last_step.site) seat shelf unopened h
  left_visited just seat shelf unopened h sent l =
      let e = l.leaves in
      visited_so told n devices v.stream a.seat.floor v.leased (told_at told l.last_step.site) a l.last_step.site.tree e.last h unopened new_guest u.bare just u.supplied.count (runs_tree seat shelf unopened h sent l) (exit_of h) refl e.cancels e.finalized e.visit.root
      seat shelf e.seat_is e.shelf_is (subst (λ xs. IsDistinct nat_eq (firsts (said xs))) e.shelf_is e.once) e.rest e.leaves

pub jobs_end : {S V F : Type 0} (view : S → View V) (told : V → DeviceTold) (P : Values → StateMeaning F) → JobsEnd view told P
jobs_end view told P n a devices w e u just o =
    let start = begun n a devices w.start.tables w.start.chunk in
    let l : IsEndedJob told P (record w { start = start }) (view e.seat) e.shelf e.unopened e.how e.sender.sent = subst (λ s. IsEndedJob told P (record w { start = s }) (view e.seat) e.shelf e.unopened e.how e.sender.sent) u.start o.left in
    record {
      home = told_at told l.last_step.site;
      visited = left_visited told P n a devices w u just (view e.seat) e.shelf e.unopened e.how e.sender.sent l;
      loads = l.loads;
      filled = l.run.filled;
      run = l.run.run;
      texts = l.texts;
      texts_are = l.texts_are;
      sent = l.said_is;
    }
