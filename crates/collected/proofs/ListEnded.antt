-- How the list of a plan's collector came out.
use Rattle.std.proofs.Common.{◌≡◌, ◌⊎◌, ℕ, ◌+◌, ◌-◌, ◌<◌, ◌≤◌, ◌^◌, true, false, List, [], inl, inr, length, take, Option, Some, None, Result, Ok, Err, IfSome, refl, sym, ◌∙◌, ap, subst, ⊎_elim, arith}
use Rattle.std.proofs.lemmas.Bool.{false≢true}
use Rattle.std.specs.Str.Lossy.{utf8_valid_len}
use Rattle.channel_bounded.specs.Ends.{ReceiverSeen}
use Rattle.chunk_core.specs.Lists.{IsAmong}
use Rattle.chunk_core.specs.Lists.IsAmong.{here}
use Rattle.chunk_core.specs.Outcomes.{Cut, Done, End, Fault}
use Rattle.chunk_core.specs.Tables.{Values}
use Rattle.chunk_core.specs.declared.code.Code.{Code}
use Rattle.chunk_core.specs.declared.code.Code.TheVariants as code
use Rattle.chunk_core.specs.declared.code.How.{How}
use Rattle.device_port.specs.Device.{Place, DeviceTold, faults_of, to_read}
use Rattle.device_port.specs.Depot.{DepotTold}
use Rattle.join_tale.specs.Tales.{Tale}
use Rattle.join_tree.specs.Settled.{Settles}
use Rattle.outer_tables.specs.Devices.{new_device, unopened as never_opened}
use Rattle.outer_tables.specs.Whole.{WasRead}
use Rattle.outer_tables.specs.declared.not_read.NotRead.{NotRead}
use Rattle.outer_tables.specs.declared.not_read.NotRead.TheVariants as why
use Rattle.pipeline_desc.specs.Meant.{PlanMeant, stream_limit}
use Rattle.pipeline_desc.specs.Sound.{IsSoundPlan}
use Rattle.pipeline_desc.specs.declared.listing.ListSpec.{ListSpec}
use Rattle.plan_work.specs.Listed.{ListRuns, lines_ended, lister_of}
use Rattle.pull_nodes.specs.Lines.{ended_lines, without_pairs}
use Rattle.pull_turns.specs.Piping.{StateMeaning}
use Rattle.res_ledger.specs.Ledger.{IsAcquired}
use Rattle.res_ledger.specs.declared.event.Event.{Event}
use Rattle.res_ledger.specs.declared.event.StreamNo.TheVariants.{Outer}
use Rattle.row_seat.specs.declared.view.View.{View}
use Rattle.run_rules.specs.Homes.{is_tried}
use Rattle.run_rules.specs.Listing.{IsListing, IsReadInTime}
use Rattle.run_rules.specs.Opening.{IsListFault}
use Rattle.scope_tree.specs.Calls.{Seen}
use Rattle.joined_runs.proofs.OuterFaults.{if_there}
use Rattle.collected.specs.Collected.{IsCollected}
use Rattle.dealt_streams.specs.Moves.{opened_of}
use Rattle.dealt_streams.specs.Standing.{StandsList, list_end}
use Rattle.dealt_streams.specs.Standing.StandsList.{unopened, failed, lacking, held}
use Rattle.dealt_streams.specs.declared.leftover.Leftover.{Leftover}
use Rattle.collected.proofs.Core.{W, ahead_bare, homes', lines', row_closed, rows}
use Rattle.collected.proofs.HeldRows.{IsListHeld, now_held, opens_at}
use Rattle.collected.proofs.HeldRows.IsOuter.{list}
use Rattle.collected.proofs.ListTold.{closed_in_time, closed_listing, failed_listing, left_listing}
use Rattle.collected.proofs.OwnRows.{bare_home}
use Rattle.collected.proofs.PlanPlaces.{list_there}
use Rattle.collected.proofs.Rows.{bare_at, bare_row}
use Rattle.collected.proofs.Shelves.{guests}
use Rattle.collected.proofs.TableEnds.{acquired_so}
use Rattle.collected.proofs.TableHomes.{closed_field}

-- in nothing no line ends
nothing_ended : lines_ended [] ≡ 0
unfolding utf8_valid_len without_pairs ended_lines
nothing_ended = refl

-- of a device that wasn't read no line was read too early
fresh_time : (p : PlanMeant) (lines : List (List ℕ)) (l : ListSpec) (d : DeviceTold) → d.at ≡ 0 → d.ended ≡ false → IsReadInTime (lister_of p lines l) d
fresh_time p lines l d at_start unended = record { needed = needed d.content; ended = λ e. absurd (false≢true (sym unended ∙ e)) }
  where
    needed : (o : Option (List ℕ)) → IfSome o (λ bytes. lines_ended (take (d.at - 4096) bytes) ≤ length lines)
    needed None = tt
    needed (Some bytes) = let none : lines_ended (take (0 - 4096) bytes) ≡ 0 = nothing_ended in subst (λ k. lines_ended (take (k - 4096) bytes) ≤ length lines) (sym at_start) (omega (arith, none))

done_cut : Done ≡ Cut → ⊥
done_cut e = cc

done_fault : (c : Code) → Done ≡ Fault c → ⊥
done_fault c e = cc

cut_fault : (c : Code) → Cut ≡ Fault c → ⊥
cut_fault c e = cc

same_fault : (f g : Code) → Fault f ≡ Fault g → f ≡ g
same_fault f g e = cc

module _ {S V F : Type 0} (view : S → View V) (told : V → DeviceTold) (P : Values → StateMeaning F) (p : PlanMeant) (limits : IsSoundPlan p) (d0 now : DepotTold) (outer : How) (b : Seen V) (left : List (Leftover V)) (receiver : ReceiverSeen) (tale : Tale) (h : IsCollected view told P p d0 now outer b left receiver tale)
    (L : List Event) (s : Settles p.max_open (stream_limit p) b h.progress L) where
  abbrev lines'' : List (List ℕ)
  lines'' = lines' view told P p limits d0 now outer b left receiver tale h L s

  abbrev W' : ℕ → DeviceTold
  W' = W view told P p limits d0 now outer b left receiver tale h L s

  abbrev all' : List Place
  all' = rows view told P p limits d0 now outer b left receiver tale h L s

  abbrev row : ℕ
  row = length p.tables

  -- The list, whose lines end so: its device tells of its reading, which went no further than was needed. Something was done with it only if it was tried, and nothing failed of it where its lines are cut.
  pub record ListSo (l : ListSpec) (g : End) : Type 0 where
    pub listing : IsListing (lister_of p lines'' l) (ListRuns (W' row)) g
    pub in_time : IsReadInTime (lister_of p lines'' l) (W' row)
    pub seen : (g ≡ Cut) ⊎ (0 < (W' row).opens + faults_of (W' row))
    pub unfailed : g ≡ Cut → ((W' row).open_faults ≡ 0) × ((W' row).read_faults ≡ 0)
    pub told_so : (f : Code) → g ≡ Fault f → IsListFault (W' row) f
    pub acquired : g ≡ Done → IsAcquired L row
    pub within : (W' row).at ≤ 2 ^ 40
    pub tried : is_tried (W' row) ≡ true → (r : Result V NotRead) × IsAmong r (opened_of h.moves)
    pub stopped : (f : Code) → g ≡ Fault f → (r : Result V NotRead) × IsAmong r (opened_of h.moves)

  -- no device was made for it
  bare_list : (l : ListSpec) (g : End) → lines'' ≡ [] → g ≡ Cut → W' row ≡ bare_home d0.files (to_read l.path) → ListSo l g
  bare_list l g none cut is = record {
    listing = subst (λ x. IsListing (lister_of p lines'' l) (ListRuns (W' row)) x) (sym cut) (left_listing (lister_of p lines'' l) (W' row) none);
    in_time = fresh_time p lines'' l (W' row) (ap (λ (d : DeviceTold). d.at) is) (ap (λ (d : DeviceTold). d.ended) is);
    seen = inl cut;
    unfailed = λ c. (ap (λ (d : DeviceTold). d.open_faults) is, ap (λ (d : DeviceTold). d.read_faults) is);
    told_so = λ f e. absurd (cut_fault f (sym cut ∙ e));
    acquired = λ e. absurd (done_cut (sym e ∙ cut));
    within = let a = ap (λ (d : DeviceTold). d.at) is in omega (arith, a);
    tried = λ t. absurd (false≢true (sym (ap is_tried is) ∙ t));
    stopped = λ f e. absurd (cut_fault f (sym cut ∙ e));
  }

  -- it could not be opened
  failed_list : (l : ListSpec) (g : End) (f : Code) (n : ℕ) → lines'' ≡ [] → g ≡ Fault f → f ≡ code.Open → W' row ≡ never_opened (new_device d0.files n l.path) → IsAmong (Err (why.Fault f)) (opened_of h.moves) → ListSo l g
  failed_list l g f n none end open' is m =
      let faults = ap (λ (d : DeviceTold). d.open_faults) is in
      record {
        listing = subst (λ x. IsListing (lister_of p lines'' l) (ListRuns (W' row)) x) (sym (end ∙ ap Fault open')) (failed_listing (lister_of p lines'' l) (W' row) none (ap (λ (d : DeviceTold). d.opens) is) faults);
        in_time = fresh_time p lines'' l (W' row) (ap (λ (d : DeviceTold). d.at) is) (ap (λ (d : DeviceTold). d.ended) is);
        seen = inr (omega (arith, faults));
        unfailed = λ c. absurd (cut_fault f (sym c ∙ end));
        told_so = λ c e. inl (faults, same_fault c f (sym e ∙ end) ∙ open');
        acquired = λ e. absurd (done_fault f (sym e ∙ end));
        within = let a = ap (λ (d : DeviceTold). d.at) is in omega (arith, a);
        tried = λ t. (Err (why.Fault f), m);
        stopped = λ c e. (Err (why.Fault f), m);
      }

  -- it was opened, and read for some way
  held_list : (l : ListSpec) (g : End) (first d : V) (faults : ℕ) → IsAmong (Ok first) (opened_of h.moves) → WasRead faults (told first) (told d) → (faults ≡ 0) ⊎ (g ≡ Fault code.Read) → IsListing (lister_of p lines'' l) (ListRuns (told d)) g → IsReadInTime (lister_of p lines'' l) (told d)
      → (q : IsListHeld told b row first d) → (told d).at ≤ 2 ^ 40 → (told first).read_faults ≡ 0 → ListSo l g
  held_list l g first d faults m was calm lists in_time q within none_failed =
      let c = row_closed view told P p limits d0 now outer b left receiver tale h L s row d (list first m refl q) in
      let o = q.is_held.open' in
      let opens : (W' row).opens ≡ 1 = ap (λ (x : DeviceTold). x.opens) c.is ∙ (closed_field (λ x. x.opens) c.exit c.ok (told d) refl refl ∙ o.opens) in
      let at_is : (W' row).at ≡ (told d).at = ap (λ (x : DeviceTold). x.at) c.is ∙ closed_field (λ x. x.at) c.exit c.ok (told d) refl refl in
      let unopened_faults : (W' row).open_faults ≡ 0 = ap (λ (x : DeviceTold). x.open_faults) c.is ∙ (closed_field (λ x. x.open_faults) c.exit c.ok (told d) refl refl ∙ o.open_faults) in
      let read_faults_are : (W' row).read_faults ≡ (told d).read_faults = ap (λ (x : DeviceTold). x.read_faults) c.is ∙ closed_field (λ x. x.read_faults) c.exit c.ok (told d) refl refl in
      let unread_faults : faults ≡ 0 → (W' row).read_faults ≡ 0 = λ z. read_faults_are ∙ (ap (λ (x : DeviceTold). x.read_faults) was ∙ omega (arith, z, none_failed)) in
      record {
        listing = closed_listing (lister_of p lines'' l) (told d) (W' row) c g lists;
        in_time = closed_in_time (lister_of p lines'' l) (told d) (W' row) c in_time;
        seen = inr (omega (arith, opens));
        unfailed = λ cut. (unopened_faults, unread_faults (⊎_elim (λ z. z) (λ e. absurd (cut_fault code.Read (sym cut ∙ e))) calm));
        told_so = λ f e. inr (unopened_faults, ⊎_elim (λ z. inr (unread_faults z)) (λ k. inl (same_fault f code.Read (sym e ∙ k))) calm);
        acquired = λ e. let k = q.is_held.noted in (Outer, k.0, acquired_so told p.max_open (stream_limit p) b h.progress L h.main s (guests view told P p limits d0 now outer b left receiver tale h L s) row k.0 k.1);
        within = omega (arith, at_is, within);
        tried = λ t. (Ok first, m);
        stopped = λ f e. (Ok first, m);
      }

  -- so it came out
  pub list_so : (l : ListSpec) → p.list ≡ Some l → ListSo l (list_end p h.stands.lack (Some outer))
  list_so l is = by_list (list_end p h.stands.lack (Some outer)) (if_there (λ q. StandsList p told q (opened_of h.moves) lines'' (list_end p h.stands.lack (Some outer)) b) p.list l is h.stands.list)
    where
      bare_so : W' row ≡ bare_row all' d0.files row → W' row ≡ bare_home d0.files (to_read l.path)
      bare_so e = e ∙ bare_at all' d0.files row (to_read l.path) (list_there p lines'' l is).0

      same_list : (a c : ListSpec) → Some a ≡ Some c → a ≡ c
      same_list a c e = cc

      by_list : (g : End) → StandsList p told l (opened_of h.moves) lines'' g b → ListSo l g
      by_list g (unopened opened none cut) =
          let z = ap (λ (xs : List (Result V NotRead)). length xs) opened in
          let one = (list_there p lines'' l is).1 in
          bare_list l g none cut (bare_so (ahead_bare view told P p limits d0 now outer b left receiver tale h L s row (inr (inl (omega (arith, z), omega (arith, one))))))
      by_list g (failed f opened none end) =
          let m : IsAmong (Err (why.Fault f)) (opened_of h.moves) = subst (λ rs. IsAmong (Err (why.Fault f)) rs) (sym opened) (here []) in
          let x = (homes' view told P p limits d0 now outer b left receiver tale h L s).list (Err (why.Fault f)) m in
          let same : x.1.0 ≡ l = same_list x.1.0 l (sym x.1.2 ∙ is) in
          failed_list l g f x.1.1 none end x.0 (x.1.3 ∙ ap (λ (q : ListSpec). never_opened (new_device d0.files x.1.1 q.path)) same) m
      by_list g (lacking opened none cut) =
          let m : IsAmong (Err why.Memory) (opened_of h.moves) = subst (λ rs. IsAmong (Err why.Memory) rs) (sym opened) (here []) in
          bare_list l g none cut (bare_so ((homes' view told P p limits d0 now outer b left receiver tale h L s).list (Err why.Memory) m))
      by_list g (held first d faults opened pay was calm lists in_time noted within) =
          let m : IsAmong (Ok first) (opened_of h.moves) = subst (λ rs. IsAmong (Ok first) rs) (sym opened) (here []) in
          let o = opens_at told p [] d0 h.moves now h.moved (Ok first) m in
          held_list l g first d faults m was calm lists in_time (now_held view told P p limits d0 now outer b left receiver tale h first d faults m was pay noted) within (ap (λ (x : DeviceTold). x.read_faults) o.4.1)
