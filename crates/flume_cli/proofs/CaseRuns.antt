-- A case that was run over its files.
use Rattle.std.proofs.Common.{◌≡◌, ◌⊎◌, ℕ, zero, suc, ◌+◌, ◌<◌, ◌≤◌, ◌||◌, Bool, true, false, not, is_some, List, [], ◌∷◌, map, length, Option, Some, None, IfSome, refl, sym, ap, ◌∙◌, subst, inl, inr, ⊎_elim, append-nil, arith, lit<}
use Rattle.std.specs.Prelude.{flat_map}
use Rattle.std.specs.List.{AllByRecursion, list_all as all, list_any as any, range_with_len}
use Rattle.std.proofs.lemmas.List.{length-map}
use Rattle.std.proofs.lemmas.List.FromFn.{length-map-range_with_len}
use Rattle.chunk_core.proofs.Each.{among_each}
use Rattle.chunk_core.specs.Elements.{Element, rendering_of}
use Rattle.chunk_core.specs.Outcomes.{Cut, Done, End, Fault}
use Rattle.chunk_core.specs.Texts.{Frame, payloads_of}
use Rattle.chunk_core.specs.declared.code.Code.{Code}
use Rattle.chunk_core.specs.declared.code.How.{How}
use Rattle.chunk_core.specs.declared.code.How.TheVariants as how
use Rattle.csv_pipes.specs.Dictionaries.{table_value}
use Rattle.res_ledger.specs.declared.event.Event.{Event}
use Rattle.device_port.specs.Depot.{DepotTold, content_at}
use Rattle.device_port.specs.Device.{DeviceTold, faults_of}
use Rattle.pull_nodes.specs.Runs.{IsFault}
use Rattle.run_rules.specs.declared.end.EndOf.{EndOf}
use Rattle.run_rules.specs.Devices.{came_back}
use Rattle.run_rules.specs.Facts.{first_numbers, is_fault}
use Rattle.run_rules.specs.Homes.{AreAtHome, IsBack, IsUntouched}
use Rattle.run_rules.specs.Opening.{HasOuterEnd, IsOuterEnd, IsRefusedBy, IsTableFailed}
use Rattle.run_rules.specs.Outputs.{AreOutputs, IsOutput, IsReported, IsRest, RunsOrLeft, elements_in_pieces}
use Rattle.run_rules.specs.Run.{Ran}
use Rattle.run_rules.specs.Wholeness.{AreUnfailed, IsWholeRun, NothingFailed}
use Rattle.run_rules.specs.Work.{Lister, Opener, RunRecord, Stream, Values, Work, inner_ends}
use Rattle.pipeline_desc.specs.declared.stream.StreamSpec.{StreamSpec}
use Rattle.plan_work.specs.Plans.{PlanRuns, below, opener_of, run_work, stream_of, visible}
use Rattle.gen_case.specs.Case.{stream_path, table_path, table_text}
use Rattle.gen_case.specs.Ideal.{AreIdeal, ideal_text}
use Rattle.gen_case.specs.Plan.{plan_of_case, stream_spec}
use Rattle.gen_case.specs.Runs.{FindsFiles, IsOverFiles, depot_of}
use Rattle.gen_case.specs.Tally.{AreNumbered}
use Rattle.gen_case.specs.declared.case.Case.{Case}
use Rattle.gen_case.proofs.Found.{files_are_found}
use Rattle.gen_case.proofs.Ideal.{ideal_frames_add_up}
use Rattle.gen_case.proofs.Nodes.{nodes_never_fail, nodes_run_ideal}
use Rattle.gen_case.proofs.Rendering.{streams_render_ideal, table_is_read}
use Rattle.flume_cli.specs.Generated.{IsWholeCase, case_run}

-- what holds of each number below n
module _ (P : ℕ → Type 0) where
  each_from : (n a : ℕ) → ((k : ℕ) → k < a + n → P k) → AllByRecursion P (range_with_len a n)
  each_from zero a h = tt
  each_from (suc n) a h = (h a (omega arith), each_from n (a + 1) (λ k l. h k (omega (arith, l))))

  pub each_below : (n : ℕ) → ((k : ℕ) → k < n → P k) → AllByRecursion P (first_numbers n)
  each_below n h = each_from n 0 (λ k l. h k (omega (arith, l)))

  number_from : (n a k : ℕ) → a ≤ k → k < a + n → AllByRecursion P (range_with_len a n) → P k
  number_from zero a k low high h = absurd (omega (arith, low, high))
  number_from (suc n) a zero low high h = let z : a ≡ 0 = omega (arith, low) in subst P z h.0
  number_from (suc n) a (suc k) low high h = ⊎_elim (λ e. subst P e h.0) (λ l. number_from n (a + 1) (suc k) (omega (arith, l)) (omega (arith, high)) h.1) (first_or_later a (suc k) low)
    where
      first_or_later : (a k : ℕ) → a ≤ k → (a ≡ k) ⊎ (a < k)
      first_or_later zero zero l = inl refl
      first_or_later zero (suc k) l = inr (omega arith)
      first_or_later (suc a) zero l = absurd (omega (arith, l))
      first_or_later (suc a) (suc k) l = ⊎_elim (λ e. inl (ap suc e)) (λ g. inr (omega (arith, g))) (first_or_later a k (omega (arith, l)))

  pub number_below : (n k : ℕ) → k < n → AllByRecursion P (first_numbers n) → P k
  number_below n k l h = number_from n 0 k (omega arith) (omega (arith, l)) h

-- an end that isn't a fault is told as none
none_told : (e : End) (h : How) → (IsFault e → ⊥) → IsReported e h → is_fault h ≡ false
none_told Done h sound told = ap is_fault told
none_told (Fault c) h sound told = absurd (sound tt)
none_told Cut h sound told = ⊎_elim (λ t. ap is_fault t) (λ t. ap is_fault t) told

no_code : (c : Code) → ◌≡◌ {A = Option Code} None (Some c) → ⊥
no_code c e = cc

no_list : (l : Lister) → ◌≡◌ {A = Option Lister} None (Some l) → ⊥
no_list l e = cc

-- the streams of a case, from number a on
abbrev streams_from : ℕ → ℕ → List Stream
streams_from a n = map stream_of (map stream_spec (range_with_len a n))

-- no end of another one stops them
never_stopped : (n a : ℕ) → all (λ s. not (is_some s.until)) (streams_from a n) ≡ true
never_stopped zero a = refl
never_stopped (suc n) a = never_stopped n (a + 1)

streams_count : (n : ℕ) → length (streams_from 0 n) ≡ n
streams_count n = length-map (map stream_spec (range_with_len 0 n)) stream_of ∙ length-map-range_with_len stream_spec 0 n

module _ (case : Case) (few : case.streams ≤ 64) (short : case.lines ≤ 100000) (depot : DepotTold) (ends : List EndOf) (L : List Event) (F : List Frame) (cut : Option Frame) (rest : List ℕ) (memory : Bool) (sound : AllByRecursion (λ d. faults_of d ≡ 0) (came_back (depot_of case) depot)) where
  abbrev run : RunRecord
  run = case_run case depot ends L F cut rest memory

  abbrev work : Work
  work = run_work (plan_of_case case) []

  abbrev opener : Opener
  opener = opener_of (plan_of_case case) []

  streams_are : work.streams ≡ streams_from 0 case.streams
  streams_are = ap (λ (ss : List StreamSpec). map stream_of ss) (append-nil (map stream_spec (range_with_len 0 case.streams)))

  count_is : length work.streams ≡ case.streams
  count_is = ap (λ (ss : List Stream). length ss) streams_are ∙ streams_count case.streams

  found : FindsFiles case
  found = files_are_found case (omega (arith, few))

  module _ (ran : Ran work run) where
    abbrev home : ℕ → DeviceTold
    home = ran.home

    -- the row has the device of a file, on which no call failed
    pub record IsFileAt (row : ℕ) (path : List ℕ) : Type 0 where
      pub content : (home row).content ≡ content_at (depot_of case).files path
      pub unfailed : faults_of (home row) ≡ 0

    unfailed_at : (r : ℕ) → IsBack run (home r) ⊎ IsUntouched (home r) → faults_of (home r) ≡ 0
    unfailed_at r (inl b) = among_each (λ d. faults_of d ≡ 0) (home r) (came_back (depot_of case) depot) sound b
    unfailed_at r (inr u) = u.faults

    table_at : IsFileAt 0 table_path
    table_at = record { content = ran.rows.at_home.1; unfailed = unfailed_at 0 ran.rows.at_home.2 }

    stream_rows : (n a r : ℕ) → AreAtHome run home r (flat_map (λ s. s.places) (streams_from a n)) → (i : ℕ) → i < n → IsFileAt (r + i) (stream_path (a + i))
    stream_rows zero a r h i l = absurd (omega (arith, l))
    stream_rows (suc n) a r h zero l =
        let x : r ≡ r + 0 = omega arith in
        let y : a ≡ a + 0 = omega arith in
        subst (λ m. IsFileAt m (stream_path (a + 0))) x (subst (λ m. IsFileAt r (stream_path m)) y (record { content = h.1; unfailed = unfailed_at r h.2 }))
    stream_rows (suc n) a r h (suc i) l =
        let x : r + 1 + i ≡ r + suc i = omega arith in
        let y : a + 1 + i ≡ a + suc i = omega arith in
        subst (λ m. IsFileAt m (stream_path (a + suc i))) x (subst (λ m. IsFileAt (r + 1 + i) (stream_path m)) y (stream_rows n (a + 1) (r + 1) h.3 i (omega (arith, l))))

    stream_at : (k : ℕ) → k < case.streams → IsFileAt (1 + k) (stream_path k)
    stream_at k l = let z : 0 + k ≡ k = omega arith in subst (λ m. IsFileAt (1 + k) (stream_path m)) z (stream_rows case.streams 0 1 (subst (λ (ss : List Stream). AreAtHome run home 1 (flat_map (λ s. s.places) ss)) streams_are ran.rows.at_home.3) k l)

    values : (key : List ℕ) → ran.values 0 key ≡ table_value table_text key
    values key = subst (λ o. IfSome o (λ bytes. ran.values 0 key ≡ table_value bytes key)) (table_at.content ∙ found.table) (ran.rows.values 0 key (lit< tt))

    -- what stream k sees of the values: all, since the case has no groups
    abbrev seen : ℕ → Values
    seen k = below (visible (plan_of_case case) k) ran.values

    over : (k : ℕ) → k < case.streams → IsOverFiles case k (seen k) home
    over k l = record { values = values; content = (stream_at k l).content ∙ found.streams k l }

    -- no stream failed
    inner_end : (k : ℕ) (h : How) → k < case.streams → IsOutput work ran.values home F k h → is_fault h ≡ false
    inner_end k h l o =
        none_told o.end h (ends_well (elements_in_pieces o.pieces) o.end o.run) o.reported
      where
        -- no run of its node ends with a fault, nor does one that was left
        ends_well : (ys : List Element) (e : End) → RunsOrLeft (PlanRuns (plan_of_case case) k ran.values home) ys e → IsFault e → ⊥
        ends_well ys e (inl (n, of, (run, told))) =
            let none = (stream_at k l).unfailed in
            nodes_never_fail case k (seen k) home n ys e short of (over k l) (omega (arith, none)) (omega (arith, none)) run
        ends_well ys e (inr (cut, more)) = λ f. subst IsFault cut f

    inner_ends_are : (n k : ℕ) (es : List EndOf) → k + n ≤ case.streams → AreOutputs work ran.values home F k (streams_from k n) es → any (λ e. is_fault e.how) es ≡ false
    inner_ends_are zero k es l h = ap (λ (xs : List EndOf). any (λ (e : EndOf). is_fault e.how) xs) h
    inner_ends_are (suc n) k [] l h = absurd h
    inner_ends_are (suc n) k (e ∷ es) l h = λ i. inner_end k e.how (omega (arith, l)) h.0 i || inner_ends_are n (k + 1) es (omega (arith, l)) h.1 i

    -- nor did the table
    table_never_fails : (f : Code) → IsTableFailed opener run (home 0) f → ⊥
    table_never_fails f (back, inl (opens, failed, is)) = let none = table_at.unfailed in omega (arith, none, failed)
    table_never_fails f (back, inr (opens, inl (failed, is))) = let none = table_at.unfailed in omega (arith, none, failed)
    table_never_fails f (back, inr (opens, inr (read, refused))) = no_code f (sym table_is_read ∙ subst (λ o. IsRefusedBy opener o f) (table_at.content ∙ found.table) refused)

    outer_end : (h : How) → IsOuterEnd opener work.listing (length work.streams) run home h → is_fault h ≡ false
    outer_end how.Done e = refl
    outer_end how.Halted e = refl
    outer_end how.Memory e = refl
    outer_end (how.Fault f) e = ⊎_elim (λ t. ⊎_elim (λ r. absurd (table_never_fails f r.0)) (λ r. absurd r.1) t.0) (λ l. absurd (no_list l.1.0 l.1.1)) e

    all_ends : (es : List EndOf) → HasOuterEnd work.opener work.listing (length work.streams) run home es → AreOutputs work ran.values home F 0 work.streams (inner_ends work es) → any (λ e. is_fault e.how) es ≡ false
    all_ends [] outer outputs = absurd outer
    all_ends (e ∷ es) outer outputs = λ i. outer_end e.how outer.end i || inner_ends_are case.streams 0 es (omega arith) (subst (λ (ss : List Stream). AreOutputs work ran.values home F 0 ss es) streams_are outputs) i

    pub ends_unfailed : any (λ e. is_fault e.how) ends ≡ false
    ends_unfailed = all_ends ends ran.ends.outer ran.outputs.outputs

    -- where memory wasn't wanting the run is whole
    module _ (uncut : cut ≡ None) (ample : memory ≡ false) where
      ends_done : (k : ℕ) → k < case.streams → (u : ℕ → DeviceTold) (ys : List Element) (e : End) → AreUnfailed u home → work.ideal_runs k ran.values u ys e → e ≡ Done
      ends_done k l u ys e same (n, node, ideal) =
          (nodes_run_ideal case k (seen k) u n ys e short node (record { values = values; content = (same (1 + k)).1 ∙ (over k l).content }) ideal).0

      nothing_failed : NothingFailed work run ran.values home
      nothing_failed = record {
        written = uncut;
        devices = sound;
        tables = ((table_text, found.table, table_is_read), tt);
        list = tt;
        ideal = each_below (λ k. (u : ℕ → DeviceTold) (ys : List Element) (e : End) → AreUnfailed u home → work.ideal_runs k ran.values u ys e → e ≡ Done) (length work.streams) (λ k l. ends_done k (subst (λ m. k < m) count_is l));
        most = tt;
        until = subst (λ (ss : List Stream). all (λ s. not (is_some s.until)) ss ≡ true) (sym streams_are) (never_stopped case.streams 0);
      }

      whole_run : IsWholeRun work run ran.values home
      whole_run = ran.completeness ample nothing_failed

      prints : (k : ℕ) → k < case.streams → payloads_of k F ≡ ideal_text case k
      prints k l =
          let o = number_below (λ k. (ys : List Element) × work.ideal_runs k ran.values home ys Done × (payloads_of k F ≡ rendering_of ys)) (length work.streams) k (subst (λ m. k < m) (sym count_is) l) whole_run.output in
          let r = nodes_run_ideal case k (seen k) home o.1.0 o.0 Done short o.1.1 (over k l) o.1.2 in
          o.2 ∙ (ap rendering_of r.1 ∙ (streams_render_ideal case k short).text)

      ours_from : (G : List Frame) → AllByRecursion (λ f. (f.stream < length work.streams) × (0 < length f.payload)) G → AllByRecursion (λ f. f.stream < case.streams) G
      ours_from [] h = tt
      ours_from (f ∷ G) h = (subst (λ m. f.stream < m) count_is h.0.0, ours_from G h.1)

      ideal : AreIdeal case F
      ideal = record { ours = ours_from F ran.outputs.numbers; whole = prints }

      pub whole : IsWholeCase case ends L F
      whole = let sums = ideal_frames_add_up case F ideal in record { done = whole_run.done; clean = whole_run.clean; ideal = ideal; bytes = sums.0; digits = sums.1 }

      numbered_from : (G : List Frame) → AllByRecursion (λ f. f.stream < case.streams) G → AreNumbered G
      numbered_from [] h = tt
      numbered_from (f ∷ G) h = (let l = h.0 in omega (arith, few, l), numbered_from G h.1)

      pub numbered : AreNumbered F
      numbered = numbered_from F ideal.ours

      pub no_rest : rest ≡ []
      no_rest = subst (λ (x : Option Frame). IsRest work ran.values home F x rest) uncut ran.outputs.rest
