-- The work of a tee, from what its reader and its branches did.
use Rattle.std.proofs.Common.{◌≡◌, ℕ, ◌<◌, ◌^◌, true, false, List, ◌∷◌, ◌++◌, map, length, take, drop, Option, Some, None, is_some, refl, sym, ◌∙◌, ap, subst, inl, inr, ⊎_elim, arith}
use Rattle.std.proofs.lemmas.Bool.{both_ways, false≢true}
use Rattle.std.proofs.lemmas.List.{map-append, take-append-drop}
use Rattle.std.specs.List.{AllByRecursion}
use Rattle.chunk_core.specs.Elements.{Byte, Element}
use Rattle.chunk_core.specs.Feed.{Given}
use Rattle.chunk_core.specs.Lists.{IsAmong}
use Rattle.chunk_core.proofs.Each.{among_each, each_among}
use Rattle.chunk_core.proofs.Members.{among_cons}
use Rattle.chunk_core.specs.Outcomes.{End, Fault, Outcomes}
use Rattle.chunk_core.specs.Texts.{Frame}
use Rattle.chunk_core.specs.declared.code.Code.{Code}
use Rattle.chunk_core.specs.declared.code.How.{How}
use Rattle.chunk_core.specs.declared.code.How.TheVariants as how
use Rattle.device_port.specs.Device.{DeviceTold, faults_of}
use Rattle.device_port.specs.Depot.{DepotTold}
use Rattle.device_port.specs.Sink.{SinkTold}
use Rattle.chain_pipes.specs.Over.{chain_all, chain_part}
use Rattle.chain_pipes.proofs.Steady.{chains_are_steady}
use Rattle.chunk_core.specs.Elements.LoadKind.{Bytes}
use Rattle.pipeline_desc.specs.declared.step.Step.{Step}
use Rattle.pull_nodes.specs.Plain.{IsFront}
use Rattle.pull_nodes.specs.Runs.{FirstBytes, OpensThen, OrLeft, Reads, ReadsWholeBy}
use Rattle.joined_runs.proofs.Reading.{fault_cut, fault_done, fault_run}
use Rattle.res_ledger.proofs.Mapped.{among_map, map_among}
use Rattle.res_ledger.specs.declared.event.StreamNo.TheVariants.{Outer}
use Rattle.run_rules.specs.Ends.{IsShown, act_count}
use Rattle.run_rules.specs.Devices.{came_back}
use Rattle.run_rules.specs.Outputs.{IsReported}
use Rattle.run_rules.specs.Work.{RunRecord}
use Rattle.run_rules.specs.declared.end.EndOf.{EndOf}
use Rattle.cat_run.specs.Cat.{run_record_of}
use Rattle.cat_run.specs.declared.outcome.Outcome.{Outcome}
use Rattle.cat_run.proofs.CatRuns.{file_shows, ideal_is, in_row_0}
use Rattle.lone_stream.specs.Account.{ComesBack, IsAccountOf}
use Rattle.lone_stream.proofs.Accounts.{clean}
use Rattle.lone_stream.proofs.AloneWork as lone
use Rattle.tee_prints.specs.Printed.{IsStop}
use Rattle.tee_rules.specs.Reader.{IsReader, ReaderRuns, tee_places}
use Rattle.tee_rules.specs.Tee.{EndIsCaused, HasCauseToHalt, IsGoodContent, IsWholeTee, NothingFailed, Teed}
use Rattle.tee_rules.proofs.Given.{whole_content}
use Rattle.tee_run.specs.Tee.{RunsTee}
use Rattle.tee_run.specs.Telling.{HasCause, PrintsBranches, ends_from}
use Rattle.tee_run.proofs.ChainLaws.{front_trans}
use Rattle.tee_run.proofs.Ends.{hows_of, memory_in, memory_out}
use Rattle.tee_run.proofs.Homes.{accounted, exits, keeps_rules, reader_home}

-- What is read of a device is a front of its content.

first_front : (o : Option (List ℕ)) (bytes : List ℕ) → o ≡ Some bytes → (n : ℕ) (ys : List Element) → FirstBytes o n ys → IsFront ys (map Byte bytes)
first_front None bytes e n ys r = absurd (let no : None ≡ Some bytes = e in cc)
first_front (Some c) bytes e n ys r =
    let is : c ≡ bytes = cc in
    (map Byte (drop n c), ap (map Byte) (sym is) ∙ (ap (map Byte) (sym (take-append-drop n c)) ∙ (map-append Byte (take n c) (drop n c) ∙ ap (λ l. l ++ map Byte (drop n c)) (sym r))))

left_front : (R : Outcomes) (all : List Element) → ((ys : List Element) (e : End) → R ys e → IsFront ys all) → (ys : List Element) (e : End) → OrLeft (Unit {0}) R ys e → IsFront ys all
left_front R all h ys e (inl r) = h ys e r
left_front R all h ys e (inr (c, inl n)) = (all, ap (λ l. l ++ all) (sym n.0))
left_front R all h ys e (inr (c, inr (more, g, r))) = front_trans ys (ys ++ more) all (more, refl) (h (ys ++ more) g r)

opens_front : (d : DeviceTold) (bytes : List ℕ) → d.content ≡ Some bytes → (ys : List Element) (e : End) → OpensThen d (OrLeft (Unit {0}) (Reads d)) (Unit {0}) ys e → IsFront ys (map Byte bytes)
opens_front d bytes is ys e (inl r) = left_front (Reads d) (map Byte bytes) (λ xs g h. first_front d.content bytes is d.at xs h.0) ys e r.2
opens_front d bytes is ys e (inr r) = (map Byte bytes, ap (λ l. l ++ map Byte bytes) (sym r.2))

reader_front : (d : DeviceTold) (bytes : List ℕ) → d.content ≡ Some bytes → (ys : List Element) (e : End) → ReaderRuns d ys e → IsFront ys (map Byte bytes)
reader_front d bytes is ys e r = left_front (OpensThen d (OrLeft (Unit {0}) (Reads d)) (Unit {0})) (map Byte bytes) (opens_front d bytes is) ys e r.0

-- a device without a fault whose content is short enough isn't read with one
short_done : (d : DeviceTold) (bytes : List ℕ) → d.content ≡ Some bytes → length bytes < 2 ^ 40 → (ys : List Element) (c : Code) → ReadsWholeBy d.content d ys (Fault c) → ⊥
short_done d bytes is short ys c r = ⊎_elim (λ x. fault_done c x.2) (λ x. omega (arith, short, x.0)) (subst (λ o. ReadsWholeBy o d ys (Fault c)) is r)

-- the steps that gave a fault of a front do so of all
fault_stays : (s : List Step) (xs all : List Element) (f : Code) → IsFront xs all → (chain_part s xs).fault ≡ Some f → (chain_all s all).fault ≡ Some f
fault_stays s xs all f front e =
    let stops = (chains_are_steady s Bytes).stops xs front.0 f e in
    subst (λ l. (chain_all s l).fault ≡ Some f) (sym front.1) (ap (λ (g : Given). g.fault) stops.1 ∙ e)

no_fault : (o : Option Code) (f : Code) → o ≡ Some f → o ≡ None → ⊥
no_fault o f e n = let no : Some f ≡ None = sym e ∙ n in cc

module _ (path : List ℕ) (branches : List (List Step)) (old new : DepotTold) (so sn : SinkTold) (o : Outcome) (w : ℕ → DeviceTold) (h : How) (given : List Element) (end : End)
    (run : ReaderRuns (w 0) given end) (reported : IsReported end h) (d : ComesBack old new (tee_places path) w) (a : IsAccountOf Outer 1 0 w h o.ledger) (p : PrintsBranches branches given end h so sn o) where
  abbrev c : RunRecord
  c = run_record_of old new p.frames p.cut p.rest o

  abbrev hows : List How
  hows = h ∷ p.hows

  hows_are : map (λ (e : EndOf). e.how) o.ends ≡ hows
  hows_are = ap (map (λ (e : EndOf). e.how)) p.ends ∙ ap (λ l. h ∷ l) (hows_of 0 p.hows)

  how_among : (e : EndOf) → IsAmong e o.ends → IsAmong e.how hows
  how_among e m = subst (λ l. IsAmong e.how l) hows_are (map_among (λ (x : EndOf). x.how) e o.ends m)

  end_among : (k : How) → IsAmong k hows → (e : EndOf) × IsAmong e o.ends × (e.how ≡ k)
  end_among k m = among_map (λ (x : EndOf). x.how) k o.ends (subst (λ l. IsAmong k l) (sym hows_are) m)

  cause_by : (k : How) → IsAmong k hows → IsStop k → HasCauseToHalt c
  cause_by how.Done m s = absurd s
  cause_by how.Halted m s = absurd s
  cause_by how.Memory m s = inr (inl (p.memory ∙ memory_in hows m))
  cause_by (how.Fault f) m s = let e = end_among (how.Fault f) m in inr (inr (e.0, e.1, (f, e.2)))

  cause : HasCause o.sink_failed hows → HasCauseToHalt c
  cause (inl b) = inl (λ n. false≢true (ap is_some (sym n) ∙ (p.broke ∙ b)))
  cause (inr (k, m, s)) = cause_by k m s

  caused : AllByRecursion (EndIsCaused c) o.ends
  caused = each_among (EndIsCaused c) o.ends (λ e m. record {
    halted = λ x. cause (p.caused (subst (λ k. IsAmong k hows) x (how_among e m)));
    memory = λ x. p.memory ∙ memory_in hows (subst (λ k. IsAmong k hows) x (how_among e m));
  })

  wanting : c.memory ≡ true → (e : EndOf) × IsAmong e o.ends × (e.how ≡ how.Memory)
  wanting m = end_among how.Memory (memory_out hows (sym p.memory ∙ m))

  module _ (well : c.memory ≡ false) (n : NothingFailed branches c (w 0)) where
    calm : (r : ℕ) → r < 1 → faults_of (w r) ≡ 0
    calm r l = lone.faultless (tee_places path) 0 old new w h o.ledger d a n.devices r l

    no_memory : IsAmong how.Memory hows → ⊥
    no_memory m = both_ways o.memory well (p.memory ∙ memory_in hows m)

    unbroken : o.sink_failed ≡ false
    unbroken = sym p.broke ∙ ap (λ (f : Option Frame). is_some f) n.written

    module _ (bytes : List ℕ) (is : (w 0).content ≡ Some bytes) (short : length bytes < 2 ^ 40) (good : AllByRecursion (λ s. (chain_all s (map Byte bytes)).fault ≡ None) branches) where
      -- the reader has no fault
      reader_well : (f : Code) → h ≡ how.Fault f → ⊥
      reader_well f e =
          let r = fault_run (ReaderRuns (w 0)) given end h reported run f e in
          short_done (w 0) bytes is short given f (ideal_is (w 0) given (Fault f) (calm 0 (omega arith)) (fault_cut f) r)

      -- nor has a branch
      branch_well : (f : Code) → IsAmong (how.Fault f) p.hows → ⊥
      branch_well f m =
          let x = p.faults f m in
          let fine : (chain_all x.0 (map Byte bytes)).fault ≡ None = among_each (λ s. (chain_all s (map Byte bytes)).fault ≡ None) x.0 branches good x.2 in
          ⊎_elim
          (λ e. no_fault (chain_all x.0 (map Byte bytes)).fault f (fault_stays x.0 x.1 (map Byte bytes) f (front_trans x.1 given (map Byte bytes) x.3 (reader_front (w 0) bytes is given end run)) e) fine)
          (λ e.
          let all : given ≡ map Byte bytes = whole_content (w 0) given bytes is (subst (λ y. ReaderRuns (w 0) given y) e.0 run) in
          no_fault (chain_all x.0 (map Byte bytes)).fault f (subst (λ l. (chain_all x.0 l).fault ≡ Some f) (e.1 ∙ all) e.2) fine)
          x.4

      no_failure : (f : Code) → IsAmong (how.Fault f) hows → ⊥
      no_failure f m = ⊎_elim (λ e. reader_well f (sym e)) (λ r. branch_well f r) (among_cons m)

      no_stop : (k : How) → IsAmong k hows → IsStop k → ⊥
      no_stop how.Done m s = s
      no_stop how.Halted m s = s
      no_stop how.Memory m s = no_memory m
      no_stop (how.Fault f) m s = no_failure f m

      no_halt : IsAmong how.Halted hows → ⊥
      no_halt m = ⊎_elim (λ b. both_ways o.sink_failed unbroken b) (λ x. no_stop x.0 x.1 x.2) (p.caused m)

      is_done : (k : How) → IsAmong k hows → k ≡ how.Done
      is_done how.Done m = refl
      is_done how.Halted m = absurd (no_halt m)
      is_done how.Memory m = absurd (no_memory m)
      is_done (how.Fault f) m = absurd (no_failure f m)

      all_done : IsWholeTee c
      all_done = record {
        done = each_among (λ (e : EndOf). e.how ≡ how.Done) o.ends (λ e m. is_done e.how (how_among e m));
        clean = clean 1 0 w h o.ledger a (λ r l. let z : faults_of (w r) ≡ 0 = calm r l in omega (arith, z));
      }

    whole_of : (x : Option (List ℕ)) → (w 0).content ≡ x → IsGoodContent branches x → IsWholeTee c
    whole_of None e g = absurd g
    whole_of (Some bytes) e g = all_done bytes e g.0 g.1

    complete : IsWholeTee c
    complete = whole_of (w 0).content refl n.content

  shown : IsShown (came_back old new) (tee_places path) h
  shown = lone.shown (tee_places path) 0 old new w h o.ledger d a h (λ f is. in_row_0 w (act_count f) (file_shows (w 0) given f (fault_run (ReaderRuns (w 0)) given end h reported run f is)))

  reader : IsReader path c (w 0) given end h
  reader = record { run = run; reported = reported; fault = shown; root = a.closed; exits = exits path old new w h o.ledger d a }

  teed : Teed path branches c
  teed = record {
    home = w 0;
    row = reader_home path old new w h o.ledger d a c refl refl refl;
    ending = h;
    inner = ends_from 0 p.hows;
    ends = p.ends;
    given = given;
    end = end;
    reader = reader;
    each = p.each;
    numbers = p.numbers;
    rest = p.front;
    unfinished = p.unfinished;
    caused = caused;
    wanting = wanting;
    completeness = complete;
  }

  -- the file was read for the branches
  pub teed_file : RunsTee path branches old new so sn o
  teed_file = record {
    frames = p.frames;
    cut = p.cut;
    rest = p.rest;
    broke = p.broke;
    tees = record { devices = accounted path old new w h o.ledger d a; ledger = keeps_rules path old new w h o.ledger d a; ran = inr teed };
    wrote = p.wrote;
  }
