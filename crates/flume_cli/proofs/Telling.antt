-- A call, from the work that was done and how it was told.
use Rattle.std.proofs.Common.{◌≡◌, ℕ, ◌+◌, ◌<◌, Bool, true, false, nat_lt, List, [], ◌++◌, length, take, drop, Option, None, is_some, refl, sym, ◌∙◌, ap, subst, ⊎_elim, arith, append-nil, append_assoc, length-drop}
use Rattle.std.proofs.lemmas.Bool.{both_ways, cases_Bool, false≢true, le-ltb, lt-ltb}
use Rattle.std.proofs.lemmas.List.{take-append-drop}
use Rattle.std.specs.List.{list_any as any}
use Rattle.chunk_core.specs.Texts.{Frame, frames_text}
use Rattle.chunk_core.specs.declared.code.How.{How}
use Rattle.chunk_core.specs.declared.code.How.TheVariants as how
use Rattle.chunk_core.specs.Lists.{IsAmong}
use Rattle.chunk_core.proofs.Bools.{any_found}
use Rattle.res_ledger.specs.declared.event.Event.{Event}
use Rattle.device_port.specs.Source.{SourceTold}
use Rattle.device_port.specs.Depot.{DepotTold}
use Rattle.device_port.specs.Sink.{SinkTold, with_bytes, BreaksOff}
use Rattle.device_port.proofs.Puts.{with_bytes_twice}
use Rattle.command_words.specs.Words.{command_of}
use Rattle.run_rules.specs.declared.end.EndOf.{EndOf}
use Rattle.run_rules.specs.Facts.{is_fault, is_memory, is_failed, has_event}
use Rattle.run_rules.specs.Run.{Performs, Ran, IsUnmade}
use Rattle.run_rules.specs.Texts.{tail_text}
use Rattle.run_rules.specs.Work.{RunRecord, Work}
use Rattle.cat_run.specs.Cat.{run_record_of, and_one}
use Rattle.cat_run.specs.declared.outcome.Outcome.{Outcome}
use Rattle.flume_cli.specs.declared.status.Status.{Status}
use Rattle.flume_cli.specs.declared.status.Status.TheVariants as status
use Rattle.flume_cli.specs.declared.report.Report.{Report}
use Rattle.flume_cli.specs.Status.{Causes, status_of, line_of}
use Rattle.flume_cli.specs.Headline.{Call, HasStatus, IsText, IsToldLine, SaysBegun, SaysTail, TellsRun, is_meant}
use Rattle.flume_cli.specs.Call.{call_of}
use Rattle.flume_cli.specs.Finish.{PrintsTail, Prints, Tells, status_by}

-- a count rose by one
pub rose : (a b : ℕ) → b ≡ a + 1 → nat_lt a b ≡ true
rose a b e = lt-ltb a b (omega arith)

-- a count stayed
pub kept : (a b : ℕ) → b ≡ a → nat_lt a b ≡ false
kept a b e = le-ltb a b (omega arith)

pub report_is : (r : Report) (s : Status) (es : List EndOf) (L : List Event) → r.status ≡ s → r.ends ≡ es → r.ledger ≡ L → r ≡ record { status = s; ends = es; ledger = L }
report_is r s es L p q t =
    ap (λ (x : Status). let y : Report = record { status = x; ends = r.ends; ledger = r.ledger } in y) p
    ∙ (ap (λ (x : List EndOf). let y : Report = record { status = s; ends = x; ledger = r.ledger } in y) q
    ∙ ap (λ (x : List Event). let y : Report = record { status = s; ends = es; ledger = x } in y) t)

abbrev by_flags : Bool → Bool → Bool → Bool → Status
by_flags u m f n = status_of (record { early = false; words = true; unread = false; refused = None; unwritten = u; memory = m; faulty = f; unclean = n })

failed_is : (u m f n : Bool) → u ≡ true → status.NotWritten ≡ by_flags u m f n
failed_is u m f n e = ap (λ b. by_flags b m f n) (sym e)

memory_is : (u f n : Bool) → u ≡ false → status.Memory ≡ by_flags u true f n
memory_is u f n e = ap (λ b. by_flags b true f n) (sym e)

printed_is : (u f n : Bool) → u ≡ false → by_flags false false f n ≡ by_flags u false f n
printed_is u f n e = ap (λ b. by_flags b false f n) (sym e)

memory_so : (h : How) → is_memory h ≡ true → h ≡ how.Memory
memory_so how.Memory e = refl
memory_so how.Done e = absurd (false≢true e)
memory_so how.Halted e = absurd (false≢true e)
memory_so (how.Fault c) e = absurd (false≢true e)

-- an end that is Memory tells that memory was wanting
abbrev pub TellsMemory : Outcome → Type 0
TellsMemory o = any (λ (e : EndOf). is_memory e.how) o.ends ≡ true → o.memory ≡ true

-- it does where each end of Memory does
pub tells_memory_if : (o : Outcome) → ((e : EndOf) → IsAmong e o.ends → e.how ≡ how.Memory → o.memory ≡ true) → TellsMemory o
tells_memory_if o each h = let f = any_found (λ (e : EndOf). is_memory e.how) o.ends h in each f.0 f.1 (memory_so f.0.how f.2)

-- a work does
pub work_tells_memory : (work : Work) (dold dnew : DepotTold) (frames : List Frame) (cut : Option Frame) (rest : List ℕ) (o : Outcome) → Performs work (run_record_of dold dnew frames cut rest o) → TellsMemory o
work_tells_memory work dold dnew frames cut rest o performs = tells_memory_if o (λ e i is.
    ⊎_elim (λ (x : IsUnmade (run_record_of dold dnew frames cut rest o)). x.memory) (λ (x : Ran work (run_record_of dold dnew frames cut rest o)). x.ends.memory e i is) performs.ran)

-- a run that is so was done, of which these frames were printed
pub record DoesRun (IsSo : RunRecord → Type 0) (depot_old depot_new : DepotTold) (old new : SinkTold) (o : Outcome) (frames : List Frame) (cut : Option Frame) (rest : List ℕ) : Type 0 where
  pub broke : is_some cut ≡ o.sink_failed
  pub performs : IsSo (run_record_of depot_old depot_new frames cut rest o)
  pub wrote : new ≡ record (with_bytes old (frames_text frames ++ rest)) { faults = and_one o.sink_failed old.faults }
  pub begun : o.ends ≡ [] → (o.sink_failed ≡ false) × (o.memory ≡ true)
  pub remembered : TellsMemory o

-- the run was told, with these frames
pub record IsTold (IsSo : RunRecord → Type 0) (c : Call) (frames : List Frame) (cut : Option Frame) (rest : List ℕ) (wanted : Bool) : Type 0 where
  pub causes : Causes
  pub early : causes.early ≡ false
  pub refused : causes.refused ≡ None
  pub status : HasStatus c causes
  pub tells : TellsRun IsSo c causes
  pub same_frames : tells.frames ≡ frames
  pub same_cut : tells.cut ≡ cut
  pub same_rest : tells.rest ≡ rest
  pub same_wanted : tells.wanted ≡ wanted

module _ (words : List (List ℕ)) (src src' : SourceTold) (dold dnew : DepotTold) (so mid sn : SinkTold) (eold enew : SinkTold) (o : Outcome) (IsSo : RunRecord → Type 0) (frames : List Frame) (cut : Option Frame) (rest : List ℕ) (meant : is_meant (command_of words) ≡ true) (quiet : nat_lt src.faults src'.faults ≡ false) (runs : DoesRun IsSo dold dnew so mid o frames cut rest) where
  abbrev tail : List ℕ
  tail = tail_text o.ends o.ledger

  abbrev front : List ℕ
  front = frames_text frames ++ rest

  abbrev told : Status → Call
  told s = call_of words src src' dold dnew so sn eold enew (record { status = s; ends = o.ends; ledger = o.ledger })

  abbrev causes : Bool → Causes
  causes m = record { early = false; words = true; unread = false; refused = None; unwritten = nat_lt so.faults sn.faults; memory = m; faulty = any (λ (e : EndOf). is_fault e.how) o.ends; unclean = has_event is_failed o.ledger }

  -- the call was told, from the parts that differ by how
  tells : (s : Status) (m : Bool) → (o.memory ≡ true → m ≡ true) → s ≡ status_of (causes m) → IsText (told s) (causes m) frames cut rest o.memory → IsToldLine eold enew (line_of s) → IsTold IsSo (told s) frames cut rest o.memory
  tells s m more is text line = record {
    causes = causes m;
    early = refl;
    refused = refl;
    status = record {
      words = sym meant;
      unread = sym quiet;
      unwritten = refl;
      memory = λ h. more (runs.remembered h);
      faulty = refl;
      unclean = refl;
      status = is;
      line = line;
    };
    tells = record {
      frames = frames;
      cut = cut;
      rest = rest;
      wanted = o.memory;
      performs = runs.performs;
      text = text;
    };
    same_frames = refl;
    same_cut = refl;
    same_rest = refl;
    same_wanted = refl;
  }

  mid_faults : mid.faults ≡ and_one o.sink_failed so.faults
  mid_faults = ap (λ (x : SinkTold). x.faults) runs.wrote

  mid_kept : o.sink_failed ≡ false → mid.faults ≡ so.faults
  mid_kept f = mid_faults ∙ ap (λ b. and_one b so.faults) f

  mid_rose : o.sink_failed ≡ true → mid.faults ≡ so.faults + 1
  mid_rose t = mid_faults ∙ ap (λ b. and_one b so.faults) t

  mid_written : mid.written ≡ (with_bytes so front).written
  mid_written = ap (λ (x : SinkTold). x.written) runs.wrote

  -- nothing was said behind the frames
  silent : sn ≡ mid → sn.written ≡ (with_bytes so (frames_text frames ++ (rest ++ []))).written
  silent e = ap (λ (x : SinkTold). x.written) e ∙ (mid_written ∙ ap (λ b. (with_bytes so b).written) (ap (λ b. frames_text frames ++ b) (sym (append-nil rest))))

  -- these bytes were said behind the frames
  said_behind : (bytes : List ℕ) → sn.written ≡ (with_bytes mid bytes).written → sn.written ≡ (with_bytes so (frames_text frames ++ (rest ++ bytes))).written
  said_behind bytes e =
      e ∙ (ap (λ (w : Option (List ℕ)). (with_bytes (record { written = w; faults = so.faults }) bytes).written) mid_written
      ∙ (ap (λ (x : SinkTold). x.written) (with_bytes_twice so front bytes) ∙ ap (λ b. (with_bytes so b).written) (append_assoc (frames_text frames) rest bytes)))

  never_idle : o.sink_failed ≡ true → o.ends ≡ [] → ⊥
  never_idle t e = both_ways o.sink_failed (runs.begun e).0 t

  never_none : o.memory ≡ false → o.ends ≡ [] → ⊥
  never_none f e = both_ways o.memory f (runs.begun e).1

  -- no frame was cut and memory wasn't wanting in the work
  begun : (said : List ℕ) (s : Status) (k : Causes) → o.sink_failed ≡ false → o.memory ≡ false → SaysBegun said tail s → SaysTail k said tail s (is_some cut) o.memory
  begun said s k f g h = subst (λ b. SaysTail k said tail s b o.memory) (sym (runs.broke ∙ f)) (subst (λ w. SaysTail k said tail s false w) (sym g) h)

  -- memory was wanting in the work or for the tail
  says_nothing : o.sink_failed ≡ false → nat_lt so.faults sn.faults ≡ false → (w : Bool) → o.memory ≡ w → SaysTail (causes true) [] tail status.Memory (is_some cut) o.memory
  says_nothing f u true e = subst (λ b. SaysTail (causes true) [] tail status.Memory b o.memory) (sym (runs.broke ∙ f)) (subst (λ w. SaysTail (causes true) [] tail status.Memory false w) (sym e) (u, refl, refl))
  says_nothing f u false e = begun [] status.Memory (causes true) f e refl

  tells_failed : o.sink_failed ≡ true → sn ≡ mid → IsToldLine eold enew (line_of status.NotWritten) → IsTold IsSo (told status.NotWritten) frames cut rest o.memory
  tells_failed t e line =
      let up : nat_lt so.faults sn.faults ≡ true = rose so.faults sn.faults (ap (λ (x : SinkTold). x.faults) e ∙ mid_rose t) in
      tells status.NotWritten o.memory (λ h. h) (failed_is _ _ _ _ up) (record {
        said = [];
        written = silent e;
        tail = subst (λ b. SaysTail (causes o.memory) [] tail status.NotWritten b o.memory) (sym (runs.broke ∙ t)) (up, refl);
        spoke = λ n. absurd (never_idle t n);
        once = let same : sn.faults ≡ mid.faults = ap (λ (x : SinkTold). x.faults) e in let m : mid.faults ≡ so.faults + 1 = mid_rose t in omega arith;
      }) line

  tells_memory : o.sink_failed ≡ false → sn ≡ mid → IsToldLine eold enew (line_of status.Memory) → IsTold IsSo (told status.Memory) frames cut rest o.memory
  tells_memory f e line =
      let same : sn.faults ≡ so.faults = ap (λ (x : SinkTold). x.faults) e ∙ mid_kept f in
      tells status.Memory true (λ h. refl) (memory_is (nat_lt so.faults sn.faults) (any (λ (x : EndOf). is_fault x.how) o.ends) (has_event is_failed o.ledger) (kept so.faults sn.faults same)) (record {
        said = [];
        written = silent e;
        tail = says_nothing f (kept so.faults sn.faults same) o.memory refl;
        spoke = λ n. refl;
        once = omega arith;
      }) line

  tells_broken : o.sink_failed ≡ false → o.memory ≡ false → BreaksOff mid sn tail → IsToldLine eold enew (line_of status.NotWritten) → IsTold IsSo (told status.NotWritten) frames cut rest o.memory
  tells_broken f g b line =
      let more : sn.faults ≡ so.faults + 1 = ap (λ (x : SinkTold). x.faults) b.told ∙ ap (λ n. n + 1) (mid_kept f) in
      let up : nat_lt so.faults sn.faults ≡ true = rose so.faults sn.faults more in
      tells status.NotWritten o.memory (λ h. h) (failed_is _ _ _ _ up) (record {
        said = take b.count tail;
        written = said_behind (take b.count tail) (ap (λ (x : SinkTold). x.written) b.told);
        tail = begun (take b.count tail) status.NotWritten (causes o.memory) f g (drop b.count tail, let d = length-drop b.count tail in let l : b.count < length tail = b.front in omega (arith, d, l), take-append-drop b.count tail);
        spoke = λ n. absurd (never_none g n);
        once = omega arith;
      }) line

  told_whole : (s : Status) → o.sink_failed ≡ false → o.memory ≡ false → sn ≡ with_bytes mid tail → s ≡ status_by o.ends o.ledger → SaysBegun tail tail s → IsToldLine eold enew (line_of s) → IsTold IsSo (told s) frames cut rest o.memory
  told_whole s f g e is says line =
      let same : sn.faults ≡ so.faults = ap (λ (x : SinkTold). x.faults) e ∙ mid_kept f in
      tells s false (λ h. absurd (both_ways o.memory g h)) (is ∙ printed_is _ _ _ (kept so.faults sn.faults same)) (record {
        said = tail;
        written = said_behind tail (ap (λ (x : SinkTold). x.written) e);
        tail = begun tail s (causes false) f g says;
        spoke = λ n. absurd (never_none g n);
        once = omega arith;
      }) line

  tells_printed : (s : Status) → o.sink_failed ≡ false → o.memory ≡ false → Prints o mid sn s → IsToldLine eold enew (line_of s) → IsTold IsSo (told s) frames cut rest o.memory
  tells_printed status.NotWritten f g p line = tells_broken f g p line
  tells_printed status.Memory f g p line = tells_memory f p line
  tells_printed status.BadWords f g p line = absurd p
  tells_printed (status.Refused e) f g p line = told_whole (status.Refused e) f g p.0 p.1 refl line
  tells_printed status.Unread f g p line = told_whole status.Unread f g p.0 p.1 refl line
  tells_printed status.Good f g p line = told_whole status.Good f g p.0 p.1 refl line
  tells_printed status.Faulty f g p line = told_whole status.Faulty f g p.0 p.1 refl line
  tells_printed status.Unclean f g p line = told_whole status.Unclean f g p.0 p.1 refl line
  tells_printed status.Broken f g p line = told_whole status.Broken f g p.0 p.1 refl line
  tells_printed (status.LedgerRefused e) f g p line = told_whole (status.LedgerRefused e) f g p.0 p.1 refl line
  tells_printed status.LedgerUnread f g p line = told_whole status.LedgerUnread f g p.0 p.1 refl line

  tells_any : (s : Status) → PrintsTail o mid sn s → IsToldLine eold enew (line_of s) → IsTold IsSo (told s) frames cut rest o.memory
  tells_any s p line =
      ⊎_elim
      (λ t. let q = p.failed t in subst (λ x. IsTold IsSo (told x) frames cut rest o.memory) (sym q.0) (tells_failed t q.1 (subst (λ x. IsToldLine eold enew (line_of x)) q.0 line)))
      (λ f. ⊎_elim
      (λ t. let q = p.memory f t in subst (λ x. IsTold IsSo (told x) frames cut rest o.memory) (sym q.0) (tells_memory f q.1 (subst (λ x. IsToldLine eold enew (line_of x)) q.0 line)))
      (λ g. tells_printed s f g (p.printed f g) line)
      (cases_Bool o.memory))
      (cases_Bool o.sink_failed)

  -- the run was done and told
  pub run_told : (r : Report) → Tells o mid sn eold enew r → IsTold IsSo (call_of words src src' dold dnew so sn eold enew r) frames cut rest o.memory
  run_told r t =
      subst (λ x. IsTold IsSo (call_of words src src' dold dnew so sn eold enew x) frames cut rest o.memory) (sym (report_is r r.status o.ends o.ledger refl t.report.ends_are t.report.ledger_is)) (tells_any r.status t.tail t.report.line)
