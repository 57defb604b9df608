-- The one stream of cat.
use Rattle.std.proofs.Common.{◌≡◌, ◌≢◌, ℕ, ◌<◌, ◌≤◌, Bool, true, false, List, [], ◌∷◌, ◌++◌, inl, inr, map, take, length, Option, Some, None, IfSome, refl, sym, ◌∙◌, ap, subst, ⊎_elim, arith}
use Rattle.std.specs.List.{AllByRecursion}
use Rattle.chunk_core.specs.Elements.{Element, rendering_of}
use Rattle.chunk_core.specs.Outcomes.{End, Outcomes, Done, Fault, Cut}
use Rattle.chunk_core.specs.declared.code.Code.{Code}
use Rattle.chunk_core.specs.declared.code.Code.TheVariants as code
use Rattle.chunk_core.specs.declared.code.How.{How}
use Rattle.chunk_core.specs.declared.code.How.TheVariants as how
use Rattle.device_port.specs.Device.{DeviceTold, faults_of, to_read}
use Rattle.res_ledger.specs.declared.event.StreamNo.TheVariants.{Inner}
use Rattle.device_port.specs.Depot.{DepotTold}
use Rattle.device_port.specs.Sink.{SinkTold}
use Rattle.pull_nodes.specs.Runs.{FirstBytes, OrLeft, Reads, OpensThen}
use Rattle.run_rules.specs.declared.end.EndOf.{EndOf}
use Rattle.run_rules.specs.Facts.{is_halted, is_memory}
use Rattle.run_rules.specs.Ends.{act_count}
use Rattle.run_rules.specs.Outputs.{IsReported, elements_in_pieces}
use Rattle.cat_run.specs.declared.outcome.Outcome.{Outcome}
use Rattle.cat_run.specs.Alone.{frame_of, IsByte, RunsAlone}
use Rattle.cat_run.specs.Cat.{FileRuns, IdealFileRuns, RunsCat}
use Rattle.cat_run.proofs.AlonePerforms.{IsCovered, performs_alone}
use Rattle.chunk_core.proofs.Each.{each_left, each_right}
use Rattle.cat_run.proofs.Pieces.{bytes_are, bytes_length, cut_is, cut_of, pieces_fit}
use Rattle.joined_runs.proofs.Reading.{IsCounted, clean_but, clean_each, counted_as, fault_cut, fault_done, fault_is, fault_run, stops_shows, whole_is}

-- What a file gives are bytes.

first_bytes : (o : Option (List ℕ)) (n : ℕ) (ys : List Element) → FirstBytes o n ys → AllByRecursion IsByte ys
first_bytes None n ys r = subst (λ xs. AllByRecursion IsByte xs) (sym r.2) (bytes_are r.0)
first_bytes (Some c) n ys r = subst (λ xs. AllByRecursion IsByte xs) (sym r) (bytes_are (take n c))

left_bytes : (R : Outcomes) → ((ys : List Element) (e : End) → R ys e → AllByRecursion IsByte ys) → (ys : List Element) (e : End) → OrLeft (Unit {0}) R ys e → AllByRecursion IsByte ys
left_bytes R h ys e (inl r) = h ys e r
left_bytes R h ys e (inr (c, inl n)) = subst (λ xs. AllByRecursion IsByte xs) (sym n.0) tt
left_bytes R h ys e (inr (c, inr (more, g, r))) = each_left IsByte ys more (h (ys ++ more) g r)

opens_bytes : (d : DeviceTold) (ys : List Element) (e : End) → OpensThen d (OrLeft (Unit {0}) (Reads d)) (Unit {0}) ys e → AllByRecursion IsByte ys
opens_bytes d ys e (inl r) = left_bytes (Reads d) (λ xs g h. first_bytes d.content d.at xs h.0) ys e r.2
opens_bytes d ys e (inr r) = subst (λ xs. AllByRecursion IsByte xs) (sym r.2) tt

pub file_bytes : (d : DeviceTold) (ys : List Element) (e : End) → FileRuns d ys e → AllByRecursion IsByte ys
file_bytes d ys e r = left_bytes (OpensThen d (OrLeft (Unit {0}) (Reads d)) (Unit {0})) (opens_bytes d) ys e r.0

-- A fault shows on its device.

-- the only row has the device
pub in_row_0 : (w : ℕ → DeviceTold) (o : Option (DeviceTold → ℕ)) → IfSome o (λ n. 0 < n (w 0)) → IfSome o (λ n. (k : ℕ) × (k < 1) × (0 < n (w k)))
in_row_0 w None h = tt
in_row_0 w (Some n) h = (0, omega arith, h)

pub file_shows : (d : DeviceTold) (ys : List Element) (c : Code) → FileRuns d ys (Fault c) → IsCounted d c
file_shows d ys c (inr h, t) = absurd (fault_cut c h.0)
file_shows d ys c (inl (inl (o, f, inl r)), t) = stops_shows d c r.1
file_shows d ys c (inl (inl (o, f, inr h)), t) = absurd (fault_cut c h.0)
file_shows d ys c (inl (inr r), t) = counted_as (λ n. 0 < n d) c code.Open (fault_is c code.Open r.3) (omega (arith, r.1))

-- A run that was not left, of a device of which no act failed, is an ideal one.

pub ideal_is : (d : DeviceTold) (ys : List Element) (e : End) → faults_of d ≡ 0 → (e ≢ Cut) → FileRuns d ys e → IdealFileRuns d ys e
ideal_is d ys e calm n (inr c, t) = absurd (n c.0)
ideal_is d ys e calm n (inl (inl (o, f, inl r)), t) = whole_is d ys e calm n r
ideal_is d ys e calm n (inl (inl (o, f, inr c)), t) = absurd (n c.0)
ideal_is d ys e calm n (inl (inr r), t) = absurd (omega (arith, calm, r.1))

none_some : (x : EndOf) (xs : List EndOf) → (x ∷ xs) ≢ []
none_some x xs e = cc

module _ (path : List ℕ) (size : ℕ) (old new : DepotTold) (so sn : SinkTold) (o : Outcome) (r : RunsAlone (to_read path ∷ []) 0 (λ w. FileRuns (w 0)) size old new so sn o) where
  abbrev d : DeviceTold
  d = r.home 0

  abbrev given : List Element
  given = elements_in_pieces r.printed.pieces

  abbrev IsIdealDone : Type 0
  IsIdealDone = (v : ℕ → DeviceTold) (ys : List Element) (e : End) → ((k : ℕ) → (faults_of (v k) ≡ 0) × ((v k).content ≡ (r.home k).content)) → IdealFileRuns (v 0) ys e → e ≡ Done

  whole_by : (e : End) (h : How) → IsReported e h → is_halted h ≡ false → is_memory h ≡ false → FileRuns d given e → faults_of d ≡ 0 → IsIdealDone
      → (h ≡ how.Done) × ((ys : List Element) × IdealFileRuns d ys Done × (rendering_of given ≡ rendering_of ys))
  whole_by Done h is halts forgets run calm ideal = (is, (given, ideal_is d given Done calm (λ e. cc) run, refl))
  whole_by (Fault c) h is halts forgets run calm ideal = absurd (fault_done c (ideal (clean_but r.home) given (Fault c) (clean_each r.home calm) (ideal_is d given (Fault c) calm (fault_cut c) run)))
  whole_by Cut h is halts forgets run calm ideal = absurd (⊎_elim (λ i. let e : true ≡ false = sym (ap is_halted i) ∙ halts in cc) (λ i. let e : true ≡ false = sym (ap is_memory i) ∙ forgets in cc) is)

  -- a file gives bytes alone, for whose text no memory is wanting
  wants : o.memory ≡ true → r.how ≡ how.Memory
  wants m = ⊎_elim
      (λ e. e)
      (λ l. let p = l.1 in absurd (p.unlike (each_right IsByte given p.lost (file_bytes d (given ++ p.lost) Cut p.run))))
      (r.run.wanting m).1

  covered : IsCovered (to_read path ∷ []) 0 (λ w. FileRuns (w 0)) (λ w. IdealFileRuns (w 0)) size old new so sn o r
  covered = record {
    shown = λ c f. in_row_0 r.home (act_count c) (file_shows d given c (fault_run (FileRuns d) given r.run.end r.how r.run.reported r.run.run c f));
    wants = wants;
    whole = λ halts forgets calm ideal. whole_by r.run.end r.how r.run.reported halts forgets r.run.run (calm 0 (omega arith)) ideal;
  }

  cut_fits : (b : Bool) → o.sink_failed ≡ b → IfSome (cut_of 0 b r.printed.next) (λ f. length f.payload ≤ size)
  cut_fits false e = tt
  cut_fits true e =
      let bytes = each_right IsByte given r.printed.next (file_bytes d (given ++ r.printed.next) Cut (r.run.goes_on e)) in
      let counted = bytes_length r.printed.next bytes in
      omega (arith, counted, r.small.next_fits)

  -- the work of cat was done
  pub cat_runs_alone : RunsCat path size old new so sn o
  cat_runs_alone = record {
    frames = map (frame_of 0) r.printed.pieces;
    cut = cut_of 0 o.sink_failed r.printed.next;
    rest = r.printed.rest;
    broke = cut_is 0 o.sink_failed r.printed.next;
    within = record { fits = pieces_fit 0 size r.printed.pieces r.small.fits (file_bytes d given r.run.end r.run.run); cut_fits = cut_fits o.sink_failed refl };
    performs = performs_alone (to_read path ∷ []) 0 (λ w. FileRuns (w 0)) (λ w. IdealFileRuns (w 0)) size old new so sn o r covered;
    wrote = r.printed.wrote;
    begun = λ e. absurd (none_some (record { who = Inner 0; how = r.how }) [] (sym r.ends ∙ e));
    wanting = λ m. ((r.run.wanting m).0, subst (λ es. AllByRecursion (λ (e : EndOf). e.how ≡ how.Memory) es) (sym r.ends) (wants m, tt));
  }
