-- Runs as none may be.
use Rattle.std.proofs.Common.{◌≡◌, ◌<◌, ℕ, false, List, [], ◌∷◌, map, flat_map, inl, inr, refl, sym, ap, ◌∙◌, subst, ⊎_elim, arith}
use Rattle.std.proofs.lemmas.Bool.{false≢true}
use Rattle.std.specs.Prelude.{codes}
use Rattle.chunk_core.specs.Elements.{Byte, Line, rendering_of}
use Rattle.chunk_core.specs.Lists.{IsAmong}
use Rattle.chunk_core.specs.Lists.IsAmong.{here, there}
use Rattle.chunk_core.proofs.Each.{among_each}
use Rattle.chunk_core.specs.Outcomes.{Done, exit_of}
use Rattle.chunk_core.specs.Texts.{Frame}
use Rattle.chunk_core.specs.declared.code.Code.TheVariants as code
use Rattle.chunk_core.specs.declared.code.Exit.TheVariants.{Errored, Succeeded}
use Rattle.chunk_core.specs.declared.code.How.{How}
use Rattle.chunk_core.specs.declared.code.How.TheVariants as how
use Rattle.device_port.specs.Device.{DeviceTold}
use Rattle.res_ledger.specs.declared.event.StreamNo.TheVariants.{Inner}
use Rattle.run_rules.specs.declared.end.EndOf.{EndOf}
use Rattle.run_rules.specs.Facts.{IsFailure, IsOver, is_fault}
use Rattle.run_rules.specs.Outputs.{IsReported, elements_in_pieces, payloads_by}
use Rattle.run_rules.specs.Work.{RunRecord, begun_frames}
use Rattle.chain_pipes.specs.Over.{Came, over}
use Rattle.chain_pipes.proofs.Runs.{worked}
use Rattle.tee_rules.specs.Reader.{ReaderRuns}
use Rattle.tee_rules.specs.Branches.{AreBranches, IsBranch}
use Rattle.tee_rules.specs.Tee.{HasCauseToHalt, TeesFile, Teed}
use Rattle.tee_rules.specs.Worked.{counted_and_filtered, cut_and_done, done_too_early, end_missing, filtering, halted_for_nothing, hidden_fault, left_open, path_a, run_with, two_lines, unknown_branch, wrong_exit}
use Rattle.tee_rules.proofs.Given.{all_given, outer_done, pieces_text, read_well, reported_done, whole_content}

abbrev first_how : List EndOf → How
first_how [] = how.Done
first_how (e ∷ es) = e.how

abbrev behind_first : List EndOf → List EndOf
behind_first [] = []
behind_first (e ∷ es) = es

-- what the record of a run says of one in which memory was there
module _ (c : RunRecord) (sure : c.memory ≡ false) (t : TeesFile path_a counted_and_filtered c) where
  ran : Teed path_a counted_and_filtered c
  ran = ⊎_elim (λ u. absurd (false≢true (sym sure ∙ u.memory))) (λ r. r) t.ran

  outer_how : ran.ending ≡ first_how c.ends
  outer_how = sym (ap first_how ran.ends)

  inner_ends : ran.inner ≡ behind_first c.ends
  inner_ends = sym (ap behind_first ran.ends)

  branches : AreBranches ran.given ran.end (begun_frames c) 0 counted_and_filtered (behind_first c.ends)
  branches = subst (AreBranches ran.given ran.end (begun_frames c) 0 counted_and_filtered) inner_ends ran.each

  outer_ends : first_how c.ends ≡ how.Done → ran.end ≡ Done
  outer_ends e = reported_done ran.end (subst (IsReported ran.end) (outer_how ∙ e) ran.reader.reported)

-- the second branch of a run in which all is done gave its line
module _ (F : List Frame) (t : TeesFile path_a counted_and_filtered (run_with F)) where
  abbrev r : Teed path_a counted_and_filtered (run_with F)
  r = ran (run_with F) refl t

  b : IsBranch r.given r.end (begun_frames (run_with F)) 1 filtering how.Done
  b = (branches (run_with F) refl t).2.1

  whole : r.given ≡ map Byte two_lines
  whole = whole_content r.home r.given two_lines r.row.content (subst (ReaderRuns r.home r.given) (outer_ends (run_with F) refl t refl) r.reader.run)

  came_is : over filtering b.input b.end ≡ over filtering (map Byte two_lines) Done
  came_is = ap (λ xs. over filtering xs b.end) (all_given r.given r.end (begun_frames (run_with F)) 1 filtering b ∙ whole) ∙ ap (λ e. over filtering (map Byte two_lines) e) b.printed.0

  elements : elements_in_pieces b.pieces ≡ Line (codes "cd") ∷ []
  elements = b.printed.2 ∙ ap (λ (x : Came). x.list) (came_is ∙ worked.filter)

  second_prints : flat_map (λ x. x) (payloads_by 1 (begun_frames (run_with F))) ≡ codes "cd\n"
  second_prints = ap (λ ts. flat_map (λ x. x) ts) b.frames ∙ (pieces_text b.pieces ∙ ap rendering_of elements)

pub refused : (F : List Frame) (text : List ℕ) → flat_map (λ x. x) (payloads_by 1 (begun_frames (run_with F))) ≡ text → (text ≡ codes "cd\n" → ⊥) → TeesFile path_a counted_and_filtered (run_with F) → ⊥
refused F text is other t = other (sym is ∙ second_prints F t)

pub of_no_branch : TeesFile path_a counted_and_filtered unknown_branch → ⊥
of_no_branch t = let no : 2 < 2 = (ran unknown_branch refl t).numbers.1.1.0.0 in omega (arith, no)

-- it was halted without a cause
none_failed : (e : EndOf) → IsAmong e halted_for_nothing.ends → IsFailure e.how → ⊥
none_failed e m f = false≢true (sym (among_each (λ (x : EndOf). is_fault x.how ≡ false) e halted_for_nothing.ends (refl, (refl, (refl, tt))) m) ∙ ap is_fault f.1)

no_cause : HasCauseToHalt halted_for_nothing → ⊥
no_cause (inl n) = n refl
no_cause (inr (inl m)) = false≢true m
no_cause (inr (inr f)) = none_failed f.0 f.1 f.2

pub for_nothing : TeesFile path_a counted_and_filtered halted_for_nothing → ⊥
for_nothing t = no_cause ((ran halted_for_nothing refl t).caused.1.1.0.halted refl)

-- it is done, and the outer stream isn't
pub too_early : TeesFile path_a counted_and_filtered done_too_early → ⊥
too_early t =
    let r = ran done_too_early refl t in
    let done : r.end ≡ Done = outer_done r.given r.end (begun_frames done_too_early) 0 _ (branches done_too_early refl t).1 in
    let how_is : r.ending ≡ how.Done = subst (λ e. IsReported e r.ending) done r.reader.reported in
    let no : how.Fault code.Read ≡ how.Done = sym (outer_how done_too_early refl t) ∙ how_is in
    cc

-- a fault of the device is shown
pub shows_fault : TeesFile path_a counted_and_filtered hidden_fault → ⊥
shows_fault t =
    let r = ran hidden_fault refl t in
    let read : r.home.read_faults ≡ 0 = read_well r.home r.given (subst (ReaderRuns r.home r.given) (outer_ends hidden_fault refl t refl) r.reader.run) in
    let no : 1 ≡ 0 = ap (λ (d : DeviceTold). d.read_faults) (r.row.only _ (here [])) ∙ read in
    omega (arith, no)

-- each device comes back closed
pub is_shut : TeesFile path_a counted_and_filtered left_open → ⊥
is_shut t = false≢true (sym t.devices.shut.0.shut)

-- the exit tells of the end
pub exit_tells : TeesFile path_a counted_and_filtered wrong_exit → ⊥
exit_tells t =
    let r = ran wrong_exit refl t in
    let told : Errored ≡ exit_of r.ending = r.reader.exits.1.0 in
    let no : Errored ≡ Succeeded = told ∙ ap exit_of (outer_how wrong_exit refl t) in
    cc

-- each branch has an end
pub ends_all : TeesFile path_a counted_and_filtered end_missing → ⊥
ends_all t = (branches end_missing refl t).2

-- the branch of a frame that wasn't written whole isn't done
pub not_done : TeesFile path_a counted_and_filtered cut_and_done → ⊥
not_done t =
    let r = ran cut_and_done refl t in
    let x : EndOf = record { who = Inner 1; how = how.Done } in
    let u = among_each (λ (e : EndOf). e.who ≡ Inner 1 → IsOver e.how → ⊥) x r.inner r.unfinished (subst (λ es. IsAmong x es) (sym (inner_ends cut_and_done refl t)) (there _ (here []))) in
    u refl (inl refl)
