-- No rotation leaves such a record.
use Rattle.std.proofs.Common.{◌≡◌, ◌+◌, ◌<◌, ℕ, Bool, true, List, length, take, Some, IfSome, refl, sym, ap, ◌∙◌, subst, ⊎_elim, inl, inr, arith}
use Rattle.std.specs.Prelude.{codes}
use Rattle.std.specs.Fmt.{digits}
use Rattle.std.specs.List.{AllByRecursion}
use Rattle.std.specs.Str.{bytes_eq}
use Rattle.std.proofs.lemmas.Bool.{cases_eq, false≢true}
use Rattle.chunk_core.specs.Lists.{IsAmong}
use Rattle.chunk_core.specs.Elements.{Element}
use Rattle.chunk_core.specs.Outcomes.{End, Done, Fault, Cut, exit_of}
use Rattle.chunk_core.specs.declared.code.Code.{Code}
use Rattle.chunk_core.specs.declared.code.Code.TheVariants as code
use Rattle.chunk_core.specs.declared.code.Exit.TheVariants.{Succeeded, Errored}
use Rattle.chunk_core.specs.declared.code.How.{How}
use Rattle.chunk_core.specs.declared.code.How.TheVariants as how
use Rattle.chunk_core.proofs.Each.{among_each}
use Rattle.chunk_core.proofs.Members.{among_cons, among_nil}
use Rattle.device_port.specs.Device.{DeviceTold, Place, is_write, to_write}
use Rattle.device_port.specs.Depot.{DepotTold}
use Rattle.res_ledger.specs.declared.event.Event.{Event}
use Rattle.run_rules.specs.Outputs.{IsReported, RunsOrLeft, elements_in_pieces}
use Rattle.run_rules.specs.Run.{IsUnmade, Ran}
use Rattle.rotate_rules.specs.Pieces.{EndSays, IsLast, IsTooMuch, IsWhole, Rotated, RotatingRuns, file_name, piece_of, rotate_work}
use Rattle.rotate_rules.specs.Rotation.{RotatesFiles}
use Rattle.rotate_rules.specs.Worked.{failed_open, late, two_files}
use Rattle.headline_laws.proofs.Ledgers.{late_holds_more}
use Rattle.headline_laws.specs.Calls.{a, closed_device}
use Rattle.headline_laws.specs.Rotated.{p, piece_device, rotated_depot, rotation_record, six, two_devices, with_both}

-- the stream ran, since it ended
rotated : (n : ℕ) (new : DepotTold) (h : How) (L : List Event) (m : Bool) → RotatesFiles a p n (rotation_record new h L m) → Ran (rotate_work a p n) (rotation_record new h L m)
rotated n new h L m r = ⊎_elim (λ (u : IsUnmade (rotation_record new h L m)). let no : ⊥ = cc in absurd no) (λ x. x) r.performs.ran

-- the end of a run, by how it is reported

reported_done : (e : End) → IsReported e how.Done → e ≡ Done
reported_done Done r = refl
reported_done (Fault c) r = cc
reported_done Cut (inl r) = cc
reported_done Cut (inr r) = cc

reported_fault : (e : End) (c : Code) → IsReported e (how.Fault c) → e ≡ Fault c
reported_fault Done c r = cc
reported_fault (Fault d) c r = let same : c ≡ d = cc in ap (λ x. Fault x) (sym same)
reported_fault Cut c (inl r) = cc
reported_fault Cut c (inr r) = cc

module _ (n : ℕ) (new : DepotTold) (L : List Event) (m : Bool) where
  -- it is never halted
  pub never_halted : ¬ (RotatesFiles a p n (rotation_record new how.Halted L m))
  never_halted r = r.rotation.never_halted.0 refl

  -- it is told a fault only where a device failed so
  pub never_made_up : AllByRecursion (λ (d : DeviceTold). d.write_faults ≡ 0) new.retired → ¬ (RotatesFiles a p n (rotation_record new (how.Fault code.Write) L m))
  never_made_up calm r = let s = (rotated n new (how.Fault code.Write) L m r).ends.caused.0.fault in let z = among_each (λ (d : DeviceTold). d.write_faults ≡ 0) s.0 new.retired calm s.1 in let l = s.3 in omega (arith, z, l)

-- three files are never open at a time
pub never_three : (n : ℕ) (new : DepotTold) (h : How) (m : Bool) → ¬ (RotatesFiles a p n (rotation_record new h late m))
never_three n new h m r = late_holds_more r.rotation.two

-- what ended by itself was not left
over_run : (n : ℕ) (w : ℕ → DeviceTold) (e : End) (ys : List Element) → (e ≡ Cut → ⊥) → RunsOrLeft (RotatingRuns n w) ys e → RotatingRuns n w ys e
over_run n w e ys never (inl r) = r
over_run n w e ys never (inr r) = absurd (never r.0)

fault_is_left : (c : Code) → Fault c ≡ Cut → ⊥
fault_is_left c e = cc

done_is_left : Done ≡ Cut → ⊥
done_is_left e = cc

-- a file of six bytes isn't too long
pub never_too_many : (new : DepotTold) (L : List Event) (m : Bool) → ¬ (RotatesFiles a p 4 (rotation_record new (how.Fault code.TooMany) L m))
never_too_many new L m r =
    let ran = rotated 4 new (how.Fault code.TooMany) L m r in
    let o = ran.outputs.outputs.0 in
    let s : Rotated 4 ran.home o.end = (over_run 4 ran.home o.end (elements_in_pieces o.pieces) (λ e. fault_is_left code.TooMany (sym (reported_fault o.end code.TooMany o.reported) ∙ e)) o.run).1 in
    let much : IsTooMuch 4 (ran.home 0) s.given = subst (λ e. EndSays 4 (ran.home 0) s.given e) (reported_fault o.end code.TooMany o.reported) s.says in
    let long = (subst (λ x. IfSome x (λ c. (4096 < length c) × (s.given ≡ take 4096 c))) ran.rows.at_home.1 much.bytes).0 in
    omega (arith, long)

-- the root is closed with the exit of the end
pub never_errored : (n : ℕ) (new : DepotTold) (m : Bool) → ¬ (RotatesFiles a p n (rotation_record new how.Done failed_open m))
never_errored n new m r =
    let ran = rotated n new how.Done failed_open m r in
    let x = ran.exits.0 in
    let done : x.how ≡ how.Done = ⊎_elim (λ s. s) (λ s. absurd (s.beside refl)) x.same in
    let told : Errored ≡ exit_of how.Done = subst (λ h. Errored ≡ exit_of h) done x.told.1.1.1.0 in
    let no : ⊥ = cc in no

-- The names of the files.

pub first_name : file_name p 0 ≡ codes "p.0"
unfolding digits
first_name = refl

pub second_name : file_name p 1 ≡ codes "p.1"
unfolding digits
second_name = refl

-- two numbers of files aren't three
just_two : (files : ℕ) → 1 < files → (2 < files → ⊥) → 1 + 1 ≡ files
just_two files more few = ⊎_elim (λ (e : files ≡ 2). omega arith) (λ ne. absurd (few (omega (arith, ne)))) (cases_eq files 2)

-- a device of the second file is the third one
third_device : (first second : List ℕ) (d : DeviceTold) → d.place ≡ to_write (codes "p.1") → IsAmong d (two_devices first second) → d.written ≡ Some second
third_device first second d place m =
    ⊎_elim
    (λ (e : d ≡ closed_device six 6 true Succeeded 0 0). absurd (false≢true (ap (λ (x : DeviceTold). is_write x.place.mode) (sym e) ∙ ap (λ (q : Place). is_write q.mode) place)))
    (λ m. ⊎_elim
    (λ (e : d ≡ piece_device 1 (codes "p.0") first Succeeded). absurd (false≢true (ap (λ (x : DeviceTold). bytes_eq x.place.path (codes "p.1")) (sym e) ∙ ap (λ (q : Place). bytes_eq q.path (codes "p.1")) place)))
    (λ m. ⊎_elim (λ (e : d ≡ piece_device 2 (codes "p.1") second Succeeded). ap (λ (x : DeviceTold). x.written) e) (λ m. absurd (among_nil m)) (among_cons m))
    (among_cons m))
    (among_cons m)

-- the second file holds all that is behind the first piece, where the stream is done
pub never_cut : (second : List ℕ) (m : Bool) → length second < 2 → ¬ (RotatesFiles a p 4 (rotation_record (rotated_depot (with_both (codes "abcd") second) (two_devices (codes "abcd") second)) how.Done two_files m))
never_cut second m short r =
    let ran = rotated 4 _ how.Done two_files m r in
    let o = ran.outputs.outputs.0 in
    let e : o.end ≡ Done = reported_done o.end o.reported in
    let s : Rotated 4 ran.home o.end = (over_run 4 ran.home o.end (elements_in_pieces o.pieces) (λ q. done_is_left (sym e ∙ q)) o.run).1 in
    let whole : IsWhole (ran.home 0) s.given = subst (λ e. EndSays 4 (ran.home 0) s.given e) e s.says in
    let given : s.given ≡ six = subst (λ x. IfSome x (λ c. s.given ≡ c)) ran.rows.at_home.1 whole.bytes in
    let l : length s.given ≡ 6 = ap (λ (xs : List ℕ). length xs) given in
    let two : 1 + 1 ≡ s.files = just_two s.files ((s.enough 1).1 (omega (arith, l))) (λ h. let n = (s.enough 2).0 h in omega (arith, n, l)) in
    let place : (ran.home 2).place ≡ to_write (codes "p.1") = ran.rows.at_home.3.3.0 ∙ ap to_write second_name in
    let back : IsAmong (ran.home 2) (two_devices (codes "abcd") second) = ⊎_elim (λ b. b) (λ u. let n : 0 ≡ 1 = sym u.opens ∙ ran.rows.tied.1.1.1.1.0 in absurd (omega (arith, n))) ran.rows.at_home.3.3.2 in
    let wrote : IsLast o.end second (piece_of 4 s.given 1) = subst (λ x. IfSome x (λ b. IsLast o.end b (piece_of 4 s.given 1))) (third_device (codes "abcd") second (ran.home 2) place back) (s.last 1 two) in
    let is : second ≡ piece_of 4 six 1 = subst (λ g. second ≡ piece_of 4 g 1) given (subst (λ e. IsLast e second (piece_of 4 s.given 1)) e wrote) in
    let n : length second ≡ 2 = ap (λ (xs : List ℕ). length xs) is in
    omega (arith, n, short)
