-- Runs that can't be.
use Rattle.std.proofs.Common.{◌≡◌, ◌≤◌, [], ◌∷◌, length, Some, refl, ap, ◌∙◌, ⊎_elim, arith, length-append}
use Rattle.std.specs.Prelude.{codes}
use Rattle.std.proofs.lemmas.Bool.{false≢true}
use Rattle.chunk_core.specs.Lists.{IsAmong}
use Rattle.chunk_core.specs.Lists.IsAmong.{here, there}
use Rattle.chunk_core.specs.Outcomes.{exit_of}
use Rattle.chunk_core.specs.Texts.{frame_text}
use Rattle.chunk_core.specs.declared.code.Code.{Code}
use Rattle.chunk_core.specs.declared.code.Exit.TheVariants.{Canceled, Succeeded}
use Rattle.chunk_core.specs.declared.code.How.TheVariants as how
use Rattle.chunk_core.proofs.Each.{among_each}
use Rattle.res_ledger.specs.declared.event.StreamNo.TheVariants.{Inner, Outer}
use Rattle.res_ledger.specs.declared.event.What.TheVariants.{Close, Lease}
use Rattle.res_ledger.specs.declared.event.Event.{Event}
use Rattle.res_ledger.proofs.Ledgers.{inner_is}
use Rattle.run_rules.specs.declared.end.EndOf.{EndOf}
use Rattle.run_rules.specs.Facts.{IsFailure}
use Rattle.run_rules.specs.Work.{RunRecord}
use Rattle.join_tale.proofs.Places.{none_some, some_is}
use Rattle.joined_runs.specs.Shares.{IsOuterNote}
use Rattle.joined_runs.specs.Worked.{AreRefused, IsRefused, both_ran, byte_of, ended_so, file_runs, first_ran, given, no_list, noted, one_frame, reads_file, two_files, worked_run}
use Rattle.joined_runs.proofs.StreamEnds.{outer_so}
use Rattle.joined_runs.proofs.StreamOutputs.{follows, left_undone}

lost_end : IsRefused (record worked_run { ends = ended_so Outer how.Done ∷ ended_so (Inner 0) how.Done ∷ [] })
lost_end r = let names = r.recorded.named in cc

other_order : IsRefused (record worked_run { ends = ended_so (Inner 0) how.Done ∷ ended_so Outer how.Done ∷ ended_so (Inner 1) how.Halted ∷ [] })
other_order r = let names = r.recorded.named in cc

second_frame : IsRefused (record worked_run { frames = byte_of 0 ∷ byte_of 1 ∷ [] })
second_frame r = let few : 2 ≤ 1 = (follows one_frame two_files file_runs file_runs no_list no_list (record worked_run { frames = byte_of 0 ∷ byte_of 1 ∷ [] }) r).few in omega (arith, few)

whole_rest : IsRefused (record worked_run { frames = []; cut = Some (byte_of 0); rest = frame_text 0 (codes "x") })
whole_rest r =
    let some = r.rest.1 in
    let sum = length-append (frame_text 0 (codes "x")) r.rest.0 in
    let same = ap length r.rest.2 in
    omega (arith, some, sum, same)

done_failed : (c : Code) → how.Done ≡ how.Fault c → ⊥
done_failed c e = cc

halted_failed : (c : Code) → how.Halted ≡ how.Fault c → ⊥
halted_failed c e = cc

none_failed : (e : EndOf) → IsAmong e worked_run.ends → IsFailure e.how → ⊥
none_failed e m = among_each (λ (x : EndOf). IsFailure x.how → ⊥) e worked_run.ends ((λ f. done_failed f.0 f.1), ((λ f. done_failed f.0 f.1), ((λ f. halted_failed f.0 f.1), tt))) m

halted_for_nothing : IsRefused (record worked_run { frames = [] })
halted_for_nothing r =
    ⊎_elim (λ x. ⊎_elim (λ n. n refl) (λ e. let f = some_is 1 0 e in omega (arith, f)) x.0)
    (λ x. ⊎_elim false≢true (λ y. ⊎_elim (λ z. none_failed z.0 z.1 z.2) (λ z. none_some z.1) y) x)
    ((follows one_frame two_files file_runs file_runs no_list no_list (record worked_run { frames = [] }) r).halted (ended_so (Inner 1) how.Halted) (there (ended_so Outer how.Done) (there (ended_so (Inner 0) how.Done) (here []))) refl)

-- no event of the first stream alone is one of the second
abbrev silent_run : RunRecord
silent_run = record worked_run { ends = ended_so Outer how.Done ∷ ended_so (Inner 0) how.Done ∷ ended_so (Inner 1) how.Done ∷ []; events = given Succeeded first_ran }

outer_other : Outer ≡ Inner 1 → ⊥
outer_other e = cc

first_other : Inner 0 ≡ Inner 1 → ⊥
first_other e = let f = inner_is 0 1 e in omega (arith, f)

second_silent : (e : Event) → IsAmong e silent_run.events → e.by ≡ Inner 1 → ⊥
second_silent e m = among_each (λ (x : Event). x.by ≡ Inner 1 → ⊥) e silent_run.events (outer_other, (outer_other, (outer_other, (first_other, (first_other, (first_other, (first_other, tt))))))) m

done_in_silence : IsRefused silent_run
done_in_silence r =
    ⊎_elim
    (λ x. let n = x.share.closed.1 in second_silent n.0 n.1 n.2)
    (λ u. ⊎_elim (λ e. let f : how.Done ≡ how.Halted = e in cc) (λ e. let f : how.Done ≡ how.Memory = e in cc)
    (left_undone one_frame two_files file_runs file_runs no_list no_list silent_run r 1 (reads_file (codes "b")) u how.Done (r.recorded.told (ended_so (Inner 1) how.Done) (there (ended_so Outer how.Done) (there (ended_so (Inner 0) how.Done) (here []))))))
    (r.each 1 (reads_file (codes "b")) refl)

abbrev stray : Event
stray = noted 3 (Inner 2) (Close 0 Succeeded)

stray_stream : IsRefused (record worked_run { events = given Succeeded (stray ∷ []) })
stray_stream r =
    ⊎_elim
    (λ e. let f : Inner 2 ≡ Outer = e in cc)
    (λ x. let n = inner_is 2 x.0 x.2 in let l = x.1 in omega (arith, n, l))
    (r.account.names stray (there (noted 0 Outer (Lease 0 0)) (there (noted 1 Outer (Lease 1 0)) (there (noted 2 Outer (Close 0 Succeeded)) (here [])))))

abbrev other_run : RunRecord
other_run = record worked_run { events = given Canceled both_ran }

closed_otherwise : IsRefused other_run
closed_otherwise r =
    let done : r.outer ≡ how.Done = outer_so one_frame two_files file_runs file_runs no_list no_list other_run r how.Done (r.recorded.told (ended_so Outer how.Done) (here (ended_so (Inner 0) how.Done ∷ ended_so (Inner 1) how.Halted ∷ []))) in
    let word : IsOuterNote 0 2 r.outer (Close 0 Canceled) = r.account.outer_notes (noted 2 Outer (Close 0 Canceled)) (there (noted 0 Outer (Lease 0 0)) (there (noted 1 Outer (Lease 1 0)) (here both_ran))) refl in
    let exit : Canceled ≡ Succeeded = word ∙ ap exit_of done in
    cc

pub are_refused : AreRefused
are_refused = record {
  lost_end = lost_end;
  other_order = other_order;
  second_frame = second_frame;
  whole_rest = whole_rest;
  halted_for_nothing = halted_for_nothing;
  done_in_silence = done_in_silence;
  stray_stream = stray_stream;
  closed_otherwise = closed_otherwise;
}
