-- The report tells the tale in which stream 0 was begun, and goes on with it.
use Rattle.std.proofs.Common.{◌≡◌, ℕ, Option, Some, refl, ap, ⊎_elim, arith}
use Rattle.chunk_core.proofs.Members.{among_nil}
use Rattle.device_port.specs.Sink.{SinkTold}
use Rattle.join_tale.specs.Steps.{fated, first_tale}
use Rattle.join_tale.specs.Tales.{IsOpen}
use Rattle.join_tale.specs.Tales.Fate.{Begun}
use Rattle.join_tale.proofs.Places.{some_is}
use Rattle.join_report.proofs.Steps.{fates}
use Rattle.join_report.proofs.Written.{few_faults, still_open}
use Rattle.worked_trees.proofs.reports.a_stream_is_halted_whose_load_comes_behind_the_last_frame.Goals as goal

is_open : IsOpen (fated first_tale Begun) 0
is_open = (refl, λ c. ⊎_elim (λ m. among_nil m) (λ m. among_nil m) c.1)

abbrev so_many : ℕ → Option ℕ
so_many n = Some n

one_wanted : so_many 1 ≡ so_many 0 → ⊥
one_wanted e = let q = some_is {A = ℕ} 1 0 e in absurd (omega (arith, q))

pub write-late-requires-clause-stream : goal.write-late-requires-clause-stream
write-late-requires-clause-stream g c =
    let came = c.write-last.ensures (Some 1) 1 (fated first_tale Begun) (fates (Some 1) 1 first_tale _ (c.in_ok-report.ensures.some one_wanted) Begun (λ e. cc)) is_open in
    omega (arith, came.2.unwritten)

pub write-late-requires-clause-room : goal.write-late-requires-clause-room
write-late-requires-clause-room g c =
    let came = c.write-last.ensures (Some 1) 1 (fated first_tale Begun) (fates (Some 1) 1 first_tale _ (c.in_ok-report.ensures.some one_wanted) Begun (λ e. cc)) is_open in
    let few = few_faults _ _ _ _ _ _ _ _ came.1 in
    let none = ap (λ (s : SinkTold). s.faults) c.in_ok-out.ensures.told in
    omega (arith, few, none)

pub end-requires : goal.end-requires
end-requires g c =
    let came = c.write-last.ensures (Some 1) 1 (fated first_tale Begun) (fates (Some 1) 1 first_tale _ (c.in_ok-report.ensures.some one_wanted) Begun (λ e. cc)) is_open in
    let late = c.write-late.ensures (Some 1) 1 came.0 came.2 (still_open _ _ _ _ _ _ _ _ came.1 0 is_open) in
    omega (arith, late.2.unwritten)

pub into_ends-requires : goal.into_ends-requires
into_ends-requires g c =
    let came = c.write-last.ensures (Some 1) 1 (fated first_tale Begun) (fates (Some 1) 1 first_tale _ (c.in_ok-report.ensures.some one_wanted) Begun (λ e. cc)) is_open in
    let first = still_open _ _ _ _ _ _ _ _ came.1 0 is_open in
    let late = c.write-late.ensures (Some 1) 1 came.0 came.2 first in
    let last = c.end.ensures (Some 1) 1 late.0 late.2 (still_open _ _ _ _ _ _ _ _ late.1 0 first) in
    omega (arith, last.unwritten)
