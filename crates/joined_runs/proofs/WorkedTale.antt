-- The tale of the run that is written out, step by step.
use Rattle.std.proofs.Common.{◌≡◌, ℕ, zero, suc, true, List, [], ◌∷◌, Option, Some, inl, inr, refl, ⊎_elim, arith}
use Rattle.std.specs.Prelude.{codes}
use Rattle.std.proofs.lemmas.Bool.{false≢true}
use Rattle.chunk_core.specs.Lists.{IsAmong}
use Rattle.chunk_core.specs.Lists.IsAmong.{here, there}
use Rattle.chunk_core.proofs.Members.{among_cons, among_nil}
use Rattle.chunk_core.specs.declared.code.How.{How}
use Rattle.chunk_core.specs.declared.code.How.TheVariants as how
use Rattle.interrupt_ctx.specs.Views.{interruption}
use Rattle.interrupt_ctx.specs.declared.why.Why.TheVariants as why
use Rattle.res_ledger.specs.declared.event.StreamNo.TheVariants.{Inner}
use Rattle.join_tale.specs.Bounds.{Bounds, bounds_of}
use Rattle.join_tale.specs.Ended.{Ended}
use Rattle.join_tale.specs.Ended.Ended.{halted, whole}
use Rattle.join_tale.specs.Keeping.{HasRoom, IsTale}
use Rattle.join_tale.specs.Records.{IsSettled}
use Rattle.join_tale.specs.Steps.{MayBegin, TellsEnd, TellsOuter, dropped, ended_late, fated, first_tale, heeded, housed, learned, outer_ended, pulled, written}
use Rattle.join_tale.specs.Steps.Marks.{fresh}
use Rattle.join_tale.specs.Tales.{Came, HasCome, IsBegun, IsOpen, Message, Tale, end_of, load_of}
use Rattle.join_tale.specs.Tales.Fate.{Begun}
use Rattle.join_tale.specs.Worked.{for_cause}
use Rattle.join_tale.proofs.Ending.{ends_late}
use Rattle.join_tale.proofs.Heeding.{heeds}
use Rattle.join_tale.proofs.Parts.{no_end, same_end}
use Rattle.join_tale.proofs.Places.{none_some, some_is}
use Rattle.join_tale.proofs.Receiving.{drops, meets}
use Rattle.join_tale.proofs.Steps.{begins, outer_ends, starts}
use Rattle.join_tale.proofs.Turns.{housed_makes, pulls}
use Rattle.joined_runs.specs.Worked.{one_frame, two_files}

abbrev plain : Bounds
plain = bounds_of one_frame two_files

-- the byte of each file
abbrev byte : List ℕ
byte = codes "x"

-- which streams are told to have been open in the turn of each
abbrev pub others : ℕ → List ℕ
others zero = []
others (suc k) = 0 ∷ []

-- Both streams are begun, each behind a pull, and the outer one is done; the byte of stream 0 is the last frame, that of stream 1 comes too late, and then their ends come.

abbrev told_0 : Tale
told_0 = housed first_tale others

abbrev pulled_0 : Tale
pulled_0 = pulled told_0

abbrev begun_0 : Tale
begun_0 = fated pulled_0 Begun

abbrev pulled_1 : Tale
pulled_1 = pulled begun_0

abbrev begun_1 : Tale
begun_1 = fated pulled_1 Begun

abbrev gave_both : Tale
gave_both = learned (outer_ended begun_1 how.Done) [] []

abbrev printed_0 : Tale
printed_0 = record (learned (written gave_both 0 byte) (interruption 0 (for_cause why.Take) ∷ []) []) { ceased = true }

abbrev late_1 : Tale
late_1 = dropped printed_0 1 byte

abbrev done_0 : Tale
done_0 = learned (ended_late late_1 0 how.Done) [] []

-- stream 1 is halted by what it found
abbrev heeding : Tale
heeding = heeded done_0 ((Inner 1, for_cause why.Take) ∷ [])

abbrev pub worked_tale : Tale
worked_tale = learned (ended_late heeding 1 how.Halted) [] (interruption 0 (for_cause why.Take) ∷ [])

-- no stream is stopped by the end of another
no_until : (i k : ℕ) → plain.until i ≡ Some k → ⊥
no_until zero k e = none_some e
no_until (suc zero) k e = none_some e
no_until (suc (suc i)) k e = none_some e

one_zero : ◌≡◌ {A = Option ℕ} (Some 1) (Some 0) → ⊥
one_zero e = let f = some_is 1 0 e in omega (arith, f)

-- what comes first is no end of k
skip_load : (k j : ℕ) (h : How) (x : List ℕ) (ms : List Message) → IsAmong (end_of k h) (load_of j x ∷ ms) → IsAmong (end_of k h) ms
skip_load k j h x ms m = ⊎_elim (λ e. absurd (no_end k j h x e)) (λ n. n) (among_cons m)

skip_end : (k j : ℕ) (h g : How) (ms : List Message) → (k ≡ j → ⊥) → IsAmong (end_of k h) (end_of j g ∷ ms) → IsAmong (end_of k h) ms
skip_end k j h g ms n m = ⊎_elim (λ e. absurd (n (same_end k j h g e).0)) (λ o. o) (among_cons m)

room_0 : HasRoom plain told_0
room_0 = (omega arith, λ k b. absurd (none_some b.0))

may_0 : MayBegin plain pulled_0
may_0 = record {
  run = λ k. ⊎_elim (λ s. among_nil s.1) (λ s. among_nil s.1) k;
  own = λ k. ⊎_elim (λ s. among_nil s.1) (λ s. among_nil s.1) k;
  alone = λ w. absurd (false≢true w);
  room = room_0;
}

first_begun : IsTale plain begun_0
first_begun =
    let told : IsTale plain told_0 = (housed_makes plain first_tale (starts plain one_zero) others (λ k h. absurd (⊎_elim (λ b. none_some b) (λ m. among_nil m) h)) room_0).is_tale in
    begins plain pulled_0 (pulls plain told_0 told (λ k. ⊎_elim (λ s. among_nil s.1) (λ s. among_nil s.1) k) room_0) may_0

room_1 : HasRoom plain begun_0
room_1 = (omega arith, λ k b. first k b.0)
  where
    first : (k : ℕ) → IsBegun begun_0 k → IsAmong k (0 ∷ [])
    first zero b = here []
    first (suc k) b = absurd (none_some b)

may_1 : MayBegin plain pulled_1
may_1 = record {
  run = λ k. ⊎_elim (λ s. among_nil s.1) (λ s. among_nil s.1) k;
  own = λ k. ⊎_elim (λ s. among_nil s.1) (λ s. among_nil s.1) k;
  alone = λ w. absurd (false≢true w);
  room = room_1;
}

both_begun : IsTale plain begun_1
both_begun = begins plain pulled_1 (pulls plain begun_0 first_begun (λ k. ⊎_elim (λ s. among_nil s.1) (λ s. among_nil s.1) k) room_1) may_1

tells_outer : TellsOuter plain gave_both how.Done []
tells_outer = record { caused = λ d w m. absurd (among_nil m); halted = λ e. cc; fault = λ c e. cc; memory = λ e. cc }

all_given : IsTale plain gave_both
all_given = outer_ends plain begun_1 both_begun how.Done [] [] refl tells_outer

open_first : IsOpen gave_both 0
open_first = (refl, λ c. ⊎_elim (λ m. among_nil m) (λ m. among_nil m) c.1)

all_printed : IsTale plain printed_0
all_printed = meets plain gave_both 0 byte all_given open_first (omega arith) (interruption 0 (for_cause why.Take) ∷ []) [] refl fresh refl refl

open_second : IsOpen printed_0 1
open_second = (refl, λ c. ⊎_elim (λ m. among_nil (skip_load 1 0 c.0 byte [] m)) (λ m. among_nil m) c.1)

one_late : IsTale plain late_1
one_late = drops plain printed_0 1 byte all_printed open_second (omega arith) refl

open_0 : IsOpen late_1 0
open_0 = (refl, λ c. ⊎_elim (λ m. among_nil (skip_load 0 0 c.0 byte [] m)) (λ m. among_nil (skip_load 0 1 c.0 byte [] m)) c.1)

tells_0 : TellsEnd plain done_0 0 how.Done []
tells_0 = record { caused = λ d w m. absurd (among_nil m); halted = λ e. cc; fault = λ c e. cc; memory = λ e. cc; until = λ i e. absurd (no_until i 0 e) }

first_ended : IsTale plain done_0
first_ended = ends_late plain late_1 0 how.Done [] [] one_late open_0 refl tells_0

open_1 : IsOpen heeding 1
open_1 = (refl, λ c. ⊎_elim (λ m. among_nil (skip_load 1 0 c.0 byte [] m)) (λ m. among_nil (skip_end 1 0 c.0 how.Done [] (λ e. omega (arith, e)) (skip_load 1 1 c.0 byte (end_of 0 how.Done ∷ []) m))) c.1)

tells_1 : TellsEnd plain worked_tale 1 how.Halted []
tells_1 = record {
  caused = λ d w m. absurd (among_nil m);
  halted = λ e. (for_cause why.Take, here [], inl (here []));
  fault = λ c e. cc;
  memory = λ e. cc;
  until = λ i e. absurd (no_until i 1 e);
}

pub worked_is_tale : IsTale plain worked_tale
worked_is_tale = ends_late plain heeding 1 how.Halted [] (interruption 0 (for_cause why.Take) ∷ []) (heeds plain done_0 first_ended ((Inner 1, for_cause why.Take) ∷ [])) open_1 refl tells_1

-- what was found set has been set
pub worked_settled : IsSettled worked_tale
worked_settled context w m = m

-- How the streams ended.

pub came_0 : Came worked_tale 0 how.Done
came_0 = inr (there (load_of 1 byte) (here (end_of 1 how.Halted ∷ [])))

pub came_1 : Came worked_tale 1 how.Halted
came_1 = inr (there (load_of 1 byte) (there (end_of 0 how.Done) (here [])))

pub ended_0 : Ended worked_tale 0 how.Done
ended_0 = whole (there (load_of 1 byte) (here (end_of 1 how.Halted ∷ []))) refl refl

pub ended_1 : Ended worked_tale 1 how.Halted
ended_1 = halted how.Halted (there (load_of 1 byte) (there (end_of 0 how.Done) (here []))) (λ e. cc) (λ e. absurd (not_done e)) refl
  where
    not_done : how.Halted ≡ how.Done → ⊥
    not_done e = cc

-- each stream that was begun sent its end
pub come_of : (k : ℕ) → IsBegun worked_tale k → HasCome worked_tale k
come_of zero b = (how.Done, came_0)
come_of (suc zero) b = (how.Halted, came_1)
come_of (suc (suc k)) b = absurd (none_some b)
