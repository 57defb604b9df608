-- A work of which nothing was begun.
use Rattle.std.proofs.Common.{◌≡◌, ℕ, ◌≤◌, Bool, true, false, nat_eq, nat_lt, List, [], ◌∷◌, ◌++◌, inr, inl, length, drop, map, Option, Some, None, refl, sym, ◌∙◌, ap, subst, append-nil, arith}
use Rattle.std.proofs.Math.Seq.{drop-append_seam}
use Rattle.std.proofs.lemmas.List.Sorted.{IsPermutation-refl}
use Rattle.std.specs.List.Sorted.{IsPermutation}
use Rattle.std.specs.List.{AllByRecursion}
use Rattle.chunk_core.proofs.Each.{each_of}
use Rattle.chunk_core.proofs.Members.{among_nil}
use Rattle.res_ledger.specs.declared.event.Event.{Event}
use Rattle.res_ledger.specs.declared.event.StreamNo.{StreamNo}
use Rattle.res_ledger.specs.Own.{opens, own}
use Rattle.res_ledger.proofs.Judged.{legal_sound, complete_sound}
use Rattle.res_ledger.proofs.Ordering.{ordered_sound}
use Rattle.device_port.specs.Depot.{DepotTold, Files, KeepsFilesBut, KeepsWritten}
use Rattle.device_port.specs.Sink.{SinkTold, with_bytes}
use Rattle.device_port.proofs.Puts.{with_bytes_none}
use Rattle.run_rules.specs.declared.end.EndOf.{EndOf}
use Rattle.run_rules.specs.Facts.{acquired_row, ended_row, failed_row}
use Rattle.run_rules.specs.Devices.{AreAsMany, AreNoMore, IsShut, IsWrittenBy, came_back, is_closed_with, named, numbered}
use Rattle.run_rules.specs.Giving.{giving_all}
use Rattle.run_rules.specs.Rules.{IsGivenBy, KeepsRules}
use Rattle.run_rules.specs.Run.{Performs}
use Rattle.run_rules.specs.Work.{Opener, Work, row_places, names_of, scopes_by}
use Rattle.res_ledger.proofs.Stamps.{stamped_sound}
use Rattle.cat_run.specs.declared.outcome.Outcome.{Outcome}
use Rattle.cat_run.specs.Cat.{cat_work, run_record_of, RunsCat}

no_middle : {A : Type 0} (P Q : List A) (e : A) → [] ≡ P ++ e ∷ Q → ⊥
no_middle [] Q e is = cc
no_middle (x ∷ P) Q e is = cc

-- by an empty ledger nothing was given
none_given : (o : Option Opener) (n : ℕ) → IsGivenBy o n []
none_given None n = tt
none_given (Some o) n = record {
  order = (giving_all o n, refl);
  tables = record { covers = λ j s r m l lent. absurd (among_nil m.1); only = λ j s r m c. absurd (among_nil m.1) };
  pace = record {
    ahead = λ P Q e k is by. absurd (no_middle P Q e is);
    within = λ P Q e is. absurd (no_middle P Q e is);
    leases = λ P Q e i j s is what l. absurd (no_middle P Q e is);
    waits = λ P Q e is. absurd (no_middle P Q e is);
    begins = λ P Q e k is by. absurd (no_middle P Q e is);
  };
}

-- it keeps the rules of every work
none_rules : (work : Work) → KeepsRules work []
none_rules work = record {
  stamped = stamped_sound [] [] refl refl;
  legal = legal_sound [] refl;
  complete = complete_sound [] (legal_sound [] refl) refl;
  ordered = ordered_sound [] refl;
  ours = tt;
  scopes = each_of (λ (k : StreamNo). length (opens (own k [])) ≤ scopes_by work k) (λ k. omega arith) (names_of work);
  leaving = λ P Q e j x is by what. absurd (no_middle P Q e is);
  given = none_given work.opener (length work.streams);
}

pub outcome_is : (o : Outcome) (es : List EndOf) (L : List Event) (s m : Bool) → o.ends ≡ es → o.ledger ≡ L → o.sink_failed ≡ s → o.memory ≡ m → o ≡ record { ends = es; ledger = L; sink_failed = s; memory = m }
outcome_is o es L s m p q r t =
    ap (λ (x : List EndOf). let y : Outcome = record { ends = x; ledger = o.ledger; sink_failed = o.sink_failed; memory = o.memory } in y) p
    ∙ (ap (λ (x : List Event). let y : Outcome = record { ends = es; ledger = x; sink_failed = o.sink_failed; memory = o.memory } in y) q
    ∙ (ap (λ (x : Bool). let y : Outcome = record { ends = es; ledger = L; sink_failed = x; memory = o.memory } in y) r
    ∙ ap (λ (x : Bool). let y : Outcome = record { ends = es; ledger = L; sink_failed = s; memory = x } in y) t))

pub wrote_none : (so sn : SinkTold) → sn ≡ so → sn ≡ with_bytes so []
wrote_none so sn e = e ∙ sym (with_bytes_none so)

-- no device could be made
keeps_same : (P : List ℕ → Type 0) (f : Option Files) → KeepsFilesBut P f f
keeps_same P None = tt
keeps_same P (Some f) = λ path. inr refl

dropped_all : {A : Type 0} (xs : List A) → drop (length xs) xs ≡ []
dropped_all xs = ap (λ ys. drop (length xs) ys) (sym (append-nil xs)) ∙ drop-append_seam xs []

and_nothing : {A : Type 0} (xs : List A) → xs ≡ xs ++ drop (length xs) xs
and_nothing xs = sym (append-nil xs) ∙ ap (λ ys. xs ++ ys) (sym (dropped_all xs))

-- what an outcome says of which nothing was begun
abbrev pub unmade_outcome : Outcome
unmade_outcome = record { ends = []; ledger = []; sink_failed = false; memory = true }

-- where nothing was begun each work was done
pub performs_nothing : (work : Work) (old : DepotTold) → Performs work (run_record_of old old [] None [] unmade_outcome)
performs_nothing work old =
    let places = row_places work in
    record {
      devices = record {
        made = and_nothing old.made;
        few = subst (λ ps. AreNoMore ps places) (sym (dropped_all old.made)) tt;
        retired = and_nothing old.retired;
        once = subst (λ ps. IsPermutation (numbered (length old.made) ps) (map named (came_back old old))) (sym (dropped_all old.made)) (subst (λ ds. IsPermutation [] (map named ds)) (sym (dropped_all old.retired)) (IsPermutation-refl []));
        shut = subst (λ ds. AllByRecursion IsShut ds) (sym (dropped_all old.retired)) tt;
        rows = tt;
        acquired = subst (λ ds. AreAsMany (λ d. nat_eq d.opens 1) acquired_row ds places []) (sym (dropped_all old.retired)) tt;
        failed = subst (λ ds. AreAsMany (λ d. nat_lt 0 d.close_faults) failed_row ds places []) (sym (dropped_all old.retired)) tt;
        exits = λ x. subst (λ ds. AreAsMany (is_closed_with x) (ended_row x) ds places []) (sym (dropped_all old.retired)) tt;
        files = keeps_same (IsWrittenBy (came_back old old)) old.files;
        stored = subst (λ ds. AllByRecursion (KeepsWritten old.files) ds) (sym (dropped_all old.retired)) tt;
      };
      ledger = none_rules work;
      ran = inl (record { memory = refl; depot = refl; ends = refl; events = refl; frames = refl; cut = refl; rest = refl });
    }

pub cat_makes_nothing : (path : List ℕ) (old new : DepotTold) (so sn : SinkTold) (size : ℕ) → new ≡ old → sn ≡ so → RunsCat path size old new so sn unmade_outcome
cat_makes_nothing path old new so sn size e quiet =
    subst (λ x. RunsCat path size old x so sn unmade_outcome) (sym e) (record {
      frames = [];
      cut = None;
      rest = [];
      broke = refl;
      within = record { fits = tt; cut_fits = tt };
      performs = performs_nothing (cat_work path) old;
      wrote = wrote_none so sn quiet;
      begun = λ e. (refl, refl);
      wanting = λ e. (refl, tt);
    })
