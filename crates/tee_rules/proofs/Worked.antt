-- Runs as they may be: the branches print in any order; the file can't be opened; a write fails.
use Rattle.std.proofs.Common.{◌≡◌, ◌<◌, ℕ, false, List, [], ◌∷◌, map, length, inl, inr, refl, sym, ap, ◌∙◌, ⊎_elim, arith, Option, None, Some}
use Rattle.std.proofs.lemmas.Bool.{false≢true}
use Rattle.std.specs.List.{AllByRecursion}
use Rattle.std.specs.Fmt.{digits}
use Rattle.std.specs.Prelude.{codes}
use Rattle.chunk_core.specs.Elements.{Byte, Line, Element}
use Rattle.chunk_core.specs.Lists.IsAmong.{here, there}
use Rattle.chunk_core.specs.Outcomes.{Cut, Done, Fault}
use Rattle.chunk_core.specs.Texts.{Frame, IsRestOf}
use Rattle.chunk_core.specs.declared.code.Code.TheVariants as code
use Rattle.chunk_core.specs.declared.code.Exit.TheVariants.{Errored, Succeeded}
use Rattle.chunk_core.specs.declared.code.How.TheVariants as how
use Rattle.device_port.specs.Device.{DeviceTold}
use Rattle.res_ledger.specs.declared.event.StreamNo.{StreamNo}
use Rattle.res_ledger.specs.declared.event.StreamNo.TheVariants.{Outer, Inner}
use Rattle.run_rules.specs.declared.end.EndOf.{EndOf}
use Rattle.run_rules.specs.Outputs.{payloads_by}
use Rattle.run_rules.specs.Work.{RunRecord, begun_frames}
use Rattle.chain_pipes.specs.Over.{Came, over}
use Rattle.chain_pipes.proofs.Runs.{worked}
use Rattle.tee_rules.specs.Branches.{IsBranch}
use Rattle.tee_rules.specs.Reader.{IsReader, IsReaderHome}
use Rattle.tee_rules.specs.Tee.{TeesFile, EndIsCaused, HasCauseToHalt}
use Rattle.tee_rules.specs.Worked.{broken, count_frame, counted_and_filtered, counted_first, counted_last, counting, device_a, ending, filtering, line_frame, not_opened, path_a, run_with, two_lines}
use Rattle.tee_rules.proofs.Accounted.{accounted, accounted_unopened, only_one, ruled, ruled_unopened, run_left}

abbrev given : List Element
given = map Byte two_lines

-- one that is done or failed has no cause to tell, and one that was halted has this
done_is_caused : (c : RunRecord) (e : EndOf) → e.how ≡ how.Done → EndIsCaused c e
done_is_caused c e d = record {
  halted = λ h. absurd (let no : how.Done ≡ how.Halted = sym d ∙ h in cc);
  memory = λ m. absurd (let no : how.Done ≡ how.Memory = sym d ∙ m in cc);
}

fault_is_caused : (c : RunRecord) (e : EndOf) → e.how ≡ how.Fault code.Open → EndIsCaused c e
fault_is_caused c e d = record {
  halted = λ h. absurd (let no : how.Fault code.Open ≡ how.Halted = sym d ∙ h in cc);
  memory = λ m. absurd (let no : how.Fault code.Open ≡ how.Memory = sym d ∙ m in cc);
}

halted_is_caused : (c : RunRecord) (e : EndOf) → e.how ≡ how.Halted → HasCauseToHalt c → EndIsCaused c e
halted_is_caused c e d cause = record { halted = λ h. cause; memory = λ m. absurd (let no : how.Halted ≡ how.Memory = sym d ∙ m in cc) }

-- the file was read whole
module _ (ends : List EndOf) (frames : List Frame) (cut : Option Frame) (rest : List ℕ) where
  home_a : IsReaderHome path_a (run_left ends frames cut rest) device_a
  home_a = record { place = refl; content = refl; back = inl (here []); tied = (refl, (tt, ((refl, refl), tt))); only = only_one device_a }

  reader_a : IsReader path_a (run_left ends frames cut rest) device_a given Done how.Done
  reader_a = record {
    run = (inl (inl (refl, refl, inl (refl, (refl, omega arith, refl, refl)))), inl (refl, inl (refl, tt)));
    reported = refl;
    fault = tt;
    root = (Succeeded, (_, there _ (here _), refl, refl));
    exits = (tt, (refl, (tt, tt)));
  }

-- the first branch counted the lines, and the second one found the line
counts : (F : List Frame) → payloads_by 0 F ≡ codes "2\n" ∷ [] → IsBranch given Done F 0 counting how.Done
counts F frames = record {
  input = given;
  end = Done;
  is_input = record { front = ([], refl); ended = inr (refl, refl, refl) };
  pieces = (Line (codes "2") ∷ []) ∷ [];
  frames = frames;
  printed = (refl, ap (λ (c : Came). c.end) worked.count, sym (ap (λ (c : Came). c.list) worked.count));
}

filters : (F : List Frame) → payloads_by 1 F ≡ codes "cd\n" ∷ [] → IsBranch given Done F 1 filtering how.Done
filters F frames = record {
  input = given;
  end = Done;
  is_input = record { front = ([], refl); ended = inr (refl, refl, refl) };
  pieces = (Line (codes "cd") ∷ []) ∷ [];
  frames = frames;
  printed = (refl, ap (λ (c : Came). c.end) worked.filter, sym (ap (λ (c : Came). c.list) worked.filter));
}

halted_there : (F : List Frame) → payloads_by 1 F ≡ codes "cd\n" ∷ [] → IsBranch given Done F 1 filtering how.Halted
halted_there F frames = record {
  input = given;
  end = Done;
  is_input = record { front = ([], refl); ended = inr (refl, refl, refl) };
  pieces = (Line (codes "cd") ∷ []) ∷ [];
  frames = frames;
  printed = ([], ap (λ (c : Came). c.list) worked.filter);
}

abbrev IsOfTwo : Frame → Type 0
IsOfTwo f = (f.stream < 2) × (0 < length f.payload)

module _ (F : List Frame) (count : payloads_by 0 (begun_frames (run_with F)) ≡ codes "2\n" ∷ []) (line : payloads_by 1 (begun_frames (run_with F)) ≡ codes "cd\n" ∷ []) (numbers : AllByRecursion IsOfTwo (begun_frames (run_with F))) where
  right : TeesFile path_a counted_and_filtered (run_with F)
  right = record {
    devices = accounted;
    ledger = ruled;
    ran = inr (record {
      home = device_a;
      row = home_a (ending how.Done how.Done how.Done) F None [];
      ending = how.Done;
      inner = record { who = Inner 0; how = how.Done } ∷ record { who = Inner 1; how = how.Done } ∷ [];
      ends = refl;
      given = given;
      end = Done;
      reader = reader_a (ending how.Done how.Done how.Done) F None [];
      each = (refl, counts (begun_frames (run_with F)) count, (refl, filters (begun_frames (run_with F)) line, refl));
      numbers = numbers;
      rest = refl;
      unfinished = tt;
      caused = (done_is_caused _ _ refl, (done_is_caused _ _ refl, (done_is_caused _ _ refl, tt)));
      wanting = λ m. absurd (false≢true m);
      completeness = λ m n. record { done = (refl, (refl, (refl, tt))); clean = refl };
    });
  }

pub first_right : TeesFile path_a counted_and_filtered counted_first
first_right = right (count_frame ∷ line_frame ∷ []) refl refl ((omega arith, omega arith), ((omega arith, omega arith), tt))

pub last_right : TeesFile path_a counted_and_filtered counted_last
last_right = right (line_frame ∷ count_frame ∷ []) refl refl ((omega arith, omega arith), ((omega arith, omega arith), tt))

-- a branch that got and said nothing
gets_nothing : (i : ℕ) (steps : _) → IsBranch [] (Fault code.Open) [] i steps how.Halted
gets_nothing i steps = record {
  input = [];
  end = Cut;
  is_input = record { front = ([], refl); ended = inl refl };
  pieces = [];
  frames = refl;
  printed = ((over steps [] Cut).list, refl);
}

abbrev device_closed : DeviceTold
device_closed = record device_a { at = 0; ended = false; opens = 0; closes = 0; exit = None; open_faults = 1 }

failed_first : HasCauseToHalt not_opened
failed_first = inr (inr (record { who = Outer; how = how.Fault code.Open }, here _, (code.Open, refl)))

pub not_opened_right : TeesFile path_a counted_and_filtered not_opened
not_opened_right = record {
  devices = accounted_unopened;
  ledger = ruled_unopened;
  ran = inr (record {
    home = device_closed;
    row = record { place = refl; content = refl; back = inl (here []); tied = (tt, tt); only = only_one device_closed };
    ending = how.Fault code.Open;
    inner = record { who = Inner 0; how = how.Halted } ∷ record { who = Inner 1; how = how.Halted } ∷ [];
    ends = refl;
    given = [];
    end = Fault code.Open;
    reader = record {
      run = (inl (inr (refl, refl, refl, refl, tt)), inr (refl, refl, refl));
      reported = refl;
      fault = (device_closed, here [], here [], omega arith);
      root = (Errored, (_, here _, refl, refl));
      exits = (refl, tt);
    };
    each = (refl, gets_nothing 0 counting, (refl, gets_nothing 1 filtering, refl));
    numbers = tt;
    rest = refl;
    unfinished = tt;
    caused = (fault_is_caused _ _ refl, (halted_is_caused _ _ refl failed_first, (halted_is_caused _ _ refl failed_first, tt)));
    wanting = λ m. absurd (false≢true m);
    completeness = λ m n. absurd (let no : 1 ≡ 0 = n.devices.0 in omega (arith, no));
  });
}

-- what was written of the second branch's frame is a front of its text
rest_of_line : IsRestOf broken.cut broken.rest
unfolding digits
rest_of_line = (codes "d\n\n", omega arith, refl)

abbrev number_of : StreamNo → ℕ
number_of Outer = 0
number_of (Inner i) = i

other_branch : Inner 0 ≡ Inner 1 → ⊥
other_branch e = let no : 0 ≡ 1 = ap number_of e in omega (arith, no)

write_failed : HasCauseToHalt broken
write_failed = inl (λ e. let no : Some line_frame ≡ None = e in cc)

pub broken_right : TeesFile path_a counted_and_filtered broken
broken_right = record {
  devices = accounted;
  ledger = ruled;
  ran = inr (record {
    home = device_a;
    row = home_a broken.ends broken.frames broken.cut broken.rest;
    ending = how.Done;
    inner = record { who = Inner 0; how = how.Done } ∷ record { who = Inner 1; how = how.Halted } ∷ [];
    ends = refl;
    given = given;
    end = Done;
    reader = reader_a broken.ends broken.frames broken.cut broken.rest;
    each = (refl, counts (begun_frames broken) refl, (refl, halted_there (begun_frames broken) refl, refl));
    numbers = ((omega arith, omega arith), ((omega arith, omega arith), tt));
    rest = rest_of_line;
    unfinished = (
      λ e. absurd (other_branch e),
      (λ e o. ⊎_elim (λ d. let no : how.Halted ≡ how.Done = d in cc) (λ f. let no : how.Halted ≡ how.Fault f.0 = f.1 in cc) o, tt),
    );
    caused = (done_is_caused _ _ refl, (done_is_caused _ _ refl, (halted_is_caused _ _ refl write_failed, tt)));
    wanting = λ m. absurd (false≢true m);
    completeness = λ m n. absurd (let no : Some line_frame ≡ None = n.written in cc);
  });
}
