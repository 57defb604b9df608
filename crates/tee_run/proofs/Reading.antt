-- A reader that is stepped for its branches.
use Rattle.std.proofs.Common.{◌≡◌, Bool, true, false, List, [], ◌++◌, Option, Some, None, refl, sym, ◌∙◌, ap, subst, inl, inr, append-nil}
use Rattle.std.specs.Option.{is_some}
use Rattle.chunk_core.specs.Elements.{Bytes, Element, LoadKind}
use Rattle.chunk_core.specs.Feed.{Meaning}
use Rattle.chunk_core.specs.Tables.{Values}
use Rattle.chunk_core.specs.declared.code.Code.{Code}
use Rattle.chunk_core.specs.declared.code.How.{How}
use Rattle.chunk_core.specs.declared.code.How.TheVariants as how
use Rattle.device_port.specs.Device.{DeviceTold}
use Rattle.device_port.specs.Sink.{SinkTold}
use Rattle.pull_stepper.specs.Stepping.{Stepping}
use Rattle.pull_turns.specs.Piping.{StateMeaning}
use Rattle.std.specs.Prelude.{IfSome}
use Rattle.run_rules.specs.Facts.{is_over}
use Rattle.lone_stream.specs.Steps.{IsStepped, halted_from}
use Rattle.tee_prints.specs.Printed.{MustStop}
use Rattle.tee_pump.specs.Branches.{SharedSeen}
use Rattle.tee_pump.specs.Finished.{IsCause, IsFinished}
use Rattle.tee_pump.specs.Pumps.{IsPumping}
use Rattle.tee_pump.specs.declared.pump.Pump.{Pump}
use Rattle.tee_pump.specs.declared.ended.TeeEnd.{TeeEnd}
use Rattle.tee_run.specs.Reading.{HasRead, HasTeed, IsTeeing, told_how}

-- what ended by itself wasn't halted
pub itself_unhalted : (o : Option How) → IfSome o (λ h. is_over h ≡ true) → o ≡ Some how.Halted → ⊥
itself_unhalted None i e = cc
itself_unhalted (Some h) i e = let is : h ≡ how.Halted = (let same : h ≡ how.Halted = cc in same) in let no : true ≡ false = sym i ∙ ap is_over is in cc

pub memory_unhalted : (o : Option How) → o ≡ Some how.Memory → o ≡ Some how.Halted → ⊥
memory_unhalted o m e = let no : Some how.Memory ≡ Some how.Halted = sym m ∙ e in cc

pub running_unhalted : (o : Option How) → o ≡ None → o ≡ Some how.Halted → ⊥
running_unhalted o n e = let no : None ≡ Some how.Halted = sym n ∙ e in cc

-- where it goes on it is halted so
pub halted_now : (o p : Option How) → o ≡ None → p ≡ halted_from o → p ≡ Some how.Halted
halted_now o p n e = e ∙ ap halted_from n

-- where it is some it has ended
pub some_how : (o : Option How) → is_some o ≡ true → (h : How) × (o ≡ Some h)
some_how None e = cc
some_how (Some h) e = (h, refl)

module _ {V F C : Type 0} (P : Values → StateMeaning F) (told : V → DeviceTold) (StandsFor : C → Meaning → List Element → Type 0) (Comes : C → LoadKind → List Element → Option Code → Type 0) (s : SharedSeen) (ms : List Meaning) (start : SinkTold) where
  -- nothing was given yet
  pub teeing_start : (a b : Stepping V F) (p : Pump C) → IsStepped P told Bytes a b [] → b.how ≡ None → IsPumping StandsFor Comes s ms start [] start p → IsTeeing P told StandsFor Comes s ms start a b start p
  teeing_start a b p stepped runs pumping = record { given = []; stepped = stepped; pumping = pumping; halted = λ e. absurd (running_unhalted b.how runs e) }

  module _ (a b : Stepping V F) (now : SinkTold) (p : Pump C) where
    -- a quiet turn, or the last
    pub teeing_quiet : (c : Stepping V F) (t : IsTeeing P told StandsFor Comes s ms start a b now p) → IsStepped P told Bytes a c (t.given ++ []) → (c.how ≡ Some how.Halted → ⊥) → IsTeeing P told StandsFor Comes s ms start a c now p
    teeing_quiet c t stepped unhalted = record { given = t.given; stepped = subst (λ xs. IsStepped P told Bytes a c xs) (append-nil t.given) stepped; pumping = t.pumping; halted = λ e. absurd (unhalted e) }

    -- it has ended
    pub read_ended : (m : Bool) → HasRead P told StandsFor Comes s ms start a b now p m → (h : How) × (b.how ≡ Some h)
    read_ended true r = (how.Halted, r.ended)
    read_ended false r = r.1

    -- and the branches took some of it
    pub read_pumping : (m : Bool) → HasRead P told StandsFor Comes s ms start a b now p m → (taken : List Element) × IsPumping StandsFor Comes s ms start taken now p
    read_pumping true r = (r.taken, r.pumping)
    read_pumping false r = (r.0.given, r.0.pumping)

    -- what is told of it and of the branches
    pub has_teed : (m : Bool) → HasRead P told StandsFor Comes s ms start a b now p m → (k : How) → ((h : How) → b.how ≡ Some h → k ≡ told_how m h) → (t : TeeEnd) (new : SinkTold)
        → ((taken : List Element) → IsPumping StandsFor Comes s ms start taken now p → IsFinished ms taken k start new t) → (MustStop p.printer.ends.items p.printer.broken → IsCause t) → HasTeed P told ms a b start new k t
    has_teed true r k is t new finished stopped =
        let memory : k ≡ how.Memory = is how.Halted r.ended in
        record {
          given = r.given;
          taken = r.taken;
          front = r.front;
          end = how.Halted;
          ended = r.ended;
          stepped = r.stepped;
          told_so = inr (memory, refl);
          all = λ d. absurd (let no : how.Memory ≡ how.Done = sym memory ∙ d in cc);
          caused = λ h. absurd (let no : how.Memory ≡ how.Halted = sym memory ∙ h in cc);
          finished = finished r.taken r.pumping;
        }
    has_teed false r k is t new finished stopped =
        let h = r.1.0 in
        let same : k ≡ h = is h r.1.1 in
        record {
          given = r.0.given;
          taken = r.0.given;
          front = ([], sym (append-nil r.0.given));
          end = h;
          ended = r.1.1;
          stepped = r.0.stepped;
          told_so = inl same;
          all = λ d. refl;
          caused = λ e. stopped (r.0.halted (r.1.1 ∙ ap (λ x. Some x) (sym same ∙ e)));
          finished = finished r.0.given r.0.pumping;
        }
