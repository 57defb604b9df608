-- A branch that is stopped said a front of what its pipe gives.
use Rattle.std.proofs.Common.{◌≡◌, ◌⊎◌, ℕ, List, [], ◌∷◌, ◌++◌, Option, refl, sym, ◌∙◌, subst, ⊎_elim, append-nil}
use Rattle.chunk_core.specs.Elements.{Element, LoadKind}
use Rattle.chunk_core.specs.Feed.{Given, Meaning}
use Rattle.chunk_core.specs.Outcomes.{Cut, Done, End}
use Rattle.chunk_core.specs.declared.code.Code.{Code}
use Rattle.chunk_core.specs.declared.code.How.{How}
use Rattle.chunk_core.specs.declared.code.How.TheVariants as how
use Rattle.channel_bounded.specs.declared.message.Body.{Body}
use Rattle.channel_bounded.specs.declared.message.Body.TheVariants as body
use Rattle.channel_bounded.specs.declared.message.Msg.{Msg}
use Rattle.interrupt_ctx.specs.declared.view.View.{View}
use Rattle.pull_nodes.specs.Plain.{IsFront}
use Rattle.tee_branches.specs.Messages.{IsSaidOf, gives}
use Rattle.tee_branches.specs.Stands.{HasEnded, HasStopped, IsAsked, IsFed, IsTold, Stands}
use Rattle.tee_branches.specs.declared.stage.Stage.{Stage}
use Rattle.tee_branches.specs.declared.stage.Stage.TheVariants as stage

-- where it ends so a front is enough
abbrev pub Stops : How → Type 0
Stops h = (g : Given) (e : End) (ys : List Element) → IsFront ys g.list → IsSaidOf h e g ys

pub halting : Stops how.Halted
halting g e ys f = f

pub wanting : Stops how.Memory
wanting g e ys f = f

pub not_halted : how.Memory ≡ how.Halted → ⊥
not_halted e = cc

-- one that ended otherwise may be halted too
fronts : (h : How) (e : End) (g : Given) (ys : List Element) → IsSaidOf h e g ys → IsFront ys g.list
fronts how.Done e g ys p = ([], sym (append-nil ys ∙ p.2))
fronts (how.Fault f) e g ys p = ([], sym (append-nil ys ∙ p.1))
fronts how.Halted e g ys p = p
fronts how.Memory e g ys p = p

ended_halts : (k : ℕ) (m : Meaning) (v : View) (h : How) (got : List Body) (said : List Msg) → HasEnded k m v got said h → HasStopped v got → HasEnded k m v got said how.Halted
ended_halts k m v h got said x cause = record {
  input = x.input;
  end = x.end;
  received = x.received;
  given = x.given;
  says = x.says;
  printed = fronts h x.end (gives m x.input x.end) x.given x.printed;
  halted = λ e. cause;
}

module _ {F : Type 0} (StandsFor : F → Meaning → List Element → Type 0) (Comes : F → LoadKind → List Element → Option Code → Type 0) (k : ℕ) (m : Meaning) (v : View) where
  module _ (h : How) (stops : Stops h) where
    -- whatever it received beyond what its pipe stands for
    pub fed_stops : (pipe : F) (got after : List Body) (said : List Msg) → IsFed StandsFor Comes k m pipe got said → (h ≡ how.Halted → HasStopped v (got ++ after)) → HasEnded k m v (got ++ after) said h
    fed_stops pipe got after said f cause = record {
      input = f.input;
      end = Cut;
      received = (got, after, refl, f.received);
      given = (m.part f.input).list;
      says = f.says;
      printed = stops (m.part f.input) Cut (m.part f.input).list ([], sym (append-nil (m.part f.input).list));
      halted = cause;
    }

    pub asked_stops : (pipe : F) (got : List Body) (said : List Msg) → IsAsked StandsFor Comes k m pipe got said → (h ≡ how.Halted → HasStopped v got) → HasEnded k m v got said h
    asked_stops pipe got said a cause = record {
      input = a.input;
      end = Done;
      received = a.received;
      given = a.given;
      says = a.says;
      printed = stops (m.all a.input) Done a.given (a.rest, sym a.whole);
      halted = cause;
    }

    pub told_stops : (pipe : F) (got : List Body) (said : List Msg) → IsTold StandsFor Comes k m pipe got said → (h ≡ how.Halted → HasStopped v got) → HasEnded k m v got said h
    told_stops pipe got said t cause =
        subst (λ g. HasEnded k m v g said h) (sym t.1) (fed_stops pipe t.0 (body.End how.Done ∷ []) said t.2 (λ e. subst (HasStopped v) t.1 (cause e)))

    pub finishing_stops : (pipe : F) (got : List Body) (said : List Msg) → IsTold StandsFor Comes k m pipe got said ⊎ IsAsked StandsFor Comes k m pipe got said → (h ≡ how.Halted → HasStopped v got) → HasEnded k m v got said h
    finishing_stops pipe got said s cause = ⊎_elim (λ t. told_stops pipe got said t cause) (λ a. asked_stops pipe got said a cause) s

  -- wherever it is, it may be halted for a cause, unless its end was said
  pub halts : (s : Stage F) (got : List Body) (said : List Msg) → ((h : How) → s ≡ stage.Over h → ⊥) → Stands StandsFor Comes k m v s got said → HasStopped v got → HasEnded k m v got said how.Halted
  halts (stage.Feeding pipe) got said unless f cause =
      subst (λ g. HasEnded k m v g said how.Halted) (append-nil got) (fed_stops how.Halted halting pipe got [] said f (λ e. subst (HasStopped v) (sym (append-nil got)) cause))
  halts (stage.Finishing pipe) got said unless s cause = finishing_stops how.Halted halting pipe got said s (λ e. cause)
  halts (stage.Ending h) got said unless x cause = ended_halts k m v h got said x cause
  halts (stage.Over h) got said unless x cause = absurd (unless h refl)
