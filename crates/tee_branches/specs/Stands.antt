-- What a branch has received and said, by how far it is.
use Rattle.std.specs.Prelude.{◌≡◌, ◌⊎◌, ℕ, List, [], ◌∷◌, ◌++◌, Option}
use Rattle.chunk_core.specs.Elements.{Bytes, Element, LoadKind}
use Rattle.chunk_core.specs.Feed.{Meaning}
use Rattle.chunk_core.specs.Outcomes.{Done, End}
use Rattle.chunk_core.specs.declared.code.Code.{Code}
use Rattle.chunk_core.specs.declared.code.How.{How}
use Rattle.chunk_core.specs.declared.code.How.TheVariants as how
use Rattle.channel_bounded.specs.declared.message.Body.{Body}
use Rattle.channel_bounded.specs.declared.message.Body.TheVariants as body
use Rattle.channel_bounded.specs.declared.message.Msg.{Msg}
use Rattle.interrupt_ctx.specs.Views.{Knows}
use Rattle.interrupt_ctx.specs.declared.view.View.{View}
use Rattle.interrupt_ctx.specs.declared.why.Stop.{Stop}
use Rattle.tee_texts.specs.Texts.{end_message}
use Rattle.tee_branches.specs.declared.stage.Stage.{Stage}
use Rattle.tee_branches.specs.declared.stage.Stage.TheVariants as stage
use Rattle.tee_branches.specs.Messages.{AreReceived, IsReceived, IsSaidOf, IsStoppedBefore, Says, gives}

-- why a branch may be halted: the whole run was interrupted, or an end came that isn't a whole one
abbrev pub HasStopped : View → List Body → Type 0
HasStopped v got = ((stop : Stop) × Knows v 0 stop) ⊎ IsStoppedBefore got

-- Branch k, whose pipe has this meaning, has ended so: it said what its pipe gives of what it received, all of it unless it was stopped, and it was halted only for a cause.
pub record HasEnded (k : ℕ) (m : Meaning) (v : View) (got : List Body) (said : List Msg) (h : How) : Type 0 where
  pub input : List Element
  pub end : End
  pub received : IsReceived got input end
  pub given : List Element
  pub says : Says k said given
  pub printed : IsSaidOf h end (gives m input end) given
  pub halted : h ≡ how.Halted → HasStopped v got

module _ {F : Type 0} (StandsFor : F → Meaning → List Element → Type 0) (Comes : F → LoadKind → List Element → Option Code → Type 0) (k : ℕ) (m : Meaning) where
  -- its pipe takes bytes and stands for what was received, and what that gives was said
  pub record IsFed (pipe : F) (got : List Body) (said : List Msg) : Type 0 where
    pub takes : m.takes ≡ Bytes
    pub input : List Element
    pub received : AreReceived got input
    pub stands : StandsFor pipe m input
    pub says : Says k said (m.part input).list

  -- the end came; of what the pipe gives of the whole the rest is still to come
  pub record IsAsked (pipe : F) (got : List Body) (said : List Msg) : Type 0 where
    pub input : List Element
    pub received : IsReceived got input Done
    pub given : List Element
    pub says : Says k said given
    pub rest : List Element
    pub whole : given ++ rest ≡ (m.all input).list
    pub comes : Comes pipe m.gives rest (m.all input).fault

  -- the end came, and the pipe wasn't told
  abbrev pub IsTold : F → List Body → List Msg → Type 0
  IsTold pipe got said = (before : List Body) × (got ≡ before ++ body.End how.Done ∷ []) × IsFed pipe before said

  -- how far the branch is, which has received this and said this
  abbrev pub Stands : View → Stage F → List Body → List Msg → Type 0
  Stands v (stage.Feeding pipe) got said = IsFed pipe got said
  Stands v (stage.Finishing pipe) got said = IsTold pipe got said ⊎ IsAsked pipe got said
  Stands v (stage.Ending h) got said = HasEnded k m v got said h
  Stands v (stage.Over h) got said = (before : List Msg) × (said ≡ before ++ end_message k h ∷ []) × HasEnded k m v got before h
