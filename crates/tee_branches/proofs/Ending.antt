-- The end of the topic comes.
use Rattle.std.proofs.Common.{◌≡◌, ℕ, List, [], ◌∷◌, ◌++◌, Option, None, inl, inr, refl, sym, ap, ◌∙◌, subst, append-nil}
use Rattle.chunk_core.specs.Elements.{Element, LoadKind}
use Rattle.chunk_core.specs.Feed.{Meaning}
use Rattle.chunk_core.specs.declared.code.Code.{Code}
use Rattle.chunk_core.specs.declared.code.How.{How}
use Rattle.chunk_core.specs.declared.code.How.TheVariants as how
use Rattle.channel_bounded.specs.declared.message.Body.{Body}
use Rattle.channel_bounded.specs.declared.message.Body.TheVariants as body
use Rattle.channel_bounded.specs.declared.message.Msg.{Msg}
use Rattle.interrupt_ctx.specs.declared.view.View.{View}
use Rattle.topic_hub.specs.Subscribers.{SubscriberSeen, received, with_got}
use Rattle.tee_branches.specs.Messages.{held}
use Rattle.tee_branches.specs.Moves.{stage_behind}
use Rattle.tee_branches.specs.Stands.{IsFed, Stands}
use Rattle.tee_branches.specs.declared.stage.Stage.{Stage}
use Rattle.tee_branches.specs.declared.stage.Stage.TheVariants as stage
use Rattle.tee_branches.proofs.Saying.{map_snoc}
use Rattle.tee_branches.proofs.Stopping.{fed_stops, halting}

-- one body more was received
received_got : (s t : SubscriberSeen) (b : Body) → t ≡ with_got s b → received t ≡ received s ++ b ∷ []
received_got s t b is = ap received is ∙ map_snoc (λ (m : Msg). m.body) s.got (record { stream = s.number; body = b })

module _ {F : Type 0} (StandsFor : F → Meaning → List Element → Type 0) (Comes : F → LoadKind → List Element → Option Code → Type 0) (k : ℕ) (m : Meaning) (v : View) (pipe : F) where
  -- behind one that isn't whole it is halted
  halted : (got : List Body) (said : List Msg) (h : How) → (h ≡ how.Done → ⊥) → IsFed StandsFor Comes k m pipe got said → Stands StandsFor Comes k m v (stage.Ending how.Halted) (got ++ body.End h ∷ []) said
  halted got said h other f = fed_stops StandsFor Comes k m v how.Halted halting pipe got (body.End h ∷ []) said f (λ e. inr (got, h, refl, other))

  ended : (got : List Body) (said : List Msg) (h : How) → IsFed StandsFor Comes k m pipe got said → Stands StandsFor Comes k m v (stage_behind pipe h) (got ++ body.End h ∷ []) said
  ended got said how.Done f = inl (got, refl, f)
  ended got said (how.Fault c) f = halted got said (how.Fault c) (λ e. let no : how.Fault c ≡ how.Done = e in cc) f
  ended got said how.Halted f = halted got said how.Halted (λ e. let no : how.Halted ≡ how.Done = e in cc) f
  ended got said how.Memory f = halted got said how.Memory (λ e. let no : how.Memory ≡ how.Done = e in cc) f

  -- nothing is said yet
  pub end_comes : (s t : SubscriberSeen) (b : Body) (h : How) (next : Stage F) (said : List Msg) → t ≡ with_got s b → b ≡ body.End h → next ≡ stage_behind pipe h → IsFed StandsFor Comes k m pipe (received s) said
      → Stands StandsFor Comes k m v next (received t) (said ++ held None)
  end_comes s t b h next said got is behind f =
      subst (λ n. Stands StandsFor Comes k m v n (received t) (said ++ held None)) (sym behind) (subst (λ r. Stands StandsFor Comes k m v (stage_behind pipe h) r (said ++ held None)) (sym (received_got s t b got ∙ ap (λ x. received s ++ x ∷ []) is))
      (subst (λ l. Stands StandsFor Comes k m v (stage_behind pipe h) (received s ++ body.End h ∷ []) l) (sym (append-nil said)) (ended (received s) said h f)))
