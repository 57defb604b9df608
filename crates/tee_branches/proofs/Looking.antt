-- A branch looks whether the run is interrupted.
use Rattle.std.proofs.Common.{◌≡◌, ℕ, List, [], ◌∷◌, Option, Some, None, inl, inr, subst}
use Rattle.std.specs.Option.{option_or}
use Rattle.chunk_core.specs.Lists.{IsAmong}
use Rattle.chunk_core.proofs.Members.{among_last, among_left}
use Rattle.channel_bounded.specs.declared.message.Body.{Body}
use Rattle.channel_bounded.specs.declared.message.Msg.{Msg}
use Rattle.chunk_core.specs.declared.code.How.{How}
use Rattle.interrupt_ctx.specs.Views.{Knows, after_look, interruption, noted}
use Rattle.interrupt_ctx.specs.declared.view.Interruption.{Interruption}
use Rattle.interrupt_ctx.specs.declared.view.View.{View}
use Rattle.interrupt_ctx.specs.declared.why.Stop.{Stop}
use Rattle.chunk_core.specs.Elements.{Element, LoadKind}
use Rattle.chunk_core.specs.Feed.{Meaning}
use Rattle.chunk_core.specs.declared.code.Code.{Code}
use Rattle.tee_branches.specs.Stands.{HasEnded, HasStopped, Stands}
use Rattle.tee_branches.specs.declared.stage.Stage.{Stage}
use Rattle.tee_branches.specs.declared.stage.Stage.TheVariants as stage

noted_keeps : (seen : List Interruption) (context : ℕ) (found : Option Stop) (x : Interruption) → IsAmong x seen → IsAmong x (noted seen context found)
noted_keeps seen context None x m = m
noted_keeps seen context (Some w) x m = among_left (interruption context w ∷ []) m

module _ (v : View) (own root : Option Stop) where
  -- what was known stays known
  knows_more : (stop : Stop) → Knows v 0 stop → Knows (after_look v 0 own root) 0 stop
  knows_more stop (inl s) = inl s
  knows_more stop (inr s) = inr (noted_keeps (noted v.seen 0 own) 0 root (interruption 0 stop) (noted_keeps v.seen 0 own (interruption 0 stop) s))

  stopped_more : (got : List Body) → HasStopped v got → HasStopped (after_look v 0 own root) got
  stopped_more got (inl k) = inl (k.0, knows_more k.0 k.1)
  stopped_more got (inr s) = inr s

  -- what a look found is known
  pub found_stops : (o r : Option Stop) (stop : Stop) (got : List Body) → o ≡ own → r ≡ root → option_or o r ≡ Some stop → HasStopped (after_look v 0 own root) got
  found_stops (Some w) r stop got e f is = inl (w, inr (noted_keeps (noted v.seen 0 own) 0 root (interruption 0 w) (subst (λ x. IsAmong (interruption 0 w) (noted v.seen 0 x)) e (among_last v.seen (interruption 0 w)))))
  found_stops None (Some w) stop got e f is = inl (w, inr (subst (λ x. IsAmong (interruption 0 w) (noted (noted v.seen 0 own) 0 x)) f (among_last (noted v.seen 0 own) (interruption 0 w))))
  found_stops None None stop got e f is = absurd (let no : None ≡ Some stop = is in cc)

  ended_more : (k : ℕ) (m : Meaning) (got : List Body) (said : List Msg) (h : How) → HasEnded k m v got said h → HasEnded k m (after_look v 0 own root) got said h
  ended_more k m got said h x = record { input = x.input; end = x.end; received = x.received; given = x.given; says = x.says; printed = x.printed; halted = λ e. stopped_more got (x.halted e) }

  module _ {F : Type 0} (StandsFor : F → Meaning → List Element → Type 0) (Comes : F → LoadKind → List Element → Option Code → Type 0) (k : ℕ) (m : Meaning) where
    -- a look changes nothing else
    pub looks : (s : Stage F) (got : List Body) (said : List Msg) → Stands StandsFor Comes k m v s got said → Stands StandsFor Comes k m (after_look v 0 own root) s got said
    looks (stage.Feeding pipe) got said h = h
    looks (stage.Finishing pipe) got said h = h
    looks (stage.Ending e) got said h = ended_more k m got said e h
    looks (stage.Over e) got said h = (h.0, h.1, ended_more k m got h.0 e h.2)
