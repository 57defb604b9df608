-- A load is fed.
use Rattle.std.proofs.Common.{◌≡◌, ℕ, List, [], ◌∷◌, ◌++◌, Option, Some, None, inl, inr, refl, sym, ◌∙◌, subst, append-nil}
use Rattle.chunk_core.specs.Elements.{Bytes, Element, LoadKind, elements, kind_of}
use Rattle.chunk_core.specs.Feed.{Extends, MayFeed, Meaning}
use Rattle.chunk_core.specs.Outcomes.{Cut}
use Rattle.chunk_core.specs.declared.code.Code.{Code}
use Rattle.chunk_core.specs.declared.code.How.TheVariants as how
use Rattle.chunk_core.specs.declared.load.Load.{Load}
use Rattle.channel_bounded.specs.declared.message.Body.{Body}
use Rattle.channel_bounded.specs.declared.message.Body.TheVariants as body
use Rattle.channel_bounded.specs.declared.message.Msg.{Msg}
use Rattle.interrupt_ctx.specs.declared.view.View.{View}
use Rattle.tee_branches.specs.Messages.{IsNews, Says, held}
use Rattle.tee_branches.specs.Moves.{IsMoved}
use Rattle.tee_branches.specs.Stands.{HasEnded, IsFed, Stands}
use Rattle.tee_branches.specs.declared.news.Moved.{Moved}
use Rattle.tee_branches.specs.declared.stage.Stage.{Stage}
use Rattle.tee_branches.specs.declared.stage.Stage.TheVariants as stage
use Rattle.tee_branches.proofs.Saying.{received_more, says_more}
use Rattle.tee_branches.proofs.Stopping.{fed_stops, not_halted, wanting}

module _ {F : Type 0} (StandsFor : F → Meaning → List Element → Type 0) (Comes : F → LoadKind → List Element → Option Code → Type 0) (k : ℕ) (m : Meaning) where
  -- a pipe that stands for an input may be fed
  pub may_feed : (pipe : F) (got : List Body) (said : List Msg) → IsFed StandsFor Comes k m pipe got said → MayFeed (StandsFor pipe) Bytes
  may_feed pipe got said f = (m, f.input, f.stands, f.takes)

  module _ (v : View) (got : List Body) (said : List Msg) (pipe : F) (load : Load) (kind : kind_of load ≡ Bytes) (f : IsFed StandsFor Comes k m pipe got said) where
    abbrev all_got : List Body
    all_got = got ++ body.Load load ∷ []

    abbrev Goes : Moved F → Type 0
    Goes x = Stands StandsFor Comes k m v x.stage all_got (said ++ held x.message)

    -- for want of memory it ends with what it said
    pub fed_wants : (x : Moved F) → x.stage ≡ stage.Ending how.Memory → x.message ≡ None → Goes x
    fed_wants x s n =
        subst (λ t. Stands StandsFor Comes k m v t all_got (said ++ held x.message)) (sym s) (subst (λ o. HasEnded k m v all_got (said ++ held o) how.Memory) (sym n)
        (subst (λ l. HasEnded k m v all_got l how.Memory) (sym (append-nil said)) (fed_stops StandsFor Comes k m v how.Memory wanting pipe got (body.Load load ∷ []) said f (λ e. absurd (not_halted e)))))

    module _ (out : Load) (c : Option Code) (x : Extends m f.input (elements load) out c) where
      says : (message : Option Msg) → IsNews k (elements out) message → Says k (said ++ held message) (m.part (f.input ++ elements load)).list
      says message n = subst (Says k (said ++ held message)) x.list (says_more k said (m.part f.input).list (elements out) message f.says n)

      by_moved : (s : Stage F) (y : Moved F) → ((message : Option Msg) → IsNews k (elements out) message → Stands StandsFor Comes k m v s all_got (said ++ held message)) → IsMoved k (elements out) s y → Goes y
      by_moved s y go (inl i) = subst (λ t. Stands StandsFor Comes k m v t all_got (said ++ held y.message)) (sym i.0) (go y.message i.1)
      by_moved s y go (inr w) = fed_wants y w.0 w.1

      -- the pipe goes on
      pub fed_out : (next : F) (y : Moved F) → StandsFor next m (f.input ++ elements load) → IsMoved k (elements out) (stage.Feeding next) y → Goes y
      fed_out next y stands i = by_moved (stage.Feeding next) y (λ message n. record {
        takes = f.takes;
        input = f.input ++ elements load;
        received = received_more got f.input load f.received kind;
        stands = stands;
        says = says message n;
      }) i

      -- a fault is its end
      pub fed_fault : (code : Code) (y : Moved F) → c ≡ Some code → IsMoved k (elements out) (stage.Ending (how.Fault code)) y → Goes y
      fed_fault code y is i = by_moved (stage.Ending (how.Fault code)) y (λ message n. record {
        input = f.input ++ elements load;
        end = Cut;
        received = (all_got, [], sym (append-nil all_got), received_more got f.input load f.received kind);
        given = (m.part (f.input ++ elements load)).list;
        says = says message n;
        printed = (x.fault ∙ is, refl);
        halted = λ e. absurd (let no : how.Fault code ≡ how.Halted = e in cc);
      }) i
