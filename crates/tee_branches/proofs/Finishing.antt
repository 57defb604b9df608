-- The pipe is told the end, and asked for the rest.
use Rattle.std.proofs.Common.{◌≡◌, ◌⊎◌, ℕ, List, ◌++◌, Option, None, inl, inr, refl, sym, ap, ◌∙◌, subst, append-nil, append_assoc}
use Rattle.chunk_core.specs.Elements.{Element, LoadKind, elements}
use Rattle.chunk_core.specs.Feed.{Continues, Finishes, MayFinish, Meaning}
use Rattle.chunk_core.specs.Outcomes.{Done}
use Rattle.chunk_core.specs.declared.code.Code.{Code}
use Rattle.chunk_core.specs.declared.code.How.TheVariants as how
use Rattle.chunk_core.specs.declared.feed.Fed.{Fed}
use Rattle.chunk_core.specs.declared.feed.Fed.TheVariants as fed
use Rattle.chunk_core.specs.declared.load.Load.{Load}
use Rattle.channel_bounded.specs.declared.message.Body.{Body}
use Rattle.channel_bounded.specs.declared.message.Msg.{Msg}
use Rattle.interrupt_ctx.specs.declared.view.View.{View}
use Rattle.tee_branches.specs.Messages.{IsNews, IsReceived, Says, held}
use Rattle.tee_branches.specs.Moves.{IsMoved}
use Rattle.tee_branches.specs.Stands.{HasEnded, IsAsked, IsTold, Stands}
use Rattle.tee_branches.specs.declared.news.Moved.{Moved}
use Rattle.tee_branches.specs.declared.stage.Stage.{Stage}
use Rattle.tee_branches.specs.declared.stage.Stage.TheVariants as stage
use Rattle.tee_branches.proofs.Saying.{says_more}
use Rattle.tee_branches.proofs.Stopping.{finishing_stops, not_halted, wanting}

module _ {F : Type 0} (StandsFor : F → Meaning → List Element → Type 0) (Comes : F → LoadKind → List Element → Option Code → Type 0) (k : ℕ) (m : Meaning) (v : View) (got : List Body) (said : List Msg) (pipe : F) where
  abbrev IsFinishing : Type 0
  IsFinishing = IsTold StandsFor Comes k m pipe got said ⊎ IsAsked StandsFor Comes k m pipe got said

  abbrev Goes : Moved F → Type 0
  Goes x = Stands StandsFor Comes k m v x.stage got (said ++ held x.message)

  -- one that was told or not may be asked
  pub may_finish : IsFinishing → MayFinish (StandsFor pipe) (Comes pipe)
  may_finish (inl t) = inl (m, t.2.input, t.2.stands)
  may_finish (inr a) = inr (m.gives, a.rest, (m.all a.input).fault, a.comes)

  -- for want of memory it ends with what it said
  pub finish_wants : IsFinishing → (x : Moved F) → x.stage ≡ stage.Ending how.Memory → x.message ≡ None → Goes x
  finish_wants s x e n =
      subst (λ t. Stands StandsFor Comes k m v t got (said ++ held x.message)) (sym e) (subst (λ o. HasEnded k m v got (said ++ held o) how.Memory) (sym n)
      (subst (λ l. HasEnded k m v got l how.Memory) (sym (append-nil said)) (finishing_stops StandsFor Comes k m v how.Memory wanting pipe got said s (λ e. absurd (not_halted e)))))

  -- what the pipe has given of the whole, and what it still gives
  pub record IsAnswered (next : F) (answer : Fed) : Type 0 where
    pub input : List Element
    pub received : IsReceived got input Done
    pub given : List Element
    pub says : Says k said given
    pub rest : List Element
    pub whole : given ++ rest ≡ (m.all input).list
    pub answers : Continues m.gives rest (m.all input).fault answer (Comes next m.gives)

  module _ (next : F) (answer : Fed) (first : (n : Meaning) (xs : List Element) → StandsFor pipe n xs → Finishes n xs answer (Comes next n.gives))
      (more : (kind : LoadKind) (ys : List Element) (c : Option Code) → Comes pipe kind ys c → Continues kind ys c answer (Comes next kind)) where
    pub answered : IsFinishing → IsAnswered next answer
    answered (inl t) =
        let f = t.2 in
        let n = first m f.input f.stands in
        record { input = f.input; received = (t.0, t.1, f.received); given = (m.part f.input).list; says = f.says; rest = n.rest; whole = n.whole; answers = n.given }
    answered (inr a) = record { input = a.input; received = a.received; given = a.given; says = a.says; rest = a.rest; whole = a.whole; answers = more m.gives a.rest (m.all a.input).fault a.comes }

  module _ (s : IsFinishing) where
    by_moved : (ys : List Element) (t : Stage F) (x : Moved F) → ((message : Option Msg) → IsNews k ys message → Stands StandsFor Comes k m v t got (said ++ held message)) → IsMoved k ys t x → Goes x
    by_moved ys t x go (inl i) = subst (λ u. Stands StandsFor Comes k m v u got (said ++ held x.message)) (sym i.0) (go x.message i.1)
    by_moved ys t x go (inr w) = finish_wants s x w.0 w.1

    pub gave : (next : F) (out : Load) (x : Moved F) → IsAnswered next (fed.Out out) → IsMoved k (elements out) (stage.Finishing next) x → Goes x
    gave next out x a i =
        let c = a.answers in
        by_moved (elements out) (stage.Finishing next) x (λ message n. inr (record {
          input = a.input;
          received = a.received;
          given = a.given ++ elements out;
          says = says_more k said a.given (elements out) message a.says n;
          rest = c.2;
          whole = append_assoc a.given (elements out) c.2 ∙ (ap (λ l. a.given ++ l) (sym c.3) ∙ a.whole);
          comes = c.4;
        })) i

    pub failed : (next : F) (out : Load) (code : Code) (x : Moved F) → IsAnswered next (fed.Fault out code) → IsMoved k (elements out) (stage.Ending (how.Fault code)) x → Goes x
    failed next out code x a i =
        let c = a.answers in
        by_moved (elements out) (stage.Ending (how.Fault code)) x (λ message n. record {
          input = a.input;
          end = Done;
          received = a.received;
          given = a.given ++ elements out;
          says = says_more k said a.given (elements out) message a.says n;
          printed = (c.2, ap (λ l. a.given ++ l) (sym c.1) ∙ a.whole);
          halted = λ e. absurd (let no : how.Fault code ≡ how.Halted = e in cc);
        }) i

    pub done : (next : F) → IsAnswered next fed.End → HasEnded k m v got said how.Done
    done next a =
        let c = a.answers in
        record {
          input = a.input;
          end = Done;
          received = a.received;
          given = a.given;
          says = a.says;
          printed = (refl, c.1, sym (append-nil a.given) ∙ (ap (λ l. a.given ++ l) (sym c.0) ∙ a.whole));
          halted = λ e. absurd (let no : how.Done ≡ how.Halted = e in cc);
        }
