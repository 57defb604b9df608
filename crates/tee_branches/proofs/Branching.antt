-- A branch that sends, that is halted, that goes one step on, and that is over.
use Rattle.std.proofs.Common.{◌≡◌, ℕ, List, [], ◌∷◌, ◌++◌, inl, inr, Option, Some, None, IfSome, refl, sym, ap, ◌∙◌, subst, append-nil}
use Rattle.std.specs.Option.{option_or}
use Rattle.chunk_core.specs.Elements.{Element, LoadKind}
use Rattle.chunk_core.specs.Feed.{Meaning}
use Rattle.chunk_core.specs.declared.code.Code.{Code}
use Rattle.chunk_core.specs.declared.code.How.{How}
use Rattle.chunk_core.specs.declared.code.How.TheVariants as how
use Rattle.channel_bounded.specs.declared.message.Body.{Body}
use Rattle.channel_bounded.specs.declared.message.Msg.{Msg}
use Rattle.interrupt_ctx.specs.Ends.{SeatSeen}
use Rattle.interrupt_ctx.specs.Views.{after_look}
use Rattle.interrupt_ctx.specs.declared.view.View.{View}
use Rattle.interrupt_ctx.specs.declared.why.Stop.{Stop}
use Rattle.topic_hub.specs.Subscribers.{SubscriberSeen, received}
use Rattle.tee_texts.specs.Texts.{IsTextOf, end_message}
use Rattle.tee_branches.specs.declared.branch.Branch.{Branch}
use Rattle.tee_branches.specs.declared.branch.BranchEnd.{BranchEnd}
use Rattle.tee_branches.specs.declared.stage.Stage.{Stage}
use Rattle.tee_branches.specs.declared.stage.Stage.TheVariants as stage
use Rattle.tee_branches.specs.Branches.{EndsBranch, IsBranchOf, IsOver, said}
use Rattle.tee_branches.specs.Messages.{held}
use Rattle.tee_branches.specs.Moves.{CanStep}
use Rattle.tee_branches.specs.Stands.{HasEnded, Stands}
use Rattle.tee_branches.specs.Turns.{LooksOnce, ReceivesOne}
use Rattle.tee_branches.proofs.Finishing.{may_finish}
use Rattle.tee_branches.proofs.Looking.{found_stops, looks}
use Rattle.tee_branches.proofs.Stopping.{halts}

some_message : (x y : Msg) → Some x ≡ Some y → x ≡ y
some_message x y e = cc

-- what is said where nothing waited
pub said_more : {F : Type 0} (a b : Branch F) (message : Option Msg) → b.sender ≡ a.sender → a.waiting ≡ None → b.waiting ≡ message → said b ≡ said a ++ held message
said_more a b message same none is =
    ap (λ s. s.sent ++ held b.waiting) same ∙ (ap (λ o. a.sender.sent ++ held o) is ∙ ap (λ l. l ++ held message) (sym (ap (λ o. a.sender.sent ++ held o) none ∙ append-nil a.sender.sent)))

-- at most one message more came of the same queue
pub one_number : (s t : SubscriberSeen) → ReceivesOne s t → t.number ≡ s.number
one_number s t (inl e) = ap (λ (x : SubscriberSeen). x.number) e
one_number s t (inr r) = ap (λ (x : SubscriberSeen). x.number) r.1

pub one_queue : (s t : SubscriberSeen) → ReceivesOne s t → t.queue ≡ s.queue
one_queue s t (inl e) = ap (λ (x : SubscriberSeen). x.queue) e
one_queue s t (inr r) = ap (λ (x : SubscriberSeen). x.queue) r.1

module _ {F : Type 0} (StandsFor : F → Meaning → List Element → Type 0) (Comes : F → LoadKind → List Element → Option Code → Type 0) (m : Meaning) where
  abbrev IsIts : Branch F → Type 0
  IsIts b = IsBranchOf StandsFor Comes m b

  stands_at : (k j : ℕ) (v w : View) (s t : Stage F) (g h : List Body) (l r : List Msg) → j ≡ k → w ≡ v → t ≡ s → h ≡ g → r ≡ l → Stands StandsFor Comes k m v s g l → Stands StandsFor Comes j m w t h r
  stands_at k j v w s t g h l r jk wv ts hg rl x =
      subst (λ i. Stands StandsFor Comes i m w t h r) (sym jk) (subst (λ u. Stands StandsFor Comes k m u t h r) (sym wv) (subst (λ u. Stands StandsFor Comes k m v u h r) (sym ts)
      (subst (λ u. Stands StandsFor Comes k m v s u r) (sym hg) (subst (λ u. Stands StandsFor Comes k m v s g u) (sym rl) x))))

  -- what waited was sent, or not
  pub branch_sends : (a b : Branch F) → IsIts a → b.stage ≡ a.stage → b.number ≡ a.number → b.source ≡ a.source → b.board ≡ a.board → said b ≡ said a → b.sender.stream ≡ a.sender.stream → IfSome b.waiting (IsTextOf b.number) → IsIts b
  branch_sends a b h s n x y l z w = record {
    number = ap (λ (u : SubscriberSeen). u.number) x ∙ (h.number ∙ sym n);
    sender = z ∙ (h.sender ∙ sym n);
    waits = w;
    stands = stands_at a.number b.number a.board.view b.board.view a.stage b.stage (received a.source) (received b.source) (said a) (said b) n (ap (λ (u : SeatSeen). u.view) y) s (ap received x) l h.stands;
    none_set = ap (λ (u : SeatSeen). u.view.set) y ∙ h.none_set;
    not_first = ap (λ (u : SeatSeen). u.view.first) y ∙ h.not_first;
  }

  module _ (a b : Branch F) (h : IsIts a) (none : a.waiting ≡ None) (look : LooksOnce a.board b.board) (number : b.number ≡ a.number) (sender : b.sender ≡ a.sender) where
    abbrev own : Option Stop
    own = b.board.view.last.own

    abbrev root : Option Stop
    root = b.board.view.last.root

    abbrev looked : View
    looked = after_look a.board.view 0 own root

    seen : b.board.view ≡ looked
    seen = ap (λ (s : SeatSeen). s.view) look

    -- the run is interrupted
    pub branch_halts : ((e : How) → a.stage ≡ stage.Over e → ⊥) → (stop : Stop) → option_or own root ≡ Some stop → b.source ≡ a.source → b.stage ≡ stage.Over how.Halted → b.waiting ≡ Some (end_message a.number how.Halted) → IsIts b
    branch_halts unless stop found source is waits =
        let got = received a.source in
        let stopped = halts StandsFor Comes a.number m looked a.stage got (said a) unless (looks a.board.view own root StandsFor Comes a.number m a.stage got (said a) h.stands) (found_stops a.board.view own root own root stop got refl refl found) in
        record {
          number = ap (λ (u : SubscriberSeen). u.number) source ∙ (h.number ∙ sym number);
          sender = ap (λ s. s.stream) sender ∙ (h.sender ∙ sym number);
          waits = subst (λ o. IfSome o (IsTextOf b.number)) (sym waits) (sym number, tt);
          stands = stands_at a.number b.number looked b.board.view (stage.Over how.Halted) b.stage got (received b.source) (said a ++ end_message a.number how.Halted ∷ []) (said b) number seen is (ap received source) (said_more a b (Some (end_message a.number how.Halted)) sender none waits)
              (said a, refl, stopped);
          none_set = ap (λ (u : View). u.set) seen ∙ h.none_set;
          not_first = ap (λ (u : View). u.first) seen ∙ h.not_first;
        }

    -- a step was made
    pub branch_steps : (s : Stage F) (message : Option Msg) → b.stage ≡ s → b.waiting ≡ message → ReceivesOne a.source b.source → IfSome message (IsTextOf a.number)
        → ((n : Meaning) (v : View) (l : List Msg) → Stands StandsFor Comes a.number n v a.stage (received a.source) l → Stands StandsFor Comes a.number n v s (received b.source) (l ++ held message)) → IsIts b
    branch_steps s message is waits one text steps = record {
      number = one_number a.source b.source one ∙ (h.number ∙ sym number);
      sender = ap (λ s. s.stream) sender ∙ (h.sender ∙ sym number);
      waits = subst (λ k. IfSome b.waiting (IsTextOf k)) (sym number) (subst (λ o. IfSome o (IsTextOf a.number)) (sym waits) text);
      stands = stands_at a.number b.number looked b.board.view s b.stage (received b.source) (received b.source) (said a ++ held message) (said b) number seen is refl (said_more a b message sender none waits)
          (steps m looked (said a) (looks a.board.view own root StandsFor Comes a.number m a.stage (received a.source) (said a) h.stands));
      none_set = ap (λ (u : View). u.set) seen ∙ h.none_set;
      not_first = ap (λ (u : View). u.first) seen ∙ h.not_first;
    }

  -- its pipe may go on
  pub may_step : (a : Branch F) → IsIts a → (s : Stage F) → s ≡ a.stage → ((e : How) → a.stage ≡ stage.Over e → ⊥) → CanStep StandsFor Comes s
  may_step a h s is unless = by s (subst (λ t. Stands StandsFor Comes a.number m a.board.view t (received a.source) (said a)) (sym is) h.stands) (λ e o. unless e (sym is ∙ o))
    where
      by : (t : Stage F) → Stands StandsFor Comes a.number m a.board.view t (received a.source) (said a) → ((e : How) → t ≡ stage.Over e → ⊥) → CanStep StandsFor Comes t
      by (stage.Feeding pipe) f n = (m, f.input, f.stands, f.takes)
      by (stage.Finishing pipe) f n = may_finish StandsFor Comes a.number m a.board.view (received a.source) (said a) pipe f
      by (stage.Ending e) f n = tt
      by (stage.Over e) f n = absurd (n e refl)

  -- what is left of one that is over
  pub branch_ends : (a : Branch F) (o : IsOver a) (z : BranchEnd) → IsIts a → z.source ≡ a.source → z.board ≡ a.board → z.sender ≡ a.sender → z.how ≡ o.how → EndsBranch m z
  branch_ends a o z h source board sender is =
      let s = subst (λ t. Stands StandsFor Comes a.number m a.board.view t (received a.source) (said a)) o.ended h.stands in
      let k : z.source.number ≡ a.number = ap (λ (u : SubscriberSeen). u.number) source ∙ h.number in
      record {
        stream = ap (λ u. u.stream) sender ∙ (h.sender ∙ sym k);
        said = s.0;
        sent = ap (λ u. u.sent) sender ∙ (sym (append-nil a.sender.sent) ∙ (ap (λ w. a.sender.sent ++ held w) (sym o.sent) ∙ (s.1 ∙ (ap (λ j. s.0 ++ end_message j o.how ∷ []) (sym k) ∙ ap (λ e. s.0 ++ end_message z.source.number e ∷ []) (sym is)))));
        ended = subst (λ j. HasEnded j m z.board.view (received z.source) s.0 z.how) (sym k) (subst (λ (u : SeatSeen). HasEnded a.number m u.view (received z.source) s.0 z.how) (sym board)
            (subst (λ (u : SubscriberSeen). HasEnded a.number m a.board.view (received u) s.0 z.how) (sym source) (subst (λ e. HasEnded a.number m a.board.view (received a.source) s.0 e) (sym is) s.2)));
        none_set = ap (λ (u : SeatSeen). u.view.set) board ∙ h.none_set;
        not_first = ap (λ (u : SeatSeen). u.view.first) board ∙ h.not_first;
      }
