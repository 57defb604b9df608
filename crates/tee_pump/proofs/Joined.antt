-- Branches that are taken in, one after another.
use Rattle.std.proofs.Common.{◌≡◌, ℕ, ◌+◌, ◌≤◌, List, [], ◌∷◌, ◌++◌, length, Option, inl, inr, refl, sym, ap, ◌∙◌, subst, ⊎_elim, append-nil, length-append, arith}
use Rattle.std.specs.Prelude.{option_to_list}
use Rattle.std.proofs.lemmas.Bool.{cases_lt}
use Rattle.chunk_core.proofs.Filters.{among_right}
use Rattle.chunk_core.proofs.Members.{among_left}
use Rattle.chunk_core.proofs.Places.{at_last, at_longer}
use Rattle.chunk_core.proofs.Totals.{one_at}
use Rattle.chunk_core.specs.Elements.{Element, LoadKind}
use Rattle.chunk_core.specs.Feed.{Meaning}
use Rattle.chunk_core.specs.Totals.{IsAt}
use Rattle.chunk_core.specs.declared.code.Code.{Code}
use Rattle.channel_bounded.specs.Ends.{ReceiverSeen, ReceiverSees}
use Rattle.channel_bounded.specs.Streams.{IsWhole}
use Rattle.channel_bounded.specs.declared.message.Body.{Body}
use Rattle.channel_bounded.specs.declared.message.Msg.{Msg}
use Rattle.interrupt_ctx.specs.Ends.{SeatSeen}
use Rattle.interrupt_ctx.specs.Views.{HasSetAll, Knows, interruption, joined}
use Rattle.interrupt_ctx.specs.declared.view.View.{View}
use Rattle.interrupt_ctx.specs.declared.why.Stop.{Stop}
use Rattle.topic_hub.specs.Places.{bodies}
use Rattle.topic_hub.specs.Subscribers.{IsAtQueue, SubscriberSeen, received}
use Rattle.topic_hub.specs.Topics.{IsSubscriber, PublisherSeen, SettlesWith, due, pending}
use Rattle.tee_branches.specs.declared.branch.Branch.{Branch}
use Rattle.tee_branches.specs.declared.branch.BranchEnd.{BranchEnd}
use Rattle.tee_branches.specs.Branches.{EndsBranch}
use Rattle.tee_branches.specs.Stands.{HasEnded}
use Rattle.tee_texts.specs.Texts.{AreTexts, end_message}
use Rattle.tee_workers.specs.Returns.{ComesBack}
use Rattle.tee_workers.specs.declared.hired.Hired.{Hired}
use Rattle.tee_pump.specs.Branches.{AreHired, AreHiredFirst, IsBranch, IsHiredAs, SharedSeen}
use Rattle.tee_pump.specs.Pieces.{ArePieces}
use Rattle.tee_pump.specs.Publishing.{IsPublishing}
use Rattle.tee_pump.specs.Settled.{AreSettledFrom, IsSettled, JoinsSeat, JoinsSender}
use Rattle.tee_pump.proofs.Places.{at_below, at_some}
use Rattle.tee_pump.proofs.Published.{publishing_settled}

module _ {F : Type 0} (StandsFor : F → Meaning → List Element → Type 0) (Comes : F → LoadKind → List Element → Option Code → Type 0) (s : SharedSeen) (i : ℕ) (m : Meaning) (first b : Branch F) (is : IsBranch StandsFor Comes s i m first) (back : ComesBack StandsFor Comes first b) where
  pub back_number : b.source.number ≡ i
  back_number = back.same.source ∙ (is.branch.number ∙ is.number)

  pub back_at : IsAtQueue s.topic b.source
  back_at = (is.at.queue.0, subst (λ k. IsAt s.topic k is.at.queue.0) (sym back.same.source) is.at.queue.1, is.at.queue.2 ∙ sym back.same.queue)

  pub back_hub : b.sender.hub ≡ s.hub.id
  back_hub = back.same.hub ∙ is.at.hub_is

  pub back_board : b.board.board ≡ s.board.id
  back_board = back.same.board ∙ is.at.board_is

-- what the seat that stays knows of what another knew
knows_right : (old new : SeatSeen) (w : View) → new ≡ record old { view = joined old.view w } → (stop : Stop) → Knows w 0 stop → Knows new.view 0 stop
knows_right old new w e stop k = subst (λ (x : SeatSeen). Knows x.view 0 stop) (sym e) (⊎_elim (λ a. inl (among_right (interruption 0 stop) old.view.set w.set a)) (λ a. inr (among_right (interruption 0 stop) old.view.seen w.seen a)) k)

pub seat_joined : (old new : SeatSeen) (w : View) → w.set ≡ [] → new ≡ record old { view = joined old.view w } → (new.view.out ≡ 0 → HasSetAll new.view) → JoinsSeat old new
seat_joined old new w none e all = record {
  board_is = ap (λ (x : SeatSeen). x.board) e;
  first = ap (λ (x : SeatSeen). x.view.first) e;
  out = ap (λ (x : SeatSeen). x.view.out) e;
  set = ap (λ (x : SeatSeen). x.view.set) e ∙ (ap (λ l. old.view.set ++ l) none ∙ append-nil old.view.set);
  knows = λ stop k. subst (λ (x : SeatSeen). Knows x.view 0 stop) (sym e) (⊎_elim (λ a. inl (among_left w.set a)) (λ a. inr (among_left w.seen a)) k);
  all = all;
}

pub sender_joined : (old new : ReceiverSeen) (closed : List (ℕ × List Msg)) (queued : List Msg) → new ≡ record old { closed = closed } → ReceiverSees AreTexts new queued → JoinsSender old new
sender_joined old new closed queued e f =
    let f2 = subst (λ (x : ReceiverSeen). ReceiverSees AreTexts x queued) e f in
    record {
      hub = ap (λ (x : ReceiverSeen). x.hub) e;
      got = ap (λ (x : ReceiverSeen). x.got) e;
      made = ap (λ (x : ReceiverSeen). x.made) e;
      texts = record { closed = closed; queued = queued; accounts = f2.0; texts = f2.1 };
    }

-- the branch was taken in
pub settled_one : (i : ℕ) (m : Meaning) (e : BranchEnd) (a b : PublisherSeen) (got queued : List Msg) (old new : SeatSeen) → e.source.number ≡ i → EndsBranch m e → SettlesWith ArePieces a b e.source → IsWhole e.sender.stream e.sender.sent got queued
    → new ≡ record old { view = joined old.view e.board.view } → IsSettled i m (due a i) got new.view
settled_one i m e a b got queued old new number ends w whole seat = record {
  how = e.how;
  said = ends.said;
  received = received e.source;
  seen = e.board.view;
  front = (bodies w.queued ++ option_to_list (pending a e.source.number), ap (due a) (sym number) ∙ sym w.whole);
  ended = subst (λ k. HasEnded k m e.board.view (received e.source) ends.said e.how) number ends.ended;
  queued = queued;
  whole = subst (λ k. IsWhole k (ends.said ++ end_message k e.how ∷ []) got queued) number (subst (λ k. IsWhole k (ends.said ++ end_message e.source.number e.how ∷ []) got queued) ends.stream (subst (λ l. IsWhole e.sender.stream l got queued) ends.sent whole));
  knows = knows_right old new e.board.view seat;
}

-- what was known then is known later
pub settled_later : (i : ℕ) (m : Meaning) (all : List Body) (got : List Msg) (v w : View) → ((stop : Stop) → Knows v 0 stop → Knows w 0 stop) → IsSettled i m all got v → IsSettled i m all got w
settled_later i m all got v w k h = record { how = h.how; said = h.said; received = h.received; seen = h.seen; front = h.front; ended = h.ended; queued = h.queued; whole = h.whole; knows = λ stop x. k stop (h.knows stop x) }

module _ {F : Type 0} (StandsFor : F → Meaning → List Element → Type 0) (Comes : F → LoadKind → List Element → Option Code → Type 0) (s : SharedSeen) where
  -- those behind the ones that are left were taken in
  pub record IsSettling (ms : List Meaning) (all : List Body) (got : List Msg) (left : List (Hired F)) (p : PublisherSeen) (view : View) : Type 0 where
    pub few : length left ≤ length ms
    pub hired : AreHiredFirst StandsFor Comes s ms left
    pub published : IsPublishing s.topic (length left) all p
    pub settled : AreSettledFrom (length left) ms all got view

  pub settling_none : (ms : List Meaning) (all : List Body) (got : List Msg) (left : List (Hired F)) (p : PublisherSeen) (view : View) → AreHired StandsFor Comes s ms left → IsPublishing s.topic (length ms) all p → IsSettling ms all got left p view
  settling_none ms all got left p view a h = record {
    few = let c = a.count in omega (arith, c);
    hired = a.each;
    published = subst (λ n. IsPublishing s.topic n all p) (sym a.count) h;
    settled = λ i m l at. absurd (let b = at_below ms i m at in let c = a.count in omega (arith, b, c, l));
  }

  -- all but the last ones
  pub shorter : (left rest : List (Hired F)) (x : Hired F) → left ≡ rest ++ x ∷ [] → length left ≡ length rest + 1
  shorter left rest x e = ap length e ∙ length-append rest (x ∷ [])

  module _ (ms : List Meaning) (all : List Body) (got : List Msg) (left rest : List (Hired F)) (x : Hired F) (p : PublisherSeen) (view : View) (h : IsSettling ms all got left p view) (last : left ≡ rest ++ x ∷ []) where
    pub meaning : (m : Meaning) × IsAt ms (length rest) m
    meaning = at_some ms (length rest) (let f = h.few in let n = shorter left rest x last in omega (arith, f, n))

    pub last_hired : IsHiredAs StandsFor Comes s (length rest) meaning.0 x
    last_hired = h.hired (length rest) meaning.0 x meaning.1 (subst (λ l. IsAt l (length rest) x) (sym last) (at_last rest x (length rest) refl))

    -- what is asked to take it in
    pub may_settle : (i : ℕ) × (m : Meaning) × IsHiredAs StandsFor Comes s i m x × ((t : SubscriberSeen) → t.number ≡ i → IsAtQueue s.topic t → IsSubscriber p t)
    may_settle = (length rest, meaning.0, last_hired, λ t e q. h.published.subscribed t (let n = shorter left rest x last in omega (arith, n, e)) q)

    pub settling_more : (q : PublisherSeen) (w : View) → ((i : ℕ) (m : Meaning) → IsHiredAs StandsFor Comes s i m x → IsSettled i m (due p i) got w × ((t : SubscriberSeen) × (t.number ≡ i) × SettlesWith ArePieces p q t)) → ((stop : Stop) → Knows view 0 stop → Knows w 0 stop) → IsSettling ms all got rest q w
    settling_more q w f knows =
        let n = shorter left rest x last in
        let one = f (length rest) meaning.0 last_hired in
        let due_here = h.published.due_is (length rest) (omega (arith, n)) in
        record {
          few = let k = h.few in omega (arith, k, n);
          hired = λ i m y at g. h.hired i m y at (subst (λ l. IsAt l i y) (sym last) (at_longer rest (x ∷ []) i y g));
          published = publishing_settled s.topic (length rest) all p q one.1.0 one.1.1 (subst (λ k. IsPublishing s.topic k all p) n h.published) one.1.2;
          settled = λ i m l at. ⊎_elim (λ b. settled_later i m all got view w knows (h.settled i m (omega (arith, n, b)) at)) (λ b. here i m (omega (arith, l, b)) at (subst (λ d. IsSettled (length rest) meaning.0 d got w) due_here one.0)) (cases_lt (length rest) i);
        }
      where
        here : (i : ℕ) (m : Meaning) → i ≡ length rest → IsAt ms i m → IsSettled (length rest) meaning.0 all got w → IsSettled i m all got w
        here i m e at t = subst (λ k. IsSettled k m all got w) (sym e) (subst (λ y. IsSettled (length rest) y all got w) (one_at ms (length rest) meaning.0 m meaning.1 (subst (λ k. IsAt ms k m) e at)) t)
