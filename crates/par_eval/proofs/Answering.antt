-- What a hand says while it goes on.
use Rattle.std.proofs.Common.{◌≡◌, ℕ, ◌<◌, Bool, List, [], ◌∷◌, ◌++◌, length, Option, Some, None, refl, sym, ap, ◌∙◌, subst, append_assoc, append-nil, arith, length-append}
use Rattle.std.specs.Prelude.{option_to_list}
use Rattle.chunk_core.specs.declared.code.How.{How}
use Rattle.chunk_core.specs.declared.load.Load.{Load as Piece}
use Rattle.channel_bounded.specs.Ends.{MaySend, ReceiverSeen, SenderSeen}
use Rattle.channel_bounded.specs.Streams.{IsWhole, of_stream}
use Rattle.channel_bounded.proofs.Streams.{of_stream-append, whole_sent}
use Rattle.channel_bounded.specs.declared.message.Body.{Body}
use Rattle.channel_bounded.specs.declared.message.Body.TheVariants.{Load, End}
use Rattle.channel_bounded.specs.declared.message.Msg.{Msg}
use Rattle.par_eval.specs.Hands.{Answers, HandSeen, IsHand, MaySendNext, OutboxSends, received, said, waiting_in}
use Rattle.par_eval.specs.Messages.{AreResults, IsPaired, IsResult, Meaning, bodies, loads_in, messages_of, paired, results_in, the_stream}
use Rattle.par_eval.specs.declared.outbox.Outbox.{Outbox}
use Rattle.par_eval.specs.declared.turns.HandTurn.{HandTurn}
use Rattle.par_eval.specs.declared.turns.HandTurn.TheVariants as turn
use Rattle.par_eval.specs.declared.work.Worked.{Worked}
use Rattle.par_eval.proofs.Pairs.{bodies_more, loads_more, messages_more, paired_front, paired_messages, results_messages, results_next}

abbrev pub seen : ℕ → ReceiverSeen → Outbox → Bool → HandSeen
seen n t o v = record { number = n; tasks = t; results = o.sender; waiting = waiting_in o; over = v }

abbrev pub with_got : ReceiverSeen → Msg → ReceiverSeen
with_got t m = record t { got = t.got ++ m ∷ [] }

pub answers_same : (f : Meaning) (a b : HandSeen) → said a ≡ said b → received a ≡ received b → Answers f a → Answers f b
answers_same f a b s r h = subst (λ (ws : List Worked). AreResults f (received b) ws) (ap results_in s) (subst (λ (ls : List Piece). AreResults f ls (results_in (said a))) r h)

-- all that is sent stays what it was to say
pub sends_said : (may : List Msg → List Msg → Type 0) (capacity : ℕ) (body : Body) (a b : Outbox) (r : HandTurn) → OutboxSends may capacity body a b r → bodies b.sender.sent ++ waiting_in b ≡ bodies a.sender.sent ++ body ∷ option_to_list a.second
sends_said may capacity body a b turn.More h =
    ap (λ (s : SenderSeen). bodies s.sent ++ waiting_in b) h.0
    ∙ ap (λ (o : Option Body). bodies (a.sender.sent ++ (record { stream = the_stream; body = body }) ∷ []) ++ (option_to_list o ++ option_to_list b.second)) h.1
    ∙ ap (λ (o : Option Body). bodies (a.sender.sent ++ (record { stream = the_stream; body = body }) ∷ []) ++ (option_to_list a.second ++ option_to_list o)) h.2
    ∙ ap (λ l. bodies (a.sender.sent ++ (record { stream = the_stream; body = body }) ∷ []) ++ l) (append-nil (option_to_list a.second))
    ∙ ap (λ l. l ++ option_to_list a.second) (bodies_more a.sender.sent (record { stream = the_stream; body = body }))
    ∙ append_assoc (bodies a.sender.sent) (body ∷ []) (option_to_list a.second)
sends_said may capacity body a b turn.Blocked h = ap (λ (o : Outbox). bodies o.sender.sent ++ waiting_in o) h.0
sends_said may capacity body a b turn.Empty h = absurd h
sends_said may capacity body a b turn.Over h = absurd h

-- the results of a queue stay paired
pub may_next : (may : List Msg → List Msg → Type 0) (n : ℕ) (t : ReceiverSeen) (o : Outbox) (v : Bool) (b : Body) (capacity : ℕ) → IsHand n t o → MaySendNext may (seen n t o v) → o.first ≡ Some b → capacity ≡ 2 → MaySend (paired may) capacity o.sender (record { stream = the_stream; body = b })
may_next may n t o v b capacity hand allows first is got queued less whole p = (
  allows b rest waits got queued (subst (λ k. length queued < k) is less) whole p.0,
  subst IsPaired (sym (ap bodies all ∙ bodies_more o.sender.sent m)) front,
)
  where
    rest : List Body
    rest = option_to_list o.second

    m : Msg
    m = record { stream = the_stream; body = b }

    waits : waiting_in o ≡ b ∷ rest
    waits = ap (λ (x : Option Body). option_to_list x ++ option_to_list o.second) first

    all : of_stream the_stream (got ++ (queued ++ m ∷ [])) ≡ o.sender.sent ++ m ∷ []
    all = of_stream-append the_stream got (queued ++ m ∷ []) ∙ whole_sent the_stream o.sender.sent got queued m refl (subst (λ k. IsWhole k o.sender.sent got queued) hand.stream whole)

    front : IsPaired (bodies o.sender.sent ++ b ∷ [])
    front = paired_front (bodies o.sender.sent ++ b ∷ []) rest (subst IsPaired (hand.says ∙ ap (λ l. bodies o.sender.sent ++ l) waits ∙ sym (append_assoc (bodies o.sender.sent) (b ∷ []) rest)) (paired_messages hand.results))

module _ (n : ℕ) (t t' : ReceiverSeen) (o : Outbox) (m : Msg) (hand : IsHand n t o) (none : o.first ≡ None) (gets : t' ≡ with_got t m) where
  nothing : waiting_in o ≡ []
  nothing = ap (λ (x : Option Body). option_to_list x ++ option_to_list o.second) none ∙ ap (λ (x : Option Body). option_to_list x) (hand.idle none)

  says_all : messages_of hand.results ≡ bodies o.sender.sent
  says_all = hand.says ∙ ap (λ l. bodies o.sender.sent ++ l) nothing ∙ append-nil (bodies o.sender.sent)

  got_more : loads_in (bodies t'.got) ≡ loads_in (bodies t.got) ++ loads_in (m.body ∷ [])
  got_more = ap (λ (r : ReceiverSeen). loads_in (bodies r.got)) gets ∙ ap loads_in (bodies_more t.got m) ∙ loads_more (bodies t.got) (m.body ∷ [])

  made_same : t'.made ≡ the_stream ∷ []
  made_same = ap (λ (r : ReceiverSeen). r.made) gets ∙ hand.made

  module _ (h : How) (is : m.body ≡ End h) where
    same_loads : loads_in (bodies t'.got) ≡ loads_in (bodies t.got)
    same_loads = got_more ∙ ap (λ (b : Body). loads_in (bodies t.got) ++ loads_in (b ∷ [])) is ∙ append-nil (loads_in (bodies t.got))

    pub end_hand : (x : Option Body) → x ≡ o.first → IsHand n t' (record { sender = o.sender; first = x; second = o.second })
    end_hand x e = record {
      idle = λ z. hand.idle (sym e ∙ z);
      stream = hand.stream;
      made = made_same;
      results = hand.results;
      says = hand.says ∙ ap (λ (y : Option Body). bodies o.sender.sent ++ (option_to_list y ++ option_to_list o.second)) (sym e);
      count = hand.count ∙ ap length (sym same_loads);
    }

    pub end_answers : (f : Meaning) (v w : Bool) (x : Option Body) → x ≡ o.first → Answers f (seen n t o v) → Answers f (seen n t' (record { sender = o.sender; first = x; second = o.second }) w)
    end_answers f v w x e a = answers_same f (seen n t o v) (seen n t' (record { sender = o.sender; first = x; second = o.second }) w)
        (ap (λ (y : Option Body). bodies o.sender.sent ++ (option_to_list y ++ option_to_list o.second)) (sym e)) (sym same_loads) a

  module _ (l : Piece) (w : Worked) (is : m.body ≡ Load l) where
    one_load : loads_in (bodies t'.got) ≡ loads_in (bodies t.got) ++ l ∷ []
    one_load = got_more ∙ ap (λ (b : Body). loads_in (bodies t.got) ++ loads_in (b ∷ [])) is

    says_one : messages_of (hand.results ++ w ∷ []) ≡ bodies o.sender.sent ++ Load w.out ∷ End w.how ∷ []
    says_one = messages_more hand.results w ∙ ap (λ z. z ++ Load w.out ∷ End w.how ∷ []) says_all

    pub load_hand : IsHand n t' (record { sender = o.sender; first = Some (Load w.out); second = Some (End w.how) })
    load_hand = record {
      idle = λ e. cc;
      stream = hand.stream;
      made = made_same;
      results = hand.results ++ w ∷ [];
      says = says_one;
      count = let a = length-append hand.results (w ∷ []) in let b = length-append (loads_in (bodies t.got)) (l ∷ []) in let e = hand.count in let k = ap length one_load in omega arith;
    }

    pub load_answers : (f : Meaning) (v : Bool) → IsResult f l w → Answers f (seen n t o v) → Answers f (seen n t' (record { sender = o.sender; first = Some (Load w.out); second = Some (End w.how) }) v)
    load_answers f v good a =
        let old : results_in (said (seen n t o v)) ≡ hand.results = ap results_in (sym hand.says) ∙ results_messages hand.results in
        let now : results_in (bodies o.sender.sent ++ Load w.out ∷ End w.how ∷ []) ≡ hand.results ++ w ∷ [] = ap results_in (sym says_one) ∙ results_messages (hand.results ++ w ∷ []) in
        let before : AreResults f (loads_in (bodies t.got)) hand.results = subst (λ (ws : List Worked). AreResults f (loads_in (bodies t.got)) ws) old a in
        subst (λ (ls : List Piece). AreResults f ls (results_in (bodies o.sender.sent ++ Load w.out ∷ End w.how ∷ []))) (sym one_load)
        (subst (λ (ws : List Worked). AreResults f (loads_in (bodies t.got) ++ l ∷ []) ws) (sym now)
        (results_next f (loads_in (bodies t.got)) hand.results l w hand.count good before))

module _ (f : Meaning) (n : ℕ) (t : ReceiverSeen) (v : Bool) where
  pub sends_answers : (may : List Msg → List Msg → Type 0) (capacity : ℕ) → (body : Body) (o : Outbox) (x : Option Body) (p : Outbox) (r : HandTurn) → o.first ≡ Some body → OutboxSends may capacity body (record { sender = o.sender; first = x; second = o.second }) p r → Answers f (seen n t o v) → Answers f (seen n t p v)
  sends_answers may capacity body o x p r first sends a = answers_same f (seen n t o v) (seen n t p v)
      (ap (λ (y : Option Body). bodies o.sender.sent ++ (option_to_list y ++ option_to_list o.second)) first ∙ sym (sends_said may capacity body (record { sender = o.sender; first = x; second = o.second }) p r sends)) refl a

pub same_answers : (f : Meaning) (n : ℕ) (t t' : ReceiverSeen) (v : Bool) (o : Outbox) (x : Option Body) → t' ≡ t → x ≡ o.first → Answers f (seen n t o v) → Answers f (seen n t' (record { sender = o.sender; first = x; second = o.second }) v)
same_answers f n t t' v o x e first a = answers_same f (seen n t o v) (seen n t' (record { sender = o.sender; first = x; second = o.second }) v)
    (ap (λ (y : Option Body). bodies o.sender.sent ++ (option_to_list y ++ option_to_list o.second)) (sym first))
    (ap (λ (r : ReceiverSeen). loads_in (bodies r.got)) (sym e)) a
