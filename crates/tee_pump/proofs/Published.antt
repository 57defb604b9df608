-- What is published, pushed and settled, by the publisher's own list of each subscriber.
use Rattle.std.proofs.Common.{◌≡◌, ◌≢◌, ℕ, zero, suc, ◌+◌, ◌<◌, ◌≤◌, List, [], ◌∷◌, ◌++◌, length, Option, Some, None, refl, sym, ap, ◌∙◌, subst, ⊎_elim, append_assoc, arith}
use Rattle.std.specs.Prelude.{IfSome}
use Rattle.std.specs.List.{AllByRecursion}
use Rattle.std.proofs.lemmas.Bool.{cases_lt}
use mathlib.Core.Option.{some-injective, some-ne-none}
use Rattle.chunk_core.proofs.Each.{each_snoc}
use Rattle.chunk_core.proofs.Totals.{one_at}
use Rattle.chunk_core.specs.Totals.{IsAt}
use Rattle.channel_bounded.specs.Ends.{HubSeen, SenderSeen}
use Rattle.channel_bounded.specs.declared.message.Body.{Body}
use Rattle.channel_bounded.specs.declared.message.Msg.{Msg}
use Rattle.topic_hub.specs.declared.place.Place.{Place}
use Rattle.topic_hub.specs.declared.place.Place.TheVariants as place
use Rattle.topic_hub.specs.declared.place.Seat.{Seat}
use Rattle.topic_hub.specs.declared.publisher.Pushed.{Pushed}
use Rattle.topic_hub.specs.Places.{MayPushPlace, MaySendBody, pending_at}
use Rattle.topic_hub.specs.Subscribers.{IsAtQueue, SubscriberSeen}
use Rattle.topic_hub.specs.Topics.{IsSubscriber, KeepsTopic, MayPush, PublisherSeen, Publishes, PushesAll, SettlesWith, Subscribes, due, pending, pending_in}
use Rattle.tee_branches.specs.Branches.{IsOfBytes}
use Rattle.tee_pump.specs.Pieces.{ArePieces}
use Rattle.tee_pump.specs.Publishing.{ArePending, IsPublishing}
use Rattle.tee_pump.proofs.Places.{at_some}

pub none_some : (x : Body) → None ≡ Some x → ⊥
none_some x e = cc

same_body : (x y : Body) → Some x ≡ Some y → x ≡ y
same_body x y e = cc

pending_taken : (xs : List Place) (i : ℕ) (b : Body) → pending_in xs i ≡ Some b → (seat : Seat) × IsAt xs i (place.Taken seat) × (seat.pending ≡ Some b)
pending_taken [] i b e = absurd (none_some b e)
pending_taken (place.Free r ∷ xs) zero b e = absurd (none_some b e)
pending_taken (place.Taken s ∷ xs) zero b e = (s, refl, e)
pending_taken (place.Settled ∷ xs) zero b e = absurd (none_some b e)
pending_taken (x ∷ xs) (suc i) b e = pending_taken xs i b e

pending_is : (xs : List Place) (i : ℕ) (x : Place) → IsAt xs i x → pending_in xs i ≡ pending_at x
pending_is [] i x e = absurd (some-ne-none x (sym e))
pending_is (y ∷ xs) zero x e = ap pending_at (some-injective y x e)
pending_is (y ∷ xs) (suc i) x e = pending_is xs i x e

sends : (queue : HubSeen) (sender : SenderSeen) (o : Option Body) → ((b : Body) → o ≡ Some b → IsOfBytes b) → IfSome o (MaySendBody ArePieces queue sender)
sends queue sender None h = tt
sends queue sender (Some b) h = λ got queued l w a. subst (AllByRecursion (λ x. IsOfBytes x.body)) (append_assoc got queued (record { stream = sender.stream; body = b } ∷ [])) (each_snoc (λ (x : Msg). IsOfBytes x.body) (got ++ queued) (record { stream = sender.stream; body = b }) a (h b refl))

at_place : (queue : HubSeen) (x : Place) → ((b : Body) → pending_at x ≡ Some b → IsOfBytes b) → MayPushPlace ArePieces queue x
at_place queue (place.Free receiver) h = tt
at_place queue (place.Taken seat) h = sends queue seat.sender seat.pending h
at_place queue place.Settled h = tt

-- what is pending may be sent
pub may_push : (topic : List HubSeen) (p : PublisherSeen) → ArePending p → MayPush ArePieces topic p
may_push topic p h i queue x q at = at_place queue x (λ b e. h i b (pending_is p.places i x at ∙ e))

-- what was published is pending, and nothing else
pub published_pending : (body : Body) (a b : PublisherSeen) → IsOfBytes body → Publishes body a b → ArePending b
published_pending body a b ok p i x e =
    let t = pending_taken b.places i x e in
    let s : SubscriberSeen = record { number = i; queue = t.0.sender.hub; got = [] } in
    let w : pending b i ≡ Some body = p.waits s (p.only s (t.0, t.1, refl)) in
    subst IsOfBytes (sym (same_body x body (sym e ∙ w))) ok

-- what is still pending was so before
pub pushed_pending : (topic : List HubSeen) (a b : PublisherSeen) (pushed : Pushed) → PushesAll ArePieces topic a b pushed → ArePending a → ArePending b
pushed_pending topic a b pushed p h i x e =
    let w = p.waits i x e in
    h i x (pending_is a.places i (place.Taken w.seat) w.old ∙ (sym (pending_is b.places i (place.Taken w.seat) w.now) ∙ e))

-- another view of the same subscriber
pub same_subscriber : (p : PublisherSeen) (s t : SubscriberSeen) → t.number ≡ s.number → t.queue ≡ s.queue → IsSubscriber p s → IsSubscriber p t
same_subscriber p s t n q h = (h.0, subst (λ k. IsAt p.places k (place.Taken h.0)) (sym n) h.1, h.2 ∙ sym q)

-- at the queue of one number
pub one_queue : (topic : List HubSeen) (s t : SubscriberSeen) → t.number ≡ s.number → IsAtQueue topic s → IsAtQueue topic t → t.queue ≡ s.queue
one_queue topic s t n a b = sym b.2 ∙ (ap (λ (q : HubSeen). q.id) (one_at topic s.number b.0 a.0 (subst (λ k. IsAt topic k b.0) n b.1) a.1) ∙ a.2)

module _ (topic : List HubSeen) (n : ℕ) (all : List Body) (a b : PublisherSeen) where
  -- one thing more was published
  pub publishing_more : (body : Body) → length topic ≡ n → IsPublishing topic n all a → Publishes body a b → KeepsTopic a b → IsPublishing topic n (all ++ body ∷ []) b
  publishing_more body c h p k = record {
    topic_is = k.topic topic h.topic_is;
    subscribed = λ s l q. k.subscribers s (h.subscribed s l q);
    due_is = λ i l.
        let q = at_some topic i (omega (arith, c, l)) in
        let s : SubscriberSeen = record { number = i; queue = q.0.id; got = [] } in
        p.appended s (h.subscribed s l (q.0, q.1, refl)) ∙ ap (λ x. x ++ body ∷ []) (h.due_is i l);
  }

  -- it was sent on
  pub publishing_pushed : IsPublishing topic n all a → KeepsTopic a b → ((i : ℕ) → due b i ≡ due a i) → IsPublishing topic n all b
  publishing_pushed h k d = record {
    topic_is = k.topic topic h.topic_is;
    subscribed = λ s l q. k.subscribers s (h.subscribed s l q);
    due_is = λ i l. d i ∙ h.due_is i l;
  }

  -- the last one was settled with
  pub publishing_settled : (s : SubscriberSeen) → s.number ≡ n → IsPublishing topic (n + 1) all a → SettlesWith ArePieces a b s → IsPublishing topic n all b
  publishing_settled s e h p = record {
    topic_is = p.topic topic h.topic_is;
    subscribed = λ t l q. p.subscribers t (other t.number l) (h.subscribed t (omega (arith, l)) q);
    due_is = λ i l. (p.others i (other i l)).0 ∙ h.due_is i (omega (arith, l));
  }
    where
      other : (i : ℕ) → i < n → i ≢ s.number
      other i l x = omega (arith, e, l, x)

-- one more subscribed
pub publishing_subscribes : (topic : List HubSeen) (i : ℕ) (a b : PublisherSeen) (s : SubscriberSeen) → a.given ≡ i → IsPublishing topic i [] a → Subscribes a b s → IsAtQueue topic s → KeepsTopic a b → IsPublishing topic (i + 1) [] b
publishing_subscribes topic i a b s g h p at k = record {
  topic_is = k.topic topic h.topic_is;
  subscribed = λ t l q. ⊎_elim (λ x. k.subscribers t (h.subscribed t x q)) (λ x. let e = mine t.number l x in same_subscriber b s t e (one_queue topic s t e at q) p.subscriber) (cases_lt t.number i);
  due_is = λ j l. ⊎_elim (λ x. p.others j (other j x) ∙ h.due_is j x) (λ x. subst (λ y. due b y ≡ []) (sym (mine j l x)) p.nothing_due) (cases_lt j i);
}
  where
    number : s.number ≡ i
    number = p.number ∙ g

    mine : (j : ℕ) → j < i + 1 → i ≤ j → j ≡ s.number
    mine j l x = let e = number in omega (arith, e, l, x)

    other : (j : ℕ) → j < i → j ≢ s.number
    other j l x = let e = number in omega (arith, e, l, x)

pub keeps_then : (a b c : PublisherSeen) → KeepsTopic a b → KeepsTopic b c → KeepsTopic a c
keeps_then a b c x y = record { topic = λ q h. y.topic q (x.topic q h); subscribers = λ s h. y.subscribers s (x.subscribers s h) }
