-- What the calls come to, one after another.
use Rattle.std.proofs.Common.{◌≡◌, ◌≢◌, ℕ, true, List, [], ◌∷◌, ◌++◌, length, refl, sym, ap, ◌∙◌, subst, arith, length-append}
use Rattle.channel_bounded.proofs.Causes.{full_has_a_cause, none_has_a_cause}
use Rattle.channel_bounded.specs.Causes.{NotEmptyYet}
use Rattle.channel_bounded.specs.Ends.{HubSeen}
use Rattle.channel_bounded.specs.Queue.{QueueRule}
use Rattle.channel_bounded.specs.declared.message.Body.{Body}
use Rattle.channel_bounded.specs.declared.message.Body.TheVariants as body
use Rattle.channel_bounded.specs.declared.message.Msg.{Msg}
use Rattle.channel_bounded.specs.declared.rule.View.{View}
use Rattle.topic_hub.specs.Laws.{EmptyHasACause, EndIsLast, LaterAreDue, Reaches, WaitingHasACause}
use Rattle.topic_hub.specs.Subscribers.{SubscriberSeen}
use Rattle.topic_hub.specs.Topics.{IsSubscriber, PublisherSeen, due}

-- a subscriber is due it, and stays a subscriber
reached : (body : Body) (a c : PublisherSeen) (s : SubscriberSeen) → Reaches body a c → IsSubscriber a s → (due c s.number ≡ due a s.number ++ body ∷ []) × IsSubscriber c s
reached body a c s r is = (r.3 s.number ∙ r.1.appended s is, r.4.subscribers s (r.2.subscribers s is))

pub later_are_due : LaterAreDue
later_are_due a b c d e s q r how sub one two three =
    let x = reached (body.Load q) b c s one sub.subscriber in
    let y = reached (body.Load r) c d s two x.1 in
    let z = reached (body.End how) d e s three y.1 in
    z.0 ∙ ap (λ l. l ++ body.End how ∷ []) (y.0 ∙ ap (λ l. l ++ body.Load r ∷ []) (x.0 ∙ ap (λ l. l ++ body.Load q ∷ []) sub.nothing_due))

pub end_is_last : EndIsLast
end_is_last a b s how is p = p.appended s is

pub waiting_has_a_cause : WaitingHasACause
waiting_has_a_cause queue body queued views p v h at sends room =
    let law = full_has_a_cause queue.capacity (record { stream = v.stream; body = body }) queued views p v h at sends refl room in
    (law.0, law.1, λ f. law.2 (f.queued, f.full, f.sees))

not_longer : (xs : List Msg) (m : Msg) → xs ++ m ∷ [] ≢ xs
not_longer xs m e = let l : length (xs ++ m ∷ []) ≡ length xs = ap length e in let n = length-append xs (m ∷ []) in omega arith

pub empty_has_a_cause : EmptyHasACause
empty_has_a_cause s m rest views p v h at gets got = (
  subst (λ l. QueueRule (NotEmptyYet l) (m ∷ rest) views) got (none_has_a_cause m rest views p v h at gets).0,
  (λ x found _ same. absurd (not_longer s.got x same)),
  (λ f. f.1 refl refl),
)
