-- A pump to which something was given, and one that is closed.
use Rattle.std.proofs.Common.{◌≡◌, ℕ, false, List, [], ◌∷◌, ◌++◌, map, length, Option, inl, inr, refl, sym, ap, ◌∙◌, subst, append-nil}
use Rattle.std.proofs.lemmas.Grind.{flat_map-append}
use Rattle.std.proofs.lemmas.List.{map-append}
use Rattle.chunk_core.proofs.Each.{each_snoc}
use Rattle.chunk_core.specs.Elements.{Bytes, Element, LoadKind, elements, elements_of, kind_of}
use Rattle.tee_prints.specs.declared.printer.Printer.{Printer}
use Rattle.chunk_core.specs.Feed.{Meaning}
use Rattle.chunk_core.specs.declared.code.Code.{Code}
use Rattle.chunk_core.specs.declared.code.How.{How}
use Rattle.chunk_core.specs.declared.code.How.TheVariants as how
use Rattle.chunk_core.specs.declared.load.Load.{Load}
use Rattle.channel_bounded.specs.declared.message.Body.{Body}
use Rattle.channel_bounded.specs.declared.message.Body.TheVariants as body
use Rattle.device_port.specs.Sink.{SinkTold}
use Rattle.interrupt_ctx.specs.Ends.{SeatSeen}
use Rattle.interrupt_ctx.specs.Views.{HasSetAll, interruption}
use Rattle.topic_hub.specs.Topics.{KeepsTopic, NothingPending, PublisherSeen, Publishes, due}
use Rattle.tee_prints.specs.Printed.{MustStop}
use Rattle.tee_pump.specs.declared.ended.TeeEnd.{TeeEnd}
use Rattle.tee_pump.specs.declared.pump.Pump.{Pump}
use Rattle.tee_pump.specs.Branches.{SharedSeen}
use Rattle.tee_pump.specs.Finished.{IsCause, IsFinished}
use Rattle.tee_pump.specs.Printing.{GoesOn}
use Rattle.channel_bounded.specs.declared.message.Msg.{Msg}
use Rattle.interrupt_ctx.specs.declared.view.View.{View}
use Rattle.pull_nodes.specs.Plain.{IsFront}
use Rattle.tee_pump.proofs.Fronts.{front_then}
use Rattle.tee_pump.specs.Publishing.{ArePending, Closes, IsPublishing}
use Rattle.tee_pump.specs.Pumps.{IsPumping, IsServing}
use Rattle.tee_pump.specs.Settled.{AreSettledFrom, HasTexts}
use Rattle.tee_pump.specs.Stopping.{IsEarly, StopsWhere}
use Rattle.tee_pump.proofs.Finished.{cause_told, finished}
use Rattle.tee_pump.proofs.Printing.{cause_stays, told_cause}
use Rattle.tee_pump.proofs.Published.{published_pending, publishing_more, publishing_pushed}
use Rattle.tee_pump.proofs.Served.{serving_closed, serving_same}
use Rattle.chunk_core.specs.Lists.{IsAmong}
use Rattle.chunk_core.specs.Totals.{IsAt}
use Rattle.std.specs.Prelude.{Some}

module _ {F : Type 0} (StandsFor : F → Meaning → List Element → Type 0) (Comes : F → LoadKind → List Element → Option Code → Type 0) (s : SharedSeen) (ms : List Meaning) (start : SinkTold) (given : List Element) (now after : SinkTold) (p q : Pump F) (h : IsPumping StandsFor Comes s ms start given now p) where
  given_longer : (load : Load) → given ++ elements load ≡ elements_of (h.loads ++ load ∷ [])
  given_longer load = ap (λ l. l ++ elements load) h.given_is ∙ sym (flat_map-append elements h.loads (load ∷ []) ∙ ap (λ l. elements_of h.loads ++ l) (append-nil (elements load)))

  -- one load more was given
  pub given_more : (load : Load) (mid : PublisherSeen) → kind_of load ≡ Bytes → ¬ (MustStop p.printer.ends.items p.printer.broken) → Publishes (body.Load load) p.publisher mid → KeepsTopic p.publisher mid → mid.ended ≡ false
      → KeepsTopic mid q.publisher → ((i : ℕ) → due q.publisher i ≡ due mid i) → q.publisher.ended ≡ mid.ended → ArePending q.publisher → (¬ (MustStop q.printer.ends.items q.printer.broken) → NothingPending q.publisher) → IsServing StandsFor Comes s ms how.Done start after q → IsPumping StandsFor Comes s ms start (given ++ elements load) after q
  given_more load mid kind go pub_ keeps open_ on dues ended pending none serving = record {
    some = h.some;
    topic = h.topic;
    serving = serving;
    loads = h.loads ++ load ∷ [];
    kinds = each_snoc (λ l. kind_of l ≡ Bytes) h.loads load h.kinds kind;
    given_is = given_longer load;
    sent = h.loads ++ load ∷ [];
    front = ([], sym (append-nil (h.loads ++ load ∷ [])));
    published = subst (λ l. IsPublishing s.topic (length ms) l q.publisher) (sym (map-append body.Load h.loads (load ∷ [])))
        (publishing_pushed s.topic (length ms) (map body.Load h.loads ++ body.Load load ∷ []) mid q.publisher (publishing_more s.topic (length ms) (map body.Load h.loads) p.publisher mid (body.Load load) h.topic (subst (λ l. IsPublishing s.topic (length ms) (map body.Load l) p.publisher) (h.whole go).0 h.published) pub_ keeps) on dues);
    pending = pending;
    goes_on = ended ∙ open_;
    whole = λ n. (refl, none n);
  }

  -- the load was dropped, since the run must stop
  pub given_none : (load : Load) → kind_of load ≡ Bytes → MustStop p.printer.ends.items p.printer.broken → IsPumping StandsFor Comes s ms start (given ++ elements load) now p
  given_none load kind must = record {
    some = h.some;
    topic = h.topic;
    serving = h.serving;
    loads = h.loads ++ load ∷ [];
    kinds = each_snoc (λ l. kind_of l ≡ Bytes) h.loads load h.kinds kind;
    given_is = given_longer load;
    sent = h.sent;
    front = front_then h.sent h.loads (h.loads ++ load ∷ []) h.front (load ∷ [], refl);
    published = h.published;
    pending = h.pending;
    goes_on = h.goes_on;
    whole = λ n. absurd (n must);
  }

  -- nothing was given
  pub given_same : q.publisher ≡ p.publisher → q.printer ≡ p.printer → IsServing StandsFor Comes s ms how.Done start after q → IsPumping StandsFor Comes s ms start given after q
  given_same e same serving = record {
    some = h.some;
    topic = h.topic;
    serving = serving;
    loads = h.loads;
    kinds = h.kinds;
    given_is = h.given_is;
    sent = h.sent;
    front = h.front;
    published = subst (IsPublishing s.topic (length ms) (map body.Load h.sent)) (sym e) h.published;
    pending = subst ArePending (sym e) h.pending;
    goes_on = ap (λ (x : PublisherSeen). x.ended) e ∙ h.goes_on;
    whole = λ n. let w = h.whole (subst (λ (x : Printer). ¬ (MustStop x.ends.items x.broken)) same n) in (w.0, subst NothingPending (sym e) w.1);
  }

  -- the reader has ended
  pub closed : (reader : How) → q.printer ≡ p.printer → StopsWhere (IsEarly reader) p.seat q.seat → q.hired ≡ p.hired → q.ends ≡ p.ends → IsServing StandsFor Comes s ms reader start now q
  closed reader a (inl (early, i)) c d = serving_closed StandsFor Comes s ms reader start now p q early a i c d h.serving
  closed reader a (inr (non, e)) c d = subst (λ r. IsServing StandsFor Comes s ms r start now q) (done_of reader non) (serving_same StandsFor Comes s ms how.Done start now p q a e c d h.serving)
    where
      done_of : (r : How) → (IsEarly r → ⊥) → how.Done ≡ r
      done_of how.Done n = refl
      done_of (how.Fault c) n = absurd (n tt)
      done_of how.Halted n = absurd (n tt)
      done_of how.Memory n = absurd (n tt)

  abbrev all : How → List Body
  all reader = map body.Load h.loads ++ body.End reader ∷ []

  -- what was published behind its end: all loads and the end, or a front of them where the run must stop
  pub ended_publishing : (reader : How) (mid : PublisherSeen) → Closes (MustStop p.printer.ends.items p.printer.broken) reader p.publisher mid → KeepsTopic p.publisher mid → KeepsTopic mid q.publisher → ((i : ℕ) → due q.publisher i ≡ due mid i)
      → (sent : List Body) × IsFront sent (all reader) × IsPublishing s.topic (length ms) sent q.publisher
  ended_publishing reader mid (inl (go, pub_)) keeps on dues = (
    all reader,
    ([], sym (append-nil (all reader))),
    publishing_pushed s.topic (length ms) (all reader) mid q.publisher (publishing_more s.topic (length ms) (map body.Load h.loads) p.publisher mid (body.End reader) h.topic (subst (λ l. IsPublishing s.topic (length ms) (map body.Load l) p.publisher) (h.whole go).0 h.published) pub_ keeps) on dues,
  )
  ended_publishing reader mid (inr e) keeps on dues = (
    map body.Load h.sent,
    front_then (map body.Load h.sent) (map body.Load h.loads) (all reader) (map body.Load h.front.0, ap (map body.Load) h.front.1 ∙ map-append body.Load h.sent h.front.0) (body.End reader ∷ [], refl),
    publishing_pushed s.topic (length ms) (map body.Load h.sent) mid q.publisher (subst (IsPublishing s.topic (length ms) (map body.Load h.sent)) (sym e) h.published) on dues,
  )

  -- what is pending behind its end
  pub ended_pending : (reader : How) (mid : PublisherSeen) → Closes (MustStop p.printer.ends.items p.printer.broken) reader p.publisher mid → ArePending mid
  ended_pending reader mid (inl (go, pub_)) = published_pending (body.End reader) p.publisher mid tt pub_
  ended_pending reader mid (inr e) = subst ArePending (sym e) h.pending

  settled_all : (reader : How) (sent : List Body) (got : List Msg) (view : View) → IsFront sent (all reader) → AreSettledFrom 0 ms sent got view → AreSettledFrom 0 ms (all reader) got view
  settled_all reader sent got view f a i m l at = let t = a i m l at in record { how = t.how; said = t.said; received = t.received; seen = t.seen; front = front_then t.received sent (all reader) t.front f; ended = t.ended; queued = t.queued; whole = t.whole; knows = t.knows }

  -- all of it, once the branches are taken in
  pub finished_all : (reader : How) (sent : List Body) (seat : SeatSeen) (t : TeeEnd) → IsServing StandsFor Comes s ms reader start after q → IsFront sent (all reader) → AreSettledFrom 0 ms sent q.printer.receiver.got seat.view
      → HasTexts q.printer.receiver.made q.printer.receiver.got → seat.view.set ≡ q.seat.view.set → HasSetAll seat.view → t.broken ≡ q.printer.broken → length t.ends.items ≡ length q.printer.ends.items
      → ((i : ℕ) (x : How) → IsAt t.ends.items i x → IsAt q.printer.ends.items i (Some x)) → IsFinished ms given reader start after t
  finished_all reader sent seat t serving front settled texts set known broken count each =
      subst (λ g. IsFinished ms g reader start after t) (sym h.given_is)
      (finished ms h.loads reader start after q.printer.receiver.got seat.view q.printer.ends.items q.printer.broken t serving.printing.prints (settled_all reader sent q.printer.receiver.got seat.view front settled) broken count each
      (subst (λ l. HasTexts l q.printer.receiver.got) serving.printing.made texts) known (λ stop m. serving.seat.caused stop (subst (λ l. IsAmong (interruption 0 stop) l) set m)))

  -- a cause to stop is told in the end
  pub stopped_all : (reader : How) (sent : List Body) (seat : SeatSeen) (t : TeeEnd) → IsServing StandsFor Comes s ms reader start after q → IsFront sent (all reader) → AreSettledFrom 0 ms sent q.printer.receiver.got seat.view
      → t.broken ≡ q.printer.broken → length t.ends.items ≡ length q.printer.ends.items → ((i : ℕ) (x : How) → IsAt t.ends.items i x → IsAt q.printer.ends.items i (Some x)) → GoesOn p.printer q.printer → MustStop p.printer.ends.items p.printer.broken → IsCause t
  stopped_all reader sent seat t serving front settled broken count each on m =
      cause_told ms h.loads reader start after q.printer.receiver.got seat.view q.printer.ends.items q.printer.broken t serving.printing.prints (settled_all reader sent q.printer.receiver.got seat.view front settled) broken count each
      (cause_stays (length ms) p.printer q.printer on (told_cause s.hub (length ms) start now p.printer h.serving.printing m))
