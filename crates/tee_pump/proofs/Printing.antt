-- What is printed more, and what it shows.
use Rattle.std.proofs.Common.{◌≡◌, ℕ, zero, suc, ◌-◌, ◌^◌, ◌<◌, Bool, true, false, List, [], ◌∷◌, ◌++◌, inl, inr, length, Some, sym, ap, ◌∙◌, subst, ⊎_elim, append-nil, append_assoc, arith}
use Rattle.std.specs.Bool.{OnFalse, OnTrue}
use Rattle.chunk_core.proofs.Members.{among_left, among_nil, among_snoc}
use Rattle.chunk_core.specs.Lists.{IsAmong}
use Rattle.chunk_core.specs.declared.code.How.{How}
use Rattle.chunk_core.specs.declared.code.How.TheVariants as how
use Rattle.channel_bounded.specs.Ends.{HubSeen, ReceiverSeen}
use Rattle.channel_bounded.specs.declared.message.Msg.{Msg}
use Rattle.device_port.specs.Sink.{SinkTold}
use Rattle.pull_nodes.specs.Plain.{IsFront}
use Rattle.tee_prints.specs.Printed.{AreBelow, IsStop, IsToldEnd, MustStop, Prints, Writes, hidden}
use Rattle.tee_prints.specs.declared.printer.Printer.{Printer}
use Rattle.tee_texts.specs.Texts.{end_message}
use Rattle.tee_pump.specs.Printing.{GoesOn, HasCause, IsPrinting, numbers}
use Rattle.tee_pump.proofs.Places.{at_below}

-- the numbers below n are those
pub numbers_below : (n : ℕ) → AreBelow n (numbers n)
numbers_below zero k m = absurd (among_nil m)
numbers_below (suc n) k m = ⊎_elim (λ o. let l = numbers_below n k o in omega (arith, l)) (λ e. omega (arith, e)) (among_snoc (numbers n) k n m)

pub below_ends : (hub : HubSeen) (n : ℕ) (start now : SinkTold) (p : Printer) → IsPrinting hub n start now p → AreBelow (length p.ends.items) p.receiver.made
below_ends hub n start now p h = λ k m. let l = numbers_below n k (subst (λ x. IsAmong k x) h.made m) in let b = h.prints.branches in omega (arith, l, b)

-- the sink has failed at most once
pub room_left : (hub : HubSeen) (n : ℕ) (start now : SinkTold) (p : Printer) → IsPrinting hub n start now p → p.broken ≡ false → now.faults < 2 ^ 64 - 1
room_left hub n start now p h e =
    let w = subst (λ b. Writes start now p.receiver.got h.prints.printed b) e h.prints.writes in
    let same : now.faults ≡ start.faults = ap (λ (s : SinkTold). s.faults) w.1 in
    let r = h.room in
    subst (λ f. f < 2 ^ 64 - 1) (sym same) r

pub goes_same : (a b : Printer) → b ≡ a → GoesOn a b
goes_same a b e = record { got = ([], ap (λ (x : Printer). x.receiver.got) e ∙ sym (append-nil a.receiver.got)); broken = λ h. ap (λ (x : Printer). x.broken) e ∙ h }

pub goes_then : (a b c : Printer) → GoesOn a b → GoesOn b c → GoesOn a c
goes_then a b c g h = record {
  got = (g.got.0 ++ h.got.0, h.got.1 ∙ (ap (λ l. l ++ h.got.0) g.got.1 ∙ append_assoc a.receiver.got g.got.0 h.got.0));
  broken = λ e. h.broken (g.broken e);
}

-- by what the next message was
pub goes_next : (a b : Printer) (came : Bool) (X : Type 0) → OnTrue came ((m : Msg) × (b.receiver.got ≡ a.receiver.got ++ m ∷ [])) → OnFalse came ((b.receiver ≡ a.receiver) × X) → (a.broken ≡ true → b.broken ≡ true) → GoesOn a b
goes_next a b true X t f s = record { got = (t.0 ∷ [], t.1); broken = s }
goes_next a b false X t f s = record { got = ([], ap (λ (r : ReceiverSeen). r.got) f.0 ∙ sym (append-nil a.receiver.got)); broken = s }

pub cause_stays : (n : ℕ) (a b : Printer) → GoesOn a b → HasCause n a → HasCause n b
cause_stays n a b g (inl e) = inl (g.broken e)
cause_stays n a b g (inr c) = inr (c.0, c.1, c.2, c.3, subst (λ l. IsAmong (end_message c.0 c.1) l) (sym g.got.1) (among_left g.got.0 c.4))

-- what was printed is at the front of what was received
pub printed_front : (start now : SinkTold) (got printed : List Msg) (b : Bool) → Writes start now got printed b → IsFront printed got
printed_front start now got printed false w = ([], w.0 ∙ sym (append-nil printed))
printed_front start now got printed true w = (w.message ∷ w.after, w.got_is)

stop_hidden : (h : How) → IsStop (hidden h) → IsStop h
stop_hidden how.Done s = absurd s
stop_hidden (how.Fault c) s = tt
stop_hidden how.Halted s = absurd s
stop_hidden how.Memory s = tt

-- what is told was received
pub told_cause : (hub : HubSeen) (n : ℕ) (start now : SinkTold) (p : Printer) → IsPrinting hub n start now p → MustStop p.ends.items p.broken → HasCause n p
told_cause hub n start now p h (inl e) = inl e
told_cause hub n start now p h (inr t) = inr (of_told (h.prints.told t.0 t.1 t.2))
  where
    below : t.0 < n
    below = let l = at_below p.ends.items t.0 (Some t.1) t.2 in let b = h.prints.branches in omega (arith, l, b)

    of_told : IsToldEnd p.receiver.got h.prints.printed t.0 t.1 → (i : ℕ) × (x : How) × (i < n) × IsStop x × IsAmong (end_message i x) p.receiver.got
    of_told (inl m) = let f = printed_front start now p.receiver.got h.prints.printed p.broken h.prints.writes in (t.0, t.1, below, t.3, subst (λ l. IsAmong (end_message t.0 t.1) l) (sym f.1) (among_left f.0 m))
    of_told (inr o) = (t.0, o.0, below, stop_hidden o.0 (subst IsStop o.2 t.3), o.1)

-- the next message was printed
pub printing_next : (hub : HubSeen) (n : ℕ) (start now after : SinkTold) (a b : Printer) → IsPrinting hub n start now a → Prints n start after b.receiver.got b.ends.items b.broken → (b.receiver.hub ≡ a.receiver.hub) × (b.receiver.made ≡ a.receiver.made) × (b.receiver.closed ≡ a.receiver.closed) → IsPrinting hub n start after b
printing_next hub n start now after a b h p s = record { hub_is = s.0 ∙ h.hub_is; made = s.1 ∙ h.made; closed = s.2 ∙ h.closed; prints = p; room = h.room }
