-- How an audit ends, from what was read and printed.
use Rattle.std.proofs.Common.{◌≡◌, ℕ, ◌<◌, List, take, Some, IfSome, inl, inr, refl, sym, ◌∙◌, ap, subst, arith}
use Rattle.device_port.specs.Source.{SourceTold}
use Rattle.device_port.specs.Sink.{SinkTold}
use Rattle.ledger_text.proofs.Readings.{text_is_one}
use Rattle.ledger_verdict.specs.Verdict.{IsVerdict}
use Rattle.ledger_verdict.proofs.Single.{verdict_is_one}
use Rattle.audit_run.specs.declared.reading.AuditEnd.{AuditEnd}
use Rattle.audit_run.specs.declared.reading.AuditEnd.TheVariants as end
use Rattle.audit_run.specs.declared.reading.LedgerRefusal.{LedgerRefusal}
use Rattle.audit_run.specs.Laws.{RefusalIsOfTheText, UnreadIsCounted, UnwrittenIsCounted, VerdictIsOfTheText}
use Rattle.audit_run.specs.Texts.{IsNoText, IsTextOf, ReadsText, most_read}
use Rattle.audit_run.proofs.Apart.{no_cause, one_cause}

-- the source didn't fail where its text was read
calm : (s t : SourceTold) (Says : List ℕ → Type 0) → ReadsText s t Says → t.faults ≡ s.faults
calm s t Says r = ap (λ (x : SourceTold). x.faults) r.1.told

-- a count that stayed didn't rise
stayed : (a b : ℕ) → b ≡ a → a < b → ⊥
stayed a b e l = omega (arith, e, l)

pub unread_is_counted : UnreadIsCounted
unread_is_counted s t o p L (end.Told v) a = (λ e. cc, λ l. absurd (stayed _ _ (calm s t _ a.0) l))
unread_is_counted s t o p L end.NotWritten a = (λ e. cc, λ l. absurd (stayed _ _ (calm s t _ a.0) l))
unread_is_counted s t o p L end.Memory (inl x, q) = (λ e. cc, λ l. absurd (stayed _ _ (ap (λ (z : SourceTold). z.faults) x.0.told) l))
unread_is_counted s t o p L end.Memory (inr x, q) = (λ e. cc, λ l. absurd (stayed _ _ (calm s t _ x) l))
unread_is_counted s t o p L (end.Refused r) a = (λ e. cc, λ l. absurd (stayed _ _ (calm s t _ a.0) l))
unread_is_counted s t o p L end.Unread a = let rose = ap (λ (z : SourceTold). z.faults) a.0.told in (λ e. omega (arith, rose), λ l. refl)

pub unwritten_is_counted : UnwrittenIsCounted
unwritten_is_counted s t o p L (end.Told v) a = (λ e. cc, λ l. absurd (stayed _ _ (ap (λ (z : SinkTold). z.faults) a.2) l))
unwritten_is_counted s t o p L end.NotWritten a = let rose = ap (λ (z : SinkTold). z.faults) a.1.2.told in (λ e. omega (arith, rose), λ l. refl)
unwritten_is_counted s t o p L end.Memory a = (λ e. cc, λ l. absurd (stayed _ _ (ap (λ (z : SinkTold). z.faults) a.1) l))
unwritten_is_counted s t o p L (end.Refused r) a = (λ e. cc, λ l. absurd (stayed _ _ (ap (λ (z : SinkTold). z.faults) a.2) l))
unwritten_is_counted s t o p L end.Unread a = (λ e. cc, λ l. absurd (stayed _ _ (ap (λ (z : SinkTold). z.faults) a.2) l))

-- what was read is what the source tells
text_read : (s t : SourceTold) (left : List ℕ) (Says : List ℕ → Type 0) → s.left ≡ Some left → ReadsText s t Says → Says (take most_read left)
text_read s t left Says is r = subst (λ bytes. Says bytes) (subst (λ w. IfSome w (λ xs. r.0 ≡ take most_read xs)) is r.1.given) r.2

refused_is : (r q : LedgerRefusal) → r ≡ q → end.Refused r ≡ end.Refused q
refused_is r q e = ap (λ x. end.Refused x) e

-- why it was refused, where it was
abbrev why : AuditEnd → LedgerRefusal → LedgerRefusal
why (end.Refused r) q = r
why e q = q

pub refusal_is_of_the_text : RefusalIsOfTheText
refusal_is_of_the_text s t o p L (end.Told v) left is a n m r = (λ e. cc, λ bad. absurd (no_cause _ L r (text_read s t left _ is a.0) bad))
refusal_is_of_the_text s t o p L end.NotWritten left is a n m r = (λ e. cc, λ bad. absurd (no_cause _ L r (text_read s t left _ is a.0) bad))
refusal_is_of_the_text s t o p L end.Memory left is a n m r = absurd (m refl)
refusal_is_of_the_text s t o p L (end.Refused q) left is a n m r =
    let here : IsNoText (take most_read left) q = text_read s t left _ is a.0 in
    (λ e. subst (λ x. IsNoText (take most_read left) x) (ap (λ x. why x r) e) here, λ bad. refused_is q r (one_cause _ q r here bad))
refusal_is_of_the_text s t o p L end.Unread left is a n m r = absurd (n refl)

pub verdict_is_of_the_text : VerdictIsOfTheText
verdict_is_of_the_text s t o p L (end.Told w) left is a n m u M text v holds =
    let here : IsTextOf (take most_read left) L = text_read s t left _ is a.0 in
    let same : L ≡ M = text_is_one L M here.1 text.1 (here.2 ∙ sym text.2) in
    (ap (λ x. end.Told x) (verdict_is_one M w v (subst (λ N. IsVerdict N w) same a.1) holds), same)
verdict_is_of_the_text s t o p L end.NotWritten left is a n m u M text v holds = absurd (u refl)
verdict_is_of_the_text s t o p L end.Memory left is a n m u M text v holds = absurd (m refl)
verdict_is_of_the_text s t o p L (end.Refused q) left is a n m u M text v holds = absurd (no_cause _ M q text (text_read s t left _ is a.0))
verdict_is_of_the_text s t o p L end.Unread left is a n m u M text v holds = absurd (n refl)
