-- Calls of audit: which the contract takes, and that it refuses each that has one thing wrong.
use Rattle.std.proofs.Common.{◌≡◌, ◌≢◌, ℕ, false, List, [], ◌∷◌, length, take, nat_lt, Some, IfSome, inl, inr, refl, ◌∙◌, ap, subst, arith}
use Rattle.std.specs.Prelude.{codes}
use Rattle.std.specs.Fmt.{digits}
use Rattle.std.proofs.lemmas.Bool.{false≢true}
use Rattle.clap.proofs.OnLiterals.{clap_on_literals}
use Rattle.command_words.specs.Words.{command_of}
use Rattle.command_words.specs.declared.asked.Asked.TheVariants.{Audit}
use Rattle.device_port.specs.Depot.{DepotTold}
use Rattle.device_port.specs.Sink.{SinkTold}
use Rattle.device_port.specs.Source.{SourceTold}
use Rattle.res_ledger.specs.declared.event.StreamNo.TheVariants.{Inner}
use Rattle.res_ledger.specs.declared.event.What.TheVariants.{Acquire}
use Rattle.res_ledger.specs.Ledger.{IsStamped}
use Rattle.res_ledger.specs.Limits.{IsLedger}
use Rattle.res_ledger.specs.Texts.{ledger_text}
use Rattle.res_ledger.proofs.Growth.{stamped_snoc}
use Rattle.ledger_verdict.specs.Verdict.{IsVerdict}
use Rattle.ledger_verdict.specs.Worked.{one_row, unended}
use Rattle.ledger_verdict.specs.declared.verdict.Rule.{Rule}
use Rattle.ledger_verdict.specs.declared.verdict.Rule.TheVariants.{Complete}
use Rattle.ledger_verdict.specs.declared.verdict.Verdict.{Verdict}
use Rattle.ledger_verdict.specs.declared.verdict.Verdict.TheVariants.{Broken, Clean}
use Rattle.ledger_verdict.proofs.Single.{verdict_is_one}
use Rattle.ledger_verdict.proofs.Verdicts.{clean, unfinished}
use Rattle.audit_run.specs.declared.reading.AuditEnd.{AuditEnd}
use Rattle.audit_run.specs.declared.reading.AuditEnd.TheVariants as end
use Rattle.audit_run.specs.declared.reading.LedgerRefusal.{LedgerRefusal}
use Rattle.audit_run.specs.declared.reading.LedgerRefusal.TheVariants.{Line}
use Rattle.audit_run.specs.Audit.{IsAudit}
use Rattle.audit_run.specs.Lines.{verdict_line}
use Rattle.audit_run.specs.Texts.{IsNoText, IsTextOf, ReadsText, most_read}
use Rattle.audit_run.proofs.Apart.{no_cause}
use Rattle.flume_cli.specs.declared.status.Status.TheVariants as status
use Rattle.flume_cli.specs.Status.{status_number, status_of_audit}
use Rattle.flume_cli.specs.Headline.{AuditsLedger, Call, Headline}
use Rattle.headline_laws.specs.Calls.{no_input}
use Rattle.headline_laws.specs.Audited.{audit_of_nothing, audit_of_the_depot, clean_called_unended, clean_ledger, ledger_not_reported, one_row_text, other_rule_named, refused_though_spelled, unended_called_clean, unended_ledger, unended_text, unended_with_status_0, unread_ledger, unread_though_read, unwritten_verdict}
use Rattle.headline_laws.proofs.Asked.{asks_as, done_if, not_early}
use Rattle.headline_laws.proofs.Refusing.{bytes_of}

audit_asks : command_of (codes "audit" ∷ []) ≡ Some Audit
unfolding clap_on_literals
audit_asks = refl

-- a call of audit is one, where the status isn't that of want of memory
audited : (c : Call) → c.words ≡ (codes "audit" ∷ []) → status_number c.status ≢ 5 → Headline c → AuditsLedger c
audited c words n (inl r) = absurd (done_if c r.causes (Some Audit) (asks_as _ _ _ words audit_asks) (not_early c.status r.causes.early _ n r.status.status) r.does)
audited c words n (inr a) = a

-- The ledgers and their texts.

no_event : IsStamped []
no_event [] Q e h = cc
no_event (p ∷ P) Q e h = cc

one_event : IsStamped (record { stamp = 0; by = Inner 0; what = Acquire 0 0 } ∷ [])
one_event = stamped_snoc [] _ no_event refl

two_events : IsStamped unended
two_events = stamped_snoc (record { stamp = 0; by = Inner 0; what = Acquire 0 0 } ∷ []) _ one_event refl

three_events : IsStamped one_row
three_events = stamped_snoc unended _ two_events refl

one_row_is_ledger : IsLedger one_row
one_row_is_ledger = (three_events, ((omega arith, (omega arith, omega arith)), ((omega arith, omega arith), ((omega arith, omega arith), tt))), omega arith)

unended_is_ledger : IsLedger unended
unended_is_ledger = (two_events, ((omega arith, (omega arith, omega arith)), ((omega arith, omega arith), tt)), omega arith)

one_row_is_text : ledger_text one_row ≡ one_row_text
unfolding digits
one_row_is_text = refl

unended_is_text : ledger_text unended ≡ unended_text
unfolding digits
unended_is_text = refl

of_one_row : IsTextOf one_row_text one_row
of_one_row = (omega arith, one_row_is_ledger, one_row_is_text)

of_unended : IsTextOf unended_text unended
of_unended = (omega arith, unended_is_ledger, unended_is_text)

one_row_is_clean : IsVerdict one_row Clean
one_row_is_clean = clean one_row refl refl refl

unended_is_unfinished : IsVerdict unended (Broken 2 Complete)
unended_is_unfinished = unfinished unended refl refl refl

-- Calls that went as they should.

pub clean_ledger_holds : AuditsLedger clean_ledger
clean_ledger_holds = record {
  asked = audit_asks;
  kept = refl;
  ends = refl;
  end = end.Told Clean;
  audit = ((one_row_text, record { few = omega arith; told = refl; given = refl }, of_one_row), one_row_is_clean, refl);
  status = refl;
  line = inl refl;
}

pub unended_ledger_holds : AuditsLedger unended_ledger
unended_ledger_holds = record {
  asked = audit_asks;
  kept = refl;
  ends = refl;
  end = end.Told (Broken 2 Complete);
  audit = ((unended_text, record { few = omega arith; told = refl; given = refl }, of_unended), unended_is_unfinished, refl);
  status = refl;
  line = inl refl;
}

pub unwritten_verdict_holds : AuditsLedger unwritten_verdict
unwritten_verdict_holds = record {
  asked = audit_asks;
  kept = refl;
  ends = refl;
  end = end.NotWritten;
  audit = ((one_row_text, record { few = omega arith; told = refl; given = refl }, of_one_row), (Clean, one_row_is_clean, record { count = 3; front = omega arith; told = refl }));
  status = refl;
  line = inl refl;
}

pub unread_ledger_holds : AuditsLedger unread_ledger
unread_ledger_holds = record {
  asked = audit_asks;
  kept = refl;
  ends = refl;
  end = end.Unread;
  audit = (record { count = 10; few = omega arith; told = refl; ended = λ h. refl }, refl, refl);
  status = refl;
  line = inl refl;
}

-- What a status tells of an audit.

good_is : (e : AuditEnd) → status.Good ≡ status_of_audit e → e ≡ end.Told Clean
good_is (end.Told Clean) h = refl
good_is (end.Told (Broken i r)) h = let n = ap status_number h in absurd (omega (arith, n))
good_is end.NotWritten h = let n = ap status_number h in absurd (omega (arith, n))
good_is end.Memory h = let n = ap status_number h in absurd (omega (arith, n))
good_is (end.Refused r) h = let n = ap status_number h in absurd (omega (arith, n))
good_is end.Unread h = let n = ap status_number h in absurd (omega (arith, n))

broken_is : (e : AuditEnd) → status.Broken ≡ status_of_audit e → (i : ℕ) × (r : Rule) × (e ≡ end.Told (Broken i r))
broken_is (end.Told Clean) h = let n = ap status_number h in absurd (omega (arith, n))
broken_is (end.Told (Broken i r)) h = (i, r, refl)
broken_is end.NotWritten h = let n = ap status_number h in absurd (omega (arith, n))
broken_is end.Memory h = let n = ap status_number h in absurd (omega (arith, n))
broken_is (end.Refused r) h = let n = ap status_number h in absurd (omega (arith, n))
broken_is end.Unread h = let n = ap status_number h in absurd (omega (arith, n))

-- what is told of a call, where it is known how the audit ended
by_end : (c : Call) (a : AuditsLedger c) (e : AuditEnd) → a.end ≡ e → IsAudit c.source_old c.source_new c.out_old c.out_new c.events e
by_end c a e is = subst (λ x. IsAudit c.source_old c.source_new c.out_old c.out_new c.events x) is a.audit

-- what was read is what the source had
text_of : (s t : SourceTold) (left : List ℕ) (Says : List ℕ → Type 0) → s.left ≡ Some left → ReadsText s t Says → Says (take most_read left)
text_of s t left Says is r = subst (λ bytes. Says bytes) (subst (λ w. IfSome w (λ xs. r.0 ≡ take most_read xs)) is r.1.given) r.2

-- a verdict as a number
abbrev verdict_number : Verdict → ℕ
verdict_number Clean = 0
verdict_number (Broken i r) = 1

-- Calls that are refused.

unended_is_unclean : ¬ (IsVerdict unended Clean)
unended_is_unclean v = let n = ap verdict_number (verdict_is_one unended Clean (Broken 2 Complete) v unended_is_unfinished) in omega (arith, n)

pub unended_called_clean_refused : ¬ (Headline unended_called_clean)
unended_called_clean_refused h = let a = audited unended_called_clean refl (omega arith) h in unended_is_unclean (by_end unended_called_clean a _ (good_is a.end a.status)).1

pub unended_with_status_0_refused : ¬ (Headline unended_with_status_0)
unended_with_status_0_refused h = let a = audited unended_with_status_0 refl (omega arith) h in unended_is_unclean (by_end unended_with_status_0 a _ (good_is a.end a.status)).1

pub clean_called_unended_refused : ¬ (Headline clean_called_unended)
clean_called_unended_refused h =
    let a = audited clean_called_unended refl (omega arith) h in
    let b = broken_is a.end a.status in
    let n = ap verdict_number (verdict_is_one one_row (Broken b.0 b.1) Clean (by_end clean_called_unended a _ b.2).1 one_row_is_clean) in
    omega (arith, n)

pub other_rule_named_refused : ¬ (Headline other_rule_named)
other_rule_named_refused h =
    let a = audited other_rule_named refl (omega arith) h in
    let b = broken_is a.end a.status in
    let told = by_end other_rule_named a _ b.2 in
    let is = verdict_is_one unended (Broken b.0 b.1) (Broken 2 Complete) told.1 unended_is_unfinished in
    let n = ap (λ (s : SinkTold). length (bytes_of s.written)) told.2 ∙ ap (λ v. length (verdict_line v)) is in
    omega (arith, n)

text_of_nothing : length (ledger_text []) ≡ 9
unfolding digits
text_of_nothing = refl

pub ledger_not_reported_refused : ¬ (Headline ledger_not_reported)
ledger_not_reported_refused h =
    let a = audited ledger_not_reported refl (omega arith) h in
    let text : IsTextOf one_row_text [] = text_of _ no_input one_row_text (λ bytes. IsTextOf bytes []) refl (by_end ledger_not_reported a _ (good_is a.end a.status)).0 in
    let n = ap length text.2 in
    let m = text_of_nothing in
    omega (arith, n, m)

-- a refusal is told of a text that is refused so
refused_is : (e : AuditEnd) (r : LedgerRefusal) → status.LedgerRefused r ≡ status_of_audit e → (q : LedgerRefusal) × (e ≡ end.Refused q)
refused_is (end.Told Clean) r h = let n = ap status_number h in absurd (omega (arith, n))
refused_is (end.Told (Broken i rule)) r h = let n = ap status_number h in absurd (omega (arith, n))
refused_is end.NotWritten r h = let n = ap status_number h in absurd (omega (arith, n))
refused_is end.Memory r h = let n = ap status_number h in absurd (omega (arith, n))
refused_is (end.Refused q) r h = (q, refl)
refused_is end.Unread r h = let n = ap status_number h in absurd (omega (arith, n))

pub refused_though_spelled_refused : ¬ (Headline refused_though_spelled)
refused_though_spelled_refused h =
    let a = audited refused_though_spelled refl (omega arith) h in
    let q = refused_is a.end (Line 1) a.status in
    no_cause one_row_text one_row q.0 of_one_row (text_of _ no_input one_row_text (λ bytes. IsNoText bytes q.0) refl (by_end refused_though_spelled a _ q.1).0)

pub audit_of_the_depot_refused : ¬ (Headline audit_of_the_depot)
audit_of_the_depot_refused h = let e = ap (λ (t : DepotTold). length t.made) (audited audit_of_the_depot refl (omega arith) h).kept in omega (arith, e)

pub audit_of_nothing_refused : ¬ (Headline audit_of_nothing)
audit_of_nothing_refused h =
    let a = audited audit_of_nothing refl (omega arith) h in
    let r = (by_end audit_of_nothing a _ (good_is a.end a.status)).0 in
    let bytes : r.0 ≡ one_row_text = r.1.given in
    false≢true (subst (λ xs. false ≡ nat_lt (length xs) most_read) bytes (ap (λ (s : SourceTold). s.ended) r.1.told))

unread_is : (e : AuditEnd) → status.LedgerUnread ≡ status_of_audit e → e ≡ end.Unread
unread_is (end.Told Clean) h = let n = ap status_number h in absurd (omega (arith, n))
unread_is (end.Told (Broken i r)) h = let n = ap status_number h in absurd (omega (arith, n))
unread_is end.NotWritten h = let n = ap status_number h in absurd (omega (arith, n))
unread_is end.Memory h = let n = ap status_number h in absurd (omega (arith, n))
unread_is (end.Refused r) h = let n = ap status_number h in absurd (omega (arith, n))
unread_is end.Unread h = refl

pub unread_though_read_refused : ¬ (Headline unread_though_read)
unread_though_read_refused h =
    let a = audited unread_though_read refl (omega arith) h in
    let n = ap (λ (s : SourceTold). s.faults) (by_end unread_though_read a _ (unread_is a.end a.status)).0.told in
    omega (arith, n)
