-- That a stream left, as a test and as a fact.
use Rattle.std.proofs.Common.{◌≡◌, ℕ, true, List, ap, ◌∙◌}
use Rattle.chunk_core.proofs.Bools.{any_at, any_found, itself}
use Rattle.res_ledger.specs.Whole.{is_cancel}
use Rattle.res_ledger.specs.declared.event.Event.{Event}
use Rattle.res_ledger.specs.declared.event.StreamNo.TheVariants.{Inner}
use Rattle.res_ledger.proofs.Ledgers.{by_in, by_out}
use Rattle.res_ledger.proofs.Noted.{is_cancel_shape}
use Rattle.res_ledger.specs.Streams.{by_stream}
use Rattle.run_rules.specs.Facts.{HasLeft, has_left}

pub left_fact : (j : ℕ) (L : List Event) → has_left j L ≡ true → HasLeft j L
left_fact j L h =
    let f = any_found (λ (e : Event). is_cancel j e.what) (by_stream (Inner j) L) h in
    let i = by_in (Inner j) L f.0 f.1 in
    let s = is_cancel_shape j f.0.what f.2 in
    (s.0, (f.0, i.0, i.1, s.1))

pub left_test : (j : ℕ) (L : List Event) → HasLeft j L → has_left j L ≡ true
left_test j L h = any_at (λ (e : Event). is_cancel j e.what) h.1.0 (by_stream (Inner j) L) (by_out (Inner j) L h.1.0 h.1.1 h.1.2) (ap (is_cancel j) h.1.3 ∙ itself j)
