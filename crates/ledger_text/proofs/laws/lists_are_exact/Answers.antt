use Rattle.res_ledger.specs.Own.{own, leased_rows}
use Rattle.res_ledger.specs.Order.{covered, covered_by}
use Rattle.chunk_core.proofs.Bools.{has_in, in_has}
use Rattle.res_ledger.proofs.Scopes.{closed_sound, closed_found}
use Rattle.res_ledger.proofs.Leases.{leased_sound, leased_found, covered_by_sound, covered_by_found, covered_sound, covered_found}
use Rattle.ledger_text.proofs.laws.lists_are_exact.Goals as goal

pub returns : goal.returns
returns c = record {
  closed = λ L l k s. (closed_sound L k s, closed_found L l k s);
  leased_rows = λ L l k s r. (λ h. leased_sound L l k s r (has_in r (leased_rows (own k L) s) h), λ v. in_has r (leased_rows (own k L) s) (leased_found L l k s r v));
  covered_by = λ L l j r. (λ h. covered_by_sound L l j r (has_in r (covered_by L j) h), λ v. in_has r (covered_by L j) (covered_by_found L l j r v.0 v.1));
  covered = λ L l r. (λ h. covered_sound L l r (has_in r (covered L) h), λ v. in_has r (covered L) (covered_found L l v.0 r v.1 v.2));
}
