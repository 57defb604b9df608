use Rattle.std.proofs.Common.{refl}
use Rattle.ledger_laws.specs.Broken.{final_before_close, final_twice, final_despite_a_lease, final_by_a_stranger, cancel_before_the_finals, cancel_of_a_begun_stream, cancel_twice, lease_twice, acquire_in_a_closed_scope, acquire_below_a_closed_scope, acquire_twice, close_twice, close_of_no_scope}
use Rattle.ledger_laws.proofs.Right.{illegal}
use Rattle.ledger_laws.proofs.broken.illegal_ledgers.Goals as goal

pub returns : goal.returns
returns c = record {
  is_final_before_close = illegal final_before_close refl;
  is_final_twice = illegal final_twice refl;
  is_final_despite_a_lease = illegal final_despite_a_lease refl;
  is_final_by_a_stranger = illegal final_by_a_stranger refl;
  is_cancel_before_the_finals = illegal cancel_before_the_finals refl;
  is_cancel_of_a_begun_stream = illegal cancel_of_a_begun_stream refl;
  is_cancel_twice = illegal cancel_twice refl;
  is_lease_twice = illegal lease_twice refl;
  is_acquire_in_a_closed_scope = illegal acquire_in_a_closed_scope refl;
  is_acquire_below_a_closed_scope = illegal acquire_below_a_closed_scope refl;
  is_acquire_twice = illegal acquire_twice refl;
  is_close_twice = illegal close_twice refl;
  is_close_of_no_scope = illegal close_of_no_scope refl;
}
