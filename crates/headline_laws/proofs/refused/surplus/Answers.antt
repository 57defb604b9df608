use Rattle.std.proofs.Common.{refl, None}
use Rattle.headline_laws.specs.Surplus.{halted_by_the_tail, halted_for_memory, idle_devices, invented_scopes, larger_frame, made_without_words, memory_at_the_end, opened_again, writes_on}
use Rattle.headline_laws.proofs.Asked.{refuses, refuses_cat, refuses_chunk}
use Rattle.headline_laws.proofs.Stopping.{halted_by_the_tail_refused, halted_for_memory_refused, idle_devices_refused, invented_scopes_refused, larger_frame_refused, made_without_words_refused, memory_at_the_end_refused, opened_again_refused, writes_on_refused}
use Rattle.headline_laws.proofs.refused.surplus.Goals as goal

pub returns : goal.returns
returns c = record {
  is_idle_devices = refuses_cat idle_devices refl idle_devices_refused;
  is_opened_again = refuses_cat opened_again refl opened_again_refused;
  is_invented_scopes = refuses_cat invented_scopes refl invented_scopes_refused;
  is_writes_on = refuses_cat writes_on refl writes_on_refused;
  is_halted_by_the_tail = refuses_cat halted_by_the_tail refl halted_by_the_tail_refused;
  is_memory_at_the_end = refuses_cat memory_at_the_end refl memory_at_the_end_refused;
  is_halted_for_memory = refuses_cat halted_for_memory refl halted_for_memory_refused;
  is_larger_frame = refuses_chunk larger_frame refl larger_frame_refused;
  is_made_without_words = refuses made_without_words None refl refl made_without_words_refused;
}
