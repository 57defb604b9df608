use Rattle.std.proofs.Common.{refl}
use Rattle.res_ledger.proofs.Stamps.{stamped_sound}
use Rattle.worked_values.proofs.ledger_texts.of_events.Goals as goal

pub of_events-requires : goal.of_events-requires
of_events-requires c = stamped_sound _ _ c.in_ok-vec.ensures.items refl
