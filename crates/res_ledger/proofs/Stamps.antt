-- A ledger that is written out has its stamps.
use Rattle.std.proofs.Common.{◌≡◌, nat_eq, true, List, [], length, sym, ◌∙◌}
use Rattle.res_ledger.specs.declared.event.Event.{Event}
use Rattle.res_ledger.specs.Ledger.{IsStamped}
use Rattle.res_ledger.specs.Judge.{each_after}
use Rattle.chunk_core.proofs.Bools.{number}
use Rattle.res_ledger.proofs.Judged.{each_event}

-- the test of the stamps is sound
pub stamped_sound : (L M : List Event) → L ≡ M → each_after (λ P e. nat_eq e.stamp (length P)) [] M ≡ true → IsStamped L
stamped_sound L M q h P Q e s = number e.stamp (length P) (each_event (λ P e. nat_eq e.stamp (length P)) M P Q e h (sym q ∙ s))
