-- A seat whose events are all of its own stream stays so.
use Rattle.std.proofs.Common.{ℕ, ap, ⊎_elim}
use Rattle.chunk_core.proofs.Members.{among_snoc}
use Rattle.res_ledger.specs.declared.event.Event.{Event}
use Rattle.res_ledger.specs.declared.event.What.{What}
use Rattle.row_seat.specs.declared.view.View.{View}
use Rattle.row_seat.specs.Views.{noted}
use Rattle.tree_scripts.specs.Waiting.{NotesAlone}

pub alone_more : {P : Type 0} (v : View P) (n : ℕ) (w : What) → NotesAlone v → NotesAlone (noted v (record { stamp = n; by = v.by; what = w }))
alone_more v n w a = λ e m. ⊎_elim (λ i. a e i) (λ i. ap (λ (y : Event). y.by) i) (among_snoc v.events e (record { stamp = n; by = v.by; what = w }) m)
