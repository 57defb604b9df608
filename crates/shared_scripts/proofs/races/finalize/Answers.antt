use Rattle.std.proofs.Common.{◌≤◌, sym, ap, ◌∙◌, subst}
use Rattle.chunk_core.specs.declared.code.Exit.TheVariants.{Succeeded}
use Rattle.chunk_core.proofs.Members.{among_last}
use Rattle.res_ledger.specs.declared.event.What.TheVariants.{Final}
use Rattle.row_seat.specs.Views.{MayNote, noted}
use Rattle.shared_scripts.proofs.races.finalize.Goals as goal

pub note-requires-clause-room : goal.note-requires-clause-room
note-requires-clause-room g c = subst (λ v. 1 ≤ v.spare) (sym c.take-pay.ensures.view) c.requires.room

pub note-requires-clause-event : goal.note-requires-clause-event
note-requires-clause-event g c = subst (λ v. MayNote v (Final c.args.row Succeeded c.finish-ok.result)) (sym c.take-pay.ensures.view) (among_last _ c.args.row, c.requires.row.0)

pub returns-clause-pay : goal.returns-clause-pay
returns-clause-pay g c = (
  c.take-pay.result,
  c.finish-ok.new.self,
  c.finish-ok.result,
  c.take-pay.ensures.pay,
  c.finish-ok.ensures,
  (c.note.result, c.note.ensures.view ∙ ap (λ v. noted v (record { stamp = c.note.result; by = v.by; what = Final c.args.row Succeeded c.finish-ok.result })) c.take-pay.ensures.view),
)

pub returns-clause-others : goal.returns-clause-others
returns-clause-others g c = λ o ne f. c.note.ensures.others o (λ q. ne (q ∙ ap (λ v. v.by) c.take-pay.ensures.view)) (c.take-pay.ensures.others o ne f)
