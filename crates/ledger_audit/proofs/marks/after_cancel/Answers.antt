use Rattle.std.proofs.Common.{refl, arith}
use Rattle.ledger_audit.proofs.Reaching.{due_is}
use Rattle.ledger_audit.proofs.marks.after_cancel.Goals as goal

pub returns : goal.returns
returns c = λ torn. (refl, refl, (c.in-Some.field-0-1, c.args.stream, c.in-Some.field-0-2, c.in-Some.ensures, (omega arith), due_is c.args.past.now c.requires.legal c.in-Some.field-0-1 c.in-Some.place c.args.stream c.in-Some.field-0-2 c.in-Some.ensures))
