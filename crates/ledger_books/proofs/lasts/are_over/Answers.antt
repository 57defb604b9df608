use Rattle.std.proofs.Common.{◌<◌, arith, length}
use Rattle.ledger_books.specs.Keyed.{number_of}
use Rattle.ledger_books.specs.Untils.{latest_of}
use Rattle.ledger_books.proofs.Lasting.{rows_over}
use Rattle.ledger_books.proofs.lasts.are_over.Goals as goal

pub returns-then-latest-past : goal.returns-then-latest-past
returns-then-latest-past c = λ h r s n.
    let l : latest_of c.args.lasts.now (number_of c.args.by) < length c.args.past.now = omega arith in
    rows_over c.args.ends.now c.args.past.now c.requires.ends (omega arith) c.args.lasts.now c.requires.lasts c.args.by l r s n
