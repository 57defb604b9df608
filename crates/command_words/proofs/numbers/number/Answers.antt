use Rattle.command_words.proofs.Digits.{number_read}
use Rattle.command_words.proofs.numbers.number.Goals as goal

pub returns-in-Ok : goal.returns-in-Ok
returns-in-Ok c = rw c.in-Ok.is at (number_read c.args.text.now c.parse.result c.parse.ensures.value.0)

pub returns-in-Err : goal.returns-in-Err
returns-in-Err c = rw c.in-Err.is at (number_read c.args.text.now c.parse.result c.parse.ensures.value.0)
