use Rattle.interrupt_ctx.proofs.Words.{word_digit}
use Rattle.interrupt_ctx.proofs.why.stop_of.Goals as goal

pub why_of-requires : goal.why_of-requires
why_of-requires c = word_digit c.args.word c.requires
