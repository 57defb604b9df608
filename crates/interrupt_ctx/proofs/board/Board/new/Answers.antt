use Rattle.std.proofs.Common.{rules}
use Rattle.interrupt_ctx.proofs.Keeping.{begins}
use Rattle.interrupt_ctx.proofs.board.Board.new.Goals as goal

pub of_words-requires : goal.of_words-requires
of_words-requires c = begins _ _ (search rules)
