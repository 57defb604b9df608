use Rattle.std.proofs.Common.{inl}
use Rattle.headline_laws.proofs.Holding.{words_not_read_holds}
use Rattle.headline_laws.proofs.worked.words.Goals as goal

pub returns : goal.returns
returns c = inl words_not_read_holds
