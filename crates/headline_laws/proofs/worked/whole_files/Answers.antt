use Rattle.std.proofs.Common.{inl}
use Rattle.headline_laws.proofs.Holding.{whole_file_holds, empty_file_holds}
use Rattle.headline_laws.proofs.worked.whole_files.Goals as goal

pub returns : goal.returns
returns c = record { is_whole_file = inl whole_file_holds; is_empty_file = inl empty_file_holds }
