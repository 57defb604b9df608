use Rattle.std.proofs.Common.{sym, ◌∙◌}
use Rattle.command_words.proofs.Files.{may_rotate}
use Rattle.command_words.proofs.rotate.rotation.Goals as goal

pub returns-clause-limits : goal.returns-clause-limits
returns-clause-limits c =
    may_rotate c.args.bytes c.args.path.now c.args.prefix.now c.in_ok-path.path c.in_ok-prefix.prefix c.requires (sym c.is_file_path.ensures ∙ c.if-not-is_file_path.false) (sym c.is_prefix.ensures ∙ c.if-not-is_prefix.false)
    (sym c.is_file_of.ensures ∙ c.if-is_file_of.false) c.in_ok-path.ensures c.in_ok-prefix.ensures
