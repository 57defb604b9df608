use Rattle.std.proofs.Common.{arith}
use Rattle.digest_parts.proofs.Sound.{sound}
use Rattle.digest_parts.proofs.plan.count_lines.Goals as goal

pub of-requires : goal.of-requires
of-requires c = rw (c.new.ensures, c.in_ok-streams.ensures) (sound c.args.paths.now (omega (arith, c.if-paths-gt-MOST_STREAMS.false)) (c.are_paths.ensures c.if-not-are_paths.false))
