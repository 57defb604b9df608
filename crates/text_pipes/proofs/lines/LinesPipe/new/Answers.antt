use Rattle.std.proofs.Common.{refl}
use Rattle.pull_nodes.specs.Lines.{without_pairs, open_line, ended_lines, last_byte}
use Rattle.text_pipes.proofs.lines.LinesPipe.new.Goals as goal

pub returns : goal.returns
unfolding without_pairs open_line ended_lines last_byte
returns c m h = (h, record { held = c.new.ensures.items; after = refl; short = refl })
