use Rattle.std.proofs.Common.{◌≡◌, ◌++◌, length}
use Rattle.std.specs.Str.Lossy.{utf8_lossy}
use Rattle.text_pipes.proofs.lossy.push_lossy.Given as goal

abbrev pub invariant-parts : goal.invariant-parts
invariant-parts l = l.text.items ++ utf8_lossy l.left ≡ l.fn.text.items ++ utf8_lossy l.fn.bytes

abbrev pub decreases-parts : goal.decreases-parts
decreases-parts l = length l.left
