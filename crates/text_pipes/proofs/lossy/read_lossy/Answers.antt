use Rattle.std.proofs.Common.{sym, subst}
use Rattle.std.proofs.lemmas.Str.{utf8_lossy-IsUtf8}
use Rattle.std.specs.Prelude.{IsUtf8}
use Rattle.text_pipes.proofs.lossy.read_lossy.Goals as goal

pub returns-then-is_utf8 : goal.returns-then-is_utf8
returns-then-is_utf8 c = sym (utf8_lossy-IsUtf8 c.args.bytes (subst IsUtf8 c.as_slice.ensures (c.is_utf8.ensures.0 c.if-is_utf8.true)))
