use Rattle.std.proofs.Common.{refl}
use Rattle.std.specs.Str.Lossy.{utf8_valid_len, utf8_error_len}
use Rattle.text_pipes.proofs.utf8.Utf8Pipe.new.Goals as goal

pub returns : goal.returns
unfolding utf8_valid_len utf8_error_len
returns c m h = (h, record { held = c.new.ensures.items; fine = refl })
