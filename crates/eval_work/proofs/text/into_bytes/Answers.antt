-- Bytes are their own text.
use Rattle.chunk_core.proofs.Rendering.{bytes_rendering}
use Rattle.eval_work.proofs.text.into_bytes.Goals as goal

pub returns-in-Bytes : goal.returns-in-Bytes
returns-in-Bytes c = rw c.in-Bytes.is (bytes_rendering c.in-Bytes.bytes)
