use Rattle.std.proofs.Common.{sym, ap, ◌∙◌}
use Rattle.chunk_core.specs.Elements.{elements, rendering_of}
use Rattle.chunk_core.specs.declared.load.Load.TheVariants as the_load
use Rattle.chunk_core.proofs.Rendering.{bytes_rendering}
use Rattle.tee_branches.proofs.news.rendered.Goals as goal

-- of bytes is printed what they are
pub returns-in-Bytes : goal.returns-in-Bytes
returns-in-Bytes c = ap the_load.Bytes (bytes_rendering c.in-Bytes.bytes ∙ ap (λ l. rendering_of (elements l)) (sym c.in-Bytes.is))
