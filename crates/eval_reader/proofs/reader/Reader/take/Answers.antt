-- The lines that were gathered are a group.
use Rattle.std.proofs.Common.{◌∙◌, ap, map, refl}
use Rattle.chunk_core.specs.Elements.{Byte}
use Rattle.chunk_core.specs.Elements.Element.{Line}
use Rattle.eval_reader.proofs.Grouping.{itself_still, stopped, taken}
use Rattle.eval_reader.proofs.reader.Reader.take.Goals as goal

pub returns-in-Ok-clause-gives : goal.returns-in-Ok-clause-gives
returns-in-Ok-clause-gives g c a groups k =
    let e = c.in-Ok.ensures in
    (map Line k.gathered, e.load ∙ ap (λ t. map Byte t) k.written, taken _ _ c.args.size a _ groups k _ refl c.requires.size c.requires.some c.requires.whole c.requires.none e.text e.count e.lines)

pub returns-in-Err-clause-stopped : goal.returns-in-Err-clause-stopped
returns-in-Err-clause-stopped g c a groups k = stopped _ _ c.args.size a _ groups k _ _ (c.stop.ensures.reading a k.given k.reading) c.stop.ensures.how (itself_still _)
