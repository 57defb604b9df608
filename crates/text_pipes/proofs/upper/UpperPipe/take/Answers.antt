use Rattle.std.proofs.Common.{◌∙◌, sym, ap, map}
use Rattle.std.specs.Char.{to_ascii_uppercase}
use Rattle.chunk_core.specs.Elements.{elements, Byte, Line}
use Rattle.pull_nodes.specs.Upper.{uppercase_of}
use Rattle.text_pipes.proofs.UpperFeeds.{bytes_upper, lines_upper}
use Rattle.text_pipes.proofs.upper.UpperPipe.take.Goals as goal

pub returns-in_ok-upper_bytes-in-Bytes-clause-list : goal.returns-in_ok-upper_bytes-in-Bytes-clause-list
returns-in_ok-upper_bytes-in-Bytes-clause-list c =
    ap (map Byte) c.in_ok-upper_bytes-in-Bytes.ensures ∙ (bytes_upper c.in-Bytes.bytes ∙ ap (λ l. map uppercase_of (elements l)) (sym c.in-Bytes.is))

pub returns-in_ok-upper-in-Lines-clause-list : goal.returns-in_ok-upper-in-Lines-clause-list
returns-in_ok-upper-in-Lines-clause-list c =
    ap (map Line) (c.in_ok-upper-in-Lines.ensures ∙ ap (map (map to_ascii_uppercase)) c.as_slice.ensures)
    ∙ (lines_upper c.in-Lines.lines ∙ ap (λ l. map uppercase_of (elements l)) (sym c.in-Lines.is))
