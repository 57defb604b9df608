use Rattle.std.proofs.Common.{◌∙◌, sym, ap, map, arith}
use Rattle.chunk_core.specs.Elements.{elements, Byte}
use Rattle.text_pipes.proofs.HexLines.{hex_feed, held_short}
use Rattle.text_pipes.proofs.hexadecimal.HexPipeFeed.feed.Goals as goal

pub returns : goal.returns
returns c m xs h takes =
    let bytes = c.into_bytes-bytes.ensures ∙ ap (map Byte) (sym c.as_slice.ensures) in
    hex_feed c.args.self.now c.take.new.self c.as_slice.result.now c.in_ok-give.field-0 (c.in_ok-give.ensures ∙ c.in_ok-lines.ensures.lines)
    c.in_ok-lines.ensures.held m xs (elements c.args.load) bytes h

pub take-requires : goal.take-requires
take-requires c = let short = held_short c.args.self.now _ c.requires in omega (arith, short, c.args.self.now.held.ok)
