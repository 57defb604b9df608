use Rattle.std.proofs.Common.{◌∙◌, ap, map, sym}
use Rattle.chunk_core.specs.Elements.{Row, elements}
use Rattle.csv_pipes.proofs.Extended.{field_feeds}
use Rattle.csv_pipes.proofs.field_pipe.FieldPipeFeed.feed.Goals as goal

pub returns-then-not-all : goal.returns-then-not-all
returns-then-not-all c m xs h takes =
    let are = ap elements c.in-Rows.is ∙ ap (map Row) (sym c.as_slice.ensures) in
    let fed = field_feeds c.args.self.now.field (elements c.args.load) c.as_slice.result.now c.in_ok-lines.lines.items c.in_ok-give.field-0 c.in_ok-lines.all are c.in_ok-lines.ensures c.in_ok-give.ensures m xs h.0 h.1 in
    rw c.if-not-all.true at fed.0

pub returns : goal.returns
returns c m xs h takes =
    let are = ap elements c.in-Rows.is ∙ ap (map Row) (sym c.as_slice.ensures) in
    let fed = field_feeds c.args.self.now.field (elements c.args.load) c.as_slice.result.now c.in_ok-lines.lines.items c.in_ok-give.field-0 c.in_ok-lines.all are c.in_ok-lines.ensures c.in_ok-give.ensures m xs h.0 h.1 in
    (rw c.if-not-all.false at fed.0, (h.0, rw c.if-not-all.false at fed.1))
