use Rattle.std.proofs.Common.{◌∙◌, ap, sym}
use Rattle.std.specs.Arc.{arc_value}
use Rattle.std.specs.FinMap.{get}
use Rattle.chunk_core.specs.Elements.{elements}
use Rattle.csv_pipes.proofs.Extended.{lookup_feeds}
use Rattle.csv_pipes.proofs.lookup_pipe.LookupPipeFeed.feed.Goals as goal

pub returns-then-not-all : goal.returns-then-not-all
returns-then-not-all c m xs h takes =
    let value = get (arc_value c.args.self.now.table) in
    let fed = lookup_feeds h.values h.table c.args.self.now.field value (elements c.args.load) c.in-Rows.rows c.in_ok-rows.rows.items c.in_ok-give.field-0 c.in_ok-rows.all (ap elements c.in-Rows.is) c.in_ok-rows.ensures.made
    c.in_ok-give.ensures h.same m xs h.means h.fine in
    rw c.if-not-all.true at fed.0

pub returns : goal.returns
returns c m xs h takes =
    let value = get (arc_value c.args.self.now.table) in
    let fed = lookup_feeds h.values h.table c.args.self.now.field value (elements c.args.load) c.in-Rows.rows c.in_ok-rows.rows.items c.in_ok-give.field-0 c.in_ok-rows.all (ap elements c.in-Rows.is) c.in_ok-rows.ensures.made
    c.in_ok-give.ensures h.same m xs h.means h.fine in
    let field = c.in_ok-rows.ensures.field in (
      rw c.if-not-all.false at fed.0,
      record {
        values = h.values;
        table = h.table;
        means = rw field h.means;
        same = λ key. h.same key ∙ ap (λ t. get (arc_value t) key) (sym c.in_ok-rows.ensures.table);
        fine = rw field (rw c.if-not-all.false at fed.1);
      },
    )
