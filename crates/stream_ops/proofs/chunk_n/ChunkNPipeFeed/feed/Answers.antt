use Rattle.std.proofs.Common.{refl}
use Rattle.stream_ops.proofs.Groupings.{bytes_feed, lines_feed, rows_feed}
use Rattle.stream_ops.proofs.chunk_n.ChunkNPipeFeed.feed.Goals as goal

pub returns-in_ok-groups-in-Bytes : goal.returns-in_ok-groups-in-Bytes
returns-in_ok-groups-in-Bytes c m xs h takes =
    let q = c.args.self.now in
    bytes_feed q (record { size = q.size; bytes = c.take_groups.new.held; lines = q.lines; rows = q.rows; spare = q.spare }) c.args.load refl m xs c.in-Bytes.bytes c.in_ok-groups-in-Bytes.groups
    c.in-Bytes.is c.in_ok-groups-in-Bytes.ensures.groups c.in_ok-groups-in-Bytes.ensures.rest refl refl h takes

pub returns-in_ok-groups-in-Lines : goal.returns-in_ok-groups-in-Lines
returns-in_ok-groups-in-Lines c m xs h takes =
    let q = c.args.self.now in
    lines_feed q (record { size = q.size; bytes = q.bytes; lines = c.take_groups-in-Lines.new.held; rows = q.rows; spare = q.spare }) c.args.load refl m xs c.in-Lines.lines c.in_ok-groups-in-Lines.groups
    c.in-Lines.is c.in_ok-groups-in-Lines.ensures.groups c.in_ok-groups-in-Lines.ensures.rest refl refl h takes

pub returns-in_ok-groups-in-Rows : goal.returns-in_ok-groups-in-Rows
returns-in_ok-groups-in-Rows c m xs h takes =
    let q = c.args.self.now in
    rows_feed q (record { size = q.size; bytes = q.bytes; lines = q.lines; rows = c.take_groups-in-Rows.new.held; spare = q.spare }) c.args.load refl m xs c.in-Rows.rows c.in_ok-groups-in-Rows.groups
    c.in-Rows.is c.in_ok-groups-in-Rows.ensures.groups c.in_ok-groups-in-Rows.ensures.rest refl refl h takes
