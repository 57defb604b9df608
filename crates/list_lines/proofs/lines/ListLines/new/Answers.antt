use Rattle.std.proofs.Common.{refl}
use Rattle.list_lines.proofs.Reading.{unread_at}
use Rattle.list_lines.proofs.lines.ListLines.new.Goals as goal

pub returns : goal.returns
returns g c m d lines stands u = unread_at g.F.Feed.stands m d _ lines stands u c.new.ensures.items refl refl
