use Rattle.std.proofs.Common.{◌∙◌, ap}
use Rattle.pull_nodes.specs.Hex.{hex_line}
use Rattle.pull_nodes.specs.Plain.{ungrouped}
use Rattle.text_pipes.proofs.HexLines.{lines_more, rest-step}
use Rattle.text_pipes.proofs.hexadecimal.push_groups.Goals as goal

pub groups-preserved : goal.groups-preserved
groups-preserved c = record {
  lines =
      lines_more c.groups.lines.items c.push.new.self.items c.groups.left.now c.split_at.result.1.now c.in_ok-group_line.field-0 c.groups-test.true
      (c.in_ok-group_line.ensures ∙ ap hex_line c.split_at.ensures.front) c.split_at.ensures.back c.in_ok-push.ensures.items
      ∙ c.groups.invariant.lines;
  rest = ap (ungrouped 16) c.split_at.ensures.back ∙ (rest-step c.groups.left.now c.groups-test.true ∙ c.groups.invariant.rest);
}
