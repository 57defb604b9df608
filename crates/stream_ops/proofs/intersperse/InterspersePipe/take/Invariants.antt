use Rattle.std.proofs.Common.{◌≡◌, ◌||◌, map, take}
use Rattle.chunk_core.specs.Elements.{Line}
use Rattle.stream_ops.specs.Spread.{is_any, spread}
use Rattle.stream_ops.proofs.intersperse.InterspersePipe.take.Given as goal

abbrev pub invariant-loop-line : goal.invariant-loop-line
invariant-loop-line l = record {
  given : map Line l.given.items ≡ spread l.fn.self.started l.fn.self.between (map Line (take l.line-index l.lines));
  started : l.self.started ≡ (l.fn.self.started || is_any (take l.line-index l.lines));
  between : l.self.between ≡ l.fn.self.between;
}
