use Rattle.std.proofs.Common.{◌≡◌, length}
use Rattle.chunk_core.specs.Elements.{LoadKind, elements_of}
use Rattle.any_pipe.specs.Pouring.{AreOf}
use Rattle.chain_pipes.proofs.chain.next_load.Given as goal

abbrev pub invariant-loop-load : goal.invariant-loop-load
invariant-loop-load l = record {
  same : elements_of l.fn.loads.items ≡ elements_of l.loads.items;
  kinds : (k : LoadKind) → AreOf k l.fn.loads.items → AreOf k l.loads.items;
}

abbrev pub decreases-loop-load : goal.decreases-loop-load
decreases-loop-load l = length l.loads.items
