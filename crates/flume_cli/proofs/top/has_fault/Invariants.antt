use Rattle.std.proofs.Common.{◌≡◌, false, take}
use Rattle.std.specs.List.{list_any as any}
use Rattle.run_rules.specs.Facts.{is_fault}
use Rattle.flume_cli.proofs.top.has_fault.Given as goal

-- none of the ends so far is a fault
abbrev pub invariant-loop-end : goal.invariant-loop-end
invariant-loop-end l = any (λ e. is_fault e.how) (take l.end-index l.end-items) ≡ false
