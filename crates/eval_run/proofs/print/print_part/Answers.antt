-- A load that isn't empty has one frame.
use Rattle.std.proofs.Common.{ap, sym, ◌∙◌, arith}
use Rattle.device_port.specs.Sink.{with_bytes}
use Rattle.eval_run.proofs.Printed.{by_some}
use Rattle.eval_run.proofs.print.print_part.Goals as goal

pub returns-in-Ok : goal.returns-in-Ok
returns-in-Ok g c = c.in-Ok.ensures ∙ ap (λ t. with_bytes (g.K.Sink.told c.args.out.now) t) (sym (by_some c.args.load.now (omega (arith, c.len-len.ensures, c.if-len-eq0.false))))
