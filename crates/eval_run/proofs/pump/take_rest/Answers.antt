-- The next of the results that are out is taken, until none is left.
use Rattle.std.proofs.Common.{[], ◌∷◌, ◌++◌, refl, arith}
use Rattle.eval_run.proofs.Pumped.{kept_same, kept_then}
use Rattle.eval_run.proofs.pump.take_rest.Goals as goal

pub rest-init : goal.rest-init
rest-init g c = record { rest = λ first ds ws p. (ws, p); kept = kept_same c.args.stop c.args.stop refl }

pub returns-then-out-eq0-clause-rest : goal.returns-then-out-eq0-clause-rest
returns-then-out-eq0-clause-rest g c first ds ws p =
    let q = c.rest.invariant.rest first ds ws p in
    let n = c.out.ensures ds q.0 q.1.crew in (q.0, q.1, omega (arith, n, c.if-out-eq0.true))

pub print_next-left-requires : goal.print_next-left-requires
print_next-left-requires g c =
    let p = c.requires.pumping in
    let q = c.rest.invariant.rest p.0 p.1 p.2 p.3 in
    let n = c.out.ensures p.1 q.0 q.1.crew in record { pumping = (p.0, p.1, q.0, q.1, omega (arith, n, c.if-out-eq0.false), p.4) }

pub rest-preserved : goal.rest-preserved
rest-preserved g c = record {
  rest = λ first ds ws p. let q = c.rest.invariant.rest first ds ws p in let t = c.print_next-left.ensures.taken first ds q.0 q.1 in (q.0 ++ t.0 ∷ [], t.1);
  kept = kept_then c.args.stop c.rest.left c.print_next-left.result c.rest.invariant.kept c.print_next-left.ensures.kept;
}
