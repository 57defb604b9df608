use Rattle.node_laws.proofs.Ideal.{one}
use Rattle.node_laws.proofs.laws.has_one_ideal_run.Goals as goal

pub returns : goal.returns
returns c t v w n xs ys e g none same r s = let h = one t v w n none same xs ys e g r s in record { list = h.0; end = h.1; wrote = h.2 }
