use Rattle.pipeline_desc.specs.Nodes.{IsMade}
use Rattle.pipeline_desc.proofs.NodeLaws.{IsTold, of_given, told_of}
use Rattle.pipeline_desc.proofs.nodes.node.Goals as goal

pub returns : goal.returns
returns c =
    let p = c.args.plan.now in
    let k = c.args.k in
    let r = c.node_made.result in
    let told = of_given (IsMade p k) (IsTold p k) r c.node_made.ensures (λ n h. told_of p k h.0 n h.1 h.3 h.2) in
    record {
      node = of_given (IsTold p k) _ r told (λ n t. t.node);
      kind = of_given (IsTold p k) _ r told (λ n t. t.kind);
      few = of_given (IsTold p k) _ r told (λ n t. t.few);
      placed = of_given (IsTold p k) _ r told (λ n t. t.placed);
      places = of_given (IsTold p k) _ r told (λ n t. t.places);
      reads = of_given (IsTold p k) _ r told (λ n t. t.reads);
      writes = of_given (IsTold p k) _ r told (λ n t. t.writes);
      scopes = of_given (IsTold p k) _ r told (λ n t. t.scopes);
      events = of_given (IsTold p k) _ r told (λ n t. t.events);
    }
