use Rattle.std.proofs.Common.{◌≡◌, [], ap, subst, sym}
use Rattle.std.proofs.lemmas.List.Elements.{All-nil}
use Rattle.chunk_core.specs.Elements.{elements_of, kind_of}
use Rattle.any_pipe.specs.Pouring.{AreOf}
use Rattle.chain_pipes.specs.Chains.{StageStands}
use Rattle.chain_pipes.specs.declared.chain.Stage.TheVariants as stage
use Rattle.chain_pipes.proofs.Chained.{ends_met}
use Rattle.chain_pipes.proofs.chain.Chain.settle.Goals as goal

pub returns-in-Met-clause-first : goal.returns-in-Met-clause-first
returns-in-Met-clause-first c m xs s =
    let st : StageStands stage.Met s.0 m.gives xs = subst (λ t. StageStands t s.0 m.gives xs) c.in-Met.is s.3 in
    let e = ends_met s.0 m s.1 xs st.0 st.1 in
    let items = c.new-in-Met.ensures.items in
    ([], e.0, (s.2, (subst (λ l. AreOf m.gives l) (sym items) (All-nil (λ l. kind_of l ≡ m.gives)), sym (ap elements_of items), sym e.1)))
