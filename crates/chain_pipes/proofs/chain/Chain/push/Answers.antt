use Rattle.std.proofs.Common.{◌≡◌, ◌∙◌, [], ◌∷◌, ◌++◌, ap, append-nil, refl, subst, sym}
use Rattle.std.proofs.lemmas.List.Elements.{All-nil, All-push}
use Rattle.chunk_core.specs.Elements.{elements, elements_of, kind_of}
use Rattle.chunk_core.specs.Elements.LoadKind.{Bytes}
use Rattle.chunk_core.specs.Feed.{Meaning}
use Rattle.any_pipe.specs.AnyState as any
use Rattle.any_pipe.specs.Pouring.{AreOf}
use Rattle.chain_pipes.specs.Chains.{StageStands}
use Rattle.chain_pipes.specs.Links.{LinksStand}
use Rattle.chain_pipes.specs.declared.batch.Batch.{Batch}
use Rattle.chain_pipes.specs.declared.batch.Tail.TheVariants as tail
use Rattle.chain_pipes.specs.declared.chain.Chain.{Chain}
use Rattle.chain_pipes.specs.declared.chain.Stage.TheVariants as stage
use Rattle.chain_pipes.proofs.Chained.{feeds_met, feeds_more}
use Rattle.chain_pipes.proofs.chain.Chain.push.Goals as goal

pub returns-in-More : goal.returns-in-More
returns-in-More c m xs s takes =
    let st : StageStands (stage.Running c.in-Running.links) s.0 m.gives xs = subst (λ t. StageStands t s.0 m.gives xs) c.in-Running.is s.3 in
    let load = c.args.load in
    let b : Batch = record { loads = c.push.new.self; tail = tail.More } in
    let items = c.in_ok-push-in-Running.ensures.items ∙ ap (λ l. l ++ load ∷ []) c.new-loads.ensures.items in
    let fed : elements_of b.loads.items ≡ elements load = ap elements_of items ∙ append-nil (elements load) in
    let kind : kind_of load ≡ Bytes = sym takes ∙ ap (λ (n : Meaning). n.takes) s.1.1 in
    let are : AreOf Bytes b.loads.items = subst (λ l. AreOf Bytes l) (sym items) (All-push (λ l. kind_of l ≡ Bytes) [] load (All-nil (λ l. kind_of l ≡ Bytes)) kind) in
    let q : Chain = record { gives = c.args.self.now.gives; stage = stage.Running c.pass.new.self } in
    feeds_more s.0 m s.1 xs st.1 load c.in_ok-load-in-Running.load c.requires.some b c.in_ok-given-in-Running.given fed refl (LinksStand any.StandsFor c.pass.new.self s.0 Bytes m.gives)
    (c.in_ok-given-in-Running.ensures s.0 Bytes m.gives xs st.0 are) c.in_ok-load-in-Running.ensures.all (c.in_ok-load-in-Running.ensures.kind m.gives s.2) q s.2 (λ ys g p. (g, p)) c.in-More.is

pub returns-in-Met : goal.returns-in-Met
returns-in-Met c m xs s takes =
    let st : StageStands stage.Met s.0 m.gives xs = subst (λ t. StageStands t s.0 m.gives xs) c.in-Met.is s.3 in
    feeds_met s.0 m s.1 c.args.self.now xs c.args.load c.empty_of.result s.2 c.in-Met.is st.0 st.1 c.empty_of.ensures.none (c.empty_of.ensures.kind m.gives s.2)
