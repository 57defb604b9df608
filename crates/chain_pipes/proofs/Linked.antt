-- What passes through steps, one behind another.
use Rattle.std.proofs.Common.{Box, Global, ◌≡◌, ℕ, ◌+◌, List, [], ◌∷◌, ◌++◌, length, Some, refl, ap, sym, subst, ◌∙◌}
use Rattle.chunk_core.specs.Elements.{Element, LoadKind, elements_of}
use Rattle.chunk_core.specs.Feed.{Meaning}
use Rattle.chunk_core.specs.Tables.{no_values}
use Rattle.chunk_core.specs.declared.load.Load.{Load}
use Rattle.any_pipe.specs.Pouring.{AreOf, MayPour}
use Rattle.any_pipe.proofs.Whole.{is_meaning}
use Rattle.pipeline_desc.specs.declared.step.Step.{Step}
use Rattle.pipeline_desc.specs.declared.step.Step.TheVariants as step
use Rattle.pull_nodes.specs.Laws.{IsSteady}
use Rattle.pull_nodes.specs.PipeKinds.{gives_of}
use Rattle.pull_nodes.specs.Pipes.{meaning}
use Rattle.pull_nodes.specs.declared.pipe.Pipe.{Pipe}
use Rattle.pull_nodes.proofs.PipeLaws.{steady}
use Rattle.chain_pipes.specs.Over.{Came, over, step_over}
use Rattle.chain_pipes.specs.Links.{LinkStands, LinksStand, MayPass, MayPassLink, PassesPipe, PassesStep, PassesSteps, end_of, given, step_given}
use Rattle.chain_pipes.specs.declared.batch.Batch.{Batch}
use Rattle.chain_pipes.specs.declared.link.Link.{Link}
use Rattle.chain_pipes.specs.declared.link.Link.TheVariants as link
use Rattle.chain_pipes.specs.declared.link.Links.{Links}
use Rattle.chain_pipes.specs.declared.link.Links.TheVariants.{Nil, Then'}

steady_pipe : (p : Pipe) (takes gives : LoadKind) → gives_of p takes ≡ Some gives → IsSteady (meaning p takes gives)
steady_pipe p takes gives e = steady no_values p (meaning p takes gives) (is_meaning no_values p takes gives e)

module _ {F : Type 0} (Stands : F → Meaning → List Element → Type 0) where
  pours : (q : F) (loads : List Load) (s : Step) (takes gives : LoadKind) (xs : List Element) → LinkStands Stands (link.Pipe q) s takes gives xs → AreOf takes loads → MayPour (Stands q) loads
  pours q loads (step.Pipe p) takes gives xs h are = (meaning p takes gives, xs, h.1, are)
  pours q loads (step.Take n) takes gives xs h are = absurd h

  -- a pipe that may pass loads may be fed them
  pub may_pour : (q : F) (loads : List Load) → MayPassLink Stands (link.Pipe q) loads → MayPour (Stands q) loads
  may_pour q loads m = pours q loads m.0 m.1 m.2 m.3 m.4 m.5

  -- through the state of a pipe
  pub through_pipe : (q now : F) (b r : Batch) → ((m : Meaning) (xs : List Element) → IsSteady m → Stands q m xs → AreOf m.takes b.loads.items → PassesPipe m xs b r (Stands now m))
      → (s : Step) (takes gives : LoadKind) (xs : List Element) → LinkStands Stands (link.Pipe q) s takes gives xs → AreOf takes b.loads.items → PassesStep s gives xs b r (LinkStands Stands (link.Pipe now) s takes gives)
  through_pipe q now b r passes (step.Pipe p) takes gives xs h are =
      let one = passes (meaning p takes gives) xs (steady_pipe p takes gives h.0) h.1 are in
      record { kinds = one.kinds; made = one.made; goes = λ cut. let g = one.goes cut in record { cut = g.cut; stands = (h.0, g.stands); list = g.list } }
  through_pipe q now b r passes (step.Take n) takes gives xs h are = absurd h

  -- through a taker
  pub through_taker : (wanted now : ℕ) (b r : Batch) → ((takes : LoadKind) (xs : List Element) → AreOf takes b.loads.items → PassesStep (step.Take (length xs + wanted)) takes xs b r (λ ys. length xs + wanted ≡ length ys + now))
      → (s : Step) (takes gives : LoadKind) (xs : List Element) → LinkStands Stands (link.Take wanted) s takes gives xs → AreOf takes b.loads.items → PassesStep s gives xs b r (LinkStands Stands (link.Take now) s takes gives)
  through_taker wanted now b r passes (step.Pipe p) takes gives xs h are = absurd h
  through_taker wanted now b r passes (step.Take n) takes gives xs h are =
      let one = passes takes xs are in
      let here : PassesStep (step.Take (length xs + wanted)) takes xs b r (LinkStands Stands (link.Take now) (step.Take (length xs + wanted)) takes takes) =
      record { kinds = one.kinds; made = one.made; goes = λ cut. let g = one.goes cut in record { cut = g.cut; stands = (refl, g.stands); list = g.list } } in
      let of_kind : PassesStep (step.Take (length xs + wanted)) gives xs b r (LinkStands Stands (link.Take now) (step.Take (length xs + wanted)) takes gives) =
      subst (λ k. PassesStep (step.Take (length xs + wanted)) k xs b r (LinkStands Stands (link.Take now) (step.Take (length xs + wanted)) takes k)) (sym h.0) here in
      subst (λ k. PassesStep (step.Take k) gives xs b r (LinkStands Stands (link.Take now) (step.Take k) takes gives)) (sym h.1) of_kind

  first_passes : (l : Link F) (p : Box (Unit {0}) Global) (ls : Links F) (loads : List Load) (ss : List Step) (takes gives : LoadKind) (xs : List Element) → LinksStand Stands (Then' l p ls) ss takes gives xs → AreOf takes loads → MayPassLink Stands l loads
  first_passes l p ls loads [] takes gives xs h are = absurd h
  first_passes l p ls loads (s ∷ ss) takes gives xs h are = (s, takes, h.0, xs, h.1, are)

  -- loads that may pass through steps may pass through the first
  pub may_pass_first : (l : Link F) (p : Box (Unit {0}) Global) (ls : Links F) (loads : List Load) → MayPass Stands (Then' l p ls) loads → MayPassLink Stands l loads
  may_pass_first l p ls loads m = first_passes l p ls loads m.0 m.1 m.2 m.3 m.4 m.5

  module _ (l now : Link F) (p : Box (Unit {0}) Global) (ls : Links F) (b mid : Batch)
      (first : (s : Step) (takes gives : LoadKind) (xs : List Element) → LinkStands Stands l s takes gives xs → AreOf takes b.loads.items → PassesStep s gives xs b mid (LinkStands Stands now s takes gives)) where
    rest_passes : (ss : List Step) (takes gives : LoadKind) (xs : List Element) → LinksStand Stands (Then' l p ls) ss takes gives xs → AreOf takes b.loads.items → MayPass Stands ls mid.loads.items
    rest_passes [] takes gives xs h are = absurd h
    rest_passes (s ∷ ss) takes gives xs h are = (ss, h.0, gives, step_given s xs, h.2, (first s takes h.0 xs h.1 are).kinds)

    -- what the first makes of them may pass through the others
    pub may_pass_rest : MayPass Stands (Then' l p ls) b.loads.items → MayPass Stands ls mid.loads.items
    may_pass_rest m = rest_passes m.0 m.1 m.2 m.3 m.4 m.5

    -- through the first and then the others
    pub through_both : (r : Batch) (later : Links F)
        → ((ss : List Step) (takes gives : LoadKind) (xs : List Element) → LinksStand Stands ls ss takes gives xs → AreOf takes mid.loads.items → PassesSteps ss gives xs mid r (LinksStand Stands later ss takes gives))
        → (ss : List Step) (takes gives : LoadKind) (xs : List Element) → LinksStand Stands (Then' l p ls) ss takes gives xs → AreOf takes b.loads.items → PassesSteps ss gives xs b r (LinksStand Stands (Then' now p later) ss takes gives)
    through_both r later others [] takes gives xs h are = absurd h
    through_both r later others (s ∷ ss) takes gives xs h are =
        let one = first s takes h.0 xs h.1 are in
        let two = others ss h.0 gives (step_given s xs) h.2 one.kinds in
        record {
          kinds = two.kinds;
          made = ap (λ (c : Came). over ss c.list c.end) one.made ∙ two.made;
          goes = λ cut.
              let g = two.goes cut in
              let f = one.goes g.cut in
              record { cut = f.cut; stands = (h.0, f.stands, subst (λ ys. LinksStand Stands later ss h.0 gives ys) f.list g.stands); list = g.list ∙ ap (given ss) f.list };
        }

  -- where there is no step
  pub through_none : (b : Batch) (ss : List Step) (takes gives : LoadKind) (xs : List Element) → LinksStand Stands Nil ss takes gives xs → AreOf takes b.loads.items → PassesSteps ss gives xs b b (LinksStand Stands Nil ss takes gives)
  through_none b [] takes gives xs h are = record { kinds = subst (λ k. AreOf k b.loads.items) (sym h) are; made = refl; goes = λ cut. record { cut = cut; stands = h; list = refl } }
  through_none b (s ∷ ss) takes gives xs h are = absurd h
