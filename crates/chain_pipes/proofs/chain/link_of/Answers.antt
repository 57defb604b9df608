use Rattle.std.proofs.Common.{◌∙◌, ap, sym, subst, ◌≡◌, true}
use Rattle.any_pipe.specs.AnyState as any
use Rattle.csv_pipes.specs.Dictionaries.{values_of}
use Rattle.pipeline_desc.specs.declared.step.Step.TheVariants as step
use Rattle.step_words.specs.Words.{needs_no_table}
use Rattle.chain_pipes.specs.Links.{IsFresh}
use Rattle.chain_pipes.specs.declared.link.Link.TheVariants as link
use Rattle.chain_pipes.proofs.Begun.{same_over}
use Rattle.pull_nodes.specs.Pipes.{meaning}
use Rattle.chain_pipes.proofs.chain.link_of.Goals as goal

pub returns-in_ok-of-in-Pipe : goal.returns-in_ok-of-in-Pipe
returns-in_ok-of-in-Pipe c =
    let copy = c.in_ok-pipe-in-Pipe.pipe in
    let same : copy ≡ c.in-Pipe.pipe = c.in_ok-pipe-in-Pipe.ensures in
    let none : needs_no_table (step.Pipe copy) ≡ true = ap (λ p. needs_no_table (step.Pipe p)) same ∙ (ap needs_no_table (sym c.in-Pipe.is) ∙ c.requires) in
    let fresh : IsFresh any.StandsFor (link.Pipe c.in_ok-of-in-Pipe.field-0) (step.Pipe copy) =
    λ takes gives e. c.in_ok-of-in-Pipe.ensures (meaning copy takes gives) (same_over (values_of c.args.tables.now) copy takes gives none e)
    in
    subst (λ s. IsFresh any.StandsFor (link.Pipe c.in_ok-of-in-Pipe.field-0) s) (ap (λ p. step.Pipe p) same ∙ sym c.in-Pipe.is) fresh
