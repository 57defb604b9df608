-- Steps that were fed nothing, and the kinds between steps.
use Rattle.std.proofs.Common.{Box, Global, ◌≡◌, ℕ, ◌+◌, List, [], ◌∷◌, ◌++◌, Option, None, Some, true, refl, ap, sym, subst, ◌∙◌, add-zero, arith}
use Rattle.std.specs.Prelude.{IsSome, option_and_then, option_map}
use Rattle.chunk_core.specs.Elements.{Element, LoadKind}
use Rattle.chunk_core.specs.Elements.LoadKind.{Bytes, Lines, Rows}
use Rattle.chunk_core.specs.Feed.{Meaning}
use Rattle.chunk_core.specs.Tables.{Values, no_values}
use Rattle.any_pipe.proofs.Whole.{is_meaning}
use Rattle.pipeline_desc.specs.declared.step.Step.{Step}
use Rattle.pipeline_desc.specs.declared.step.Step.TheVariants as step
use Rattle.pull_nodes.specs.PipeKinds.{gives_of, piped_kind, stream_kind}
use Rattle.pull_nodes.specs.Pipes.{IsMeaningOver, meaning, meaning_over}
use Rattle.pull_nodes.specs.declared.kind.Kind.{Kind}
use Rattle.pull_nodes.specs.declared.pipe.Pipe.{Pipe}
use Rattle.pull_nodes.specs.declared.pipe.Pipe.TheVariants as pipe
use Rattle.pull_nodes.proofs.Beginnings.{part_of-nil}
use Rattle.step_words.specs.Words.{kind_behind, needs_no_table}
use Rattle.chain_pipes.specs.Links.{AreFresh, IsFresh, KindsFit, LinksStand, given, step_given}
use Rattle.chain_pipes.specs.declared.link.Link.{Link}
use Rattle.chain_pipes.specs.declared.link.Link.TheVariants as link
use Rattle.chain_pipes.specs.declared.link.Links.{Links}
use Rattle.chain_pipes.specs.declared.link.Links.TheVariants.{Nil, Then'}

step_given_nil : (s : Step) → step_given s [] ≡ []
step_given_nil (step.Take n) = refl
step_given_nil (step.Pipe p) = part_of-nil no_values p

-- of nothing nothing was given
pub given_nil : (ss : List Step) → given ss [] ≡ []
given_nil [] = refl
given_nil (s ∷ ss) = ap (given ss) (step_given_nil s) ∙ given_nil ss

module _ {F : Type 0} (Stands : F → Meaning → List Element → Type 0) where
  behind : (l : Link F) (b : Box (Unit {0}) Global) (ls : Links F) (s : Step) (ss : List Step) (takes gives : LoadKind) → IsFresh Stands l s → ((mid : LoadKind) → kind_behind ss mid ≡ Some gives → LinksStand Stands ls ss mid gives []) → kind_behind (s ∷ ss) takes ≡ Some gives
      → LinksStand Stands (Then' l b ls) (s ∷ ss) takes gives []
  behind (link.Pipe q) b ls (step.Take n) ss takes gives h more e = absurd h
  behind (link.Take w) b ls (step.Pipe p) ss takes gives h more e = absurd h
  behind (link.Take w) b ls (step.Take n) ss takes gives h more e = (takes, (refl, sym h ∙ (let z : w ≡ 0 + w = omega arith in z)), more takes e)
  behind (link.Pipe q) b ls (step.Pipe p) ss takes gives h more e = go (gives_of p takes) refl
    where
      go : (o : Option LoadKind) → gives_of p takes ≡ o → LinksStand Stands (Then' (link.Pipe q) b ls) (step.Pipe p ∷ ss) takes gives []
      go None is = absurd (let no : None ≡ Some gives = sym (ap (option_and_then (kind_behind ss)) is) ∙ e in cc)
      go (Some mid) is =
          let rest : kind_behind ss mid ≡ Some gives = sym (ap (option_and_then (kind_behind ss)) is) ∙ e in
          (mid, (is, h takes mid is), subst (λ l. LinksStand Stands ls ss mid gives l) (sym (part_of-nil no_values p)) (more mid rest))

  -- steps that were fed nothing stand for nothing
  pub fresh_stand : (ls : Links F) (ss : List Step) (takes gives : LoadKind) → AreFresh Stands ls ss → kind_behind ss takes ≡ Some gives → LinksStand Stands ls ss takes gives []
  fresh_stand Nil [] takes gives h e = let same : Some takes ≡ Some gives = e in cc
  fresh_stand Nil (s ∷ ss) takes gives h e = absurd h
  fresh_stand (Then' l b ls) [] takes gives h e = absurd h
  fresh_stand (Then' l b ls) (s ∷ ss) takes gives h e = behind l b ls s ss takes gives h.0 (λ mid rest. fresh_stand ls ss mid gives h.1 rest) e

-- a pipe that looks nothing up is the same over any tables
pub same_over : (v : Values) (p : Pipe) (takes gives : LoadKind) → needs_no_table (step.Pipe p) ≡ true → gives_of p takes ≡ Some gives → IsMeaningOver v p (meaning p takes gives)
same_over v (pipe.Lookup t i) takes gives h e = absurd (cc)
same_over v pipe.Utf8 takes gives h e = is_meaning no_values pipe.Utf8 takes gives e
same_over v pipe.Lossy takes gives h e = is_meaning no_values pipe.Lossy takes gives e
same_over v pipe.Lines takes gives h e = is_meaning no_values pipe.Lines takes gives e
same_over v pipe.Hex takes gives h e = is_meaning no_values pipe.Hex takes gives e
same_over v pipe.Upper takes gives h e = is_meaning no_values pipe.Upper takes gives e
same_over v pipe.Csv takes gives h e = is_meaning no_values pipe.Csv takes gives e
same_over v (pipe.Field i) takes gives h e = is_meaning no_values (pipe.Field i) takes gives e
same_over v (pipe.Drop n) takes gives h e = is_meaning no_values (pipe.Drop n) takes gives e
same_over v (pipe.Filter x) takes gives h e = is_meaning no_values (pipe.Filter x) takes gives e
same_over v pipe.Changes takes gives h e = is_meaning no_values pipe.Changes takes gives e
same_over v pipe.Number takes gives h e = is_meaning no_values pipe.Number takes gives e
same_over v pipe.Count takes gives h e = is_meaning no_values pipe.Count takes gives e
same_over v (pipe.Intersperse x) takes gives h e = is_meaning no_values (pipe.Intersperse x) takes gives e
same_over v (pipe.ChunkN n) takes gives h e = is_meaning no_values (pipe.ChunkN n) takes gives e

piped : (p : Pipe) (k : LoadKind) → piped_kind p (stream_kind k) ≡ option_map stream_kind (gives_of p k)
piped p Bytes = refl
piped p Lines = refl
piped p Rows = refl

-- a pipe among steps that fit takes the kind that it gets
pub left_pipe : (p : Pipe) (rest : List Step) (kind : Kind) (i k : LoadKind) → KindsFit (step.Pipe p ∷ rest) kind i k → (j : LoadKind) × (piped_kind p kind ≡ Some (stream_kind j)) × (kind_behind rest j ≡ Some k)
left_pipe p rest kind i k h = go (gives_of p i) refl
  where
    go : (o : Option LoadKind) → gives_of p i ≡ o → (j : LoadKind) × (piped_kind p kind ≡ Some (stream_kind j)) × (kind_behind rest j ≡ Some k)
    go None is = absurd (let no : None ≡ Some k = sym (ap (option_and_then (kind_behind rest)) is) ∙ h.1 in cc)
    go (Some j) is = (j, ap (piped_kind p) h.0 ∙ (piped p i ∙ ap (option_map stream_kind) is), sym (ap (option_and_then (kind_behind rest)) is) ∙ h.1)

-- the value that is there
pub some_kind : (o : Option LoadKind) → IsSome o → (k : LoadKind) × (o ≡ Some k)
some_kind None h = absurd (cc)
some_kind (Some k) h = (k, refl)
