-- The kind behind steps that were read.
use Rattle.std.proofs.Common.{◌≡◌, ℕ, ◌+◌, List, [], ◌∷◌, Option, Some, None, Ok, Err, refl, ap, ◌∙◌, sym, subst}
use Rattle.std.specs.Prelude.{IsOk, IsSome, option_and_then, option_map}
use Rattle.chunk_core.specs.Elements.{LoadKind}
use Rattle.chunk_core.specs.Elements.LoadKind.{Bytes, Lines, Rows}
use Rattle.pipeline_desc.specs.Reading.{Reading, ◌>>=◌}
use Rattle.pipeline_desc.specs.Steps.{kind_from, kind_given}
use Rattle.pipeline_desc.specs.declared.step.Step.{Step}
use Rattle.pipeline_desc.specs.declared.step.Step.TheVariants as step
use Rattle.pull_nodes.specs.PipeKinds.{gives_of, piped_kind, stream_kind}
use Rattle.pull_nodes.specs.declared.kind.Kind.{Kind}
use Rattle.pull_nodes.specs.declared.pipe.Pipe.{Pipe}
use Rattle.step_words.specs.Words.{kind_behind}

piped : (p : Pipe) (k : LoadKind) → piped_kind p (stream_kind k) ≡ option_map stream_kind (gives_of p k)
piped p Bytes = refl
piped p Lines = refl
piped p Rows = refl

-- steps from this number on that fit behind loads of a kind
behind : (steps : List Step) (n : ℕ) (k : LoadKind) → IsOk (kind_from 0 n steps (stream_kind k)) → IsSome (kind_behind steps k)
behind [] n k h = refl
behind (step.Take t ∷ steps) n k h = behind steps (n + 1) k h
behind (step.Pipe p ∷ steps) n k h = go (behind steps (n + 1)) (gives_of p k) refl
  where
    go : ((j : LoadKind) → IsOk (kind_from 0 (n + 1) steps (stream_kind j)) → IsSome (kind_behind steps j)) → (o : Option LoadKind) → gives_of p k ≡ o → IsSome (option_and_then (kind_behind steps) (gives_of p k))
    go later None e =
        let none : piped_kind p (stream_kind k) ≡ None = piped p k ∙ ap (option_map stream_kind) e in
        let no = rw none at h in absurd (cc)
    go later (Some j) e =
        let some : piped_kind p (stream_kind k) ≡ Some (stream_kind j) = piped p k ∙ ap (option_map stream_kind) e in
        let rest = rw some at h in
        rw e (later j rest)

given_from : (r : Reading Kind) → IsOk (r >>= (λ j. Ok j)) → IsOk r
given_from (Ok j) h = h
given_from (Err e) h = h

-- steps that fit behind bytes have a kind behind them
pub kinds_fit : (steps : List Step) → IsOk (kind_given 0 steps None) → IsSome (kind_behind steps Bytes)
kinds_fit steps h = behind steps 0 Bytes (given_from (kind_from 0 0 steps (stream_kind Bytes)) h)
