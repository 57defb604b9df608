-- What a chain gives is a run through its steps.
use Rattle.std.proofs.Common.{◌≡◌, ℕ, ◌<◌, Bool, true, false, nat_le, if◌then◌else◌, List, [], ◌∷◌, length, take, Option, Some, None, inl, inr, refl, arith}
use Rattle.std.proofs.lemmas.Bool.{leb-true}
use Rattle.std.specs.Prelude.{codes}
use Rattle.std.specs.Fmt.{digits}
use Rattle.std.specs.Str.{is_utf8, chars}
use Rattle.std.specs.Char.{encode_utf8}
use Rattle.std.specs.Str.Lossy.{utf8_valid_len, utf8_error_len}
use Rattle.chunk_core.specs.Elements.{Element}
use Rattle.chunk_core.specs.Feed.{Given}
use Rattle.chunk_core.specs.Outcomes.{Cut, Done, End, Fault}
use Rattle.chunk_core.specs.Tables.{no_values}
use Rattle.chunk_core.specs.declared.code.Code.{Code}
use Rattle.pipeline_desc.specs.declared.step.Step.{Step}
use Rattle.pipeline_desc.specs.declared.step.Step.TheVariants as step
use Rattle.pull_nodes.specs.Lines.{without_pairs, ended_lines, open_line}
use Rattle.pull_nodes.specs.Pipes.{all_of, part_of}
use Rattle.pull_nodes.specs.Runs.{Exactly, GivesBy}
use Rattle.chain_pipes.specs.Over.{came, over, step_over, through}
use Rattle.chain_pipes.specs.Worked.{AreWorked, Chained, OverIsARun, Stepped}

gives_by : (c : Option Code) (part all : List Element → Given) (xs : List Element) (e : End) → GivesBy c part all xs e (through c (part xs) (all xs) e).list (through c (part xs) (all xs) e).end
gives_by (Some c) part all xs e = (refl, refl)
gives_by None part all xs Done = (refl, refl)
gives_by None part all xs (Fault c) = (refl, refl)
gives_by None part all xs Cut = (refl, refl)

module _ (P : List Element → End → Type 0) where
  taker : (n : ℕ) (xs : List Element) (e : End) (b : Bool) → nat_le n (length xs) ≡ b → P xs e → Stepped (step.Take n) P (if b then came (take n xs) Done else came xs e).list (if b then came (take n xs) Done else came xs e).end
  taker n xs e true h p = (xs, e, p, inl (leb-true n (length xs) h, refl, refl))
  taker n xs e false h p = (xs, e, p, inr (less n (length xs) h, refl, refl))
    where
      less : (n m : ℕ) → nat_le n m ≡ false → m < n
      less n m h = grind (arith, h)

  stepped : (s : Step) (xs : List Element) (e : End) → P xs e → Stepped s P (step_over s xs e).list (step_over s xs e).end
  stepped (step.Take n) xs e p = taker n xs e (nat_le n (length xs)) refl p
  stepped (step.Pipe q) xs e p = (xs, e, p, gives_by (part_of no_values q xs).fault (part_of no_values q) (all_of no_values q) xs e)

-- of any run
over_runs : (P : List Element → End → Type 0) (steps : List Step) (xs : List Element) (e : End) → P xs e → Chained steps P (over steps xs e).list (over steps xs e).end
over_runs P [] xs e p = p
over_runs P (s ∷ ss) xs e p = over_runs (Stepped s P) ss (step_over s xs e).list (step_over s xs e).end (stepped P s xs e p)

pub over_is_a_run : OverIsARun
over_is_a_run steps xs e = over_runs (Exactly xs e) steps xs e (refl, refl)

pub worked : AreWorked
unfolding without_pairs ended_lines open_line digits utf8_valid_len is_utf8 chars encode_utf8 utf8_error_len
worked = record {
  count = refl;
  cut_count = refl;
  filter = refl;
  whole_rest = refl;
  cut_rest = refl;
  fault = refl;
  hides = refl;
  ends = refl;
  last_ends = refl;
  wants_nothing = refl;
  not_yet = refl;
  none = refl;
  nothing = refl;
}
