-- What a list has given is a run that was left.
use Rattle.std.proofs.Common.{ℕ, List, [], ◌++◌, append-nil, map, Option, Some, None, refl, sym, subst}
use Rattle.std.proofs.lemmas.List.{map-append}
use Rattle.chunk_core.specs.Elements.{Element, Line}
use Rattle.chunk_core.specs.Feed.{IsSound, Meaning}
use Rattle.chunk_core.specs.Outcomes.{Cut}
use Rattle.chunk_core.specs.declared.code.How.{How}
use Rattle.chunk_core.specs.declared.code.How.TheVariants as how
use Rattle.device_port.specs.Device.{DeviceTold}
use Rattle.pull_nodes.specs.Runs.{FirstBytes}
use Rattle.list_lines.specs.declared.lines.ListLines.{ListLines}
use Rattle.list_lines.specs.Lists.{HasRun, HaveCome, IsAt, ListRun, end_of}
use Rattle.list_lines.proofs.Runs.{front_runs, left_there, runs_so}

-- the first lines of a run are those of one that was left behind them
pub front_has_run : (m : Meaning) (d : DeviceTold) (given more : List (List ℕ)) (h : How) → HasRun m d (given ++ more) h → HasRun m d given how.Memory
front_has_run m d given more h r = front_runs m d (map Line given) (map Line more) (end_of h) (subst (λ l. ListRun m d l (end_of h)) (map-append Line given more) r)

module _ {F : Type 0} (Stands : F → Meaning → List Element → Type 0) (sound : (q : F) → IsSound (Stands q)) where
  -- so is a list as far as it was read
  pub given_has_run : (m : Meaning) (d : DeviceTold) (given : List (List ℕ)) (x : ListLines F) → IsAt Stands m d given x → HasRun m d given how.Memory
  given_has_run m d given x h = by_over x.over h.came
    where
      by_over : (o : Option How) → HaveCome Stands o m d (given ++ x.waiting.items) x → HasRun m d given how.Memory
      by_over (Some k) r = front_has_run m d given x.waiting.items k r
      by_over None r =
          front_has_run m d given x.waiting.items how.Memory
          (runs_so m d r.xs Cut Cut (map Line (given ++ x.waiting.items)) (sound x.pipe m r.xs r.stands) (left_there m d r.xs [] (subst (λ l. FirstBytes d.content d.at l) (sym (append-nil r.xs)) r.first)) (sym r.came, refl))
