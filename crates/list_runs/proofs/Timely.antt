-- A list is read in time.
use Rattle.std.proofs.Common.{ℕ, ◌-◌, ◌≤◌, List, length, map, take, Option, None, Some, refl, ap, arith}
use Rattle.std.specs.Prelude.{IfSome}
use Rattle.chunk_core.specs.Elements.{Byte}
use Rattle.plan_work.specs.Listed.{lines_ended}
use Rattle.chain_pipes.proofs.Steady.{chains_are_steady}
use Rattle.list_runs.specs.Laws.{GivesListedLines, IsTimely}
use Rattle.list_runs.specs.Meant.{list_meaning, list_steps}
use Rattle.list_runs.proofs.Steps.{part_lines}

pub gives_lines : GivesListedLines
gives_lines = record { takes = refl; gives = refl; nothing = refl; steady = chains_are_steady list_steps list_meaning.gives }

pub is_timely : IsTimely
is_timely p l d given lines few h = record {
  needed = as_many d.content (d.at - 4096) h.needed;
  ended = λ e. as_many d.content d.at (h.ended e);
}
  where
    as_many : (content : Option (List ℕ)) (k : ℕ) → IfSome content (λ c. length (list_meaning.part (map Byte (take k c))).list ≤ length given) → IfSome content (λ c. lines_ended (take k c) ≤ length lines)
    as_many None k i = tt
    as_many (Some c) k i = let e = ap length (part_lines (map Byte (take k c))) in omega (few, e, i, arith)
