use Rattle.std.proofs.Common.{◌≡◌, true, take}
use Rattle.std.specs.List.{AllByRecursion}
use Rattle.pipeline_desc.specs.Limits.{is_path}
use Rattle.digest_parts.proofs.plan.are_paths.Given as goal

abbrev pub invariant-loop-path : goal.invariant-loop-path
invariant-loop-path l = AllByRecursion (λ p. is_path p ≡ true) (take l.path-index l.paths)
