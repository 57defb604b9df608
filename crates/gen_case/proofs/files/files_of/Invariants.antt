use Rattle.std.proofs.Common.{◌≡◌, map}
use Rattle.run_rules.specs.Facts.{first_numbers}
use Rattle.gen_case.specs.Case.{stream_file}
use Rattle.gen_case.proofs.files.files_of.Given as goal

-- the files of the streams so far
abbrev pub invariant-loop-k : goal.invariant-loop-k
invariant-loop-k l = l.files ≡ map (stream_file l.case) (first_numbers l.k)
