use Rattle.std.proofs.Common.{◌≡◌, ◌+◌, ◌*◌, ◌≤◌, List, length}
use Rattle.chunk_core.specs.Texts.{Frame, frames_text}
use Rattle.gen_case.specs.Tally.{AreNumbered}
use Rattle.gen_case.proofs.Tallies.{GoesOn}
use Rattle.gen_case.proofs.tally.tally_of.Given as goal

-- what was counted, and what is left of any frames that the bytes are
abbrev pub invariant-loop-payload : goal.invariant-loop-payload
invariant-loop-payload l = record {
  frames : l.tally.frames + length l.rest ≤ length l.out;
  bytes : l.tally.bytes + length l.rest ≤ length l.out;
  digits : l.tally.digits ≤ 9 * l.tally.bytes;
  goes_on : (F : List Frame) → AreNumbered F → l.out ≡ frames_text F → GoesOn l.tally F l.rest;
}

abbrev pub decreases-loop-payload : goal.decreases-loop-payload
decreases-loop-payload l = length l.rest
