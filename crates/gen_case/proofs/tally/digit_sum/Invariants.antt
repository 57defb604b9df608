use Rattle.std.proofs.Common.{◌≡◌, ◌*◌, ◌≤◌, take}
use Rattle.gen_case.specs.Tally.{digit_sum}
use Rattle.gen_case.proofs.tally.digit_sum.Given as goal

-- the sum so far
abbrev pub invariant-loop-byte : goal.invariant-loop-byte
invariant-loop-byte l = record {
  sum : l.sum ≡ digit_sum (take l.byte-index l.bytes);
  small : l.sum ≤ 9 * l.byte-index;
}
