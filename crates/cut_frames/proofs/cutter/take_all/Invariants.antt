use Rattle.std.proofs.Common.{◌-◌, ◌≤◌, length}
use Rattle.cut_frames.proofs.Turns.{Leads}
use Rattle.cut_frames.proofs.cutter.take_all.Given as goal

-- what was taken so far leads to where the reader stands
abbrev pub invariant-steps : goal.invariant-steps
invariant-steps l = record { few : l.taken ≤ length l.text; leads : Leads l.wanted l.fn.place l.at l.text l.taken l.given.items }

abbrev pub decreases-steps : goal.decreases-steps
decreases-steps l = length l.text - l.taken
