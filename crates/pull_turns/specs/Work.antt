-- How much work is left: each turn that goes on leaves less, whatever the pipes.
use Rattle.std.specs.Prelude.{ℕ, ◌+◌, ◌-◌, ◌*◌, ◌^◌, ◌<◌, length}
use Rattle.pull_nodes.specs.Shape.{uses_of}
use Rattle.pull_turns.specs.Groups.{waiting}
use Rattle.pull_turns.specs.Rest.{left, total}
use Rattle.pull_turns.specs.Turned.{GoesOn}
use Rattle.pull_turns.specs.declared.rest.Rest.{Rest}
use Rattle.pull_turns.specs.declared.rest.Rest.TheVariants.{Read, Finishing, Groups'}
use Rattle.pull_turns.specs.declared.turn.Turn.{Turn}

-- a device adds the bytes that it may still give
abbrev pub adds_bytes : {F : Type 0} → Rest F → ℕ → ℕ
adds_bytes (Read p from) n = 2 ^ 40 - from
adds_bytes r n = n

-- bytes that devices may still give, none more than 2^40
abbrev pub bytes_left : {F : Type 0} → Rest F → ℕ
bytes_left r = total (λ n. 2 ^ 40 * length (uses_of n)) adds_bytes r

-- a pipe whose input has ended adds the elements that it still has to give
abbrev pub adds_due : {F : Type 0} → (F → ℕ) → Rest F → ℕ → ℕ
adds_due due (Finishing q) n = due q
adds_due due r n = n

-- elements that are still to come of a pipe whose input has ended
abbrev pub due_left : {F : Type 0} → (F → ℕ) → Rest F → ℕ
due_left due r = total (λ n. 0) (adds_due due) r

-- groups that wait add their elements
abbrev pub adds_groups : {F : Type 0} → Rest F → ℕ → ℕ
adds_groups (Groups' k f _ a) n = length (waiting f) + n
adds_groups r n = n

-- elements of the groups that wait
abbrev pub groups_left : {F : Type 0} → Rest F → ℕ
groups_left r = total (λ n. 0) adds_groups r

-- an entry or a leaving is worth more than what a pipe may owe, and a byte more than a load has elements
abbrev pub work_left : {F : Type 0} → (F → ℕ) → Rest F → ℕ
work_left due r = 2 ^ 129 * left r + 2 ^ 64 * (bytes_left r + due_left due r) + groups_left r

-- a turn that goes on leaves less work
pub record Lessens {F : Type 0} (due : F → ℕ) (old new : Rest F) (t : Turn) : Type 0 where
  pub falls : GoesOn t → work_left due new < work_left due old
