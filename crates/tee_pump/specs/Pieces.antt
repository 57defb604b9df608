-- What is published in a tee.
use Rattle.std.specs.Prelude.{List, ◌++◌}
use Rattle.std.specs.List.{AllByRecursion}
use Rattle.channel_bounded.specs.declared.message.Msg.{Msg}
use Rattle.tee_branches.specs.Branches.{IsOfBytes}

-- all that came and is queued are ends and loads of bytes
abbrev pub ArePieces : List Msg → List Msg → Type 0
ArePieces got queued = AllByRecursion (λ m. IsOfBytes m.body) (got ++ queued)
