-- The numbers of refusals.
use Rattle.std.specs.Prelude.{ℕ}
use Rattle.pipeline_desc.specs.declared.refusal.RefusalKind.{RefusalKind}
use Rattle.pipeline_desc.specs.declared.refusal.RefusalKind.TheVariants as refused

-- the number of a refusal in messages
abbrev pub number_of_kind : RefusalKind → ℕ
number_of_kind refused.NotToml = 1
number_of_kind refused.UnknownKey = 2
number_of_kind refused.WrongType = 3
number_of_kind refused.OutOfRange = 4
number_of_kind refused.UnknownStep = 5
number_of_kind refused.KindClash = 6
number_of_kind refused.UnknownTable = 7
number_of_kind refused.BadUntil = 8
number_of_kind refused.TooLong = 9
number_of_kind refused.NotUtf8 = 10
