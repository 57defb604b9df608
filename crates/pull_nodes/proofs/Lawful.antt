-- What holds of the rule of every pipe.
use Rattle.std.proofs.Common.{◌≡◌, ◌⊎◌, List, [], Bool, true, false, cond, Option, Some, None}
use Rattle.chunk_core.specs.Elements.{Element, LoadKind}
use Rattle.chunk_core.specs.declared.code.Code.{Code}
use Rattle.chunk_core.specs.declared.code.Code.TheVariants as code
use Rattle.pull_nodes.specs.Laws.{IsNoDeviceFault}
use Rattle.pull_nodes.specs.PipeKinds.{stream_kind}
use Rattle.pull_nodes.specs.PipeRule.{PipeRule}
use Rattle.pull_nodes.proofs.Steady.{SteadyBy}

-- it gives one kind of a kind that it takes, and that is its kind behind a stream that gives nothing
abbrev pub HasOneKind : PipeRule → Type 0
HasOneKind r = (takes : LoadKind) × (gives : LoadKind) × (r.gives takes ≡ Some gives) × (r.of_nothing ≡ stream_kind gives)

-- it gives nothing of nothing, also at the end
abbrev pub GivesNothing : PipeRule → Type 0
GivesNothing r = (takes : LoadKind) × (gives : LoadKind) × (r.gives takes ≡ Some gives) × ((r.all []).list ≡ [])

pub record IsLawful (r : PipeRule) : Type 0 where
  -- what was given stays given, and a fault is final
  pub steady : SteadyBy r.part r.all
  -- no fault that it has is one of a device
  pub own : (xs : List Element) → IsNoDeviceFault (r.part xs).fault × IsNoDeviceFault (r.all xs).fault
  -- of nothing it gives nothing before the end
  pub empty : (r.part []).list ≡ []
  -- what stands behind it fits its kind, also where it gets nothing
  pub behind_nothing : HasOneKind r ⊎ GivesNothing r

pub own_none : IsNoDeviceFault None
own_none = record { opening = λ e. (cc); reading = λ e. (cc); writing = λ e. (cc) }

pub own_malformed : IsNoDeviceFault (Some code.Malformed)
own_malformed = record { opening = λ e. (cc); reading = λ e. (cc); writing = λ e. (cc) }

pub own_truncated : IsNoDeviceFault (Some code.Truncated)
own_truncated = record { opening = λ e. (cc); reading = λ e. (cc); writing = λ e. (cc) }

pub own_long : IsNoDeviceFault (Some code.LongLine)
own_long = record { opening = λ e. (cc); reading = λ e. (cc); writing = λ e. (cc) }

pub own_too_large : IsNoDeviceFault (Some code.TooLarge)
own_too_large = record { opening = λ e. (cc); reading = λ e. (cc); writing = λ e. (cc) }

pub own_not_utf8 : IsNoDeviceFault (Some code.NotUtf8)
own_not_utf8 = record { opening = λ e. (cc); reading = λ e. (cc); writing = λ e. (cc) }

pub own_uneven : IsNoDeviceFault (Some code.Uneven)
own_uneven = record { opening = λ e. (cc); reading = λ e. (cc); writing = λ e. (cc) }

pub own_no_field : IsNoDeviceFault (Some code.NoField)
own_no_field = record { opening = λ e. (cc); reading = λ e. (cc); writing = λ e. (cc) }

pub own_if : (b : Bool) (c d : Option Code) → IsNoDeviceFault c → IsNoDeviceFault d → IsNoDeviceFault (cond b c d)
own_if true c d h i = h
own_if false c d h i = i
