-- Which calls of a memory object are to fail.
use Rattle.std.specs.Prelude.{ℕ, ◌+◌, ◌-◌, ◌^◌, min, Bool, true, false, ◌&&◌, List, map, filter, nat_eq}
use Rattle.std.specs.List.{list_any}
use Rattle.std.specs.Str.{bytes_eq}
use Rattle.device_port.specs.declared.calls.Calls.{Calls}
use Rattle.device_port.specs.declared.calls.ActCalls.{ActCalls}
use Rattle.device_port.specs.declared.trip.Trip.{Trip}
use Rattle.device_port.specs.declared.trip.Act.{Act}
use Rattle.device_port.specs.declared.trip.Act.TheVariants as act

-- the number of the next call, where so many were made; it stops behind each number that is named
abbrev pub next_call : ℕ → ℕ
next_call made = min (made + 1) (2 ^ 64 - 1)

-- the next call is to fail
abbrev pub is_next_named : Calls → Bool
is_next_named c = list_any (λ k. nat_eq k (next_call c.made)) c.fail

-- one more call was made
abbrev pub counted : Calls → Calls
counted c = record c { made = next_call c.made }

-- both are the same act
abbrev pub is_same_act : Act → Act → Bool
is_same_act act.Open act.Open = true
is_same_act act.Read act.Read = true
is_same_act act.Write act.Write = true
is_same_act act.Close act.Close = true
is_same_act _ _ = false

-- the numbers of the calls of this act that are to fail at the path
abbrev pub nths_of : List ℕ → Act → List Trip → List ℕ
nths_of path a trips = map (λ t. t.nth) (filter (λ t. is_same_act t.act a && bytes_eq t.path path) trips)

-- no call was made yet, and those that are named for the path are to fail
abbrev pub calls_at : List ℕ → List Trip → ActCalls
calls_at path trips = record {
  opens = record { fail = nths_of path act.Open trips; made = 0 };
  reads = record { fail = nths_of path act.Read trips; made = 0 };
  writes = record { fail = nths_of path act.Write trips; made = 0 };
  closes = record { fail = nths_of path act.Close trips; made = 0 };
}
