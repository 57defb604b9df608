-- The numbers of events of each sort.
use Rattle.std.specs.Prelude.{Bool, true, false, List, count_by}
use Rattle.res_ledger.specs.declared.event.Event.{Event}
use Rattle.res_ledger.specs.declared.event.What.{What}
use Rattle.res_ledger.specs.declared.event.What.TheVariants.{Acquire, Lease, Cancel, Close, Final}
use Rattle.gen_case.specs.declared.noted.Noted.{Noted}

abbrev pub is_an_acquire : What → Bool
is_an_acquire (Acquire r s) = true
is_an_acquire _ = false

abbrev pub is_a_lease : What → Bool
is_a_lease (Lease j s) = true
is_a_lease _ = false

abbrev pub is_a_cancel : What → Bool
is_a_cancel (Cancel j x) = true
is_a_cancel _ = false

abbrev pub is_a_close : What → Bool
is_a_close (Close s x) = true
is_a_close _ = false

abbrev pub is_a_final : What → Bool
is_a_final (Final r x ok) = true
is_a_final _ = false

-- what was noted is an Acquire, and so on
abbrev pub notes_acquire : Event → Bool
notes_acquire e = is_an_acquire e.what

abbrev pub notes_lease : Event → Bool
notes_lease e = is_a_lease e.what

abbrev pub notes_cancel : Event → Bool
notes_cancel e = is_a_cancel e.what

abbrev pub notes_close : Event → Bool
notes_close e = is_a_close e.what

abbrev pub notes_final : Event → Bool
notes_final e = is_a_final e.what

-- the number of the events of each sort but Open
abbrev pub noted_in : List Event → Noted
noted_in L = record { acquire = count_by notes_acquire L; lease = count_by notes_lease L; cancel = count_by notes_cancel L; close = count_by notes_close L; finals = count_by notes_final L }
