-- What a test of streams or of exits says that passed.
use Rattle.std.proofs.Common.{◌≡◌, true, refl, ap}
use Rattle.std.proofs.lemmas.Bool.{false≢true}
use Rattle.chunk_core.proofs.Bools.{itself, number}
use Rattle.chunk_core.specs.declared.code.Exit.{Exit}
use Rattle.chunk_core.specs.declared.code.Exit.TheVariants.{Succeeded, Errored, Canceled}
use Rattle.res_ledger.specs.declared.event.StreamNo.{StreamNo}
use Rattle.res_ledger.specs.declared.event.StreamNo.TheVariants.{Outer, Inner}
use Rattle.res_ledger.specs.Streams.{same_stream}
use Rattle.res_ledger.specs.Order.{same_exit}

pub name : (j k : StreamNo) → same_stream j k ≡ true → j ≡ k
name Outer Outer h = refl
name Outer (Inner k) h = absurd (false≢true h)
name (Inner j) Outer h = absurd (false≢true h)
name (Inner j) (Inner k) h = ap Inner (number j k h)

pub named : (k : StreamNo) → same_stream k k ≡ true
named Outer = refl
named (Inner k) = itself k

pub exit_is : (x y : Exit) → same_exit x y ≡ true → x ≡ y
exit_is Succeeded Succeeded h = refl
exit_is Errored Errored h = refl
exit_is Canceled Canceled h = refl
exit_is x y h = absurd (false≢true h)

pub exit_same : (x : Exit) → same_exit x x ≡ true
exit_same Succeeded = refl
exit_same Errored = refl
exit_same Canceled = refl
