use Rattle.std.proofs.Common.{refl, true, [], ◌∷◌}
use Rattle.chunk_core.specs.declared.code.Exit.TheVariants.{Succeeded}
use Rattle.res_ledger.specs.declared.event.StreamNo.TheVariants.{Outer}
use Rattle.res_ledger.specs.declared.event.What.TheVariants.{Acquire, Close, Final}
use Rattle.res_ledger.specs.Ledger.{stamped}
use Rattle.ledger_verdict.proofs.Verdicts.{clean, unfinished, disordered}
use Rattle.ledger_audit.specs.Worked.{kept, lent}
use Rattle.ledger_audit.proofs.laws.lent_rows_wait.Goals as goal

pub returns : goal.returns
returns c = record {
  waits = clean lent refl refl refl;
  kept = unfinished kept refl refl refl;
  overtaken = disordered (stamped 0 ((Outer, Acquire 0 0) ∷ (Outer, Acquire 1 0) ∷ (Outer, Acquire 2 0) ∷ (Outer, Close 0 Succeeded) ∷ [])) [] (record { stamp = 4; by = Outer; what = Final 1 Succeeded true }) refl refl refl;
}
