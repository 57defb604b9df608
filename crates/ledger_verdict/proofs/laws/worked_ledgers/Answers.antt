use Rattle.std.proofs.Common.{refl, true, [], ◌∷◌}
use Rattle.chunk_core.specs.declared.code.Exit.TheVariants.{Succeeded}
use Rattle.res_ledger.specs.declared.event.StreamNo.TheVariants.{Inner}
use Rattle.res_ledger.specs.declared.event.What.TheVariants.{Acquire, Close, Final}
use Rattle.res_ledger.specs.Ledger.{stamped}
use Rattle.ledger_verdict.specs.Worked.{one_row, unended}
use Rattle.ledger_verdict.proofs.Verdicts.{clean, unfinished, disordered, illegal}
use Rattle.ledger_verdict.proofs.laws.worked_ledgers.Goals as goal

pub returns : goal.returns
returns c = record {
  clean = clean one_row refl refl refl;
  unended = unfinished unended refl refl refl;
  disordered = disordered (stamped 0 ((Inner 0, Acquire 0 0) ∷ (Inner 0, Acquire 1 0) ∷ (Inner 0, Close 0 Succeeded) ∷ [])) [] (record { stamp = 3; by = Inner 0; what = Final 0 Succeeded true }) refl refl refl;
  illegal = illegal [] [] (record { stamp = 0; by = Inner 0; what = Final 0 Succeeded true }) refl refl refl;
}
