use Rattle.ledger_laws.proofs.Teardowns.{torn_exact, torn_once, torn_open}
use Rattle.ledger_laws.proofs.torn.teardown_is_exact.Goals as goal

pub returns-clause-exact : goal.returns-clause-exact
returns-clause-exact c = torn_exact

pub returns-clause-open : goal.returns-clause-open
returns-clause-open c = torn_open

pub returns-clause-distinct : goal.returns-clause-distinct
returns-clause-distinct c = torn_once
