use Rattle.std.proofs.Common.{◌≡◌, cond, Some, subst}
use Rattle.std.specs.HashMap.{get}
use Rattle.ledger_books.specs.Key.{same_key}
use Rattle.ledger_books.specs.contracts.index.KeyPartialEq as derived
use Rattle.ledger_books.proofs.Comparing.{same_at}
use Rattle.ledger_books.proofs.index.Index.add.Goals as goal

pub returns : goal.returns
returns c = λ q.
    let e : derived.TheImpl.ghosts.eq ≡ same_key = λ i k r. same_at k r i in
    subst (λ f. get f c.insert.new.self q ≡ cond (f c.args.key q) (Some c.args.place) (get f c.args.self.now.at q)) e (c.in-Ok.ensures.updates.0 q)
