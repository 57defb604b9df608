use Rattle.std.proofs.Common.{◌<◌, arith, length, refl, sym, subst}
use Rattle.ledger_books.specs.Ends.{until_of}
use Rattle.chunk_core.specs.Lists.{IsAmong}
use Rattle.ledger_books.proofs.Untiling.{free_by_then}
use Rattle.ledger_books.proofs.books.is_free.Goals as goal

pub returns-then-until-past : goal.returns-then-until-past
returns-then-until-past c =
    let l : until_of c.args.books.now.ends c.args.row < length c.args.past.now = subst (λ z. z < length c.args.past.now) c.until.ensures c.if-until-past.true in
    ((λ h. free_by_then c.args.books.now.ends c.args.past.now c.requires.keeps.ends (omega arith) c.requires.legal c.args.at c.args.row c.args.of c.args.owner c.requires.row l), (λ f. refl))

pub returns-then-are_over : goal.returns-then-are_over
returns-then-are_over c = ((λ h. c.are_over.ensures c.if-are_over.true), (λ f. refl))

pub returns : goal.returns
returns c = ((λ h j k v. c.are_canceled.ensures.0 h j (subst (IsAmong j) (sym c.deref.ensures.value) ((c.in_ok-leases.ensures j).1 (k, v)))), (λ f. c.are_canceled.ensures.1 (λ j a. let k = (c.in_ok-leases.ensures j).0 (subst (IsAmong j) c.deref.ensures.value a) in f j k.0 k.1)))
