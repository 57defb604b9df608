use Rattle.std.proofs.Common.{refl, arith}
use Rattle.std.proofs.lemmas.Option.{slice_get_within}
use Rattle.res_ledger.proofs.Ledgers.{canceled_leased}
use Rattle.ledger_books.proofs.Placed.{at_among}
use Rattle.ledger_audit.proofs.order.begun.Goals as goal

pub after_cancel-requires-clause-leased : goal.after_cancel-requires-clause-leased
after_cancel-requires-clause-leased c = canceled_leased c.args.past.now c.in-Cancel.stream c.requires.legal (c.args.event.by, (c.in-Cancel.exit, (c.args.event, at_among c.args.past.now c.args.place c.args.event c.requires.stands, refl, c.in-Cancel.is)))

pub after_close-requires-clause-within : goal.after_close-requires-clause-within
after_close-requires-clause-within c = let l = slice_get_within c.args.past.now c.args.place c.args.event c.requires.stands in omega (arith, l)
