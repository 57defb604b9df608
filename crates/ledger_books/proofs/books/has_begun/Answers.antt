use Rattle.std.proofs.Common.{◌∙◌, ap, ◌≡◌, suc, ◌+◌, arith}
use Rattle.std.specs.Prelude.{is_some}
use Rattle.res_ledger.specs.declared.event.StreamNo.TheVariants.{Inner}
use Rattle.ledger_books.specs.Key.{place_of}
use Rattle.ledger_books.specs.declared.index.Key.TheVariants.{Begun}
use Rattle.ledger_books.proofs.Keys.{has_begun}
use Rattle.ledger_books.proofs.books.has_begun.Goals as goal

pub returns : goal.returns
returns c = let e : c.from.result + 1 ≡ suc c.args.stream = omega arith in
    has_begun c.args.index.now c.args.past.now c.requires (Inner c.args.stream) c.has.result (c.has.ensures ∙ ap (λ n. is_some (place_of c.args.index.now (Begun n))) e)
