use Rattle.std.proofs.Common.{refl, sym, ◌∙◌, get_or}
use Rattle.std.proofs.lemmas.Bool.{false≢true}
use Rattle.chunk_core.proofs.Filters.{among_at}
use Rattle.res_ledger.specs.Ledger.{IsCanceled}
use Rattle.ledger_books.proofs.Canceling.{each_of, below_more}
use Rattle.ledger_books.proofs.leases.are_canceled.Goals as goal

pub returns-then-not-is_canceled : goal.returns-then-not-is_canceled
returns-then-not-is_canceled c = ((λ h. absurd (false≢true h)), (λ f. sym c.if-not-is_canceled.true ∙ c.is_canceled.ensures.1 (f _ (among_at c.args.streams.now c.loop-stream.stream-index _ c.loop-stream-test.true))))

pub loop-stream-preserved : goal.loop-stream-preserved
loop-stream-preserved c = below_more (λ i. IsCanceled c.args.past.now (get_or c.args.streams.now i 0)) c.loop-stream.stream-index c.loop-stream.invariant (c.is_canceled.ensures.0 c.if-not-is_canceled.false)

pub returns : goal.returns
returns c = ((λ h. each_of (IsCanceled c.args.past.now) c.args.streams.now c.loop-stream.stream-index c.loop-stream-test.false c.loop-stream.invariant), (λ h. refl))
