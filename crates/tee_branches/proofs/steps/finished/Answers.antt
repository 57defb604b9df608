-- What the pipe still gives is said, and then its end.
use Rattle.std.proofs.Common.{sym, subst, append-nil}
use Rattle.chunk_core.specs.Elements.{elements}
use Rattle.chunk_core.specs.declared.code.How.TheVariants as how
use Rattle.chunk_core.specs.declared.feed.Fed.{Fed}
use Rattle.tee_branches.specs.Stands.{HasEnded}
use Rattle.tee_branches.proofs.Finishing.{IsAnswered, answered, done, failed, finish_wants, gave}
use Rattle.tee_branches.proofs.Texts.{moved_text, none_text}
use Rattle.tee_branches.proofs.steps.finished.Goals as goal

pub returns-in-Ok-Out-clause-stands : goal.returns-in-Ok-Out-clause-stands
returns-in-Ok-Out-clause-stands g c = λ m v got said s.
    let next = c.finish.new.self in
    let e = c.in-Ok-Out.ensures in
    let first = answered g.F.Feed.stands g.F.Feed.comes c.args.number m v got said c.args.pipe next c.in-Ok-Out.field-0 e.first e.next s in
    let a = subst (λ (x : Fed). IsAnswered g.F.Feed.stands g.F.Feed.comes c.args.number m v got said c.args.pipe next x) c.in-Ok-Out.field-0-is first in
    gave g.F.Feed.stands g.F.Feed.comes c.args.number m v got said c.args.pipe s next c.in-Ok-Out.out c.with_news.result a c.with_news.ensures

pub returns-in-Ok-Fault-clause-stands : goal.returns-in-Ok-Fault-clause-stands
returns-in-Ok-Fault-clause-stands g c = λ m v got said s.
    let next = c.finish.new.self in
    let e = c.in-Ok-Fault.ensures in
    let first = answered g.F.Feed.stands g.F.Feed.comes c.args.number m v got said c.args.pipe next c.in-Ok-Fault.field-0 e.first e.next s in
    let a = subst (λ (x : Fed). IsAnswered g.F.Feed.stands g.F.Feed.comes c.args.number m v got said c.args.pipe next x) c.in-Ok-Fault.field-0-is first in
    failed g.F.Feed.stands g.F.Feed.comes c.args.number m v got said c.args.pipe s next c.in-Ok-Fault.out c.in-Ok-Fault.code c.with_news-in-Ok-Fault.result a c.with_news-in-Ok-Fault.ensures

pub returns-in-Ok-End-clause-stands : goal.returns-in-Ok-End-clause-stands
returns-in-Ok-End-clause-stands g c = λ m v got said s.
    let next = c.finish.new.self in
    let e = c.in-Ok-End.ensures in
    let first = answered g.F.Feed.stands g.F.Feed.comes c.args.number m v got said c.args.pipe next c.in-Ok-End.field-0 e.first e.next s in
    let a = subst (λ (x : Fed). IsAnswered g.F.Feed.stands g.F.Feed.comes c.args.number m v got said c.args.pipe next x) c.in-Ok-End.field-0-is first in
    subst (λ l. HasEnded c.args.number m v got l how.Done) (sym (append-nil said)) (done g.F.Feed.stands g.F.Feed.comes c.args.number m v got said c.args.pipe s next a)

pub returns-in-Err-clause-stands : goal.returns-in-Err-clause-stands
returns-in-Err-clause-stands g c = λ m v got said s. finish_wants g.F.Feed.stands g.F.Feed.comes c.args.number m v got said c.args.pipe s c.wanting.result c.wanting.ensures.stage c.wanting.ensures.message

pub returns-in-Ok-Out-clause-message : goal.returns-in-Ok-Out-clause-message
returns-in-Ok-Out-clause-message g c = moved_text c.args.number (elements c.in-Ok-Out.out) _ c.with_news.result c.with_news.ensures

pub returns-in-Ok-Fault-clause-message : goal.returns-in-Ok-Fault-clause-message
returns-in-Ok-Fault-clause-message g c = moved_text c.args.number (elements c.in-Ok-Fault.out) _ c.with_news-in-Ok-Fault.result c.with_news-in-Ok-Fault.ensures

pub returns-in-Err-clause-message : goal.returns-in-Err-clause-message
returns-in-Err-clause-message g c = none_text c.args.number c.wanting.result.message c.wanting.ensures.message
